-- The rules of To and From, opened once over the places that the code computes. Assumes nothing.
use Prim.Native.Nat.{◌+◌, ℕ}
use mathlib.Core.Bool.{◌&&◌}
use mathlib.Core.List.{List, ◌∷◌, []}
use mathlib.Core.Path.{◌∙◌, ◌≡◌, ap}
use lib.Dec.{eqb}
use lib.ListN.{drop, length}
use Rattle.octets.specs.Ascii.{ascii}
use Rattle.octets.specs.Text.{stands_at}
use Rattle.rules.specs.Address.{callee_end, callee_rule, caller_end, caller_rule, user_end}
use Rattle.rules.specs.Pieces.{piece_end, has_piece, reads, run_length, within}
use Rattle.rules.specs.declared.classes.Class.TheVariants.{Alnum, Fire, Small}

pub caller-is : (s : List ℕ) (u f : ℕ) → u ≡ user_end s → f ≡ caller_end s
    → caller_rule s ≡ (stands_at s 0 (ascii "net119:")
    && (within 1 15 Alnum s 7 u && (stands_at s u (64 ∷ []) && (within 2 15 Small s (u + 1) f && (stands_at s f (ascii ".caller") && eqb (f + 7) (length s))))))
unfolding caller_rule reads has_piece piece_end user_end caller_end
caller-is s u f p q = rw (q, p)

pub callee-is : (s : List ℕ) (f : ℕ) → f ≡ callee_end s
    → callee_rule s ≡ (stands_at s 0 (ascii "net119:fire@") && (within 2 15 Small s 12 f && (stands_at s f (ascii ".callee") && eqb (f + 7) (length s))))
unfolding callee_rule reads has_piece piece_end callee_end
callee-is s f p = rw p

-- the places that the code computes are those of the definitions
module _ (s : List ℕ) (u : ℕ) (p : u ≡ 7 + run_length Alnum (drop 7 s)) where
  pub user-end : u ≡ user_end s
  unfolding user_end piece_end
  user-end = p

  pub caller-end : (f : ℕ) → f ≡ (u + 1) + run_length Fire (drop (u + 1) s) → f ≡ caller_end s
  unfolding caller_end piece_end
  caller-end f q = q ∙ ap (λ (k : ℕ). (k + 1) + run_length Fire (drop (k + 1) s)) user-end

pub callee-end : (s : List ℕ) (f : ℕ) → f ≡ 12 + run_length Fire (drop 12 s) → f ≡ callee_end s
unfolding callee_end piece_end
callee-end s f p = p
