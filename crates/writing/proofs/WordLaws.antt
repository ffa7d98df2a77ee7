-- The status texts are plain, and each keeps the rule of Status with its own code; a plain text may stand between quotes. Assumes nothing.
use Prim.Native.Nat.{ℕ, zero, suc, ◌<◌}
use Rattle.frame.proofs.Written.{plainly}
use Rattle.octets.proofs.TestLaws.{and_parts}
use Rattle.octets.specs.Class.{all, among, is_digit}
use Rattle.octets.specs.Text.{same, stands_at}
use Rattle.rules.proofs.PlainLaws.{are_plain, is_plain, plain_byte, word_at}
use Rattle.rules.specs.Pieces as pieces
use Rattle.rules.specs.Pieces.{digits, decimal_at, reads}
use Rattle.rules.specs.Status.{codes, texts, index_in, listed, status_text, status_rule, status_of}
use Rattle.std.specs.Prelude.{Some}
use borrow.Author.Tests.{eqb-true, le-ltb, ltb-true}
use lib.Dec.{eqb}
use lib.ListN.{length, get_or}
use mathlib.Core.Bool.{Bool, true, false, ◌&&◌, cond}
use mathlib.Core.List.{List, [], ◌∷◌}
use mathlib.Core.Path.{◌≡◌, refl, ap, ◌∙◌}
use native.Mathlib.Omega.{arith}

pub plain-plainly : (s : List ℕ) → all is_plain s ≡ true → plainly s ≡ true
unfolding all plainly
plain-plainly [] e = refl
plain-plainly (b ∷ s) e =
    let p = and_parts (is_plain b) (all is_plain s) e in
    let q = plain_byte b p.0 in
    rw (q.quote, q.slash, le-ltb b 32 q.low) (plain-plainly s p.1)

-- The status texts, by tests over their table.

pub status-plain : (code : ℕ) → all is_plain (status_text code) ≡ true
unfolding status_text are_plain all is_plain
status-plain code = (and_parts (all is_plain (get_or texts (index_in codes code) [])) _ (word_at texts refl (index_in codes code))).0

-- the text of the i-th code keeps its rule, with that code
right_at : List ℕ → ℕ → Bool
right_at x c = status_rule x && eqb (decimal_at 3 x 0) c

unfoldable right_all : List (List ℕ) → List ℕ → Bool
right_all [] cs = true
right_all (x ∷ xs) [] = false
right_all (x ∷ xs) (c ∷ cs) = right_at x c && right_all xs cs

right-at : (xs : List (List ℕ)) (cs : List ℕ) (i : ℕ) → right_all xs cs ≡ true → i < length xs → right_at (get_or xs i []) (get_or cs i 0) ≡ true
unfolding right_all
right-at [] cs i e h = absurd (omega arith)
right-at (x ∷ xs) [] i e h = absurd (let z : ◌≡◌ {A = ℕ} 0 1 = cc in omega arith)
right-at (x ∷ xs) (c ∷ cs) zero e h = (and_parts (right_at x c) (right_all xs cs) e).0
right-at (x ∷ xs) (c ∷ cs) (suc i) e h = right-at xs cs i (and_parts (right_at x c) (right_all xs cs) e).1 (omega arith)

all_right : right_all texts codes ≡ true
unfolding right_all right_at status_rule reads pieces.has_piece pieces.piece_end digits decimal_at stands_at same among is_digit
all_right = refl

index_is : (cs : List ℕ) (c : ℕ) → index_in cs c < length cs → get_or cs (index_in cs c) 0 ≡ c
unfolding index_in
index_is [] c h = absurd (omega arith)
index_is (x ∷ cs) c h = by (eqb x c) refl (λ g. index_is cs c g) h
  where
    by : (b : Bool) → eqb x c ≡ b → (index_in cs c < length cs → get_or cs (index_in cs c) 0 ≡ c) → cond b zero (suc (index_in cs c)) < suc (length cs)
        → get_or (x ∷ cs) (cond b zero (suc (index_in cs c))) 0 ≡ c
    by true e f h = eqb-true x c e
    by false e f h = f (omega arith)

status-right : (code : ℕ) → listed code ≡ true → (status_rule (status_text code) ≡ true) × (decimal_at 3 (status_text code) 0 ≡ code)
unfolding status_text listed right_at
status-right code e =
    let h = ltb-true (index_in codes code) 14 e in
    let r = right-at texts codes (index_in codes code) all_right h in
    let p = and_parts (status_rule (get_or texts (index_in codes code) [])) (eqb (decimal_at 3 (get_or texts (index_in codes code) []) 0) (get_or codes (index_in codes code) 0))
    r in
    (p.0, eqb-true _ _ p.1 ∙ index_is codes code h)

pub status-kept : (code : ℕ) → listed code ≡ true → status_rule (status_text code) ≡ true
status-kept code e = (status-right code e).0

pub status-code : (code : ℕ) → listed code ≡ true → status_of (status_text code) ≡ Some code
unfolding status_of
status-code code e = rw (status-right code e).0 (ap Some (status-right code e).1)
