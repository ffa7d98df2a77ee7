-- How many positions an accepted message has at most: one a byte of the longest message, and one. Assumes nothing.
use Prim.Native.Nat.{ℕ, zero, suc, ◌+◌, ◌-◌, ◌≤◌}
use Rattle.json_text.specs.Places.{behind, bytes, elements, elements_from, follows, more, part, past}
use Rattle.message.proofs.AcceptedRows.{read_short}
use Rattle.message.specs.Reading.{reading}
use Rattle.message.specs.declared.facts.Message.{Message}
use Rattle.positions.proofs.MessageLaws.{of-invite, of-live, of-none}
use Rattle.positions.proofs.ObjectLaws.{count-is}
use Rattle.positions.specs.Positions.{field_bytes, field_place, is_live, is_request, positions_of}
use Rattle.positions.specs.declared.objects.Position.{Position}
use Rattle.std.specs.Prelude.{Ok}
use lib.Dec.{eqb}
use lib.ListN.{drop, get_or, length, length-drop, length-take}
use mathlib.Core.Bool.{Bool, true, false, cond}
use mathlib.Core.List.{List, []}
use mathlib.Core.Path.{◌≡◌, ap, refl}
use native.Mathlib.Omega.{arith}

few-from : (n : ℕ) (s : List ℕ) (a : ℕ) → length (elements_from n s a) ≤ n
unfolding elements_from more
few-from zero s a = omega arith
few-from (suc n) s a = by (eqb (get_or s (follows s (past s a)) 0) 44) (few-from n s (follows s (past s a) + 1))
  where
    by : (b : Bool) → length (elements_from n s (follows s (past s a) + 1)) ≤ n → suc (length (cond b (elements_from n s (follows s (past s a) + 1)) [])) ≤ suc n
    by true h = omega arith
    by false h = omega arith

few-elements : (v : List ℕ) → length (elements v 0) ≤ length v
unfolding elements
few-elements v = by (eqb (get_or v (past v 1) 0) 93)
  where
    by : (b : Bool) → length (cond b [] (elements_from (length v) v 1)) ≤ length v
    by true = omega arith
    by false = few-from (length v) v 1

-- a value is no longer than the text
bytes-short : (s : List ℕ) (p : ℕ) → length (bytes s p) ≤ length s
unfolding part
bytes-short s p = rw (length-take (behind s p - p) (drop p s), length-drop p s) (omega arith)

module _ (s : List ℕ) (m : Message) where
  by_live : (b : Bool) → is_request 1 m ≡ false → is_live s m ≡ b → length (positions_of s m) ≤ length s + 1
  by_live true e f = omega (arith, ap (λ (l : List Position). length l) (of-live s m e f))
  by_live false e f = omega (arith, ap (λ (l : List Position). length l) (of-none s m e f))

  by_kind : (b : Bool) → is_request 1 m ≡ b → length (positions_of s m) ≤ length s + 1
  by_kind true e =
      let v = field_bytes s 21 in
      omega (arith, ap (λ (l : List Position). length l) (of-invite s m e), count-is v, few-elements v, bytes-short s (field_place s 21))
  by_kind false e = by_live (is_live s m) e refl

pub few-positions : (c : ℕ) (s : List ℕ) (m : Message) → reading c s ≡ Ok m → length (positions_of s m) ≤ 32769
few-positions c s m e = let z = by_kind s m (is_request 1 m) refl in omega (arith, z, read_short c s m e)
