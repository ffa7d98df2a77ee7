-- A part of a buffer that was written and put back, hex by its length, and texts that are one. Assumes nothing.
use Prim.Native.Nat.{ℕ, ◌+◌, ◌-◌, ◌*◌, ◌≤◌, ◌<◌}
use Rattle.hex_text.proofs.HexLaws.{length-encoded}
use Rattle.hex_text.specs.Digits.{encoded}
use Rattle.octets.proofs.Chain.{splice-two}
use Rattle.octets.proofs.DecimalLaws.{shown-length}
use Rattle.octets.specs.Ascii.{ascii}
use Rattle.octets.specs.Decimal.{shown}
use Rattle.octets.specs.Splice.{splice, written}
use Rattle.showing.specs.Shown.{hexed}
use borrow.Author.Tests.{eq-eqb, ne_eqb}
use lib.ListN.{drop, drop_of_length-le, length, length-append, length-drop, take}
use lib.Seq.{drop-drop, take_all}
use mathlib.Core.List.{List, [], ◌++◌, append-nil}
use mathlib.Core.Path.{◌≡◌, ◌∙◌}
use native.Mathlib.Decide.{dec_lt}
use native.Mathlib.Omega.{arith}

-- two parts, one behind the other
pub put_two : (o : List ℕ) (at : ℕ) (a b : List ℕ) {m r : ℕ} {o' o'' : List ℕ} → at + length a ≤ length o → (m ≡ at + length a) × (o' ≡ splice o at a)
    → (r ≡ m + length b) × (o'' ≡ splice o' m b) → (r ≡ at + length (a ++ b)) × (o'' ≡ splice o at (a ++ b))
put_two o at a b h p q =
    (rw length-append (omega (arith, p.0, q.0)), q.1 ∙ rw (p.1, p.0) (splice-two o at a b h))

-- the rest of a buffer from a place on, lent and written at its front
pub behind : (o : List ℕ) (at : ℕ) (w : List ℕ) {p : List ℕ} → p ≡ written (take (length o - at) (drop at o)) w
    → take at o ++ (p ++ drop (length o - at) (drop at o)) ≡ splice o at w
unfolding splice written
behind o at w e =
    let l : length (drop at o) ≤ length o - at = rw length-drop (omega arith) in
    let t : take (length o - at) (drop at o) ≡ drop at o = take_all (length o - at) (drop at o) l in
    let d : drop (length o - at) (drop at o) ≡ [] = drop_of_length-le (drop at o) l in
    rw (e, t, d, append-nil, drop-drop)

-- bytes in hex
pub hex-none : (s : List ℕ) → length s ≡ 0 → ascii "-" ≡ hexed s
unfolding hexed
hex-none s e = simp (eq-eqb (length s) 0 e)

pub hex-some : (s : List ℕ) → (length s ≡ 0 → ⊥) → encoded s ≡ hexed s
unfolding hexed
hex-some s n = simp (ne_eqb (length s) 0 n)

pub hexed-length : (s : List ℕ) → length (hexed s) ≤ 2 * length s + 1
hexed-length s = go (dec_lt 0 (length s))
  where
    go : Dec (0 < length s) → length (hexed s) ≤ 2 * length s + 1
    go (yes a) = rw (← hex-some s (λ e. omega arith), length-encoded s) (omega arith)
    go (no a) = rw (← hex-none s (omega arith)) (omega arith)

-- a number of 64 bits and what follows it
pub number-length : (n : ℕ) (s : List ℕ) → n < 18446744073709551616 → length (shown n ++ s) ≤ 20 + length s
number-length n s h = rw length-append (let k = shown-length n h in omega arith)

-- what was written is another name of the same text
pub says : (o : List ℕ) {t t' : List ℕ} {n : ℕ} {o' : List ℕ} → t ≡ t' → (n ≡ length t) × (o' ≡ written o t) → (n ≡ length t') × (o' ≡ written o t')
says o e w = rw (← e) w
