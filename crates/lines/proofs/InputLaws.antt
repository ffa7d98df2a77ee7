-- The steps of the splitter: what is kept of a line, and each answer of `next_line`. Assumes nothing.
use Prim.Native.Nat.{ℕ, ◌+◌, ◌-◌, ◌≤◌, ◌<◌}
use Rattle.octets.proofs.TextLaws.{before-within}
use Rattle.lines.specs.inner.Splitting.{buffer_after, first_bytes, line_end, next_line, rest_of_line}
use Rattle.lines.specs.declared.splitting.Next.TheVariants.{Buffered, Here, Pending}
use Rattle.octets.specs.Splice.{splice, written}
use Rattle.octets.specs.Text.{before}
use borrow.Author.Tests.{eq-eqb, le-ltb, lt-ltb, ne_eqb}
use lib.ListN.{drop, drop_of_length-le, length, length-append, length-drop, take}
use lib.Seq.{drop-length, length-take-le, take_all, take-append-add, take-append_seam, take-nil}
use mathlib.Core.List.{List, [], ◌++◌, append_assoc, append-nil}
use mathlib.Core.Path.{◌≡◌, ap, refl, sym, ◌∙◌}
use native.Mathlib.Omega.{arith}

-- Keeping a part.

-- no room is left
pub keep-full : (o : List ℕ) (len : ℕ) (p : List ℕ) → length o ≤ len → (length o ≡ length (first_bytes o (take len o ++ p))) × (o ≡ written o (first_bytes o (take len o ++ p)))
unfolding written
keep-full o len p h = rw (take_all len o h, take-append_seam o p) (refl, rw (drop-length o) (sym (append-nil o)))

-- a part that fits
pub keep-part : (o : List ℕ) (len : ℕ) (p : List ℕ) → len + length p ≤ length o → (len + length p ≡ length (take len o ++ p)) × (splice o len p ≡ written o (take len o ++ p))
unfolding splice written
keep-part o len p h =
    let l : length (take len o ++ p) ≡ len + length p = length-append (take len o) p ∙ rw (length-take-le len o (omega arith)) in
    (sym l, rw l (sym (append_assoc (take len o) p (drop (len + length p) o))))

pub fits : (o : List ℕ) (len : ℕ) (p : List ℕ) → len + length p ≤ length o → first_bytes o (take len o ++ p) ≡ take len o ++ p
fits o len p h = take_all (length o) (take len o ++ p) (rw (length-append, length-take-le len o (omega arith)) h)

-- as much of a part as there is room for
pub over : (o : List ℕ) (len : ℕ) (p : List ℕ) → len ≤ length o → first_bytes o (take len o ++ p) ≡ take len o ++ take (length o - len) p
over o len p h =
    let l : length (take len o) ≡ len = length-take-le len o h in
    let e : length o ≡ length (take len o) + (length o - len) = omega arith in
    ap (λ (n : ℕ). take n (take len o ++ p)) e ∙ take-append-add (take len o) p (length o - len)

-- Each answer of `next_line`, where r bytes and the buffer o' are what is kept with the part p.
module _ (o : List ℕ) (len : ℕ) (s : List ℕ) (from : ℕ) where
  -- the line's end is behind the piece
  pub beyond : (p : List ℕ) {r : ℕ} {o' : List ℕ} → length s ≤ line_end s from → p ≡ rest_of_line s from
      → (r ≡ length (first_bytes o (take len o ++ p))) × (o' ≡ written o (first_bytes o (take len o ++ p)))
      → (Pending r ≡ next_line o len s from) × (o' ≡ buffer_after o len s from)
  unfolding next_line buffer_after
  beyond p h e k = rw (le-ltb (line_end s from) (length s) h, ← e) (ap Pending k.0, k.1)

  pub in_place : {e : ℕ} → e ≡ line_end s from → e < length s → len ≡ 0 → (Here e ≡ next_line o len s from) × (o ≡ buffer_after o len s from)
  unfolding next_line buffer_after
  in_place is h z = rw (← is, lt-ltb _ _ h, eq-eqb len 0 z) (refl, refl)

  pub carried : (p : List ℕ) {e r : ℕ} {o' : List ℕ} → e ≡ line_end s from → e < length s → (len ≡ 0 → ⊥) → p ≡ rest_of_line s from
      → (r ≡ length (first_bytes o (take len o ++ p))) × (o' ≡ written o (first_bytes o (take len o ++ p)))
      → (Buffered r (e + 1) ≡ next_line o len s from) × (o' ≡ buffer_after o len s from)
  unfolding next_line buffer_after
  carried p {e} is h ne q k = rw (← is, lt-ltb _ _ h, ne_eqb len 0 ne, ← q) (ap (λ (n : ℕ). Buffered n (e + 1)) k.0, k.1)

-- the part up to the line's end, as the code cuts it
pub part-to : (s : List ℕ) (from e : ℕ) → e ≡ line_end s from → take (e - from) (drop from s) ≡ rest_of_line s from
part-to s from e is = let z : e - from ≡ before 10 (drop from s) = omega arith in rw z

pub part-rest : (s : List ℕ) (from : ℕ) → from ≤ length s → length s ≤ line_end s from → take (length s - from) (drop from s) ≡ rest_of_line s from
part-rest s from h k = let z : length s - from ≡ before 10 (drop from s) = omega (arith, before-within 10 (drop from s), length-drop from s) in rw z

pub part_none : (s : List ℕ) (from : ℕ) → length s ≤ from → ([] ≡ rest_of_line s from) × (length s ≤ line_end s from)
part_none s from h = (rw (drop_of_length-le s h) (sym (take-nil (before 10 []))), omega arith)
