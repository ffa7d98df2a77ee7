-- Each answer of `blank`, and the header's length. Assumes nothing.
use Prim.Native.Nat.{ℕ, ◌+◌, ◌-◌, ◌*◌, ◌≤◌, ◌<◌}
use Rattle.octets.proofs.ClassLaws.{among-low, among-high, in_among}
use Rattle.octets.proofs.NumberLaws.{length-bytes_of}
use Rattle.octets.specs.Splice.{splice}
use Rattle.octets.proofs.Chain.{splice-two}
use Rattle.table.proofs.SpliceLaws.{splice-whole}
use Rattle.std.specs.Prelude.{Ok, Err}
use Rattle.table.specs.Blank.{Made, blank_fits, blank_of, blank_answer, blank_after}
use Rattle.table.specs.Image.{header_of}
use borrow.Author.Tests.{eq-eqb, ne_eqb}
use lib.ListN.{length, replicate, length-append, length-replicate}
use mathlib.Core.Bool.{true, false}
use mathlib.Core.List.{List, ◌++◌}
use mathlib.Core.Path.{◌≡◌, sym, ap, ◌∙◌}
use native.Mathlib.Omega.{arith}

pub length_header : (count : ℕ) → length (header_of count) ≡ 16
unfolding header_of
length_header count = simp (length-append, length-bytes_of)

abbrev done : Made
done = Ok tt

abbrev misfit : Made
misfit = Err record {}

module _ (out : List ℕ) (count : ℕ) where
  refused : blank_fits count (length out) ≡ false → (misfit ≡ blank_answer out count) × (out ≡ blank_after out count)
  refused e = (rw e, rw e)

  pub too_few : count < 1 → (misfit ≡ blank_answer out count) × (out ≡ blank_after out count)
  unfolding blank_fits
  too_few h = refused (rw (among-low 1 255 count h))

  module _ (low : 1 ≤ count) where
    pub too_many : 255 < count → (misfit ≡ blank_answer out count) × (out ≡ blank_after out count)
    unfolding blank_fits
    too_many h = refused (rw (among-high 1 255 count low h))

    module _ (high : count ≤ 255) where
      pub wrong-length : (length out ≡ 16 + 160 * count → ⊥) → (misfit ≡ blank_answer out count) × (out ≡ blank_after out count)
      unfolding blank_fits
      wrong-length ne = refused (rw (in_among 1 255 count low high, ne_eqb (length out) (16 + 160 * count) ne))

      fits : length out ≡ 16 + 160 * count → blank_fits count (length out) ≡ true
      unfolding blank_fits
      fits l = rw (in_among 1 255 count low high, eq-eqb (length out) (16 + 160 * count) l)

      -- the header, then 00 to the end
      written : {h a b : List ℕ} → length out ≡ 16 + 160 * count → h ≡ header_of count → a ≡ splice out 0 h
          → b ≡ splice a 16 (replicate (16 + 160 * count - 16) 0) → b ≡ blank_of count
      unfolding blank_of
      written {h} {a} {b} l p q r =
          let w : List ℕ = header_of count in
          let z : List ℕ = replicate (160 * count) 0 in
          let n : length w ≡ 16 = length_header count in
          let m : 16 + 160 * count - 16 ≡ 160 * count = omega arith in
          let k : 16 ≡ 0 + length w = omega arith in
          let v : length (w ++ z) ≡ length out = rw (length-append, n, length-replicate {A = ℕ} (160 * count) 0) (sym l) in
          r ∙ rw (m, q, p) (ap (λ (i : ℕ). splice (splice out 0 w) i z) k ∙ splice-two out 0 w z (omega arith) ∙ splice-whole out (w ++ z)
          (sym v))

      pub made : {h a b : List ℕ} → length out ≡ 16 + 160 * count → h ≡ header_of count → a ≡ splice out 0 h
          → b ≡ splice a 16 (replicate (16 + 160 * count - 16) 0) → (done ≡ blank_answer out count) × (b ≡ blank_after out count)
      made l p q r = (rw (fits l), rw (fits l) (written l p q r))
