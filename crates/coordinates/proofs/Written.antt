-- How a coordinate is written, digit by digit; `coordinate_of` answers z exactly where z is written so. Assumes nothing.
use Prim.Native.Char.{code}
use Prim.Native.Nat.{ℕ, zero, suc, ◌+◌, ◌*◌, ◌≤◌, ◌<◌}
use Rattle.coordinates.proofs.CoordinateLaws.{some_by}
use Rattle.coordinates.specs.Coordinate.{coordinate_of, decimals, has_minus, is_spelled, millionths_of, signed, to_six, unsigned, whole}
use Rattle.octets.proofs.ClassLaws.{digit_in, digits_in, in_digits}
use Rattle.octets.proofs.TestLaws.{Either, and_left, and_right, either}
use Rattle.octets.proofs.TextLaws.{before-within}
use Rattle.octets.specs.Class.{all, digits_rule, is_digit}
use Rattle.octets.specs.Decimal.{decimal_of}
use Rattle.octets.specs.Text.{before, here}
use Rattle.std.proofs.Common.{Some, unsigned_abs}
use borrow.Author.Tests.{eq-eqb, eqb-true, le-leb, leb-true, ne_eqb}
use lib.Dec.{eqb}
use lib.IntN.{ℤ}
use lib.ListN.{drop, drop_of_length-le, length, length-append, take}
use lib.Seq.{drop-append-add, take-append_seam, take_all}
use mathlib.Core.Bool.{Bool, true, false, ◌||◌, cond}
use mathlib.Core.List.{List, [], ◌∷◌, ◌++◌, append-nil}
use mathlib.Core.Logic.{inl, inr}
use mathlib.Core.Path.{◌≡◌, refl, sym, ap, ◌∙◌}
use native.Mathlib.Decide.{dec_lt}
use native.Mathlib.Omega.{arith}

-- a minus, or nothing
abbrev pub sign : Bool → List ℕ
sign minus = cond minus (code "-" ∷ []) []

-- a point and decimals, or nothing where there are none
abbrev pub fraction : List ℕ → List ℕ
fraction [] = []
fraction (x ∷ f) = code "." ∷ x ∷ f

-- The text v is a minus or nothing, one to three digits w, and nothing, or a point and one to six digits f. The number z of millionths is as large as
-- w, f and zeros to six decimals are as one decimal number, below zero where there is a minus, and within so many degrees.
pub record Written (degrees : ℕ) (v : List ℕ) (z : ℤ) : Type 0 where
  pub minus : Bool
  pub w : List ℕ
  pub f : List ℕ
  pub text : v ≡ sign minus ++ (w ++ fraction f)
  pub whole : digits_rule 1 3 w ≡ true
  pub decimals : digits_rule 0 6 f ≡ true
  pub size : unsigned_abs z ≡ decimal_of (w ++ to_six f)
  pub side : z ≡ signed minus (unsigned_abs z)
  pub within : unsigned_abs z ≤ degrees * 1000000

-- From the answer to what is written.

-- a text is its sign and the rest
sign_apart : (v : List ℕ) → v ≡ sign (has_minus v) ++ unsigned v
unfolding has_minus unsigned
sign_apart [] = refl
sign_apart (x ∷ v) = by (either (eqb x 45))
  where
    by : Either (eqb x 45) → x ∷ v ≡ cond (eqb x 45) (45 ∷ []) [] ++ cond (eqb x 45) v (x ∷ v)
    by (inl e) = rw (e, eqb-true x 45 e)
    by (inr e) = rw e

-- what has a point is what stands before it, the point, and what stands behind it
point_apart : (b : List ℕ) → before 46 b < length b → b ≡ take (before 46 b) b ++ (46 ∷ drop (before 46 b + 1) b)
unfolding before
point_apart [] h = absurd (omega arith)
point_apart (x ∷ b) h = by (either (eqb x 46)) (point_apart b)
  where
    by : Either (eqb x 46) → (before 46 b < length b → b ≡ take (before 46 b) b ++ (46 ∷ drop (before 46 b + 1) b))
        → x ∷ b ≡ take (here (eqb x 46) (before 46 b)) (x ∷ b) ++ (46 ∷ drop (here (eqb x 46) (before 46 b) + 1) (x ∷ b))
    by (inl e) r = rw (e, eqb-true x 46 e)
    by (inr e) r =
        let k = rw e at h in
        let z : suc (before 46 b) + 1 ≡ suc (before 46 b + 1) = omega arith in
        rw (e, z) (ap (λ (s : List ℕ). x ∷ s) (r (omega arith)))

some-fraction : (f : List ℕ) → 1 ≤ length f → fraction f ≡ 46 ∷ f
some-fraction [] h = absurd (omega arith)
some-fraction (x ∷ f) h = refl

spelled_apart : (b : List ℕ) → is_spelled b ≡ true → (b ≡ whole b ++ fraction (decimals b)) × (digits_rule 0 6 (decimals b) ≡ true)
unfolding is_spelled whole decimals all
spelled_apart b e = by (dec_lt (before 46 b) (length b)) (and_right (digits_rule 1 3 (whole b)) _ e)
  where
    by : Dec (before 46 b < length b) → (eqb (before 46 b) (length b) || digits_rule 1 6 (decimals b)) ≡ true
        → (b ≡ whole b ++ fraction (decimals b)) × (digits_rule 0 6 (decimals b) ≡ true)
    by (yes h) g =
        let d : digits_rule 1 6 (decimals b) ≡ true = rw (ne_eqb (before 46 b) (length b) (omega arith)) at g in
        let n = digits_in 1 6 (decimals b) d in
        (point_apart b h ∙ rw (some-fraction (decimals b) n.0), in_digits 0 6 (decimals b) (omega arith) n.1 n.2)
    by (no h) g =
        let z : before 46 b ≡ length b = omega (arith, before-within 46 b) in
        let d : decimals b ≡ [] = rw z (drop_of_length-le b (omega arith)) in
        let w : whole b ≡ b = rw z (take_all (length b) b (omega arith)) in
        (rw (d, w, append-nil), rw d (in_digits 0 6 [] (omega arith) (omega arith) refl))

size_of : (minus : Bool) (m : ℕ) → unsigned_abs (signed minus m) ≡ m
size_of true zero = refl
size_of true (suc m) = refl
size_of false m = refl

pub coordinate-written : (degrees : ℕ) (v : List ℕ) (z : ℤ) → coordinate_of degrees v ≡ Some z → Written degrees v z
unfolding coordinate_of millionths_of is_spelled
coordinate-written degrees v z e =
    let b : List ℕ = unsigned v in
    let m : ℕ = millionths_of b in
    let p = some_by _ _ _ (sym e) in
    let s = and_left (is_spelled b) _ p.0 in
    let a = spelled_apart b s in
    let n : unsigned_abs z ≡ m = rw p.1 (size_of (has_minus v) m) in
    record {
      minus = has_minus v;
      w = whole b;
      f = decimals b;
      text = sign_apart v ∙ ap (λ (s : List ℕ). sign (has_minus v) ++ s) a.0;
      whole = and_left (digits_rule 1 3 (whole b)) _ s;
      decimals = a.1;
      size = n;
      side = rw n p.1;
      within = rw n (leb-true m (degrees * 1000000) (and_right (is_spelled b) _ p.0));
    }

-- From what is written to the answer.

point_behind : (w f : List ℕ) → all is_digit w ≡ true → before 46 (w ++ fraction f) ≡ length w
unfolding before all
point_behind [] [] e = refl
point_behind [] (x ∷ f) e = refl
point_behind (x ∷ w) f e =
    let d = digit_in x (and_left (is_digit x) (all is_digit w) e) in
    rw (ne_eqb x 46 (λ z. omega arith), point_behind w f (and_right (is_digit x) (all is_digit w) e))

behind-fraction : (f : List ℕ) → drop 1 (fraction f) ≡ f
behind-fraction [] = refl
behind-fraction (x ∷ f) = refl

-- digits, and what is written behind them
module _ (w f : List ℕ) (digits : all is_digit w ≡ true) where
  whole_written : whole (w ++ fraction f) ≡ w
  unfolding whole
  whole_written = rw (point_behind w f digits) (take-append_seam w (fraction f))

  decimals_written : decimals (w ++ fraction f) ≡ f
  unfolding decimals
  decimals_written = rw (point_behind w f digits) (drop-append-add w (fraction f) 1 ∙ behind-fraction f)

  -- the millionths are the digits, the decimals and zeros to six, one after the other, as one decimal number
  pub millionths-written : millionths_of (w ++ fraction f) ≡ decimal_of (w ++ to_six f)
  unfolding millionths_of
  millionths-written = rw (whole_written, decimals_written)

-- nothing, or decimals
one_more : (w f : List ℕ) → digits_rule 0 6 f ≡ true → (eqb (length w) (length (w ++ fraction f)) || digits_rule 1 6 f) ≡ true
one_more w [] e = rw (append-nil, eq-eqb (length w) (length w) refl)
one_more w (x ∷ f) e =
    let n = digits_in 0 6 (x ∷ f) e in
    let l : length (w ++ fraction (x ∷ f)) ≡ length w + length (fraction (x ∷ f)) = length-append w (fraction (x ∷ f)) in
    rw (ne_eqb (length w) (length (w ++ fraction (x ∷ f))) (λ z. omega arith)) (in_digits 1 6 (x ∷ f) (omega arith) n.1 n.2)

spelled_written : (w f : List ℕ) → digits_rule 1 3 w ≡ true → digits_rule 0 6 f ≡ true → is_spelled (w ++ fraction f) ≡ true
unfolding is_spelled
spelled_written w f e g =
    let d = (digits_in 1 3 w e).2 in
    rw (whole_written w f d, e, decimals_written w f d, point_behind w f d) (one_more w f g)

-- no digit is a minus
minus_written : (minus : Bool) (w s : List ℕ) → digits_rule 1 3 w ≡ true → (has_minus (sign minus ++ (w ++ s)) ≡ minus) × (unsigned (sign minus ++ (w ++ s)) ≡ w ++ s)
unfolding has_minus unsigned all
minus_written minus [] s e = absurd (omega (arith, (digits_in 1 3 [] e).0))
minus_written true (x ∷ w) s e = (refl, refl)
minus_written false (x ∷ w) s e =
    let d = digit_in x (and_left (is_digit x) (all is_digit w) (digits_in 1 3 (x ∷ w) e).2) in
    let n : eqb x 45 ≡ false = ne_eqb x 45 (λ z. omega arith) in
    (n, rw n)

pub written-coordinate : (degrees : ℕ) (v : List ℕ) (z : ℤ) → Written degrees v z → coordinate_of degrees v ≡ Some z
unfolding coordinate_of
written-coordinate degrees v z r =
    let g = minus_written r.minus r.w (fraction r.f) r.whole in
    let s = spelled_written r.w r.f r.whole r.decimals in
    let m = millionths-written r.w r.f (digits_in 1 3 r.w r.whole).2 in
    rw (r.text, g.0, g.1, s, m, ← r.size, le-leb (unsigned_abs z) (degrees * 1000000) r.within, ← r.side)
