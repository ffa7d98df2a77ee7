-- A class at every byte of a text, one byte at a time. Assumes nothing.
use Prim.Native.Nat.{ℕ, ◌≤◌, ◌<◌, ◌+◌}
use Rattle.octets.proofs.TestLaws.{and_parts}
use Rattle.octets.specs.Class.{all, among, digits_rule, is_alnum, is_digit, is_letter, is_lower, is_upper}
use Rattle.std.specs.List.{list_all}
use borrow.Author.Tests.{le-leb, lt-leb, leb-true}
use lib.Dec.{leb}
use lib.ListN.{length, drop, get_or, drop_of_length-le}
use lib.Seq.{drop-cons}
use mathlib.Core.Bool.{Bool, true, false, ◌&&◌, ◌||◌, and_assoc, or_assoc, or_comm}
use mathlib.Core.List.{List, [], ◌∷◌, ◌++◌}
use mathlib.Core.Path.{◌≡◌, ap, refl, sym}
use native.Mathlib.Numerals.{add-one}

module _ (f : ℕ → Bool) (s : List ℕ) (i : ℕ) where
  pub all_more : i < length s → f (get_or s i 0) ≡ true → all f (drop i s) ≡ all f (drop (i + 1) s)
  unfolding all
  all_more h e = rw (add-one, drop-cons s i 0, e)

  pub all-stops : i < length s → f (get_or s i 0) ≡ false → all f (drop i s) ≡ false
  unfolding all
  all-stops h e = rw (drop-cons s i 0, e)

  pub all-ends : length s ≤ i → all f (drop i s) ≡ true
  unfolding all
  all-ends h = rw (drop_of_length-le s h)

-- what the tests of a range mean
pub among_in : (lo hi b : ℕ) → among lo hi b ≡ true → (lo ≤ b) × (b ≤ hi)
unfolding among
among_in lo hi b e =
    let p = and_parts (leb lo b) (leb b hi) e in
    (leb-true lo b p.0, leb-true b hi p.1)

pub in_among : (lo hi b : ℕ) → lo ≤ b → b ≤ hi → among lo hi b ≡ true
unfolding among
in_among lo hi b h k = simp (le-leb lo b h, le-leb b hi k)

pub among-low : (lo hi b : ℕ) → b < lo → among lo hi b ≡ false
unfolding among
among-low lo hi b h = simp (lt-leb lo b h)

pub among-high : (lo hi b : ℕ) → lo ≤ b → hi < b → among lo hi b ≡ false
unfolding among
among-high lo hi b h k = simp (le-leb lo b h, lt-leb b hi k)

-- digits and letters, in the library's order
pub alnum_of : (b : ℕ) {t : Bool} → t ≡ ((among 48 57 b || among 65 90 b) || among 97 122 b) → t ≡ is_alnum b
unfolding is_alnum is_digit is_letter is_lower is_upper
alnum_of b e = rw (e, or_assoc (among 48 57 b) (among 65 90 b) (among 97 122 b)) (ap (λ t. among 48 57 b || t) (or_comm (among 65 90 b) (among 97 122 b)))

pub digit_in : (b : ℕ) → is_digit b ≡ true → (48 ≤ b) × (b ≤ 57)
unfolding is_digit
digit_in b e = among_in 48 57 b e

-- what the library's `all` answers
pub every : (f : ℕ → Bool) (s : List ℕ) → list_all f s ≡ all f s
unfolding all
every f [] = refl
every f (x ∷ s) = rw (every f s)

pub all_append : (f : ℕ → Bool) (s t : List ℕ) → all f (s ++ t) ≡ (all f s && all f t)
unfolding all
all_append f [] t = refl
all_append f (x ∷ s) t = rw (all_append f s t) (sym (and_assoc (f x) (all f s) (all f t)))

-- what the test of lo to hi digits means
module _ (lo hi : ℕ) (s : List ℕ) where
  pub digits_in : digits_rule lo hi s ≡ true → (lo ≤ length s) × (length s ≤ hi) × (all is_digit s ≡ true)
  unfolding digits_rule
  digits_in e =
      let p = and_parts (among lo hi (length s)) (all is_digit s) e in
      let n = among_in lo hi (length s) p.0 in
      (n.0, n.1, p.1)

  pub in_digits : lo ≤ length s → length s ≤ hi → all is_digit s ≡ true → digits_rule lo hi s ≡ true
  unfolding digits_rule
  in_digits h k e = rw (in_among lo hi (length s) h k, e)
