-- The table of a type row by row, as the code goes through it. Assumes nothing.
use Prim.Native.Nat.{ℕ, ◌+◌, ◌≤◌, ◌<◌}
use Rattle.octets.specs.Class.{all}
use Rattle.octets.specs.Text.{same}
use Rattle.particulars.specs.Types.{name_of, names_of, row_of, rows_of}
use Rattle.particulars.specs.declared.types.Entry.{Entry}
use Rattle.particulars.specs.declared.types.Kind.TheVariants.{CallerLocation, CallerInformation, PersonalInformation, HomeLocation, EmergencyContact, RegionInformation}
use Rattle.particulars.specs.declared.types.Kind.TheVariants.{LiveLocation}
use Rattle.particulars.specs.declared.types.Kind.{Kind}
use Rattle.rules.proofs.PlainLaws.{are_plain, is_plain}
use Rattle.rules.specs.Pieces.{word_number_from}
use Rattle.std.proofs.Math.Seq.{drop-cons}
use Rattle.std.proofs.lemmas.List.{drop-map}
use Rattle.std.specs.Prelude.{map}
use lib.ListN.{length, get_or, drop, drop_of_length-le}
use mathlib.Core.Bool.{true, false}
use mathlib.Core.List.{List, [], ◌∷◌}
use mathlib.Core.Path.{◌≡◌, ap, refl, sym, ◌∙◌}
use native.Mathlib.Numerals.{add-one}

-- the names are plain, each list by one test
pub names-plain : (t : Kind) → are_plain (names_of t) ≡ true
unfolding are_plain all is_plain rows_of
names-plain CallerLocation = refl
names-plain CallerInformation = refl
names-plain PersonalInformation = refl
names-plain HomeLocation = refl
names-plain EmergencyContact = refl
names-plain RegionInformation = refl
names-plain LiveLocation = refl

module _ {A B : Type 0} (f : A → B) (l : List A) (k : ℕ) where
  mapped : (d : A) → k < length l → drop k (map f l) ≡ f (get_or l k d) ∷ drop (k + 1) (map f l)
  mapped d h = drop-map f k l ∙ ap (map f) (drop-cons l k d h) ∙ rw (drop-map f (k + 1) l, add-one k) refl

  mapped-end : length l ≤ k → drop k (map f l) ≡ []
  mapped-end h = drop-map f k l ∙ ap (map f) (drop_of_length-le l {i = k} h)

-- of a type's table es the rows and the names from the k-th on
module _ (t : Kind) (es : List Entry) (is : map row_of es ≡ rows_of t) (k : ℕ) where
  pub row-here : (d : Entry) → k < length es → drop k (rows_of t) ≡ row_of (get_or es k d) ∷ drop (k + 1) (rows_of t)
  row-here d h = rw (← is) (mapped row_of es k d h)

  pub rows-end : length es ≤ k → drop k (rows_of t) ≡ []
  rows-end h = rw (← is) (mapped-end row_of es k h)

  name-here : (d : Entry) → k < length es → drop k (names_of t) ≡ (get_or es k d).name.now ∷ drop (k + 1) (names_of t)
  name-here d h = drop-map name_of k (rows_of t) ∙ ap (map name_of) (row-here d h)
      ∙ ap (λ (l : List (List ℕ)). (get_or es k d).name.now ∷ l) (sym (drop-map name_of (k + 1) (rows_of t)))

  names-end : length es ≤ k → drop k (names_of t) ≡ []
  names-end h = drop-map name_of k (rows_of t) ∙ ap (map name_of) (rows-end h)

  -- a text's number is sought from the k-th name on
  module _ (x : List ℕ) {n : ℕ} (from : n ≡ word_number_from (drop k (names_of t)) (k + 1) x) where
    pub number-here : (d : Entry) → k < length es → same x (get_or es k d).name.now ≡ true → k + 1 ≡ n
    unfolding word_number_from
    number-here d h e = sym (from ∙ ap (λ (l : List (List ℕ)). word_number_from l (k + 1) x) (name-here d h) ∙ rw e)

    pub number-later : (d : Entry) → k < length es → same x (get_or es k d).name.now ≡ false → n ≡ word_number_from (drop (k + 1) (names_of t)) (k + 1 + 1) x
    unfolding word_number_from
    number-later d h e = from ∙ ap (λ (l : List (List ℕ)). word_number_from l (k + 1) x) (name-here d h) ∙ rw e

    pub number-none : length es ≤ k → 0 ≡ n
    unfolding word_number_from
    number-none h = sym (from ∙ ap (λ (l : List (List ℕ)). word_number_from l (k + 1) x) (names-end h))
