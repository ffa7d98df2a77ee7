-- Where a call's record is after a store, and how many records are free: the same call, another call, a call that is gone.
-- Assumes nothing.
use Rattle.std.specs.Prelude.{Some, None}
use Prim.Native.Nat.{ℕ, ◌+◌, ◌<◌}
use Rattle.octets.proofs.TextLaws.{eq-same}
use Rattle.octets.proofs.TestLaws.{clash, Either, either}
use Rattle.table.proofs.ImageLaws.{size_with, with_same, with_other}
use Rattle.table.proofs.KeepLaws.{one_record}
use Rattle.table.proofs.SearchLaws.{Is, none-lowest, at-lowest, lowest-is, lowest-none, lowest-same, tally_but}
use Rattle.table.specs.Image.{record_count, record_at, with_record, free_record, record_size}
use Rattle.table.specs.Record.{record_call_id, is_free, is_named}
use Rattle.table.specs.Search.{lowest_found, place_named, free_place}
use Rattle.table.specs.inner.Count.{bit, tally, free_count}
use Rattle.table.specs.WellFormed.{distinct}
use lib.ListN.{length}
use mathlib.Core.Bool.{Bool, true, false}
use mathlib.Core.List.{List}
use mathlib.Core.Logic.{inl, inr}
use mathlib.Core.Path.{◌≡◌, refl, sym, ap, ◌∙◌}
use native.Mathlib.Decide.{ℕ_discrete}
use native.Mathlib.Omega.{arith}

-- What a search says.

module _ (id t : List ℕ) where
  pub found : (k : ℕ) → place_named id t ≡ Some k → Is (λ j. is_named id (record_at t j)) (record_count t) k
  unfolding place_named
  found k e = lowest-is (λ j. is_named id (record_at t j)) (record_count t) k e

  pub not_found : place_named id t ≡ None → (k : ℕ) → k < record_count t → is_named id (record_at t k) ≡ false
  unfolding place_named
  not_found e = lowest-none (λ j. is_named id (record_at t j)) (record_count t) e

  nowhere : ((k : ℕ) → k < record_count t → is_named id (record_at t k) ≡ false) → place_named id t ≡ None
  unfolding place_named
  nowhere f = sym (none-lowest (λ j. is_named id (record_at t j)) (record_count t) f)

  -- the one place of a call
  only-place : (k : ℕ) → k < record_count t → is_named id (record_at t k) ≡ true → ((l : ℕ) → l < record_count t → is_named id (record_at t l) ≡ true
      → l ≡ k) → place_named id t ≡ Some k
  unfolding place_named
  only-place k h e f = sym (at-lowest (λ j. is_named id (record_at t j)) (record_count t) k h e (λ l g. go l g (either (is_named id (record_at t l)))))
    where
      go : (l : ℕ) → l < k → Either (is_named id (record_at t l)) → is_named id (record_at t l) ≡ false
      go l g (inl w) = let q = f l (omega arith) w in absurd (omega arith)
      go l g (inr w) = w

  -- a record of a call is where its search ends
  pub place-one : distinct t ≡ true → (k : ℕ) → k < record_count t → is_named id (record_at t k) ≡ true → place_named id t ≡ Some k
  place-one d k h e = only-place k h e (λ l g q. one_record t d id k l h g e q)

pub free-found : (t : List ℕ) (k : ℕ) → free_place t ≡ Some k → Is (λ j. is_free (record_at t j)) (record_count t) k
unfolding free_place
free-found t k e = lowest-is (λ j. is_free (record_at t j)) (record_count t) k e

pub none_free : (t : List ℕ) → free_place t ≡ None → (k : ℕ) → k < record_count t → is_free (record_at t k) ≡ false
unfolding free_place
none_free t e = lowest-none (λ j. is_free (record_at t j)) (record_count t) e

-- Whose a stored record is.

pub free-named : (id : List ℕ) → is_named id free_record ≡ false
unfolding is_named
free-named id = refl

-- a name stands for a Call-ID: two records in use that hold one Call-ID have the same names
pub named-same : (id r s : List ℕ) → is_free r ≡ false → is_free s ≡ false → record_call_id r ≡ record_call_id s → is_named id r ≡ is_named id s
unfolding is_named
named-same id r s a b e = rw (a, b, e)

pub named-own : (id r : List ℕ) → is_free r ≡ false → record_call_id r ≡ id → is_named id r ≡ true
unfolding is_named
named-own id r a e = rw (a, e) (eq-same id id refl)

-- After a store.

module _ (t : List ℕ) (k : ℕ) (h : k < record_count t) (x : List ℕ) (fit : length x ≡ record_size) where
  abbrev t' : List ℕ
  t' = with_record t k x

  -- a test of records says at each place what it said, where it says of the new record what it said of the old
  test_kept : (p : List ℕ → Bool) → p x ≡ p (record_at t k) → (j : ℕ) → j < record_count t → p (record_at t' j) ≡ p (record_at t j)
  test_kept p e j g = go (ℕ_discrete j k)
    where
      go : Dec (j ≡ k) → p (record_at t' j) ≡ p (record_at t j)
      go (yes w) = rw (w, with_same t k h x fit) e
      go (no w) = rw (with_other t k h x fit j g w)

  -- a call that is the record's as before, or is not, as before: another call, or the same one with other numbers
  pub place_kept : (id : List ℕ) → is_named id x ≡ is_named id (record_at t k) → place_named id t' ≡ place_named id t
  unfolding place_named
  place_kept id e =
      ap (lowest_found (λ j. is_named id (record_at t' j))) (size_with t k h x fit)
      ∙ lowest-same (λ j. is_named id (record_at t' j)) (λ j. is_named id (record_at t j)) (record_count t) (test_kept (is_named id) e)

  other-fails : (id : List ℕ) → ((j : ℕ) → j < record_count t → (j ≡ k → ⊥) → is_named id (record_at t j) ≡ false) → (j : ℕ) → j < record_count t → (j ≡ k
      → ⊥) → is_named id (record_at t' j) ≡ false
  other-fails id f j g ne = rw (with_other t k h x fit j g ne) (f j g ne)

  -- a call that stood nowhere, and is the new record's
  pub place-new : (id : List ℕ) → place_named id t ≡ None → is_named id x ≡ true → place_named id t' ≡ Some k
  place-new id e q =
      let s : record_count t' ≡ record_count t = size_with t k h x fit in
      only-place id t' k (omega arith) (rw (with_same t k h x fit) q) (λ l g w. go l (omega arith) (ℕ_discrete l k) w)
    where
      go : (l : ℕ) → l < record_count t → Dec (l ≡ k) → is_named id (record_at t' l) ≡ true → l ≡ k
      go l g (yes d) w = d
      go l g (no d) w = absurd (clash w (other-fails id (λ j i ne. not_found id t e j i) l g d))

  -- a call that was the record's, and is not the new one's
  pub place-gone : (id : List ℕ) → distinct t ≡ true → is_named id (record_at t k) ≡ true → is_named id x ≡ false → place_named id t' ≡ None
  place-gone id d e q =
      let s : record_count t' ≡ record_count t = size_with t k h x fit in
      nowhere id t' (λ l g. go l (omega arith) (ℕ_discrete l k))
    where
      other : (j : ℕ) → j < record_count t → (j ≡ k → ⊥) → Either (is_named id (record_at t j)) → is_named id (record_at t j) ≡ false
      other j g ne (inl w) = absurd (ne (one_record t d id k j h g e w))
      other j g ne (inr w) = w

      go : (l : ℕ) → l < record_count t → Dec (l ≡ k) → is_named id (record_at t' l) ≡ false
      go l g (yes w) = rw (w, with_same t k h x fit) q
      go l g (no w) = other-fails id (λ j i ne. other j i ne (either (is_named id (record_at t j)))) l g w

  -- the count of free records: one fewer where a free one is taken, one more where one is freed, else as it was
  pub free-count : free_count t' + bit (is_free (record_at t k)) ≡ free_count t + bit (is_free x)
  unfolding free_count
  free-count =
      let c : tally (λ j. is_free (record_at t' j)) (record_count t') ≡ tally (λ j. is_free (record_at t' j)) (record_count t) =
      ap (tally (λ j. is_free (record_at t' j))) (size_with t k h x fit) in
      let b : tally (λ j. is_free (record_at t' j)) (record_count t) + bit (is_free (record_at t k)) ≡ tally (λ j. is_free (record_at t j)) (record_count t) + bit
      (is_free (record_at t' k)) =
      tally_but (λ j. is_free (record_at t' j)) (λ j. is_free (record_at t j)) (record_count t) k h (λ j g ne. rw (with_other t k h x fit j g ne)) in
      rw c (b ∙ ap (λ (r : List ℕ). tally (λ j. is_free (record_at t j)) (record_count t) + bit (is_free r)) (with_same t k h x fit))
