-- The marks of texts, one byte and one mark at a time; texts of two marks differ. Assumes nothing.
use Prim.Native.Nat.{ℕ, zero, suc, ◌+◌, ◌*◌, ◌%◌, ◌≤◌, ◌<◌}
use Rattle.octets.proofs.TextLaws.{ne_same}
use Rattle.octets.proofs.TestLaws.{clash, Either, either}
use Rattle.table.proofs.SearchLaws.{all-every}
use Rattle.table.specs.Image.{record_at}
use Rattle.table.specs.inner.Mark.{mark_from, mark_of, marked, Marks}
use Rattle.table.specs.Record.{record_call_id, is_free}
use Rattle.table.specs.WellFormed.{apart, apart_before}
use borrow.Author.Tests.{eqb-false}
use lib.Dec.{eqb}
use lib.ListN.{length, get_or, drop, set, drop_of_length-le}
use lib.Seq.{drop-cons, get_or-set_same, get_or-set_other}
use mathlib.Core.Bool.{Bool, true, false, not, ◌||◌}
use mathlib.Core.List.{List}
use mathlib.Core.Logic.{inl, inr}
use mathlib.Core.Path.{◌≡◌, refl, sym, ◌∙◌}
use native.Mathlib.Decide.{ℕ_discrete}
use native.Mathlib.Numerals.{add-one}
use native.Mathlib.Omega.{arith}

module _ (s : List ℕ) (i v : ℕ) where
  pub mark_more : i < length s → mark_from v (drop i s) ≡ mark_from ((v * 31 + get_or s i 0) % 4294967296) (drop (i + 1) s)
  unfolding mark_from
  mark_more h = rw (add-one, drop-cons s i 0)

  pub mark_ends : length s ≤ i → mark_from v (drop i s) ≡ v
  unfolding mark_from
  mark_ends h = rw (drop_of_length-le s h)

pub marked-none : (marks : List ℕ) (m : ℕ) → false ≡ marked marks 0 m
unfolding marked
marked-none marks m = refl

pub marked_more : (marks : List ℕ) (i m : ℕ) → (marked marks i m || eqb (get_or marks i 0) m) ≡ marked marks (i + 1) m
unfolding marked
marked_more marks i m = rw add-one

pub marks-none : (t marks : List ℕ) → Marks t marks 0
marks-none t marks = record { each = λ l h. absurd (omega arith) }

-- one record's mark more
pub marks-more : (t marks : List ℕ) (k : ℕ) {m : ℕ} → Marks t marks k → k < length marks → m ≡ mark_of (record_call_id (record_at t k))
    → Marks t (set marks k m) (k + 1)
marks-more t marks k {m} a h e = record { each = λ l g. go l g (ℕ_discrete l k) }
  where
    go : (l : ℕ) → l < k + 1 → Dec (l ≡ k) → get_or (set marks k m) l 0 ≡ mark_of (record_call_id (record_at t l))
    go l g (yes w) = rw w (get_or-set_same marks k m 0 h ∙ e)
    go l g (no w) = get_or-set_other marks k l m 0 w ∙ a.each l (omega arith)

-- a mark that is not among them is none of them
unmarked : (marks : List ℕ) (n m l : ℕ) → marked marks n m ≡ false → l < n → get_or marks l 0 ≡ m → ⊥
unfolding marked
unmarked marks zero m l e h q = omega arith
unmarked marks (suc n) m l e h q = go (ℕ_discrete l n) (either (marked marks n m)) (either (eqb (get_or marks n 0) m)) (unmarked marks n m l)
  where
    go : Dec (l ≡ n) → Either (marked marks n m) → Either (eqb (get_or marks n 0) m) → (marked marks n m ≡ false → l < n
        → get_or marks l 0 ≡ m → ⊥) → ⊥
    go d (inl w) b f = clash refl (rw w at e)
    go d (inr w) (inl v) f = clash refl (rw (w, v) at e)
    go (yes d) (inr w) (inr v) f = eqb-false (get_or marks n 0) m v (rw d at q)
    go (no d) (inr w) (inr v) f = f w (omega arith) q

-- texts of two marks differ, so their records are apart
differ : (r s : List ℕ) → (mark_of (record_call_id s) ≡ mark_of (record_call_id r) → ⊥) → apart r s ≡ true
unfolding apart
differ r s ne = rw (ne_same (record_call_id r) (record_call_id s) (λ w. ne (rw w))) (go (is_free r) (is_free s))
  where
    go : (a b : Bool) → (a || (b || not false)) ≡ true
    go true b = refl
    go false true = refl
    go false false = refl

pub unmarked-apart : (t marks : List ℕ) (k m : ℕ) → Marks t marks k → m ≡ mark_of (record_call_id (record_at t k)) → marked marks k m ≡ false
    → true ≡ apart_before t k
unfolding apart_before
unmarked-apart t marks k m a e u =
    sym (all-every (λ l. apart (record_at t k) (record_at t l)) k
    (λ l h. differ (record_at t k) (record_at t l) (λ w. unmarked marks k m l u h (a.each l h ∙ w ∙ sym e))))

-- the mark that the code makes of a record's Call-ID
pub mark_of_lem : {r s x : List ℕ} {m : ℕ} → m ≡ mark_of x → x ≡ record_call_id r → r ≡ s → m ≡ mark_of (record_call_id s)
mark_of_lem p q e = rw (← e, ← q) p

-- a free record is apart from every other
pub free-apart-before : (t : List ℕ) (k : ℕ) → is_free (record_at t k) ≡ true → true ≡ apart_before t k
unfolding apart_before apart
free-apart-before t k e = sym (all-every (λ l. apart (record_at t k) (record_at t l)) k (λ l h. rw e))
