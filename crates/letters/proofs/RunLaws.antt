-- The reach of a run. Behind it stands what no letter of the run's class can begin, so a letter of the class that does not follow is bad. Assumes nothing.
use Prim.Native.Nat.{ℕ, zero, suc, ◌+◌, ◌-◌, ◌≤◌, ◌<◌}
use Rattle.letters.proofs.Reaches.{Reaches, at-end, at-letter, here, none-either, none_here, none_left, opens, past-letter}
use Rattle.letters.specs.BadLetter.{Begins}
use Rattle.letters.specs.inner.Reach.{follows, run_reach}
use Rattle.letters.specs.inner.Rest.{run_rest}
use Rattle.octets.proofs.ClassLaws.{among-high, in_among}
use Rattle.octets.proofs.TestLaws.{Either, and_parts, clash, either}
use Rattle.octets.specs.Class.{among}
use Rattle.rules.specs.Classes.{holds}
use Rattle.rules.specs.declared.classes.Class.{Class}
use borrow.Author.Tests.{eq-eqb, eqb-true, ltb-false, ltb-true}
use lib.Dec.{eqb, ltb}
use mathlib.Core.Bool.{Bool, true, false, not, ◌&&◌, ◌||◌, and-false, or-true}
use mathlib.Core.List.{List, [], ◌∷◌}
use mathlib.Core.Logic.{inl, inr}
use mathlib.Core.Path.{◌≡◌, refl}
use native.Mathlib.Omega.{arith}

-- no letter of class c begins what Q allows
abbrev pub Shut : Class → (List ℕ → Bool) → Type 0
Shut c Q = (x : ℕ) (u : List ℕ) → holds c x ≡ true → Q (x ∷ u) ≡ false

-- what it means that a letter may follow
record May (hi : ℕ) (c e : Class) (n x : ℕ) : Type 0 where
  room : suc n ≤ hi
  classed : holds c x ≡ true
  first : (not (eqb n 0) || holds e x) ≡ true
  last : suc n ≡ hi → holds e x ≡ true

may : (hi : ℕ) (c e : Class) (n x : ℕ) → follows hi c e n x ≡ true → May hi c e n x
unfolding follows
may hi c e n x a =
    let p = and_parts (ltb n hi) (holds c x && (holds e x || (not (eqb n 0) && not (eqb n (hi - 1))))) a in
    let q = and_parts (holds c x) (holds e x || (not (eqb n 0) && not (eqb n (hi - 1)))) p.1 in
    record {
      room = ltb-true n hi p.0;
      classed = q.0;
      first = at_first (holds e x) (eqb n 0) (not (eqb n (hi - 1))) q.1;
      last = λ z. at_last (holds e x) (not (eqb n 0)) (eqb n (hi - 1)) q.1 (eq-eqb n (hi - 1) (omega arith));
    }
  where
    at_first : (a b d : Bool) → (a || (not b && d)) ≡ true → (not b || a) ≡ true
    at_first true b d q = or-true (not b)
    at_first false true d q = q
    at_first false false d q = refl

    at_last : (a b d : Bool) → (a || (b && not d)) ≡ true → d ≡ true → a ≡ true
    at_last true b d q i = refl
    at_last false true d q i = clash q (rw i)
    at_last false false d q i = clash q refl

module _ (lo hi : ℕ) (c e : Class) (Q : List ℕ → Bool) (some : 1 ≤ lo) (room : lo ≤ hi) where
  -- too many letters, and a bad one at the last place that there is room for
  too_long : (n : ℕ) (l : Bool) (u : List ℕ) → hi < n → run_rest lo hi c e Q n l u ≡ false
  unfolding run_rest
  too_long n l [] h = rw (among-high lo hi n (omega arith) h)
  too_long n l (x ∷ u) h = go (either (holds c x)) (too_long (suc n) (holds e x) u (omega arith))
    where
      go : Either (holds c x) → run_rest lo hi c e Q (suc n) (holds e x) u ≡ false → run_rest lo hi c e Q n l (x ∷ u) ≡ false
      go (inl k) r = rw (k, r) (and-false (not (eqb n 0) || holds e x))
      go (inr k) r = rw (k, among-high lo hi n (omega arith) h)

  bad_last : (u : List ℕ) → run_rest lo hi c e Q hi false u ≡ false
  unfolding run_rest
  bad_last [] = rw (and-false (among lo hi hi))
  bad_last (x ∷ u) = go (either (holds c x))
    where
      go : Either (holds c x) → run_rest lo hi c e Q hi false (x ∷ u) ≡ false
      go (inl k) = rw (k, too_long (suc hi) (holds e x) u (omega arith)) (and-false (not (eqb hi 0) || holds e x))
      go (inr k) = rw (k, and-false (among lo hi hi))

  -- so a letter of the class that may not follow ends all
  no_more : (n : ℕ) (l : Bool) (x : ℕ) (u : List ℕ) → holds c x ≡ true → follows hi c e n x ≡ false → run_rest lo hi c e Q n l (x ∷ u) ≡ false
  unfolding run_rest follows
  no_more n l x u k f = go (either (ltb n hi)) (either (holds e x)) (either (eqb n 0)) (either (eqb n (hi - 1)))
    where
      go : Either (ltb n hi) → Either (holds e x) → Either (eqb n 0) → Either (eqb n (hi - 1)) → run_rest lo hi c e Q n l (x ∷ u) ≡ false
      go (inr a) b p q = rw (k, too_long (suc n) (holds e x) u (let i = ltb-false n hi a in omega arith)) (and-false (not (eqb n 0) || holds e x))
      go (inl a) (inl b) p q = clash (rw (a, k, b)) f
      go (inl a) (inr b) (inl p) q = rw (k, b, p)
      go (inl a) (inr b) (inr p) (inl q) =
          let z : suc n ≡ hi = let i = ltb-true n hi a in let j = eqb-true n (hi - 1) q in omega arith in
          rw (k, b, p, z) (bad_last u)
      go (inl a) (inr b) (inr p) (inr q) = clash (rw (a, k, b, p, q)) f

  module _ {K : List ℕ → ℕ} (shut : Shut c Q) (goes : (t : List ℕ) → Reaches Q t (K t)) (w : ℕ) (wc : holds c w ≡ true) (we : holds e w ≡ true) where
    -- a run that is whole goes on behind it
    whole-opens : (n : ℕ) → lo ≤ n → n ≤ hi → Begins (run_rest lo hi c e Q n true) []
    unfolding run_rest
    whole-opens n h k = let b = opens (goes []) in record { rest = b.rest; allowed = go b.rest b.allowed }
      where
        go : (r : List ℕ) → Q r ≡ true → run_rest lo hi c e Q n true r ≡ true
        go [] q = rw (in_among lo hi n h k) q
        go (x ∷ u) q = by (either (holds c x))
          where
            by : Either (holds c x) → run_rest lo hi c e Q n true (x ∷ u) ≡ true
            by (inl i) = clash q (shut x u i)
            by (inr i) = rw (i, in_among lo hi n h k) q

    one_filler : (n : ℕ) (l : Bool) → Begins (run_rest lo hi c e Q (suc n) true) [] → Begins (run_rest lo hi c e Q n l) []
    unfolding run_rest
    one_filler n l b = record { rest = w ∷ b.rest; allowed = rw (wc, we, or-true (not (eqb n 0))) b.allowed }

    fillers : (k n : ℕ) (l : Bool) → lo ≤ n + suc k → n + suc k ≤ hi → Begins (run_rest lo hi c e Q n l) []
    fillers zero n l h i = one_filler n l (whole-opens (suc n) (omega arith) (omega arith))
    fillers (suc k) n l h i = one_filler n l (fillers k (suc n) true (omega arith) (omega arith))

    run-opens : (n : ℕ) (l : Bool) → n ≤ hi → (n ≡ hi → l ≡ true) → Begins (run_rest lo hi c e Q n l) []
    run-opens n l h f = go (either (ltb n hi))
      where
        go : Either (ltb n hi) → Begins (run_rest lo hi c e Q n l) []
        go (inl a) = let i = ltb-true n hi a in fillers ((lo - n) - 1) n l (omega arith) (omega arith)
        go (inr a) = let i = ltb-false n hi a in rw (f (omega arith)) (whole-opens n (omega arith) h)

    pub run_reaches : (t : List ℕ) (n : ℕ) (l : Bool) → n ≤ hi → (n ≡ hi → l ≡ true) → Reaches (run_rest lo hi c e Q n l) t (run_reach lo hi c e K n l t)
    unfolding run_reach run_rest
    run_reaches [] n l h f = rw (none-either (among lo hi n && l) (none_left (goes []))) (at-end (run-opens n l h f))
    run_reaches (x ∷ t) n l h f = go (either (follows hi c e n x)) (either (holds c x)) (either (among lo hi n && l)) (run_reaches t (suc n) (holds e x))
      where
        Next : Type 0
        Next = suc n ≤ hi → (suc n ≡ hi → holds e x ≡ true) → Reaches (run_rest lo hi c e Q (suc n) (holds e x)) t (run_reach lo hi c e K (suc n) (holds e x) t)

        opened : Begins (run_rest lo hi c e Q n l) []
        opened = run-opens n l h f

        go : Either (follows hi c e n x) → Either (holds c x) → Either (among lo hi n && l) → Next → Reaches (run_rest lo hi c e Q n l) (x ∷ t) (run_reach lo hi c e K n l (x ∷ t))
        go (inl a) k m next = let m = may hi c e n x a in rw a (past-letter (λ u. rw (m.classed, m.first)) (next m.room m.last))
        go (inr a) (inl k) m next =
            rw (a, none-either (among lo hi n && l) (none_here (K (x ∷ t)) (λ u. shut x u k) (goes (x ∷ t)))) (at-letter opened (λ u. no_more n l x u k a))
        go (inr a) (inr k) (inl m) next = rw (a, m) (here (K (x ∷ t)) opened (λ u. rw (k, m)) (goes (x ∷ t)))
        go (inr a) (inr k) (inr m) next = rw (a, m) (at-letter opened (λ u. rw (k, m)))
