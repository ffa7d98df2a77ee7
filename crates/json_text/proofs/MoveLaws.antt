-- How the machine's answer moves along the bytes: by a byte, by a run of bytes, to the end. Assumes nothing.
use mathlib.Core.Path.{◌≡◌, refl, sym, ap, subst, ◌∙◌}
use mathlib.Core.Bool.{Bool, true, false}
use mathlib.Core.List.{List, ◌∷◌}
use mathlib.Core.Logic.{⊎_elim}
use Prim.Native.Nat.{ℕ, zero, suc, ◌+◌, ◌-◌, ◌≤◌, ◌<◌}
use native.Mathlib.Nat.{eq-or-lt_of_le, add-zero}
use native.Mathlib.Numerals.{add-one}
use native.Mathlib.Omega.{arith}
use lib.ListN.{length, get_or, drop}
use lib.Seq.{drop-cons, drop-length}
use Rattle.json_text.specs.inner.Machine.{Stack, alone, text, arr, obj, Role, Mode, after, Next, live, dead, deep, done, ends, step, over, ended, stops}
use Rattle.json_text.specs.inner.Machine.{takes, walk, from, onward, place, Leaf, Pass}
use Rattle.json_text.specs.Places.{is_ws}
use Rattle.json_text.specs.inner.Machine.{Walked}
use Rattle.json_text.specs.declared.Fault.TheVariants.{Bad, Deep}
use Rattle.std.specs.Prelude.{Result, Ok, Err}
use Rattle.std.specs.Result.{IsErrAnd}

-- what a `?` hands on is the fault as it was
pub raised : {T E : Type 0} {r : Result T E} {e : E} → IsErrAnd r (λ (y : E). y ≡ e) → r ≡ Err e
raised {r = Ok x} h = absurd h
raised {r = Err y} h = ap Err h

-- the answer after a byte that does n
abbrev pub goes : List ℕ → ℕ → Next → Walked
goes s i (live m k) = from s (i + 1) m k
goes s i dead = Err (Bad i)
goes s i deep = Err (Deep i)
goes s i done = Ok i

lands : (s : List ℕ) (i : ℕ) (n : Next) → takes n (walk (drop (suc i) s)) i ≡ goes s i n
unfolding from
lands s i (live m k) = rw add-one
lands s i dead = refl
lands s i deep = refl
lands s i done = refl

walks : (b : ℕ) (bs : List ℕ) (i : ℕ) (m : Mode) (k : Stack) → walk (b ∷ bs) m k i ≡ takes (step m k b) (walk bs) i
unfolding walk
walks b bs i m k = refl

-- the byte at i does n
pub moves : (s : List ℕ) (i : ℕ) (m : Mode) (k : Stack) (n : Next) → i < length s → step m k (get_or s i 0) ≡ n → from s i m k ≡ goes s i n
unfolding from
moves s i m k n h e = rw (drop-cons s i 0) (walks (get_or s i 0) (drop (suc i) s) i m k ∙ ap (λ (x : Next). takes x (walk (drop (suc i) s)) i) e ∙ lands s i n)

-- the bytes stop at i
pub halts : (s : List ℕ) (i : ℕ) (m : Mode) (k : Stack) → i ≡ length s → from s i m k ≡ stops m k i
unfolding from walk
halts s i m k e = rw e (rw drop-length)

-- where the bytes stop is where they end
ended-place : (x : Bool) (i : ℕ) → place (ended x i) ≡ i
ended-place true i = refl
ended-place false i = refl

pub stops-place : (m : Mode) (s : Stack) (i : ℕ) → place (stops m s i) ≡ i
unfolding stops
stops-place m (alone d) i = ended-place (over m) i
stops-place m (text d) i = ended-place (over m) i
stops-place m (arr s) i = refl
stops-place m (obj s) i = refl

-- The bytes stop where more are due.
pub stops-short : (m : Mode) (k : Stack) (i : ℕ) → over m ≡ false → stops m k i ≡ Err (Bad i)
unfolding stops
stops-short m (alone d) i e = simp e
stops-short m (text d) i e = simp e
stops-short m (arr k) i e = refl
stops-short m (obj k) i e = refl

pub short : (s : List ℕ) (i : ℕ) (m : Mode) (k : Stack) → i ≤ length s → length s ≤ i → over m ≡ false → from s i m k ≡ Err (Bad i)
short s i m k l u e = halts s i m k (omega arith) ∙ stops-short m k i e

-- Two modes that do the same at a byte, and at the end of the bytes.
pub alike : (s : List ℕ) (i : ℕ) (m m' : Mode) (k : Stack) → i < length s → step m k (get_or s i 0) ≡ step m' k (get_or s i 0) → from s i m k ≡ from s i m' k
alike s i m m' k h e = moves s i m k (step m' k (get_or s i 0)) h e ∙ sym (moves s i m' k (step m' k (get_or s i 0)) h refl)

pub stops-over : (m m' : Mode) (k : Stack) (i : ℕ) → over m ≡ over m' → stops m k i ≡ stops m' k i
unfolding stops
stops-over m m' (alone d) i e = ap (λ (t : Bool). ended t i) e
stops-over m m' (text d) i e = ap (λ (t : Bool). ended t i) e
stops-over m m' (arr k) i e = refl
stops-over m m' (obj k) i e = refl

pub as_good : (s : List ℕ) (i : ℕ) (m m' : Mode) (k : Stack) → i ≤ length s → over m ≡ over m' → (i < length s → step m k (get_or s i 0) ≡ step m' k (get_or s i 0))
    → from s i m k ≡ from s i m' k
as_good s i m m' k l o f = ⊎_elim (λ (h : i ≡ length s). halts s i m k h ∙ stops-over m m' k i o ∙ sym (halts s i m' k h)) (λ (h : i < length s). alike s i m m' k h (f h))
    (eq-or-lt_of_le l)

stops-arr : (m : Mode) (k : Stack) (i : ℕ) → stops m (arr k) i ≡ Err (Bad i)
unfolding stops
stops-arr m k i = refl

stops-obj : (m : Mode) (k : Stack) (i : ℕ) → stops m (obj k) i ≡ Err (Bad i)
unfolding stops
stops-obj m k i = refl

-- the bytes stop while a bracket is open
module _ (s : List ℕ) (i : ℕ) (m : Mode) (k : Stack) (l : i ≤ length s) (u : length s ≤ i) where
  pub short-arr : from s i m (arr k) ≡ Err (Bad i)
  short-arr = halts s i m (arr k) (omega arith) ∙ stops-arr m k i

  pub short-obj : from s i m (obj k) ≡ Err (Bad i)
  short-obj = halts s i m (obj k) (omega arith) ∙ stops-obj m k i

-- Contracts, where the answer is known.
pub leaf_is : {s : List ℕ} {a : ℕ} {m m' : Role → Mode} {r r' : Walked} → Leaf s a m m' r → r ≡ r' → Leaf s a m m' r'
leaf_is {s} {a} {m} {m'} l e = subst (λ (x : Walked). Leaf s a m m' x) e l

-- After the text's value.
stops-whole : (i : ℕ) → stops after (text 8) i ≡ Ok i
unfolding stops
stops-whole i = refl

pub whole : (s : List ℕ) (i : ℕ) → i ≤ length s → length s ≤ i → from s i after (text 8) ≡ Ok i
whole s i l u = halts s i after (text 8) (omega arith) ∙ stops-whole i

pub trail : (b : ℕ) → is_ws b ≡ false → step after (text 8) b ≡ dead
unfolding step ends
trail b w = simp w

-- A value by itself: what its reader answers is the machine's answer.
stops-alone : (d i : ℕ) → stops after (alone d) i ≡ Ok i
unfolding stops
stops-alone d i = refl

pub done-alone : (d b : ℕ) → step after (alone d) b ≡ done
unfolding step ends
done-alone d b = refl

pub from-alone : (s : List ℕ) (i d : ℕ) → i ≤ length s → from s i after (alone d) ≡ Ok i
from-alone s i d l = ⊎_elim (λ (h : i ≡ length s). halts s i after (alone d) h ∙ stops-alone d i) (λ (h : i < length s). moves s i after (alone d) done h (done-alone d _))
    (eq-or-lt_of_le l)

pub onward-alone : (s : List ℕ) (d : ℕ) (r : Walked) → place r ≤ length s → onward s after (alone d) r ≡ r
onward-alone s d (Ok e) l = from-alone s e d l
onward-alone s d (Err f) l = refl

-- n bytes of a class that leaves the machine where it is
pub run : (f : ℕ → Bool) (s : List ℕ) (a n : ℕ) → a + n ≤ length s → ((j : ℕ) → j < n → f (get_or s (a + j) 0) ≡ true) → (m : Mode) (k : Stack)
    → ((b : ℕ) → f b ≡ true → step m k b ≡ live m k) → from s a m k ≡ from s (a + n) m k
run f s a zero h g m k e = rw add-zero
run f s a (suc n) h g m k e =
    let q : a + n + 1 ≡ a + suc n = omega arith in
    run f s a n (omega arith) (λ j l. g j (omega arith)) m k e ∙ moves s (a + n) m k (live m k) (omega arith) (e _ (g n (omega arith))) ∙ ap (λ (i : ℕ). from s i m k) q

-- bytes of a class, from a up to r
pub passes : {f : ℕ → Bool} {s : List ℕ} {a r : ℕ} → a ≤ r → r ≤ length s → ((k : ℕ) → a ≤ k → k < r → f (get_or s k 0) ≡ true)
    → (r < length s → f (get_or s r 0) ≡ false) → Pass f s a r
passes {f} {s} {a} {r} l u g e =
    record {
      low = l;
      high = u;
      stop = e;
      same = λ m k h.
          let z : a + (r - a) ≡ r = omega arith in
          run f s a (r - a) (omega arith) (λ j i. g (a + j) (omega arith) (omega arith)) m k h ∙ ap (λ (i : ℕ). from s i m k) z;
    }
