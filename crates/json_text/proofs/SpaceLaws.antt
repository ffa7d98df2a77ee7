-- White space: past it the machine answers as before it, with or without room for so many values; and a reader that passes over it stops where `past` does.
-- Assumes nothing.
use Prim.Native.Nat.{ℕ, suc, ◌+◌, ◌≤◌, ◌<◌}
use Rattle.json_text.proofs.Complete.{begin-on}
use Rattle.json_text.proofs.MoveLaws.{moves, halts}
use Rattle.json_text.proofs.PlaceLaws.{past-inner}
use Rattle.json_text.proofs.Refusal.{on}
use Rattle.json_text.proofs.StepLaws.{ws-text}
use Rattle.json_text.specs.inner.Begun.{begins_value, begins, begun}
use Rattle.json_text.specs.inner.Landing.{Lands}
use Rattle.json_text.specs.inner.Machine.{Stack, text, Mode, after, live, dead, ends, step, stops, walk, from, place, Pass}
use Rattle.json_text.specs.inner.Tour.{cap, tour}
use Rattle.json_text.specs.Places.{spaces, past, is_ws}
use Rattle.json_text.specs.inner.Machine.{Walked}
use lib.ListN.{length, drop, get_or, length-drop}
use lib.Seq.{drop-drop, get_or-drop}
use mathlib.Core.Bool.{Bool, true, false, cond}
use mathlib.Core.List.{List, [], ◌∷◌}
use mathlib.Core.Logic.{⊎_elim}
use mathlib.Core.Path.{◌≡◌, refl, sym, ap, ◌∙◌}
use native.Mathlib.Nat.{eq-or-lt_of_le}
use native.Mathlib.Omega.{arith}

-- a mode in which white space is passed over
abbrev pub Passes : Mode → Stack → Type 0
Passes m k = (b : ℕ) → is_ws b ≡ true → step m k b ≡ live m k

-- and in which it begins no value
abbrev pub Quiet : Mode → Type 0
Quiet m = (b : ℕ) → is_ws b ≡ true → begins_value m b ≡ false

-- what is the same behind a byte of white space is the same past all of it
module _ {A : Type 0} (f : List ℕ → ℕ → A) (same : (b : ℕ) (l : List ℕ) (i : ℕ) → is_ws b ≡ true → f (b ∷ l) i ≡ f l (i + 1)) where
  over_by : (b : ℕ) (l : List ℕ) (i : ℕ) (t : Bool) → is_ws b ≡ t → f l (i + 1) ≡ f (drop (spaces l) l) (i + 1 + spaces l)
      → f (b ∷ l) i ≡ f (drop (cond t (suc (spaces l)) 0) (b ∷ l)) (i + cond t (suc (spaces l)) 0)
  over_by b l i true e ih = same b l i e ∙ ih ∙ ap (f (drop (spaces l) l)) (let z : i + 1 + spaces l ≡ i + suc (spaces l) = omega arith in z)
  over_by b l i false e ih = ap (f (b ∷ l)) (let z : i ≡ i + 0 = omega arith in z)

  over-spaces : (l : List ℕ) (i : ℕ) → f l i ≡ f (drop (spaces l) l) (i + spaces l)
  unfolding spaces
  over-spaces [] i = ap (f []) (let z : i ≡ i + 0 = omega arith in z)
  over-spaces (b ∷ l) i = over_by b l i (is_ws b) refl (over-spaces l (i + 1))

  over-past : (s : List ℕ) (a : ℕ) → f (drop a s) a ≡ f (drop (past s a) s) (past s a)
  unfolding past
  over-past s a = over-spaces (drop a s) a ∙ ap (λ (l : List ℕ). f l (a + spaces (drop a s))) (drop-drop (spaces (drop a s)) a s)

module _ (m : Mode) (k : Stack) (f : Passes m k) where
  walk-one : (b : ℕ) (l : List ℕ) (i : ℕ) → is_ws b ≡ true → walk (b ∷ l) m k i ≡ walk l m k (i + 1)
  walk-one b l i e = on b l m k i (live m k) (f b e)

  -- the answer past the white space at a
  past_same : (s : List ℕ) (a : ℕ) → from s a m k ≡ from s (past s a) m k
  unfolding from
  past_same s a = over-past (λ l i. walk l m k i) walk-one s a

  -- and with room for n
  pub past-tour : Quiet m → (s : List ℕ) (a n : ℕ) → tour s a m k n ≡ tour s (past s a) m k n
  unfolding tour from begun
  past-tour q s a n =
      over-past (λ l i. cap n (walk l m k i) (begins l m k i))
      (λ b l i e. ap (λ (r : Walked). cap n r (begins (b ∷ l) m k i)) (walk-one b l i e)
      ∙ ap (cap n (walk l m k (i + 1))) (begin-on b l m k i false (live m k) (q b e) (f b e))) s a

-- what stands past white space is none
stop-by : (b : ℕ) (l : List ℕ) (t : Bool) → is_ws b ≡ t → (spaces l < length l → is_ws (get_or l (spaces l) 0) ≡ false) → cond t (suc (spaces l)) 0 < suc (length l)
    → is_ws (get_or (b ∷ l) (cond t (suc (spaces l)) 0) 0) ≡ false
stop-by b l true e ih h = ih (omega arith)
stop-by b l false e ih h = e

spaces-stop : (l : List ℕ) → spaces l < length l → is_ws (get_or l (spaces l) 0) ≡ false
unfolding spaces
spaces-stop [] h = absurd (omega arith)
spaces-stop (b ∷ l) h = stop-by b l (is_ws b) refl (spaces-stop l) h

pub past-ink : (s : List ℕ) (a : ℕ) → past s a < length s → is_ws (get_or s (past s a) 0) ≡ false
unfolding past
past-ink s a h = ap is_ws (sym (get_or-drop a s (spaces (drop a s)) 0)) ∙ spaces-stop (drop a s) (omega (arith, length-drop a s))

-- so the reader of white space leaves the machine where it is
pub spaces-passed : {s : List ℕ} {a r : ℕ} → Lands s a (past s a) r → a ≤ length s → Pass is_ws s a r
spaces-passed {s} {a} {r} l h =
    record {
      low = l.low;
      high = l.inner h;
      stop = λ i. ap (λ (j : ℕ). is_ws (get_or s j 0)) l.is ∙ past-ink s a (omega (arith, l.is));
      same = λ m k f. past_same m k f s a ∙ ap (λ (j : ℕ). from s j m k) (sym l.is);
    }

-- a place where no white space follows is where the machine behind a text stops; so a reader that passed over it is past all of it
still : (s : List ℕ) (i : ℕ) → i ≤ length s → (i < length s → is_ws (get_or s i 0) ≡ false) → place (from s i after (text 0)) ≡ i
unfolding step ends stops
still s i l f =
    ⊎_elim (λ (e : i ≡ length s). ap place (halts s i after (text 0) e)) (λ (h : i < length s). ap place (moves s i after (text 0) dead h (simp (f h)))) (eq-or-lt_of_le l)

pub pass_is : {s : List ℕ} {a r : ℕ} → Pass is_ws s a r → past s a ≡ r
pass_is {s} {a} {r} p =
    let ws : Passes after (text 0) = λ b w. ws-text b w 0 in
    sym (still s (past s a) (past-inner s a (omega (arith, p.low, p.high))) (past-ink s a)) ∙ ap place (sym (past_same after (text 0) ws s a) ∙ p.same after (text 0) ws)
    ∙ still s r p.high p.stop
