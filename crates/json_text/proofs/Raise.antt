-- More levels change no answer but Deep. Assumes nothing.
use mathlib.Core.Path.{◌≡◌, refl, sym, subst, ◌∙◌}
use mathlib.Core.Bool.{Bool, true, false, ◌||◌, cond}
use mathlib.Core.List.{List, [], ◌∷◌}
use mathlib.Core.Logic.{◌⊎◌, inl, inr}
use Prim.Native.Nat.{ℕ, ◌+◌, ◌≤◌, ◌<◌}
use native.Mathlib.Omega.{arith}
use borrow.Author.Tests.{lt-ltb, ltb-true}
use lib.Dec.{eqb, ltb}
use Rattle.octets.specs.Class.{is_digit}
use Rattle.octets.proofs.TestLaws.{either, picked-alike}
use Rattle.json_text.specs.inner.Machine.{Stack, alone, text, arr, obj, Mode, value, first, name, name₁, colon, after, str, esc, hex, word, minus, nought, int}
use Rattle.json_text.specs.inner.Machine.{dot, frac, exp, sign, power, Next, live, dead, deep, done, is_hex_digit, is_sign, is_esc, levels, shut, opens, begin}
use Rattle.json_text.specs.inner.Machine.{ends, expo, point, step, stops, takes, walk}
use Rattle.json_text.specs.Places.{is_ws}
use Rattle.json_text.specs.inner.Machine.{Walked}
use Rattle.json_text.proofs.Opened.{Fits, fits-text, fits-arr, fits-obj}
use Rattle.json_text.specs.declared.Fault.TheVariants.{Bad, Deep, Many}
use Rattle.std.specs.Prelude.{Ok, Err}

-- an answer other than Deep
abbrev pub Flat : Walked → Type 0
Flat (Ok i) = Unit
Flat (Err (Bad i)) = Unit
Flat (Err (Deep i)) = ⊥
Flat (Err (Many i)) = Unit

pub data IsLive : Next → Type 0 where
  is_live : {m : Mode} {k : Stack} → IsLive (live m k)

module _ (e : ℕ) where
  -- e more levels
  pub raise : Stack → Stack
  raise (alone d) = alone (d + e)
  raise (text d) = text (d + e)
  raise (arr k) = arr (raise k)
  raise (obj k) = obj (raise k)

  raise-levels : (k : Stack) → levels k ≤ levels (raise k)
  unfolding raise
  raise-levels (alone d) = omega arith
  raise-levels (text d) = omega arith
  raise-levels (arr k) = omega (arith, raise-levels k)
  raise-levels (obj k) = omega (arith, raise-levels k)

  raise-shut : (k : Stack) → raise (shut k) ≡ shut (raise k)
  unfolding raise
  raise-shut (alone d) = refl
  raise-shut (text d) = refl
  raise-shut (arr k) = refl
  raise-shut (obj k) = refl

  -- what a byte does, and what it does with more levels
  pub data Up (j : Stack) : Next → Next → Type 0 where
    lives : {m : Mode} {k k' : Stack} → raise k ≡ k' → Up j (live m k) (live m k')
    dies : Up j dead dead
    ended-up : Up j done done
    deeps : {n : Next} → (0 < levels (raise j) → IsLive n) → Up j deep n

  up : {j : Stack} {x x' y y' : Next} (t : Bool) → Up j x x' → Up j y y' → Up j (cond t x y) (cond t x' y')
  up {j} = picked-alike (Up j)

  up_ends : (k : Stack) (b : ℕ) → Up k (ends k b) (ends (raise k) b)
  unfolding ends raise
  up_ends (alone d) b = ended-up
  up_ends (text d) b = up (is_ws b) (lives refl) dies
  up_ends (arr k) b = up (is_ws b) (lives refl) (up (eqb b 44) (lives refl) (up (eqb b 93) (lives refl) dies))
  up_ends (obj k) b = up (is_ws b) (lives refl) (up (eqb b 44) (lives refl) (up (eqb b 125) (lives refl) dies))

  up-expo : (k : Stack) (b : ℕ) → Up k (expo k b) (expo (raise k) b)
  unfolding expo
  up-expo k b = up (eqb b 101 || eqb b 69) (lives refl) (up_ends k b)

  up-point : (k : Stack) (b : ℕ) → Up k (point k b) (point (raise k) b)
  unfolding point
  up-point k b = up (eqb b 46) (lives refl) (up-expo k b)

  opens-live : (f : Stack → Stack) (m : Mode) (k : Stack) → 0 < levels (raise k) → IsLive (opens f m (raise k))
  unfolding opens
  opens-live f m k l = rw (lt-ltb 0 (levels (raise k)) l) is_live

  up-opens : (f : Stack → Stack) (m : Mode) (k : Stack) → raise (f k) ≡ f (raise k) → (ltb 0 (levels k) ≡ true) ⊎ (ltb 0 (levels k) ≡ false)
      → Up k (opens f m k) (opens f m (raise k))
  unfolding opens
  up-opens f m k q (inl h) = let l = ltb-true 0 (levels k) h in rw (h, lt-ltb 0 (levels (raise k)) (omega (arith, raise-levels k))) (lives q)
  up-opens f m k q (inr h) = rw h (deeps (opens-live f m k))

  up-begin : (k : Stack) (b : ℕ) → Up k (begin k b) (begin (raise k) b)
  unfolding begin raise
  up-begin k b =
      up (eqb b 34) (lives refl) (up (eqb b 91) (up-opens arr first k refl (either (ltb 0 (levels k)))) (up (eqb b 123) (up-opens obj name₁ k refl (either (ltb 0 (levels k))))
      (up (eqb b 116) (lives refl) (up (eqb b 102) (lives refl)
      (up (eqb b 110) (lives refl) (up (eqb b 45) (lives refl) (up (eqb b 48) (lives refl) (up (is_digit b) (lives refl) dies))))))))

  pub up_step : (m : Mode) (k : Stack) (b : ℕ) → Up k (step m k b) (step m (raise k) b)
  unfolding step
  up_step value k b = up (is_ws b) (lives refl) (up-begin k b)
  up_step first k b = up (is_ws b) (lives refl) (up (eqb b 93) (lives (raise-shut k)) (up-begin k b))
  up_step name k b = up (is_ws b) (lives refl) (up (eqb b 34) (lives refl) dies)
  up_step name₁ k b = up (is_ws b) (lives refl) (up (eqb b 125) (lives (raise-shut k)) (up (eqb b 34) (lives refl) dies))
  up_step colon k b = up (is_ws b) (lives refl) (up (eqb b 58) (lives refl) dies)
  up_step after k b = up_ends k b
  up_step (str w) k b = up (eqb b 34) (lives refl) (up (eqb b 92) (lives refl) (up (ltb b 32) dies (lives refl)))
  up_step (esc w) k b = up (is_esc b) (lives refl) (up (eqb b 117) (lives refl) dies)
  up_step (hex w n) k b = up (is_hex_digit b) (lives refl) dies
  up_step (word x xs) k b = up (eqb b x) (lives refl) dies
  up_step minus k b = up (eqb b 48) (lives refl) (up (is_digit b) (lives refl) dies)
  up_step nought k b = up-point k b
  up_step int k b = up (is_digit b) (lives refl) (up-point k b)
  up_step dot k b = up (is_digit b) (lives refl) dies
  up_step frac k b = up (is_digit b) (lives refl) (up-expo k b)
  up_step exp k b = up (is_digit b) (lives refl) (up (is_sign b) (lives refl) dies)
  up_step sign k b = up (is_digit b) (lives refl) dies
  up_step power k b = up (is_digit b) (lives refl) (up_ends k b)

  raise-fits : {k : Stack} → Fits k → levels (raise k) ≡ levels k + e
  unfolding raise
  raise-fits fits-text = refl
  raise-fits (fits-arr l f) = omega (arith, raise-fits f)
  raise-fits (fits-obj l f) = omega (arith, raise-fits f)

  up-live-go : (j : Stack) (m : Mode) (k : Stack) (n n' : Next) → Up j n n' → n ≡ live m k → n' ≡ live m (raise k)
  up-live-go j m k n n' (lives refl) h = cc
  up-live-go j m k n n' dies h = cc
  up-live-go j m k n n' ended-up h = cc
  up-live-go j m k n n' (deeps _) h = cc

  -- a byte that goes on goes on with more levels, and one that went too deep goes on with one more
  pub up-live : (m m' : Mode) (k k' : Stack) (b : ℕ) → step m k b ≡ live m' k' → step m (raise k) b ≡ live m' (raise k')
  up-live m m' k k' b h = up-live-go k m' k' (step m k b) (step m (raise k) b) (up_step m k b) h

  up-deep-go : (j : Stack) → 0 < levels (raise j) → (n n' : Next) → Up j n n' → n ≡ deep → IsLive n'
  up-deep-go j l n n' (lives refl) h = is_live
  up-deep-go j l n n' dies h = let z : ◌≡◌ {A = ℕ} 0 1 = cc in absurd (omega arith)
  up-deep-go j l n n' ended-up h = let z : ◌≡◌ {A = ℕ} 0 1 = cc in absurd (omega arith)
  up-deep-go j l n n' (deeps f) h = f l

  pub up-deep : (m : Mode) (k : Stack) (b : ℕ) → Fits k → 0 < e → step m k b ≡ deep → IsLive (step m (raise k) b)
  up-deep m k b f l h = up-deep-go k (omega (arith, raise-fits f)) (step m k b) (step m (raise k) b) (up_step m k b) h

  up-stops : (m : Mode) (k : Stack) (i : ℕ) → stops m (raise k) i ≡ stops m k i
  unfolding stops raise
  up-stops m (alone d) i = refl
  up-stops m (text d) i = refl
  up-stops m (arr k) i = refl
  up-stops m (obj k) i = refl

  up-takes : (s : List ℕ) (i : ℕ) (g : Walked) → Flat g → ((m : Mode) (k : Stack) → walk s m k (i + 1) ≡ g → walk s m (raise k) (i + 1) ≡ g) → (j : Stack) (n n' : Next)
      → Up j n n' → takes n (walk s) i ≡ g → takes n' (walk s) i ≡ g
  up-takes s i g f ih j n n' (lives {m} {k} q) h = subst (λ (j : Stack). walk s m j (i + 1) ≡ g) q (ih m k h)
  up-takes s i g f ih j n n' dies h = h
  up-takes s i g f ih j n n' ended-up h = h
  up-takes s i g f ih j n n' (deeps _) h = absurd (subst Flat (sym h) f)

  -- an answer other than Deep is the answer with more levels too
  pub up-walk : (s : List ℕ) (m : Mode) (k : Stack) (i : ℕ) (g : Walked) → Flat g → walk s m k i ≡ g → walk s m (raise k) i ≡ g
  unfolding walk
  up-walk [] m k i g f h = up-stops m k i ∙ h
  up-walk (b ∷ s) m k i g f h = up-takes s i g f (λ m' k' h'. up-walk s m' k' (i + 1) g f h') k (step m k b) (step m (raise k) b) (up_step m k b) h

  pub up-text : (s : List ℕ) (d : ℕ) (g : Walked) → Flat g → walk s value (text d) 0 ≡ g → walk s value (text (d + e)) 0 ≡ g
  unfolding raise
  up-text s d g f h = up-walk s value (text d) 0 g f h

  pub raise-text : (d : ℕ) → raise (text d) ≡ text (d + e)
  unfolding raise
  raise-text d = refl
