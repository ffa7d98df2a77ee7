-- What a byte can do to the open brackets, case by case; so a text ends where its bytes do. Assumes nothing.
use mathlib.Core.Path.{◌≡◌, refl}
use mathlib.Core.Bool.{Bool, true, false, ◌||◌, cond}
use mathlib.Core.List.{List, [], ◌∷◌}
use Prim.Native.Nat.{ℕ, suc, ◌+◌, ◌<◌}
use native.Mathlib.Omega.{arith}
use borrow.Author.Tests.{ltb-true}
use lib.ListN.{length}
use lib.Dec.{eqb, ltb}
use Rattle.octets.specs.Class.{is_digit}
use Rattle.octets.proofs.TestLaws.{picked}
use Rattle.json_text.specs.inner.Machine.{Stack, alone, text, arr, obj, Mode, value, first, name, name₁, colon, after, str, esc, hex, word, minus, nought, int}
use Rattle.json_text.specs.inner.Machine.{dot, frac, exp, sign, power, Next, live, dead, deep, is_hex_digit, is_sign, is_esc, levels, shut, opens, begin, ends}
use Rattle.json_text.specs.inner.Machine.{expo, point, step, over, ended, stops, takes, walk}
use Rattle.json_text.specs.Places.{is_ws}
use Rattle.std.specs.Prelude.{Ok}

-- a text is around all, and no bracket opened where no level was left
pub data Fits : Stack → Type 0 where
  fits-text : {d : ℕ} → Fits (text d)
  fits-arr : {k : Stack} → 0 < levels k → Fits k → Fits (arr k)
  fits-obj : {k : Stack} → 0 < levels k → Fits k → Fits (obj k)

fits-shut : {k : Stack} → Fits k → Fits (shut k)
fits-shut fits-text = fits-text
fits-shut (fits-arr l f) = f
fits-shut (fits-obj l f) = f

-- what a byte does where the brackets fit: they fit, or it is refused
pub data Keeps : Next → Type 0 where
  keeps : {m : Mode} {k : Stack} → Fits k → Keeps (live m k)
  refuses : Keeps dead
  sinks : Keeps deep

kept : {x y : Next} (t : Bool) → Keeps x → Keeps y → Keeps (cond t x y)
kept = picked Keeps

kept_if : {x y : Next} (t : Bool) → (t ≡ true → Keeps x) → Keeps y → Keeps (cond t x y)
kept_if true p q = p refl
kept_if false p q = q

keep-ends : {k : Stack} (b : ℕ) → Fits k → Keeps (ends k b)
unfolding ends
keep-ends b fits-text = kept (is_ws b) (keeps fits-text) refuses
keep-ends b (fits-arr l f) = kept (is_ws b) (keeps (fits-arr l f)) (kept (eqb b 44) (keeps (fits-arr l f)) (kept (eqb b 93) (keeps f) refuses))
keep-ends b (fits-obj l f) = kept (is_ws b) (keeps (fits-obj l f)) (kept (eqb b 44) (keeps (fits-obj l f)) (kept (eqb b 125) (keeps f) refuses))

module _ (k : Stack) (b : ℕ) (f : Fits k) where
  keep-expo : Keeps (expo k b)
  unfolding expo
  keep-expo = kept (eqb b 101 || eqb b 69) (keeps f) (keep-ends b f)

  keep-point : Keeps (point k b)
  unfolding point
  keep-point = kept (eqb b 46) (keeps f) keep-expo

  keep-arr : Keeps (opens arr first k)
  unfolding opens
  keep-arr = kept_if (ltb 0 (levels k)) (λ l. let h = ltb-true 0 (levels k) l in keeps (fits-arr h f)) sinks

  keep-obj : Keeps (opens obj name₁ k)
  unfolding opens
  keep-obj = kept_if (ltb 0 (levels k)) (λ l. let h = ltb-true 0 (levels k) l in keeps (fits-obj h f)) sinks

  keep-begin : Keeps (begin k b)
  unfolding begin
  keep-begin =
      kept (eqb b 34) (keeps f) (kept (eqb b 91) keep-arr
      (kept (eqb b 123) keep-obj (kept (eqb b 116) (keeps f)
      (kept (eqb b 102) (keeps f) (kept (eqb b 110) (keeps f) (kept (eqb b 45) (keeps f) (kept (eqb b 48) (keeps f) (kept (is_digit b) (keeps f) refuses))))))))

  pub keep : (m : Mode) → Keeps (step m k b)
  unfolding step
  keep value = kept (is_ws b) (keeps f) keep-begin
  keep first = kept (is_ws b) (keeps f) (kept (eqb b 93) (keeps (fits-shut f)) keep-begin)
  keep name = kept (is_ws b) (keeps f) (kept (eqb b 34) (keeps f) refuses)
  keep name₁ = kept (is_ws b) (keeps f) (kept (eqb b 125) (keeps (fits-shut f)) (kept (eqb b 34) (keeps f) refuses))
  keep colon = kept (is_ws b) (keeps f) (kept (eqb b 58) (keeps f) refuses)
  keep after = keep-ends b f
  keep (str w) = kept (eqb b 34) (keeps f) (kept (eqb b 92) (keeps f) (kept (ltb b 32) refuses (keeps f)))
  keep (esc w) = kept (is_esc b) (keeps f) (kept (eqb b 117) (keeps f) refuses)
  keep (hex w n) = kept (is_hex_digit b) (keeps f) refuses
  keep (word x xs) = kept (eqb b x) (keeps f) refuses
  keep minus = kept (eqb b 48) (keeps f) (kept (is_digit b) (keeps f) refuses)
  keep nought = keep-point
  keep int = kept (is_digit b) (keeps f) keep-point
  keep dot = kept (is_digit b) (keeps f) refuses
  keep frac = kept (is_digit b) (keeps f) keep-expo
  keep exp = kept (is_digit b) (keeps f) (kept (is_sign b) (keeps f) refuses)
  keep sign = kept (is_digit b) (keeps f) refuses
  keep power = kept (is_digit b) (keeps f) (keep-ends b f)

-- A text ends where its bytes do.
ended_where : (t : Bool) (i e : ℕ) → ended t i ≡ Ok e → e ≡ i
ended_where true i e q = cc
ended_where false i e q = cc

stops_where : (m : Mode) (k : Stack) (i e : ℕ) → stops m k i ≡ Ok e → e ≡ i
unfolding stops
stops_where m (alone d) i e q = ended_where (over m) i e q
stops_where m (text d) i e q = ended_where (over m) i e q
stops_where m (arr k) i e q = cc
stops_where m (obj k) i e q = cc

takes_where : (s : List ℕ) (i e : ℕ) → ((m : Mode) (k : Stack) → Fits k → walk s m k (i + 1) ≡ Ok e → e ≡ (i + 1) + length s) → (n : Next) → Keeps n → takes n (walk s) i ≡ Ok e
    → e ≡ i + suc (length s)
takes_where s i e ih n (keeps {m} {k} f) q = omega (arith, ih m k f q)
takes_where s i e ih n refuses q = let z : ◌≡◌ {A = ℕ} 0 1 = cc in absurd (omega arith)
takes_where s i e ih n sinks q = let z : ◌≡◌ {A = ℕ} 0 1 = cc in absurd (omega arith)

pub ends_where : (s : List ℕ) (m : Mode) (k : Stack) (i e : ℕ) → Fits k → walk s m k i ≡ Ok e → e ≡ i + length s
unfolding walk
ends_where [] m k i e f q = let w = stops_where m k i e q in omega arith
ends_where (b ∷ s) m k i e f q = takes_where s i e (λ m' k' f' q'. ends_where s m' k' (i + 1) e f' q') (step m k b) (keep k b f m) q
