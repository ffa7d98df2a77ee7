-- Literals, hex digits and exponents, byte by byte. Assumes nothing.
use mathlib.Core.Path.{◌≡◌, refl, ap, ◌∙◌}
use mathlib.Core.Bool.{true, false}
use mathlib.Core.List.{List}
use Prim.Native.Nat.{ℕ, zero, suc, ◌+◌, ◌-◌, ◌≤◌, ◌<◌}
use native.Mathlib.Numerals.{add-one}
use native.Mathlib.Omega.{arith}
use borrow.Author.Tests.{eq-eqb, ne_eqb}
use lib.ListN.{length, get_or, drop}
use lib.Seq.{drop-cons, drop-length}
use Rattle.octets.specs.Class.{is_digit}
use Rattle.json_text.specs.inner.Machine.{Stack, Role, Mode, after, str, hex, word, power, live, dead, is_hex_digit, due, hexes, step, from, Pass}
use Rattle.json_text.proofs.MoveLaws.{moves, short, as_good}
use Rattle.json_text.proofs.StepLaws.{power-digit, power-rest}
use Rattle.json_text.specs.declared.Fault.TheVariants.{Bad}
use Rattle.std.specs.Prelude.{Err}

-- A literal's bytes.
due-cons : (w : List ℕ) (j : ℕ) → j < length w → due (drop j w) ≡ word (get_or w j 0) (drop (j + 1) w)
unfolding due
due-cons w j h = rw (add-one, drop-cons w j 0)

word-step : (x : ℕ) (xs : List ℕ) (k : Stack) (b : ℕ) → b ≡ x → step (word x xs) k b ≡ live (due xs) k
unfolding step
word-step x xs k b e = simp (eq-eqb b x e)

word-stop : (x : ℕ) (xs : List ℕ) (k : Stack) (b : ℕ) → (b ≡ x → ⊥) → step (word x xs) k b ≡ dead
unfolding step
word-stop x xs k b e = simp (ne_eqb b x e)

module _ (s w : List ℕ) (i j : ℕ) (k : Stack) (in-w : j < length w) where
  pub word-hit : i < length s → get_or s i 0 ≡ get_or w j 0 → from s i (due (drop j w)) k ≡ from s (i + 1) (due (drop (j + 1) w)) k
  word-hit h e = rw (due-cons w j in-w) (moves s i _ k (live (due (drop (j + 1) w)) k) h (word-step (get_or w j 0) (drop (j + 1) w) k (get_or s i 0) e))

  pub word-miss : i < length s → (get_or s i 0 ≡ get_or w j 0 → ⊥) → from s i (due (drop j w)) k ≡ Err (Bad i)
  word-miss h e = rw (due-cons w j in-w) (moves s i _ k dead h (word-stop (get_or w j 0) (drop (j + 1) w) k (get_or s i 0) e))

  pub word-short : i ≤ length s → length s ≤ i → from s i (due (drop j w)) k ≡ Err (Bad i)
  word-short l u = rw (due-cons w j in-w) (short s i _ k l u refl)

pub due_all : (w : List ℕ) (j : ℕ) → j ≤ length w → length w ≤ j → due (drop j w) ≡ after
unfolding due
due_all w j l u = let e : j ≡ length w = omega arith in rw e (rw drop-length)

-- Hex digits.
hexes-suc : (w : Role) (n : ℕ) → 0 < n → hexes w n ≡ hex w (n - 1)
unfolding hexes
hexes-suc w zero h = absurd (omega arith)
hexes-suc w (suc n) h = ap (hex w) (omega arith)

pub hex-step : (w : Role) (n : ℕ) (k : Stack) (b : ℕ) → is_hex_digit b ≡ true → step (hex w n) k b ≡ live (hexes w n) k
unfolding step
hex-step w n k b e = simp e

hex-stop : (w : Role) (n : ℕ) (k : Stack) (b : ℕ) → is_hex_digit b ≡ false → step (hex w n) k b ≡ dead
unfolding step
hex-stop w n k b e = simp e

module _ (s : List ℕ) (i n : ℕ) (w : Role) (k : Stack) (more : 0 < n) where
  pub hex-hit : i < length s → is_hex_digit (get_or s i 0) ≡ true → from s i (hexes w n) k ≡ from s (i + 1) (hexes w (n - 1)) k
  hex-hit h e = rw (hexes-suc w n more) (moves s i _ k (live (hexes w (n - 1)) k) h (hex-step w (n - 1) k _ e))

  pub hex-miss : i < length s → is_hex_digit (get_or s i 0) ≡ false → from s i (hexes w n) k ≡ Err (Bad i)
  hex-miss h e = rw (hexes-suc w n more) (moves s i _ k dead h (hex-stop w (n - 1) k _ e))

  pub hex-short : i ≤ length s → length s ≤ i → from s i (hexes w n) k ≡ Err (Bad i)
  hex-short l u = rw (hexes-suc w n more) (short s i _ k l u refl)

pub hex-none : (w : Role) (n : ℕ) → n ≤ 0 → hexes w n ≡ str w
unfolding hexes
hex-none w zero h = refl
hex-none w (suc n) h = absurd (omega arith)

pub hex-done : (s : List ℕ) (i n : ℕ) (w : Role) (k : Stack) → n ≤ 0 → from s i (hexes w n) k ≡ from s i (str w) k
hex-done s i n w k h = ap (λ (m : Mode). from s i m k) (hex-none w n h)

pub word-done : (s w : List ℕ) (i j : ℕ) (k : Stack) → j ≤ length w → length w ≤ j → from s i (due (drop j w)) k ≡ from s i after k
word-done s w i j k l u = ap (λ (m : Mode). from s i m k) (due_all w j l u)

-- the digits of an exponent, and what follows
pub power-run : (s : List ℕ) (a e : ℕ) (k : Stack) → Pass is_digit s a e → from s a power k ≡ from s e after k
power-run s a e k p = p.same power k (power-digit k) ∙ as_good s e power after k p.high refl (λ h. power-rest k _ (p.stop h))
