-- What a byte does in each mode, one law for each case that the code tells apart. Each is by computing. Assumes nothing.
use mathlib.Core.Path.{◌≡◌, refl, ◌∙◌}
use mathlib.Core.Bool.{true, false, not}
use mathlib.Core.List.{[], ◌∷◌}
use Prim.Native.Nat.{ℕ, ◌≤◌, ◌<◌}
use native.Mathlib.Omega.{arith}
use borrow.Author.Tests.{lt-ltb, le-ltb, ne_eqb, leb-true, leb-false, not-true, eqb-false}
use lib.Dec.{eqb}
use Rattle.octets.specs.Class.{is_digit}
use Rattle.octets.proofs.TestLaws.{and_parts}
use Rattle.json_text.specs.inner.Machine.{Stack, text, arr, obj, Role, label, plain, Mode, value, first, name, name₁, colon, after, str, esc, minus, nought}
use Rattle.json_text.specs.inner.Machine.{int, dot, frac, exp, sign, power, live, dead, deep, is_sign, is_esc, is_plain, closed, due, hexes, levels, opens, begin}
use Rattle.json_text.specs.inner.Machine.{ends, expo, point, step}
use Rattle.json_text.specs.Places.{is_ws}

-- no byte past the space is white space
pub not-ws : (b : ℕ) → 32 < b → is_ws b ≡ false
unfolding is_ws
not-ws b h = simp (ne_eqb b 32 (omega arith), ne_eqb b 9 (omega arith), ne_eqb b 10 (omega arith), ne_eqb b 13 (omega arith))

-- White space is passed over in each of these modes.
module _ (k : Stack) (b : ℕ) (h : is_ws b ≡ true) where
  pub ws-value : step value k b ≡ live value k
  unfolding step
  ws-value = simp h

  pub ws-name : step name k b ≡ live name k
  unfolding step
  ws-name = simp h

  pub ws-colon : step colon k b ≡ live colon k
  unfolding step
  ws-colon = simp h

  pub ws-first : step first k b ≡ live first k
  unfolding step
  ws-first = simp h

  pub ws-name₁ : step name₁ k b ≡ live name₁ k
  unfolding step
  ws-name₁ = simp h

-- after a value, unless it stands alone
module _ (b : ℕ) (h : is_ws b ≡ true) where
  pub ws-text : (d : ℕ) → step after (text d) b ≡ live after (text d)
  unfolding step ends
  ws-text d = simp h

  pub ws-arr : (k : Stack) → step after (arr k) b ≡ live after (arr k)
  unfolding step ends
  ws-arr k = simp h

  pub ws-obj : (k : Stack) → step after (obj k) b ≡ live after (obj k)
  unfolding step ends
  ws-obj k = simp h

module _ (k : Stack) (b : ℕ) where
  pub name-quote : b ≡ 34 → step name k b ≡ live (str label) k
  unfolding step is_ws
  name-quote h = rw h

  pub name-miss : is_ws b ≡ false → (b ≡ 34 → ⊥) → step name k b ≡ dead
  unfolding step
  name-miss w h = simp (w, ne_eqb b 34 h)

  pub colon-hit : b ≡ 58 → step colon k b ≡ live value k
  unfolding step is_ws
  colon-hit h = rw h

  pub colon-miss : is_ws b ≡ false → (b ≡ 58 → ⊥) → step colon k b ≡ dead
  unfolding step
  colon-miss w h = simp (w, ne_eqb b 58 h)

-- Strings.
module _ (w : Role) (k : Stack) (b : ℕ) where
  pub esc-hit : is_esc b ≡ true → step (esc w) k b ≡ live (str w) k
  unfolding step
  esc-hit h = simp h

  pub esc-u : b ≡ 117 → step (esc w) k b ≡ live (hexes w 4) k
  unfolding step is_esc
  esc-u h = rw h

  pub esc-miss : is_esc b ≡ false → (b ≡ 117 → ⊥) → step (esc w) k b ≡ dead
  unfolding step
  esc-miss h u = simp (h, ne_eqb b 117 u)

  pub str-quote : b ≡ 34 → step (str w) k b ≡ live (closed w) k
  unfolding step
  str-quote h = rw h

  pub str-back : b ≡ 92 → step (str w) k b ≡ live (esc w) k
  unfolding step
  str-back h = rw h

  pub str_ctl : (b ≡ 34 → ⊥) → (b ≡ 92 → ⊥) → b < 32 → step (str w) k b ≡ dead
  unfolding step
  str_ctl h₁ h₂ h₃ = simp (ne_eqb b 34 h₁, ne_eqb b 92 h₂, lt-ltb b 32 h₃)

  pub str-char : (b ≡ 34 → ⊥) → (b ≡ 92 → ⊥) → 32 ≤ b → step (str w) k b ≡ live (str w) k
  unfolding step
  str-char h₁ h₂ h₃ = simp (ne_eqb b 34 h₁, ne_eqb b 92 h₂, le-ltb b 32 h₃)

  -- a plain byte goes on
  pub str-plain : is_plain b ≡ true → step (str w) k b ≡ live (str w) k
  unfolding is_plain
  str-plain h =
      let p = and_parts (not (eqb b 34)) _ h in
      let q = and_parts (not (eqb b 92)) _ p.1 in
      str-char (eqb-false b 34 (not-true _ p.0)) (eqb-false b 92 (not-true _ q.0)) (leb-true 32 b q.1)

-- a byte of a string that is neither plain, a quote nor a backslash is a control
pub not_plain : (b : ℕ) → is_plain b ≡ false → (b ≡ 34 → ⊥) → (b ≡ 92 → ⊥) → b < 32
unfolding is_plain
not_plain b h h₁ h₂ = leb-false 32 b (simp (ne_eqb b 34 h₁, ne_eqb b 92 h₂) at h)

-- Numbers.
module _ (k : Stack) (b : ℕ) where
  pub exp-digit : is_digit b ≡ true → step exp k b ≡ live power k
  unfolding step
  exp-digit h = simp h

  pub exp-sign : is_digit b ≡ false → is_sign b ≡ true → step exp k b ≡ live sign k
  unfolding step
  exp-sign h g = simp (h, g)

  pub exp-miss : is_digit b ≡ false → is_sign b ≡ false → step exp k b ≡ dead
  unfolding step
  exp-miss h g = simp (h, g)

  pub sign-digit : is_digit b ≡ true → step sign k b ≡ live power k
  unfolding step
  sign-digit h = simp h

  pub sign-miss : is_digit b ≡ false → step sign k b ≡ dead
  unfolding step
  sign-miss h = simp h

  pub power-digit : is_digit b ≡ true → step power k b ≡ live power k
  unfolding step
  power-digit h = simp h

  pub power-rest : is_digit b ≡ false → step power k b ≡ step after k b
  unfolding step
  power-rest h = simp h

  pub expo-e : b ≡ 101 → expo k b ≡ live exp k
  unfolding expo
  expo-e h = rw h

  pub expo-E : b ≡ 69 → expo k b ≡ live exp k
  unfolding expo
  expo-E h = rw h

  pub expo-rest : (b ≡ 101 → ⊥) → (b ≡ 69 → ⊥) → expo k b ≡ step after k b
  unfolding expo step
  expo-rest h g = simp (ne_eqb b 101 h, ne_eqb b 69 g)

  pub point-dot : b ≡ 46 → point k b ≡ live dot k
  unfolding point
  point-dot h = rw h

  pub point-rest : (b ≡ 46 → ⊥) → point k b ≡ expo k b
  unfolding point
  point-rest h = simp (ne_eqb b 46 h)

  pub dot-digit : is_digit b ≡ true → step dot k b ≡ live frac k
  unfolding step
  dot-digit h = simp h

  pub dot-miss : is_digit b ≡ false → step dot k b ≡ dead
  unfolding step
  dot-miss h = simp h

  pub frac-digit : is_digit b ≡ true → step frac k b ≡ live frac k
  unfolding step
  frac-digit h = simp h

  pub frac-rest : is_digit b ≡ false → step frac k b ≡ expo k b
  unfolding step
  frac-rest h = simp h

  pub int-digit : is_digit b ≡ true → step int k b ≡ live int k
  unfolding step
  int-digit h = simp h

  pub int-rest : is_digit b ≡ false → step int k b ≡ point k b
  unfolding step
  int-rest h = simp h

  pub nought-rest : step nought k b ≡ point k b
  unfolding step
  nought-rest = refl

  pub minus-zero : b ≡ 48 → step minus k b ≡ live nought k
  unfolding step
  minus-zero h = rw h

  pub minus-digit : (b ≡ 48 → ⊥) → is_digit b ≡ true → step minus k b ≡ live int k
  unfolding step
  minus-digit h g = simp (ne_eqb b 48 h, g)

  pub minus-miss : (b ≡ 48 → ⊥) → is_digit b ≡ false → step minus k b ≡ dead
  unfolding step
  minus-miss h g = simp (ne_eqb b 48 h, g)

-- The start of a value.
module _ (k : Stack) (b : ℕ) where
  pub value-quote : b ≡ 34 → step value k b ≡ live (str plain) k
  unfolding step begin is_ws
  value-quote h = rw h

  value_open_arr : b ≡ 91 → step value k b ≡ opens arr first k
  unfolding step begin is_ws
  value_open_arr h = rw h

  value_open_obj : b ≡ 123 → step value k b ≡ opens obj name₁ k
  unfolding step begin is_ws
  value_open_obj h = rw h

  opens-live : (f : Stack → Stack) (m : Mode) → 0 < levels k → opens f m k ≡ live m (f k)
  unfolding opens
  opens-live f m h = simp (lt-ltb 0 (levels k) h)

  opens-deep : (f : Stack → Stack) (m : Mode) → levels k ≤ 0 → opens f m k ≡ deep
  unfolding opens
  opens-deep f m h = simp (le-ltb 0 (levels k) h)

  pub value-arr : b ≡ 91 → 0 < levels k → step value k b ≡ live first (arr k)
  value-arr h l = value_open_arr h ∙ opens-live arr first l

  pub value-arr-deep : b ≡ 91 → levels k ≤ 0 → step value k b ≡ deep
  value-arr-deep h l = value_open_arr h ∙ opens-deep arr first l

  pub value-obj : b ≡ 123 → 0 < levels k → step value k b ≡ live name₁ (obj k)
  value-obj h l = value_open_obj h ∙ opens-live obj name₁ l

  pub value-obj-deep : b ≡ 123 → levels k ≤ 0 → step value k b ≡ deep
  value-obj-deep h l = value_open_obj h ∙ opens-deep obj name₁ l

  pub value-t : b ≡ 116 → step value k b ≡ live (due (114 ∷ 117 ∷ 101 ∷ [])) k
  unfolding step begin is_ws
  value-t h = rw h

  pub value-f : b ≡ 102 → step value k b ≡ live (due (97 ∷ 108 ∷ 115 ∷ 101 ∷ [])) k
  unfolding step begin is_ws
  value-f h = rw h

  pub value-n : b ≡ 110 → step value k b ≡ live (due (117 ∷ 108 ∷ 108 ∷ [])) k
  unfolding step begin is_ws
  value-n h = rw h

  pub value-minus : b ≡ 45 → step value k b ≡ live minus k
  unfolding step begin is_ws
  value-minus h = rw h

  pub value-zero : b ≡ 48 → step value k b ≡ live nought k
  unfolding step begin is_ws
  value-zero h = rw h

  -- what starts no string, literal name, bracket or minus sign does what it does after a minus sign
  pub value-rest : is_ws b ≡ false → (b ≡ 34 → ⊥) → (b ≡ 91 → ⊥) → (b ≡ 123 → ⊥) → (b ≡ 116 → ⊥) → (b ≡ 102 → ⊥) → (b ≡ 110 → ⊥) → (b ≡ 45 → ⊥) → step value k b ≡ step minus k b
  unfolding step begin
  value-rest w h₁ h₂ h₃ h₄ h₅ h₆ h₇ = simp (w, ne_eqb b 34 h₁, ne_eqb b 91 h₂, ne_eqb b 123 h₃, ne_eqb b 116 h₄, ne_eqb b 102 h₅, ne_eqb b 110 h₆, ne_eqb b 45 h₇)

-- Inside brackets.
module _ (k : Stack) (b : ℕ) where
  pub first_close : b ≡ 93 → step first (arr k) b ≡ live after k
  unfolding step is_ws
  first_close h = rw h

  pub first-value : is_ws b ≡ false → (b ≡ 93 → ⊥) → step first (arr k) b ≡ step value (arr k) b
  unfolding step
  first-value w h = simp (w, ne_eqb b 93 h)

  pub arr-comma : b ≡ 44 → step after (arr k) b ≡ live value (arr k)
  unfolding step ends is_ws
  arr-comma h = rw h

  pub arr_close : b ≡ 93 → step after (arr k) b ≡ live after k
  unfolding step ends is_ws
  arr_close h = rw h

  pub arr-miss : is_ws b ≡ false → (b ≡ 93 → ⊥) → (b ≡ 44 → ⊥) → step after (arr k) b ≡ dead
  unfolding step ends
  arr-miss w h g = simp (w, ne_eqb b 93 h, ne_eqb b 44 g)

  pub name₁_close : b ≡ 125 → step name₁ (obj k) b ≡ live after k
  unfolding step is_ws
  name₁_close h = rw h

  pub name₁-name : is_ws b ≡ false → (b ≡ 125 → ⊥) → step name₁ (obj k) b ≡ step name (obj k) b
  unfolding step
  name₁-name w h = simp (w, ne_eqb b 125 h)

  pub obj-comma : b ≡ 44 → step after (obj k) b ≡ live name (obj k)
  unfolding step ends is_ws
  obj-comma h = rw h

  pub obj_close : b ≡ 125 → step after (obj k) b ≡ live after k
  unfolding step ends is_ws
  obj_close h = rw h

  pub obj-miss : is_ws b ≡ false → (b ≡ 125 → ⊥) → (b ≡ 44 → ⊥) → step after (obj k) b ≡ dead
  unfolding step ends
  obj-miss w h g = simp (w, ne_eqb b 125 h, ne_eqb b 44 g)
