-- Where the machine says that a value ends, there the places say it ends: a reader that found a value's end need not look for it again (`ends_at`, and
-- `ends_open` for a string, an array or an object). A number or a literal goes up to the first mark, and so does the scan. Assumes nothing.
use mathlib.Core.Path.{◌≡◌, refl, sym, ap, subst, ◌∙◌}
use mathlib.Core.Logic.{◌⊎◌, inl, inr}
use mathlib.Core.Bool.{Bool, true, false, ◌||◌, cond}
use mathlib.Core.List.{List, [], ◌∷◌, ◌++◌}
use Prim.Native.Nat.{ℕ, suc, ◌≤◌, ◌<◌}
use native.Mathlib.Omega.{arith}
use lib.ListN.{length, drop, get_or, length-drop}
use lib.Dec.{eqb}
use borrow.Author.Tests.{eqb-true, ne_eqb}
use Rattle.octets.specs.Class.{is_digit}
use Rattle.octets.proofs.ClassLaws.{digit_in}
use Rattle.octets.proofs.TestLaws.{or_split}
use Rattle.json_text.specs.inner.Machine.{alone, done, Mode, value, first, name, name₁, colon, after, str, esc, hex, word, minus, nought, int, dot, frac, exp}
use Rattle.json_text.specs.inner.Machine.{sign, power, Next, live, dead, deep, is_sign, due, begin, ends, step, over, stops, walk, from, expo, point, one}
use Rattle.json_text.specs.Places.{is_open, is_shut, is_mark, unmarked, size, behind, is_ws}
use Rattle.json_text.proofs.Listing.{Ink, at_byte, at-inside, at-skip}
use Rattle.json_text.proofs.OwnBytes.{then, run, split}
use Rattle.json_text.proofs.ScanLaws.{sign-is, Opener, Opened, opened-whole}
use Rattle.std.specs.Prelude.{Ok}

-- Numbers and literals: no byte of theirs is a mark.
abbrev pub Unmarked : List ℕ → Type 0
Unmarked [] = Unit
Unmarked (b ∷ v) = (is_mark b ≡ false) × Unmarked v

-- white space is a mark
pub ws_mark : (b : ℕ) → is_ws b ≡ true → is_mark b ≡ true
unfolding is_mark
ws_mark b h = simp h

pub unmark : (b : ℕ) → 32 < b → (b ≡ 44 → ⊥) → (b ≡ 93 → ⊥) → (b ≡ 125 → ⊥) → is_mark b ≡ false
unfolding is_mark is_shut is_ws
unmark b l h₁ h₂ h₃ = simp (
  ne_eqb b 32 (omega arith),
  ne_eqb b 9 (omega arith),
  ne_eqb b 10 (omega arith),
  ne_eqb b 13 (omega arith),
  ne_eqb b 44 h₁,
  ne_eqb b 93 h₂,
  ne_eqb b 125 h₃,
)

pub letter : (b : ℕ) → 97 ≤ b → b ≤ 122 → is_mark b ≡ false
letter b l u = unmark b (omega arith) (omega arith) (omega arith) (omega arith)

abbrev Scalar : Mode → Type 0
Scalar value = ⊥
Scalar first = ⊥
Scalar name = ⊥
Scalar name₁ = ⊥
Scalar colon = ⊥
Scalar after = Unit
Scalar (str w) = ⊥
Scalar (esc w) = ⊥
Scalar (hex w n) = ⊥
Scalar (word x xs) = (is_mark x ≡ false) × Unmarked xs
Scalar minus = Unit
Scalar nought = Unit
Scalar int = Unit
Scalar dot = Unit
Scalar frac = Unit
Scalar exp = Unit
Scalar sign = Unit
Scalar power = Unit

data Plainly (d b : ℕ) : Next → Type 0 where
  goes : {m : Mode} → is_mark b ≡ false → Scalar m → Plainly d b (live m (alone d))
  refused : Plainly d b dead
  sunk : Plainly d b deep
  late : Plainly d b done

or_else : {d b : ℕ} (t : Bool) {n n' : Next} → (t ≡ true → Plainly d b n) → (t ≡ false → Plainly d b n') → Plainly d b (cond t n n')
or_else true f g = f refl
or_else false f g = g refl

module _ (d b : ℕ) where
  at-digit : (m : Mode) → Scalar m → is_digit b ≡ true → Plainly d b (live m (alone d))
  at-digit m s e = let h = digit_in b e in let l = h.0 in let u = h.1 in goes (unmark b (omega arith) (omega arith) (omega arith) (omega arith)) s

  at_byte' : (c : ℕ) (m : Mode) → Scalar m → eqb b c ≡ true → is_mark c ≡ false → Plainly d b (live m (alone d))
  at_byte' c m s e h = goes (ap is_mark (eqb-true b c e) ∙ h) s

  plain-ends : Plainly d b (ends (alone d) b)
  unfolding ends
  plain-ends = late

  plain-expo : Plainly d b (expo (alone d) b)
  unfolding expo
  plain-expo = or_else (eqb b 101 || eqb b 69) (λ e. go (or_split (eqb b 101) (eqb b 69) e)) (λ _. plain-ends)
    where
      go : (eqb b 101 ≡ true) ⊎ (eqb b 69 ≡ true) → Plainly d b (live exp (alone d))
      go (inl h) = at_byte' 101 exp tt h (unmark 101 (omega arith) (omega arith) (omega arith) (omega arith))
      go (inr h) = at_byte' 69 exp tt h (unmark 69 (omega arith) (omega arith) (omega arith) (omega arith))

  plain-point : Plainly d b (point (alone d) b)
  unfolding point
  plain-point = or_else (eqb b 46) (λ e. at_byte' 46 dot tt e (unmark 46 (omega arith) (omega arith) (omega arith) (omega arith))) (λ _. plain-expo)

  plain-sign : is_sign b ≡ true → Plainly d b (live sign (alone d))
  plain-sign e = go (sign-is b e)
    where
      go : (b ≡ 43) ⊎ (b ≡ 45) → Plainly d b (live sign (alone d))
      go (inl z) = goes (unmark b (omega arith) (omega arith) (omega arith) (omega arith)) tt
      go (inr z) = goes (unmark b (omega arith) (omega arith) (omega arith) (omega arith)) tt

  scalar_due : (xs : List ℕ) → Unmarked xs → Scalar (due xs)
  unfolding due
  scalar_due [] h = tt
  scalar_due (x ∷ xs) h = h

  plain_step : (m : Mode) → Scalar m → Plainly d b (step m (alone d) b)
  unfolding step
  plain_step value s = absurd s
  plain_step first s = absurd s
  plain_step name s = absurd s
  plain_step name₁ s = absurd s
  plain_step colon s = absurd s
  plain_step after s = plain-ends
  plain_step (str w) s = absurd s
  plain_step (esc w) s = absurd s
  plain_step (hex w n) s = absurd s
  plain_step (word x xs) s = or_else (eqb b x) (λ e. at_byte' x (due xs) (scalar_due xs s.1) e s.0) (λ _. refused)
  plain_step minus s = or_else (eqb b 48) (λ e. at_byte' 48 nought tt e (unmark 48 (omega arith) (omega arith) (omega arith) (omega arith)))
      (λ _. or_else (is_digit b) (at-digit int tt) (λ _. refused))
  plain_step nought s = plain-point
  plain_step int s = or_else (is_digit b) (at-digit int tt) (λ _. plain-point)
  plain_step dot s = or_else (is_digit b) (at-digit frac tt) (λ _. refused)
  plain_step frac s = or_else (is_digit b) (at-digit frac tt) (λ _. plain-expo)
  plain_step exp s = or_else (is_digit b) (at-digit power tt) (λ _. or_else (is_sign b) plain-sign (λ _. refused))
  plain_step sign s = or_else (is_digit b) (at-digit power tt) (λ _. refused)
  plain_step power s = or_else (is_digit b) (at-digit power tt) (λ _. plain-ends)

  plain-begin : eqb b 34 ≡ false → eqb b 91 ≡ false → eqb b 123 ≡ false → Plainly d b (begin (alone d) b)
  unfolding begin due
  plain-begin h₁ h₂ h₃ =
      or_else (eqb b 34) (λ e. absurd (contra (sym h₁ ∙ e)))
      (λ _. or_else (eqb b 91) (λ e. absurd (contra (sym h₂ ∙ e))) (λ _. or_else (eqb b 123) (λ e. absurd (contra (sym h₃ ∙ e)))
      (λ _. or_else (eqb b 116) (λ e. at_byte' 116 (word 114 (117 ∷ 101 ∷ []))
      (letter 114 (omega arith) (omega arith), (letter 117 (omega arith) (omega arith), (letter 101 (omega arith) (omega arith), tt))) e
      (letter 116 (omega arith) (omega arith)))
      (λ _. or_else (eqb b 102) (λ e. at_byte' 102 (word 97 (108 ∷ 115 ∷ 101 ∷ []))
      (letter 97 (omega arith) (omega arith), (letter 108 (omega arith) (omega arith), (letter 115 (omega arith) (omega arith), (letter 101 (omega arith) (omega arith), tt))))
      e (letter 102 (omega arith) (omega arith)))
      (λ _. or_else (eqb b 110) (λ e. at_byte' 110 (word 117 (108 ∷ 108 ∷ []))
      (letter 117 (omega arith) (omega arith), (letter 108 (omega arith) (omega arith), (letter 108 (omega arith) (omega arith), tt))) e
      (letter 110 (omega arith) (omega arith)))
      (λ _. or_else (eqb b 45) (λ e. at_byte' 45 minus tt e (unmark 45 (omega arith) (omega arith) (omega arith) (omega arith)))
      (λ _. or_else (eqb b 48) (λ e. at_byte' 48 nought tt e (unmark 48 (omega arith) (omega arith) (omega arith) (omega arith)))
      (λ _. or_else (is_digit b) (at-digit int tt) (λ _. refused)))))))))
    where
      contra : ◌≡◌ {A = Bool} false true → ⊥
      contra e = let z : ◌≡◌ {A = ℕ} 0 1 = cc in omega arith

plain_then : (d b : ℕ) (v : List ℕ) (m' : Mode) (n : Next) → Plainly d b n → ((m : Mode) → Scalar m → run v m (alone d) ≡ live m' (alone d) → Unmarked v)
    → then n (run v) ≡ live m' (alone d) → Unmarked (b ∷ v)
plain_then d b v m' n (goes {m} h s) ih e = (h, ih m s e)
plain_then d b v m' n refused ih e = let z : ◌≡◌ {A = ℕ} 0 1 = cc in absurd (omega arith)
plain_then d b v m' n sunk ih e = let z : ◌≡◌ {A = ℕ} 0 1 = cc in absurd (omega arith)
plain_then d b v m' n late ih e = let z : ◌≡◌ {A = ℕ} 0 1 = cc in absurd (omega arith)

plain-run : (d : ℕ) (v : List ℕ) (m m' : Mode) → Scalar m → run v m (alone d) ≡ live m' (alone d) → Unmarked v
unfolding run
plain-run d [] m m' s e = tt
plain-run d (b ∷ v) m m' s e = plain_then d b v m' (step m (alone d) b) (plain_step d b m s) (λ m₁ s₁ e₁. plain-run d v m₁ m' s₁ e₁) e

-- what follows a number or a literal is a mark, or nothing
abbrev pub Marked : List ℕ → Type 0
Marked [] = Unit
Marked (b ∷ t) = is_mark b ≡ true

unmarked-over : (v t : List ℕ) → Unmarked v → Marked t → unmarked (v ++ t) ≡ length v
unfolding unmarked
unmarked-over [] [] h m = refl
unmarked-over [] (b ∷ t) h m = simp m
unmarked-over (b ∷ v) t h m = simp h.0 (ap suc (unmarked-over v t h.1 m))

pub plain_size : (b : ℕ) (v t : List ℕ) → eqb b 34 ≡ false → eqb b 91 ≡ false → eqb b 123 ≡ false → Unmarked (b ∷ v) → Marked t → size ((b ∷ v) ++ t) ≡ length (b ∷ v)
unfolding size is_open
plain_size b v t h₁ h₂ h₃ u m = simp (h₁, h₂, h₃) (unmarked-over (b ∷ v) t u m)

step_value : (d b : ℕ) → is_ws b ≡ false → step value (alone d) b ≡ begin (alone d) b
unfolding step
step_value d b h = simp h

-- any value: where a mark follows, or where it is a string, an array or an object, the scan ends with it
module _ (d b : ℕ) (v t : List ℕ) (m' : Mode) (ink : is_ws b ≡ false) (f : over m' ≡ true) (e : run (b ∷ v) value (alone d) ≡ live m' (alone d)) (m : Marked t) where
  size-by : (x y z : Bool) → eqb b 34 ≡ x → eqb b 91 ≡ y → eqb b 123 ≡ z → size ((b ∷ v) ++ t) ≡ length (b ∷ v)
  unfolding run
  size-by true y z h₁ h₂ h₃ = (opened-whole d (b ∷ v) t m' (inl (eqb-true b 34 h₁)) f e).ends
  size-by false true z h₁ h₂ h₃ = (opened-whole d (b ∷ v) t m' (inr (inl (eqb-true b 91 h₂))) f e).ends
  size-by false false true h₁ h₂ h₃ = (opened-whole d (b ∷ v) t m' (inr (inr (eqb-true b 123 h₃))) f e).ends
  size-by false false false h₁ h₂ h₃ =
      plain_size b v t h₁ h₂ h₃ (plain_then d b v m' (begin (alone d) b) (plain-begin d b h₁ h₂ h₃) (λ m₁ s₁ e₁. plain-run d v m₁ m' s₁ e₁)
      (ap (λ (n : Next). then n (run v)) (sym (step_value d b ink)) ∙ e)) m

  value-size : size ((b ∷ v) ++ t) ≡ length (b ∷ v)
  value-size = size-by (eqb b 34) (eqb b 91) (eqb b 123) refl refl refl

pub run-size : (d : ℕ) (v t : List ℕ) (m' : Mode) → Ink (v ++ t) → over m' ≡ true → run v value (alone d) ≡ live m' (alone d) → Marked t → size (v ++ t) ≡ length v
unfolding run
run-size d [] t m' i f e m = let p : value ≡ m' = cc in let z : false ≡ true = ap over p ∙ f in let y : ◌≡◌ {A = ℕ} 0 1 = cc in absurd (omega arith)
run-size d (b ∷ v) t m' i f e m = value-size d b v t m' i f e m

-- THE LAW: where the machine says that the value at a ends, with d levels left, there it ends; a number or a literal must have a mark behind it
marked-at : (s q : List ℕ) (e : ℕ) → drop e s ≡ q → (e < length s → is_mark (get_or s e 0) ≡ true) → Marked q
marked-at s [] e h f = tt
marked-at s (b ∷ q) e h f = ap is_mark (sym (at_byte b q s e h)) ∙ f (at-inside b q s e h)

ink-at : (s bs : List ℕ) (a : ℕ) → drop a s ≡ bs → a < length s → is_ws (get_or s a 0) ≡ false → Ink bs
ink-at s [] a h l f = absurd (omega (arith, length-drop a s, ap length h))
ink-at s (b ∷ bs) a h l f = ap is_ws (sym (at_byte b bs s a h)) ∙ f

pub ends_at : (d : ℕ) (s : List ℕ) (a e : ℕ) → a < length s → is_ws (get_or s a 0) ≡ false → one d s a ≡ Ok e → (e < length s → is_mark (get_or s e 0) ≡ true) → behind s a ≡ e
unfolding from behind
ends_at d s a e l i h f =
    let r = split d (drop a s) a e h in
    let k : drop e s ≡ r.q = ap (λ (n : ℕ). drop n s) r.far ∙ at-skip r.v r.q s a r.is in
    let z = run-size d r.v r.q r.m' (ink-at s (r.v ++ r.q) a r.is l i) r.fin r.runs (marked-at s r.q e k f) in
    omega (arith, ap size r.is, z, r.far)

-- the same of a string, an array or an object, whatever follows
pub opened-at : (s bs : List ℕ) (a : ℕ) → drop a s ≡ bs → a < length s → Opener (get_or s a 0) → Opened bs
opened-at s [] a h l o = absurd (omega (arith, length-drop a s, ap length h))
opened-at s (b ∷ bs) a h l o = subst Opener (at_byte b bs s a h) o

opened-front : (d : ℕ) (v q : List ℕ) (m' : Mode) → over m' ≡ true → run v value (alone d) ≡ live m' (alone d) → Opened (v ++ q) → Opened v
unfolding run
opened-front d [] q m' f e o = let p : value ≡ m' = cc in let z : false ≡ true = ap over p ∙ f in let y : ◌≡◌ {A = ℕ} 0 1 = cc in absurd (omega arith)
opened-front d (b ∷ v) q m' f e o = o

pub ends_open : (d : ℕ) (s : List ℕ) (a e : ℕ) → a < length s → Opener (get_or s a 0) → one d s a ≡ Ok e → behind s a ≡ e
unfolding from behind
ends_open d s a e l o h =
    let r = split d (drop a s) a e h in
    let p = opened-front d r.v r.q r.m' r.fin r.runs (subst Opened r.is (opened-at s (drop a s) a refl l o)) in
    let z = opened-whole d r.v r.q r.m' p r.fin r.runs in
    omega (arith, ap size r.is, z.ends, r.far)

-- a value by itself that is over
pub walk-over : (t : List ℕ) (d i : ℕ) → walk t after (alone d) i ≡ Ok i
unfolding walk stops step ends
walk-over [] d i = refl
walk-over (b ∷ t) d i = refl
