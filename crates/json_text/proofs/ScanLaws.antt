-- The scan of `Places` follows the machine byte by byte: it is in a string where the machine is in one, and has as many brackets open (`Sees`). So over a
-- string, an array or an object it comes to its end with the last byte, whatever follows (`opened-whole`). Cited by proofs/EndLaws.antt and by crate
-- `frame`. Assumes nothing.
use mathlib.Core.Path.{◌≡◌, refl, sym, ap, subst, ◌∙◌}
use mathlib.Core.Logic.{◌⊎◌, inl, inr}
use mathlib.Core.Bool.{Bool, true, false, ◌||◌, cond}
use mathlib.Core.List.{List, [], ◌∷◌, ◌++◌}
use Prim.Native.Nat.{ℕ, zero, suc, ◌-◌, ◌≤◌, ◌<◌}
use native.Mathlib.Omega.{arith}
use lib.ListN.{length}
use lib.Dec.{eqb, ltb}
use borrow.Author.Tests.{eqb-true, ne_eqb}
use Rattle.octets.specs.Class.{is_digit, among}
use Rattle.octets.proofs.ClassLaws.{digit_in}
use Rattle.octets.proofs.TestLaws.{or_split}
use Rattle.json_text.specs.inner.Machine.{Stack, alone, text, arr, obj, levels, shut, done, Role, label, plain, Mode, value, first, name, name₁, colon, after}
use Rattle.json_text.specs.inner.Machine.{str, esc, hex, word, minus, nought, int, dot, frac, exp, sign, power, Next, live, dead, deep, is_hex_digit, is_esc}
use Rattle.json_text.specs.inner.Machine.{is_sign, closed, due, hexes, opens, begin, ends, step, over, expo, point}
use Rattle.json_text.specs.Places.{is_open, is_shut, Inside, outside, quoted, escaped, left, size, is_ws}
use Rattle.json_text.proofs.PlaceLaws.{left-none}
use Rattle.json_text.proofs.OwnBytes.{then, run}

-- where the scan stands, by where the machine does; and how many brackets are open
abbrev inside_of : Mode → Inside
inside_of value = outside
inside_of first = outside
inside_of name = outside
inside_of name₁ = outside
inside_of colon = outside
inside_of after = outside
inside_of (str w) = quoted
inside_of (esc w) = escaped
inside_of (hex w n) = quoted
inside_of (word x xs) = outside
inside_of minus = outside
inside_of nought = outside
inside_of int = outside
inside_of dot = outside
inside_of frac = outside
inside_of exp = outside
inside_of sign = outside
inside_of power = outside

abbrev height : Stack → ℕ
height (alone d) = 0
height (text d) = 0
height (arr s) = suc (height s)
height (obj s) = suc (height s)

-- a byte that the scan passes over outside strings
pub record Calm (b : ℕ) : Type 0 where
  pub no-quote : eqb b 34 ≡ false
  pub no_open : is_open b ≡ false
  pub no-shut : is_shut b ≡ false

abbrev AllCalm : List ℕ → Type 0
AllCalm [] = Unit
AllCalm (x ∷ xs) = Calm x × AllCalm xs

pub calm : (b : ℕ) → (b ≡ 34 → ⊥) → (b ≡ 91 → ⊥) → (b ≡ 93 → ⊥) → (b ≡ 123 → ⊥) → (b ≡ 125 → ⊥) → Calm b
unfolding is_open is_shut
calm b h₁ h₂ h₃ h₄ h₅ = record { no-quote = ne_eqb b 34 h₁; no_open = simp (ne_eqb b 91 h₂, ne_eqb b 123 h₄); no-shut = simp (ne_eqb b 93 h₃, ne_eqb b 125 h₅) }

pub ws-low : (b : ℕ) → is_ws b ≡ true → b ≤ 32
unfolding is_ws
ws-low b e = go (or_split (eqb b 32) _ e)
  where
    third : (eqb b 10 ≡ true) ⊎ (eqb b 13 ≡ true) → b ≤ 32
    third (inl h) = omega (arith, eqb-true b 10 h)
    third (inr h) = omega (arith, eqb-true b 13 h)

    second : (eqb b 9 ≡ true) ⊎ ((eqb b 10 || eqb b 13) ≡ true) → b ≤ 32
    second (inl h) = omega (arith, eqb-true b 9 h)
    second (inr h) = third (or_split (eqb b 10) _ h)

    go : (eqb b 32 ≡ true) ⊎ ((eqb b 9 || (eqb b 10 || eqb b 13)) ≡ true) → b ≤ 32
    go (inl h) = omega (arith, eqb-true b 32 h)
    go (inr h) = second (or_split (eqb b 9) _ h)

calm-ws : (b : ℕ) → is_ws b ≡ true → Calm b
calm-ws b e = let h = ws-low b e in calm b (omega arith) (omega arith) (omega arith) (omega arith) (omega arith)

pub calm-digit : (b : ℕ) → is_digit b ≡ true → Calm b
calm-digit b e = let h = digit_in b e in let l = h.0 in let u = h.1 in calm b (omega arith) (omega arith) (omega arith) (omega arith) (omega arith)

-- b is c
calm-is : (b c : ℕ) → eqb b c ≡ true → Calm c → Calm b
calm-is b c e h = subst Calm (sym (eqb-true b c e)) h

calm-expo : (b : ℕ) → (eqb b 101 || eqb b 69) ≡ true → Calm b
calm-expo b e = go (or_split (eqb b 101) (eqb b 69) e)
  where
    go : (eqb b 101 ≡ true) ⊎ (eqb b 69 ≡ true) → Calm b
    go (inl h) = let z = eqb-true b 101 h in calm b (omega arith) (omega arith) (omega arith) (omega arith) (omega arith)
    go (inr h) = let z = eqb-true b 69 h in calm b (omega arith) (omega arith) (omega arith) (omega arith) (omega arith)

pub sign-is : (b : ℕ) → is_sign b ≡ true → (b ≡ 43) ⊎ (b ≡ 45)
unfolding is_sign
sign-is b e = go (or_split (eqb b 43) (eqb b 45) e)
  where
    go : (eqb b 43 ≡ true) ⊎ (eqb b 45 ≡ true) → (b ≡ 43) ⊎ (b ≡ 45)
    go (inl h) = inl (eqb-true b 43 h)
    go (inr h) = inr (eqb-true b 45 h)

calm-sign : (b : ℕ) → is_sign b ≡ true → Calm b
calm-sign b e = go (sign-is b e)
  where
    go : (b ≡ 43) ⊎ (b ≡ 45) → Calm b
    go (inl z) = calm b (omega arith) (omega arith) (omega arith) (omega arith) (omega arith)
    go (inr z) = calm b (omega arith) (omega arith) (omega arith) (omega arith) (omega arith)

calm-at : (b c : ℕ) → eqb b c ≡ true → c < 91 → (c ≡ 34 → ⊥) → Calm b
calm-at b c e l h = let z = eqb-true b c e in calm b (λ g. h (sym z ∙ g)) (omega arith) (omega arith) (omega arith) (omega arith)

pub calm-letter : (b : ℕ) → 97 ≤ b → b ≤ 122 → Calm b
calm-letter b l u = calm b (omega arith) (omega arith) (omega arith) (omega arith) (omega arith)

calm_as : (b c : ℕ) → eqb b c ≡ true → 97 ≤ c → c ≤ 122 → Calm b
calm_as b c e l u = calm-is b c e (calm-letter c l u)

-- the bytes of a literal are letters
abbrev Sane : Mode → Type 0
Sane value = Unit
Sane first = Unit
Sane name = Unit
Sane name₁ = Unit
Sane colon = Unit
Sane after = Unit
Sane (str w) = Unit
Sane (esc w) = Unit
Sane (hex w n) = Unit
Sane (word x xs) = Calm x × AllCalm xs
Sane minus = Unit
Sane nought = Unit
Sane int = Unit
Sane dot = Unit
Sane frac = Unit
Sane exp = Unit
Sane sign = Unit
Sane power = Unit

-- outside brackets the machine is in a string, or behind it
abbrev Out : Mode → Type 0
Out value = ⊥
Out first = ⊥
Out name = ⊥
Out name₁ = ⊥
Out colon = ⊥
Out after = Unit
Out (str label) = ⊥
Out (str plain) = Unit
Out (esc label) = ⊥
Out (esc plain) = Unit
Out (hex label n) = ⊥
Out (hex plain n) = Unit
Out (word x xs) = ⊥
Out minus = ⊥
Out nought = ⊥
Out int = ⊥
Out dot = ⊥
Out frac = ⊥
Out exp = ⊥
Out sign = ⊥
Out power = ⊥

-- a value by itself is at the bottom
abbrev Deeply : Stack → Type 0
Deeply (alone d) = Unit
Deeply (text d) = ⊥
Deeply (arr s) = Deeply s
Deeply (obj s) = Deeply s

-- where the machine can stand in a string, an array or an object
abbrev Ok : Mode → Stack → Type 0
Ok m (alone d) = Out m
Ok m (text d) = ⊥
Ok m (arr s) = Sane m × Deeply s
Ok m (obj s) = Sane m × Deeply s

ok-after : (s : Stack) → Deeply s → Ok after s
ok-after (alone d) h = tt
ok-after (text d) h = absurd h
ok-after (arr s) h = (tt, h)
ok-after (obj s) h = (tt, h)

-- what byte b does, where the scan is in x with h brackets open: the scan goes along
data Sees (x : Inside) (h b : ℕ) : Next → Type 0 where
  sees : {m : Mode} {s : Stack} → Ok m s → ((l : List ℕ) → left (b ∷ l) x h ≡ suc (left l (inside_of m) (height s))) → Sees x h b (live m s)
  refused : Sees x h b dead
  sunk : Sees x h b deep
  late : Sees x h b done

by : {x : Inside} {h b : ℕ} (t : Bool) {n n' : Next} → (t ≡ true → Sees x h b n) → (t ≡ false → Sees x h b n') → Sees x h b (cond t n n')
by true f g = f refl
by false f g = g refl

-- one byte of the scan
pub left-calm : (b : ℕ) (l : List ℕ) (h n : ℕ) → h ≡ suc n → Calm b → left (b ∷ l) outside h ≡ suc (left l outside h)
unfolding left
left-calm b l h n e c = rw e (simp (c.no-quote, c.no_open, c.no-shut))

pub left-quote : (b : ℕ) (l : List ℕ) (h n : ℕ) → h ≡ suc n → eqb b 34 ≡ true → left (b ∷ l) outside h ≡ suc (left l quoted h)
unfolding left is_open is_shut
left-quote b l h n e q = rw (e, eqb-true b 34 q)

pub left_open : (b : ℕ) (l : List ℕ) (h n : ℕ) → h ≡ suc n → eqb b 34 ≡ false → is_open b ≡ true → left (b ∷ l) outside h ≡ suc (left l outside (suc h))
unfolding left
left_open b l h n e q o = rw e (simp (q, o))

pub left-shut : (b : ℕ) (l : List ℕ) (h n : ℕ) → h ≡ suc n → eqb b 34 ≡ false → is_open b ≡ false → is_shut b ≡ true → left (b ∷ l) outside h ≡ suc (left l outside n)
unfolding left
left-shut b l h n e q o c = let z : suc n - 1 ≡ n = omega arith in rw e (simp (q, o, c, z))

pub left-closes : (b : ℕ) (l : List ℕ) (h : ℕ) → eqb b 34 ≡ true → left (b ∷ l) quoted h ≡ suc (left l outside h)
unfolding left
left-closes b l h q = simp q

pub left_back : (b : ℕ) (l : List ℕ) (h : ℕ) → eqb b 34 ≡ false → eqb b 92 ≡ true → left (b ∷ l) quoted h ≡ suc (left l escaped h)
unfolding left
left_back b l h q e = simp (q, e)

pub left-char : (b : ℕ) (l : List ℕ) (h : ℕ) → eqb b 34 ≡ false → eqb b 92 ≡ false → left (b ∷ l) quoted h ≡ suc (left l quoted h)
unfolding left
left-char b l h q e = simp (q, e)

pub left-taken : (b : ℕ) (l : List ℕ) (h : ℕ) → left (b ∷ l) escaped h ≡ suc (left l quoted h)
unfolding left
left-taken b l h = refl

pub hex_34 : (b : ℕ) (x : Bool) → eqb b 34 ≡ x → is_hex_digit b ≡ true → eqb b 34 ≡ false
unfolding is_hex_digit is_digit among
hex_34 b true h g = let z = eqb-true b 34 h in let y : is_hex_digit 34 ≡ true = ap is_hex_digit (sym z) ∙ g in let f : false ≡ true = y in cc
hex_34 b false h g = h

pub hex_92 : (b : ℕ) (x : Bool) → eqb b 92 ≡ x → is_hex_digit b ≡ true → eqb b 92 ≡ false
unfolding is_hex_digit is_digit among
hex_92 b true h g = let z = eqb-true b 92 h in let y : is_hex_digit 92 ≡ true = ap is_hex_digit (sym z) ∙ g in let f : false ≡ true = y in cc
hex_92 b false h g = h

inside-hexes : (w : Role) (n : ℕ) → inside_of (hexes w n) ≡ quoted
unfolding hexes
inside-hexes w zero = refl
inside-hexes w (suc n) = refl

inside-closed : (w : Role) → inside_of (closed w) ≡ outside
inside-closed label = refl
inside-closed plain = refl

inside-due : (xs : List ℕ) → inside_of (due xs) ≡ outside
unfolding due
inside-due [] = refl
inside-due (x ∷ xs) = refl

-- in a string
module _ (s : Stack) (w : Role) (b : ℕ) (okc : Ok (closed w) s) (oks : Ok (str w) s) (oke : Ok (esc w) s) (okh : (n : ℕ) → Ok (hexes w n) s) where
  see_str : Sees quoted (height s) b (step (str w) s b)
  unfolding step
  see_str =
      by (eqb b 34) (λ q. sees okc (λ l. left-closes b l (height s) q ∙ ap (λ (x : Inside). suc (left l x (height s))) (sym (inside-closed w))))
      (λ q. by (eqb b 92) (λ e. sees oke (λ l. left_back b l (height s) q e)) (λ e. by (ltb b 32) (λ _. refused) (λ _. sees oks (λ l. left-char b l (height s) q e))))

  see_esc : Sees escaped (height s) b (step (esc w) s b)
  unfolding step
  see_esc =
      by (is_esc b) (λ q. sees oks (λ l. left-taken b l (height s)))
      (λ q. by (eqb b 117) (λ e. sees (okh 4) (λ l. left-taken b l (height s) ∙ ap (λ (x : Inside). suc (left l x (height s))) (sym (inside-hexes w 4)))) (λ e. refused))

  see_hex : (n : ℕ) → Sees quoted (height s) b (step (hex w n) s b)
  unfolding step
  see_hex n = by (is_hex_digit b) (λ q. sees (okh n)
      (λ l. left-char b l (height s) (hex_34 b (eqb b 34) refl q) (hex_92 b (eqb b 92) refl q) ∙ ap (λ (x : Inside). suc (left l x (height s))) (sym (inside-hexes w n))))
      (λ q. refused)

-- inside a bracket: s is an array or an object in s'
module _ (s s' : Stack) (hs : height s ≡ suc (height s')) (dp : Deeply s) (dp' : Deeply s') (ok : (m : Mode) → Sane m → Ok m s) (sh : shut s ≡ s') (b : ℕ) where
  stay : (m : Mode) → Sane m → inside_of m ≡ outside → Calm b → Sees outside (height s) b (live m s)
  stay m o i c = sees (ok m o) (λ l. left-calm b l (height s) (height s') hs c ∙ ap (λ (x : Inside). suc (left l x (height s))) (sym i))

  shuts : eqb b 34 ≡ false → is_open b ≡ false → is_shut b ≡ true → Sees outside (height s) b (live after s')
  shuts q o c = sees (ok-after s' dp') (λ l. left-shut b l (height s) (height s') hs q o c)

  see_open : (f : Stack → Stack) (m : Mode) → Ok m (f s) → inside_of m ≡ outside → height (f s) ≡ suc (height s) → eqb b 34 ≡ false → is_open b ≡ true
      → Sees outside (height s) b (opens f m s)
  unfolding opens
  see_open f m o i g q c = by (ltb 0 (levels s))
      (λ _. sees o (λ l. left_open b l (height s) (height s') hs q c ∙ ap (λ (x : ℕ). suc (left l outside x)) (sym g)
      ∙ ap (λ (x : Inside). suc (left l x (height (f s)))) (sym i))) (λ _. sunk)

  see_begin : Sees outside (height s) b (begin s b)
  unfolding begin due is_open
  see_begin =
      by (eqb b 34) (λ q. sees (ok (str plain) tt) (λ l. left-quote b l (height s) (height s') hs q))
      (λ q. by (eqb b 91) (λ e. see_open arr first (tt, dp) refl refl q (simp e))
      (λ h₁. by (eqb b 123) (λ e. see_open obj name₁ (tt, dp) refl refl q (simp (h₁, e)))
      (λ h₂. by (eqb b 116) (λ e. stay (word 114 (117 ∷ 101 ∷ []))
      (calm-letter 114 (omega arith) (omega arith), (calm-letter 117 (omega arith) (omega arith), (calm-letter 101 (omega arith) (omega arith), tt))) refl
      (calm_as b 116 e (omega arith) (omega arith)))
      (λ h₃. by (eqb b 102) (λ e. stay (word 97 (108 ∷ 115 ∷ 101 ∷ [])) (
        calm-letter 97 (omega arith) (omega arith),
        (calm-letter 108 (omega arith) (omega arith), (calm-letter 115 (omega arith) (omega arith), (calm-letter 101 (omega arith) (omega arith), tt))),
      ) refl
      (calm_as b 102 e (omega arith) (omega arith)))
      (λ h₄. by (eqb b 110) (λ e. stay (word 117 (108 ∷ 108 ∷ []))
      (calm-letter 117 (omega arith) (omega arith), (calm-letter 108 (omega arith) (omega arith), (calm-letter 108 (omega arith) (omega arith), tt))) refl
      (calm_as b 110 e (omega arith) (omega arith)))
      (λ h₅. by (eqb b 45) (λ e. stay minus tt refl (calm-at b 45 e (omega arith) (omega arith)))
      (λ h₆. by (eqb b 48) (λ e. stay nought tt refl (calm-at b 48 e (omega arith) (omega arith)))
      (λ h₇. by (is_digit b) (λ e. stay int tt refl (calm-digit b e)) (λ h₈. refused)))))))))

  module _ (en : Sees outside (height s) b (ends s b)) where
    see_expo : Sees outside (height s) b (expo s b)
    unfolding expo
    see_expo = by (eqb b 101 || eqb b 69) (λ e. stay exp tt refl (calm-expo b e)) (λ _. en)

    see_point : Sees outside (height s) b (point s b)
    unfolding point
    see_point = by (eqb b 46) (λ e. stay dot tt refl (calm-at b 46 e (omega arith) (omega arith))) (λ _. see_expo)

    sane_due : (xs : List ℕ) → AllCalm xs → Sane (due xs)
    unfolding due
    sane_due [] h = tt
    sane_due (x ∷ xs) h = h

    ok-hexes : (w : Role) (n : ℕ) → Ok (hexes w n) s
    unfolding hexes
    ok-hexes w zero = ok (str w) tt
    ok-hexes w (suc n) = ok (hex w n) tt

    ok-closed : (w : Role) → Ok (closed w) s
    ok-closed label = ok colon tt
    ok-closed plain = ok after tt

    see_quote : (m : Mode) → Sane m → inside_of m ≡ quoted → eqb b 34 ≡ true → Sees outside (height s) b (live m s)
    see_quote m o i q = sees (ok m o) (λ l. left-quote b l (height s) (height s') hs q ∙ ap (λ (x : Inside). suc (left l x (height s))) (sym i))

    see_in : (m : Mode) → Sane m → Sees (inside_of m) (height s) b (step m s b)
    unfolding step is_open is_shut
    see_in value o = by (is_ws b) (λ e. stay value tt refl (calm-ws b e)) (λ _. see_begin)
    see_in first o = by (is_ws b) (λ e. stay first tt refl (calm-ws b e))
        (λ _. by (eqb b 93) (λ e. let z = eqb-true b 93 e in
        subst (λ (k : Stack). Sees outside (height s) b (live after k)) (sym sh)
        (shuts (ne_eqb b 34 (omega arith)) (simp (ne_eqb b 91 (omega arith), ne_eqb b 123 (omega arith))) (simp e))) (λ _. see_begin))
    see_in name o = by (is_ws b) (λ e. stay name tt refl (calm-ws b e)) (λ _. by (eqb b 34) (λ q. see_quote (str label) tt refl q) (λ _. refused))
    see_in name₁ o = by (is_ws b) (λ e. stay name₁ tt refl (calm-ws b e))
        (λ _. by (eqb b 125) (λ e. let z = eqb-true b 125 e in
        subst (λ (k : Stack). Sees outside (height s) b (live after k)) (sym sh)
        (shuts (ne_eqb b 34 (omega arith)) (simp (ne_eqb b 91 (omega arith), ne_eqb b 123 (omega arith))) (simp (ne_eqb b 93 (omega arith), e))))
        (λ _. by (eqb b 34) (λ q. see_quote (str label) tt refl q) (λ _. refused)))
    see_in colon o = by (is_ws b) (λ e. stay colon tt refl (calm-ws b e)) (λ _. by (eqb b 58) (λ e. stay value tt refl (calm-at b 58 e (omega arith) (omega arith))) (λ _. refused))
    see_in after o = en
    see_in (str w) o = see_str s w b (ok-closed w) (ok (str w) tt) (ok (esc w) tt) (ok-hexes w)
    see_in (esc w) o = see_esc s w b (ok-closed w) (ok (str w) tt) (ok (esc w) tt) (ok-hexes w)
    see_in (hex w n) o = see_hex s w b (ok-closed w) (ok (str w) tt) (ok (esc w) tt) (ok-hexes w) n
    see_in (word x xs) o = by (eqb b x) (λ e. stay (due xs) (sane_due xs o.1) (inside-due xs) (calm-is b x e o.0)) (λ _. refused)
    see_in minus o = by (eqb b 48) (λ e. stay nought tt refl (calm-at b 48 e (omega arith) (omega arith)))
        (λ _. by (is_digit b) (λ e. stay int tt refl (calm-digit b e)) (λ _. refused))
    see_in nought o = see_point
    see_in int o = by (is_digit b) (λ e. stay int tt refl (calm-digit b e)) (λ _. see_point)
    see_in dot o = by (is_digit b) (λ e. stay frac tt refl (calm-digit b e)) (λ _. refused)
    see_in frac o = by (is_digit b) (λ e. stay frac tt refl (calm-digit b e)) (λ _. see_expo)
    see_in exp o = by (is_digit b) (λ e. stay power tt refl (calm-digit b e)) (λ _. by (is_sign b) (λ e. stay sign tt refl (calm-sign b e)) (λ _. refused))
    see_in sign o = by (is_digit b) (λ e. stay power tt refl (calm-digit b e)) (λ _. refused)
    see_in power o = by (is_digit b) (λ e. stay power tt refl (calm-digit b e)) (λ _. en)

pub calm-comma : Calm 44
unfolding is_open is_shut
calm-comma = record { no-quote = refl; no_open = refl; no-shut = refl }

see_ends_arr : (k : Stack) → Deeply k → (b : ℕ) → Sees outside (suc (height k)) b (ends (arr k) b)
unfolding ends is_open is_shut
see_ends_arr k d b =
    by (is_ws b) (λ e. stay (arr k) k refl d d (λ m o. (o, d)) refl b after tt refl (calm-ws b e))
    (λ _. by (eqb b 44) (λ e. stay (arr k) k refl d d (λ m o. (o, d)) refl b value tt refl (calm-is b 44 e calm-comma))
    (λ _. by (eqb b 93) (λ e. let z = eqb-true b 93 e in
    shuts (arr k) k refl d d (λ m o. (o, d)) refl b (ne_eqb b 34 (omega arith)) (simp (ne_eqb b 91 (omega arith), ne_eqb b 123 (omega arith))) (simp e)) (λ _. refused)))

see_ends_obj : (k : Stack) → Deeply k → (b : ℕ) → Sees outside (suc (height k)) b (ends (obj k) b)
unfolding ends is_open is_shut
see_ends_obj k d b =
    by (is_ws b) (λ e. stay (obj k) k refl d d (λ m o. (o, d)) refl b after tt refl (calm-ws b e))
    (λ _. by (eqb b 44) (λ e. stay (obj k) k refl d d (λ m o. (o, d)) refl b name tt refl (calm-is b 44 e calm-comma))
    (λ _. by (eqb b 125) (λ e. let z = eqb-true b 125 e in
    shuts (obj k) k refl d d (λ m o. (o, d)) refl b (ne_eqb b 34 (omega arith)) (simp (ne_eqb b 91 (omega arith), ne_eqb b 123 (omega arith)))
    (simp (ne_eqb b 93 (omega arith), e))) (λ _. refused)))

out_hexes : (n : ℕ) → Out (hexes plain n)
unfolding hexes
out_hexes zero = tt
out_hexes (suc n) = tt

see_out : (d : ℕ) (m : Mode) (b : ℕ) → Out m → Sees (inside_of m) 0 b (step m (alone d) b)
unfolding step ends
see_out d value b o = absurd o
see_out d first b o = absurd o
see_out d name b o = absurd o
see_out d name₁ b o = absurd o
see_out d colon b o = absurd o
see_out d after b o = late
see_out d (str label) b o = absurd o
see_out d (str plain) b o = see_str (alone d) plain b tt tt tt out_hexes
see_out d (esc label) b o = absurd o
see_out d (esc plain) b o = see_esc (alone d) plain b tt tt tt out_hexes
see_out d (hex label n) b o = absurd o
see_out d (hex plain n) b o = see_hex (alone d) plain b tt tt tt out_hexes n
see_out d (word x xs) b o = absurd o
see_out d minus b o = absurd o
see_out d nought b o = absurd o
see_out d int b o = absurd o
see_out d dot b o = absurd o
see_out d frac b o = absurd o
see_out d exp b o = absurd o
see_out d sign b o = absurd o
see_out d power b o = absurd o

see_step : (m : Mode) (s : Stack) (b : ℕ) → Ok m s → Sees (inside_of m) (height s) b (step m s b)
see_step m (alone d) b o = see_out d m b o
see_step m (text d) b o = absurd o
see_step m (arr s) b o = see_in (arr s) s refl o.1 o.1 (λ m' q. (q, o.1)) refl b (see_ends_arr s o.1 b) m o.0
see_step m (obj s) b o = see_in (obj s) s refl o.1 o.1 (λ m' q. (q, o.1)) refl b (see_ends_obj s o.1 b) m o.0

out_over : (m : Mode) → Out m → over m ≡ true → m ≡ after
out_over value o e = absurd o
out_over first o e = absurd o
out_over name o e = absurd o
out_over name₁ o e = absurd o
out_over colon o e = absurd o
out_over after o e = refl
out_over (str w) o e = cc
out_over (esc w) o e = cc
out_over (hex w n) o e = cc
out_over (word x xs) o e = absurd o
out_over minus o e = absurd o
out_over nought o e = absurd o
out_over int o e = absurd o
out_over dot o e = absurd o
out_over frac o e = absurd o
out_over exp o e = absurd o
out_over sign o e = absurd o
out_over power o e = absurd o

-- over bytes that take the machine to where a value can be over, the scan comes to its end: there, and not before
pub record Comes (v t : List ℕ) (x : Inside) (h : ℕ) (m' : Mode) : Type 0 where
  pub done : m' ≡ after
  pub size : left (v ++ t) x h ≡ length v

comes-then : (b : ℕ) (v t : List ℕ) (d : ℕ) (x : Inside) (h : ℕ) (m' : Mode) (n : Next) → Sees x h b n
    → ((m : Mode) (s : Stack) → Ok m s → run v m s ≡ live m' (alone d) → Comes v t (inside_of m) (height s) m') → then n (run v) ≡ live m' (alone d) → Comes (b ∷ v) t x h m'
comes-then b v t d x h m' n (sees {m} {s} o f) ih e = let r = ih m s o e in record { done = r.done; size = f (v ++ t) ∙ ap suc r.size }
comes-then b v t d x h m' n refused ih e = let z : ◌≡◌ {A = ℕ} 0 1 = cc in absurd (omega arith)
comes-then b v t d x h m' n sunk ih e = let z : ◌≡◌ {A = ℕ} 0 1 = cc in absurd (omega arith)
comes-then b v t d x h m' n late ih e = let z : ◌≡◌ {A = ℕ} 0 1 = cc in absurd (omega arith)

comes-none : (t : List ℕ) (m : Mode) (d : ℕ) → Out m → over m ≡ true → Comes [] t (inside_of m) 0 m
comes-none t m d o f = let e = out_over m o f in record { done = e; size = ap (λ (k : Mode). left t (inside_of k) 0) e ∙ left-none t }

comes : (v t : List ℕ) (m : Mode) (s : Stack) (d : ℕ) (m' : Mode) → over m' ≡ true → Ok m s → run v m s ≡ live m' (alone d) → Comes v t (inside_of m) (height s) m'
unfolding run
comes [] t m s d m' f o e =
    let p : m ≡ m' = cc in
    let q : s ≡ alone d = cc in
    let u : Ok m (alone d) = subst (Ok m) q o in
    let r = comes-none t m d u (ap over p ∙ f) in
    subst (λ (k : Mode). Comes [] t (inside_of m) (height s) k) p (subst (λ (k : Stack). Comes [] t (inside_of m) (height k) m) (sym q) r)
comes (b ∷ v) t m s d m' f o e = comes-then b v t d (inside_of m) (height s) m' (step m s b) (see_step m s b o) (λ m₁ s₁ o₁ e₁. comes v t m₁ s₁ d m' f o₁ e₁) e

-- the first byte of a string, an array or an object
abbrev pub Opener : ℕ → Type 0
Opener b = (b ≡ 34) ⊎ ((b ≡ 91) ⊎ (b ≡ 123))

abbrev pub Opened : List ℕ → Type 0
Opened [] = ⊥
Opened (b ∷ v) = Opener b

-- one that the machine goes over by itself, and where that leaves it; the scan ends with it, whatever follows
pub record Whole (v t : List ℕ) (m' : Mode) : Type 0 where
  pub done : m' ≡ after
  pub ends : size (v ++ t) ≡ length v

sized-string : (v t : List ℕ) (m' : Mode) → Comes v t quoted 0 m' → Whole (34 ∷ v) t m'
unfolding size
sized-string v t m' r = record { done = r.done; ends = ap suc r.size }

sized-array : (v t : List ℕ) (m' : Mode) → Comes v t outside 1 m' → Whole (91 ∷ v) t m'
unfolding size is_open
sized-array v t m' r = record { done = r.done; ends = ap suc r.size }

sized-object : (v t : List ℕ) (m' : Mode) → Comes v t outside 1 m' → Whole (123 ∷ v) t m'
unfolding size is_open
sized-object v t m' r = record { done = r.done; ends = ap suc r.size }

open_then : (v t : List ℕ) (d : ℕ) (f : Stack → Stack) (m m' : Mode) (x : Bool) → (run v m (f (alone d)) ≡ live m' (alone d) → Comes v t outside 1 m')
    → then (cond x (live m (f (alone d))) deep) (run v) ≡ live m' (alone d) → Comes v t outside 1 m'
open_then v t d f m m' true g e = g e
open_then v t d f m m' false g e = let z : ◌≡◌ {A = ℕ} 0 1 = cc in absurd (omega arith)

first-string : (v : List ℕ) (d : ℕ) → run (34 ∷ v) value (alone d) ≡ run v (str plain) (alone d)
unfolding run step begin is_ws
first-string v d = refl

first-array : (v : List ℕ) (d : ℕ) → run (91 ∷ v) value (alone d) ≡ then (cond (ltb 0 d) (live first (arr (alone d))) deep) (run v)
unfolding run step begin is_ws opens
first-array v d = refl

first-object : (v : List ℕ) (d : ℕ) → run (123 ∷ v) value (alone d) ≡ then (cond (ltb 0 d) (live name₁ (obj (alone d))) deep) (run v)
unfolding run step begin is_ws opens
first-object v d = refl

-- a string, an array or an object: the machine is after it, and its own bytes decide its size
pub opened-whole : (d : ℕ) (v t : List ℕ) (m' : Mode) → Opened v → over m' ≡ true → run v value (alone d) ≡ live m' (alone d) → Whole v t m'
opened-whole d [] t m' o f e = absurd o
opened-whole d (b ∷ v) t m' (inl h) f e =
    let e' : run v (str plain) (alone d) ≡ live m' (alone d) = sym (first-string v d) ∙ ap (λ (x : ℕ). run (x ∷ v) value (alone d)) (sym h) ∙ e in
    subst (λ (x : ℕ). Whole (x ∷ v) t m') (sym h) (sized-string v t m' (comes v t (str plain) (alone d) d m' f tt e'))
opened-whole d (b ∷ v) t m' (inr (inl h)) f e =
    let e' = sym (first-array v d) ∙ ap (λ (x : ℕ). run (x ∷ v) value (alone d)) (sym h) ∙ e in
    subst (λ (x : ℕ). Whole (x ∷ v) t m') (sym h) (sized-array v t m' (open_then v t d arr first m' (ltb 0 d) (λ g. comes v t first (arr (alone d)) d m' f (tt, tt) g) e'))
opened-whole d (b ∷ v) t m' (inr (inr h)) f e =
    let e' = sym (first-object v d) ∙ ap (λ (x : ℕ). run (x ∷ v) value (alone d)) (sym h) ∙ e in
    subst (λ (x : ℕ). Whole (x ∷ v) t m') (sym h) (sized-object v t m' (open_then v t d obj name₁ m' (ltb 0 d) (λ g. comes v t name₁ (obj (alone d)) d m' f (tt, tt) g) e'))
