-- The machine over some bytes, and that a value's own bytes decide what it does: with any surroundings k put in the place of the bottom of the stack,
-- and as many levels left or more, it goes the same way. Cited by proofs/EndLaws.antt and by crate `frame`. Assumes nothing.
use mathlib.Core.Path.{◌≡◌, refl, sym, ap, subst, ◌∙◌}
use mathlib.Core.Bool.{Bool, true, false, ◌||◌, cond}
use mathlib.Core.List.{List, [], ◌∷◌, ◌++◌}
use Prim.Native.Nat.{ℕ, zero, suc, ◌+◌, ◌-◌, ◌≤◌}
use native.Mathlib.Omega.{arith}
use lib.ListN.{length}
use lib.Dec.{eqb, ltb}
use borrow.Author.Tests.{lt-ltb, ltb-true}
use Rattle.octets.specs.Class.{is_digit}
use Rattle.octets.proofs.TestLaws.{picked-alike}
use Rattle.json_text.specs.inner.Machine.{Stack, alone, text, arr, obj, levels, shut, done, Role, label, plain, Mode, value, first, name, name₁, colon, after}
use Rattle.json_text.specs.inner.Machine.{str, esc, hex, word, minus, nought, int, dot, frac, exp, sign, power, Next, live, dead, deep, is_hex_digit, is_esc}
use Rattle.json_text.specs.inner.Machine.{is_sign, closed, due, hexes, opens, begin, ends, step, over, ended, stops, takes, walk, expo, point}
use Rattle.json_text.specs.Places.{is_ws}
use Rattle.std.specs.Prelude.{Ok}

-- Where some bytes leave the machine, or why it stopped.
abbrev pub then : Next → (Mode → Stack → Next) → Next
then (live m k) f = f m k
then dead f = dead
then deep f = deep
then done f = done

unfoldable pub run : List ℕ → Mode → Stack → Next
run [] m k = live m k
run (b ∷ bs) m k = then (step m k b) (run bs)

walk_step : (n : Next) (v q : List ℕ) (i : ℕ) {m' : Mode} {k' : Stack}
    → ((m : Mode) (k : Stack) → run v m k ≡ live m' k' → walk (v ++ q) m k (i + 1) ≡ walk q m' k' (i + 1 + length v)) → then n (run v) ≡ live m' k'
    → takes n (walk (v ++ q)) i ≡ walk q m' k' (i + suc (length v))
walk_step (live m k) v q i {m'} {k'} ih e = ih m k e ∙ ap (walk q m' k') (omega arith)
walk_step dead v q i ih e = cc
walk_step deep v q i ih e = cc
walk_step done v q i ih e = cc

-- the walk goes on from where the bytes leave the machine
pub walk-on : (v q : List ℕ) (i : ℕ) (m : Mode) (k : Stack) {m' : Mode} {k' : Stack} → run v m k ≡ live m' k' → walk (v ++ q) m k i ≡ walk q m' k' (i + length v)
unfolding run walk
walk-on [] q i m k {m'} {k'} e = let z : i + 0 ≡ i = omega arith in rw z (cc)
walk-on (b ∷ v) q i m k {m'} {k'} e = walk_step (step m k b) v q i (λ m₁ k₁ h. walk-on v q (i + 1) m₁ k₁ h) e

-- k in the place of the bottom of s
unfoldable pub onto : Stack → Stack → Stack
onto k (alone d) = k
onto k (text d) = k
onto k (arr s) = arr (onto k s)
onto k (obj s) = obj (onto k s)

-- a value by itself stands at the bottom, with d levels
abbrev pub Base : ℕ → Stack → Type 0
Base d (alone e) = e ≡ d
Base d (text e) = ⊥
Base d (arr s) = Base d s
Base d (obj s) = Base d s

onto-levels : (d : ℕ) (k s : Stack) → d ≤ levels k → Base d s → levels s ≤ levels (onto k s)
unfolding onto
onto-levels d k (alone e) l h = omega arith
onto-levels d k (text e) l h = absurd h
onto-levels d k (arr s) l h = omega (arith, onto-levels d k s l h)
onto-levels d k (obj s) l h = omega (arith, onto-levels d k s l h)

onto_same : (d : ℕ) (k s : Stack) → levels k ≡ d → Base d s → levels (onto k s) ≡ levels s
unfolding onto
onto_same d k (alone e) l h = l ∙ sym h
onto_same d k (text e) l h = absurd h
onto_same d k (arr s) l h = ap (λ (x : ℕ). x - 1) (onto_same d k s l h)
onto_same d k (obj s) l h = ap (λ (x : ℕ). x - 1) (onto_same d k s l h)

-- outside its brackets a value is never just behind an opening bracket
abbrev pub Loose : Mode → Type 0
Loose value = Unit
Loose first = ⊥
Loose name = Unit
Loose name₁ = ⊥
Loose colon = Unit
Loose after = Unit
Loose (str w) = Unit
Loose (esc w) = Unit
Loose (hex w n) = Unit
Loose (word x xs) = Unit
Loose minus = Unit
Loose nought = Unit
Loose int = Unit
Loose dot = Unit
Loose frac = Unit
Loose exp = Unit
Loose sign = Unit
Loose power = Unit

-- inside a value
abbrev pub In : ℕ → Mode → Stack → Type 0
In d m (alone e) = (e ≡ d) × Loose m
In d m (text e) = ⊥
In d m (arr s) = Base d s
In d m (obj s) = Base d s

-- inside a bracket of it
abbrev Inner : ℕ → Stack → Type 0
Inner d (alone e) = ⊥
Inner d (text e) = ⊥
Inner d (arr s) = Base d s
Inner d (obj s) = Base d s

inner : (d : ℕ) (m : Mode) (s : Stack) → Inner d s → In d m s
inner d m (alone e) h = absurd h
inner d m (text e) h = absurd h
inner d m (arr s) h = h
inner d m (obj s) h = h

inner-base : (d : ℕ) (s : Stack) → Inner d s → Base d s
inner-base d (alone e) h = absurd h
inner-base d (text e) h = absurd h
inner-base d (arr s) h = h
inner-base d (obj s) h = h

in_after : (d : ℕ) (s : Stack) → Base d s → In d after s
in_after d (alone e) h = (h, tt)
in_after d (text e) h = absurd h
in_after d (arr s) h = h
in_after d (obj s) h = h

-- what byte b₀ does at m₀ and s₀, and what it does with k under s₀: the same, unless the value was over
pub data Lifts (d : ℕ) (k : Stack) (m₀ : Mode) (s₀ : Stack) (b₀ : ℕ) : Next → Next → Type 0 where
  on : {m : Mode} {s : Stack} {n : Next} → n ≡ live m (onto k s) → In d m s → Lifts d k m₀ s₀ b₀ (live m s) n
  no : Lifts d k m₀ s₀ b₀ dead dead
  sunk : {n : Next} → (levels k ≡ d → n ≡ deep) → Lifts d k m₀ s₀ b₀ deep n
  late : {n : Next} → over m₀ ≡ true → s₀ ≡ alone d → n ≡ ends k b₀ → Lifts d k m₀ s₀ b₀ done n

lift_pick : {d : ℕ} {k : Stack} {m₀ : Mode} {s₀ : Stack} {b₀ : ℕ} (t : Bool) {a a' b b' : Next} → Lifts d k m₀ s₀ b₀ a a' → Lifts d k m₀ s₀ b₀ b b'
    → Lifts d k m₀ s₀ b₀ (cond t a b) (cond t a' b')
lift_pick {d} {k} {m₀} {s₀} {b₀} t = picked-alike (Lifts d k m₀ s₀ b₀) t

lift-room : {d : ℕ} {k : Stack} {m₀ : Mode} {s₀ : Stack} {b₀ : ℕ} (t t' : Bool) {a a' : Next} → (t ≡ true → t' ≡ true) → (levels k ≡ d → t' ≡ t) → Lifts d k m₀ s₀ b₀ a a'
    → Lifts d k m₀ s₀ b₀ (cond t a deep) (cond t' a' deep)
lift-room true t' f g x = rw (f refl) x
lift-room false t' {a} {a'} f g x = sunk (λ l. ap (λ (t : Bool). cond t a' deep) (g l))

module _ (d : ℕ) (k : Stack) (l : d ≤ levels k) {m₀ : Mode} {s₀ : Stack} {b₀ : ℕ} where
  lift-opens : (f : Stack → Stack) (m : Mode) (s : Stack) → ((s : Stack) → onto k (f s) ≡ f (onto k s)) → ((s : Stack) → Base d s → In d m (f s)) → Base d s
      → Lifts d k m₀ s₀ b₀ (opens f m s) (opens f m (onto k s))
  unfolding opens
  lift-opens f m s c g h = lift-room (ltb 0 (levels s)) (ltb 0 (levels (onto k s)))
      (λ e. lt-ltb 0 (levels (onto k s)) (omega (arith, ltb-true 0 (levels s) e, onto-levels d k s l h))) (λ q. ap (ltb 0) (onto_same d k s q h))
      (on {m = m} {s = f s} (rw (c s)) (g s h))

  module _ (s : Stack) (h : Base d s) where
    back : Lifts d k m₀ s₀ b₀ (live after s) (live after (onto k s))
    back = on refl (in_after d s h)

    lift-arr : Lifts d k m₀ s₀ b₀ (opens arr first s) (opens arr first (onto k s))
    unfolding onto
    lift-arr = lift-opens arr first s (λ x. refl) (λ x g. g) h

    lift-obj : Lifts d k m₀ s₀ b₀ (opens obj name₁ s) (opens obj name₁ (onto k s))
    unfolding onto
    lift-obj = lift-opens obj name₁ s (λ x. refl) (λ x g. g) h

  lift-ends : (s : Stack) → Inner d s → (b : ℕ) → Lifts d k m₀ s₀ b₀ (ends s b) (ends (onto k s) b)
  unfolding ends onto
  lift-ends (alone e) h b = absurd h
  lift-ends (text e) h b = absurd h
  lift-ends (arr s) h b = lift_pick (is_ws b) (on refl h) (lift_pick (eqb b 44) (on refl h) (lift_pick (eqb b 93) (back s h) no))
  lift-ends (obj s) h b = lift_pick (is_ws b) (on refl h) (lift_pick (eqb b 44) (on refl h) (lift_pick (eqb b 125) (back s h) no))

  -- the bracket around is closed
  lift-shut : (s : Stack) → Inner d s → Lifts d k m₀ s₀ b₀ (live after (shut s)) (live after (shut (onto k s)))
  unfolding onto
  lift-shut (alone e) h = absurd h
  lift-shut (text e) h = absurd h
  lift-shut (arr s) h = back s h
  lift-shut (obj s) h = back s h

  module _ (s : Stack) (h : Inner d s) (b : ℕ) where
    stay : (m : Mode) → Lifts d k m₀ s₀ b₀ (live m s) (live m (onto k s))
    stay m = on refl (inner d m s h)

    lift-begin : Lifts d k m₀ s₀ b₀ (begin s b) (begin (onto k s) b)
    unfolding begin
    lift-begin =
        lift_pick (eqb b 34) (stay _) (lift_pick (eqb b 91) (lift-arr s (inner-base d s h))
        (lift_pick (eqb b 123) (lift-obj s (inner-base d s h))
        (lift_pick (eqb b 116) (stay _)
        (lift_pick (eqb b 102) (stay _) (lift_pick (eqb b 110) (stay _) (lift_pick (eqb b 45) (stay _) (lift_pick (eqb b 48) (stay _) (lift_pick (is_digit b) (stay _) no))))))))

    lift-expo : Lifts d k m₀ s₀ b₀ (expo s b) (expo (onto k s) b)
    unfolding expo
    lift-expo = lift_pick (eqb b 101 || eqb b 69) (stay exp) (lift-ends s h b)

    lift-point : Lifts d k m₀ s₀ b₀ (point s b) (point (onto k s) b)
    unfolding point
    lift-point = lift_pick (eqb b 46) (stay dot) lift-expo

    lift_in : (m : Mode) → Lifts d k m₀ s₀ b₀ (step m s b) (step m (onto k s) b)
    unfolding step
    lift_in value = lift_pick (is_ws b) (stay value) lift-begin
    lift_in first = lift_pick (is_ws b) (stay first) (lift_pick (eqb b 93) (lift-shut s h) lift-begin)
    lift_in name = lift_pick (is_ws b) (stay name) (lift_pick (eqb b 34) (stay (str label)) no)
    lift_in name₁ = lift_pick (is_ws b) (stay name₁) (lift_pick (eqb b 125) (lift-shut s h) (lift_pick (eqb b 34) (stay (str label)) no))
    lift_in colon = lift_pick (is_ws b) (stay colon) (lift_pick (eqb b 58) (stay value) no)
    lift_in after = lift-ends s h b
    lift_in (str w) = lift_pick (eqb b 34) (stay (closed w)) (lift_pick (eqb b 92) (stay (esc w)) (lift_pick (ltb b 32) no (stay (str w))))
    lift_in (esc w) = lift_pick (is_esc b) (stay (str w)) (lift_pick (eqb b 117) (stay (hexes w 4)) no)
    lift_in (hex w n) = lift_pick (is_hex_digit b) (stay (hexes w n)) no
    lift_in (word x xs) = lift_pick (eqb b x) (stay (due xs)) no
    lift_in minus = lift_pick (eqb b 48) (stay nought) (lift_pick (is_digit b) (stay int) no)
    lift_in nought = lift-point
    lift_in int = lift_pick (is_digit b) (stay int) lift-point
    lift_in dot = lift_pick (is_digit b) (stay frac) no
    lift_in frac = lift_pick (is_digit b) (stay frac) lift-expo
    lift_in exp = lift_pick (is_digit b) (stay power) (lift_pick (is_sign b) (stay sign) no)
    lift_in sign = lift_pick (is_digit b) (stay power) no
    lift_in power = lift_pick (is_digit b) (stay power) (lift-ends s h b)

loose_hexes : (w : Role) (n : ℕ) → Loose (hexes w n)
unfolding hexes
loose_hexes w zero = tt
loose_hexes w (suc n) = tt

loose_due : (xs : List ℕ) → Loose (due xs)
unfolding due
loose_due [] = tt
loose_due (x ∷ xs) = tt

loose_closed : (w : Role) → Loose (closed w)
loose_closed label = tt
loose_closed plain = tt

module _ (d : ℕ) (k : Stack) (l : d ≤ levels k) (b : ℕ) where
  rest : {m₀ : Mode} {s₀ : Stack} (m : Mode) → Loose m → Lifts d k m₀ s₀ b (live m (alone d)) (live m k)
  unfolding onto
  rest m h = on {s = alone d} refl (refl, h)

  over-here : {m₀ : Mode} → over m₀ ≡ true → Lifts d k m₀ (alone d) b (ends (alone d) b) (ends k b)
  unfolding ends
  over-here o = late o refl refl

  expo-here : {m₀ : Mode} → over m₀ ≡ true → Lifts d k m₀ (alone d) b (expo (alone d) b) (expo k b)
  unfolding expo
  expo-here o = lift_pick (eqb b 101 || eqb b 69) (rest exp tt) (over-here o)

  point-here : {m₀ : Mode} → over m₀ ≡ true → Lifts d k m₀ (alone d) b (point (alone d) b) (point k b)
  unfolding point
  point-here o = lift_pick (eqb b 46) (rest dot tt) (expo-here o)

  arr-here : {m₀ : Mode} {s₀ : Stack} → Lifts d k m₀ s₀ b (opens arr first (alone d)) (opens arr first k)
  unfolding onto
  arr-here = lift-arr d k l (alone d) refl

  obj-here : {m₀ : Mode} {s₀ : Stack} → Lifts d k m₀ s₀ b (opens obj name₁ (alone d)) (opens obj name₁ k)
  unfolding onto
  obj-here = lift-obj d k l (alone d) refl

  begin-here : {m₀ : Mode} {s₀ : Stack} → Lifts d k m₀ s₀ b (begin (alone d) b) (begin k b)
  unfolding begin
  begin-here =
      lift_pick (eqb b 34) (rest (str plain) tt)
      (lift_pick (eqb b 91) arr-here
      (lift_pick (eqb b 123) obj-here
      (lift_pick (eqb b 116) (rest _ (loose_due _))
      (lift_pick (eqb b 102) (rest _ (loose_due _))
      (lift_pick (eqb b 110) (rest _ (loose_due _)) (lift_pick (eqb b 45) (rest minus tt) (lift_pick (eqb b 48) (rest nought tt) (lift_pick (is_digit b) (rest int tt) no))))))))

  lift_out : (m : Mode) → Loose m → Lifts d k m (alone d) b (step m (alone d) b) (step m k b)
  unfolding step
  lift_out value f = lift_pick (is_ws b) (rest value tt) begin-here
  lift_out first f = absurd f
  lift_out name f = lift_pick (is_ws b) (rest name tt) (lift_pick (eqb b 34) (rest (str label) tt) no)
  lift_out name₁ f = absurd f
  lift_out colon f = lift_pick (is_ws b) (rest colon tt) (lift_pick (eqb b 58) (rest value tt) no)
  lift_out after f = over-here refl
  lift_out (str w) f = lift_pick (eqb b 34) (rest (closed w) (loose_closed w)) (lift_pick (eqb b 92) (rest (esc w) tt) (lift_pick (ltb b 32) no (rest (str w) tt)))
  lift_out (esc w) f = lift_pick (is_esc b) (rest (str w) tt) (lift_pick (eqb b 117) (rest (hexes w 4) (loose_hexes w 4)) no)
  lift_out (hex w n) f = lift_pick (is_hex_digit b) (rest (hexes w n) (loose_hexes w n)) no
  lift_out (word x xs) f = lift_pick (eqb b x) (rest (due xs) (loose_due xs)) no
  lift_out minus f = lift_pick (eqb b 48) (rest nought tt) (lift_pick (is_digit b) (rest int tt) no)
  lift_out nought f = point-here refl
  lift_out int f = lift_pick (is_digit b) (rest int tt) (point-here refl)
  lift_out dot f = lift_pick (is_digit b) (rest frac tt) no
  lift_out frac f = lift_pick (is_digit b) (rest frac tt) (expo-here refl)
  lift_out exp f = lift_pick (is_digit b) (rest power tt) (lift_pick (is_sign b) (rest sign tt) no)
  lift_out sign f = lift_pick (is_digit b) (rest power tt) no
  lift_out power f = lift_pick (is_digit b) (rest power tt) (over-here refl)

-- one byte, anywhere inside a value
pub lift-step : (d : ℕ) (k : Stack) → d ≤ levels k → (m : Mode) (s : Stack) → In d m s → (b : ℕ) → Lifts d k m s b (step m s b) (step m (onto k s) b)
unfolding onto
lift-step d k l m (alone e) h b = subst (λ (x : ℕ). Lifts d k m (alone x) b (step m (alone x) b) (step m k b)) (sym h.0) (lift_out d k l b m h.1)
lift-step d k l m (text e) h b = absurd h
lift-step d k l m (arr s) h b = lift_in d k l (arr s) h b m
lift-step d k l m (obj s) h b = lift_in d k l (obj s) h b m

lift-then : (d : ℕ) (k : Stack) (v : List ℕ) {m₀ : Mode} {s₀ : Stack} {b₀ : ℕ} (n n' : Next) {m' : Mode} {s' : Stack}
    → ((m : Mode) (s : Stack) → In d m s → run v m s ≡ live m' s' → run v m (onto k s) ≡ live m' (onto k s')) → Lifts d k m₀ s₀ b₀ n n' → then n (run v) ≡ live m' s'
    → then n' (run v) ≡ live m' (onto k s')
lift-then d k v (live m s) n' {m'} {s'} ih (on q h) e = ap (λ (x : Next). then x (run v)) q ∙ ih m s h e
lift-then d k v dead n' ih x e = let z : ◌≡◌ {A = ℕ} 0 1 = cc in absurd (omega arith)
lift-then d k v deep n' ih x e = let z : ◌≡◌ {A = ℕ} 0 1 = cc in absurd (omega arith)
lift-then d k v done n' ih x e = let z : ◌≡◌ {A = ℕ} 0 1 = cc in absurd (omega arith)

lift-run : (d : ℕ) (k : Stack) (l : d ≤ levels k) (v : List ℕ) (m : Mode) (s : Stack) {m' : Mode} {s' : Stack} → In d m s → run v m s ≡ live m' s'
    → run v m (onto k s) ≡ live m' (onto k s')
unfolding run
lift-run d k l [] m s {m'} {s'} h e = let p : m ≡ m' = cc in let q : s ≡ s' = cc in cc
lift-run d k l (b ∷ v) m s h e = lift-then d k v (step m s b) (step m (onto k s) b) (λ m₁ s₁ h₁ e₁. lift-run d k l v m₁ s₁ h₁ e₁) (lift-step d k l m s h b) e

-- THE LAW: over a value's own bytes the machine goes the same way whatever stands around, with as many levels left or more
pub run-around : (d : ℕ) (v : List ℕ) (k : Stack) {m' : Mode} → run v value (alone d) ≡ live m' (alone d) → d ≤ levels k → run v value k ≡ live m' k
unfolding onto
run-around d v k e l = lift-run d k l v value (alone d) (refl, tt) e

-- What the machine says ends at e: the bytes up to there, over which it goes to where a value can be over.
pub record Split (d : ℕ) (bs : List ℕ) (m : Mode) (s : Stack) (i e : ℕ) : Type 0 where
  pub v : List ℕ
  pub q : List ℕ
  pub m' : Mode
  pub is : bs ≡ v ++ q
  pub far : e ≡ i + length v
  pub runs : run v m s ≡ live m' (alone d)
  pub fin : over m' ≡ true

ended_is : (t : Bool) (i e : ℕ) → ended t i ≡ Ok e → (t ≡ true) × (i ≡ e)
ended_is true i e q = (refl, cc)
ended_is false i e q = let z : ◌≡◌ {A = ℕ} 0 1 = cc in absurd (omega arith)

stops-split : (d : ℕ) (m : Mode) (s : Stack) (i e : ℕ) → In d m s → stops m s i ≡ Ok e → Split d [] m s i e
unfolding stops run
stops-split d m (alone x) i e h q = let r = ended_is (over m) i e q in
    record { v = []; q = []; m' = m; is = refl; far = omega (arith, r.1); runs = ap (λ (y : ℕ). live m (alone y)) h.0; fin = r.0 }
stops-split d m (text x) i e h q = absurd h
stops-split d m (arr s) i e h q = let z : ◌≡◌ {A = ℕ} 0 1 = cc in absurd (omega arith)
stops-split d m (obj s) i e h q = let z : ◌≡◌ {A = ℕ} 0 1 = cc in absurd (omega arith)

split-next : (d b : ℕ) (bs : List ℕ) (m : Mode) (s : Stack) (i e : ℕ) (n : Next) {n' : Next} → step m s b ≡ n → Lifts d (alone d) m s b n n'
    → ((m' : Mode) (s' : Stack) → In d m' s' → walk bs m' s' (i + 1) ≡ Ok e → Split d bs m' s' (i + 1) e) → takes n (walk bs) i ≡ Ok e → Split d (b ∷ bs) m s i e
unfolding run
split-next d b bs m s i e (live m' s') g (on x h) ih q = let r = ih m' s' h q in
    record {
      v = b ∷ r.v;
      q = r.q;
      m' = r.m';
      is = ap (λ (l : List ℕ). b ∷ l) r.is;
      far = omega (arith, r.far);
      runs = ap (λ (n : Next). then n (run r.v)) g ∙ r.runs;
      fin = r.fin;
    }
split-next d b bs m s i e dead g x ih q = let z : ◌≡◌ {A = ℕ} 0 1 = cc in absurd (omega arith)
split-next d b bs m s i e deep g x ih q = let z : ◌≡◌ {A = ℕ} 0 1 = cc in absurd (omega arith)
split-next d b bs m s i e done g (late x y w) ih q = let j : i ≡ e = cc in record { v = []; q = b ∷ bs; m' = m; is = refl; far = omega arith; runs = ap (live m) y; fin = x }

split_in : (d : ℕ) (bs : List ℕ) (m : Mode) (s : Stack) (i e : ℕ) → In d m s → walk bs m s i ≡ Ok e → Split d bs m s i e
unfolding walk
split_in d [] m s i e h q = stops-split d m s i e h q
split_in d (b ∷ bs) m s i e h q = split-next d b bs m s i e (step m s b) refl (lift-step d (alone d) (omega arith) m s h b) (λ m' s' h' q'. split_in d bs m' s' (i + 1) e h' q') q

pub split : (d : ℕ) (bs : List ℕ) (i e : ℕ) → walk bs value (alone d) i ≡ Ok e → Split d bs value (alone d) i e
split d bs i e q = split_in d bs value (alone d) i e (refl, tt) q
