-- What the grammar derives, the machine takes to the end, and begins values where the derivation has them (`complete`, `complete-places`): for each rule a
-- run of the machine, put together by combinators that mirror ABNF. Assumes nothing.
use mathlib.Core.Path.{◌≡◌, refl, sym, ap, subst, ◌∙◌}
use mathlib.Core.Bool.{Bool, true, false, not}
use mathlib.Core.List.{List, [], ◌∷◌, ◌++◌, append_assoc, append-nil}
use mathlib.Core.Logic.{◌⊎◌, inl, inr, ⊎_elim}
use Prim.Native.Nat.{ℕ, zero, suc, ◌+◌, ◌≤◌, ◌<◌}
use native.Mathlib.Nat.{add-zero}
use native.Mathlib.Omega.{arith}
use borrow.Author.Tests.{le-leb, lt-leb, ne_eqb, eqb-true, eqb-false}
use lib.Dec.{eqb}
use lib.ListN.{length, length-append}
use Rattle.octets.specs.Class.{is_digit, among}
use Rattle.octets.proofs.ClassLaws.{digit_in}
use Rattle.octets.proofs.TestLaws.{either}
use Rattle.json_text.specs.inner.Begun.{begins_value, only, begins_at, begins}
use Rattle.json_text.specs.inner.Machine.{Stack, alone, text, arr, obj, Role, label, plain, Mode, value, first, name, name₁, colon, after, str, esc, hex, word}
use Rattle.json_text.specs.inner.Machine.{minus, nought, int, dot, frac, exp, sign, power, Next, live, dead, is_hex_digit, is_sign, is_esc, closed, due, hexes, levels}
use Rattle.json_text.specs.inner.Machine.{begin, ends, expo, point, step, over, stops, walk}
use Rattle.json_text.specs.Places.{is_ws}
use Rattle.json_text.specs.Rfc7159.{Rule, Bytes, bytes, Range, range, AtLeast, at_least, ◌⨾◌, both, ◌or◌, left, right, Opt, absent, present, Star, none, more}
use Rattle.json_text.specs.Rfc7159.{Plus, Byte, ws as Ws, begin-array as BeginArray, begin-object as BeginObject, end-array as EndArray}
use Rattle.json_text.specs.Rfc7159.{end-object as EndObject, value_separator as ValueSeparator, False, null as Null, True, DIGIT as Digit, int as Int}
use Rattle.json_text.specs.Rfc7159.{frac as Frac, exp as Exp, number as Number, HEXDIG as HexDig, unescaped as Unescaped, char as Char, string as Text}
use Rattle.json_text.specs.Rfc7159.{member as Member, object as Object, array as Array, value as Value, JSON-text as JsonText}
use Rattle.json_text.specs.Values.{Finds, nothing, here, along, maybe, each, bracketed, behind_name, value_places, places}
use Rattle.json_text.proofs.Refusal.{Ends, on, word_on}
use Rattle.json_text.proofs.LeafLaws.{hex-step}
use Rattle.json_text.proofs.StepLaws as laws
use Rattle.json_text.proofs.MoveLaws.{stops-over}

-- what may follow a backslash
abbrev pub Escaped : Rule
Escaped = Byte 0x22 or Byte 0x5C or Byte 0x2F or Byte 0x62 or Byte 0x66 or Byte 0x6E or Byte 0x72 or Byte 0x74 or Byte 0x75 ⨾ HexDig ⨾ HexDig ⨾ HexDig ⨾ HexDig

-- the machine at m and k takes these bytes to the end, and the values in them begin where c says
pub record Acc (s : List ℕ) (m : Mode) (k : Stack) (c : ℕ → List ℕ) : Type 0 where
  pub ends : (i : ℕ) → Ends (walk s m k i)
  pub is : (i : ℕ) → begins s m k i ≡ c i

-- a byte takes the machine from m and k to m' and k', and begins a value or not
record Does (m : Mode) (k : Stack) (b : ℕ) (m' : Mode) (k' : Stack) (t : Bool) : Type 0 where
  does : step m k b ≡ live m' k'
  marks : begins_value m b ≡ t

abbrev Moves : Mode → Stack → ℕ → Mode → Stack → Type 0
Moves m k b m' k' = Does m k b m' k' false

-- what a rule derives takes it there; its first byte begins a value or not, and no other byte does
record Goes (A : Rule) (m : Mode) (k : Stack) (m' : Mode) (k' : Stack) (t : Bool) : Type 0 where
  run : (s : List ℕ) (x : A s) (r : List ℕ) (c : ℕ → List ℕ) → Acc r m' k' c → Acc (s ++ r) m k (λ i. only t i ++ c (i + length s))

abbrev Leads : Rule → Mode → Stack → Mode → Stack → Type 0
Leads A m k m' k' = Goes A m k m' k' false

-- what a rule derives takes it there, and its values begin where f says
record Shows (A : Rule) (m : Mode) (k : Stack) (m' : Mode) (k' : Stack) (f : Finds A) : Type 0 where
  run : (s : List ℕ) (x : A s) (r : List ℕ) (c : ℕ → List ℕ) → Acc r m' k' c → Acc (s ++ r) m k (λ i. f s x i ++ c (i + length s))

-- wherever the machine at m' and k' takes bytes to the end, at m and k it does
record Serves (m : Mode) (k : Stack) (m' : Mode) (k' : Stack) : Type 0 where
  run : (r : List ℕ) (c : ℕ → List ℕ) → Acc r m' k' c → Acc r m k c

-- its first byte begins no value (as its mode shows), or one
by : {m m' : Mode} {k k' : Stack} {b : ℕ} → begins_value m b ≡ false → step m k b ≡ live m' k' → Moves m k b m' k'
by e f = record { does = f; marks = e }

pub ws-not : (b : ℕ) → is_ws b ≡ true → not (is_ws b) ≡ false
ws-not b h = simp h

pub first-not : (b : ℕ) → is_ws b ≡ true → begins_value first b ≡ false
first-not b h = simp h

value-opens : (b : ℕ) → is_ws b ≡ false → begins_value value b ≡ true
value-opens b h = simp h

starts : {m' : Mode} {k k' : Stack} {b : ℕ} → is_ws b ≡ false → step value k b ≡ live m' k' → Does value k b m' k' true
starts {b = b} e f = record { does = f; marks = value-opens b e }

-- the places from a byte on, by whether it begins a value and what it does; and those of no bytes
pub begin-on : (b : ℕ) (bs : List ℕ) (m : Mode) (k : Stack) (i : ℕ) (t : Bool) (n : Next) → begins_value m b ≡ t → step m k b ≡ n
    → begins (b ∷ bs) m k i ≡ begins_at t n (begins bs) i
unfolding begins
begin-on b bs m k i t n e f = ap (λ (z : Bool). begins_at z (step m k b) (begins bs) i) e ∙ ap (λ (z : Next). begins_at t z (begins bs) i) f

pub begin-none : (m : Mode) (k : Stack) (i : ℕ) → begins [] m k i ≡ []
unfolding begins
begin-none m k i = refl

-- bytes that do the same and begin the same
same-on : (b : ℕ) (r : List ℕ) (m m' : Mode) (k : Stack) (i : ℕ) → begins_value m b ≡ begins_value m' b → step m k b ≡ step m' k b → begins (b ∷ r) m k i ≡ begins (b ∷ r) m' k i
same-on b r m m' k i e f = begin-on b r m k i _ _ e f ∙ sym (begin-on b r m' k i _ _ refl refl)

module _ {s : List ℕ} {m : Mode} {k : Stack} {c : ℕ → List ℕ} where
  conv : (c' : ℕ → List ℕ) → Acc s m k c → ((i : ℕ) → c i ≡ c' i) → Acc s m k c'
  conv c' a e = record { ends = a.ends; is = λ i. a.is i ∙ e i }

-- one rule behind another: places, and bytes
module _ (p q r : List ℕ) (m : Mode) (k : Stack) (n c : ℕ → List ℕ) where
  glue : Acc (p ++ (q ++ r)) m k (λ i. n i ++ c ((i + length p) + length q)) → Acc ((p ++ q) ++ r) m k (λ i. n i ++ c (i + length (p ++ q)))
  glue a =
      rw append_assoc (conv (λ i. n i ++ c (i + length (p ++ q))) a
      (λ i. let e : (i + length p) + length q ≡ i + length (p ++ q) = omega (arith, length-append p q) in ap (λ (j : ℕ). n i ++ c j) e))

stay : {r : List ℕ} {m : Mode} {k : Stack} (c : ℕ → List ℕ) → Acc r m k c → Acc r m k (λ i. c (i + 0))
stay c a = conv (λ i. c (i + 0)) a (λ i. ap c (sym (add-zero i)))

module _ {m m' : Mode} {k k' : Stack} {t : Bool} where
  acc-cons : (b : ℕ) (r : List ℕ) (c : ℕ → List ℕ) → Does m k b m' k' t → Acc r m' k' c → Acc (b ∷ r) m k (λ i. only t i ++ c (i + 1))
  acc-cons b r c f a =
      record {
        ends = λ i. subst Ends (sym (on b r m k i (live m' k') f.does)) (a.ends (i + 1));
        is = λ i. begin-on b r m k i t (live m' k') f.marks f.does ∙ ap (λ (l : List ℕ). only t i ++ l) (a.is (i + 1));
      }

  byte-run : (b : ℕ) → Does m k b m' k' t → (s : List ℕ) → Byte b s → (r : List ℕ) (c : ℕ → List ℕ) → Acc r m' k' c → Acc (s ++ r) m k (λ i. only t i ++ c (i + length s))
  byte-run b f s bytes r c a = acc-cons b r c f a

  c-byte : {b : ℕ} → Does m k b m' k' t → Goes (Byte b) m k m' k' t
  c-byte {b} f = record { run = byte-run b f }

  range-run : (lo hi : ℕ) → ((b : ℕ) → lo ≤ b → b ≤ hi → Does m k b m' k' t) → (s : List ℕ) → Range lo hi s → (r : List ℕ) (c : ℕ → List ℕ) → Acc r m' k' c
      → Acc (s ++ r) m k (λ i. only t i ++ c (i + length s))
  range-run lo hi f s (range {b} l u) r c a = acc-cons b r c (f b l u) a

  c-range : {lo hi : ℕ} → ((b : ℕ) → lo ≤ b → b ≤ hi → Does m k b m' k' t) → Goes (Range lo hi) m k m' k' t
  c-range {lo} {hi} f = record { run = range-run lo hi f }

  at-least-run : (lo : ℕ) → ((b : ℕ) → lo ≤ b → Does m k b m' k' t) → (s : List ℕ) → AtLeast lo s → (r : List ℕ) (c : ℕ → List ℕ) → Acc r m' k' c
      → Acc (s ++ r) m k (λ i. only t i ++ c (i + length s))
  at-least-run lo f s (at_least {b} l) r c a = acc-cons b r c (f b l) a

  c-at-least : {lo : ℕ} → ((b : ℕ) → lo ≤ b → Does m k b m' k' t) → Goes (AtLeast lo) m k m' k' t
  c-at-least {lo} f = record { run = at-least-run lo f }

  or-run : (A B : Rule) → Goes A m k m' k' t → Goes B m k m' k' t → (s : List ℕ) → (A or B) s → (r : List ℕ) (c : ℕ → List ℕ) → Acc r m' k' c
      → Acc (s ++ r) m k (λ i. only t i ++ c (i + length s))
  or-run A B f g s (left x) = f.run s x
  or-run A B f g s (right x) = g.run s x

  infixr 40 ◌otherwise◌
  ◌otherwise◌ : {A B : Rule} → Goes A m k m' k' t → Goes B m k m' k' t → Goes (A or B) m k m' k' t
  ◌otherwise◌ {A} {B} f g = record { run = or-run A B f g }

module _ {m m' : Mode} {k k' : Stack} where
  opt_run : (A : Rule) → Leads A m k m' k' → Serves m k m' k' → (s : List ℕ) → Opt A s → (r : List ℕ) (c : ℕ → List ℕ) → Acc r m' k' c → Acc (s ++ r) m k (λ i. c (i + length s))
  opt_run A f g s absent r c a = stay c (g.run r c a)
  opt_run A f g s (present x) r c a = f.run s x r c a

  c_opt : {A : Rule} → Leads A m k m' k' → Serves m k m' k' → Leads (Opt A) m k m' k'
  c_opt {A} f g = record { run = opt_run A f g }

module _ (A : Rule) (m : Mode) (k : Stack) where
  star_run : Leads A m k m k → (s : List ℕ) → Star A s → (r : List ℕ) (c : ℕ → List ℕ) → Acc r m k c → Acc (s ++ r) m k (λ i. c (i + length s))
  star_run f s none r c a = stay c a
  star_run f s (more {s = p} {t = q} x y) r c a = glue p q r m k (λ i. []) c (f.run p x (q ++ r) (λ i. c (i + length q)) (star_run f q y r c a))

  each-run : (f : Finds A) → Shows A m k m k f → (s : List ℕ) (x : Star A s) (r : List ℕ) (c : ℕ → List ℕ) → Acc r m k c
      → Acc (s ++ r) m k (λ i. each A f s x i ++ c (i + length s))
  each-run f h s none r c a = stay c a
  each-run f h s (more {s = p} {t = q} x y) r c a =
      glue p q r m k (λ i. f p x i ++ each A f q y (i + length p)) c
      (conv (λ i. (f p x i ++ each A f q y (i + length p)) ++ c ((i + length p) + length q))
      (h.run p x (q ++ r) (λ i. each A f q y i ++ c (i + length q)) (each-run f h q y r c a))
      (λ i. sym (append_assoc (f p x i) (each A f q y (i + length p)) (c ((i + length p) + length q)))))

c_star : {A : Rule} {m : Mode} {k : Stack} → Leads A m k m k → Leads (Star A) m k m k
c_star {A} {m} {k} f = record { run = star_run A m k f }

all : {A : Rule} {m : Mode} {k : Stack} {f : Finds A} → Shows A m k m k f → Shows (Star A) m k m k (each A f)
all {A} {m} {k} {f} h = record { run = each-run A m k f h }

module _ {A B : Rule} {m m₁ m₂ : Mode} {k k₁ k₂ : Stack} where
  module _ {t : Bool} where
    both_run : Goes A m k m₁ k₁ t → Leads B m₁ k₁ m₂ k₂ → (s : List ℕ) → (A ⨾ B) s → (r : List ℕ) (c : ℕ → List ℕ) → Acc r m₂ k₂ c
        → Acc (s ++ r) m k (λ i. only t i ++ c (i + length s))
    both_run f g s (both {s = p} {t = q} x y) r c a = glue p q r m k (only t) c (f.run p x (q ++ r) (λ i. c (i + length q)) (g.run q y r c a))

    infixr 50 ◌then◌
    ◌then◌ : Goes A m k m₁ k₁ t → Leads B m₁ k₁ m₂ k₂ → Goes (A ⨾ B) m k m₂ k₂ t
    ◌then◌ f g = record { run = both_run f g }

    -- an option, and what follows with it otherwise without it
    may-run : Goes A m k m₁ k₁ t → Leads B m₁ k₁ m₂ k₂ → Goes B m k m₂ k₂ t → (s : List ℕ) → (Opt A ⨾ B) s → (r : List ℕ) (c : ℕ → List ℕ) → Acc r m₂ k₂ c
        → Acc (s ++ r) m k (λ i. only t i ++ c (i + length s))
    may-run f g h s (both absent y) r c a = h.run _ y r c a
    may-run f g h s (both {s = p} {t = q} (present x) y) r c a = glue p q r m k (only t) c (f.run p x (q ++ r) (λ i. c (i + length q)) (g.run q y r c a))

    c-may : Goes A m k m₁ k₁ t → Leads B m₁ k₁ m₂ k₂ → Goes B m k m₂ k₂ t → Goes (Opt A ⨾ B) m k m₂ k₂ t
    c-may f g h = record { run = may-run f g h }

  -- with values in both
  module _ (f : Finds A) (g : Finds B) where
    along-run : Shows A m k m₁ k₁ f → Shows B m₁ k₁ m₂ k₂ g → (p q : List ℕ) (x : A p) (y : B q) (r : List ℕ) (c : ℕ → List ℕ) → Acc r m₂ k₂ c
        → Acc ((p ++ q) ++ r) m k (λ i. (f p x i ++ g q y (i + length p)) ++ c (i + length (p ++ q)))
    along-run u v p q x y r c a =
        glue p q r m k (λ i. f p x i ++ g q y (i + length p)) c
        (conv (λ i. (f p x i ++ g q y (i + length p)) ++ c ((i + length p) + length q)) (u.run p x (q ++ r) (λ i. g q y i ++ c (i + length q)) (v.run q y r c a))
        (λ i. sym (append_assoc (f p x i) (g q y (i + length p)) (c ((i + length p) + length q)))))

    in_turn : Shows A m k m₁ k₁ f → Shows B m₁ k₁ m₂ k₂ g → (s : List ℕ) (x : (A ⨾ B) s) (r : List ℕ) (c : ℕ → List ℕ) → Acc r m₂ k₂ c
        → Acc (s ++ r) m k (λ i. along A B f g s x i ++ c (i + length s))
    in_turn u v s (both {s = p} {t = q} x y) r c a = along-run u v p q x y r c a

    if_any : Shows A m k m₁ k₁ f → Shows B m₁ k₁ m₂ k₂ g → Shows B m k m₂ k₂ g → (s : List ℕ) (x : (Opt A ⨾ B) s) (r : List ℕ) (c : ℕ → List ℕ) → Acc r m₂ k₂ c
        → Acc (s ++ r) m k (λ i. along (Opt A) B (maybe A f) g s x i ++ c (i + length s))
    if_any u v w s (both {t = q} absent y) r c a = conv (λ i. g q y (i + 0) ++ c (i + length q)) (w.run q y r c a)
        (λ i. ap (λ (j : ℕ). g q y j ++ c (i + length q)) (sym (add-zero i)))
    if_any u v w s (both {s = p} {t = q} (present x) y) r c a = along-run u v p q x y r c a

  infixr 50 ◌also◌
  ◌also◌ : {f : Finds A} {g : Finds B} → Shows A m k m₁ k₁ f → Shows B m₁ k₁ m₂ k₂ g → Shows (A ⨾ B) m k m₂ k₂ (along A B f g)
  ◌also◌ {f} {g} u v = record { run = in_turn f g u v }

  c-any : {f : Finds A} {g : Finds B} → Shows A m k m₁ k₁ f → Shows B m₁ k₁ m₂ k₂ g → Shows B m k m₂ k₂ g → Shows (Opt A ⨾ B) m k m₂ k₂ (along (Opt A) B (maybe A f) g)
  c-any {f} {g} u v w = record { run = if_any f g u v w }

-- either, each with a way of its own through what follows
module _ {A B D : Rule} {m m₁ m₂ m₃ : Mode} {k k₁ k₂ k₃ : Stack} {t : Bool} where
  either-run : Goes A m k m₁ k₁ t → Leads D m₁ k₁ m₂ k₂ → Goes B m k m₃ k₃ t → Leads D m₃ k₃ m₂ k₂ → (s : List ℕ) → ((A or B) ⨾ D) s → (r : List ℕ) (c : ℕ → List ℕ)
      → Acc r m₂ k₂ c → Acc (s ++ r) m k (λ i. only t i ++ c (i + length s))
  either-run f g f' g' s (both {s = p} {t = q} (left x) y) r c a = glue p q r m k (only t) c (f.run p x (q ++ r) (λ i. c (i + length q)) (g.run q y r c a))
  either-run f g f' g' s (both {s = p} {t = q} (right x) y) r c a = glue p q r m k (only t) c (f'.run p x (q ++ r) (λ i. c (i + length q)) (g'.run q y r c a))

  c-either : Goes A m k m₁ k₁ t → Leads D m₁ k₁ m₂ k₂ → Goes B m k m₃ k₃ t → Leads D m₃ k₃ m₂ k₂ → Goes ((A or B) ⨾ D) m k m₂ k₂ t
  c-either f g f' g' = record { run = either-run f g f' g' }

module _ {A : Rule} {m m₁ m₂ : Mode} {k k₁ k₂ : Stack} where
  settles : {t : Bool} → Goes A m k m₁ k₁ t → Serves m₁ k₁ m₂ k₂ → Goes A m k m₂ k₂ t
  settles u g = record { run = λ s x r c a. u.run s x r c (g.run r c a) }

  as_if : {f : Finds A} → Serves m k m₁ k₁ → Shows A m₁ k₁ m₂ k₂ f → Shows A m k m₂ k₂ f
  as_if {f} g u = record { run = λ s x r c a. g.run (s ++ r) (λ i. f s x i ++ c (i + length s)) (u.run s x r c a) }

-- a rule without values among those with
quiet : {A : Rule} {m m' : Mode} {k k' : Stack} → Leads A m k m' k' → Shows A m k m' k' (nothing A)
quiet u = record { run = u.run }

loud : {A : Rule} {m m' : Mode} {k k' : Stack} → Goes A m k m' k' true → Shows A m k m' k' (here A)
loud u = record { run = u.run }

-- White space, and a structural character.
ws-byte : {m : Mode} {k : Stack} → ((b : ℕ) → is_ws b ≡ true → Moves m k b m k) → Leads Ws m k m k
unfolding is_ws
ws-byte f = c_star (c-byte (f 0x20 refl) otherwise c-byte (f 0x09 refl) otherwise c-byte (f 0x0A refl) otherwise c-byte (f 0x0D refl))

ws-value : (k : Stack) → Leads Ws value k value k
ws-value k = ws-byte (λ b h. by (ws-not b h) (laws.ws-value k b h))

ws-first : (k : Stack) → Leads Ws first k first k
ws-first k = ws-byte (λ b h. by (first-not b h) (laws.ws-first k b h))

ws-name : (k : Stack) → Leads Ws name k name k
ws-name k = ws-byte (λ b h. by refl (laws.ws-name k b h))

ws-name₁ : (k : Stack) → Leads Ws name₁ k name₁ k
ws-name₁ k = ws-byte (λ b h. by refl (laws.ws-name₁ k b h))

ws-colon : (k : Stack) → Leads Ws colon k colon k
ws-colon k = ws-byte (λ b h. by refl (laws.ws-colon k b h))

-- a text is around all
abbrev pub Whole : Stack → Type 0
Whole (alone d) = ⊥
Whole (text d) = Unit
Whole (arr k) = Whole k
Whole (obj k) = Whole k

ws-after : (k : Stack) → Whole k → Leads Ws after k after k
ws-after (alone d) h = absurd h
ws-after (text d) h = ws-byte (λ b w. by refl (laws.ws-text b w d))
ws-after (arr k) h = ws-byte (λ b w. by refl (laws.ws-arr b w k))
ws-after (obj k) h = ws-byte (λ b w. by refl (laws.ws-obj b w k))

-- Strings.
module _ (w : Role) (k : Stack) where
  on-quote : Leads (Byte 0x22) (str w) k (closed w) k
  on-quote = c-byte (by refl (laws.str-quote w k 34 refl))

  back : Leads (Byte 0x5C) (str w) k (esc w) k
  back = c-byte (by refl (laws.str-back w k 92 refl))

  unescaped : Leads Unescaped (str w) k (str w) k
  unescaped =
      c-range (λ b l u. by refl (laws.str-char w k b (omega arith) (omega arith) (omega arith)))
      otherwise c-range (λ b l u. by refl (laws.str-char w k b (omega arith) (omega arith) (omega arith)))
      otherwise c-at-least (λ b l. by refl (laws.str-char w k b (omega arith) (omega arith) (omega arith)))

digit-is : (b : ℕ) → 0x30 ≤ b → b ≤ 0x39 → is_digit b ≡ true
unfolding is_digit among
digit-is b l u = simp (le-leb 48 b l, le-leb b 57 u)

digit-hex : (b : ℕ) → 0x30 ≤ b → b ≤ 0x39 → is_hex_digit b ≡ true
unfolding is_hex_digit
digit-hex b l u = simp (digit-is b l u)

upper_is : (b : ℕ) → 0x41 ≤ b → b ≤ 0x46 → is_hex_digit b ≡ true
unfolding is_hex_digit is_digit among
upper_is b l u = simp (le-leb 48 b (omega arith), lt-leb b 57 (omega arith), le-leb 65 b l, le-leb b 70 u)

lower_is : (b : ℕ) → 0x61 ≤ b → b ≤ 0x66 → is_hex_digit b ≡ true
unfolding is_hex_digit is_digit among
lower_is b l u = simp (le-leb 48 b (omega arith), lt-leb b 57 (omega arith), le-leb 65 b (omega arith), lt-leb b 70 (omega arith), le-leb 97 b l, le-leb b 102 u)

hex_dig : (w : Role) (n : ℕ) (k : Stack) → Leads HexDig (hex w n) k (hexes w n) k
hex_dig w n k =
    c-range (λ b l u. by refl (hex-step w n k b (digit-hex b l u)))
    otherwise c-range (λ b l u. by refl (hex-step w n k b (upper_is b l u)))
    otherwise c-range (λ b l u. by refl (hex-step w n k b (lower_is b l u)))

module _ (w : Role) (k : Stack) where
  hex4 : Leads (HexDig ⨾ HexDig ⨾ HexDig ⨾ HexDig) (hexes w 4) k (str w) k
  unfolding hexes
  hex4 = hex_dig w 3 k then hex_dig w 2 k then hex_dig w 1 k then hex_dig w 0 k

  on-esc : (b : ℕ) → is_esc b ≡ true → Leads (Byte b) (esc w) k (str w) k
  on-esc b h = c-byte (by refl (laws.esc-hit w k b h))

  escaped : Leads Escaped (esc w) k (str w) k
  unfolding is_esc
  escaped =
      on-esc 0x22 refl otherwise on-esc 0x5C refl otherwise on-esc 0x2F refl otherwise on-esc 0x62 refl otherwise on-esc 0x66 refl otherwise on-esc 0x6E refl otherwise on-esc 0x72
      refl otherwise on-esc 0x74 refl
      otherwise c-byte (by refl (laws.esc-u w k 117 refl)) then hex4

  chars : Leads (Star Char) (str w) k (str w) k
  chars = c_star (unescaped w k otherwise back w k then escaped)

  -- a string, its first quotation mark aside
  quoted : Leads (Star Char ⨾ Byte 0x22) (str w) k (closed w) k
  quoted = chars then on-quote w k

-- The literals.
due-run : (xs : List ℕ) (k : Stack) (r : List ℕ) (c : ℕ → List ℕ) → Acc r after k c → Acc (xs ++ r) (due xs) k (λ i. c (i + length xs))
unfolding due
due-run [] k r c a = stay c a
due-run (x ∷ xs) k r c a =
    conv (λ i. c (i + length (x ∷ xs)))
    (acc-cons {m = word x xs} {m' = due xs} {k = k} {k' = k} x (xs ++ r) (λ i. c (i + length xs)) (by refl (word_on x xs k)) (due-run xs k r c a))
    (λ i. let e : (i + 1) + length xs ≡ i + suc (length xs) = omega arith in ap c e)

lit_run : (x : ℕ) (xs : List ℕ) (k : Stack) → Does value k x (due xs) k true → (s : List ℕ) → Bytes (x ∷ xs) s → (r : List ℕ) (c : ℕ → List ℕ) → Acc r after k c
    → Acc (s ++ r) value k (λ i. i ∷ c (i + length s))
lit_run x xs k f s bytes r c a =
    conv (λ i. i ∷ c (i + length (x ∷ xs))) (acc-cons x (xs ++ r) (λ i. c (i + length xs)) f (due-run xs k r c a))
    (λ i. let e : (i + 1) + length xs ≡ i + suc (length xs) = omega arith in ap (λ (j : ℕ). i ∷ c j) e)

literal : {x : ℕ} {xs : List ℕ} {k : Stack} → Does value k x (due xs) k true → Goes (Bytes (x ∷ xs)) value k after k true
literal {x} {xs} {k} f = record { run = lit_run x xs k f }

-- Numbers. What may follow a value goes on with no number.
ends-dead : (k : Stack) → Whole k → (b : ℕ) → is_ws b ≡ false → (b ≡ 44 → ⊥) → (b ≡ 93 → ⊥) → (b ≡ 125 → ⊥) → ends k b ≡ dead
unfolding ends
ends-dead (alone d) h b w h₁ h₂ h₃ = absurd h
ends-dead (text d) h b w h₁ h₂ h₃ = simp w
ends-dead (arr k) h b w h₁ h₂ h₃ = simp (w, ne_eqb b 44 h₁, ne_eqb b 93 h₂)
ends-dead (obj k) h b w h₁ h₂ h₃ = simp (w, ne_eqb b 44 h₁, ne_eqb b 125 h₃)

-- b can be no part of a number that is over
record Plain (b : ℕ) : Type 0 where
  no_digit : is_digit b ≡ false
  no-dot : b ≡ 46 → ⊥
  no-e : b ≡ 101 → ⊥
  no-E : b ≡ 69 → ⊥

module _ (k : Stack) (h : Whole k) (b : ℕ) where
  unlike : 32 < b → (b ≡ 44 → ⊥) → (b ≡ 93 → ⊥) → (b ≡ 125 → ⊥) → ends k b ≡ dead
  unlike w = ends-dead k h b (laws.not-ws b w)

  plain-or : Plain b ⊎ (ends k b ≡ dead)
  plain-or =
      ⊎_elim (λ d. let q = digit_in b d in inr (unlike (omega arith) (omega arith) (omega arith) (omega arith)))
      (λ d. ⊎_elim (λ e₁. let q = eqb-true b 46 e₁ in inr (unlike (omega arith) (omega arith) (omega arith) (omega arith)))
      (λ e₁. ⊎_elim (λ e₂. let q = eqb-true b 101 e₂ in inr (unlike (omega arith) (omega arith) (omega arith) (omega arith)))
      (λ e₂. ⊎_elim (λ e₃. let q = eqb-true b 69 e₃ in inr (unlike (omega arith) (omega arith) (omega arith) (omega arith)))
      (λ e₃. inl (record { no_digit = d; no-dot = eqb-false b 46 e₁; no-e = eqb-false b 101 e₂; no-E = eqb-false b 69 e₃ }))
      (either (eqb b 69))) (either (eqb b 101))) (either (eqb b 46))) (either (is_digit b))

step_after : (k : Stack) (b : ℕ) → step after k b ≡ ends k b
unfolding step
step_after k b = refl

-- a mode in which a value is over serves as `after` does
module _ (m : Mode) (o : over m ≡ true) (z : (b : ℕ) → begins_value m b ≡ false) (f : (k : Stack) (b : ℕ) → Plain b → step m k b ≡ ends k b) (k : Stack) (h : Whole k) where
  over-ends : (b : ℕ) (r : List ℕ) (i : ℕ) → Plain b ⊎ (ends k b ≡ dead) → Ends (walk (b ∷ r) after k i) → Ends (walk (b ∷ r) m k i)
  over-ends b r i (inl p) a = subst Ends (on b r after k i _ (step_after k b) ∙ sym (on b r m k i _ (f k b p))) a
  over-ends b r i (inr d) a = absurd (subst Ends (on b r after k i _ (step_after k b ∙ d)) a)

  over-same : (b : ℕ) (r : List ℕ) (i : ℕ) → Plain b ⊎ (ends k b ≡ dead) → Ends (walk (b ∷ r) after k i) → begins (b ∷ r) m k i ≡ begins (b ∷ r) after k i
  over-same b r i (inl p) a = same-on b r m after k i (z b) (f k b p ∙ sym (step_after k b))
  over-same b r i (inr d) a = absurd (subst Ends (on b r after k i _ (step_after k b ∙ d)) a)

  over-run : (r : List ℕ) (c : ℕ → List ℕ) → Acc r after k c → Acc r m k c
  unfolding walk begins
  over-run [] c a = record { ends = λ i. subst Ends (stops-over after m k i (sym o)) (a.ends i); is = λ i. a.is i }
  over-run (b ∷ r) c a = record { ends = λ i. over-ends b r i (plain-or k h b) (a.ends i); is = λ i. over-same b r i (plain-or k h b) (a.ends i) ∙ a.is i }

  overs : Serves m k after k
  overs = record { run = over-run }

module _ (k : Stack) (h : Whole k) where
  s-nought : Serves nought k after k
  unfolding step point expo
  s-nought = overs nought refl (λ b. refl) (λ j b p. simp (ne_eqb b 46 p.no-dot, ne_eqb b 101 p.no-e, ne_eqb b 69 p.no-E)) k h

  s-int : Serves int k after k
  unfolding step point expo
  s-int = overs int refl (λ b. refl) (λ j b p. simp (p.no_digit, ne_eqb b 46 p.no-dot, ne_eqb b 101 p.no-e, ne_eqb b 69 p.no-E)) k h

  s-frac : Serves frac k after k
  unfolding step point expo
  s-frac = overs frac refl (λ b. refl) (λ j b p. simp (p.no_digit, ne_eqb b 101 p.no-e, ne_eqb b 69 p.no-E)) k h

  s-power : Serves power k after k
  unfolding step point expo
  s-power = overs power refl (λ b. refl) (λ j b p. simp p.no_digit) k h

  power-digits : Leads (Star Digit) power k after k
  power-digits = settles (c_star (c-range (λ b l u. by refl (laws.power-digit k b (digit-is b l u))))) s-power

  on-sign : Leads (Byte 0x2D or Byte 0x2B) exp k sign k
  unfolding is_digit among is_sign
  on-sign = c-byte (by refl (laws.exp-sign k 45 refl refl)) otherwise c-byte (by refl (laws.exp-sign k 43 refl refl))

  signed : Leads (Opt (Byte 0x2D or Byte 0x2B) ⨾ Plus Digit) exp k after k
  signed =
      c-may on-sign (c-range (λ b l u. by refl (laws.sign-digit k b (digit-is b l u))) then power-digits)
      (c-range (λ b l u. by refl (laws.exp-digit k b (digit-is b l u))) then power-digits)

  module _ (m : Mode) (z : (b : ℕ) → begins_value m b ≡ false) (o : Serves m k after k) (f : (b : ℕ) → (b ≡ 101) ⊎ (b ≡ 69) → step m k b ≡ live exp k) where
    may-exp : Leads (Opt Exp) m k after k
    may-exp = c_opt ((c-byte (by (z 101) (f 101 (inl refl))) otherwise c-byte (by (z 69) (f 69 (inr refl)))) then signed) o

  frac-exp : (b : ℕ) → (b ≡ 101) ⊎ (b ≡ 69) → step frac k b ≡ live exp k
  unfolding step expo is_digit among
  frac-exp b (inl e) = rw e
  frac-exp b (inr e) = rw e

  int-exp : (b : ℕ) → (b ≡ 101) ⊎ (b ≡ 69) → step int k b ≡ live exp k
  unfolding step point expo is_digit among
  int-exp b (inl e) = rw e
  int-exp b (inr e) = rw e

  nought-exp : (b : ℕ) → (b ≡ 101) ⊎ (b ≡ 69) → step nought k b ≡ live exp k
  unfolding step point expo is_digit among
  nought-exp b (inl e) = rw e
  nought-exp b (inr e) = rw e

  dot-digit : Leads (Plus Digit) dot k frac k
  dot-digit = c-range {k' = k} (λ b l u. by refl (laws.dot-digit k b (digit-is b l u))) then c_star (c-range (λ b l u. by refl (laws.frac-digit k b (digit-is b l u))))

  -- what may follow the whole part
  module _ (m : Mode) (z : (b : ℕ) → begins_value m b ≡ false) (o : Serves m k after k) (f : (b : ℕ) → (b ≡ 101) ⊎ (b ≡ 69) → step m k b ≡ live exp k)
      (g : step m k 46 ≡ live dot k) where
    tail : Leads (Opt Frac ⨾ Opt Exp) m k after k
    tail =
        c-may (c-byte (by (z 46) g) then dot-digit)
        (may-exp frac (λ b. refl) s-frac frac-exp) (may-exp m z o f)

  nought-tail : Leads (Opt Frac ⨾ Opt Exp) nought k after k
  unfolding step point
  nought-tail = tail nought (λ b. refl) s-nought nought-exp refl

  int-tail : Leads (Opt Frac ⨾ Opt Exp) int k after k
  unfolding step point is_digit among
  int-tail = tail int (λ b. refl) s-int int-exp refl

  int-digits : Leads (Star Digit) int k int k
  int-digits = c_star (c-range (λ b l u. by refl (laws.int-digit k b (digit-is b l u))))

  after_minus : Leads (Int ⨾ Opt Frac ⨾ Opt Exp) minus k after k
  after_minus =
      c-either (c-byte (by refl (laws.minus-zero k 48 refl))) nought-tail
      (c-range (λ b l u. by refl (laws.minus-digit k b (omega arith) (digit-is b (omega arith) u))) then int-digits) int-tail

  at_value : Goes (Int ⨾ Opt Frac ⨾ Opt Exp) value k after k true
  at_value =
      c-either (c-byte (starts (laws.not-ws 48 (omega arith)) (laws.value-zero k 48 refl))) nought-tail
      (c-range (λ b l u. starts (laws.not-ws b (omega arith))
      (laws.value-rest k b (laws.not-ws b (omega arith)) (omega arith) (omega arith) (omega arith) (omega arith) (omega arith) (omega arith) (omega arith)
      ∙ laws.minus-digit k b (omega arith) (digit-is b (omega arith) u))) then int-digits) int-tail

  number : Goes Number value k after k true
  number = c-may (c-byte (starts (laws.not-ws 45 (omega arith)) (laws.value-minus k 45 refl))) after_minus at_value

  string : Goes Text value k after k true
  string = c-byte (starts (laws.not-ws 34 (omega arith)) (laws.value-quote k 34 refl)) then quoted plain k

  lit_false : Goes False value k after k true
  lit_false = literal (starts (laws.not-ws 102 (omega arith)) (laws.value-f k 102 refl))

  lit_null : Goes Null value k after k true
  lit_null = literal (starts (laws.not-ws 110 (omega arith)) (laws.value-n k 110 refl))

  lit_true : Goes True value k after k true
  lit_true = literal (starts (laws.not-ws 116 (omega arith)) (laws.value-t k 116 refl))

-- Where ']' may stand, so may what a value begins with.
close_not : begins_value first 93 ≡ false
unfolding is_ws
close_not = refl

close_dead : (k : Stack) (b : ℕ) → b ≡ 93 → step value k b ≡ dead
unfolding step begin is_ws is_digit among
close_dead k b e = rw e

first-go : (b : ℕ) (r : List ℕ) (k : Stack) (i : ℕ) → (is_ws b ≡ true) ⊎ (is_ws b ≡ false) → (eqb b 93 ≡ true) ⊎ (eqb b 93 ≡ false)
    → (Ends (walk r value (arr k) (i + 1)) → Ends (walk r first (arr k) (i + 1))) → Ends (walk (b ∷ r) value (arr k) i) → Ends (walk (b ∷ r) first (arr k) i)
first-go b r k i (inl w) u ih a = subst Ends (sym (on b r first (arr k) i _ (laws.ws-first (arr k) b w))) (ih (subst Ends (on b r value (arr k) i _ (laws.ws-value (arr k) b w)) a))
first-go b r k i (inr w) (inl e) ih a = absurd (subst Ends (on b r value (arr k) i dead (close_dead (arr k) b (eqb-true b 93 e))) a)
first-go b r k i (inr w) (inr e) ih a = subst Ends (on b r value (arr k) i _ (sym (laws.first-value k b w (eqb-false b 93 e))) ∙ sym (on b r first (arr k) i _ refl)) a

pass_on : (b : ℕ) (r : List ℕ) (m m₁ : Mode) (k k₁ : Stack) (i : ℕ) → Moves m k b m₁ k₁ → begins (b ∷ r) m k i ≡ begins r m₁ k₁ (i + 1)
pass_on b r m m₁ k k₁ i f = begin-on b r m k i false (live m₁ k₁) f.marks f.does

first-ink : (b : ℕ) (r : List ℕ) (k : Stack) (i : ℕ) → is_ws b ≡ false → (eqb b 93 ≡ true) ⊎ (eqb b 93 ≡ false) → Ends (walk (b ∷ r) value (arr k) i)
    → begins (b ∷ r) first (arr k) i ≡ begins (b ∷ r) value (arr k) i
first-ink b r k i w (inl e) a = absurd (subst Ends (on b r value (arr k) i dead (close_dead (arr k) b (eqb-true b 93 e))) a)
first-ink b r k i w (inr e) a = same-on b r first value (arr k) i (simp (w, e)) (laws.first-value k b w (eqb-false b 93 e))

next-value : (b : ℕ) (r : List ℕ) (k : Stack) (i : ℕ) → Ends (walk (b ∷ r) value (arr k) i) → is_ws b ≡ true → Ends (walk r value (arr k) (i + 1))
next-value b r k i a w = subst Ends (on b r value (arr k) i _ (laws.ws-value (arr k) b w)) a

first_as : (r : List ℕ) (k : Stack) (i : ℕ) → Ends (walk r value (arr k) i) → Ends (walk r first (arr k) i)
unfolding walk stops
first_as [] k i a = a
first_as (b ∷ r) k i a = first-go b r k i (either (is_ws b)) (either (eqb b 93)) (first_as r k (i + 1)) a

first-is : (r : List ℕ) (k : Stack) (i : ℕ) → Ends (walk r value (arr k) i) → begins r first (arr k) i ≡ begins r value (arr k) i
first-is [] k i a = begin-none first (arr k) i ∙ sym (begin-none value (arr k) i)
first-is (b ∷ r) k i a =
    ⊎_elim (λ w. pass_on b r first first (arr k) (arr k) i (by (first-not b w) (laws.ws-first (arr k) b w)) ∙ first-is r k (i + 1) (next-value b r k i a w)
    ∙ sym (pass_on b r value value (arr k) (arr k) i (by (ws-not b w) (laws.ws-value (arr k) b w))))
    (λ w. first-ink b r k i w (either (eqb b 93)) a) (either (is_ws b))

s-first : (k : Stack) → Serves first (arr k) value (arr k)
s-first k = record { run = λ r c a. record { ends = λ i. first_as r k i (a.ends i); is = λ i. first-is r k i (a.ends i) ∙ a.is i } }

-- Where '}' may stand, so may a name.
brace-dead : (k : Stack) (b : ℕ) → b ≡ 125 → step name k b ≡ dead
unfolding step is_ws
brace-dead k b e = rw e

name-go : (b : ℕ) (r : List ℕ) (k : Stack) (i : ℕ) → (is_ws b ≡ true) ⊎ (is_ws b ≡ false) → (eqb b 125 ≡ true) ⊎ (eqb b 125 ≡ false)
    → (Ends (walk r name (obj k) (i + 1)) → Ends (walk r name₁ (obj k) (i + 1))) → Ends (walk (b ∷ r) name (obj k) i) → Ends (walk (b ∷ r) name₁ (obj k) i)
name-go b r k i (inl w) u ih a = subst Ends (sym (on b r name₁ (obj k) i _ (laws.ws-name₁ (obj k) b w))) (ih (subst Ends (on b r name (obj k) i _ (laws.ws-name (obj k) b w)) a))
name-go b r k i (inr w) (inl e) ih a = absurd (subst Ends (on b r name (obj k) i dead (brace-dead (obj k) b (eqb-true b 125 e))) a)
name-go b r k i (inr w) (inr e) ih a = subst Ends (on b r name (obj k) i _ (sym (laws.name₁-name k b w (eqb-false b 125 e))) ∙ sym (on b r name₁ (obj k) i _ refl)) a

name_as : (r : List ℕ) (k : Stack) (i : ℕ) → Ends (walk r name (obj k) i) → Ends (walk r name₁ (obj k) i)
unfolding walk stops
name_as [] k i a = a
name_as (b ∷ r) k i a = name-go b r k i (either (is_ws b)) (either (eqb b 125)) (name_as r k (i + 1)) a

next-name : (b : ℕ) (r : List ℕ) (k : Stack) (i : ℕ) → Ends (walk (b ∷ r) name (obj k) i) → is_ws b ≡ true → Ends (walk r name (obj k) (i + 1))
next-name b r k i a w = subst Ends (on b r name (obj k) i _ (laws.ws-name (obj k) b w)) a

name-ink : (b : ℕ) (r : List ℕ) (k : Stack) (i : ℕ) → is_ws b ≡ false → (eqb b 125 ≡ true) ⊎ (eqb b 125 ≡ false) → Ends (walk (b ∷ r) name (obj k) i)
    → begins (b ∷ r) name₁ (obj k) i ≡ begins (b ∷ r) name (obj k) i
name-ink b r k i w (inl e) a = absurd (subst Ends (on b r name (obj k) i dead (brace-dead (obj k) b (eqb-true b 125 e))) a)
name-ink b r k i w (inr e) a = same-on b r name₁ name (obj k) i refl (laws.name₁-name k b w (eqb-false b 125 e))

name-is : (r : List ℕ) (k : Stack) (i : ℕ) → Ends (walk r name (obj k) i) → begins r name₁ (obj k) i ≡ begins r name (obj k) i
name-is [] k i a = begin-none name₁ (obj k) i ∙ sym (begin-none name (obj k) i)
name-is (b ∷ r) k i a =
    ⊎_elim (λ w. pass_on b r name₁ name₁ (obj k) (obj k) i (by refl (laws.ws-name₁ (obj k) b w)) ∙ name-is r k (i + 1) (next-name b r k i a w)
    ∙ sym (pass_on b r name name (obj k) (obj k) i (by refl (laws.ws-name (obj k) b w))))
    (λ w. name-ink b r k i w (either (eqb b 125)) a) (either (is_ws b))

s-name : (k : Stack) → Serves name₁ (obj k) name (obj k)
s-name k = record { run = λ r c a. record { ends = λ i. name_as r k i (a.ends i); is = λ i. name-is r k i (a.ends i) ∙ a.is i } }

-- Arrays and objects: here the places depend on the derivation.
abbrev bracket : (b : ℕ) → Finds (Ws ⨾ Byte b ⨾ Ws)
bracket b = along Ws (Byte b ⨾ Ws) (nothing _) (here _)

module _ (k : Stack) (h : Whole k) (X : Rule) (f : Finds X) where
  begin-array : 0 < levels k → Shows BeginArray value k first (arr k) (bracket 0x5B)
  begin-array l = quiet (ws-value k) also loud (c-byte (starts (laws.not-ws 91 (omega arith)) (laws.value-arr k 91 refl l)) then ws-first (arr k))

  first-end : Leads EndArray first (arr k) after k
  first-end = ws-first (arr k) then c-byte (by close_not (laws.first_close k 93 refl)) then ws-after k h

  end-array : Leads EndArray after (arr k) after k
  end-array = ws-after (arr k) h then c-byte (by refl (laws.arr_close k 93 refl)) then ws-after k h

  comma-array : Leads ValueSeparator after (arr k) value (arr k)
  comma-array = ws-after (arr k) h then c-byte (by refl (laws.arr-comma k 44 refl)) then ws-value (arr k)

  array : 0 < levels k → Shows X value (arr k) after (arr k) f → Shows (Array X) value k after k (bracketed 0x5B X EndArray f)
  array l x = begin-array l also c-any (as_if (s-first k) x also all (quiet comma-array also x)) (quiet end-array) (quiet first-end)

  begin-object : 0 < levels k → Shows BeginObject value k name₁ (obj k) (bracket 0x7B)
  begin-object l = quiet (ws-value k) also loud (c-byte (starts (laws.not-ws 123 (omega arith)) (laws.value-obj k 123 refl l)) then ws-name₁ (obj k))

  first-brace : Leads EndObject name₁ (obj k) after k
  first-brace = ws-name₁ (obj k) then c-byte (by refl (laws.name₁_close k 125 refl)) then ws-after k h

  end-object : Leads EndObject after (obj k) after k
  end-object = ws-after (obj k) h then c-byte (by refl (laws.obj_close k 125 refl)) then ws-after k h

  comma-object : Leads ValueSeparator after (obj k) name (obj k)
  comma-object = ws-after (obj k) h then c-byte (by refl (laws.obj-comma k 44 refl)) then ws-name (obj k)

  member : Shows X value (obj k) after (obj k) f → Shows (Member X) name (obj k) after (obj k) (behind_name X f)
  member x =
      quiet (c-byte (by refl (laws.name-quote (obj k) 34 refl)) then quoted label (obj k))
      also quiet (ws-colon (obj k) then c-byte (by refl (laws.colon-hit (obj k) 58 refl)) then ws-value (obj k)) also x

  object : 0 < levels k → Shows X value (obj k) after (obj k) f → Shows (Object X) value k after k (bracketed 0x7B (Member X) EndObject (behind_name X f))
  object l x = begin-object l also c-any (as_if (s-name k) (member x) also all (quiet comma-object also member x)) (quiet end-object) (quiet first-brace)

module _ (d : ℕ) (k : Stack) (h : Whole k) (o : Shows (Object (Value d)) value k after k (bracketed 0x7B (Member (Value d)) EndObject (behind_name (Value d) (value_places d))))
    (a : Shows (Array (Value d)) value k after k (bracketed 0x5B (Value d) EndArray (value_places d))) where
  value-run : (s : List ℕ) (x : Value (suc d) s) (r : List ℕ) (c : ℕ → List ℕ) → Acc r after k c → Acc (s ++ r) value k (λ i. value_places (suc d) s x i ++ c (i + length s))
  value-run s (left x) = (lit_false k h).run s x
  value-run s (right (left x)) = (lit_null k h).run s x
  value-run s (right (right (left x))) = (lit_true k h).run s x
  value-run s (right (right (right (left x)))) = o.run s x
  value-run s (right (right (right (right (left x))))) = a.run s x
  value-run s (right (right (right (right (right (left x)))))) = (number k h).run s x
  value-run s (right (right (right (right (right (right x)))))) = (string k h).run s x

values : (d : ℕ) (k : Stack) → Whole k → d ≤ levels k → Shows (Value d) value k after k (value_places d)
values zero k h l = record { run = (lit_false k h otherwise lit_null k h otherwise lit_true k h otherwise number k h otherwise string k h).run }
values (suc d) k h l =
    record {
      run = value-run d k h (object k h (Value d) (value_places d) (omega arith) (values d (obj k) h (omega arith)))
          (array k h (Value d) (value_places d) (omega arith) (values d (arr k) h (omega arith)));
    }

texts : (d : ℕ) → Shows (JsonText d) value (text d) after (text d) (along Ws _ (nothing _) (along (Value d) Ws (value_places d) (nothing _)))
texts d = quiet (ws-value (text d)) also values d (text d) tt (omega arith) also quiet (ws-after (text d) tt)

at-end : (d : ℕ) → Acc [] after (text d) (λ i. [])
unfolding walk stops begins
at-end d = record { ends = λ i. tt; is = λ i. refl }

run_of : (d : ℕ) (s : List ℕ) (x : JsonText d s) → Acc (s ++ []) value (text d) (λ i. along Ws _ (nothing _) (along (Value d) Ws (value_places d) (nothing _)) s x i ++ [])
run_of d s x = (texts d).run s x [] (λ i. []) (at-end d)

-- what the grammar derives, nested at most d deep, the machine with d levels takes to the end
pub complete : (d : ℕ) (s : List ℕ) → JsonText d s → Ends (walk s value (text d) 0)
complete d s x = subst (λ (l : List ℕ). Ends (walk l value (text d) 0)) (append-nil s) ((run_of d s x).ends 0)

-- and the machine begins values where the derivation has them, whichever derivation
pub complete-places : (d : ℕ) (s : List ℕ) (x : JsonText d s) → begins s value (text d) 0 ≡ places d s x
complete-places d s x = subst (λ (l : List ℕ). begins l value (text d) 0 ≡ places d s x) (append-nil s) ((run_of d s x).is 0 ∙ append-nil (places d s x))
