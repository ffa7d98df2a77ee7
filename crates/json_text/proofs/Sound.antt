-- What the machine takes to the end, the grammar derives: backwards from the end, each byte joins what the grammar still wants behind it. Assumes nothing.
use mathlib.Core.Path.{◌≡◌, refl, sym, subst}
use mathlib.Core.Bool.{Bool, true, false, ◌||◌, cond}
use mathlib.Core.List.{List, [], ◌∷◌, ◌++◌, append_assoc}
use mathlib.Core.Logic.{⊎_elim}
use Prim.Native.Nat.{ℕ, zero, suc, ◌+◌, ◌-◌, ◌≤◌, ◌<◌}
use native.Mathlib.Omega.{arith}
use borrow.Author.Tests.{eqb-true, eqb-false, leb-true, leb-false, ltb-true, ltb-false}
use lib.Dec.{eqb, leb, ltb}
use Rattle.octets.specs.Class.{is_digit, among}
use Rattle.octets.proofs.ClassLaws.{among_in, digit_in}
use Rattle.octets.proofs.TestLaws.{or_split, either}
use Rattle.json_text.specs.inner.Machine.{Stack, alone, text, arr, obj, Role, label, plain, Mode, value, first, name, name₁, colon, after, str, esc, hex, word}
use Rattle.json_text.specs.inner.Machine.{minus, nought, int, dot, frac, exp, sign, power, Next, live, dead, deep, done, is_hex_digit, is_sign, is_esc, closed}
use Rattle.json_text.specs.inner.Machine.{due, hexes, levels, shut, opens, begin, ends, expo, point, step, over, ended, stops, takes, walk}
use Rattle.json_text.specs.Places.{is_ws}
use Rattle.json_text.specs.Rfc7159.{Rule, Bytes, bytes, range, at_least, ◌⨾◌, both, ◌or◌, left, right, Opt, absent, present, Star, none, more, Plus, Byte}
use Rattle.json_text.specs.Rfc7159.{ws as Ws, end-array as EndArray, end-object as EndObject, name_separator as NameSeparator}
use Rattle.json_text.specs.Rfc7159.{value_separator as ValueSeparator, DIGIT as Digit, int as Int, frac as Frac, exp as Exp, HEXDIG as HexDig}
use Rattle.json_text.specs.Rfc7159.{unescaped as Unescaped, char as Char, member as Member, value as Value, JSON-text as JsonText}
use Rattle.json_text.proofs.Refusal.{Ends}
use Rattle.json_text.proofs.Complete.{Escaped}

-- a structural character with white space around it
abbrev Structural : ℕ → Rule
Structural b = Ws ⨾ Byte b ⨾ Ws

-- What is due of the grammar, by where the machine stands.
abbrev After : Stack → Rule
After (alone d) = λ s. Unit
After (text d) = Ws
After (arr k) = Star (ValueSeparator ⨾ Value (levels k - 1)) ⨾ EndArray ⨾ After k
After (obj k) = Star (ValueSeparator ⨾ Member (Value (levels k - 1))) ⨾ EndObject ⨾ After k

abbrev BeforeValue : Stack → Rule
BeforeValue k = Ws ⨾ Value (levels k) ⨾ After k

abbrev BeforeName : Stack → Rule
BeforeName k = Ws ⨾ Member (Value (levels k)) ⨾ After k

abbrev Quoted : Rule
Quoted = Star Char ⨾ Byte 0x22

abbrev Closed : Role → Stack → Rule
Closed label k = NameSeparator ⨾ Value (levels k) ⨾ After k
Closed plain k = After k

abbrev Hexes : ℕ → Rule
Hexes zero = Quoted
Hexes (suc n) = HexDig ⨾ Hexes n

abbrev Rest : Mode → Stack → Rule
Rest value k = BeforeValue k
Rest first k = BeforeValue k or Ws ⨾ Byte 0x5D ⨾ After (shut k)
Rest name k = BeforeName k
Rest name₁ k = BeforeName k or Ws ⨾ Byte 0x7D ⨾ After (shut k)
Rest colon k = NameSeparator ⨾ Value (levels k) ⨾ After k
Rest after k = After k
Rest (str w) k = Quoted ⨾ Closed w k
Rest (esc w) k = (Escaped ⨾ Quoted) ⨾ Closed w k
Rest (hex w n) k = (HexDig ⨾ Hexes n) ⨾ Closed w k
Rest (word x xs) k = Bytes (x ∷ xs) ⨾ After k
Rest minus k = (Int ⨾ Opt Frac ⨾ Opt Exp) ⨾ After k
Rest nought k = (Opt Frac ⨾ Opt Exp) ⨾ After k
Rest int k = (Star Digit ⨾ Opt Frac ⨾ Opt Exp) ⨾ After k
Rest dot k = (Plus Digit ⨾ Opt Exp) ⨾ After k
Rest frac k = (Star Digit ⨾ Opt Exp) ⨾ After k
Rest exp k = (Opt (Byte 0x2D or Byte 0x2B) ⨾ Plus Digit) ⨾ After k
Rest sign k = Plus Digit ⨾ After k
Rest power k = Star Digit ⨾ After k

-- what is due after a byte that did n
data Onward : Next → List ℕ → Type 0 where
  goes : {m : Mode} {k : Stack} {s : List ℕ} → Rest m k s → Onward (live m k) s
  was : {s : List ℕ} → Onward done s

abbrev Onwards : Next → List ℕ → Type 0
Onwards (live m k) s = Rest m k s
Onwards dead s = ⊥
Onwards deep s = ⊥
Onwards done s = Unit

onwards : (n : Next) (s : List ℕ) → Onward n s → Onwards n s
onwards n s (goes x) = x
onwards n s was = tt

un : {m : Mode} {k : Stack} {s : List ℕ} → Onward (live m k) s → Rest m k s
un {m} {k} {s} o = onwards (live m k) s o

no : {A : Type 0} {s : List ℕ} → Onward dead s → A
no {s = s} o = absurd (onwards dead s o)

no-deep : {A : Type 0} {s : List ℕ} → Onward deep s → A
no-deep {s = s} o = absurd (onwards deep s o)

picks : {x y : Next} {s : List ℕ} {A : Type 0} (t : Bool) → (t ≡ true → Onward x s → A) → (t ≡ false → Onward y s → A) → Onward (cond t x y) s → A
picks true f g o = f refl o
picks false f g o = g refl o

-- Bytes of the classes.
byte : {b c : ℕ} → b ≡ c → Byte c (b ∷ [])
byte {b} {c} e = subst (λ (x : ℕ). Byte c (x ∷ [])) (sym e) bytes

is : (b c : ℕ) → eqb b c ≡ true → Byte c (b ∷ [])
is b c e = byte (eqb-true b c e)

ws_of : (b : ℕ) → is_ws b ≡ true → (Byte 0x20 or Byte 0x09 or Byte 0x0A or Byte 0x0D) (b ∷ [])
unfolding is_ws
ws_of b h =
    ⊎_elim (λ e. left (is b 32 e))
    (λ h₁. ⊎_elim (λ e. right (left (is b 9 e))) (λ h₂. ⊎_elim (λ e. right (right (left (is b 10 e)))) (λ e. right (right (right (is b 13 e)))) (or_split (eqb b 10) _ h₂))
    (or_split (eqb b 9) _ h₁)) (or_split (eqb b 32) _ h)

digit_of : (b : ℕ) → is_digit b ≡ true → Digit (b ∷ [])
digit_of b h = let p = digit_in b h in range p.0 p.1

hex_of : (b : ℕ) → is_hex_digit b ≡ true → HexDig (b ∷ [])
unfolding is_hex_digit
hex_of b h =
    ⊎_elim (λ e. left (digit_of b e))
    (λ h₁. ⊎_elim (λ e. let p = among_in 65 70 b e in right (left (range p.0 p.1))) (λ e. let p = among_in 97 102 b e in right (right (range p.0 p.1)))
    (or_split (among 65 70 b) _ h₁)) (or_split (is_digit b) _ h)

unescaped_of : (b : ℕ) → (b ≡ 34 → ⊥) → (b ≡ 92 → ⊥) → 32 ≤ b → Unescaped (b ∷ [])
unescaped_of b h₁ h₂ l =
    ⊎_elim (λ e. left (range l (leb-true b 33 e)))
    (λ e. let u = leb-false b 33 e in
    ⊎_elim (λ f. let v = leb-true b 91 f in right (left (range (omega arith) v))) (λ f. let v = leb-false b 91 f in right (right (at_least (omega arith))))
    (either (leb b 91))) (either (leb b 33))

sign_of : (b : ℕ) → is_sign b ≡ true → (Byte 0x2D or Byte 0x2B) (b ∷ [])
unfolding is_sign
sign_of b h = ⊎_elim (λ e. right (is b 43 e)) (λ e. left (is b 45 e)) (or_split (eqb b 43) _ h)

esc_of : (b : ℕ) → is_esc b ≡ true → Escaped (b ∷ [])
unfolding is_esc
esc_of b h =
    ⊎_elim (λ e. left (is b 34 e))
    (λ h₁. ⊎_elim (λ e. right (left (is b 92 e))) (λ h₂. ⊎_elim (λ e. right (right (left (is b 47 e)))) (λ h₃. ⊎_elim (λ e. right (right (right (left (is b 98 e)))))
    (λ h₄. ⊎_elim (λ e. right (right (right (right (left (is b 102 e)))))) (λ h₅. ⊎_elim (λ e. right (right (right (right (right (left (is b 110 e)))))))
    (λ h₆. ⊎_elim (λ e. right (right (right (right (right (right (left (is b 114 e)))))))) (λ e. right (right (right (right (right (right (right (left (is b 116 e)))))))))
    (or_split (eqb b 114) _ h₆))
    (or_split (eqb b 110) _ h₅)) (or_split (eqb b 102) _ h₄)) (or_split (eqb b 98) _ h₃)) (or_split (eqb b 47) _ h₂)) (or_split (eqb b 92) _ h₁)) (or_split (eqb b 34) _ h)

-- One byte in front.
front : {A A' B : Rule} {b : ℕ} {s : List ℕ} → ((p : List ℕ) → A' p → A (b ∷ p)) → (A' ⨾ B) s → (A ⨾ B) (b ∷ s)
front f (both {s = p} x y) = both (f p x) y

onto : {A A' B : Rule} {s : List ℕ} → ((p : List ℕ) → A' p → A p) → (A' ⨾ B) s → (A ⨾ B) s
onto f (both {s = p} x y) = both (f p x) y

ws-front : {b : ℕ} {s : List ℕ} → is_ws b ≡ true → Ws s → Ws (b ∷ s)
ws-front {b} h x = more (ws_of b h) x

ws-then : {B : Rule} {b : ℕ} {s : List ℕ} → is_ws b ≡ true → (Ws ⨾ B) s → (Ws ⨾ B) (b ∷ s)
ws-then h = front (λ p x. ws-front h x)

struct_front : {b c : ℕ} {s : List ℕ} → is_ws b ≡ true → Structural c s → Structural c (b ∷ s)
struct_front h = ws-then h

-- white space before a separator or a closing bracket
ws-items : {b c : ℕ} {X Z : Rule} {s : List ℕ} → is_ws b ≡ true → (Star (ValueSeparator ⨾ X) ⨾ Structural c ⨾ Z) s → (Star (ValueSeparator ⨾ X) ⨾ Structural c ⨾ Z) (b ∷ s)
ws-items h (both none (both e z)) = both none (both (struct_front h e) z)
ws-items h (both (more (both c x) y) z) = both (more (both (struct_front h c) x) y) z

comma : {X Z : Rule} {b : ℕ} {s : List ℕ} → b ≡ 44 → (Ws ⨾ X ⨾ Star (ValueSeparator ⨾ X) ⨾ Z) s → (Star (ValueSeparator ⨾ X) ⨾ Z) (b ∷ s)
comma {X} {Z} {b} h (both {s = w} ws (both {s = v} x (both {s = m} {t = z} y r))) =
    let it : (ValueSeparator ⨾ X) (b ∷ (w ++ v)) = both (both none (both (byte h) ws)) x in
    let all : (Star (ValueSeparator ⨾ X) ⨾ Z) (((b ∷ (w ++ v)) ++ m) ++ z) = both (more it y) r in
    simp append_assoc at all

shuts : {X Z : Rule} {b c : ℕ} {s : List ℕ} → b ≡ c → Z s → (Star X ⨾ Structural c ⨾ Z) (b ∷ s)
shuts h z = both none (both (both none (both (byte h) none)) z)

opened : {X Z : Rule} {b c d : ℕ} {s : List ℕ} → b ≡ c → (Ws ⨾ X ⨾ Star (ValueSeparator ⨾ X) ⨾ Structural d ⨾ Z) s
    → ((Structural c ⨾ Opt (X ⨾ Star (ValueSeparator ⨾ X)) ⨾ Structural d) ⨾ Z) (b ∷ s)
opened {X} {Z} {b} {c} {d} h (both {s = w} ws (both {s = v} x (both {s = m} y (both {s = e} {t = z} en r)))) =
    let all : ((Structural c ⨾ Opt (X ⨾ Star (ValueSeparator ⨾ X)) ⨾ Structural d) ⨾ Z) ((b ∷ (w ++ ((v ++ m) ++ e))) ++ z) = both
    (both (both none (both (byte h) ws)) (both (present (both x y)) en)) r in
    simp append_assoc at all

empty : {X Z : Rule} {b c d : ℕ} {s : List ℕ} → b ≡ c → (Ws ⨾ Byte d ⨾ Z) s → ((Structural c ⨾ Opt X ⨾ Structural d) ⨾ Z) (b ∷ s)
empty {X} {Z} {b} {c} {d} h (both {s = w} ws (both {t = z} bytes r)) =
    let all : ((Structural c ⨾ Opt X ⨾ Structural d) ⨾ Z) ((b ∷ (w ++ (d ∷ []))) ++ z) = both (both (both none (both (byte h) ws)) (both absent (both none (both bytes none)))) r in
    simp append_assoc at all

named : {X Z : Rule} {b : ℕ} {s : List ℕ} → b ≡ 34 → (Quoted ⨾ NameSeparator ⨾ X ⨾ Z) s → (Ws ⨾ Member X ⨾ Z) (b ∷ s)
named {X} {Z} {b} h (both {s = q} x (both {s = c} y (both {s = v} {t = z} u r))) =
    let all : (Ws ⨾ Member X ⨾ Z) (((b ∷ q) ++ (c ++ v)) ++ z) = both none (both (both (both (byte h) x) (both y u)) r) in
    simp append_assoc at all

escape : {b : ℕ} {s : List ℕ} → b ≡ 92 → (Escaped ⨾ Quoted) s → Quoted (b ∷ s)
escape {b} h (both {s = p} e (both {s = q} {t = r} cs z)) =
    let all : Quoted (((b ∷ p) ++ q) ++ r) = both (more (right (both (byte h) e)) cs) z in
    simp append_assoc at all

uni : {b : ℕ} {s : List ℕ} → b ≡ 117 → (HexDig ⨾ HexDig ⨾ HexDig ⨾ HexDig ⨾ Quoted) s → (Escaped ⨾ Quoted) (b ∷ s)
uni {b} h (both {s = p₁} x₁ (both {s = p₂} x₂ (both {s = p₃} x₃ (both {s = p₄} {t = z} x₄ q)))) =
    let all : (Escaped ⨾ Quoted) ((b ∷ (p₁ ++ (p₂ ++ (p₃ ++ p₄)))) ++ z) = both
    (right (right (right (right (right (right (right (right (both (byte h) (both x₁ (both x₂ (both x₃ x₄)))))))))))) q in
    simp append_assoc at all

-- After a value.
back-ends : (k : Stack) (b : ℕ) (s : List ℕ) → Onward (ends k b) s → After k (b ∷ s)
unfolding ends
back-ends (alone d) b s o = tt
back-ends (text d) b s o = picks (is_ws b) (λ w x. ws-front w (un x)) (λ w x. no x) o
back-ends (arr k) b s o = picks (is_ws b) (λ w x. ws-items w (un x))
    (λ w. picks (eqb b 44) (λ e x. comma (eqb-true b 44 e) (un x)) (λ e. picks (eqb b 93) (λ f x. shuts (eqb-true b 93 f) (un x)) (λ f x. no x))) o
back-ends (obj k) b s o = picks (is_ws b) (λ w x. ws-items w (un x))
    (λ w. picks (eqb b 44) (λ e x. comma (eqb-true b 44 e) (un x)) (λ e. picks (eqb b 125) (λ f x. shuts (eqb-true b 125 f) (un x)) (λ f x. no x))) o

-- Numbers.
module _ (k : Stack) (b : ℕ) (s : List ℕ) where
  back-expo : {A : Rule} → A [] → ((p : List ℕ) → Exp p → A p) → Onward (expo k b) s → (A ⨾ After k) (b ∷ s)
  unfolding expo
  back-expo {A} z f o =
      picks (eqb b 101 || eqb b 69)
      (λ e x. front (λ p y. f (b ∷ p) (both (⊎_elim (λ q. left (is b 101 q)) (λ q. right (is b 69 q)) (or_split (eqb b 101) (eqb b 69) e)) y)) (un x))
      (λ e x. both z (back-ends k b s x)) o

  back-point : {A : Rule} → A [] → ((p : List ℕ) → Exp p → A p) → ((p : List ℕ) → (Plus Digit ⨾ Opt Exp) p → A (46 ∷ p)) → Onward (point k b) s → (A ⨾ After k) (b ∷ s)
  unfolding point
  back-point {A} z f g o = picks (eqb b 46) (λ e x. front (λ p y. subst (λ (c : ℕ). A (c ∷ p)) (sym (eqb-true b 46 e)) (g p y)) (un x)) (λ e. back-expo z f) o

frac_in : {p : List ℕ} → (Plus Digit ⨾ Opt Exp) p → (Opt Frac ⨾ Opt Exp) (46 ∷ p)
frac_in (both ds e) = both (present (both bytes ds)) e

int_in : {b : ℕ} {p : List ℕ} → (b ≡ 48 → ⊥) → is_digit b ≡ true → (Star Digit ⨾ Opt Frac ⨾ Opt Exp) p → (Int ⨾ Opt Frac ⨾ Opt Exp) (b ∷ p)
int_in {b} h d (both ds t) = let p = digit_in b d in both (right (both (range {b = b} (omega arith) p.1) ds)) t

digits_in : {b : ℕ} {p : List ℕ} {B : Rule} → is_digit b ≡ true → (Star Digit ⨾ B) p → (Star Digit ⨾ B) (b ∷ p)
digits_in {b} d (both ds t) = both (more (digit_of b d) ds) t

plus_in : {b : ℕ} {p : List ℕ} {B : Rule} → is_digit b ≡ true → (Star Digit ⨾ B) p → (Plus Digit ⨾ B) (b ∷ p)
plus_in {b} d (both ds t) = both (both (digit_of b d) ds) t

one_in : {b : ℕ} {p : List ℕ} → is_digit b ≡ true → Star Digit p → Plus Digit (b ∷ p)
one_in {b} d ds = both (digit_of b d) ds

-- A value begins.
scalar_in : (d : ℕ) (s : List ℕ) → Value 0 s → Value d s
scalar_in zero s x = x
scalar_in (suc d) s (left x) = left x
scalar_in (suc d) s (right (left x)) = right (left x)
scalar_in (suc d) s (right (right (left x))) = right (right (left x))
scalar_in (suc d) s (right (right (right x))) = right (right (right (right (right x))))

bytes_in : {b c : ℕ} {w p : List ℕ} → b ≡ c → Bytes w p → Bytes (c ∷ w) (b ∷ p)
bytes_in {b} {c} {w} e bytes = subst (λ (x : ℕ). Bytes (c ∷ w) (x ∷ w)) (sym e) bytes

due-rest : (xs : List ℕ) (k : Stack) (s : List ℕ) → Rest (due xs) k s → (Bytes xs ⨾ After k) s
unfolding due
due-rest [] k s x = both bytes x
due-rest (y ∷ ys) k s x = x

module _ (k : Stack) (b : ℕ) (s : List ℕ) where
  sc : {A : Rule} → ((p : List ℕ) → A p → Value 0 (b ∷ p)) → (A ⨾ After k) s → (Value (levels k) ⨾ After k) (b ∷ s)
  sc f x = front (λ p y. scalar_in (levels k) (b ∷ p) (f p y)) x

  deeper : 0 < levels k → (levels k) ≡ suc (levels k - 1)
  deeper h = omega arith

  arr_in : b ≡ 91 → Rest first (arr k) s → (Value (suc (levels k - 1)) ⨾ After k) (b ∷ s)
  arr_in e (left x) = onto (λ p y. right (right (right (right (left y))))) (opened e x)
  arr_in e (right x) = onto (λ p y. right (right (right (right (left y))))) (empty e x)

  obj_in : b ≡ 123 → Rest name₁ (obj k) s → (Value (suc (levels k - 1)) ⨾ After k) (b ∷ s)
  obj_in e (left x) = onto (λ p y. right (right (right (left y)))) (opened e x)
  obj_in e (right x) = onto (λ p y. right (right (right (left y)))) (empty e x)

  to-levels : ltb 0 (levels k) ≡ true → (Value (suc (levels k - 1)) ⨾ After k) (b ∷ s) → (Value (levels k) ⨾ After k) (b ∷ s)
  to-levels l x = subst (λ (d : ℕ). (Value d ⨾ After k) (b ∷ s)) (sym (deeper (ltb-true 0 (levels k) l))) x

  back-arr : b ≡ 91 → Onward (opens arr first k) s → (Value (levels k) ⨾ After k) (b ∷ s)
  unfolding opens
  back-arr e o = picks (ltb 0 (levels k)) (λ l x. to-levels l (arr_in e (un x))) (λ l x. no-deep x) o

  back-obj : b ≡ 123 → Onward (opens obj name₁ k) s → (Value (levels k) ⨾ After k) (b ∷ s)
  unfolding opens
  back-obj e o = picks (ltb 0 (levels k)) (λ l x. to-levels l (obj_in e (un x))) (λ l x. no-deep x) o

  word_in : (xs : List ℕ) → Onward (live (due xs) k) s → (Bytes xs ⨾ After k) s
  word_in xs o = due-rest xs k s (un o)

  back-begin : Onward (begin k b) s → (Value (levels k) ⨾ After k) (b ∷ s)
  unfolding begin
  back-begin o =
      picks (eqb b 34) (λ e x. sc (λ p y. right (right (right (right (both (is b 34 e) y))))) (un x))
      (λ h₁. picks (eqb b 91) (λ e. back-arr (eqb-true b 91 e))
      (λ h₂. picks (eqb b 123) (λ e. back-obj (eqb-true b 123 e))
      (λ h₃. picks (eqb b 116) (λ e x. sc (λ p y. right (right (left (bytes_in (eqb-true b 116 e) y)))) (word_in (114 ∷ 117 ∷ 101 ∷ []) x))
      (λ h₄. picks (eqb b 102) (λ e x. sc (λ p y. left (bytes_in (eqb-true b 102 e) y)) (word_in (97 ∷ 108 ∷ 115 ∷ 101 ∷ []) x))
      (λ h₅. picks (eqb b 110) (λ e x. sc (λ p y. right (left (bytes_in (eqb-true b 110 e) y))) (word_in (117 ∷ 108 ∷ 108 ∷ []) x))
      (λ h₆. picks (eqb b 45) (λ e x. sc (λ p y. right (right (right (left (both (present (is b 45 e)) y))))) (un x))
      (λ h₇. picks (eqb b 48) (λ e x. sc (λ p y. right (right (right (left (both absent (both (left (is b 48 e)) y)))))) (un x))
      (λ h₈. picks (is_digit b) (λ d x. sc (λ p y. right (right (right (left (both absent (int_in (eqb-false b 48 h₈) d y)))))) (un x))
      (λ h₉ x. no x))))))))) o

-- A byte of a string.
closed_is : (w : Role) (k : Stack) (s : List ℕ) → Onward (live (closed w) k) s → Closed w k s
closed_is label k s x = un x
closed_is plain k s x = un x

module _ (w : Role) (k : Stack) (b : ℕ) (s : List ℕ) where
  hexes-is : (n : ℕ) → Rest (hexes w n) k s → (Hexes n ⨾ Closed w k) s
  unfolding hexes
  hexes-is zero x = x
  hexes-is (suc n) x = x

char_in : {b : ℕ} {p : List ℕ} → Unescaped (b ∷ []) → Quoted p → Quoted (b ∷ p)
char_in u (both cs q) = both (more (left u) cs) q

-- a byte back: what is due after it, and the byte, are what is due before it
back : (m : Mode) (k : Stack) (b : ℕ) (s : List ℕ) → Onward (step m k b) s → Rest m k (b ∷ s)
unfolding step
back value k b s o = picks (is_ws b) (λ w x. ws-then w (un x)) (λ w x. both none (back-begin k b s x)) o
back first k b s o =
    picks (is_ws b) (λ w x. firsts w (un x))
    (λ w. picks (eqb b 93) (λ e x. right (both none (both (is b 93 e) (un x)))) (λ e x. left (both none (back-begin k b s x)))) o
  where
    firsts : is_ws b ≡ true → Rest first k s → Rest first k (b ∷ s)
    firsts w (left x) = left (ws-then w x)
    firsts w (right x) = right (ws-then w x)
back name k b s o = picks (is_ws b) (λ w x. ws-then w (un x)) (λ w. picks (eqb b 34) (λ e x. named (eqb-true b 34 e) (un x)) (λ e x. no x)) o
back name₁ k b s o =
    picks (is_ws b) (λ w x. firsts w (un x))
    (λ w. picks (eqb b 125) (λ e x. right (both none (both (is b 125 e) (un x)))) (λ e. picks (eqb b 34) (λ f x. left (named (eqb-true b 34 f) (un x))) (λ f x. no x))) o
  where
    firsts : is_ws b ≡ true → Rest name₁ k s → Rest name₁ k (b ∷ s)
    firsts w (left x) = left (ws-then w x)
    firsts w (right x) = right (ws-then w x)
back colon k b s o = picks (is_ws b) (λ w x. front (λ p y. struct_front w y) (un x))
    (λ w. picks (eqb b 58) (λ e x. front (λ p y. both none (both (is b 58 e) y)) (un x)) (λ e x. no x)) o
back after k b s o = back-ends k b s o
back (str w) k b s o =
    picks (eqb b 34) (λ e x. both (both none (is b 34 e)) (closed_is w k s x))
    (λ e. picks (eqb b 92) (λ f x. front (λ p y. escape (eqb-true b 92 f) y) (un x))
    (λ f. picks (ltb b 32) (λ g x. no x) (λ g x. front (λ p y. char_in (unescaped_of b (eqb-false b 34 e) (eqb-false b 92 f) (ltb-false b 32 g)) y) (un x)))) o
back (esc w) k b s o =
    picks (is_esc b) (λ e x. front (λ p y. both (esc_of b e) y) (un x))
    (λ e. picks (eqb b 117) (λ f x. front (λ p y. uni (eqb-true b 117 f) y) (hexes-is w k b s 4 (un x))) (λ f x. no x)) o
back (hex w n) k b s o = picks (is_hex_digit b) (λ e x. front (λ p y. both (hex_of b e) y) (hexes-is w k b s n (un x))) (λ e x. no x) o
back (word y ys) k b s o = picks (eqb b y) (λ e x. front (λ p z. bytes_in (eqb-true b y e) z) (due-rest ys k s (un x))) (λ e x. no x) o
back minus k b s o =
    picks (eqb b 48) (λ e x. front (λ p y. both (left (is b 48 e)) y) (un x))
    (λ e. picks (is_digit b) (λ d x. front (λ p y. int_in (eqb-false b 48 e) d y) (un x)) (λ d x. no x)) o
back nought k b s o = back-point k b s (both absent absent) (λ p y. both absent (present y)) (λ p y. frac_in y) o
back int k b s o = picks (is_digit b) (λ d x. front (λ p y. digits_in d y) (un x))
    (λ d. back-point k b s (both none (both absent absent)) (λ p y. both none (both absent (present y))) (λ p y. both none (frac_in y))) o
back dot k b s o = picks (is_digit b) (λ d x. front (λ p y. plus_in d y) (un x)) (λ d x. no x) o
back frac k b s o = picks (is_digit b) (λ d x. front (λ p y. digits_in d y) (un x)) (λ d. back-expo k b s (both none absent) (λ p y. both none (present y))) o
back exp k b s o =
    picks (is_digit b) (λ d x. front (λ p y. both absent (one_in d y)) (un x))
    (λ d. picks (is_sign b) (λ e x. front (λ p y. both (present (sign_of b e)) y) (un x)) (λ e x. no x)) o
back sign k b s o = picks (is_digit b) (λ d x. front (λ p y. one_in d y) (un x)) (λ d x. no x) o
back power k b s o = picks (is_digit b) (λ d x. front (λ p y. more (digit_of b d) y) (un x)) (λ d x. both none (back-ends k b s x)) o

-- The bytes stop: nothing more is due.
never : {A : Type 0} → ◌≡◌ {A = Bool} false true → A
never e = let z : ◌≡◌ {A = ℕ} 0 1 = cc in absurd (omega arith)

stop : (m : Mode) (k : Stack) → over m ≡ true → After k [] → Rest m k []
stop value k o a = never o
stop first k o a = never o
stop name k o a = never o
stop name₁ k o a = never o
stop colon k o a = never o
stop after k o a = a
stop (str w) k o a = never o
stop (esc w) k o a = never o
stop (hex w n) k o a = never o
stop (word x xs) k o a = never o
stop minus k o a = never o
stop nought k o a = both (both absent absent) a
stop int k o a = both (both none (both absent absent)) a
stop dot k o a = never o
stop frac k o a = both (both none absent) a
stop exp k o a = never o
stop sign k o a = never o
stop power k o a = both none a

ended-over : (t : Bool) (i : ℕ) → Ends (ended t i) → t ≡ true
ended-over true i e = refl
ended-over false i e = absurd e

stopped : (m : Mode) (k : Stack) (i : ℕ) → Ends (stops m k i) → Rest m k []
unfolding stops
stopped m (alone d) i e = stop m (alone d) (ended-over (over m) i e) tt
stopped m (text d) i e = stop m (text d) (ended-over (over m) i e) none
stopped m (arr k) i e = absurd e
stopped m (obj k) i e = absurd e

onward : (n : Next) (s : List ℕ) (i : ℕ) → Ends (takes n (walk s) i) → ((m : Mode) (k : Stack) → Ends (walk s m k (i + 1)) → Rest m k s) → Onward n s
onward (live m k) s i e f = goes (f m k e)
onward dead s i e f = absurd e
onward deep s i e f = absurd e
onward done s i e f = was

rests : (s : List ℕ) (m : Mode) (k : Stack) (i : ℕ) → Ends (walk s m k i) → Rest m k s
unfolding walk
rests [] m k i e = stopped m k i e
rests (b ∷ s) m k i e = back m k b s (onward (step m k b) s i e (λ m' k' e'. rests s m' k' (i + 1) e'))

-- what the machine with d levels takes to the end, the grammar derives, nested at most d deep
pub sound : (d : ℕ) (s : List ℕ) → Ends (walk s value (text d) 0) → JsonText d s
sound d s e = rests s value (text d) 0 e
