-- A value that RFC 7159 derives is white space, its core and white space: the rules count white space around brackets to the array and the object.
-- The core is the value's own bytes: the scan ends with it, and it is derived by itself (`core_of`). Cited by proofs/PlaceTie.antt. Assumes nothing.
use mathlib.Core.Path.{◌≡◌, refl, sym, ap, subst, ◌∙◌}
use mathlib.Core.Bool.{Bool, true, false, ◌||◌, and-false}
use mathlib.Core.List.{List, [], ◌∷◌, ◌++◌, append_assoc, append-nil}
use Prim.Native.Nat.{ℕ, zero, suc, ◌≤◌, ◌<◌}
use native.Mathlib.Omega.{arith}
use lib.ListN.{length, drop}
use lib.Dec.{eqb}
use borrow.Author.Tests.{ne_eqb}
use Rattle.octets.specs.Class.{all}
use Rattle.json_text.specs.Places.{spaces, is_open, is_shut, is_mark, outside, size, is_ws}
use Rattle.json_text.specs.Rfc7159.{Rule, Bytes, bytes as it, Byte, Range, range, ◌⨾◌, both, ◌or◌, left as one_of, right, Opt, absent, present, Star, none}
use Rattle.json_text.specs.Rfc7159.{more, DIGIT, ws, value_separator, False, null, True, number, char, string, member, object, array, value}
use Rattle.json_text.specs.inner.Derived.{shorn, bare}
use Rattle.json_text.proofs.PlaceLaws.{left-none}
use Rattle.json_text.proofs.StepLaws.{not-ws}
use Rattle.json_text.proofs.Listing.{Ink, Blank, Starts, Sized, Label, starts-ink, ws_34, ws_91, ws_93, ws_123, ws_125}
use Rattle.json_text.proofs.ScanLaws.{left-closes}
use Rattle.json_text.proofs.EndLaws.{Unmarked, Marked, letter, unmark, plain_size}
use Rattle.json_text.proofs.GrammarScan.{Passes, p_ws, p_chars, p_quote, p_values, p_members, p_end_93, p_end_125, p_value, ◌and_then◌}

-- White space that is derived is blank.
one-blank : (p : List ℕ) → (Byte 0x20 or Byte 0x09 or Byte 0x0A or Byte 0x0D) p → Blank p
unfolding is_ws
one-blank p (one_of it) = (refl, tt)
one-blank p (right (one_of it)) = (refl, tt)
one-blank p (right (right (one_of it))) = (refl, tt)
one-blank p (right (right (right it))) = (refl, tt)

pub blank-append : (p q : List ℕ) → Blank p → Blank q → Blank (p ++ q)
blank-append [] q h g = g
blank-append (b ∷ p) q h g = (h.0, blank-append p q h.1 g)

pub blank_of : (w : List ℕ) → ws w → Blank w
blank_of w none = tt
blank_of w (more {s = p} {t = q} x y) = blank-append p q (one-blank p x) (blank_of q y)

-- Numbers and literals have no mark in them.
record Plain (A : Rule) : Type 0 where
  all_of : (s : List ℕ) → A s → Unmarked s

unmarked-append : (p q : List ℕ) → Unmarked p → Unmarked q → Unmarked (p ++ q)
unmarked-append [] q h g = g
unmarked-append (b ∷ p) q h g = (h.0, unmarked-append p q h.1 g)

plain-bytes : (w : List ℕ) → Unmarked w → (s : List ℕ) → Bytes w s → Unmarked s
plain-bytes w h s it = h

u-bytes : {w : List ℕ} → Unmarked w → Plain (Bytes w)
u-bytes {w} h = record { all_of = plain-bytes w h }

plain-range : (lo hi : ℕ) → ((b : ℕ) → lo ≤ b → b ≤ hi → is_mark b ≡ false) → (s : List ℕ) → Range lo hi s → Unmarked s
plain-range lo hi f s (range {b} l u) = (f b l u, tt)

u-range : {lo hi : ℕ} → ((b : ℕ) → lo ≤ b → b ≤ hi → is_mark b ≡ false) → Plain (Range lo hi)
u-range {lo} {hi} f = record { all_of = plain-range lo hi f }

module _ (A B : Rule) where
  plain-or : Plain A → Plain B → (s : List ℕ) → (A or B) s → Unmarked s
  plain-or f g s (one_of y) = f.all_of s y
  plain-or f g s (right y) = g.all_of s y

  plain-both : Plain A → Plain B → (s : List ℕ) → (A ⨾ B) s → Unmarked s
  plain-both f g s (both {s = p} {t = q} y z) = unmarked-append p q (f.all_of p y) (g.all_of q z)

  plain_opt : Plain A → (s : List ℕ) → Opt A s → Unmarked s
  plain_opt f s absent = tt
  plain_opt f s (present y) = f.all_of s y

  plain_star : Plain A → (s : List ℕ) → Star A s → Unmarked s
  plain_star f s none = tt
  plain_star f s (more {s = p} {t = q} y z) = unmarked-append p q (f.all_of p y) (plain_star f q z)

infixr 40 ◌u-or◌
◌u-or◌ : {A B : Rule} → Plain A → Plain B → Plain (A or B)
◌u-or◌ {A} {B} f g = record { all_of = plain-or A B f g }

infixr 50 ◌u-then◌
◌u-then◌ : {A B : Rule} → Plain A → Plain B → Plain (A ⨾ B)
◌u-then◌ {A} {B} f g = record { all_of = plain-both A B f g }

u_opt : {A : Rule} → Plain A → Plain (Opt A)
u_opt {A} f = record { all_of = plain_opt A A f }

u_star : {A : Rule} → Plain A → Plain (Star A)
u_star {A} f = record { all_of = plain_star A A f }

u-byte : (b : ℕ) → 32 < b → (b ≡ 44 → ⊥) → (b ≡ 93 → ⊥) → (b ≡ 125 → ⊥) → Plain (Byte b)
u-byte b l h₁ h₂ h₃ = u-bytes (unmark b l h₁ h₂ h₃, tt)

u-digit : Plain DIGIT
u-digit = u-range (λ b l u. unmark b (omega arith) (omega arith) (omega arith) (omega arith))

u-number : Plain number
u-number =
    u_opt (u-byte 0x2D (omega arith) (omega arith) (omega arith) (omega arith))
    u-then (u-byte 0x30 (omega arith) (omega arith) (omega arith) (omega arith) u-or u-range (λ b l u. unmark b (omega arith) (omega arith) (omega arith) (omega arith)) u-then
    u_star u-digit)
    u-then u_opt (u-byte 0x2E (omega arith) (omega arith) (omega arith) (omega arith) u-then u-digit u-then u_star u-digit)
    u-then u_opt ((u-byte 0x65 (omega arith) (omega arith) (omega arith) (omega arith) u-or u-byte 0x45 (omega arith) (omega arith) (omega arith) (omega arith)) u-then u_opt
    (u-byte 0x2D (omega arith) (omega arith) (omega arith) (omega arith) u-or u-byte 0x2B (omega arith) (omega arith) (omega arith) (omega arith)) u-then u-digit u-then u_star
    u-digit)

-- their first byte
record Front (v : List ℕ) : Type 0 where
  b : ℕ
  t : List ℕ
  is : v ≡ b ∷ t
  no-quote : eqb b 34 ≡ false
  no-array : eqb b 91 ≡ false
  no-object : eqb b 123 ≡ false
  no-shut : eqb b 93 ≡ false
  ink : is_ws b ≡ false

front : (b : ℕ) (t : List ℕ) → 34 < b → (b ≡ 91 → ⊥) → (b ≡ 93 → ⊥) → (b ≡ 123 → ⊥) → Front (b ∷ t)
front b t l h₁ h₂ h₃ = record {
  b = b;
  t = t;
  is = refl;
  no-quote = ne_eqb b 34 (omega arith);
  no-array = ne_eqb b 91 h₁;
  no-object = ne_eqb b 123 h₃;
  no-shut = ne_eqb b 93 h₂;
  ink = not-ws b (omega arith);
}

number-front : (v : List ℕ) → number v → Front v
number-front v (both (present it) r) = front 45 _ (omega arith) (omega arith) (omega arith) (omega arith)
number-front v (both absent (both (one_of it) r)) = front 48 _ (omega arith) (omega arith) (omega arith) (omega arith)
number-front v (both absent (both (right (both (range {b} l u) ds)) r)) = front b _ (omega arith) (omega arith) (omega arith) (omega arith)

-- the last byte of a value is no white space
pub record Inked (v : List ℕ) : Type 0 where
  pub before : List ℕ
  pub last : ℕ
  pub is : v ≡ before ++ (last ∷ [])
  pub ink : is_ws last ≡ false

mark_ws : (b : ℕ) (x : Bool) → is_ws b ≡ x → is_mark b ≡ false → is_ws b ≡ false
unfolding is_mark
mark_ws b true h e = let f : (true || (eqb b 44 || is_shut b)) ≡ false = ap (λ (y : Bool). y || (eqb b 44 || is_shut b)) (sym h) ∙ e in cc
mark_ws b false h e = h

inked-next : (b c : ℕ) (t : List ℕ) → Inked (c ∷ t) → Inked (b ∷ c ∷ t)
inked-next b c t r = record { before = b ∷ r.before; last = r.last; is = ap (λ (l : List ℕ). b ∷ l) r.is; ink = r.ink }

inked-by : (b : ℕ) (t : List ℕ) → Unmarked (b ∷ t) → Inked (b ∷ t)
inked-by b [] h = record { before = []; last = b; is = refl; ink = mark_ws b (is_ws b) refl h.0 }
inked-by b (c ∷ t) h = inked-next b c t (inked-by c t h.1)

-- What is bare.
all-blank : (u : List ℕ) → Blank u → all is_ws u ≡ true
unfolding all
all-blank [] h = refl
all-blank (b ∷ u) h = simp h.0 (all-blank u h.1)

not-all : (f : List ℕ) (b : ℕ) (u : List ℕ) → is_ws b ≡ false → all is_ws (f ++ (b ∷ u)) ≡ false
unfolding all
not-all [] b u h = simp h
not-all (c ∷ f) b u h = simp (not-all f b u h) (and-false (is_ws c))

shorn-blank : (u : List ℕ) → Blank u → shorn u ≡ []
unfolding shorn
shorn-blank [] h = refl
shorn-blank (b ∷ u) h = rw (all-blank (b ∷ u) h)

shorn-over : (f : List ℕ) (b : ℕ) (u : List ℕ) → is_ws b ≡ false → Blank u → shorn (f ++ (b ∷ u)) ≡ f ++ (b ∷ [])
unfolding shorn
shorn-over [] b u h g = rw (not-all [] b u h) (ap (λ (l : List ℕ). b ∷ l) (shorn-blank u g))
shorn-over (c ∷ f) b u h g = rw (not-all (c ∷ f) b u h) (ap (λ (l : List ℕ). c ∷ l) (shorn-over f b u h g))

spaces-over : (w t : List ℕ) → Blank w → Ink t → drop (spaces (w ++ t)) (w ++ t) ≡ t
unfolding spaces
spaces-over [] [] h o = absurd o
spaces-over [] (b ∷ t) h o = simp o
spaces-over (b ∷ w) t h o = simp h.0 (spaces-over w t h.1 o)

bare-is : (w c u : List ℕ) → Blank w → Blank u → Starts c → Inked c → bare (w ++ (c ++ u)) ≡ c
unfolding bare
bare-is w c u hw hu s k =
    ap shorn (spaces-over w (c ++ u) hw (starts-ink c u s))
    ∙ ap (λ (l : List ℕ). shorn (l ++ u)) k.is ∙ ap shorn (append_assoc k.before (k.last ∷ []) u) ∙ shorn-over k.before k.last u k.ink hu ∙ sym k.is

-- A value that is derived, and the white space that its derivation has around it.
pub record Core (d : ℕ) (v : List ℕ) : Type 0 where
  pub w : List ℕ
  pub c : List ℕ
  pub u : List ℕ
  pub is : v ≡ w ++ (c ++ u)
  pub before : Blank w
  pub behind : Blank u
  pub sized : (t : List ℕ) → Marked t → Sized c t
  pub inked : Inked c
  pub derives : value d c

pub core-bare : {d : ℕ} {v : List ℕ} (k : Core d v) → bare v ≡ k.c
core-bare k = ap bare k.is ∙ bare-is k.w k.c k.u k.before k.behind (k.sized [] tt).starts k.inked

scalar_sized : (b : ℕ) (t : List ℕ) → eqb b 34 ≡ false → eqb b 91 ≡ false → eqb b 123 ≡ false → eqb b 93 ≡ false → is_ws b ≡ false → Unmarked (b ∷ t) → (r : List ℕ) → Marked r
    → Sized (b ∷ t) r
scalar_sized b t h₁ h₂ h₃ h₄ i u r m = record { starts = (i, h₄); ends = plain_size b t r h₁ h₂ h₃ u m }

scalar_core : (d : ℕ) (v : List ℕ) → Front v → Unmarked v → value d v → Core d v
scalar_core d v f u x =
    let u' : Unmarked (f.b ∷ f.t) = subst Unmarked f.is u in
    record {
      w = [];
      c = v;
      u = [];
      is = sym (append-nil v);
      before = tt;
      behind = tt;
      sized = λ t m. subst (λ (l : List ℕ). Sized l t) (sym f.is) (scalar_sized f.b f.t f.no-quote f.no-array f.no-object f.no-shut f.ink u' t m);
      inked = subst Inked (sym f.is) (inked-by f.b f.t u');
      derives = x;
    }

literal-core : (d b : ℕ) (t : List ℕ) → 34 < b → (b ≡ 91 → ⊥) → (b ≡ 93 → ⊥) → (b ≡ 123 → ⊥) → Unmarked (b ∷ t) → (v : List ℕ) → Bytes (b ∷ t) v → value d v → Core d v
literal-core d b t l h₁ h₂ h₃ u v it x = scalar_core d (b ∷ t) (front b t l h₁ h₂ h₃) u x

false-core : (d : ℕ) (v : List ℕ) → False v → value d v → Core d v
false-core d v x y = literal-core d 0x66 _ (omega arith) (omega arith) (omega arith) (omega arith) (
  letter 0x66 (omega arith) (omega arith),
  (letter 0x61 (omega arith) (omega arith), (letter 0x6C (omega arith) (omega arith), (letter 0x73 (omega arith) (omega arith), (letter 0x65 (omega arith) (omega arith), tt)))),
)
    v x y

null-core : (d : ℕ) (v : List ℕ) → null v → value d v → Core d v
null-core d v x y = literal-core d 0x6E _ (omega arith) (omega arith) (omega arith) (omega arith)
    (letter 0x6E (omega arith) (omega arith), (letter 0x75 (omega arith) (omega arith), (letter 0x6C (omega arith) (omega arith), (letter 0x6C (omega arith) (omega arith), tt))))
    v x y

true-core : (d : ℕ) (v : List ℕ) → True v → value d v → Core d v
true-core d v x y = literal-core d 0x74 _ (omega arith) (omega arith) (omega arith) (omega arith)
    (letter 0x74 (omega arith) (omega arith), (letter 0x72 (omega arith) (omega arith), (letter 0x75 (omega arith) (omega arith), (letter 0x65 (omega arith) (omega arith), tt))))
    v x y

-- a string: behind its first quote the scan is over with the second
string-size : (m t : List ℕ) → Star char m → size ((34 ∷ (m ++ (34 ∷ []))) ++ t) ≡ length (34 ∷ (m ++ (34 ∷ [])))
unfolding size
string-size m t x = omega (arith, (p_chars 0 and_then p_quote 0).run (m ++ (34 ∷ [])) (both x it) t, left-none t)

string-core : (d : ℕ) (v : List ℕ) → string v → value d v → Core d v
string-core d v (both it (both {s = m} x it)) y = record {
  w = [];
  c = 34 ∷ (m ++ (34 ∷ []));
  u = [];
  is = sym (append-nil (34 ∷ (m ++ (34 ∷ []))));
  before = tt;
  behind = tt;
  sized = λ t h. record { starts = (ws_34, refl); ends = string-size m t x };
  inked = record { before = 34 ∷ m; last = 34; is = refl; ink = ws_34 };
  derives = y;
}

pub label_of : (m : List ℕ) → Star char m → Label m
label_of m x = record { closes = λ t. (p_chars 0).run m x (34 ∷ t) ∙ omega (arith, left-closes 34 t 0 refl, left-none t) }

-- an array, and an object, from bracket to bracket
array_size : (X : Rule) (p : (n : ℕ) → Passes X outside (suc n) outside (suc n)) (r t : List ℕ) → (ws ⨾ Opt (X ⨾ Star (value_separator ⨾ X)) ⨾ ws ⨾ Byte 0x5D) r
    → size ((91 ∷ r) ++ t) ≡ length (91 ∷ r)
unfolding size is_open
array_size X p r t x = omega (arith, (p_ws 0 and_then p_values X p 0 and_then p_ws 0 and_then p_end_93 0).run r x t, left-none t)

object-size : (X : Rule) (p : (n : ℕ) → Passes X outside (suc n) outside (suc n)) (r t : List ℕ) → (ws ⨾ Opt (member X ⨾ Star (value_separator ⨾ member X)) ⨾ ws ⨾ Byte 0x7D) r
    → size ((123 ∷ r) ++ t) ≡ length (123 ∷ r)
unfolding size is_open
object-size X p r t x = omega (arith, (p_ws 0 and_then p_members X p 0 and_then p_ws 0 and_then p_end_125 0).run r x t, left-none t)

array-core : (d : ℕ) (v : List ℕ) → array (value d) v → Core (suc d) v
array-core d v (both (both {s = w} h (both {t = w₂} it h₂)) (both {s = o} x (both {s = e} g (both {t = z} it g₂)))) = record {
  w = w;
  c = 91 ∷ (w₂ ++ (o ++ (e ++ (93 ∷ []))));
  u = z;
  is = simp append_assoc;
  before = blank_of w h;
  behind = blank_of z g₂;
  sized = λ t m. record { starts = (ws_91, refl); ends = array_size (value d) (p_value d) (w₂ ++ (o ++ (e ++ (93 ∷ [])))) t (both h₂ (both x (both g it))) };
  inked = record { before = 91 ∷ (w₂ ++ (o ++ e)); last = 93; is = simp append_assoc; ink = ws_93 };
  derives = right (right (right (right (one_of (both (both none (both it h₂)) (both x (both g (both it none))))))));
}

object-core : (d : ℕ) (v : List ℕ) → object (value d) v → Core (suc d) v
object-core d v (both (both {s = w} h (both {t = w₂} it h₂)) (both {s = o} x (both {s = e} g (both {t = z} it g₂)))) = record {
  w = w;
  c = 123 ∷ (w₂ ++ (o ++ (e ++ (125 ∷ []))));
  u = z;
  is = simp append_assoc;
  before = blank_of w h;
  behind = blank_of z g₂;
  sized = λ t m. record { starts = (ws_123, refl); ends = object-size (value d) (p_value d) (w₂ ++ (o ++ (e ++ (125 ∷ [])))) t (both h₂ (both x (both g it))) };
  inked = record { before = 123 ∷ (w₂ ++ (o ++ e)); last = 125; is = simp append_assoc; ink = ws_125 };
  derives = right (right (right (one_of (both (both none (both it h₂)) (both x (both g (both it none)))))));
}

pub core_of : (d : ℕ) (v : List ℕ) → value d v → Core d v
core_of zero v (one_of x) = false-core zero v x (one_of x)
core_of zero v (right (one_of x)) = null-core zero v x (right (one_of x))
core_of zero v (right (right (one_of x))) = true-core zero v x (right (right (one_of x)))
core_of zero v (right (right (right (one_of x)))) = scalar_core zero v (number-front v x) (u-number.all_of v x) (right (right (right (one_of x))))
core_of zero v (right (right (right (right x)))) = string-core zero v x (right (right (right (right x))))
core_of (suc d) v (one_of x) = false-core (suc d) v x (one_of x)
core_of (suc d) v (right (one_of x)) = null-core (suc d) v x (right (one_of x))
core_of (suc d) v (right (right (one_of x))) = true-core (suc d) v x (right (right (one_of x)))
core_of (suc d) v (right (right (right (one_of x)))) = object-core d v x
core_of (suc d) v (right (right (right (right (one_of x))))) = array-core d v x
core_of (suc d) v (right (right (right (right (right (one_of x)))))) = scalar_core (suc d) v (number-front v x) (u-number.all_of v x)
    (right (right (right (right (right (one_of x))))))
core_of (suc d) v (right (right (right (right (right (right x)))))) = string-core (suc d) v x (right (right (right (right (right (right x))))))
