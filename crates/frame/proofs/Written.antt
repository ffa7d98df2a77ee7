-- What is written as an object or an array, with white space anywhere, is a value: the machine goes over it (`object-goes`, `array-goes`), and it is a
-- piece by itself (`object-piece`, `array-piece`). With `Listing` of `json_text`: its members or elements are those written. Cited by Compact, Parsed, ArrayEdits.
-- Assumes nothing.
use mathlib.Core.Path.{◌≡◌, refl, sym, ap, subst, ◌∙◌}
use mathlib.Core.Logic.{inl, inr}
use mathlib.Core.Bool.{Bool, true, false, not, ◌&&◌}
use mathlib.Core.List.{List, [], ◌∷◌, ◌++◌, append_assoc}
use Prim.Native.Nat.{ℕ, suc, ◌+◌, ◌-◌, ◌≤◌}
use native.Mathlib.Omega.{arith}
use lib.ListN.{length}
use lib.Dec.{eqb, ltb}
use Rattle.json_text.specs.inner.Machine.{Stack, alone, text, arr, obj, levels, Role, label, plain, Mode, value, first, name, name₁, colon, after, str, live, step}
use Rattle.json_text.specs.inner.Machine.{stops, walk, from, answer}
use Rattle.json_text.specs.Places.{left, quoted, is_ws}
use Rattle.json_text.proofs.PlaceLaws.{left-none}
use Rattle.json_text.proofs.Listing.{Blank, Starts, Label, Field, entry, body, Fine, Fines, Item, item, items, Good, Goods, ws_34}
use Rattle.json_text.proofs.ScanLaws.{left-closes, left-char}
use Rattle.frame.proofs.Standing.{Reach, here, trans, hop, Val, Piece, piece-by}
use Rattle.json_text.proofs.StepLaws.{ws-colon, ws-value, ws-name, ws-name₁, ws-obj, ws-arr, ws-first, arr-comma, arr_close, obj-comma, obj_close, value-arr}
use Rattle.json_text.proofs.StepLaws.{value-obj, value-quote, str-quote, colon-hit, name-quote, name₁-name}
use Rattle.std.specs.Prelude.{Ok}

pub over-blank : (w t : List ℕ) (m : Mode) (k : Stack) → Blank w → ((b : ℕ) → is_ws b ≡ true → step m k b ≡ live m k) → Reach (w ++ t) m k t m k
over-blank [] t m k h f = here t m k
over-blank (b ∷ w) t m k h f = trans (hop (f b h.0)) (over-blank w t m k h.1 f)

-- n stands between the quotes of a name, for the places and for the machine
pub record Named (n : List ℕ) : Type 0 where
  pub listed : Label n
  pub goes : (k : Stack) (t : List ℕ) → Reach (n ++ (34 ∷ t)) (str label) k (34 ∷ t) (str label) k

-- bytes with no quote, backslash or control among them
unfoldable pub plainly : List ℕ → Bool
plainly [] = true
plainly (b ∷ n) = (not (eqb b 34) && (not (eqb b 92) && not (ltb b 32))) && plainly n

nots : (x y z u : Bool) → ((not x && (not y && not z)) && u) ≡ true → (x ≡ false) × ((y ≡ false) × ((z ≡ false) × (u ≡ true)))
nots true y z u e = let z : ◌≡◌ {A = ℕ} 0 1 = cc in absurd (omega arith)
nots false true z u e = let z : ◌≡◌ {A = ℕ} 0 1 = cc in absurd (omega arith)
nots false false true u e = let z : ◌≡◌ {A = ℕ} 0 1 = cc in absurd (omega arith)
nots false false false u e = (refl, (refl, (refl, e)))

str-byte : (r : Role) (k : Stack) (b : ℕ) → eqb b 34 ≡ false → eqb b 92 ≡ false → ltb b 32 ≡ false → step (str r) k b ≡ live (str r) k
unfolding step
str-byte r k b x y z = simp (x, y, z)

pub over_plain : (n t : List ℕ) (r : Role) (k : Stack) → plainly n ≡ true → Reach (n ++ t) (str r) k t (str r) k
unfolding plainly
over_plain [] t r k e = here t (str r) k
over_plain (b ∷ n) t r k e = let h = nots (eqb b 34) (eqb b 92) (ltb b 32) (plainly n) e in
    trans (hop (str-byte r k b h.0 h.1.0 h.1.1.0)) (over_plain n t r k h.1.1.1)

plain-closes : (n t : List ℕ) → plainly n ≡ true → left (n ++ (34 ∷ t)) quoted 0 ≡ suc (length n)
unfolding plainly
plain-closes [] t e = left-closes 34 t 0 refl ∙ ap suc (left-none t)
plain-closes (b ∷ n) t e = let h = nots (eqb b 34) (eqb b 92) (ltb b 32) (plainly n) e in left-char b (n ++ (34 ∷ t)) 0 h.0 h.1.0 ∙ ap suc (plain-closes n t h.1.1.1)

pub plain-name : (n : List ℕ) → plainly n ≡ true → Named n
plain-name n h = record { listed = record { closes = λ t. plain-closes n t h }; goes = λ k t. over_plain n (34 ∷ t) label k h }

-- plain text in quotes
abbrev pub in_quotes : List ℕ → List ℕ
in_quotes x = 34 ∷ (x ++ (34 ∷ []))

pub text-piece : (d : ℕ) (x : List ℕ) → plainly x ≡ true → Piece d (in_quotes x)
text-piece d x h =
    piece-by d (in_quotes x) [] (inl refl)
    (subst (λ (r : List ℕ). Reach (34 ∷ r) value (alone d) [] after (alone d)) (sym (append_assoc x (34 ∷ []) []))
    (trans (hop (value-quote (alone d) 34 refl)) (trans (over_plain x (34 ∷ []) plain (alone d) h) (hop (str-quote plain (alone d) 34 refl)))))

-- Members.
pub entry-goes : (d b : ℕ) (f : Field) (t : List ℕ) (m : Mode) (k : Stack) → Fine (Val d) Named f b → ((b : ℕ) → is_ws b ≡ true → step m (obj k) b ≡ live m (obj k))
    → step m (obj k) 34 ≡ live (str label) (obj k) → d ≤ levels (obj k) → Reach (entry f (b ∷ t)) m (obj k) (b ∷ t) after (obj k)
unfolding entry
entry-goes d b f t m k h s q l =
    trans (over-blank f.w _ m (obj k) h.before s)
    (trans (hop q)
    (trans (h.named.goes (obj k) _)
    (trans (hop (str-quote label (obj k) 34 refl))
    (trans (over-blank f.w₁ _ colon (obj k) h.before₁ (ws-colon (obj k)))
    (trans (hop (colon-hit (obj k) 58 refl))
    (trans (over-blank f.w₂ _ value (obj k) h.before₂ (ws-value (obj k)))
    (trans ((h.val t).goes (obj k) l)
    (over-blank f.u _ after (obj k) h.behind (λ b g. ws-obj b g k)))))))))

body-goes : (d : ℕ) (f : Field) (fs : List Field) (t : List ℕ) (m : Mode) (k : Stack) → Fines (Val d) Named f fs → ((b : ℕ) → is_ws b ≡ true → step m (obj k) b ≡ live m (obj k))
    → step m (obj k) 34 ≡ live (str label) (obj k) → d ≤ levels k - 1 → Reach (body f fs t) m (obj k) t after k
unfolding body
body-goes d f [] t m k h s q l = trans (entry-goes d 125 f t m k h s q l) (hop (obj_close k 125 refl))
body-goes d f (g ∷ gs) t m k h s q l =
    trans (entry-goes d 44 f (body g gs t) m k h.0 s q l)
    (trans (hop (obj-comma k 44 refl)) (body-goes d g gs t name k h.1 (ws-name (obj k)) (name-quote (obj k) 34 refl) l))

pub object-goes : (d : ℕ) (f : Field) (fs : List Field) (t : List ℕ) (k : Stack) → Fines (Val d) Named f fs → d + 1 ≤ levels k → Reach (123 ∷ body f fs t) value k t after k
object-goes d f fs t k h l =
    let q = name₁-name k 34 ws_34 (λ e. omega arith) ∙ name-quote (obj k) 34 refl in
    trans (hop (value-obj k 123 refl (omega arith))) (body-goes d f fs t name₁ k h (ws-name₁ (obj k)) q (omega arith))

pub body-append : (f : Field) (fs : List Field) (t : List ℕ) → body f fs [] ++ t ≡ body f fs t
unfolding body entry
body-append f [] t = simp append_assoc
body-append f (g ∷ gs) t = simp (append_assoc, body-append g gs t)

-- an object with members is a piece, a level deeper than they are
pub object-piece : (d : ℕ) (f : Field) (fs : List Field) → Fines (Val d) Named f fs → Piece (d + 1) (123 ∷ body f fs [])
object-piece d f fs h =
    piece-by (d + 1) (123 ∷ body f fs []) [] (inr (inr refl))
    (subst (λ (r : List ℕ). Reach (123 ∷ r) value (alone (d + 1)) [] after (alone (d + 1))) (sym (body-append f fs [])) (object-goes d f fs [] (alone (d + 1)) h (omega arith)))

-- Elements.
pub item-goes : (d b : ℕ) (i : Item) (t : List ℕ) (k : Stack) → Good (Val d) i b → d ≤ levels (arr k) → Reach (item i (b ∷ t)) value (arr k) (b ∷ t) after (arr k)
unfolding item
item-goes d b i t k h l =
    trans (over-blank i.w _ value (arr k) h.before (ws-value (arr k)))
    (trans ((h.val t).goes (arr k) l)
    (over-blank i.u _ after (arr k) h.behind (λ b g. ws-arr b g k)))

items-goes : (d : ℕ) (i : Item) (is : List Item) (t : List ℕ) (k : Stack) → Goods (Val d) i is → d ≤ levels k - 1 → Reach (items i is t) value (arr k) t after k
unfolding items
items-goes d i [] t k h l = trans (item-goes d 93 i t k h l) (hop (arr_close k 93 refl))
items-goes d i (j ∷ js) t k h l = trans (item-goes d 44 i (items j js t) k h.0 l) (trans (hop (arr-comma k 44 refl)) (items-goes d j js t k h.1 l))

-- behind '[' the machine does as behind ',' unless ']' comes
first-value : (b : ℕ) (k : Stack) → is_ws b ≡ false → eqb b 93 ≡ false → step value (arr k) b ≡ step first (arr k) b
unfolding step
first-value b k w h = simp (w, h)

pub first_as : (w v t : List ℕ) (k : Stack) (i : ℕ) → Blank w → Starts v → walk (w ++ (v ++ t)) first (arr k) i ≡ walk (w ++ (v ++ t)) value (arr k) i
unfolding walk
first_as [] [] t k i h o = absurd o
first_as [] (b ∷ v) t k i h o = rw (first-value b k o.0 o.1)
first_as (b ∷ w) v t k i h o = simp (ws-first (arr k) b h.0, ws-value (arr k) b h.0) (first_as w v t k (i + 1) h.1 o)

items-first : (d : ℕ) (i : Item) (is : List Item) (t : List ℕ) (k : Stack) → Goods (Val d) i is → (n : ℕ)
    → walk (items i is t) first (arr k) n ≡ walk (items i is t) value (arr k) n
unfolding items item
items-first d i [] t k h n = first_as i.w i.v _ k n h.before (h.val t).sized.starts
items-first d i (j ∷ js) t k h n = first_as i.w i.v _ k n h.0.before (h.0.val t).sized.starts

pub array-goes : (d : ℕ) (i : Item) (is : List Item) (t : List ℕ) (k : Stack) → Goods (Val d) i is → d + 1 ≤ levels k → Reach (91 ∷ items i is t) value k t after k
array-goes d i is t k h l =
    let r = items-goes d i is t k h (omega arith) in
    trans (hop (value-arr k 91 refl (omega arith))) (record { less = r.less; same = λ n. items-first d i is t k h n ∙ r.same n })

pub items-append : (i : Item) (is : List Item) (t : List ℕ) → items i is [] ++ t ≡ items i is t
unfolding items item
items-append i [] t = simp append_assoc
items-append i (j ∷ js) t = simp (append_assoc, items-append j js t)

-- an array with elements is a piece, a level deeper than they are
pub array-piece : (d : ℕ) (i : Item) (is : List Item) → Goods (Val d) i is → Piece (d + 1) (91 ∷ items i is [])
array-piece d i is h =
    piece-by (d + 1) (91 ∷ items i is []) [] (inr (inl refl))
    (subst (λ (r : List ℕ). Reach (91 ∷ r) value (alone (d + 1)) [] after (alone (d + 1))) (sym (items-append i is [])) (array-goes d i is [] (alone (d + 1)) h (omega arith)))

-- A whole text.
walk-text : (i : ℕ) → walk [] after (text 8) i ≡ Ok i
unfolding walk stops
walk-text i = refl

-- what takes the machine from the start to the end is accepted
pub whole : (s : List ℕ) → Reach s value (text 8) [] after (text 8) → answer s ≡ Ok (length s)
unfolding from
whole s r = let z : 0 + (length s - 0) ≡ length s = omega arith in r.same 0 ∙ walk-text (0 + (length s - 0)) ∙ ap Ok z
