-- The places are the grammar's. An array or an object that RFC 7159 derives, standing in any text, has as elements or members listed those of its
-- derivation, in order and with their own bytes (`array_tie`, `object_tie`); each is derived by itself, so that this holds inside it too. An
-- accepted text's own value begins past its white space (`text_tie`, `accepted_tie`). Assumes nothing.
use mathlib.Core.Path.{◌≡◌, refl, sym, ap, subst, ◌∙◌}
use mathlib.Core.Bool.{true}
use mathlib.Core.List.{List, [], ◌∷◌, ◌++◌, append_assoc, append-nil, map}
use Prim.Native.Nat.{ℕ}
use native.Mathlib.Omega.{arith}
use lib.ListN.{length, drop, length-append}
use lib.Seq.{drop-append_seam}
use Rattle.json_text.specs.Places.{past, is_shut, is_mark, bytes, members, elements, spell, is_ws}
use Rattle.json_text.specs.Rfc7159.{Rule, bytes as it, ◌⨾◌, both, absent, present, Star, none, more, value_separator, member, object, array, value, JSON-text}
use Rattle.json_text.specs.Verdict.{Verdict}
use Rattle.json_text.specs.inner.Derived.{values_in, elements_in, member_in, pairs_in, members_in, bare, bared}
use Rattle.json_text.proofs.Listing.{Blank, Sized, Label, Field, entry, body, Fine, Fines, Item, item, items, Good, Goods, read_all, values, past_is, past-at}
use Rattle.json_text.proofs.Listing.{array-read, array-none, object-read, object-none, starts-ink, ws_91, ws_123}
use Rattle.json_text.proofs.EndLaws.{Marked, ws_mark}
use Rattle.json_text.proofs.GrammarCore.{blank_of, blank-append, Core, core-bare, core_of, label_of}
use Rattle.std.specs.Prelude.{Ok}

-- What follows a value inside brackets is a mark.
marked_by : (u t : List ℕ) → Blank u → Marked t → Marked (u ++ t)
marked_by [] t h m = m
marked_by (b ∷ u) t h m = ws_mark b h.0

mark_44 : is_mark 44 ≡ true
unfolding is_mark is_ws
mark_44 = refl

mark_93 : is_mark 93 ≡ true
unfolding is_mark is_ws is_shut
mark_93 = refl

mark_125 : is_mark 125 ≡ true
unfolding is_mark is_ws is_shut
mark_125 = refl

-- each of these is derived
abbrev pub Each : Rule → List (List ℕ) → Type 0
Each A [] = Unit
Each A (x ∷ xs) = A x × Each A xs

abbrev pub EachValue : Rule → List (List ℕ × List ℕ) → Type 0
EachValue A [] = Unit
EachValue A (p ∷ ps) = A p.1 × EachValue A ps

-- The values of an array, from the first one on: w before it, s for the others, e before the closing bracket.
record Rows (d : ℕ) (w x s e : List ℕ) (xs : List (List ℕ)) : Type 0 where
  i : Item
  is : List Item
  eq : (t : List ℕ) → w ++ (x ++ (s ++ (e ++ (93 ∷ t)))) ≡ items i is t
  good : Goods Sized i is
  vals : values (i ∷ is) ≡ map bare (x ∷ xs)
  each : Each (value d) (map bare (x ∷ xs))

good_of : (d b : ℕ) (w x e : List ℕ) (k : Core d x) → Blank w → Blank e → is_mark b ≡ true → Good Sized (record { w = w ++ k.w; v = k.c; u = k.u ++ e }) b
good_of d b w x e k hw he m = record {
  before = blank-append w k.w hw k.before;
  val = λ t. k.sized ((k.u ++ e) ++ (b ∷ t)) (marked_by (k.u ++ e) (b ∷ t) (blank-append k.u e k.behind he) m);
  behind = blank-append k.u e k.behind he;
}

rows_end : (d : ℕ) (w x e : List ℕ) → Blank w → Core d x → Blank e → Rows d w x [] e []
unfolding items item
rows_end d w x e hw k he = record {
  i = record { w = w ++ k.w; v = k.c; u = k.u ++ e };
  is = [];
  eq = λ t. ap (λ (l : List ℕ). w ++ (l ++ (e ++ (93 ∷ t)))) k.is ∙ simp append_assoc;
  good = good_of d 93 w x e k hw he mark_93;
  vals = ap (λ (l : List ℕ). l ∷ []) (sym (core-bare k));
  each = (subst (value d) (sym (core-bare k)) k.derives, tt);
}

rows_more : (d : ℕ) (w x w₁ w₂ v q e : List ℕ) (xs : List (List ℕ)) → Blank w → Core d x → Blank w₁ → Blank e → Rows d w₂ v q e xs
    → Rows d w x (((w₁ ++ (44 ∷ w₂)) ++ v) ++ q) e (v ∷ xs)
unfolding items item
rows_more d w x w₁ w₂ v q e xs hw k h₁ he r = record {
  i = record { w = w ++ k.w; v = k.c; u = k.u ++ w₁ };
  is = r.i ∷ r.is;
  eq = λ t.
      let a : w ++ ((k.w ++ (k.c ++ k.u)) ++ ((((w₁ ++ (44 ∷ w₂)) ++ v) ++ q) ++ (e ++ (93 ∷ t)))) ≡ (w ++ k.w)
      ++ (k.c ++ ((k.u ++ w₁) ++ (44 ∷ (w₂ ++ (v ++ (q ++ (e ++ (93 ∷ t)))))))) = simp append_assoc in
      ap (λ (l : List ℕ). w ++ (l ++ ((((w₁ ++ (44 ∷ w₂)) ++ v) ++ q) ++ (e ++ (93 ∷ t))))) k.is ∙ a
      ∙ ap (λ (l : List ℕ). (w ++ k.w) ++ (k.c ++ ((k.u ++ w₁) ++ (44 ∷ l)))) (r.eq t);
  good = (good_of d 44 w x w₁ k hw h₁ mark_44, r.good);
  vals = ap (λ (l : List ℕ). l ∷ values (r.i ∷ r.is)) (sym (core-bare k)) ∙ ap (λ (l : List (List ℕ)). bare x ∷ l) r.vals;
  each = (subst (value d) (sym (core-bare k)) k.derives, r.each);
}

rows : (d : ℕ) (w x s e : List ℕ) → Blank w → Core d x → (r : Star (value_separator ⨾ value d) s) → Blank e → Rows d w x s e (values_in r)
rows d w x s e hw k none he = rows_end d w x e hw k he
rows d w x s e hw k (more {t = q} (both {t = v} (both {s = w₁} h₁ (both {t = w₂} it h₂)) y) r) he = rows_more d w x w₁ w₂ v q e (values_in r) hw k (blank_of w₁ h₁) he
    (rows d w₂ v q e (blank_of w₂ h₂) (core_of d v y) r he)

-- THE THEOREM for arrays: v is derived as an array and stands in s from a on; its bracket is past the white space there
pub record ArrayTie (d : ℕ) (s : List ℕ) (a : ℕ) (xs : List (List ℕ)) : Type 0 where
  pub listed : map (bytes s) (elements s (past s a)) ≡ map bare xs
  pub each : Each (value d) (map bare xs)

pub array_tie : (d : ℕ) (s v t : List ℕ) (a : ℕ) → drop a s ≡ v ++ t → (x : array (value d) v) → ArrayTie d s a (elements_in x)
array_tie d s v t a e (both (both {s = w} h (both {t = w₂} it h₂)) (both absent (both {s = e₁} g (both {t = z} it g₂)))) =
    let q : drop a s ≡ w ++ (91 ∷ ((w₂ ++ e₁) ++ (93 ∷ (z ++ t)))) = e ∙ simp append_assoc in
    let p = past-at s w _ a (blank_of w h) ws_91 q in
    record { listed = ap (map (bytes s)) (array-none s (w₂ ++ e₁) (z ++ t) (past s a) (blank-append w₂ e₁ (blank_of w₂ h₂) (blank_of e₁ g)) p); each = tt }
array_tie d s v t a e (both (both {s = w} h (both {t = w₂} it h₂)) (both (present (both {s = v₁} {t = q₁} x r)) (both {s = e₁} g (both {t = z} it g₂)))) =
    let k = rows d w₂ v₁ q₁ e₁ (blank_of w₂ h₂) (core_of d v₁ x) r (blank_of e₁ g) in
    let q : drop a s ≡ w ++ (91 ∷ (w₂ ++ (v₁ ++ (q₁ ++ (e₁ ++ (93 ∷ (z ++ t))))))) = e ∙ simp append_assoc in
    let p = past-at s w _ a (blank_of w h) ws_91 q in
    record { listed = array-read Sized (λ v t y. y) s (past s a) k.i k.is (z ++ t) k.good (p ∙ ap (λ (l : List ℕ). 91 ∷ l) (k.eq (z ++ t))) ∙ k.vals; each = k.each }

-- The members of an object, from the first one on.
record Fields (d : ℕ) (w x s e : List ℕ) (ps : List (List ℕ × List ℕ)) : Type 0 where
  f : Field
  fs : List Field
  eq : (t : List ℕ) → w ++ (x ++ (s ++ (e ++ (125 ∷ t)))) ≡ body f fs t
  good : Fines Sized Label f fs
  reads : read_all (f ∷ fs) ≡ map bared ps
  each : EachValue (value d) (map bared ps)

-- a member that is derived, taken apart
record Apart (d : ℕ) (x : List ℕ) (p : List ℕ × List ℕ) : Type 0 where
  n : List ℕ
  w₁ : List ℕ
  w₂ : List ℕ
  v : List ℕ
  is : x ≡ 34 ∷ (n ++ (34 ∷ (w₁ ++ (58 ∷ (w₂ ++ v)))))
  named : Label n
  before₁ : Blank w₁
  before₂ : Blank w₂
  core : Core d v
  pair : p ≡ (n, v)

apart : (d : ℕ) (x : List ℕ) (m : member (value d) x) → Apart d x (member_in m)
apart d x (both (both it (both {s = n} cs it)) (both {t = v} (both {s = w₁} h₁ (both {t = w₂} it h₂)) y)) = record {
  n = n;
  w₁ = w₁;
  w₂ = w₂;
  v = v;
  is = simp append_assoc;
  named = label_of n cs;
  before₁ = blank_of w₁ h₁;
  before₂ = blank_of w₂ h₂;
  core = core_of d v y;
  pair = refl;
}

abbrev field_by : {d : ℕ} {x : List ℕ} {p : List ℕ × List ℕ} → List ℕ → Apart d x p → List ℕ → Field
field_by w k e = record { w = w; n = k.n; w₁ = k.w₁; w₂ = k.w₂ ++ k.core.w; v = k.core.c; u = k.core.u ++ e }

fine_of : (d b : ℕ) (w x e : List ℕ) (p : List ℕ × List ℕ) (k : Apart d x p) → Blank w → Blank e → is_mark b ≡ true → Fine Sized Label (field_by w k e) b
fine_of d b w x e p k hw he m = record {
  before = hw;
  named = k.named;
  before₁ = k.before₁;
  before₂ = blank-append k.w₂ k.core.w k.before₂ k.core.before;
  val = λ t. k.core.sized ((k.core.u ++ e) ++ (b ∷ t)) (marked_by (k.core.u ++ e) (b ∷ t) (blank-append k.core.u e k.core.behind he) m);
  behind = blank-append k.core.u e k.core.behind he;
}

-- such a member in front of r
apart-entry : (d : ℕ) (w x e r : List ℕ) (p : List ℕ × List ℕ) (k : Apart d x p) → w ++ (x ++ (e ++ r)) ≡ entry (field_by w k e) r
unfolding entry
apart-entry d w x e r p k = ap (λ (l : List ℕ). w ++ (l ++ (e ++ r))) (k.is ∙ ap (λ (l : List ℕ). 34 ∷ (k.n ++ (34 ∷ (k.w₁ ++ (58 ∷ (k.w₂ ++ l)))))) k.core.is)
    ∙ simp append_assoc

apart-bared : (d : ℕ) (x : List ℕ) (p : List ℕ × List ℕ) (k : Apart d x p) → bared p ≡ (k.n, k.core.c)
apart-bared d x p k = ap bared k.pair ∙ ap (λ (l : List ℕ). (k.n, l)) (core-bare k.core)

apart-derives : (d : ℕ) (x : List ℕ) (p : List ℕ × List ℕ) (k : Apart d x p) → value d (bared p).1
apart-derives d x p k = subst (λ (q : List ℕ × List ℕ). value d q.1) (sym (apart-bared d x p k)) k.core.derives

fields-end : (d : ℕ) (w x e : List ℕ) (p : List ℕ × List ℕ) → Blank w → Apart d x p → Blank e → Fields d w x [] e (p ∷ [])
unfolding body
fields-end d w x e p hw k he = record {
  f = field_by w k e;
  fs = [];
  eq = λ t. apart-entry d w x e (125 ∷ t) p k;
  good = fine_of d 125 w x e p k hw he mark_125;
  reads = ap (λ (q : List ℕ × List ℕ). q ∷ []) (sym (apart-bared d x p k));
  each = (apart-derives d x p k, tt);
}

fields-more : (d : ℕ) (w x w₁ w₂ v q e : List ℕ) (p : List ℕ × List ℕ) (ps : List (List ℕ × List ℕ)) → Blank w → Apart d x p → Blank w₁ → Fields d w₂ v q e ps
    → Fields d w x (((w₁ ++ (44 ∷ w₂)) ++ v) ++ q) e (p ∷ ps)
unfolding body
fields-more d w x w₁ w₂ v q e p ps hw k h₁ r = record {
  f = field_by w k w₁;
  fs = r.f ∷ r.fs;
  eq = λ t.
      let a : w ++ (x ++ ((((w₁ ++ (44 ∷ w₂)) ++ v) ++ q) ++ (e ++ (125 ∷ t)))) ≡ w ++ (x ++ (w₁ ++ (44 ∷ (w₂ ++ (v ++ (q ++ (e ++ (125 ∷ t)))))))) = simp append_assoc in
      a ∙ ap (λ (l : List ℕ). w ++ (x ++ (w₁ ++ (44 ∷ l)))) (r.eq t) ∙ apart-entry d w x w₁ (44 ∷ body r.f r.fs t) p k;
  good = (fine_of d 44 w x w₁ p k hw h₁ mark_44, r.good);
  reads = ap (λ (y : List ℕ × List ℕ). y ∷ read_all (r.f ∷ r.fs)) (sym (apart-bared d x p k)) ∙ ap (λ (l : List (List ℕ × List ℕ)). bared p ∷ l) r.reads;
  each = (apart-derives d x p k, r.each);
}

fields : (d : ℕ) (w x s e : List ℕ) → Blank w → (m : member (value d) x) → (r : Star (value_separator ⨾ member (value d)) s) → Blank e → Fields d w x s e (member_in m ∷ pairs_in r)
fields d w x s e hw m none he = fields-end d w x e (member_in m) hw (apart d x m) he
fields d w x s e hw m (more {t = q} (both {t = v} (both {s = w₁} h₁ (both {t = w₂} it h₂)) y) r) he = fields-more d w x w₁ w₂ v q e (member_in m) (member_in y ∷ pairs_in r) hw
    (apart d x m) (blank_of w₁ h₁) (fields d w₂ v q e (blank_of w₂ h₂) y r he)

-- THE THEOREM for objects
pub record ObjectTie (d : ℕ) (s : List ℕ) (a : ℕ) (ps : List (List ℕ × List ℕ)) : Type 0 where
  pub listed : map (spell s) (members s (past s a)) ≡ map bared ps
  pub each : EachValue (value d) (map bared ps)

pub object_tie : (d : ℕ) (s v t : List ℕ) (a : ℕ) → drop a s ≡ v ++ t → (x : object (value d) v) → ObjectTie d s a (members_in x)
object_tie d s v t a e (both (both {s = w} h (both {t = w₂} it h₂)) (both absent (both {s = e₁} g (both {t = z} it g₂)))) =
    let q : drop a s ≡ w ++ (123 ∷ ((w₂ ++ e₁) ++ (125 ∷ (z ++ t)))) = e ∙ simp append_assoc in
    let p = past-at s w _ a (blank_of w h) ws_123 q in
    record { listed = ap (map (spell s)) (object-none s (w₂ ++ e₁) (z ++ t) (past s a) (blank-append w₂ e₁ (blank_of w₂ h₂) (blank_of e₁ g)) p); each = tt }
object_tie d s v t a e (both (both {s = w} h (both {t = w₂} it h₂)) (both (present (both {s = v₁} {t = q₁} m r)) (both {s = e₁} g (both {t = z} it g₂)))) =
    let k = fields d w₂ v₁ q₁ e₁ (blank_of w₂ h₂) m r (blank_of e₁ g) in
    let q : drop a s ≡ w ++ (123 ∷ (w₂ ++ (v₁ ++ (q₁ ++ (e₁ ++ (125 ∷ (z ++ t))))))) = e ∙ simp append_assoc in
    let p = past-at s w _ a (blank_of w h) ws_123 q in
    record {
      listed = object-read Sized Label (λ v t y. y) (λ n y. y) s (past s a) k.f k.fs (z ++ t) k.good (p ∙ ap (λ (l : List ℕ). 123 ∷ l) (k.eq (z ++ t)))
          ∙ k.reads;
      each = k.each;
    }

-- A whole text: its value stands at a, and past the white space there is past the text's own.
pub record TextTie (d : ℕ) (s : List ℕ) : Type 0 where
  pub a : ℕ
  pub v : List ℕ
  pub t : List ℕ
  pub there : drop a s ≡ v ++ t
  pub start : past s a ≡ past s 0
  pub rest : Marked t
  pub derived : value d v

text-start : (d : ℕ) (s w v t : List ℕ) → s ≡ w ++ (v ++ t) → Blank w → (k : Core d v) → Blank t → past s (length w) ≡ past s 0
text-start d s w v t e h k m =
    let c = k.sized (k.u ++ t) (marked_by k.u t k.behind (subst Marked (append-nil t) (marked_by t [] m tt))) in
    let q : v ++ t ≡ k.w ++ (k.c ++ (k.u ++ t)) = ap (λ (l : List ℕ). l ++ t) k.is ∙ simp append_assoc in
    let p₁ : drop (length w) s ≡ k.w ++ (k.c ++ (k.u ++ t)) = ap (drop (length w)) e ∙ drop-append_seam w (v ++ t) ∙ q in
    let p₀ : s ≡ (w ++ k.w) ++ (k.c ++ (k.u ++ t)) = e ∙ ap (λ (l : List ℕ). w ++ l) q ∙ sym (append_assoc w k.w _) in
    let i = starts-ink k.c (k.u ++ t) c.starts in
    past_is s k.w _ (length w) k.before i p₁ ∙ sym (past_is s (w ++ k.w) _ 0 (blank-append w k.w h k.before) i p₀ ∙ omega (arith, length-append w k.w))

pub text_tie : (d : ℕ) (s : List ℕ) → JSON-text d s → TextTie d s
text_tie d s (both {s = w} h (both {s = v} {t = t} x g)) = record {
  a = length w;
  v = v;
  t = t;
  there = drop-append_seam w (v ++ t);
  start = text-start d (w ++ (v ++ t)) w v t refl (blank_of w h) (core_of d v x) (blank_of t g);
  rest = subst Marked (append-nil t) (marked_by t [] (blank_of t g) tt);
  derived = x;
}

-- THE THEOREM for a text that is accepted, in the words of the public reader's contract
pub accepted_tie : (c : ℕ) (s : List ℕ) (n : ℕ) → Verdict c s (Ok n) → TextTie 8 s
accepted_tie c s n v = text_tie 8 s v.0
