-- Back from the machine: what it accepts behind an opening bracket are elements or members as `Written` has them, the closing bracket and what follows
-- (`elements_of`, `members_of`); an array or an object that is a piece has such a form (`piece-array`, `piece-object`), and so has a whole accepted text
-- that is an array (`top_of`). Cited by Forwarding. Assumes nothing.
use mathlib.Core.Path.{◌≡◌, refl, sym, ap, subst, ◌∙◌}
use mathlib.Core.Logic.{◌⊎◌, inl, inr}
use mathlib.Core.Bool.{Bool, true, false, or-true}
use mathlib.Core.List.{List, [], ◌∷◌, ◌++◌, append-nil}
use Prim.Native.Nat.{ℕ, zero, suc, ◌+◌, ◌-◌, ◌≤◌, ◌<◌}
use native.Mathlib.Omega.{arith}
use lib.ListN.{length, length-append}
use lib.Dec.{eqb, ltb}
use borrow.Author.Tests.{eqb-true}
use Rattle.octets.specs.Class.{is_digit, among}
use Rattle.json_text.specs.inner.Machine.{Stack, alone, text, arr, obj, levels, label, Mode, value, first, name, name₁, colon, after, str, esc, hex, hexes}
use Rattle.json_text.specs.inner.Machine.{is_hex_digit, is_esc, Next, live, dead, deep, done, begin, opens, ends, step, over, stops, takes, walk, from, answer}
use Rattle.json_text.specs.Places.{is_shut, is_mark, Inside, quoted, escaped, left, is_ws}
use Rattle.json_text.proofs.PlaceLaws.{left-none}
use Rattle.json_text.proofs.Listing.{Ink, Blank, Starts, starts-ink, Field, entry, body, Fine, Fines, Item, item, items, Goods}
use Rattle.json_text.proofs.OwnBytes.{then, run, onto, In, Lifts, on, no, sunk, late, lift-step, run-around}
use Rattle.json_text.proofs.ScanLaws.{left-closes, left_back, left-char, left-taken, hex_34, hex_92}
use Rattle.json_text.proofs.EndLaws.{run-size, walk-over}
use Rattle.frame.proofs.Standing.{Reach, here, trans, hop, ran, Val, Piece}
use Rattle.frame.proofs.Written.{over-blank, Named, object-goes, array-goes, first_as}
use Rattle.json_text.proofs.MoveLaws.{trail}
use Rattle.json_text.proofs.StepLaws.{ws-colon, ws-value, ws-name, ws-name₁, ws-text, ws-obj, ws-arr, ws-first, arr-comma, arr_close, obj-comma, obj_close}
use Rattle.json_text.proofs.StepLaws.{value-arr, value-obj, str-quote, colon-hit, name-quote}
use Rattle.std.specs.Prelude.{Ok}

-- the machine goes on to the end
pub record Acc (bs : List ℕ) (m : Mode) (k : Stack) : Type 0 where
  pub at : ℕ
  pub e : ℕ
  pub ok : walk bs m k at ≡ Ok e

pub acc-on : {bs t : List ℕ} {m m' : Mode} {k k' : Stack} → Reach bs m k t m' k' → Acc bs m k → Acc t m' k'
acc-on {bs} {t} r a = record { at = a.at + (length bs - length t); e = a.e; ok = sym (r.same a.at) ∙ a.ok }

-- a bracket is open
abbrev pub Within : Stack → Type 0
Within (alone d) = ⊥
Within (text d) = ⊥
Within (arr k) = Unit
Within (obj k) = Unit

-- the bytes do not stop while one is
no_stop : (m : Mode) (k : Stack) → Within k → Acc [] m k → ⊥
unfolding walk stops
no_stop m (alone d) o a = o
no_stop m (text d) o a = o
no_stop m (arr k) o a = let q = a.ok in let z : ◌≡◌ {A = ℕ} 0 1 = cc in omega arith
no_stop m (obj k) o a = let q = a.ok in let z : ◌≡◌ {A = ℕ} 0 1 = cc in omega arith

stops-onto : (m : Mode) (k s : Stack) (i e : ℕ) → Within k → stops m (onto k s) i ≡ Ok e → ⊥
unfolding onto stops
stops-onto m (alone d) (alone c) i e h q = h
stops-onto m (alone d) (text c) i e h q = h
stops-onto m (alone d) (arr s) i e h q = h
stops-onto m (alone d) (obj s) i e h q = h
stops-onto m (text d) (alone c) i e h q = h
stops-onto m (text d) (text c) i e h q = h
stops-onto m (text d) (arr s) i e h q = h
stops-onto m (text d) (obj s) i e h q = h
stops-onto m (arr k) (alone c) i e h q = let z : ◌≡◌ {A = ℕ} 0 1 = cc in omega arith
stops-onto m (arr k) (text c) i e h q = let z : ◌≡◌ {A = ℕ} 0 1 = cc in omega arith
stops-onto m (arr k) (arr s) i e h q = let z : ◌≡◌ {A = ℕ} 0 1 = cc in omega arith
stops-onto m (arr k) (obj s) i e h q = let z : ◌≡◌ {A = ℕ} 0 1 = cc in omega arith
stops-onto m (obj k) (alone c) i e h q = let z : ◌≡◌ {A = ℕ} 0 1 = cc in omega arith
stops-onto m (obj k) (text c) i e h q = let z : ◌≡◌ {A = ℕ} 0 1 = cc in omega arith
stops-onto m (obj k) (arr s) i e h q = let z : ◌≡◌ {A = ℕ} 0 1 = cc in omega arith
stops-onto m (obj k) (obj s) i e h q = let z : ◌≡◌ {A = ℕ} 0 1 = cc in omega arith

-- Bytes that begin with a value: it, and what follows, of which the first byte is none of it.
record Lead (d : ℕ) (bs : List ℕ) (m : Mode) (s : Stack) : Type 0 where
  v : List ℕ
  b : ℕ
  q : List ℕ
  m' : Mode
  is : bs ≡ v ++ (b ∷ q)
  runs : run v m s ≡ live m' (alone d)
  fin : over m' ≡ true
  like : (k : Stack) → d ≤ levels k → step m' k b ≡ ends k b

late_is : {d : ℕ} {k : Stack} {m₀ : Mode} {s₀ : Stack} {b₀ : ℕ} {n n' : Next} → Lifts d k m₀ s₀ b₀ n n' → n ≡ done → n' ≡ ends k b₀
late_is (on q h) e = let z : ◌≡◌ {A = ℕ} 0 1 = cc in absurd (omega arith)
late_is no e = let z : ◌≡◌ {A = ℕ} 0 1 = cc in absurd (omega arith)
late_is (sunk f) e = let z : ◌≡◌ {A = ℕ} 0 1 = cc in absurd (omega arith)
late_is (late x y w) e = w

like_at : (d b : ℕ) (m : Mode) (s : Stack) → In d m s → s ≡ alone d → step m s b ≡ done → (k : Stack) → d ≤ levels k → step m k b ≡ ends k b
unfolding onto
like_at d b m s a y g k l = ap (λ (x : Stack). step m (onto k x) b) (sym y) ∙ late_is (lift-step d k l m s a b) g

module _ (d : ℕ) (k : Stack) (l : levels k ≡ d) (o : Within k) where
  lead-next : (b : ℕ) (bs : List ℕ) (m : Mode) (s : Stack) (i e : ℕ) (n n' : Next) → In d m s → step m s b ≡ n → Lifts d k m s b n n'
      → ((m' : Mode) (s' : Stack) → In d m' s' → walk bs m' (onto k s') (i + 1) ≡ Ok e → Lead d bs m' s') → takes n' (walk bs) i ≡ Ok e → Lead d (b ∷ bs) m s
  unfolding run
  lead-next b bs m s i e (live m' s') n' a g (on x h) ih q =
      let r = ih m' s' h (ap (λ (n : Next). takes n (walk bs) i) (sym x) ∙ q) in
      record {
        v = b ∷ r.v;
        b = r.b;
        q = r.q;
        m' = r.m';
        is = ap (λ (z : List ℕ). b ∷ z) r.is;
        runs = ap (λ (n : Next). then n (run r.v)) g ∙ r.runs;
        fin = r.fin;
        like = r.like;
      }
  lead-next b bs m s i e dead n' a g no ih q = let z : ◌≡◌ {A = ℕ} 0 1 = cc in absurd (omega arith)
  lead-next b bs m s i e deep n' a g (sunk f) ih q = let y = f l in let z : ◌≡◌ {A = ℕ} 0 1 = cc in absurd (omega arith)
  lead-next b bs m s i e done n' a g (late x y w) ih q = record
      { v = []; b = b; q = bs; m' = m; is = refl; runs = ap (live m) y; fin = x; like = λ k' l'. like_at d b m s a y g k' l' }

  lead : (bs : List ℕ) (m : Mode) (s : Stack) (i e : ℕ) → In d m s → walk bs m (onto k s) i ≡ Ok e → Lead d bs m s
  unfolding walk
  lead [] m s i e h q = absurd (stops-onto m k s i e o q)
  lead (b ∷ bs) m s i e h q = lead-next b bs m s i e (step m s b) (step m (onto k s) b) h refl (lift-step d k (omega arith) m s h b) (λ m₁ s₁ h₁ q₁. lead bs m₁ s₁ (i + 1) e h₁ q₁)
      q

  lead_in : (bs : List ℕ) → Acc bs value k → Lead d bs value (alone d)
  unfolding onto
  lead_in bs a = lead bs value (alone d) a.at a.e (refl, tt) a.ok

-- white space in front
pub record Spaced (bs : List ℕ) : Type 0 where
  pub w : List ℕ
  pub t : List ℕ
  pub is : bs ≡ w ++ t
  pub ws : Blank w
  pub ink : (t ≡ []) ⊎ Ink t

spaced-by : (b : ℕ) (bs : List ℕ) (x : Bool) → is_ws b ≡ x → Spaced bs → Spaced (b ∷ bs)
spaced-by b bs true h r = record { w = b ∷ r.w; t = r.t; is = ap (λ (l : List ℕ). b ∷ l) r.is; ws = (h, r.ws); ink = r.ink }
spaced-by b bs false h r = record { w = []; t = b ∷ bs; is = refl; ws = tt; ink = inr h }

pub spaced : (bs : List ℕ) → Spaced bs
spaced [] = record { w = []; t = []; is = refl; ws = tt; ink = inl refl }
spaced (b ∷ bs) = spaced-by b bs (is_ws b) refl (spaced bs)

-- A value that the machine found is one.
value_close : (k : Stack) → step value k 93 ≡ dead
unfolding step begin is_ws is_digit among
value_close k = refl

starts_by : (d b : ℕ) (v : List ℕ) (m' : Mode) (x : Bool) → eqb b 93 ≡ x → run (b ∷ v) value (alone d) ≡ live m' (alone d) → eqb b 93 ≡ false
unfolding run
starts_by d b v m' true h e = let g = eqb-true b 93 h in let y : step value (alone d) b ≡ dead = ap (step value (alone d)) g ∙ value_close (alone d) in
    let f : dead ≡ live m' (alone d) = sym (ap (λ (n : Next). then n (run v)) y) ∙ e in cc
starts_by d b v m' false h e = h

lead-starts : (d : ℕ) (v q : List ℕ) (m' : Mode) → Ink (v ++ q) → run v value (alone d) ≡ live m' (alone d) → over m' ≡ true → Starts v
unfolding run
lead-starts d [] q m' o e f = let g : m' ≡ value = cc in let y : over value ≡ true = ap over (sym g) ∙ f in let z : ◌≡◌ {A = ℕ} 0 1 = cc in absurd (omega arith)
lead-starts d (b ∷ v) q m' o e f = (o, starts_by d b v m' (eqb b 93) refl e)

as_after : (m : Mode) (k : Stack) (b : ℕ) (t : List ℕ) → step m k b ≡ ends k b → Reach (b ∷ t) m k (b ∷ t) after k
unfolding walk step
as_after m k b t h = record { less = omega arith; same = λ i. ap (λ (n : Next). takes n (walk t) i) h ∙ ap (λ (j : ℕ). walk (b ∷ t) after k j) (omega arith) }

lead-goes : (d : ℕ) (bs : List ℕ) (r : Lead d bs value (alone d)) (t : List ℕ) (k : Stack) → d ≤ levels k → Reach (r.v ++ (r.b ∷ t)) value k (r.b ∷ t) after k
lead-goes d bs r t k l = trans (ran r.v (r.b ∷ t) value k (run-around d r.v k r.runs l)) (as_after r.m' k r.b t (r.like k l))

lead-val : (d : ℕ) (bs : List ℕ) (r : Lead d bs value (alone d)) → Ink bs → is_mark r.b ≡ true → (t : List ℕ) → Val d r.v (r.b ∷ t)
lead-val d bs r o m t =
    let s = lead-starts d r.v (r.b ∷ r.q) r.m' (subst Ink r.is o) r.runs r.fin in
    record { sized = record { starts = s; ends = run-size d r.v (r.b ∷ t) r.m' (starts-ink r.v (r.b ∷ t) s) r.fin r.runs m }; goes = lead-goes d bs r t }

acc-dead : (b : ℕ) (t : List ℕ) (m : Mode) (k : Stack) → step m k b ≡ dead → Acc (b ∷ t) m k → ⊥
unfolding walk
acc-dead b t m k h a = let q : takes dead (walk t) a.at ≡ Ok a.e = ap (λ (n : Next). takes n (walk t) a.at) (sym h) ∙ a.ok in let z : ◌≡◌ {A = ℕ} 0 1 = cc in omega arith

arr-dead : (k : Stack) (b : ℕ) → is_ws b ≡ false → eqb b 44 ≡ false → eqb b 93 ≡ false → step after (arr k) b ≡ dead
unfolding step ends
arr-dead k b w g h = simp (w, g, h)

obj-dead : (k : Stack) (b : ℕ) → is_ws b ≡ false → eqb b 44 ≡ false → eqb b 125 ≡ false → step after (obj k) b ≡ dead
unfolding step ends
obj-dead k b w g h = simp (w, g, h)

-- what is accepted behind a value inside a bracket is a mark
arr_mark : (k : Stack) (b : ℕ) (t : List ℕ) (x y z : Bool) → is_ws b ≡ x → eqb b 44 ≡ y → eqb b 93 ≡ z → Acc (b ∷ t) after (arr k) → is_mark b ≡ true
unfolding is_mark is_shut
arr_mark k b t true y z h₁ h₂ h₃ a = simp h₁
arr_mark k b t false true z h₁ h₂ h₃ a = simp (h₁, h₂)
arr_mark k b t false false true h₁ h₂ h₃ a = simp (h₁, h₂, h₃)
arr_mark k b t false false false h₁ h₂ h₃ a = absurd (acc-dead b t after (arr k) (arr-dead k b h₁ h₂ h₃) a)

obj_mark : (k : Stack) (b : ℕ) (t : List ℕ) (x y z : Bool) → is_ws b ≡ x → eqb b 44 ≡ y → eqb b 125 ≡ z → Acc (b ∷ t) after (obj k) → is_mark b ≡ true
unfolding is_mark is_shut
obj_mark k b t true y z h₁ h₂ h₃ a = simp h₁
obj_mark k b t false true z h₁ h₂ h₃ a = simp (h₁, h₂)
obj_mark k b t false false true h₁ h₂ h₃ a = simp (h₁, h₂, h₃) (or-true (eqb b 93))
obj_mark k b t false false false h₁ h₂ h₃ a = absurd (acc-dead b t after (obj k) (obj-dead k b h₁ h₂ h₃) a)

acc_mark : (k : Stack) → Within k → (b : ℕ) (t : List ℕ) → Acc (b ∷ t) after k → is_mark b ≡ true
acc_mark (alone d) o b t a = absurd o
acc_mark (text d) o b t a = absurd o
acc_mark (arr k) o b t a = arr_mark k b t (is_ws b) (eqb b 44) (eqb b 93) refl refl refl a
acc_mark (obj k) o b t a = obj_mark k b t (is_ws b) (eqb b 44) (eqb b 125) refl refl refl a

-- white space behind it, and the byte then: the value stands, whatever follows that byte
behind-val : (d b : ℕ) (v q u : List ℕ) (x : ℕ) (t : List ℕ) → ((t : List ℕ) → Val d v (b ∷ t)) → b ∷ q ≡ u ++ (x ∷ t) → (t' : List ℕ) → Val d v (u ++ (x ∷ t'))
behind-val d b v q [] x t g e t' = let z : b ≡ x = cc in subst (λ (y : ℕ). Val d v (y ∷ t')) z (g t')
behind-val d b v q (y ∷ u) x t g e t' = let z : b ≡ y = cc in subst (λ (y : ℕ). Val d v (y ∷ (u ++ (x ∷ t')))) z (g (u ++ (x ∷ t')))

ws-after : (k : Stack) → Within k → (b : ℕ) → is_ws b ≡ true → step after k b ≡ live after k
ws-after (alone d) o b h = absurd o
ws-after (text d) o b h = absurd o
ws-after (arr k) o b h = ws-arr b h k
ws-after (obj k) o b h = ws-obj b h k

-- a value inside a bracket, the white space around it and the byte behind that
record Ahead (d : ℕ) (bs : List ℕ) (k : Stack) : Type 0 where
  w : List ℕ
  v : List ℕ
  u : List ℕ
  x : ℕ
  t : List ℕ
  is : bs ≡ w ++ (v ++ (u ++ (x ∷ t)))
  before : Blank w
  val : (t' : List ℕ) → Val d v (u ++ (x ∷ t'))
  behind : Blank u
  ink : is_ws x ≡ false
  acc : Acc (x ∷ t) after k

module _ (d : ℕ) (k : Stack) (l : levels k ≡ d) (o : Within k) where
  ahead-end : (w v : List ℕ) (b : ℕ) (q u t₂ : List ℕ) → Blank w → ((t : List ℕ) → Val d v (b ∷ t)) → b ∷ q ≡ u ++ t₂ → Blank u → (t₂ ≡ []) ⊎ Ink t₂ → Acc t₂ after k
      → Ahead d (w ++ (v ++ (b ∷ q))) k
  ahead-end w v b q u [] hw g e hu i a = absurd (no_stop after k o a)
  ahead-end w v b q u (x ∷ t) hw g e hu (inl i) a = let z : ◌≡◌ {A = ℕ} 0 1 = cc in absurd (omega arith)
  ahead-end w v b q u (x ∷ t) hw g e hu (inr i) a = record
      { w = w; v = v; u = u; x = x; t = t; is = ap (λ (r : List ℕ). w ++ (v ++ r)) e; before = hw; val = behind-val d b v q u x t g e; behind = hu; ink = i; acc = a }

  ahead-value : (w t : List ℕ) → Blank w → Ink t → Acc t value k → Ahead d (w ++ t) k
  ahead-value w t hw i a =
      let r = lead_in d k l o t a in
      let a₃ : Acc (r.b ∷ r.q) after k = acc-on (lead-goes d t r r.q k (omega arith)) (subst (λ (z : List ℕ). Acc z value k) r.is a) in
      let g = lead-val d t r i (acc_mark k o r.b r.q a₃) in
      let s = spaced (r.b ∷ r.q) in
      let a₄ : Acc s.t after k = acc-on (over-blank s.w s.t after k s.ws (ws-after k o)) (subst (λ (z : List ℕ). Acc z after k) s.is a₃) in
      subst (λ (z : List ℕ). Ahead d (w ++ z) k) (sym r.is) (ahead-end w r.v r.b r.q s.w s.t hw g s.is s.ws s.ink a₄)

  ahead-ink : (w t : List ℕ) → Blank w → (t ≡ []) ⊎ Ink t → Acc t value k → Ahead d (w ++ t) k
  ahead-ink w t hw (inl e) a = absurd (no_stop value k o (subst (λ (z : List ℕ). Acc z value k) e a))
  ahead-ink w t hw (inr i) a = ahead-value w t hw i a

  ahead : (bs : List ℕ) → Acc bs value k → Ahead d bs k
  ahead bs a =
      let s = spaced bs in
      subst (λ (z : List ℕ). Ahead d z k) (sym s.is)
      (ahead-ink s.w s.t s.ws s.ink (acc-on (over-blank s.w s.t value k s.ws (ws-value k)) (subst (λ (z : List ℕ). Acc z value k) s.is a)))

-- The elements of an array.
pub record Elements (d : ℕ) (bs : List ℕ) (k : Stack) : Type 0 where
  pub i : Item
  pub is : List Item
  pub t : List ℕ
  pub eq : bs ≡ items i is t
  pub good : Goods (Val d) i is
  pub more : Acc t after k

module _ (d : ℕ) where
  elements-end : (bs : List ℕ) (k : Stack) (r : Ahead d bs (arr k)) (x y : Bool) → eqb r.x 44 ≡ x → eqb r.x 93 ≡ y → (Acc r.t value (arr k) → Elements d r.t k)
      → Elements d bs k
  unfolding items item
  elements-end bs k r true y h g f =
      let z = eqb-true r.x 44 h in
      let a : Acc (44 ∷ r.t) after (arr k) = subst (λ (b : ℕ). Acc (b ∷ r.t) after (arr k)) z r.acc in
      let q = f (acc-on (hop (arr-comma k 44 refl)) a) in
      record {
        i = record { w = r.w; v = r.v; u = r.u };
        is = q.i ∷ q.is;
        t = q.t;
        eq = r.is ∙ ap (λ (b : ℕ). r.w ++ (r.v ++ (r.u ++ (b ∷ r.t)))) z ∙ ap (λ (l : List ℕ). r.w ++ (r.v ++ (r.u ++ (44 ∷ l)))) q.eq;
        good = (record { before = r.before; val = subst (λ (b : ℕ). (t' : List ℕ) → Val d r.v (r.u ++ (b ∷ t'))) z r.val; behind = r.behind }, q.good);
        more = q.more;
      }
  elements-end bs k r false true h g f =
      let z = eqb-true r.x 93 g in
      let a : Acc (93 ∷ r.t) after (arr k) = subst (λ (b : ℕ). Acc (b ∷ r.t) after (arr k)) z r.acc in
      record {
        i = record { w = r.w; v = r.v; u = r.u };
        is = [];
        t = r.t;
        eq = r.is ∙ ap (λ (b : ℕ). r.w ++ (r.v ++ (r.u ++ (b ∷ r.t)))) z;
        good = record { before = r.before; val = subst (λ (b : ℕ). (t' : List ℕ) → Val d r.v (r.u ++ (b ∷ t'))) z r.val; behind = r.behind };
        more = acc-on (hop (arr_close k 93 refl)) a;
      }
  elements-end bs k r false false h g f = absurd (acc-dead r.x r.t after (arr k) (arr-dead k r.x r.ink h g) r.acc)

  -- behind '[' or ',': what the machine accepts are elements, a closing bracket and what follows
  pub elements_of : (n : ℕ) (bs : List ℕ) (k : Stack) → length bs ≤ n → levels k - 1 ≡ d → Acc bs value (arr k) → Elements d bs k
  elements_of zero [] k h l a = absurd (no_stop value (arr k) tt a)
  elements_of zero (b ∷ bs) k h l a = absurd (omega arith)
  elements_of (suc n) bs k h l a =
      let r = ahead d (arr k) l tt bs a in
      elements-end bs k r (eqb r.x 44) (eqb r.x 93) refl refl (λ a'. elements_of n r.t k (omega (arith, simp length-append at (ap length r.is))) l a')

-- Names. Where the machine stands in one: at a character, behind a backslash, or with hex digits due.
data Spot : Type 0 where
  ch : Spot
  es : Spot
  hx : ℕ → Spot

abbrev mode : Spot → Mode
mode ch = str label
mode es = esc label
mode (hx j) = hex label j

abbrev spot_in : Spot → Inside
spot_in ch = quoted
spot_in es = escaped
spot_in (hx j) = quoted

record Naming (bs : List ℕ) (x : Spot) (k : Stack) : Type 0 where
  n : List ℕ
  t : List ℕ
  is : bs ≡ n ++ (34 ∷ t)
  goes : (k : Stack) (t : List ℕ) → Reach (n ++ (34 ∷ t)) (mode x) k (34 ∷ t) (str label) k
  closes : (t : List ℕ) → left (n ++ (34 ∷ t)) (spot_in x) 0 ≡ suc (length n)
  acc : Acc (34 ∷ t) (str label) k

-- one byte more
naming-by : (b : ℕ) (bs : List ℕ) (x y : Spot) (k : Stack) → ((k : Stack) → step (mode x) k b ≡ live (mode y) k)
    → ((l : List ℕ) → left (b ∷ l) (spot_in x) 0 ≡ suc (left l (spot_in y) 0)) → (Acc bs (mode y) k → Naming bs y k) → Acc (b ∷ bs) (mode x) k → Naming (b ∷ bs) x k
naming-by b bs x y k h g f a =
    let r = f (acc-on (hop (h k)) a) in
    record {
      n = b ∷ r.n;
      t = r.t;
      is = ap (λ (l : List ℕ). b ∷ l) r.is;
      goes = λ k' t. trans (hop (h k')) (r.goes k' t);
      closes = λ t. g (r.n ++ (34 ∷ t))
          ∙ ap suc (r.closes t);
      acc = r.acc;
    }

module _ (b : ℕ) (k : Stack) where
  ch-esc : eqb b 34 ≡ false → eqb b 92 ≡ true → step (str label) k b ≡ live (esc label) k
  unfolding step
  ch-esc h g = simp (h, g)

  ch-dead : eqb b 34 ≡ false → eqb b 92 ≡ false → ltb b 32 ≡ true → step (str label) k b ≡ dead
  unfolding step
  ch-dead h g f = simp (h, g, f)

  ch-ch : eqb b 34 ≡ false → eqb b 92 ≡ false → ltb b 32 ≡ false → step (str label) k b ≡ live (str label) k
  unfolding step
  ch-ch h g f = simp (h, g, f)

  es-ch : is_esc b ≡ true → step (esc label) k b ≡ live (str label) k
  unfolding step
  es-ch h = simp h

  es-hx : is_esc b ≡ false → eqb b 117 ≡ true → step (esc label) k b ≡ live (hex label 3) k
  unfolding step hexes
  es-hx h g = simp (h, g)

  es-dead : is_esc b ≡ false → eqb b 117 ≡ false → step (esc label) k b ≡ dead
  unfolding step
  es-dead h g = simp (h, g)

  hx-dead : (j : ℕ) → is_hex_digit b ≡ false → step (hex label j) k b ≡ dead
  unfolding step
  hx-dead j h = simp h

  hx-ch : is_hex_digit b ≡ true → step (hex label 0) k b ≡ live (str label) k
  unfolding step hexes
  hx-ch h = simp h

  hx-hx : (j : ℕ) → is_hex_digit b ≡ true → step (hex label (suc j)) k b ≡ live (hex label j) k
  unfolding step hexes
  hx-hx j h = simp h

hex-char : (b : ℕ) (l : List ℕ) → is_hex_digit b ≡ true → left (b ∷ l) quoted 0 ≡ suc (left l quoted 0)
hex-char b l h = left-char b l 0 (hex_34 b (eqb b 34) refl h) (hex_92 b (eqb b 92) refl h)

naming-ch : (b : ℕ) (bs : List ℕ) (k : Stack) (x y z : Bool) → eqb b 34 ≡ x → eqb b 92 ≡ y → ltb b 32 ≡ z → ((p : Spot) → Acc bs (mode p) k → Naming bs p k)
    → Acc (b ∷ bs) (str label) k → Naming (b ∷ bs) ch k
naming-ch b bs k true y z h g e f a = let w = eqb-true b 34 h in
    record {
      n = [];
      t = bs;
      is = ap (λ (c : ℕ). c ∷ bs) w;
      goes = λ k' t. here (34 ∷ t) (str label) k';
      closes = λ t. left-closes 34 t 0 refl ∙ ap suc (left-none t);
      acc = subst (λ (c : ℕ). Acc (c ∷ bs) (str label) k) w a;
    }
naming-ch b bs k false true z h g e f a = naming-by b bs ch es k (λ k'. ch-esc b k' h g) (λ l. left_back b l 0 h g) (f es) a
naming-ch b bs k false false true h g e f a = absurd (acc-dead b bs (str label) k (ch-dead b k h g e) a)
naming-ch b bs k false false false h g e f a = naming-by b bs ch ch k (λ k'. ch-ch b k' h g e) (λ l. left-char b l 0 h g) (f ch) a

naming-es : (b : ℕ) (bs : List ℕ) (k : Stack) (x y : Bool) → is_esc b ≡ x → eqb b 117 ≡ y → ((p : Spot) → Acc bs (mode p) k → Naming bs p k) → Acc (b ∷ bs) (esc label) k
    → Naming (b ∷ bs) es k
naming-es b bs k true y h g f a = naming-by b bs es ch k (λ k'. es-ch b k' h) (λ l. left-taken b l 0) (f ch) a
naming-es b bs k false true h g f a = naming-by b bs es (hx 3) k (λ k'. es-hx b k' h g) (λ l. left-taken b l 0) (f (hx 3)) a
naming-es b bs k false false h g f a = absurd (acc-dead b bs (esc label) k (es-dead b k h g) a)

naming-hx : (b : ℕ) (bs : List ℕ) (k : Stack) (j : ℕ) (x : Bool) → is_hex_digit b ≡ x → ((p : Spot) → Acc bs (mode p) k → Naming bs p k) → Acc (b ∷ bs) (hex label j) k
    → Naming (b ∷ bs) (hx j) k
naming-hx b bs k j false h f a = absurd (acc-dead b bs (hex label j) k (hx-dead b k j h) a)
naming-hx b bs k zero true h f a = naming-by b bs (hx 0) ch k (λ k'. hx-ch b k' h) (λ l. hex-char b l h) (f ch) a
naming-hx b bs k (suc j) true h f a = naming-by b bs (hx (suc j)) (hx j) k (λ k'. hx-hx b k' j h) (λ l. hex-char b l h) (f (hx j)) a

naming : (bs : List ℕ) (p : Spot) (k : Stack) → Within k → Acc bs (mode p) k → Naming bs p k
naming [] p k o a = absurd (no_stop (mode p) k o a)
naming (b ∷ bs) ch k o a = naming-ch b bs k (eqb b 34) (eqb b 92) (ltb b 32) refl refl refl (λ p a'. naming bs p k o a') a
naming (b ∷ bs) es k o a = naming-es b bs k (is_esc b) (eqb b 117) refl refl (λ p a'. naming bs p k o a') a
naming (b ∷ bs) (hx j) k o a = naming-hx b bs k j (is_hex_digit b) refl (λ p a'. naming bs p k o a') a

named_of : (bs : List ℕ) (k : Stack) (r : Naming bs ch k) → Named r.n
named_of bs k r = record { listed = record { closes = r.closes }; goes = r.goes }

-- white space, then the one byte that can come
record Skip (x : ℕ) (bs : List ℕ) (m : Mode) (k : Stack) : Type 0 where
  w : List ℕ
  t : List ℕ
  is : bs ≡ w ++ (x ∷ t)
  ws : Blank w
  acc : Acc (x ∷ t) m k

module _ (x : ℕ) (m : Mode) (k : Stack) (o : Within k) (stay : (b : ℕ) → is_ws b ≡ true → step m k b ≡ live m k)
    (miss : (b : ℕ) → is_ws b ≡ false → eqb b x ≡ false → step m k b ≡ dead) where
  skip_at : (w : List ℕ) (b : ℕ) (t : List ℕ) (y : Bool) → eqb b x ≡ y → Blank w → is_ws b ≡ false → Acc (b ∷ t) m k → Skip x (w ++ (b ∷ t)) m k
  skip_at w b t true h hw i a = let z = eqb-true b x h in record { w = w; t = t; is = ap (λ (c : ℕ). w ++ (c ∷ t)) z; ws = hw; acc = subst (λ (c : ℕ). Acc (c ∷ t) m k) z a }
  skip_at w b t false h hw i a = absurd (acc-dead b t m k (miss b i h) a)

  skip-ink : (w t : List ℕ) → Blank w → (t ≡ []) ⊎ Ink t → Acc t m k → Skip x (w ++ t) m k
  skip-ink w [] hw i a = absurd (no_stop m k o a)
  skip-ink w (b ∷ t) hw (inl e) a = let z : ◌≡◌ {A = ℕ} 0 1 = cc in absurd (omega arith)
  skip-ink w (b ∷ t) hw (inr i) a = skip_at w b t (eqb b x) refl hw i a

  skip : (bs : List ℕ) → Acc bs m k → Skip x bs m k
  skip bs a = let s = spaced bs in
      subst (λ (z : List ℕ). Skip x z m k) (sym s.is)
      (skip-ink s.w s.t s.ws s.ink (acc-on (over-blank s.w s.t m k s.ws stay) (subst (λ (z : List ℕ). Acc z m k) s.is a)))

name-dead : (k : Stack) (b : ℕ) → is_ws b ≡ false → eqb b 34 ≡ false → step name k b ≡ dead
unfolding step
name-dead k b h g = simp (h, g)

colon-dead : (k : Stack) (b : ℕ) → is_ws b ≡ false → eqb b 58 ≡ false → step colon k b ≡ dead
unfolding step
colon-dead k b h g = simp (h, g)

record Member (d : ℕ) (bs : List ℕ) (k : Stack) : Type 0 where
  f : Field
  x : ℕ
  t : List ℕ
  is : bs ≡ entry f (x ∷ t)
  fine : Fine (Val d) Named f x
  ink : is_ws x ≡ false
  acc : Acc (x ∷ t) after (obj k)

-- behind '{' or ',' in an object: a member and the byte behind it
member_of : (d : ℕ) (bs : List ℕ) (k : Stack) → levels k - 1 ≡ d → Acc bs name (obj k) → Member d bs k
unfolding entry
member_of d bs k l a =
    let s₁ = skip 34 name (obj k) tt (ws-name (obj k)) (name-dead (obj k)) bs a in
    let r = naming s₁.t ch (obj k) tt (acc-on (hop (name-quote (obj k) 34 refl)) s₁.acc) in
    let s₂ = skip 58 colon (obj k) tt (ws-colon (obj k)) (colon-dead (obj k)) r.t (acc-on (hop (str-quote label (obj k) 34 refl)) r.acc) in
    let v = ahead d (obj k) l tt s₂.t (acc-on (hop (colon-hit (obj k) 58 refl)) s₂.acc) in
    record {
      f = record { w = s₁.w; n = r.n; w₁ = s₂.w; w₂ = v.w; v = v.v; u = v.u };
      x = v.x;
      t = v.t;
      is = s₁.is ∙ ap (λ (z : List ℕ). s₁.w ++ (34 ∷ z)) (r.is ∙ ap (λ (z : List ℕ). r.n ++ (34 ∷ z)) (s₂.is ∙ ap (λ (z : List ℕ). s₂.w ++ (58 ∷ z)) v.is));
      fine = record { before = s₁.ws; named = named_of s₁.t (obj k) r; before₁ = s₂.ws; before₂ = v.before; val = v.val; behind = v.behind };
      ink = v.ink;
      acc = v.acc;
    }

pub record Members (d : ℕ) (bs : List ℕ) (k : Stack) : Type 0 where
  pub f : Field
  pub fs : List Field
  pub t : List ℕ
  pub eq : bs ≡ body f fs t
  pub good : Fines (Val d) Named f fs
  pub more : Acc t after k

module _ (d : ℕ) where
  members-end : (bs : List ℕ) (k : Stack) (r : Member d bs k) (x y : Bool) → eqb r.x 44 ≡ x → eqb r.x 125 ≡ y → (Acc r.t name (obj k) → Members d r.t k)
      → Members d bs k
  unfolding body
  members-end bs k r true y h g f =
      let z = eqb-true r.x 44 h in
      let a : Acc (44 ∷ r.t) after (obj k) = subst (λ (b : ℕ). Acc (b ∷ r.t) after (obj k)) z r.acc in
      let q = f (acc-on (hop (obj-comma k 44 refl)) a) in
      record {
        f = r.f;
        fs = q.f ∷ q.fs;
        t = q.t;
        eq = r.is ∙ ap (λ (b : ℕ). entry r.f (b ∷ r.t)) z ∙ ap (λ (l : List ℕ). entry r.f (44 ∷ l)) q.eq;
        good = (subst (λ (b : ℕ). Fine (Val d) Named r.f b) z r.fine, q.good);
        more = q.more;
      }
  members-end bs k r false true h g f =
      let z = eqb-true r.x 125 g in
      let a : Acc (125 ∷ r.t) after (obj k) = subst (λ (b : ℕ). Acc (b ∷ r.t) after (obj k)) z r.acc in
      record {
        f = r.f;
        fs = [];
        t = r.t;
        eq = r.is ∙ ap (λ (b : ℕ). entry r.f (b ∷ r.t)) z;
        good = subst (λ (b : ℕ). Fine (Val d) Named r.f b) z r.fine;
        more = acc-on (hop (obj_close k 125 refl)) a;
      }
  members-end bs k r false false h g f = absurd (acc-dead r.x r.t after (obj k) (obj-dead k r.x r.ink h g) r.acc)

  entry-long : (f : Field) (t : List ℕ) → length t < length (entry f t)
  unfolding entry
  entry-long f t = simp length-append (omega arith)

  -- behind '{' or ',' in an object: members, a closing brace and what follows
  pub members_of : (n : ℕ) (bs : List ℕ) (k : Stack) → length bs ≤ n → levels k - 1 ≡ d → Acc bs name (obj k) → Members d bs k
  members_of zero [] k h l a = absurd (no_stop name (obj k) tt a)
  members_of zero (b ∷ bs) k h l a = absurd (omega arith)
  members_of (suc n) bs k h l a =
      let r = member_of d bs k l a in
      members-end bs k r (eqb r.x 44) (eqb r.x 125) refl refl (λ a'. members_of n r.t k (omega (arith, ap length r.is, entry-long r.f (r.x ∷ r.t))) l a')

-- Behind '[' as behind ',', unless it closes at once; and behind '{'.
not-closed : (b x : ℕ) (t : List ℕ) (y : Bool) → eqb b x ≡ y → ((t' : List ℕ) → b ∷ t ≡ x ∷ t' → ⊥) → eqb b x ≡ false
not-closed b x t true h n = absurd (n t (ap (λ (c : ℕ). c ∷ t) (eqb-true b x h)))
not-closed b x t false h n = h

first-ink : (k : Stack) (w t : List ℕ) → Blank w → (t ≡ []) ⊎ Ink t → ((t' : List ℕ) → t ≡ 93 ∷ t' → ⊥) → Acc (w ++ t) first (arr k) → Acc (w ++ t) value (arr k)
first-ink k w [] hw i n a = absurd (no_stop first (arr k) tt (acc-on (over-blank w [] first (arr k) hw (ws-first (arr k))) a))
first-ink k w (b ∷ t) hw (inl e) n a = let z : ◌≡◌ {A = ℕ} 0 1 = cc in absurd (omega arith)
first-ink k w (b ∷ t) hw (inr i) n a = record { at = a.at; e = a.e; ok = sym (first_as w (b ∷ []) t k a.at hw (i, not-closed b 93 t (eqb b 93) refl n)) ∙ a.ok }

first-acc : (k : Stack) (r : List ℕ) → ((t' : List ℕ) → (spaced r).t ≡ 93 ∷ t' → ⊥) → Acc r first (arr k) → Acc r value (arr k)
first-acc k r n a = let s = spaced r in
    subst (λ (z : List ℕ). Acc z value (arr k)) (sym s.is) (first-ink k s.w s.t s.ws s.ink n (subst (λ (z : List ℕ). Acc z first (arr k)) s.is a))

name₁-step : (b : ℕ) (k : Stack) → is_ws b ≡ false → eqb b 125 ≡ false → step name₁ (obj k) b ≡ step name (obj k) b
unfolding step
name₁-step b k w h = simp (w, h)

name₁_as : (w : List ℕ) (b : ℕ) (t : List ℕ) (k : Stack) (i : ℕ) → Blank w → is_ws b ≡ false → eqb b 125 ≡ false
    → walk (w ++ (b ∷ t)) name₁ (obj k) i ≡ walk (w ++ (b ∷ t)) name (obj k) i
unfolding walk
name₁_as [] b t k i h o n = ap (λ (x : Next). takes x (walk t) i) (name₁-step b k o n)
name₁_as (a ∷ w) b t k i h o n = simp (ws-name₁ (obj k) a h.0, ws-name (obj k) a h.0) (name₁_as w b t k (i + 1) h.1 o n)

name₁-ink : (k : Stack) (w t : List ℕ) → Blank w → (t ≡ []) ⊎ Ink t → ((t' : List ℕ) → t ≡ 125 ∷ t' → ⊥) → Acc (w ++ t) name₁ (obj k) → Acc (w ++ t) name (obj k)
name₁-ink k w [] hw i n a = absurd (no_stop name₁ (obj k) tt (acc-on (over-blank w [] name₁ (obj k) hw (ws-name₁ (obj k))) a))
name₁-ink k w (b ∷ t) hw (inl e) n a = let z : ◌≡◌ {A = ℕ} 0 1 = cc in absurd (omega arith)
name₁-ink k w (b ∷ t) hw (inr i) n a = record { at = a.at; e = a.e; ok = sym (name₁_as w b t k a.at hw i (not-closed b 125 t (eqb b 125) refl n)) ∙ a.ok }

name₁-acc : (k : Stack) (r : List ℕ) → ((t' : List ℕ) → (spaced r).t ≡ 125 ∷ t' → ⊥) → Acc r name₁ (obj k) → Acc r name (obj k)
name₁-acc k r n a = let s = spaced r in
    subst (λ (z : List ℕ). Acc z name (obj k)) (sym s.is) (name₁-ink k s.w s.t s.ws s.ink n (subst (λ (z : List ℕ). Acc z name₁ (obj k)) s.is a))

-- Pieces: their elements or members, and nothing behind the bracket.
no_more : (t : List ℕ) → length t ≡ 0 → t ≡ []
no_more [] h = refl
no_more (b ∷ t) h = absurd (omega arith)

piece-acc : (d : ℕ) (v : List ℕ) → Piece d v → walk v value (alone d) 0 ≡ Ok (length v)
piece-acc d v p =
    let r = ran v [] value (alone d) p.runs in
    let z : 0 + (length (v ++ []) - 0) ≡ length v = omega (arith, length-append v []) in
    ap (λ (l : List ℕ). walk l value (alone d) 0) (sym (append-nil v)) ∙ r.same 0 ∙ walk-over [] d _ ∙ ap Ok z

shallow : (e : ℕ) (r : List ℕ) (i : ℕ) → walk (91 ∷ r) value (alone 0) i ≡ Ok e → ⊥
unfolding walk step begin opens is_ws
shallow e r i h = let z : ◌≡◌ {A = ℕ} 0 1 = cc in omega arith

roomy : (d e : ℕ) (r : List ℕ) (i : ℕ) → walk (91 ∷ r) value (alone d) i ≡ Ok e → 0 < d
roomy zero e r i h = absurd (shallow e r i h)
roomy (suc d) e r i h = omega arith

shallow-obj : (e : ℕ) (r : List ℕ) (i : ℕ) → walk (123 ∷ r) value (alone 0) i ≡ Ok e → ⊥
unfolding walk step begin opens is_ws
shallow-obj e r i h = let z : ◌≡◌ {A = ℕ} 0 1 = cc in omega arith

roomy-obj : (d e : ℕ) (r : List ℕ) (i : ℕ) → walk (123 ∷ r) value (alone d) i ≡ Ok e → 0 < d
roomy-obj zero e r i h = absurd (shallow-obj e r i h)
roomy-obj (suc d) e r i h = omega arith

pub record ArrayText (d : ℕ) (r : List ℕ) : Type 0 where
  pub i : Item
  pub is : List Item
  pub eq : r ≡ items i is []
  pub good : Goods (Val d) i is

array_whole : (d : ℕ) (r : List ℕ) (i : Item) (is : List Item) (t : List ℕ) → 0 < d → r ≡ items i is t → Goods (Val (d - 1)) i is
    → walk (91 ∷ r) value (alone d) 0 ≡ Ok (length (91 ∷ r)) → ArrayText (d - 1) r
array_whole d r i is t o e g h =
    let q = array-goes (d - 1) i is t (alone d) g (omega arith) in
    let y : Ok (0 + (length (91 ∷ items i is t) - length t)) ≡ Ok (length (91 ∷ items i is t)) = sym (q.same 0 ∙ walk-over t d _)
    ∙ subst (λ (x : List ℕ). walk (91 ∷ x) value (alone d) 0 ≡ Ok (length (91 ∷ x))) e h in
    let z : 0 + (length (91 ∷ items i is t) - length t) ≡ length (91 ∷ items i is t) = cc in
    let n : t ≡ [] = no_more t (omega (arith, q.less)) in
    record { i = i; is = is; eq = e ∙ ap (items i is) n; good = g }

-- an array that is a piece and does not close at once
pub piece-array : (d : ℕ) (r : List ℕ) → Piece d (91 ∷ r) → ((t' : List ℕ) → (spaced r).t ≡ 93 ∷ t' → ⊥) → ArrayText (d - 1) r
piece-array d r p n =
    let h = piece-acc d (91 ∷ r) p in
    let o = roomy d (length (91 ∷ r)) r 0 h in
    let a : Acc (91 ∷ r) value (alone d) = record { at = 0; e = length (91 ∷ r); ok = h } in
    let q = elements_of (d - 1) (length r) r (alone d) (omega arith) refl (first-acc (alone d) r n (acc-on (hop (value-arr (alone d) 91 refl o)) a)) in
    array_whole d r q.i q.is q.t o q.eq q.good h

pub record ObjectText (d : ℕ) (r : List ℕ) : Type 0 where
  pub f : Field
  pub fs : List Field
  pub eq : r ≡ body f fs []
  pub good : Fines (Val d) Named f fs

object-whole : (d : ℕ) (r : List ℕ) (f : Field) (fs : List Field) (t : List ℕ) → 0 < d → r ≡ body f fs t → Fines (Val (d - 1)) Named f fs
    → walk (123 ∷ r) value (alone d) 0 ≡ Ok (length (123 ∷ r)) → ObjectText (d - 1) r
object-whole d r f fs t o e g h =
    let q = object-goes (d - 1) f fs t (alone d) g (omega arith) in
    let y : Ok (0 + (length (123 ∷ body f fs t) - length t)) ≡ Ok (length (123 ∷ body f fs t)) = sym (q.same 0 ∙ walk-over t d _)
    ∙ subst (λ (x : List ℕ). walk (123 ∷ x) value (alone d) 0 ≡ Ok (length (123 ∷ x))) e h in
    let z : 0 + (length (123 ∷ body f fs t) - length t) ≡ length (123 ∷ body f fs t) = cc in
    let n : t ≡ [] = no_more t (omega (arith, q.less)) in
    record { f = f; fs = fs; eq = e ∙ ap (body f fs) n; good = g }

-- an object that is a piece and does not close at once
pub piece-object : (d : ℕ) (r : List ℕ) → Piece d (123 ∷ r) → ((t' : List ℕ) → (spaced r).t ≡ 125 ∷ t' → ⊥) → ObjectText (d - 1) r
piece-object d r p n =
    let h = piece-acc d (123 ∷ r) p in
    let o = roomy-obj d (length (123 ∷ r)) r 0 h in
    let a : Acc (123 ∷ r) value (alone d) = record { at = 0; e = length (123 ∷ r); ok = h } in
    let q = members_of (d - 1) (length r) r (alone d) (omega arith) refl (name₁-acc (alone d) r n (acc-on (hop (value-obj (alone d) 123 refl o)) a)) in
    object-whole d r q.f q.fs q.t o q.eq q.good h

-- The whole text, where it is an array with something in it.
blank-next : (b : ℕ) (t : List ℕ) (x : Bool) → is_ws b ≡ x → (Acc t after (text 8) → Blank t) → Acc (b ∷ t) after (text 8) → Blank (b ∷ t)
blank-next b t true h f a = (h, f (acc-on (hop (ws-text b h 8)) a))
blank-next b t false h f a = absurd (acc-dead b t after (text 8) (trail b h) a)

trailing : (t : List ℕ) → Acc t after (text 8) → Blank t
trailing [] a = tt
trailing (b ∷ t) a = blank-next b t (is_ws b) refl (λ a'. trailing t a') a

pub record Top (s : List ℕ) : Type 0 where
  pub w : List ℕ
  pub i : Item
  pub is : List Item
  pub t : List ℕ
  pub eq : s ≡ w ++ (91 ∷ items i is t)
  pub before : Blank w
  pub good : Goods (Val 7) i is
  pub behind : Blank t

-- THE CONVERSE: an accepted text that begins with '[' and not '[]' is such a text
pub top_of : (s : List ℕ) (e : ℕ) → answer s ≡ Ok e → (r : List ℕ) → (spaced s).t ≡ 91 ∷ r → ((t' : List ℕ) → (spaced r).t ≡ 93 ∷ t' → ⊥) → Top s
unfolding from
top_of s e h r g n =
    let p = spaced s in
    let a₀ : Acc s value (text 8) = record { at = 0; e = e; ok = h } in
    let a₁ : Acc p.t value (text 8) = acc-on (over-blank p.w p.t value (text 8) p.ws (ws-value (text 8))) (subst (λ (z : List ℕ). Acc z value (text 8)) p.is a₀) in
    let a₂ : Acc r first (arr (text 8)) = acc-on (hop (value-arr (text 8) 91 refl (omega arith))) (subst (λ (z : List ℕ). Acc z value (text 8)) g a₁) in
    let q = elements_of 7 (length r) r (text 8) (omega arith) refl (first-acc (text 8) r n a₂) in
    record {
      w = p.w;
      i = q.i;
      is = q.is;
      t = q.t;
      eq = p.is ∙ ap (λ (z : List ℕ). p.w ++ z) (g ∙ ap (λ (z : List ℕ). 91 ∷ z) q.eq);
      before = p.ws;
      good = q.good;
      behind = trailing q.t q.more;
    }
