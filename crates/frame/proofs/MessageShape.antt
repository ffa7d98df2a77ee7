-- An accepted text that is an array of two, the second an object with members, has the form of a message (`accepted`): white space, a tag, white space
-- and members. One of its values changed for another that stands by itself leaves it accepted, and all other members as they were (`message-accepted`,
-- `message-members`, `swap_read_lem`). Cited by Forwarding. Assumes nothing.
use mathlib.Core.Path.{◌≡◌, refl, sym, ap, subst, ◌∙◌}
use mathlib.Core.Logic.{◌⊎◌, inl, inr}
use mathlib.Core.Bool.{Bool, true, false, ◌||◌, cond}
use mathlib.Core.List.{List, [], ◌∷◌, ◌++◌, append_assoc, append-nil, map}
use Prim.Native.Nat.{ℕ, zero, suc, ◌+◌, ◌≤◌, ◌<◌}
use native.Mathlib.Omega.{arith}
use lib.ListN.{length, get_or, drop, length-append}
use lib.Seq.{drop-append_seam, get_or-drop}
use lib.Dec.{eqb}
use borrow.Author.Tests.{eqb-true, eqb-false}
use Rattle.json_text.specs.inner.Machine.{text, value, after, answer}
use Rattle.json_text.specs.Places.{spaces, past, follows, value_of, members_from, members, elements_from, elements, bytes, spell, is_ws}
use Rattle.json_text.proofs.Listing.{Ink, Blank, Starts, Field, entry, ahead_of, body, Fine, Fines, Item, item, items, Good, Goods, read, read_all, starts_at, at-skip}
use Rattle.json_text.proofs.Listing.{at_next, at_byte, past_is, past-at, ws_44, ws_93, ws_125, more-on, member_is, entry_read, item-read, array-read, array-starts}
use Rattle.json_text.proofs.Listing.{array_long, elements-at, object-read, body-long, ws_91}
use Rattle.json_text.proofs.StepLaws.{ws-value, ws-text}
use Rattle.json_text.proofs.ScanLaws.{Opened}
use Rattle.frame.proofs.Standing.{Reach, trans, Val, Piece, val-piece, piece-val}
use Rattle.frame.proofs.Written.{over-blank, Named, body-append, object-piece, array-goes, whole}
use Rattle.frame.proofs.Parsed.{spaced, top_of, piece-object}
use Rattle.std.specs.Prelude.{Ok}

-- The value of member n, counted from 0, changed to v.
abbrev pub swap₁ : ℕ → List ℕ → Field → Field
swap₁ zero v f = record { w = f.w; n = f.n; w₁ = f.w₁; w₂ = f.w₂; v = v; u = f.u }
swap₁ (suc n) v f = f

abbrev pub swaps : ℕ → List ℕ → List Field → List Field
swaps zero v fs = fs
swaps (suc n) v [] = []
swaps (suc n) v (g ∷ gs) = swap₁ n v g ∷ swaps n v gs

abbrev pub value_at : ℕ → Field → List Field → List ℕ
value_at zero f fs = f.v
value_at (suc n) f [] = []
value_at (suc n) f (g ∷ gs) = value_at n g gs

-- the same of what is read: names and values
abbrev pub swap_read : ℕ → List ℕ → List (List ℕ × List ℕ) → List (List ℕ × List ℕ)
swap_read n v [] = []
swap_read zero v (p ∷ ps) = (p.0, v) ∷ ps
swap_read (suc n) v (p ∷ ps) = p ∷ swap_read n v ps

pub swap_read_lem : (n : ℕ) (v : List ℕ) (f : Field) (fs : List Field) → read_all (swap₁ n v f ∷ swaps n v fs) ≡ swap_read n v (read_all (f ∷ fs))
swap_read_lem zero v f fs = refl
swap_read_lem (suc n) v f [] = refl
swap_read_lem (suc n) v f (g ∷ gs) = ap (λ (l : List (List ℕ × List ℕ)). read f ∷ l) (swap_read_lem n v g gs)

swap_one : (d b : ℕ) (v : List ℕ) (f : Field) → Fine (Val d) Named f b → Piece d v → Fine (Val d) Named (swap₁ 0 v f) b
swap_one d b v f h g = record { before = h.before; named = h.named; before₁ = h.before₁; before₂ = h.before₂; val = λ t. piece-val d v (f.u ++ (b ∷ t)) g; behind = h.behind }

pub swap_fine : (n d : ℕ) (v : List ℕ) (f : Field) (fs : List Field) → Fines (Val d) Named f fs → Piece d v → Fines (Val d) Named (swap₁ n v f) (swaps n v fs)
swap_fine zero d v f [] h g = swap_one d 125 v f h g
swap_fine zero d v f (a ∷ az) h g = (swap_one d 44 v f h.0 g, h.1)
swap_fine (suc n) d v f [] h g = h
swap_fine (suc n) d v f (a ∷ az) h g = (h.0, swap_fine n d v a az h.1 g)

-- what stands before member n's value, and behind it
unfoldable pub before : ℕ → Field → List Field → List ℕ
before zero f fs = ahead_of f
before (suc n) f [] = []
before (suc n) f (g ∷ gs) = ahead_of f ++ (f.v ++ (f.u ++ (44 ∷ before n g gs)))

unfoldable pub beyond : ℕ → Field → List Field → List ℕ → List ℕ
beyond zero f [] t = f.u ++ (125 ∷ t)
beyond zero f (g ∷ gs) t = f.u ++ (44 ∷ body g gs t)
beyond (suc n) f [] t = []
beyond (suc n) f (g ∷ gs) t = beyond n g gs t

swap_body : (n : ℕ) (v : List ℕ) (f : Field) (fs : List Field) (t : List ℕ) → n ≤ length fs → body (swap₁ n v f) (swaps n v fs) t ≡ before n f fs ++ (v ++ beyond n f fs t)
unfolding body entry before beyond ahead_of
swap_body zero v f [] t h = simp append_assoc
swap_body zero v f (g ∷ gs) t h = simp append_assoc
swap_body (suc n) v f [] t h = absurd (omega arith)
swap_body (suc n) v f (g ∷ gs) t h = simp (append_assoc, swap_body n v g gs t (omega arith))

value-body : (n : ℕ) (f : Field) (fs : List Field) (t : List ℕ) → n ≤ length fs → body f fs t ≡ before n f fs ++ (value_at n f fs ++ beyond n f fs t)
unfolding body entry before beyond ahead_of
value-body zero f [] t h = simp append_assoc
value-body zero f (g ∷ gs) t h = simp append_assoc
value-body (suc n) f [] t h = absurd (omega arith)
value-body (suc n) f (g ∷ gs) t h = simp (append_assoc, value-body n g gs t (omega arith))

-- member n's value in front of what follows it
pub value-val : (n d : ℕ) (f : Field) (fs : List Field) (t : List ℕ) → Fines (Val d) Named f fs → n ≤ length fs → Val d (value_at n f fs) (beyond n f fs t)
unfolding beyond
value-val zero d f [] t h l = h.val t
value-val zero d f (g ∷ gs) t h l = h.0.val (body g gs t)
value-val (suc n) d f [] t h l = absurd (omega arith)
value-val (suc n) d f (g ∷ gs) t h l = value-val n d g gs t h.1 (omega arith)

-- these begin with an ASCII byte
pub record Fronts (l : List ℕ) : Type 0 where
  pub b : ℕ
  pub c : List ℕ
  pub is : l ≡ b ∷ c
  pub low : b < 128

ws-low : (b : ℕ) → is_ws b ≡ true → b < 128
unfolding is_ws
ws-low b e = by (eqb b 32) (eqb b 9) (eqb b 10) (eqb b 13) refl refl refl refl e
  where
    by : (x y z u : Bool) → eqb b 32 ≡ x → eqb b 9 ≡ y → eqb b 10 ≡ z → eqb b 13 ≡ u → (x || (y || (z || u))) ≡ true → b < 128
    by true y z u f g h i e = omega (arith, eqb-true b 32 f)
    by false true z u f g h i e = omega (arith, eqb-true b 9 g)
    by false false true u f g h i e = omega (arith, eqb-true b 10 h)
    by false false false true f g h i e = omega (arith, eqb-true b 13 i)
    by false false false false f g h i e = absurd (let w : ◌≡◌ {A = ℕ} 0 1 = cc in omega arith)

pub blank-front : (w : List ℕ) (x : ℕ) (t : List ℕ) → Blank w → x < 128 → Fronts (w ++ (x ∷ t))
blank-front [] x t h l = record { b = x; c = t; is = refl; low = l }
blank-front (b ∷ w) x t h l = record { b = b; c = w ++ (x ∷ t); is = refl; low = ws-low b h.0 }

-- so does what stands behind a member's value
pub beyond-front : (n d : ℕ) (f : Field) (fs : List Field) (t : List ℕ) → Fines (Val d) Named f fs → n ≤ length fs → Fronts (beyond n f fs t)
unfolding beyond
beyond-front zero d f [] t h l = blank-front f.u 125 t h.behind (omega arith)
beyond-front zero d f (g ∷ gs) t h l = blank-front f.u 44 (body g gs t) h.0.behind (omega arith)
beyond-front (suc n) d f [] t h l = absurd (omega arith)
beyond-front (suc n) d f (g ∷ gs) t h l = beyond-front n d g gs t h.1 (omega arith)

-- its place
value-place : (n N d : ℕ) (s : List ℕ) (a : ℕ) (f : Field) (fs : List Field) (t : List ℕ) → Fines (Val d) Named f fs → length fs < N → n ≤ length fs → drop a s ≡ body f fs t
    → value_of s (get_or (members_from N s a) n 0) ≡ a + length (before n f fs)
unfolding members_from body before
value-place n zero d s a f fs t h c m e = absurd (omega arith)
value-place zero (suc N) d s a f [] t h c m e =
    let r = entry_read (Val d) Named (λ v q x. x.sized) (λ n x. x.listed) 125 s a f t h ws_125 e in
    ap (λ (z : List ℕ). value_of s (get_or z 0 0)) (member_is s (members_from N s) (past s a) r.quote) ∙ r.at
value-place zero (suc N) d s a f (g ∷ gs) t h c m e =
    let r = entry_read (Val d) Named (λ v q x. x.sized) (λ n x. x.listed) 44 s a f (body g gs t) h.0 ws_44 e in
    ap (λ (z : List ℕ). value_of s (get_or z 0 0)) (member_is s (members_from N s) (past s a) r.quote) ∙ r.at
value-place (suc n) (suc N) d s a f [] t h c m e = absurd (omega arith)
value-place (suc n) (suc N) d s a f (g ∷ gs) t h c m e =
    let r = entry_read (Val d) Named (λ v q x. x.sized) (λ n x. x.listed) 44 s a f (body g gs t) h.0 ws_44 e in
    let y = follows s (value_of s (past s a)) in
    let ih = value-place n N d s (y + 1) g gs t h.1 (omega arith) (omega arith) (at_next 44 _ s y r.rest) in
    ap (λ (z : List ℕ). value_of s (get_or z (suc n) 0))
    (member_is s (members_from N s) (past s a) r.quote ∙ ap (λ (z : List ℕ). past s a ∷ z) (more-on s (body g gs t) (members_from N s) (value_of s (past s a)) r.rest)) ∙ ih
    ∙ simp length-append (omega (arith, r.next))

-- The message: white space w, a tag i, white space jw and ju around its object, white space t.
pub record Around : Type 0 where
  pub w : List ℕ
  pub i : Item
  pub jw : List ℕ
  pub ju : List ℕ
  pub t : List ℕ

pub record AroundFine (m : Around) : Type 0 where
  pub hw : Blank m.w
  pub hi : Good (Val 7) m.i 44
  pub hj : Blank m.jw
  pub hu : Blank m.ju
  pub ht : Blank m.t

module _ (m : Around) where
  abbrev pub object : Field → List Field → Item
  object f fs = record { w = m.jw; v = 123 ∷ body f fs []; u = m.ju }

  unfoldable pub message : Field → List Field → List ℕ
  message f fs = m.w ++ (91 ∷ items m.i (object f fs ∷ []) m.t)

  -- up to its object, and behind it
  unfoldable pub head : List ℕ
  head = m.w ++ (91 ∷ item m.i (44 ∷ m.jw))

  unfoldable pub tail : List ℕ
  tail = m.ju ++ (93 ∷ m.t)

  message-is : (f : Field) (fs : List Field) → message f fs ≡ head ++ (123 ∷ body f fs tail)
  unfolding message head tail items item
  message-is f fs = simp (append_assoc, body-append f fs)

  -- the bytes before member n's value
  abbrev pub up_to : ℕ → Field → List Field → List ℕ
  up_to n f fs = head ++ (123 ∷ before n f fs)

  -- the message about member n's value, and about another in its place
  pub message-split : (f : Field) (fs : List Field) (n : ℕ) → n ≤ length fs → message f fs ≡ up_to n f fs ++ (value_at n f fs ++ beyond n f fs tail)
  message-split f fs n l = message-is f fs ∙ ap (λ (x : List ℕ). head ++ (123 ∷ x)) (value-body n f fs tail l) ∙ simp append_assoc

  pub message-swapped : (f : Field) (fs : List Field) (n : ℕ) (v : List ℕ) → n ≤ length fs → message (swap₁ n v f) (swaps n v fs) ≡ up_to n f fs ++ (v ++ beyond n f fs tail)
  message-swapped f fs n v l = message-is (swap₁ n v f) (swaps n v fs) ∙ ap (λ (x : List ℕ). head ++ (123 ∷ x)) (swap_body n v f fs tail l) ∙ simp append_assoc

  module _ (a : AroundFine m) (f : Field) (fs : List Field) (h : Fines (Val 6) Named f fs) where
    goods : Goods (Val 7) m.i (object f fs ∷ [])
    goods = (a.hi, record { before = a.hj; val = λ t. piece-val 7 (123 ∷ body f fs []) (m.ju ++ (93 ∷ t)) (object-piece 6 f fs h); behind = a.hu })

    -- it is accepted
    pub message-accepted : answer (message f fs) ≡ Ok (length (message f fs))
    unfolding message
    message-accepted =
        let r = array-goes 7 m.i (object f fs ∷ []) m.t (text 8) goods (omega arith) in
        let e = over-blank m.t [] after (text 8) a.ht (λ b h. ws-text b h 8) in
        whole (m.w ++ (91 ∷ items m.i (object f fs ∷ []) m.t))
        (trans (over-blank m.w _ value (text 8) a.hw (ws-value (text 8)))
        (trans r (subst (λ (x : List ℕ). Reach x after (text 8) [] after (text 8)) (append-nil m.t) e)))

    object-there : drop (length head) (message f fs) ≡ 123 ∷ body f fs tail
    object-there = ap (drop (length head)) (message-is f fs) ∙ drop-append_seam head (123 ∷ body f fs tail)

    -- its members are those written
    pub message-members : map (spell (message f fs)) (members (message f fs) (length head)) ≡ read_all (f ∷ fs)
    message-members = object-read (Val 6) Named (λ v q x. x.sized) (λ n x. x.listed) (message f fs) (length head) f fs tail h object-there

    -- and where member n's value stands
    pub value_there : (n : ℕ) → n ≤ length fs → value_of (message f fs) (get_or (members (message f fs) (length head)) n 0) ≡ length (up_to n f fs)
    unfolding members
    value_there n l =
        value-place n (length (message f fs)) 6 (message f fs) (length head + 1) f fs tail h
        (omega (arith, ap length (message-is f fs), length-append head (123 ∷ body f fs tail), body-long f fs tail)) l
        (at_next 123 _ (message f fs) (length head) object-there) ∙ simp length-append (omega arith)

    array-there : drop (length m.w) (message f fs) ≡ 91 ∷ items m.i (object f fs ∷ []) m.t
    unfolding message
    array-there = drop-append_seam m.w (91 ∷ items m.i (object f fs ∷ []) m.t)

    -- its array and its object stand where they did, whatever the members
    pub message-start : past (message f fs) 0 ≡ length m.w
    unfolding message
    message-start = past_is (message f fs) m.w _ 0 a.hw ws_91 refl ∙ omega arith

    pub message-elements : elements (message f fs) (length m.w) ≡ (length m.w + 1 + length m.i.w) ∷ length head ∷ []
    unfolding head item starts_at
    message-elements =
        let z : length m.w + 1 + length m.i.w + length m.i.v + length m.i.u + 1 + length m.jw ≡ length
        (m.w ++ (91 ∷ (m.i.w ++ (m.i.v ++ (m.i.u ++ (44 ∷ m.jw)))))) = simp length-append (omega arith) in
        array-starts (Val 7) (λ v q x. x.sized) (message f fs) (length m.w) m.i (object f fs ∷ []) m.t goods array-there
        ∙ ap (λ (n : ℕ). (length m.w + 1 + length m.i.w) ∷ (n ∷ [])) z

    -- its tag is the one written
    pub message-tag : bytes (message f fs) (length m.w + 1 + length m.i.w) ≡ m.i.v
    message-tag =
        let q : map (bytes (message f fs)) (elements (message f fs) (length m.w)) ≡ m.i.v ∷ (123 ∷ body f fs []) ∷ [] = array-read (Val 7) (λ v q x. x.sized) (message f fs)
        (length m.w) m.i (object f fs ∷ []) m.t goods array-there in
        let p : bytes (message f fs) (length m.w + 1 + length m.i.w) ∷ bytes (message f fs) (length head) ∷ [] ≡ m.i.v ∷ (123 ∷ body f fs []) ∷ [] = ap
        (map (bytes (message f fs))) (sym message-elements) ∙ q in
        cc

-- An accepted text of the right shape is such a message.
pub record Shape (s : List ℕ) : Type 0 where
  pub m : Around
  pub fine : AroundFine m
  pub f : Field
  pub fs : List Field
  pub eq : s ≡ message m f fs
  pub good : Fines (Val 6) Named f fs

shape_as : (s w : List ℕ) (i j : Item) (t r : List ℕ) → s ≡ w ++ (91 ∷ items i (j ∷ []) t) → Blank w → Good (Val 7) i 44 → Good (Val 7) j 93 → Blank t → j.v ≡ 123 ∷ r
    → ((t' : List ℕ) → (spaced r).t ≡ 125 ∷ t' → ⊥) → Shape s
unfolding message items item
shape_as s w i j t r e hw hi gj ht b n =
    let p = val-piece 7 j.v (j.u ++ (93 ∷ [])) (gj.val []) (subst Opened (sym b) (inr (inr refl))) in
    let q = piece-object 7 r (subst (Piece 7) b p) n in
    record {
      m = record { w = w; i = i; jw = j.w; ju = j.u; t = t };
      fine = record { hw = hw; hi = hi; hj = gj.before; hu = gj.behind; ht = ht };
      f = q.f;
      fs = q.fs;
      eq = e
          ∙ ap (λ (v : List ℕ). w ++ (91 ∷ (i.w ++ (i.v ++ (i.u ++ (44 ∷ (j.w ++ (v ++ (j.u ++ (93 ∷ t)))))))))) (b ∙ ap (λ (x : List ℕ). 123 ∷ x) q.eq);
      good = q.good;
    }

-- the byte past the white space
pub seen : (s w t : List ℕ) (a b : ℕ) → Blank w → (b ∷ t ≡ []) ⊎ Ink (b ∷ t) → drop a s ≡ w ++ (b ∷ t) → get_or s (past s a) 0 ≡ b
seen s w t a b h (inl i) e = let z : ◌≡◌ {A = ℕ} 0 1 = cc in absurd (omega arith)
seen s w t a b h (inr i) e = at_byte b t s (past s a) (past-at s w (b ∷ t) a h i e)

spaced-byte : (s r : List ℕ) (a b : ℕ) (t : List ℕ) → drop a s ≡ r → (spaced r).t ≡ b ∷ t → get_or s (past s a) 0 ≡ b
spaced-byte s r a b t e g =
    let p = spaced r in
    seen s p.w t a b p.ws (subst (λ (x : List ℕ). (x ≡ []) ⊎ Ink x) g p.ink) (e ∙ p.is ∙ ap (λ (x : List ℕ). p.w ++ x) g)

not-ahead : (s r : List ℕ) (a b : ℕ) → drop a s ≡ r → (get_or s (past s a) 0 ≡ b → ⊥) → (t : List ℕ) → (spaced r).t ≡ b ∷ t → ⊥
not-ahead s r a b e n t g = n (spaced-byte s r a b t e g)

pub starts_with : (v t s : List ℕ) (y b : ℕ) → Starts v → drop y s ≡ v ++ t → get_or s y 0 ≡ b → (r : List ℕ) × (v ≡ b ∷ r)
starts_with [] t s y b o e g = absurd o
starts_with (x ∷ v) t s y b o e g = (v, ap (λ (z : ℕ). z ∷ v) (sym (at_byte x (v ++ t) s y e) ∙ g))

spaces-end : (w : List ℕ) → Blank w → spaces (w ++ []) ≡ length w
unfolding spaces
spaces-end [] h = refl
spaces-end (b ∷ w) h = simp h.0 (ap suc (spaces-end w h.1))

past_end : (s w : List ℕ) (a : ℕ) → Blank w → drop a s ≡ w ++ [] → past s a ≡ a + length w
unfolding past
past_end s w a h e = ap (λ (l : List ℕ). a + spaces l) e ∙ ap (λ (n : ℕ). a + n) (spaces-end w h)

at-end : (s : List ℕ) (x : ℕ) → drop x s ≡ [] → get_or s x 0 ≡ 0
at-end s x e = let z : x ≡ x + 0 = omega arith in ap (λ (y : ℕ). get_or s y 0) z ∙ sym (get_or-drop x s 0 0) ∙ ap (λ (l : List ℕ). get_or l 0 0) e

ahead_as : (s w t : List ℕ) (a b : ℕ) → Blank w → (t ≡ []) ⊎ Ink t → drop a s ≡ w ++ t → get_or s (past s a) 0 ≡ b → 0 < b → (r : List ℕ) × (t ≡ b ∷ r)
ahead_as s w [] a b h i e g o = let z : get_or s (past s a) 0 ≡ 0 = ap (λ (x : ℕ). get_or s x 0) (past_end s w a h e) ∙ at-end s (a + length w) (at-skip w [] s a e) in
    absurd (omega arith)
ahead_as s w (x ∷ t) a b h i e g o = (t, ap (λ (y : ℕ). y ∷ t) (sym (seen s w t a x h i e) ∙ g))

ahead-is : (s r : List ℕ) (a b : ℕ) → drop a s ≡ r → get_or s (past s a) 0 ≡ b → 0 < b → (t : List ℕ) × ((spaced r).t ≡ b ∷ t)
ahead-is s r a b e g o = let p = spaced r in ahead_as s p.w p.t a b p.ws p.ink (e ∙ p.is) g o

-- an array with elements does not close at once
not-empty-by : (s : List ℕ) (o x : ℕ) (xs : List ℕ) (t : Bool) → cond t [] (elements_from (length s) s (o + 1)) ≡ x ∷ xs → t ≡ false
not-empty-by s o x xs true e = let z : ◌≡◌ {A = ℕ} 0 1 = cc in absurd (omega arith)
not-empty-by s o x xs false e = refl

pub not-empty : (s : List ℕ) (o x : ℕ) (xs : List ℕ) → elements s o ≡ x ∷ xs → get_or s (past s (o + 1)) 0 ≡ 93 → ⊥
unfolding elements
not-empty s o x xs e g = eqb-false _ 93 (not-empty-by s o x xs (eqb (get_or s (past s (o + 1)) 0) 93) e) g

-- what stands from an element's place on
abbrev item_at : ℕ → Item → List Item → Item
item_at zero i is = i
item_at (suc m) i [] = i
item_at (suc m) i (j ∷ js) = item_at m j js

abbrev rest_at : ℕ → Item → List Item → List ℕ → List ℕ
rest_at zero i [] t = i.u ++ (93 ∷ t)
rest_at zero i (j ∷ js) t = i.u ++ (44 ∷ items j js t)
rest_at (suc m) i [] t = []
rest_at (suc m) i (j ∷ js) t = rest_at m j js t

element_place : (m N d : ℕ) (s : List ℕ) (a : ℕ) (i : Item) (is : List Item) (t : List ℕ) → Goods (Val d) i is → length is < N → m ≤ length is → drop a s ≡ items i is t
    → drop (get_or (elements_from N s a) m 0) s ≡ (item_at m i is).v ++ rest_at m i is t
unfolding elements_from items
element_place m zero d s a i is t h c n e = absurd (omega arith)
element_place zero (suc N) d s a i [] t h c n e = (item-read (Val d) (λ v q x. x.sized) 93 s a i t h ws_93 e).start
element_place zero (suc N) d s a i (j ∷ js) t h c n e = (item-read (Val d) (λ v q x. x.sized) 44 s a i (items j js t) h.0 ws_44 e).start
element_place (suc m) (suc N) d s a i [] t h c n e = absurd (omega arith)
element_place (suc m) (suc N) d s a i (j ∷ js) t h c n e =
    let r = item-read (Val d) (λ v q x. x.sized) 44 s a i (items j js t) h.0 ws_44 e in
    let y = follows s (past s a) in
    ap (λ (z : List ℕ). drop (get_or z m 0) s) (more-on s (items j js t) (elements_from N s) (past s a) r.rest)
    ∙ element_place m N d s (y + 1) j js t h.1 (omega arith) (omega arith) (at_next 44 _ s y r.rest)

-- two elements: the second, and what stands from it on
record Second (s : List ℕ) (i : Item) (is : List Item) (t : List ℕ) (o y : ℕ) : Type 0 where
  j : Item
  is' : is ≡ j ∷ []
  on : drop y s ≡ j.v ++ (j.u ++ (93 ∷ t))

second : (s : List ℕ) (i : Item) (is : List Item) (t : List ℕ) (o x y : ℕ) → drop o s ≡ 91 ∷ items i is t → Goods (Val 7) i is → length is < length s
    → starts_at (o + 1) i is ≡ x ∷ (y ∷ []) → elements_from (length s) s (o + 1) ≡ x ∷ (y ∷ []) → Second s i is t o y
unfolding starts_at
second s i [] t o x y e g c q p = let z : ◌≡◌ {A = ℕ} 0 1 = cc in absurd (omega arith)
second s i (j ∷ []) t o x y e g c q p = record
    { j = j; is' = refl; on = ap (λ (l : List ℕ). drop (get_or l 1 0) s) (sym p) ∙ element_place 1 (length s) 7 s (o + 1) i (j ∷ []) t g c (omega arith) (at_next 91 _ s o e) }
second s i (j ∷ (k ∷ [])) t o x y e g c q p = let z : ◌≡◌ {A = ℕ} 0 1 = cc in absurd (omega arith)
second s i (j ∷ (k ∷ (l ∷ ls))) t o x y e g c q p = let z : ◌≡◌ {A = ℕ} 0 1 = cc in absurd (omega arith)

second_of : (s : List ℕ) (i : Item) (is : List Item) (t : List ℕ) (o x y : ℕ) → drop o s ≡ 91 ∷ items i is t → Goods (Val 7) i is → elements s o ≡ x ∷ (y ∷ [])
    → Second s i is t o y
second_of s i is t o x y e g h =
    let c = array_long (Val 7) (λ v q x. x.sized) s o i is t g e in
    second s i is t o x y e g c (sym (array-starts (Val 7) (λ v q x. x.sized) s o i is t g e) ∙ h) (sym (elements-at (Val 7) (λ v q x. x.sized) s o i is t g e) ∙ h)

-- an object that does not close at once
pub full : (s r q : List ℕ) (y : ℕ) → drop y s ≡ (123 ∷ r) ++ q → (get_or s (past s (y + 1)) 0 ≡ 125 → ⊥) → (t : List ℕ) → (spaced r).t ≡ 125 ∷ t → ⊥
full s r q y e n t g =
    let p = spaced r in
    let d : drop (y + 1) s ≡ p.w ++ (125 ∷ (t ++ q)) = at_next 123 _ s y e ∙ ap (λ (z : List ℕ). z ++ q) (p.is ∙ ap (λ (z : List ℕ). p.w ++ z) g)
    ∙ append_assoc p.w (125 ∷ t) q in
    n (seen s p.w (t ++ q) (y + 1) 125 p.ws (inr ws_125) d)

-- THE CONVERSE, in the reader's words: an accepted text that is an array of two, the second an object with members, has the form of a message
pub accepted : (s : List ℕ) (e x y : ℕ) → answer s ≡ Ok e → get_or s (past s 0) 0 ≡ 91 → elements s (past s 0) ≡ x ∷ (y ∷ []) → get_or s y 0 ≡ 123
    → (get_or s (past s (y + 1)) 0 ≡ 125 → ⊥) → Shape s
accepted s e x y h b el g n =
    let r = ahead-is s s 0 91 refl b (omega arith) in
    let p = spaced s in
    let d₀ : drop (past s 0) s ≡ 91 ∷ r.0 = past-at s p.w (91 ∷ r.0) 0 p.ws ws_91 (p.is ∙ ap (λ (z : List ℕ). p.w ++ z) r.1) in
    let top = top_of s e h r.0 r.1 (not-ahead s r.0 (past s 0 + 1) 93 (at_next 91 _ s (past s 0) d₀) (not-empty s (past s 0) x (y ∷ []) el)) in
    let d₁ : drop (past s 0) s ≡ 91 ∷ items top.i top.is top.t = past-at s top.w _ 0 top.before ws_91 top.eq in
    let m = second_of s top.i top.is top.t (past s 0) x y d₁ top.good el in
    let gj = subst (λ (z : List Item). Goods (Val 7) top.i z) m.is' top.good in
    let v = starts_with m.j.v _ s y 123 (gj.1.val []).sized.starts m.on g in
    shape_as s top.w top.i m.j top.t v.0 (top.eq ∙ ap (λ (z : List Item). top.w ++ (91 ∷ items top.i z top.t)) m.is') top.before gj.0 gj.1
    top.behind v.1 (full s v.0 _ y (m.on ∙ ap (λ (z : List ℕ). z ++ (m.j.u ++ (93 ∷ top.t))) v.1) n)

-- Its object stands behind its head.
pub shape-place : (s : List ℕ) (h : Shape s) (x y : ℕ) → elements s (past s 0) ≡ x ∷ (y ∷ []) → y ≡ length (head h.m)
shape-place s h x y el =
    let q : elements s (past s 0) ≡ (length h.m.w + 1 + length h.m.i.w) ∷ length (head h.m) ∷ [] =
    ap (λ (r : List ℕ). elements r (past r 0)) h.eq ∙ ap (elements (message h.m h.f h.fs)) (message-start h.m h.fine h.f h.fs h.good)
    ∙ message-elements h.m h.fine h.f h.fs h.good in
    let p : ◌≡◌ {A = List ℕ} (x ∷ (y ∷ [])) ((length h.m.w + 1 + length h.m.i.w) ∷ length (head h.m) ∷ []) = sym el ∙ q in
    cc
