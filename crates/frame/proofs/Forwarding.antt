-- One value of an accepted message changed. `MemberAt` says in the reader's words that s is an accepted array of two, its second the object at y, of which
-- member n has its value at o. Then (`changing`) with any value v that stands by itself in its place: the text is accepted again, with its tag, its object
-- and that member where they were, every byte outside the value as it was, and all other members read as they were. With an element added behind the last
-- of an array there (`forwarding`), or its last taken off (`removing`), that is so, and the elements are the old ones and the new one, or all but the
-- last; taking off undoes adding. A value copied elsewhere ends by itself (`value-piece`), a copied array has the same elements (`copied_elements`), and
-- what is added to the copy is taken off again (`copied_undone`). Cited by `writing`. Assumes nothing.
use mathlib.Core.Path.{◌≡◌, refl, sym, ap, subst, ◌∙◌}
use mathlib.Core.Logic.{inl, inr}
use mathlib.Core.List.{List, [], ◌∷◌, ◌++◌, append_assoc, map}
use Prim.Native.Nat.{ℕ, zero, suc, ◌+◌, ◌≤◌, ◌<◌}
use native.Mathlib.Omega.{arith}
use lib.ListN.{length, get_or, take, drop, length-map}
use lib.Seq.{drop-append_seam, take-append_seam}
use Rattle.json_text.specs.inner.Machine.{answer}
use Rattle.json_text.specs.Places.{past, behind, bytes, follows, value_of, members, elements_from, elements, spell}
use Rattle.json_text.proofs.Listing.{Field, ahead_of, Fines, Item, items, Goods, read, read_all, values, starts_at, at_next, at-skip, at_byte, behind-is, bytes-is}
use Rattle.json_text.proofs.Listing.{ws_44, ws_93, more-on, item-read, array-read, array-starts, array_long, elements-at, members-none}
use Rattle.json_text.proofs.ScanLaws.{Opener, Opened}
use Rattle.frame.specs.Edit.{added, removed}
use Rattle.frame.proofs.Standing.{Val, Piece, val-piece, piece-sized}
use Rattle.frame.proofs.Written.{Named, array-piece, items-append}
use Rattle.frame.proofs.ArrayEdits.{Solids, solid-goods, grow, grow₁, grow-solid, grow-values, shrink, shrink₁, shrink-solid, shrink-values, but_last}
use Rattle.frame.proofs.ArrayEdits.{array-elements, added_is, removed-is, removed-added, removed-framed}
use Rattle.frame.proofs.Parsed.{spaced, piece-array}
use Rattle.frame.proofs.MessageShape.{Fronts, beyond-front, swap₁, swaps, value_at, swap_read, swap_read_lem, swap_fine, before, beyond, value-val, Around}
use Rattle.frame.proofs.MessageShape.{AroundFine, message, head, tail, up_to, message-split, message-swapped, message-accepted, message-members}
use Rattle.frame.proofs.MessageShape.{value_there, message-start, message-elements, message-tag, Shape, accepted, shape-place, seen, starts_with}
use Rattle.frame.proofs.MessageShape.{not-empty}
use Rattle.std.specs.Prelude.{Ok}

-- s is an accepted array of two, at x and y; at y stands an object, and its member n has its value at o
pub record MemberAt (s : List ℕ) (x y n o : ℕ) : Type 0 where
  pub end : ℕ
  pub ends : answer s ≡ Ok end
  pub array : get_or s (past s 0) 0 ≡ 91
  pub two : elements s (past s 0) ≡ x ∷ (y ∷ [])
  pub object : get_or s y 0 ≡ 123
  pub there : n < length (members s y)
  pub place : o ≡ value_of s (get_or (members s y) n 0)

-- s' is s with v for the value of member n
pub record Changed (s s' : List ℕ) (x y n o : ℕ) (v : List ℕ) : Type 0 where
  pub whole : answer s' ≡ Ok (length s')
  pub again : MemberAt s' x y n o
  pub tag : bytes s' x ≡ bytes s x
  pub outside : s' ≡ take o s ++ (v ++ drop (behind s o) s)
  pub same : map (spell s') (members s' y) ≡ swap_read n v (map (spell s) (members s y))
  pub there : bytes s' o ≡ v

-- an object that closes at once has no members
pub not_none : (s : List ℕ) (y n : ℕ) → n < length (members s y) → get_or s (past s (y + 1)) 0 ≡ 125 → ⊥
unfolding members
not_none s y n l e = omega (arith, ap length (members-none (length s) s (y + 1) e))

-- A message, and any member of it.
many : (m : Around) (a : AroundFine m) (f : Field) (fs : List Field) (h : Fines (Val 6) Named f fs) → length (members (message m f fs) (length (head m))) ≡ suc (length fs)
many m a f fs h = sym (length-map (members (message m f fs) (length (head m))) (spell (message m f fs))) ∙ ap length (message-members m a f fs h) ∙ length-map (f ∷ fs) read

head_byte : (m : Around) (a : AroundFine m) (f : Field) (fs : List Field) (h : Fines (Val 6) Named f fs) (n : ℕ) → n ≤ length fs → get_or (message m f fs) (length (head m)) 0 ≡ 123
head_byte m a f fs h n l =
    let e : drop (length (head m)) (message m f fs) ≡ 123 ∷ (before n f fs ++ (value_at n f fs ++ beyond n f fs (tail m))) =
    ap (drop (length (head m))) (message-split m f fs n l ∙ append_assoc (head m) (123 ∷ before n f fs) _) ∙ drop-append_seam (head m) _ in
    at_byte 123 _ (message m f fs) (length (head m)) e

start-byte : (m : Around) (a : AroundFine m) (f : Field) (fs : List Field) (h : Fines (Val 6) Named f fs) → get_or (message m f fs) (past (message m f fs) 0) 0 ≡ 91
unfolding message
start-byte m a f fs h = ap (λ (k : ℕ). get_or (message m f fs) k 0) (message-start m a f fs h) ∙ at_byte 91 _ (message m f fs) (length m.w) (drop-append_seam m.w _)

message-at : (m : Around) (a : AroundFine m) (f : Field) (fs : List Field) (h : Fines (Val 6) Named f fs) (n : ℕ) → n ≤ length fs
    → MemberAt (message m f fs) (length m.w + 1 + length m.i.w) (length (head m)) n (length (up_to m n f fs))
message-at m a f fs h n l = record {
  end = length (message m f fs);
  ends = message-accepted m a f fs h;
  array = start-byte m a f fs h;
  two = ap (elements (message m f fs)) (message-start m a f fs h) ∙ message-elements m a f fs h;
  object = head_byte m a f fs h n l;
  there = omega (arith, many m a f fs h);
  place = sym (value_there m a f fs h n l);
}

before_swap : (n : ℕ) (v : List ℕ) (f : Field) (fs : List Field) → before n (swap₁ n v f) (swaps n v fs) ≡ before n f fs
unfolding before ahead_of
before_swap zero v f fs = refl
before_swap (suc n) v f [] = refl
before_swap (suc n) v f (g ∷ gs) = rw (before_swap n v g gs)

length-swaps : (n : ℕ) (v : List ℕ) (fs : List Field) → length (swaps n v fs) ≡ length fs
length-swaps zero v fs = refl
length-swaps (suc n) v [] = refl
length-swaps (suc n) v (g ∷ gs) = ap suc (length-swaps n v gs)

up_to_swap : (m : Around) (n : ℕ) (v : List ℕ) (f : Field) (fs : List Field) → length (up_to m n (swap₁ n v f) (swaps n v fs)) ≡ length (up_to m n f fs)
up_to_swap m n v f fs = ap (λ (r : List ℕ). length (head m ++ (123 ∷ r))) (before_swap n v f fs)

module _ (s : List ℕ) (x y n o : ℕ) (a : MemberAt s x y n o) where
  unfoldable shape : Shape s
  shape = accepted s a.end x y a.ends a.array a.two a.object (not_none s y n a.there)

  object-is : y ≡ length (head shape.m)
  object-is = shape-place s shape x y a.two

  few : n ≤ length shape.fs
  few =
      let q : length (members s y) ≡ suc (length shape.fs) = ap (λ (k : ℕ). length (members s k)) object-is
      ∙ ap (λ (r : List ℕ). length (members r (length (head shape.m)))) shape.eq ∙ many shape.m shape.fine shape.f shape.fs shape.good in
      omega (arith, a.there)

  -- what stands before the value, the value, and what stands behind it
  unfoldable ahead : List ℕ
  ahead = up_to shape.m n shape.f shape.fs

  unfoldable old : List ℕ
  old = value_at n shape.f shape.fs

  unfoldable rest : List ℕ
  rest = beyond n shape.f shape.fs (tail shape.m)

  cut_at : s ≡ ahead ++ (old ++ rest)
  unfolding ahead old rest
  cut_at = shape.eq ∙ message-split shape.m shape.f shape.fs n few

  old-val : Val 6 old rest
  unfolding old rest
  old-val = value-val n 6 shape.f shape.fs (tail shape.m) shape.good few

  place_is : o ≡ length ahead
  unfolding ahead
  place_is =
      a.place ∙ ap (λ (k : ℕ). value_of s (get_or (members s k) n 0)) object-is
      ∙ ap (λ (r : List ℕ). value_of r (get_or (members r (length (head shape.m))) n 0)) shape.eq
      ∙ value_there shape.m shape.fine shape.f shape.fs shape.good n few

  drop_at : drop o s ≡ old ++ rest
  drop_at = ap (λ (k : ℕ). drop k s) place_is ∙ ap (drop (length ahead)) cut_at ∙ drop-append_seam ahead (old ++ rest)

  take_at : take o s ≡ ahead
  take_at = ap (λ (k : ℕ). take k s) place_is ∙ ap (take (length ahead)) cut_at ∙ take-append_seam ahead (old ++ rest)

  bytes-at : bytes s o ≡ old
  bytes-at = bytes-is s old rest o old-val.sized drop_at

  rest_at : drop (behind s o) s ≡ rest
  rest_at = ap (λ (k : ℕ). drop k s) (behind-is s old rest o old-val.sized drop_at) ∙ at-skip old rest s o drop_at

  members-are : map (spell s) (members s y) ≡ read_all (shape.f ∷ shape.fs)
  members-are = ap (λ (k : ℕ). map (spell s) (members s k)) object-is ∙ ap (λ (r : List ℕ). map (spell r) (members r (length (head shape.m)))) shape.eq
      ∙ message-members shape.m shape.fine shape.f shape.fs shape.good

  -- the text is its value and what stands around
  pub value-apart : s ≡ take o s ++ (bytes s o ++ drop (behind s o) s)
  value-apart = cut_at ∙ ap (λ (r : List ℕ). r ++ (old ++ rest)) (sym take_at) ∙ ap (λ (r : List ℕ). take o s ++ (r ++ rest)) (sym bytes-at)
      ∙ ap (λ (r : List ℕ). take o s ++ (bytes s o ++ r)) (sym rest_at)

  -- and what stands behind it begins with white space, a comma or a closing brace
  pub value-followed : Fronts (drop (behind s o) s)
  unfolding rest
  value-followed = subst Fronts (sym rest_at) (beyond-front n 6 shape.f shape.fs (tail shape.m) shape.good few)

  -- a value that begins with a quote or a bracket ends by itself, wherever it is copied to
  pub value-piece : Opener (get_or s o 0) → Piece 6 (bytes s o)
  value-piece b =
      let r = starts_with old rest s o (get_or s o 0) old-val.sized.starts drop_at refl in
      subst (Piece 6) (sym bytes-at) (val-piece 6 old rest old-val (subst Opened (sym r.1) b))

  tag_is : x ≡ length shape.m.w + 1 + length shape.m.i.w
  tag_is =
      let q : elements s (past s 0) ≡ (length shape.m.w + 1 + length shape.m.i.w) ∷ length (head shape.m) ∷ [] =
      ap (λ (r : List ℕ). elements r (past r 0)) shape.eq ∙ (message-at shape.m shape.fine shape.f shape.fs shape.good n few).two in
      let p : ◌≡◌ {A = List ℕ} (x ∷ (y ∷ [])) ((length shape.m.w + 1 + length shape.m.i.w) ∷ length (head shape.m) ∷ []) = sym a.two ∙ q in
      cc

  module _ (v : List ℕ) (p : Piece 6 v) where
    unfoldable anew : List ℕ
    anew = message shape.m (swap₁ n v shape.f) (swaps n v shape.fs)

    swapped-good : Fines (Val 6) Named (swap₁ n v shape.f) (swaps n v shape.fs)
    swapped-good = swap_fine n 6 v shape.f shape.fs shape.good p

    anew_is : anew ≡ ahead ++ (v ++ rest)
    unfolding anew ahead rest
    anew_is = message-swapped shape.m shape.f shape.fs n v few

    anew-at : MemberAt anew x y n o
    unfolding anew ahead
    anew-at =
        subst (λ (k : ℕ). MemberAt (message shape.m (swap₁ n v shape.f) (swaps n v shape.fs)) k y n o) (sym tag_is)
        (subst (λ (k : ℕ). MemberAt (message shape.m (swap₁ n v shape.f) (swaps n v shape.fs)) (length shape.m.w + 1 + length shape.m.i.w) k n o) (sym object-is)
        (subst (λ (k : ℕ). MemberAt (message shape.m (swap₁ n v shape.f) (swaps n v shape.fs)) (length shape.m.w + 1 + length shape.m.i.w)
        (length (head shape.m)) n k) (up_to_swap shape.m n v shape.f shape.fs ∙ sym place_is)
        (message-at shape.m shape.fine (swap₁ n v shape.f) (swaps n v shape.fs) swapped-good n (omega (arith, few, length-swaps n v shape.fs)))))

    anew-same : map (spell anew) (members anew y) ≡ swap_read n v (map (spell s) (members s y))
    unfolding anew
    anew-same = ap (λ (k : ℕ). map (spell (message shape.m (swap₁ n v shape.f) (swaps n v shape.fs)))
        (members (message shape.m (swap₁ n v shape.f) (swaps n v shape.fs)) k)) object-is
        ∙ message-members shape.m shape.fine (swap₁ n v shape.f) (swaps n v shape.fs) swapped-good ∙ swap_read_lem n v shape.f shape.fs
        ∙ ap (swap_read n v) (sym members-are)

    anew-tag : bytes anew x ≡ bytes s x
    unfolding anew
    anew-tag =
        ap (bytes (message shape.m (swap₁ n v shape.f) (swaps n v shape.fs))) tag_is
        ∙ message-tag shape.m shape.fine (swap₁ n v shape.f) (swaps n v shape.fs) swapped-good
        ∙ sym (ap (bytes s) tag_is ∙ ap (λ (r : List ℕ). bytes r (length shape.m.w + 1 + length shape.m.i.w)) shape.eq
        ∙ message-tag shape.m shape.fine shape.f shape.fs shape.good)

    anew-whole : answer anew ≡ Ok (length anew)
    unfolding anew
    anew-whole = message-accepted shape.m shape.fine (swap₁ n v shape.f) (swaps n v shape.fs) swapped-good

    -- THE LAW: v for the value, and all else as it was
    pub changing : Changed s (take o s ++ (v ++ drop (behind s o) s)) x y n o v
    changing =
        let e : take o s ++ (v ++ drop (behind s o) s) ≡ ahead ++ (v ++ rest) = ap (λ (r : List ℕ). r ++ (v ++ drop (behind s o) s)) take_at
        ∙ ap (λ (r : List ℕ). ahead ++ (v ++ r)) rest_at in
        let q : anew ≡ take o s ++ (v ++ drop (behind s o) s) = anew_is ∙ sym e in
        let d : drop o (take o s ++ (v ++ drop (behind s o) s)) ≡ v ++ rest = ap (λ (k : ℕ). drop k (take o s ++ (v ++ drop (behind s o) s))) place_is ∙ ap (drop (length ahead)) e
        ∙ drop-append_seam ahead (v ++ rest) in
        record {
          whole = subst (λ (r : List ℕ). answer r ≡ Ok (length r)) q anew-whole;
          again = subst (λ (r : List ℕ). MemberAt r x y n o) q anew-at;
          tag = subst (λ (r : List ℕ). bytes r x ≡ bytes s x) q anew-tag;
          outside = refl;
          same = subst (λ (r : List ℕ). map (spell r) (members r y) ≡ swap_read n v (map (spell s) (members s y))) q anew-same;
          there = bytes-is (take o s ++ (v ++ drop (behind s o) s)) v rest o (piece-sized 6 v rest p) d;
        }

-- Arrays of strings, arrays or objects.
abbrev pub AllOpen : List ℕ → List ℕ → Type 0
AllOpen s [] = Unit
AllOpen s (x ∷ xs) = Opener (get_or s x 0) × AllOpen s xs

-- v is such an array, and these are its elements
pub record Solidly (d : ℕ) (v : List ℕ) : Type 0 where
  pub i : Item
  pub is : List Item
  pub eq : v ≡ 91 ∷ items i is []
  pub solid : Solids d i is

opener_piece : (d : ℕ) (v t s : List ℕ) (x : ℕ) → Val d v t → drop x s ≡ v ++ t → Opener (get_or s x 0) → Piece d v
opener_piece d v t s x h e g = let r = starts_with v t s x (get_or s x 0) h.sized.starts e refl in val-piece d v t h (subst Opened (sym r.1) g)

all-solid : (N d : ℕ) (s : List ℕ) (a : ℕ) (i : Item) (is : List Item) (t : List ℕ) → Goods (Val d) i is → length is < N → drop a s ≡ items i is t → AllOpen s (elements_from N s a)
    → Solids d i is
unfolding elements_from items
all-solid zero d s a i is t h c e b = absurd (omega arith)
all-solid (suc N) d s a i [] t h c e b =
    let r = item-read (Val d) (λ v q x. x.sized) 93 s a i t h ws_93 e in
    record { before = h.before; piece = opener_piece d i.v _ s (past s a) (h.val t) r.start b.0; behind = h.behind }
all-solid (suc N) d s a i (j ∷ js) t h c e b =
    let r = item-read (Val d) (λ v q x. x.sized) 44 s a i (items j js t) h.0 ws_44 e in
    let y = follows s (past s a) in (
      record { before = h.0.before; piece = opener_piece d i.v _ s (past s a) (h.0.val (items j js t)) r.start b.0; behind = h.0.behind },
      all-solid N d s (y + 1) j js t h.1 (omega arith) (at_next 44 _ s y r.rest)
          (subst (AllOpen s) (more-on s (items j js t) (elements_from N s) (past s a) r.rest) b.1),
    )

full-array : (s r q : List ℕ) (o : ℕ) → drop o s ≡ (91 ∷ r) ++ q → (get_or s (past s (o + 1)) 0 ≡ 93 → ⊥) → (t : List ℕ) → (spaced r).t ≡ 93 ∷ t → ⊥
full-array s r q o e n t g =
    let p = spaced r in
    let d : drop (o + 1) s ≡ p.w ++ (93 ∷ (t ++ q)) = at_next 91 _ s o e ∙ ap (λ (z : List ℕ). z ++ q) (p.is ∙ ap (λ (z : List ℕ). p.w ++ z) g)
    ∙ append_assoc p.w (93 ∷ t) q in
    n (seen s p.w (t ++ q) (o + 1) 93 p.ws (inr ws_93) d)

pub solidly_as : (s r q : List ℕ) (o x : ℕ) (xs : List ℕ) → Piece 6 (91 ∷ r) → drop o s ≡ (91 ∷ r) ++ q → elements s o ≡ x ∷ xs → AllOpen s (elements s o) → Solidly 5 (91 ∷ r)
solidly_as s r q o x xs p e el b =
    let f = piece-array 6 r p (full-array s r q o e (not-empty s o x xs el)) in
    let e' : drop o s ≡ 91 ∷ items f.i f.is q = e ∙ ap (λ (y : List ℕ). 91 ∷ (y ++ q)) f.eq ∙ ap (λ (y : List ℕ). 91 ∷ y) (items-append f.i f.is q) in
    let k : AllOpen s (elements_from (length s) s (o + 1)) = subst (AllOpen s) (elements-at (Val 5) (λ v q x. x.sized) s o f.i f.is q f.good e') b in
    record {
      i = f.i;
      is = f.is;
      eq = ap (λ (y : List ℕ). 91 ∷ y) f.eq;
      solid = all-solid (length s) 5 s (o + 1) f.i f.is q f.good (array_long (Val 5) (λ v q x. x.sized) s o f.i f.is q f.good e') (at_next 91 _ s o e') k;
    }

solidly_of : (s v q : List ℕ) (o x : ℕ) (xs : List ℕ) → Val 6 v q → drop o s ≡ v ++ q → get_or s o 0 ≡ 91 → elements s o ≡ x ∷ xs → AllOpen s (elements s o) → Solidly 5 v
solidly_of s v q o x xs h e g el b =
    let r = starts_with v q s o 91 h.sized.starts e g in
    let p = val-piece 6 v q h (subst Opened (sym r.1) (inr (inl refl))) in
    subst (Solidly 5) (sym r.1) (solidly_as s r.0 q o x xs (subst (Piece 6) r.1 p) (e ∙ ap (λ (y : List ℕ). y ++ q) r.1) el b)

-- what is promised of a text with z added to the array that is member n's value
pub record Forwarded (s : List ℕ) (x y n o : ℕ) (z : List ℕ) : Type 0 where
  pub changed : Changed s (added s o z) x y n o (added (bytes s o) 0 z)
  pub more : map (bytes (added s o z)) (elements (added s o z) o) ≡ map (bytes s) (elements s o) ++ (z ∷ [])
  pub undone : removed (added s o z) o ≡ s

-- and with its last element taken off
pub record Reduced (s : List ℕ) (x y n o : ℕ) : Type 0 where
  pub changed : Changed s (removed s o) x y n o (removed (bytes s o) 0)
  pub less : map (bytes (removed s o)) (elements (removed s o) o) ≡ but_last (map (bytes s) (elements s o))

module _ (s : List ℕ) (x y n o : ℕ) (a : MemberAt s x y n o) where
  -- changed as it should be, and so at that text
  changed-to : (v s' : List ℕ) → Piece 6 v → s' ≡ ahead s x y n o a ++ (v ++ rest s x y n o a) → Changed s s' x y n o v
  changed-to v s' p e =
      let q : take o s ++ (v ++ drop (behind s o) s) ≡ s' = ap (λ (r : List ℕ). r ++ (v ++ drop (behind s o) s)) (take_at s x y n o a)
      ∙ ap (λ (r : List ℕ). ahead s x y n o a ++ (v ++ r)) (rest_at s x y n o a) ∙ sym e in
      subst (λ (r : List ℕ). Changed s r x y n o v) q (changing s x y n o a v p)

  module _ (i : Item) (is : List Item) (eq : old s x y n o a ≡ 91 ∷ items i is []) (h : Solids 5 i is) where
    text-is : s ≡ ahead s x y n o a ++ (91 ∷ items i is (rest s x y n o a))
    text-is = cut_at s x y n o a ∙ ap (λ (r : List ℕ). ahead s x y n o a ++ (r ++ rest s x y n o a)) eq
        ∙ ap (λ (r : List ℕ). ahead s x y n o a ++ (91 ∷ r)) (items-append i is (rest s x y n o a))

    there-is : drop o s ≡ 91 ∷ items i is (rest s x y n o a)
    there-is = drop_at s x y n o a ∙ ap (λ (r : List ℕ). r ++ rest s x y n o a) eq ∙ ap (λ (r : List ℕ). 91 ∷ r) (items-append i is (rest s x y n o a))

    elements-are : map (bytes s) (elements s o) ≡ values (i ∷ is)
    elements-are = array-read (Val 5) (λ v q x. x.sized) s o i is (rest s x y n o a) (solid-goods 5 i is h) there-is

    -- the elements of an edited text
    edited : (s' : List ℕ) (j : Item) (js : List Item) → Solids 5 j js → s' ≡ ahead s x y n o a ++ (91 ∷ items j js (rest s x y n o a))
        → map (bytes s') (elements s' o) ≡ values (j ∷ js)
    edited s' j js g e = array-read (Val 5) (λ v q x. x.sized) s' o j js (rest s x y n o a) (solid-goods 5 j js g)
        (ap (λ (k : ℕ). drop k s') (place_is s x y n o a) ∙ ap (drop (length (ahead s x y n o a))) e ∙ drop-append_seam (ahead s x y n o a) (91 ∷ items j js (rest s x y n o a)))

    forward : (z : List ℕ) → Piece 5 z → Forwarded s x y n o z
    forward z p =
        let g = grow-solid 5 i is z h p in
        let v : List ℕ = 91 ∷ items (grow₁ i is) (grow i is z) [] in
        let e₁ : added (bytes s o) 0 z ≡ v = ap (λ (r : List ℕ). added r 0 z) (bytes-at s x y n o a ∙ eq) ∙ added_is 5 [] i is [] h z in
        let e₂ : added s o z ≡ ahead s x y n o a ++ (91 ∷ items (grow₁ i is) (grow i is z) (rest s x y n o a)) = ap (λ (k : ℕ). added s k z) (place_is s x y n o a)
        ∙ ap (λ (r : List ℕ). added r (length (ahead s x y n o a)) z) text-is ∙ added_is 5 (ahead s x y n o a) i is (rest s x y n o a) h z in
        let e₃ : added s o z ≡ ahead s x y n o a ++ (v ++ rest s x y n o a) = e₂
        ∙ ap (λ (r : List ℕ). ahead s x y n o a ++ (91 ∷ r)) (sym (items-append (grow₁ i is) (grow i is z) (rest s x y n o a))) in
        record {
          changed = subst (λ (r : List ℕ). Changed s (added s o z) x y n o r) (sym e₁)
              (changed-to v (added s o z) (array-piece 5 (grow₁ i is) (grow i is z) (solid-goods 5 (grow₁ i is) (grow i is z) g)) e₃);
          more = edited (added s o z) (grow₁ i is) (grow i is z) g e₂ ∙ grow-values i is z ∙ ap (λ (l : List (List ℕ)). l ++ (z ∷ [])) (sym elements-are);
          undone = ap (λ (k : ℕ). removed (added s k z) k) (place_is s x y n o a)
              ∙ ap (λ (r : List ℕ). removed (added r (length (ahead s x y n o a)) z) (length (ahead s x y n o a))) text-is
              ∙ removed-added 5 (ahead s x y n o a) i is (rest s x y n o a) h z p ∙ sym text-is;
        }

  reduce : (i j : Item) (js : List Item) → old s x y n o a ≡ 91 ∷ items i (j ∷ js) [] → Solids 5 i (j ∷ js) → Reduced s x y n o
  reduce i j js eq h =
      let g = shrink-solid 5 i j js h in
      let v : List ℕ = 91 ∷ items (shrink₁ i j js) (shrink i j js) [] in
      let e₁ : removed (bytes s o) 0 ≡ v = ap (λ (r : List ℕ). removed r 0) (bytes-at s x y n o a ∙ eq) ∙ removed-is 5 [] i j js [] h in
      let e₂ : removed s o ≡ ahead s x y n o a ++ (91 ∷ items (shrink₁ i j js) (shrink i j js) (rest s x y n o a)) = ap (removed s) (place_is s x y n o a)
      ∙ ap (λ (r : List ℕ). removed r (length (ahead s x y n o a))) (text-is i (j ∷ js) eq h) ∙ removed-is 5 (ahead s x y n o a) i j js (rest s x y n o a) h in
      let e₃ : removed s o ≡ ahead s x y n o a ++ (v ++ rest s x y n o a) = e₂
      ∙ ap (λ (r : List ℕ). ahead s x y n o a ++ (91 ∷ r)) (sym (items-append (shrink₁ i j js) (shrink i j js) (rest s x y n o a))) in
      record {
        changed = subst (λ (r : List ℕ). Changed s (removed s o) x y n o r) (sym e₁)
            (changed-to v (removed s o) (array-piece 5 (shrink₁ i j js) (shrink i j js) (solid-goods 5 (shrink₁ i j js) (shrink i j js) g)) e₃);
        less = edited i (j ∷ js) eq h (removed s o) (shrink₁ i j js) (shrink i j js) g e₂ ∙ shrink-values i j js ∙ ap but_last (sym (elements-are i (j ∷ js) eq h));
      }

  reduce-by : (x₁ x₂ : ℕ) (xs : List ℕ) (i : Item) (is : List Item) → old s x y n o a ≡ 91 ∷ items i is [] → Solids 5 i is → elements s o ≡ x₁ ∷ (x₂ ∷ xs)
      → elements s o ≡ starts_at (o + 1) i is → Reduced s x y n o
  unfolding starts_at
  reduce-by x₁ x₂ xs i [] e h el k = let z : ◌≡◌ {A = ℕ} 0 1 = cc in absurd (omega arith)
  reduce-by x₁ x₂ xs i (j ∷ js) e h el k = reduce i j js e h

  -- ADDING: the value at o is an array of one or more strings, arrays or objects, and z another
  pub forwarding : (x₁ : ℕ) (xs z : List ℕ) → get_or s o 0 ≡ 91 → elements s o ≡ x₁ ∷ xs → AllOpen s (elements s o) → Piece 5 z → Forwarded s x y n o z
  forwarding x₁ xs z b el br p =
      let v = solidly_of s (old s x y n o a) (rest s x y n o a) o x₁ xs (old-val s x y n o a) (drop_at s x y n o a) b el br in
      forward v.i v.is v.eq v.solid z p

  -- TAKING OFF: it has two or more
  pub removing : (x₁ x₂ : ℕ) (xs : List ℕ) → get_or s o 0 ≡ 91 → elements s o ≡ x₁ ∷ (x₂ ∷ xs) → AllOpen s (elements s o) → Reduced s x y n o
  removing x₁ x₂ xs b el br =
      let v = solidly_of s (old s x y n o a) (rest s x y n o a) o x₁ (x₂ ∷ xs) (old-val s x y n o a) (drop_at s x y n o a) b el br in
      reduce-by x₁ x₂ xs v.i v.is v.eq v.solid el
      (array-starts (Val 5) (λ v q x. x.sized) s o v.i v.is (rest s x y n o a) (solid-goods 5 v.i v.is v.solid) (there-is v.i v.is v.eq v.solid))

  -- COPYING: that array, copied between p and q, has the same elements, byte for byte; and what is added to the copy is taken off again
  module _ (x₁ : ℕ) (xs : List ℕ) (b : get_or s o 0 ≡ 91) (el : elements s o ≡ x₁ ∷ xs) (br : AllOpen s (elements s o)) (p q : List ℕ) where
    solidly : Solidly 5 (old s x y n o a)
    solidly = solidly_of s (old s x y n o a) (rest s x y n o a) o x₁ xs (old-val s x y n o a) (drop_at s x y n o a) b el br

    copy_is : bytes s o ≡ 91 ∷ items solidly.i solidly.is []
    copy_is = bytes-at s x y n o a ∙ solidly.eq

    pub copied_elements : map (bytes (p ++ (bytes s o ++ q))) (elements (p ++ (bytes s o ++ q)) (length p)) ≡ map (bytes s) (elements s o)
    copied_elements =
        let e : p ++ (bytes s o ++ q) ≡ p ++ (91 ∷ items solidly.i solidly.is q) = ap (λ (r : List ℕ). p ++ (r ++ q)) copy_is
        ∙ ap (λ (r : List ℕ). p ++ (91 ∷ r)) (items-append solidly.i solidly.is q) in
        ap (λ (r : List ℕ). map (bytes r) (elements r (length p))) e ∙ array-elements 5 p solidly.i solidly.is q solidly.solid
        ∙ sym (elements-are solidly.i solidly.is solidly.eq solidly.solid)

    pub copied_undone : (z : List ℕ) → Piece 5 z → removed (p ++ (added (bytes s o) 0 z ++ q)) (length p) ≡ p ++ (bytes s o ++ q)
    copied_undone z g =
        ap (λ (r : List ℕ). removed (p ++ (added r 0 z ++ q)) (length p)) copy_is ∙ removed-framed 5 p q solidly.i solidly.is solidly.solid z g
        ∙ ap (λ (r : List ℕ). p ++ (r ++ q)) (sym copy_is)
