-- An element added behind an array's last, and the last taken off: what the text is then, byte for byte (`added_is`, `removed-is`), what its elements are
-- (`grown-elements`, `less-elements`), and that taking off undoes adding (`removed-added`). The array may stand in any text (`added-framed`,
-- `removed-framed`: editing it there is editing it by itself). Its elements are strings, arrays or objects (`Solids`), which end by themselves.
-- Cited by `writing` for our Via entry; Forwarding puts it into a whole message. Assumes nothing.
use Rattle.json_text.proofs.PlaceLaws.{last_one, prev_two}
use mathlib.Core.Path.{◌≡◌, refl, sym, ap, ◌∙◌}
use mathlib.Core.List.{List, [], ◌∷◌, ◌++◌, append_assoc, map}
use Prim.Native.Nat.{ℕ, ◌+◌}
use native.Mathlib.Omega.{arith}
use lib.ListN.{length, take, drop, length-append}
use lib.Seq.{drop-append_seam, take-append_seam, drop-append-add}
use Rattle.json_text.specs.Places.{elements, bytes, last_of, prev_of}
use Rattle.json_text.proofs.Listing.{Blank, Item, item, items, Good, Goods, values, stops_at, array-read, array-stops}
use Rattle.frame.specs.Edit.{added, removed, stops_of}
use Rattle.frame.proofs.Standing.{Val, Piece, piece-val}
use Rattle.frame.proofs.Written.{items-append}

-- up to the end of the last element, and the white space behind it
unfoldable pub front : Item → List Item → List ℕ
front i [] = i.w ++ i.v
front i (j ∷ js) = i.w ++ (i.v ++ (i.u ++ (44 ∷ front j js)))

unfoldable pub back : Item → List Item → List ℕ
back i [] = i.u
back i (j ∷ js) = back j js

pub items-split : (i : Item) (is : List Item) (t : List ℕ) → items i is t ≡ front i is ++ (back i is ++ (93 ∷ t))
unfolding items item front back
items-split i [] t = simp append_assoc
items-split i (j ∷ js) t = simp (append_assoc, items-split j js t)

-- the elements with x behind the last
unfoldable pub grow₁ : Item → List Item → Item
grow₁ i [] = record { w = i.w; v = i.v; u = [] }
grow₁ i (j ∷ js) = i

unfoldable pub grow : Item → List Item → List ℕ → List Item
grow i [] x = record { w = []; v = x; u = i.u } ∷ []
grow i (j ∷ js) x = grow₁ j js ∷ grow j js x

pub items-grow : (i : Item) (is : List Item) (x t : List ℕ) → items (grow₁ i is) (grow i is x) t ≡ front i is ++ (44 ∷ (x ++ (back i is ++ (93 ∷ t))))
unfolding items item front back grow₁ grow
items-grow i [] x t = simp append_assoc
items-grow i (j ∷ js) x t = simp (append_assoc, items-grow j js x t)

-- elements that end by themselves: strings, arrays, objects
pub record Solid (d : ℕ) (i : Item) : Type 0 where
  pub before : Blank i.w
  pub piece : Piece d i.v
  pub behind : Blank i.u

abbrev pub Solids : ℕ → Item → List Item → Type 0
Solids d i [] = Solid d i
Solids d i (j ∷ js) = Solid d i × Solids d j js

solid-good : (d b : ℕ) (i : Item) → Solid d i → Good (Val d) i b
solid-good d b i h = record { before = h.before; val = λ t. piece-val d i.v (i.u ++ (b ∷ t)) h.piece; behind = h.behind }

pub solid-goods : (d : ℕ) (i : Item) (is : List Item) → Solids d i is → Goods (Val d) i is
solid-goods d i [] h = solid-good d 93 i h
solid-goods d i (j ∷ js) h = (solid-good d 44 i h.0, solid-goods d j js h.1)

pub grow-solid : (d : ℕ) (i : Item) (is : List Item) (x : List ℕ) → Solids d i is → Piece d x → Solids d (grow₁ i is) (grow i is x)
unfolding grow₁ grow
grow-solid d i [] x h g = (record { before = h.before; piece = h.piece; behind = tt }, record { before = tt; piece = g; behind = h.behind })
grow-solid d i (j ∷ js) x h g = (h.0, grow-solid d j js x h.1 g)

-- the values are the old ones and the new one
pub grow-values : (i : Item) (is : List Item) (x : List ℕ) → values (grow₁ i is ∷ grow i is x) ≡ values (i ∷ is) ++ (x ∷ [])
unfolding grow₁ grow
grow-values i [] x = refl
grow-values i (j ∷ js) x = ap (λ (l : List (List ℕ)). i.v ∷ l) (grow-values j js x)

-- where they end
last-skip : (x b : ℕ) (j : Item) (js : List Item) → last_of (x ∷ stops_at b j js) ≡ last_of (stops_at b j js)
unfolding last_of stops_at
last-skip x b j [] = refl
last-skip x b j (l ∷ ls) = refl

stops-last : (a : ℕ) (i : Item) (is : List Item) → last_of (stops_at a i is) ≡ a + length (front i is)
unfolding stops_at front
stops-last a i [] = last_one (a + length i.w + length i.v) ∙ simp length-append (omega arith)
stops-last a i (j ∷ js) = last-skip _ _ j js ∙ stops-last (a + length i.w + length i.v + length i.u + 1) j js ∙ simp length-append (omega arith)

last_snoc : (l : List ℕ) (z : ℕ) → last_of (l ++ (z ∷ [])) ≡ z
unfolding last_of
last_snoc [] z = refl
last_snoc (x ∷ []) z = refl
last_snoc (x ∷ (y ∷ ys)) z = last_snoc (y ∷ ys) z

prev_snoc : (l : List ℕ) (z : ℕ) → prev_of (l ++ (z ∷ [])) ≡ last_of l
unfolding last_of prev_of
prev_snoc [] z = refl
prev_snoc (x ∷ []) z = refl
prev_snoc (x ∷ (y ∷ [])) z = refl
prev_snoc (x ∷ (y ∷ (w ∷ ws))) z = prev_snoc (y ∷ (w ∷ ws)) z

stops-grow : (a : ℕ) (i : Item) (is : List Item) (x : List ℕ) → stops_at a (grow₁ i is) (grow i is x) ≡ stops_at a i is ++ ((a + length (front i is) + 1 + length x) ∷ [])
unfolding stops_at grow₁ grow front
stops-grow a i [] x = ap (λ (n : ℕ). (a + length i.w + length i.v) ∷ (n ∷ [])) (simp length-append (omega arith))
stops-grow a i (j ∷ js) x = ap (λ (l : List ℕ). (a + length i.w + length i.v) ∷ l)
    (stops-grow (a + length i.w + length i.v + length i.u + 1) j js x
    ∙ ap (λ (n : ℕ). stops_at (a + length i.w + length i.v + length i.u + 1) j js ++ (n ∷ [])) (simp length-append (omega arith)))

-- byte edits at a seam
put_in : (f b y : List ℕ) (e : ℕ) → e ≡ length f → take e (f ++ b) ++ (y ++ drop e (f ++ b)) ≡ f ++ (y ++ b)
put_in f b y e h = rw (h, take-append_seam f b, drop-append_seam f b)

take_out : (f y b : List ℕ) (e e' : ℕ) → e ≡ length f → e' ≡ length f + length y → take e (f ++ (y ++ b)) ++ drop e' (f ++ (y ++ b)) ≡ f ++ b
take_out f y b e e' h h' = rw (h, h', take-append_seam f (y ++ b), drop-append-add f (y ++ b) (length y), drop-append_seam y b)

-- The array at the end of p.
module _ (d : ℕ) (p : List ℕ) (i : Item) (is : List Item) (t : List ℕ) (h : Solids d i is) where
  stops-are : stops_of (p ++ (91 ∷ items i is t)) (length p) ≡ stops_at (length p + 1) i is
  unfolding stops_of
  stops-are = array-stops (Val d) (λ v r x. x.sized) (p ++ (91 ∷ items i is t)) (length p) i is t (solid-goods d i is h) (drop-append_seam p (91 ∷ items i is t))

  pub array-elements : map (bytes (p ++ (91 ∷ items i is t))) (elements (p ++ (91 ∷ items i is t)) (length p)) ≡ values (i ∷ is)
  array-elements = array-read (Val d) (λ v r x. x.sized) (p ++ (91 ∷ items i is t)) (length p) i is t (solid-goods d i is h) (drop-append_seam p (91 ∷ items i is t))

  last-is : last_of (stops_of (p ++ (91 ∷ items i is t)) (length p)) ≡ length (p ++ (91 ∷ front i is))
  last-is = ap last_of stops-are ∙ stops-last (length p + 1) i is ∙ simp length-append (omega arith)

  array-split : p ++ (91 ∷ items i is t) ≡ (p ++ (91 ∷ front i is)) ++ (back i is ++ (93 ∷ t))
  array-split = simp (append_assoc, items-split i is t)

  -- adding: x stands behind the last element, all else keeps its bytes
  pub added_is : (x : List ℕ) → added (p ++ (91 ∷ items i is t)) (length p) x ≡ p ++ (91 ∷ items (grow₁ i is) (grow i is x) t)
  unfolding added
  added_is x =
      let e = last-is in
      rw (array-split) (put_in (p ++ (91 ∷ front i is)) (back i is ++ (93 ∷ t)) (44 ∷ x) _ (ap (λ (s : List ℕ). last_of (stops_of s (length p))) (sym array-split) ∙ e)
      ∙ simp (append_assoc, items-grow i is x t))

  grown_split : (x : List ℕ) → p ++ (91 ∷ items (grow₁ i is) (grow i is x) t) ≡ (p ++ (91 ∷ front i is)) ++ ((44 ∷ x) ++ (back i is ++ (93 ∷ t)))
  grown_split x = simp (append_assoc, items-grow i is x t)

module _ (d : ℕ) (p : List ℕ) (i : Item) (is : List Item) (t : List ℕ) (h : Solids d i is) (x : List ℕ) (g : Piece d x) where
  grown_stops : stops_of (p ++ (91 ∷ items (grow₁ i is) (grow i is x) t)) (length p) ≡ stops_at (length p + 1) i is ++ ((length p + 1 + length (front i is) + 1 + length x) ∷ [])
  grown_stops = stops-are d p (grow₁ i is) (grow i is x) t (grow-solid d i is x h g) ∙ stops-grow (length p + 1) i is x

  -- and taking it off restores the text
  pub removed-added : removed (added (p ++ (91 ∷ items i is t)) (length p) x) (length p) ≡ p ++ (91 ∷ items i is t)
  unfolding removed
  removed-added =
      let s' = p ++ (91 ∷ items (grow₁ i is) (grow i is x) t) in
      let f = p ++ (91 ∷ front i is) in
      let e₂ : prev_of (stops_of s' (length p)) ≡ length f = ap prev_of grown_stops ∙ prev_snoc _ _ ∙ stops-last (length p + 1) i is ∙ simp length-append (omega arith) in
      let e₁ : last_of (stops_of s' (length p)) ≡ length f + length (44 ∷ x) = ap last_of grown_stops
      ∙ last_snoc (stops_at (length p + 1) i is) (length p + 1 + length (front i is) + 1 + length x) ∙ simp length-append (omega arith) in
      rw (added_is d p i is t h x) (ap (λ (r : List ℕ). take (prev_of (stops_of s' (length p))) r ++ drop (last_of (stops_of s' (length p))) r) (grown_split d p i is t h x)
      ∙ take_out f (44 ∷ x) (back i is ++ (93 ∷ t)) _ _ e₂ e₁ ∙ sym (array-split d p i is t h))

-- In any text around it: a and b stand for the rest of a message or of a reply.
module _ (d : ℕ) (a b : List ℕ) (i : Item) (is : List Item) (h : Solids d i is) (x : List ℕ) (g : Piece d x) where
  framed : (j : Item) (js : List Item) → a ++ ((91 ∷ items j js []) ++ b) ≡ a ++ (91 ∷ items j js b)
  framed j js = ap (λ (r : List ℕ). a ++ (91 ∷ r)) (items-append j js b)

  -- adding to the array is adding to the text around it
  pub added-framed : a ++ (added (91 ∷ items i is []) 0 x ++ b) ≡ added (a ++ ((91 ∷ items i is []) ++ b)) (length a) x
  added-framed = ap (λ (r : List ℕ). a ++ (r ++ b)) (added_is d [] i is [] h x) ∙ framed (grow₁ i is) (grow i is x) ∙ sym (added_is d a i is b h x)
      ∙ ap (λ (r : List ℕ). added r (length a) x) (sym (framed i is))

  -- and what was added to the array is taken off the text
  pub removed-framed : removed (a ++ (added (91 ∷ items i is []) 0 x ++ b)) (length a) ≡ a ++ ((91 ∷ items i is []) ++ b)
  removed-framed = ap (λ (r : List ℕ). removed r (length a)) (added-framed ∙ ap (λ (r : List ℕ). added r (length a) x) (framed i is)) ∙ removed-added d a i is b h x g
      ∙ sym (framed i is)

-- Taking the last element off, of two or more: i, j and js. Up to the end of the last but one; from there to the end of the last; and what is left.
unfoldable pub prior : Item → Item → List Item → List ℕ
prior i j [] = i.w ++ i.v
prior i j (k ∷ ks) = i.w ++ (i.v ++ (i.u ++ (44 ∷ prior j k ks)))

unfoldable pub gap : Item → Item → List Item → List ℕ
gap i j [] = i.u ++ (44 ∷ (j.w ++ j.v))
gap i j (k ∷ ks) = gap j k ks

unfoldable pub shrink₁ : Item → Item → List Item → Item
shrink₁ i j [] = record { w = i.w; v = i.v; u = j.u }
shrink₁ i j (k ∷ ks) = i

unfoldable pub shrink : Item → Item → List Item → List Item
shrink i j [] = []
shrink i j (k ∷ ks) = shrink₁ j k ks ∷ shrink j k ks

pub front-gap : (i j : Item) (js : List Item) → front i (j ∷ js) ≡ prior i j js ++ gap i j js
unfolding front prior gap
front-gap i j [] = simp append_assoc
front-gap i j (k ∷ ks) = simp (append_assoc, ← front-gap j k ks)

pub items-shrink : (i j : Item) (js : List Item) (t : List ℕ) → items (shrink₁ i j js) (shrink i j js) t ≡ prior i j js ++ (back i (j ∷ js) ++ (93 ∷ t))
unfolding items item prior back shrink₁ shrink
items-shrink i j [] t = simp append_assoc
items-shrink i j (k ∷ ks) t = simp (append_assoc, items-shrink j k ks t)

pub shrink-solid : (d : ℕ) (i j : Item) (js : List Item) → Solids d i (j ∷ js) → Solids d (shrink₁ i j js) (shrink i j js)
unfolding shrink₁ shrink
shrink-solid d i j [] h = record { before = h.0.before; piece = h.0.piece; behind = h.1.behind }
shrink-solid d i j (k ∷ ks) h = (h.0, shrink-solid d j k ks h.1)

-- all but the last
abbrev pub but_last : List (List ℕ) → List (List ℕ)
but_last [] = []
but_last (x ∷ []) = []
but_last (x ∷ (y ∷ ys)) = x ∷ but_last (y ∷ ys)

pub shrink-values : (i j : Item) (js : List Item) → values (shrink₁ i j js ∷ shrink i j js) ≡ but_last (values (i ∷ j ∷ js))
unfolding shrink₁ shrink
shrink-values i j [] = refl
shrink-values i j (k ∷ ks) = ap (λ (l : List (List ℕ)). i.v ∷ l) (shrink-values j k ks)

prev_skip : (x b : ℕ) (j k : Item) (ks : List Item) → prev_of (x ∷ stops_at b j (k ∷ ks)) ≡ prev_of (stops_at b j (k ∷ ks))
unfolding prev_of stops_at
prev_skip x b j k [] = refl
prev_skip x b j k (l ∷ ls) = refl

stops-prior : (a : ℕ) (i j : Item) (js : List Item) → prev_of (stops_at a i (j ∷ js)) ≡ a + length (prior i j js)
unfolding stops_at prior
stops-prior a i j [] = prev_two _ _ ∙ simp length-append (omega arith)
stops-prior a i j (k ∷ ks) = prev_skip _ _ j k ks ∙ stops-prior (a + length i.w + length i.v + length i.u + 1) j k ks ∙ simp length-append (omega arith)

module _ (d : ℕ) (p : List ℕ) (i j : Item) (js : List Item) (t : List ℕ) (h : Solids d i (j ∷ js)) where
  -- taking off: the last element goes, with what stands between it and the one before
  pub removed-is : removed (p ++ (91 ∷ items i (j ∷ js) t)) (length p) ≡ p ++ (91 ∷ items (shrink₁ i j js) (shrink i j js) t)
  unfolding removed
  removed-is =
      let s = p ++ (91 ∷ items i (j ∷ js) t) in
      let f = p ++ (91 ∷ prior i j js) in
      let q = stops-are d p i (j ∷ js) t h in
      let e₂ : prev_of (stops_of s (length p)) ≡ length f = ap prev_of q ∙ stops-prior (length p + 1) i j js ∙ simp length-append (omega arith) in
      let e₁ : last_of (stops_of s (length p)) ≡ length f + length (gap i j js) = ap last_of q ∙ stops-last (length p + 1) i (j ∷ js)
      ∙ ap (λ (x : List ℕ). length p + 1 + length x) (front-gap i j js) ∙ simp length-append (omega arith) in
      let c : s ≡ f ++ (gap i j js ++ (back i (j ∷ js) ++ (93 ∷ t))) = array-split d p i (j ∷ js) t h
      ∙ ap (λ (x : List ℕ). (p ++ (91 ∷ x)) ++ (back i (j ∷ js) ++ (93 ∷ t))) (front-gap i j js) ∙ simp append_assoc in
      ap (λ (r : List ℕ). take (prev_of (stops_of s (length p))) r ++ drop (last_of (stops_of s (length p))) r) c ∙ take_out f (gap i j js) (back i (j ∷ js) ++ (93 ∷ t)) _ _ e₂ e₁
      ∙ simp (append_assoc, items-shrink i j js t)
