-- A compact object of given names and values, written into any text, has exactly those members with exactly those bytes (`compact-members`); it is a
-- piece (`compact-piece`), so it ends with its own brace, and a text that is an array of a tag and such an object is accepted (`tagged-accepted`).
-- Cited by `writing` for a reply and for our Via entry.
-- Assumes nothing.
use mathlib.Core.Path.{◌≡◌, refl, sym, ap, subst, ◌∙◌}
use mathlib.Core.Bool.{true}
use mathlib.Core.List.{List, [], ◌∷◌, ◌++◌, append_assoc, map}
use Prim.Native.Nat.{ℕ, ◌+◌}
use native.Mathlib.Omega.{arith}
use lib.ListN.{length, drop}
use Rattle.json_text.specs.inner.Machine.{text, answer, value, after}
use Rattle.json_text.specs.Places.{members, spell}
use Rattle.json_text.proofs.Listing.{Field, entry, body, Fine, Fines, Item, item, items, Goods, read_all, object-read}
use Rattle.frame.proofs.Standing.{Reach, Val, Piece, piece-val}
use Rattle.frame.proofs.Written.{Named, plainly, plain-name, in_quotes, text-piece, body-append, object-piece, array-goes, whole}
use Rattle.std.specs.Prelude.{Ok}

-- a name and a value
pub record Pair : Type 0 where
  pub name : List ℕ
  pub val : List ℕ

-- "name":value
unfoldable pub pair_text : Pair → List ℕ → List ℕ
pair_text p t = 34 ∷ (p.name ++ (34 ∷ (58 ∷ (p.val ++ t))))

-- the members p and ps with commas between them, the closing brace and t
unfoldable pub pairs_text : Pair → List Pair → List ℕ → List ℕ
pairs_text p [] t = pair_text p (125 ∷ t)
pairs_text p (q ∷ qs) t = pair_text p (44 ∷ pairs_text q qs t)

-- the object in front of t, with no white space
abbrev pub compact : Pair → List Pair → List ℕ → List ℕ
compact p ps t = 123 ∷ pairs_text p ps t

-- what is asked: a plain name, and a value that stands by itself, in which at most d levels open
pub record Sound (d : ℕ) (p : Pair) : Type 0 where
  pub named : plainly p.name ≡ true
  pub piece : Piece d p.val

abbrev pub Sounds : ℕ → Pair → List Pair → Type 0
Sounds d p [] = Sound d p
Sounds d p (q ∷ qs) = Sound d p × Sounds d q qs

-- a pair as it is read
abbrev pub told : Pair → List ℕ × List ℕ
told p = (p.name, p.val)

-- as a member with no white space
abbrev field_of : Pair → Field
field_of p = record { w = []; n = p.name; w₁ = []; w₂ = []; v = p.val; u = [] }

compact-is : (p : Pair) (ps : List Pair) (t : List ℕ) → pairs_text p ps t ≡ body (field_of p) (map field_of ps) t
unfolding pairs_text pair_text body entry
compact-is p [] t = refl
compact-is p (q ∷ qs) t = ap (λ (r : List ℕ). 34 ∷ (p.name ++ (34 ∷ (58 ∷ (p.val ++ (44 ∷ r)))))) (compact-is q qs t)

fine_of : (d b : ℕ) (p : Pair) → Sound d p → Fine (Val d) Named (field_of p) b
fine_of d b p h = record { before = tt; named = plain-name p.name h.named; before₁ = tt; before₂ = tt; val = λ t. piece-val d p.val (b ∷ t) h.piece; behind = tt }

fines_of : (d : ℕ) (p : Pair) (ps : List Pair) → Sounds d p ps → Fines (Val d) Named (field_of p) (map field_of ps)
fines_of d p [] h = fine_of d 125 p h
fines_of d p (q ∷ qs) h = (fine_of d 44 p h.0, fines_of d q qs h.1)

told-all : (p : Pair) (ps : List Pair) → read_all (field_of p ∷ map field_of ps) ≡ map told (p ∷ ps)
told-all p [] = refl
told-all p (q ∷ qs) = ap (λ (l : List (List ℕ × List ℕ)). told p ∷ l) (told-all q qs)

module _ (d : ℕ) (p : Pair) (ps : List Pair) (h : Sounds d p ps) where
  -- THE LAW: wherever it stands, its members are those written
  pub compact-members : (s t : List ℕ) (o : ℕ) → drop o s ≡ compact p ps t → map (spell s) (members s o) ≡ map told (p ∷ ps)
  compact-members s t o e = object-read (Val d) Named (λ v r x. x.sized) (λ n x. x.listed) s o (field_of p) (map field_of ps) t (fines_of d p ps h)
      (e ∙ ap (λ (r : List ℕ). 123 ∷ r) (compact-is p ps t)) ∙ told-all p ps

  -- and it stands by itself
  pub compact-piece : Piece (d + 1) (compact p ps [])
  compact-piece = subst (λ (r : List ℕ). Piece (d + 1) (123 ∷ r)) (sym (compact-is p ps [])) (object-piece d (field_of p) (map field_of ps) (fines_of d p ps h))

  pub compact-append : (t : List ℕ) → compact p ps [] ++ t ≡ compact p ps t
  compact-append t = ap (λ (r : List ℕ). 123 ∷ (r ++ t)) (compact-is p ps [])
      ∙ ap (λ (r : List ℕ). 123 ∷ r) (body-append (field_of p) (map field_of ps) t ∙ sym (compact-is p ps t))

-- An array of a tag and an object, as every message is.
unfoldable pub tagged : List ℕ → Pair → List Pair → List ℕ
tagged tag p ps = 91 ∷ (34 ∷ (tag ++ (34 ∷ (44 ∷ compact p ps (93 ∷ [])))))

module _ (tag : List ℕ) (p : Pair) (ps : List Pair) (ht : plainly tag ≡ true) (h : Sounds 6 p ps) where
  tag_item : Item
  tag_item = record { w = []; v = in_quotes tag; u = [] }

  object_item : Item
  object_item = record { w = []; v = compact p ps []; u = [] }

  tagged-items : tagged tag p ps ≡ 91 ∷ items tag_item (object_item ∷ []) []
  unfolding tagged items item tag_item object_item
  tagged-items = ap (λ (r : List ℕ). 91 ∷ (34 ∷ (tag ++ (34 ∷ (44 ∷ r))))) (sym (compact-append 6 p ps h (93 ∷ [])))
      ∙ ap (λ (r : List ℕ). 91 ∷ (34 ∷ r)) (sym (append_assoc tag (34 ∷ []) (44 ∷ (compact p ps [] ++ (93 ∷ [])))))

  both-good : Goods (Val 7) tag_item (object_item ∷ [])
  unfolding tag_item object_item
  both-good = (
    record { before = tt; val = λ t. piece-val 7 (in_quotes tag) (44 ∷ t) (text-piece 7 tag ht); behind = tt },
    record { before = tt; val = λ t. piece-val 7 (compact p ps []) (93 ∷ t) (compact-piece 6 p ps h); behind = tt },
  )

  -- it is accepted
  pub tagged-accepted : answer (tagged tag p ps) ≡ Ok (length (tagged tag p ps))
  tagged-accepted = whole (tagged tag p ps)
      (subst (λ (s : List ℕ). Reach s value (text 8) [] after (text 8)) (sym tagged-items) (array-goes 7 tag_item (object_item ∷ []) [] (text 8) both-good (omega arith)))
