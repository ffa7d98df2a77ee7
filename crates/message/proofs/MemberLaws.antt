-- The shape of an accepted message: an array of two, of which the second is an object, and where its fields stand (`field_where`). Assumes nothing.
use Rattle.octets.proofs.TestLaws.{and_parts}
use Prim.Native.Nat.{ℕ, ◌≤◌, ◌<◌}
use Rattle.json_text.specs.Places.{past, raw, members, elements, spell}
use Rattle.fields.proofs.GatherLaws.{spelled_few}
use Rattle.message.specs.Shape.{pair, tag_at, tag_of, object_of}
use Rattle.rules.specs.Names.{fields, tags}
use Rattle.values.specs.Value.{word_spelled}
use Rattle.message.proofs.AcceptedRows.{Accepted}
use Rattle.message.proofs.AlikeLaws.{field-there}
use Rattle.message.proofs.PairLaws.{doubled, Where, late-members, once_by, where_is}
use borrow.Author.Tests.{eq-eqb, eqb-true}
use lib.Dec.{eqb}
use lib.ListN.{get_or}
use mathlib.Core.Bool.{Bool, true, false, ◌&&◌, cond}
use mathlib.Core.List.{List, [], ◌∷◌, map}
use mathlib.Core.Path.{◌≡◌, refl, subst}
use native.Mathlib.Omega.{arith}

pub fields-few : (x : List ℕ) → word_spelled fields x < 27
fields-few x = spelled_few fields x

-- the shape of row 6
pub record Paired (s : List ℕ) (tag : ℕ) : Type 0 where
  pub x : ℕ
  pub y : ℕ
  pub array : get_or s (past s 0) 0 ≡ 91
  pub two : elements s (past s 0) ≡ x ∷ (y ∷ [])
  pub string : get_or s x 0 ≡ 34
  pub object : get_or s y 0 ≡ 123
  pub name : word_spelled tags (raw s x) ≡ tag
  pub at : object_of s ≡ y

picked : (b : Bool) (a tag : ℕ) → 1 ≤ tag → cond b a 0 ≡ tag → (b ≡ true) × (a ≡ tag)
picked true a tag h e = (refl, e)
picked false a tag h e = absurd (omega arith)

record Two (s es : List ℕ) (tag : ℕ) : Type 0 where
  x : ℕ
  y : ℕ
  two : es ≡ x ∷ (y ∷ [])
  tagged : tag_at s x y ≡ tag

two_of : (s es : List ℕ) (tag : ℕ) → 1 ≤ tag → pair es (tag_at s) ≡ tag → Two s es tag
two_of s [] tag h e = absurd (omega arith)
two_of s (x ∷ []) tag h e = absurd (omega arith)
two_of s (x ∷ y ∷ []) tag h e = record { x = x; y = y; two = refl; tagged = e }
two_of s (x ∷ y ∷ z ∷ zs) tag h e = absurd (omega arith)

tag-parts : (s : List ℕ) (x y tag : ℕ) → 1 ≤ tag → tag_at s x y ≡ tag → ((eqb (get_or s x 0) 34 && eqb (get_or s y 0) 123) ≡ true) × (word_spelled tags (raw s x) ≡ tag)
unfolding tag_at
tag-parts s x y tag h e = picked (eqb (get_or s x 0) 34 && eqb (get_or s y 0) 123) (word_spelled tags (raw s x)) tag h e

outer : (s : List ℕ) (tag : ℕ) → 1 ≤ tag → tag_of s ≡ tag → (eqb (get_or s (past s 0) 0) 91 ≡ true) × (pair (elements s (past s 0)) (tag_at s) ≡ tag)
unfolding tag_of
outer s tag h e = picked (eqb (get_or s (past s 0) 0) 91) (pair (elements s (past s 0)) (tag_at s)) tag h e

object-is : (s : List ℕ) (x y : ℕ) → elements s (past s 0) ≡ x ∷ (y ∷ []) → object_of s ≡ y
unfolding object_of
object-is s x y e = rw e

pub paired : (s : List ℕ) (tag : ℕ) → 1 ≤ tag → tag_of s ≡ tag → Paired s tag
paired s tag h e =
    let o = outer s tag h e in
    let w = two_of s (elements s (past s 0)) tag h o.1 in
    let p = tag-parts s w.x w.y tag h w.tagged in
    let q = and_parts (eqb (get_or s w.x 0) 34) (eqb (get_or s w.y 0) 123) p.0 in
    record {
      x = w.x;
      y = w.y;
      array = eqb-true _ 91 o.0;
      two = w.two;
      string = eqb-true _ 34 q.0;
      object = eqb-true _ 123 q.1;
      name = p.1;
      at = object-is s w.x w.y w.two;
    }

-- back
pub tag_of_lem : (s : List ℕ) (x y tag : ℕ) → get_or s (past s 0) 0 ≡ 91 → elements s (past s 0) ≡ x ∷ (y ∷ []) → get_or s x 0 ≡ 34 → get_or s y 0 ≡ 123
    → word_spelled tags (raw s x) ≡ tag
    → (tag_of s ≡ tag) × (object_of s ≡ y)
unfolding tag_of tag_at
tag_of_lem s x y tag a b c d e = (rw (eq-eqb _ 91 a, b, eq-eqb _ 34 c, eq-eqb _ 123 d, e), object-is s x y b)

-- its members, read
abbrev pub members_of : List ℕ → List (List ℕ × List ℕ)
members_of s = map (spell s) (members s (object_of s))

module _ {s : List ℕ} {tag : ℕ} {t : List ℕ} (a : Accepted s tag t) where
  pub pairs_once : doubled fields (members_of s) ≡ false
  pairs_once = once_by fields fields-few s (members s (object_of s)) (late-members s (object_of s)) a.once

  pub field_where : (k : ℕ) → 1 ≤ k → k ≤ 6 → Where fields s k (members s (object_of s)) (get_or t k 0)
  field_where k h g =
      subst (λ (l : List ℕ). Where fields s k (members s (object_of s)) (get_or l k 0)) a.places
      (where_is fields fields-few s (members s (object_of s)) k h pairs_once (rw a.places (field-there a k h g)))

  unfoldable pub via_where : Where fields s 6 (members s (object_of s)) (get_or t 6 0)
  via_where = field_where 6 (omega arith) (omega arith)

  pub shape : Paired s tag
  shape = paired s tag a.kind.0 a.tagged
