-- Via of an accepted message edited: our entry added (`entry-added`), the last object taken off (`entry-removed`). Assumes nothing.
use Rattle.std.proofs.Common.{Ok}
use Rattle.octets.proofs.TextLaws.{there}
use Prim.Native.Nat.{ℕ, ◌≤◌}
use Rattle.frame.proofs.ArrayEdits.{Solids, front, back, items-split, items-grow, grow, grow₁, grow-solid, grow-values, prior, gap, front-gap, items-shrink, shrink, shrink₁}
use Rattle.frame.proofs.ArrayEdits.{shrink-solid, shrink-values, but_last, array-elements, added_is, removed-is}
use Rattle.frame.proofs.Forwarding.{Forwarded, Reduced, value-apart, value-piece, forwarding, removing}
use Rattle.frame.proofs.Standing.{Piece}
use Rattle.frame.proofs.Written.{items-append}
use Rattle.frame.specs.Edit.{added, removed}
use Rattle.json_text.proofs.Listing.{Item, items, values}
use Rattle.json_text.specs.Places.{bytes, behind, elements}
use Rattle.fields.specs.Via.{via_rule}
use Rattle.utf8.specs.Rfc3629.{verdict}
use Rattle.message.proofs.AcceptedRows.{Accepted, good-sound, is-kept}
use Rattle.message.specs.Message.{first_setting}
use Rattle.message.proofs.AlikeLaws.{field-there}
use Rattle.message.proofs.AcceptedVia.{via-asked, via-keeps}
use Rattle.writing.proofs.ChangeLaws.{first_byte, Again, via-changed}
use Rattle.writing.proofs.EntryLaws.{entry-piece, entry-hop}
use Rattle.message.proofs.MemberLaws.{shape, via_where}
use Rattle.writing.proofs.StandingLaws.{via-member}
use Rattle.writing.proofs.ObjectLaws.{AllStand, array-stand, all_open, AllHops, hops-append, via-is, ViaItems, via-solid, solid-via}
use Rattle.writing.proofs.SeamLaws.{back-front, gap-front, utf_insert, utf-remove, entry-good}
use Rattle.writing.specs.Adding.{entry, path_rule}
use lib.ListN.{length, get_or, take, drop, length-map, length-append}
use lib.Seq.{length-take-le, drop-append_seam}
use mathlib.Core.Bool.{true}
use mathlib.Core.List.{List, [], ◌∷◌, ◌++◌, append_assoc, map}
use mathlib.Core.Logic.{inl, inr}
use mathlib.Core.Path.{◌≡◌, refl, sym, ap, subst, ◌∙◌}
use native.Mathlib.Omega.{arith}

hops-less : (xs : List (List ℕ)) → AllHops xs → AllHops (but_last xs)
hops-less [] h = tt
hops-less (x ∷ []) h = tt
hops-less (x ∷ (y ∷ ys)) h = (h.0, hops-less (y ∷ ys) h.1)

less-long : (xs : List (List ℕ)) → length (but_last xs) ≤ length xs
less-long [] = omega arith
less-long (x ∷ []) = omega arith
less-long (x ∷ (y ∷ ys)) = omega (arith, less-long (y ∷ ys))

module _ {s : List ℕ} {tag : ℕ} {t : List ℕ} (a : Accepted s tag t) where
  pub kept-via : via_rule (bytes s (get_or t 6 0)) ≡ true
  kept-via = sym (via-keeps (first_setting tag) (bytes s (get_or t 6 0)))
      ∙ is-kept (good-sound s true (first_setting tag) t a.fits) 6 (omega arith) (omega arith) (omega (arith, via-asked tag a.kind.0 a.kind.1))
      (field-there a 6 (omega arith) (omega arith))

  pub opens : get_or s (get_or t 6 0) 0 ≡ 91
  opens = first_byte s (get_or t 6 0) (behind s (get_or t 6 0)) 90 (via-is (bytes s (get_or t 6 0)) kept-via).array

  pub via-piece : Piece 6 (bytes s (get_or t 6 0))
  via-piece = value-piece s (shape a).x (shape a).y (via_where a).n (get_or t 6 0) (via-member a) (inr (inl opens))

  unfoldable pub via-array : ViaItems (bytes s (get_or t 6 0))
  via-array = via-solid (bytes s (get_or t 6 0)) via-piece kept-via

  -- before Via, and behind it
  abbrev ahead : List ℕ
  ahead = take (get_or t 6 0) s

  abbrev pub rest : List ℕ
  rest = drop (behind s (get_or t 6 0)) s

  ahead-long : length ahead ≡ get_or t 6 0
  ahead-long = length-take-le (get_or t 6 0) s (omega (arith, there s (get_or t 6 0) 90 opens))

  text-is : s ≡ ahead ++ (91 ∷ items via-array.i via-array.is rest)
  text-is =
      value-apart s (shape a).x (shape a).y (via_where a).n (get_or t 6 0) (via-member a)
      ∙ ap (λ (v : List ℕ). ahead ++ (v ++ rest)) via-array.eq ∙ ap (λ (l : List ℕ). ahead ++ (91 ∷ l)) (items-append via-array.i via-array.is rest)

  pub drop-is : drop (get_or t 6 0) s ≡ 91 ∷ items via-array.i via-array.is rest
  drop-is = ap (λ (n : ℕ). drop n s) (sym ahead-long) ∙ ap (drop (length ahead)) text-is ∙ drop-append_seam ahead (91 ∷ items via-array.i via-array.is rest)

  pub objects-are : map (bytes s) (elements s (get_or t 6 0)) ≡ values (via-array.i ∷ via-array.is)
  objects-are =
      ap (λ (l : List ℕ). map (bytes l) (elements l (get_or t 6 0))) text-is
      ∙ ap (λ (n : ℕ). map (bytes (ahead ++ (91 ∷ items via-array.i via-array.is rest))) (elements (ahead ++ (91 ∷ items via-array.i via-array.is rest)) n))
      (sym ahead-long)
      ∙ array-elements 5 ahead via-array.i via-array.is rest via-array.solid

  pub items-are : map (bytes (bytes s (get_or t 6 0))) (elements (bytes s (get_or t 6 0)) 0) ≡ values (via-array.i ∷ via-array.is)
  items-are = ap (λ (v : List ℕ). map (bytes v) (elements v 0)) via-array.eq ∙ array-elements 5 [] via-array.i via-array.is [] via-array.solid

  many-are : length (elements s (get_or t 6 0)) ≡ length (values (via-array.i ∷ via-array.is))
  many-are = sym (length-map (elements s (get_or t 6 0)) (bytes s)) ∙ ap length objects-are

  pub via-some : 1 ≤ length (elements s (get_or t 6 0))
  via-some = omega (arith, many-are)

  pub stand : AllStand 5 s (elements s (get_or t 6 0))
  stand = array-stand 5 s (get_or t 6 0) via-array.i via-array.is rest via-array.solid drop-is

  -- adding
  module _ (h d o : List ℕ) (k : path_rule h d o ≡ true) (few : length (elements s (get_or t 6 0)) ≡ 16 → ⊥) where
    forward-by : (es : List ℕ) → elements s (get_or t 6 0) ≡ es → Forwarded s (shape a).x (shape a).y (via_where a).n (get_or t 6 0) (entry h d o)
    forward-by [] e = absurd (omega (arith, ap length e, many-are))
    forward-by (x₁ ∷ xs) e = forwarding s (shape a).x (shape a).y (via_where a).n (get_or t 6 0) (via-member a) x₁ xs (entry h d o) opens e
        (all_open 5 s (elements s (get_or t 6 0)) stand) (entry-piece h d o k)

    pub forward-all : Forwarded s (shape a).x (shape a).y (via_where a).n (get_or t 6 0) (entry h d o)
    forward-all = forward-by (elements s (get_or t 6 0)) refl

    added-rule : via_rule (added (bytes s (get_or t 6 0)) 0 (entry h d o)) ≡ true
    added-rule =
        let i = via-array.i in
        let is = via-array.is in
        let z = entry h d o in
        let e : added (bytes s (get_or t 6 0)) 0 z ≡ 91 ∷ items (grow₁ i is) (grow i is z) [] = ap (λ (v : List ℕ). added v 0 z) via-array.eq
        ∙ added_is 5 [] i is [] via-array.solid z in
        let w = grow-values i is z in
        rw e (solid-via (grow₁ i is) (grow i is z) (grow-solid 5 i is z via-array.solid (entry-piece h d o k))
        (subst AllHops (sym w) (hops-append (values (i ∷ is)) z via-array.hops (entry-hop h d o k)))
        (omega (arith, ap length w, length-append (values (i ∷ is)) (z ∷ []), via-array.many, many-are, few)))

    added-text : added s (get_or t 6 0) (entry h d o) ≡ (ahead ++ (91 ∷ front via-array.i via-array.is))
        ++ ((44 ∷ entry h d o) ++ (back via-array.i via-array.is ++ (93 ∷ rest)))
    added-text =
        let i = via-array.i in
        let is = via-array.is in
        let z = entry h d o in
        ap (λ (n : ℕ). added s n z) (sym ahead-long) ∙ ap (λ (l : List ℕ). added l (length ahead) z) text-is ∙ added_is 5 ahead i is rest via-array.solid z
        ∙ ap (λ (l : List ℕ). ahead ++ (91 ∷ l)) (items-grow i is z rest) ∙ sym (append_assoc ahead (91 ∷ front i is) ((44 ∷ z) ++ (back i is ++ (93 ∷ rest))))

    old-text : s ≡ (ahead ++ (91 ∷ front via-array.i via-array.is)) ++ (back via-array.i via-array.is ++ (93 ∷ rest))
    old-text =
        let i = via-array.i in
        let is = via-array.is in
        text-is ∙ ap (λ (l : List ℕ). ahead ++ (91 ∷ l)) (items-split i is rest) ∙ sym (append_assoc ahead (91 ∷ front i is) (back i is ++ (93 ∷ rest)))

    added-good : verdict (added s (get_or t 6 0) (entry h d o)) ≡ Ok tt
    added-good =
        let i = via-array.i in
        let is = via-array.is in
        let f = ahead ++ (91 ∷ front i is) in
        let l = back i is ++ (93 ∷ rest) in
        let g : verdict (f ++ l) ≡ Ok tt = subst (λ (x : List ℕ). verdict x ≡ Ok tt) old-text a.utf in
        rw added-text (utf_insert f (44 ∷ entry h d o) l (back-front 5 i is rest via-array.solid) g (entry-good h d o k))

    -- THE LAW: the message with our entry is accepted again
    pub added-again : 1 ≤ length (added s (get_or t 6 0) (entry h d o)) → length (added s (get_or t 6 0) (entry h d o)) ≤ 32768
        → Again s tag t (added s (get_or t 6 0) (entry h d o))
    added-again x y = via-changed a (added s (get_or t 6 0) (entry h d o)) (added (bytes s (get_or t 6 0)) 0 (entry h d o)) forward-all.changed added-rule x y added-good

  -- taking off, where there are two or more
  module _ (two : 2 ≤ length (elements s (get_or t 6 0))) where
    reduce-by : (es : List ℕ) → elements s (get_or t 6 0) ≡ es → Reduced s (shape a).x (shape a).y (via_where a).n (get_or t 6 0)
    reduce-by [] e = absurd (omega (arith, ap length e))
    reduce-by (x₁ ∷ []) e = absurd (omega (arith, ap length e))
    reduce-by (x₁ ∷ (x₂ ∷ xs)) e = removing s (shape a).x (shape a).y (via_where a).n (get_or t 6 0) (via-member a) x₁ x₂ xs opens e
        (all_open 5 s (elements s (get_or t 6 0)) stand)

    pub reduce-all : Reduced s (shape a).x (shape a).y (via_where a).n (get_or t 6 0)
    reduce-all = reduce-by (elements s (get_or t 6 0)) refl

    module _ (i j : Item) (js : List Item) (e : bytes s (get_or t 6 0) ≡ 91 ∷ items i (j ∷ js) []) (h : Solids 5 i (j ∷ js)) (hops : AllHops (values (i ∷ j ∷ js)))
        (many : length (values (i ∷ j ∷ js)) ≤ 16) where
      removed-rule-by : via_rule (removed (bytes s (get_or t 6 0)) 0) ≡ true
      removed-rule-by =
          let w = shrink-values i j js in
          rw (ap (λ (v : List ℕ). removed v 0) e ∙ removed-is 5 [] i j js [] h)
          (solid-via (shrink₁ i j js) (shrink i j js) (shrink-solid 5 i j js h) (subst AllHops (sym w) (hops-less (values (i ∷ j ∷ js)) hops))
          (omega (arith, ap length w, less-long (values (i ∷ j ∷ js)), many)))

      text-by : s ≡ ahead ++ (91 ∷ items i (j ∷ js) rest)
      text-by =
          value-apart s (shape a).x (shape a).y (via_where a).n (get_or t 6 0) (via-member a)
          ∙ ap (λ (v : List ℕ). ahead ++ (v ++ rest)) e ∙ ap (λ (l : List ℕ). ahead ++ (91 ∷ l)) (items-append i (j ∷ js) rest)

      removed-good-by : verdict (removed s (get_or t 6 0)) ≡ Ok tt
      removed-good-by =
          let f = ahead ++ (91 ∷ prior i j js) in
          let l = back i (j ∷ js) ++ (93 ∷ rest) in
          let x : s ≡ f ++ (gap i j js ++ l) = text-by
          ∙ ap (λ (z : List ℕ). ahead ++ (91 ∷ z)) (items-split i (j ∷ js) rest ∙ ap (λ (z : List ℕ). z ++ l) (front-gap i j js) ∙ append_assoc (prior i j js) (gap i j js) l)
          ∙ sym (append_assoc ahead (91 ∷ prior i j js) (gap i j js ++ l)) in
          let y : removed s (get_or t 6 0) ≡ f ++ l = ap (removed s) (sym ahead-long) ∙ ap (λ (z : List ℕ). removed z (length ahead)) text-by ∙ removed-is 5 ahead i j js rest h
          ∙ ap (λ (z : List ℕ). ahead ++ (91 ∷ z)) (items-shrink i j js rest) ∙ sym (append_assoc ahead (91 ∷ prior i j js) l) in
          rw y (utf-remove f (gap i j js) l (gap-front 5 i j js h) (back-front 5 i (j ∷ js) rest h) (subst (λ (z : List ℕ). verdict z ≡ Ok tt) x a.utf))

    removed-by : (i : Item) (is : List Item) → bytes s (get_or t 6 0) ≡ 91 ∷ items i is [] → Solids 5 i is → AllHops (values (i ∷ is)) → length (values (i ∷ is)) ≤ 16
        → 2 ≤ length (values (i ∷ is)) → (via_rule (removed (bytes s (get_or t 6 0)) 0) ≡ true) × (verdict (removed s (get_or t 6 0)) ≡ Ok tt)
    removed-by i [] e h k m n = absurd (omega arith)
    removed-by i (j ∷ js) e h k m n = (removed-rule-by i j js e h k m, removed-good-by i j js e h k m)

    -- THE LAW: the message less its last object is accepted again
    pub removed-again : 1 ≤ length (removed s (get_or t 6 0)) → length (removed s (get_or t 6 0)) ≤ 32768 → Again s tag t (removed s (get_or t 6 0))
    removed-again x y =
        let r = removed-by via-array.i via-array.is via-array.eq via-array.solid via-array.hops via-array.many (omega (arith, many-are, two)) in
        via-changed a (removed s (get_or t 6 0)) (removed (bytes s (get_or t 6 0)) 0) reduce-all.changed r.0 x y r.1
