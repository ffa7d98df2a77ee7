-- UTF-8 over an edit: what is put in before an ASCII byte, or taken out between two, leaves good text good. Assumes nothing.
use Rattle.std.proofs.Common.{Ok}
use Prim.Native.Nat.{ℕ}
use Rattle.frame.proofs.ArrayEdits.{Solids, back, gap}
use Rattle.frame.proofs.MessageShape.{Fronts, blank-front}
use Rattle.json_text.proofs.Listing.{Blank, Item}
use Rattle.octets.proofs.ClassLaws.{all_append}
use Rattle.octets.specs.Class.{all}
use Rattle.utf8.proofs.Join.{join, cut, ascii-good}
use Rattle.utf8.specs.Rfc3629.{verdict}
use Rattle.writing.proofs.EntryLaws.{plain-path}
use Rattle.escapes.proofs.PlainLaws.{plain-ascii}
use Rattle.writing.specs.Adding.{entry, path_rule}
use lib.Dec.{leb}
use mathlib.Core.Bool.{Bool, true}
use mathlib.Core.List.{List, [], ◌∷◌, ◌++◌}
use mathlib.Core.Path.{◌≡◌, sym, ap, subst}
use native.Mathlib.Omega.{arith}

-- white space behind the last of these
back-blank : (d : ℕ) (i : Item) (is : List Item) → Solids d i is → Blank (back i is)
unfolding back
back-blank d i [] h = h.behind
back-blank d i (j ∷ js) h = back-blank d j js h.1

pub back-front : (d : ℕ) (i : Item) (is : List Item) (t : List ℕ) → Solids d i is → Fronts (back i is ++ (93 ∷ t))
back-front d i is t h = blank-front (back i is) 93 t (back-blank d i is h) (omega arith)

pub gap-front : (d : ℕ) (i j : Item) (js : List Item) → Solids d i (j ∷ js) → Fronts (gap i j js)
unfolding gap
gap-front d i j [] h = blank-front i.u 44 (j.w ++ j.v) h.0.behind (omega arith)
gap-front d i j (k ∷ ks) h = gap-front d j k ks h.1

cut-front : (a l : List ℕ) → Fronts l → verdict (a ++ l) ≡ Ok tt → (verdict a ≡ Ok tt) × (verdict l ≡ Ok tt)
cut-front a l f e =
    let r = cut f.b f.c f.low a (subst (λ (z : List ℕ). verdict (a ++ z) ≡ Ok tt) f.is e) in
    (r.0, subst (λ (z : List ℕ). verdict z ≡ Ok tt) (sym f.is) r.1)

pub utf_insert : (a x l : List ℕ) → Fronts l → verdict (a ++ l) ≡ Ok tt → verdict x ≡ Ok tt → verdict (a ++ (x ++ l)) ≡ Ok tt
utf_insert a x l f e g = let r = cut-front a l f e in join a (x ++ l) r.0 (join x l g r.1)

front-more : (g l : List ℕ) → Fronts g → Fronts (g ++ l)
front-more g l f = record { b = f.b; c = f.c ++ l; is = ap (λ (z : List ℕ). z ++ l) f.is; low = f.low }

pub utf-remove : (a g l : List ℕ) → Fronts g → Fronts l → verdict (a ++ (g ++ l)) ≡ Ok tt → verdict (a ++ l) ≡ Ok tt
utf-remove a g l f k e =
    let r = cut-front a (g ++ l) (front-more g l f) e in
    join a l r.0 (cut-front g l k r.1).1

-- a value between two ASCII bytes is good
pub utf-part : (a v l : List ℕ) → Fronts v → Fronts l → verdict (a ++ (v ++ l)) ≡ Ok tt → verdict v ≡ Ok tt
utf-part a v l f k e = (cut-front v l k (cut-front a (v ++ l) (front-more v l f) e).1).0

-- our entry is ASCII
abbrev low : ℕ → Bool
low b = leb b 0x7F

pub entry-good : (h d o : List ℕ) → path_rule h d o ≡ true → verdict (44 ∷ entry h d o) ≡ Ok tt
unfolding entry all
entry-good h d o k =
    let p = plain-path h d o k in
    ascii-good _ (rw (all_append low h, all_append low d, all_append low o, plain-ascii h p.0, plain-ascii d p.1.0, plain-ascii o p.1.1))
