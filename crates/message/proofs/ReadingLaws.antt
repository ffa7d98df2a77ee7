-- The rows of the reading, one law for each way that the code goes. Assumes nothing.
use Rattle.message.specs.inner.Shaping.{Shaped, gathered}
use Rattle.fields.specs.inner.Gathering.{Gathered}
use Prim.Native.Nat.{ℕ, ◌≤◌, ◌<◌}
use Rattle.message.specs.Reading.{judged, known, shaped, on_utf8, reading, reporting, uncounted}
use Rattle.fields.specs.Known.{empty, repeated}
use Rattle.json_text.specs.Places.{members}
use Rattle.message.specs.Refusal.{Reading}
use Rattle.message.specs.Shape.{tag_of}
use Rattle.message.specs.declared.refusals.Refusal.{Refusal}
use Rattle.std.specs.Prelude.{ok_or, MatchOption, Option, Some, None, Result, Ok, Err}
use Rattle.message.specs.declared.shapes.Shape.{Shape as Found}
use lib.Dec.{ltb}
use mathlib.Core.Bool.{Bool, true, false, cond}
use Rattle.message.specs.declared.refusals.Refusal.TheVariants.{Length, Shape, Twice}
use Rattle.message.specs.declared.reading.Report.{Report}
use Rattle.rules.specs.Names.{fields}
use Rattle.utf8.specs.Rfc3629.{verdict}
use borrow.Author.Tests.{ne_eqb, lt-ltb, le-leb, lt-leb}
use lib.ListN.{length}
use mathlib.Core.List.{List}
use mathlib.Core.Path.{◌≡◌, refl, subst, ap, ◌∙◌}
use native.Mathlib.Omega.{arith}

module _ (c : ℕ) (s : List ℕ) where
  pub too_short : length s ≡ 0 → uncounted Length ≡ reporting c s
  unfolding reporting
  too_short e = rw (lt-leb 1 (length s) (omega arith))

  pub too_long : 32768 < length s → uncounted Length ≡ reporting c s
  unfolding reporting
  too_long h = rw (le-leb 1 (length s) (omega arith), lt-leb (length s) 32768 h)

  pub in_bounds : (length s ≡ 0 → ⊥) → length s ≤ 32768 → reporting c s ≡ on_utf8 c s (verdict s)
  unfolding reporting
  in_bounds e h = rw (le-leb 1 (length s) (omega arith), le-leb (length s) 32768 h)

  -- what is reported, the count aside
  pub read_of : {r : Report} → r ≡ reporting c s → r.reading ≡ reading c s
  unfolding reading
  read_of e = ap (λ (x : Report). x.reading) e

module _ (s : List ℕ) where
  -- what is found of the shape
  module _ (r : Option Found) (found : MatchOption r (tag_of s ≡ 0) (λ f. (0 < f.tag) × Shaped s f.tag f.object)) where
    pub no-shape : {e : Refusal} → Err e ≡ ok_or r Shape → Err e ≡ shaped s
    unfolding shaped
    no-shape {e} q = by r found q
      where
        by : (r : Option Found) → MatchOption r (tag_of s ≡ 0) (λ f. (0 < f.tag) × Shaped s f.tag f.object) → Err e ≡ ok_or r Shape → Err e ≡ shaped s
        by None z p = rw z (let y : e ≡ Shape = cc in ap Err y)
        by (Some f) z p = cc

    pub a-shape : {f : Found} → Ok f ≡ ok_or r Shape → (0 < f.tag) × Shaped s f.tag f.object
    a-shape {f} q = by r found q
      where
        by : (r : Option Found) → MatchOption r (tag_of s ≡ 0) (λ g. (0 < g.tag) × Shaped s g.tag g.object) → Ok f ≡ ok_or r Shape → (0 < f.tag) × Shaped s f.tag f.object
        by None z p = cc
        by (Some g) z p = subst (λ (h : Found). (0 < h.tag) × Shaped s h.tag h.object) (let y : g ≡ f = cc in y) z

  -- what is gathered
  module _ {o : ℕ} {at : List ℕ} where
    pub each-gathered : Gathered fields s o 0 at → Ok at ≡ gathered s o
    unfolding gathered
    each-gathered g = rw (← g.first) (ap Ok (g.all refl))

    pub not-gathered : {q : ℕ} → 0 < q → Gathered fields s o q at → Err (Twice q) ≡ gathered s o
    unfolding gathered
    not-gathered {q} h g = rw (← g.first, lt-ltb 0 q h)

  module _ {tag object : ℕ} (some : 0 < tag) (f : Shaped s tag object) where
    on : known s tag (members s object) ≡ shaped s
    unfolding shaped
    on = rw (← f.is, ne_eqb tag 0 (λ z. omega arith), ← f.opens)

    pub name_twice : {e : Refusal} → Err e ≡ gathered s object → Err e ≡ shaped s
    unfolding gathered known
    name_twice {e} g = by (ltb 0 (repeated fields s empty (members s object))) _ _ _ g ∙ on
      where
        by : (b : Bool) (w : Refusal) (n : List ℕ) (r : Reading) → ◌≡◌ {A = Result (List ℕ) Refusal} (Err e) (cond b (Err w) (Ok n))
            → ◌≡◌ {A = Reading} (Err e) (cond b (Err w) r)
        by true w n r h = cc
        by false w n r h = cc

    pub each-once : {at : List ℕ} → Ok at ≡ gathered s object → judged s tag at ≡ shaped s
    unfolding gathered known
    each-once {at} g = by (ltb 0 (repeated fields s empty (members s object))) _ _ g ∙ on
      where
        by : (b : Bool) (w : Refusal) (n : List ℕ) → ◌≡◌ {A = Result (List ℕ) Refusal} (Ok at) (cond b (Err w) (Ok n))
            → ◌≡◌ {A = Reading} (judged s tag at) (cond b (Err w) (judged s tag n))
        by true w n h = cc
        by false w n h = let e : at ≡ n = cc in ap (judged s tag) e
