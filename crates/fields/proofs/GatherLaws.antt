-- The walk over the members of an object, one member at a time: what is gathered so far, and that the rest decides the rest.
-- Assumes nothing.
use Rattle.fields.specs.inner.Gathering.{noted_once, end_at, ends_of, Gathered, Ended}
use Prim.Native.Nat.{ℕ, zero, suc, ◌+◌, ◌<◌}
use Rattle.json_text.specs.Places.{behind, raw, value_of, members_from, members}
use Rattle.fields.specs.Known.{empty, has, note, noted, repeated}
use Rattle.escapes.specs.Rfc7159.{is_broken, text}
use Rattle.values.specs.Value.{word_spelled, number_at}
use Rattle.octets.proofs.TestLaws.{picked}
use Rattle.rules.proofs.NameLaws.{place-below}
use Rattle.rules.specs.Names.{hop_members}
use borrow.Author.Tests.{ne_eqb}
use lib.Dec.{eqb, ltb}
use lib.ListN.{length, get_or, set, replicate, get_or-map}
use mathlib.Core.Bool.{Bool, true, false, ◌&&◌, cond}
use mathlib.Core.List.{List, [], ◌∷◌, map}
use mathlib.Core.Path.{◌≡◌, refl, sym, ap, ◌∙◌}
use native.Mathlib.Decide.{ℕ_discrete}
use native.Mathlib.Omega.{arith}

-- What is gathered, with the members qs still to come.

pub record Sofar (ns : List (List ℕ)) (s : List ℕ) (o : ℕ) (at qs : List ℕ) : Type 0 where
  pub again : repeated ns s empty (members s o) ≡ repeated ns s at qs
  pub known : noted ns s empty (members s o) ≡ noted ns s at qs
  pub kept : noted_once ns s empty (members s o) ≡ noted_once ns s at qs

pub started : (ns : List (List ℕ)) (s : List ℕ) (o : ℕ) → Sofar ns s o empty (members_from (length s) s (o + 1))
unfolding members
started ns s o = record { again = refl; known = refl; kept = refl }

module _ {ns : List (List ℕ)} {s : List ℕ} {o : ℕ} {at qs : List ℕ} (f : Sofar ns s o at qs) where
  -- no member is left
  pub over : qs ≡ [] → Gathered ns s o 0 at
  unfolding repeated noted noted_once
  over e = record { first = sym (f.again ∙ rw e); places = sym (f.kept ∙ rw e); all = λ z. sym (f.known ∙ rw e) }

  -- the next member is a repeat
  pub repeats : (q : ℕ) (rest : List ℕ) → qs ≡ q ∷ rest → (q ≡ 0 → ⊥) → has ns s at q ≡ true → Gathered ns s o q at
  unfolding repeated noted_once
  repeats q rest e late h = record { first = sym (f.again ∙ rw (e, h)); places = sym (f.kept ∙ rw (e, h)); all = λ z. absurd (late z) }

  -- the next member is none
  pub goes_on : (q : ℕ) (rest : List ℕ) {at' rest' : List ℕ} → qs ≡ q ∷ rest → has ns s at q ≡ false → at' ≡ note ns s at q → rest ≡ rest' → Sofar ns s o at' rest'
  unfolding repeated noted noted_once
  goes_on q rest e h a r =
      record { again = f.again ∙ rw (e, h, ← a, r); known = f.known ∙ rw (e, ← a, r); kept = f.kept ∙ rw (e, h, ← a, r) }

-- what the functions on the places say of a member

pub has-is : (ns : List (List ℕ)) (s at : List ℕ) (q : ℕ) {k : ℕ} {r : Bool} → k ≡ number_at ns s q → r ≡ (ltb 0 k && ltb 0 (get_or at k 0)) → r ≡ has ns s at q
unfolding has
has-is ns s at q e f = f ∙ rw e

pub note-is : (ns : List (List ℕ)) (s at : List ℕ) (q : ℕ) {k v : ℕ} {r : List ℕ} → k ≡ number_at ns s q → v ≡ value_of s q → r ≡ cond (eqb k 0) at (set at k v)
    → r ≡ note ns s at q
unfolding note
note-is ns s at q e g f = f ∙ rw (e, g)

pub number_is : (ns : List (List ℕ)) (s : List ℕ) (q : ℕ) {x : List ℕ} {k : ℕ} → x ≡ raw s q → k ≡ word_spelled ns x → k ≡ number_at ns s q
unfolding number_at
number_is ns s q e f = f ∙ rw e

-- The ends of values by the places where they begin.

pub no-ends : (s : List ℕ) → empty ≡ ends_of s empty
unfolding ends_of
no-ends s = refl

map-set : (f : ℕ → ℕ) (t : List ℕ) (k v : ℕ) → set (map f t) k (f v) ≡ map f (set t k v)
map-set f [] k v = refl
map-set f (x ∷ t) zero v = refl
map-set f (x ∷ t) (suc k) v = ap (λ (l : List ℕ). f x ∷ l) (map-set f t k v)

-- one more, of a value at v that ends at w
pub note-ends : (s t : List ℕ) {e : List ℕ} (k v : ℕ) {w : ℕ} (b : Bool) → e ≡ ends_of s t → 0 < v → w ≡ behind s v → cond b e (set e k w) ≡ ends_of s (cond b t (set t k v))
unfolding ends_of
note-ends s t k v true f h g = f
note-ends s t {e} k v {w} false f h g =
    let z : w ≡ end_at s v = g ∙ rw (ne_eqb v 0 (λ y. omega arith)) in
    ap (λ (l : List ℕ). set l k w) f ∙ ap (set (map (end_at s) t) k) z ∙ map-set (end_at s) t k v

-- each end is known, or there is none
pub ends-known : (s t : List ℕ) {e : List ℕ} → e ≡ ends_of s t → Ended s t e
unfolding ends_of
ends-known s t {e} f = record { ends = λ n h. by n (get_or t n 0) refl (ℕ_discrete (get_or t n 0) 0) h }
  where
    is : (n : ℕ) → get_or e n 0 ≡ end_at s (get_or t n 0)
    is n = ap (λ (l : List ℕ). get_or l n 0) f ∙ get_or-map (end_at s) t n 0

    by : (n v : ℕ) → get_or t n 0 ≡ v → Dec (v ≡ 0) → 0 < get_or e n 0 → get_or e n 0 ≡ behind s (get_or t n 0)
    by n v q (yes z) h = absurd (let y : get_or e n 0 ≡ 0 = is n ∙ rw (q, z) in omega arith)
    by n v q (no z) h = is n ∙ rw (q, ne_eqb v 0 z)

abbrev noughts : ℕ → List ℕ
noughts k = replicate k 0

nought-at : (k n : ℕ) → get_or (noughts k) n 0 ≡ 0
nought-at zero n = refl
nought-at (suc k) zero = refl
nought-at (suc k) (suc n) = nought-at k n

-- none is known
pub ended-none : (s t : List ℕ) → Ended s t empty
ended-none s t = record { ends = λ n h. absurd (omega (arith, nought-at 27 n)) }

-- a name's number is at most how many names there are
pub spelled_few : (ns : List (List ℕ)) (x : List ℕ) → word_spelled ns x < 1 + length ns
unfolding word_spelled
spelled_few ns x = picked (λ (n : ℕ). n < 1 + length ns) (is_broken x) (omega arith) (omega (arith, place-below ns (text x)))

pub hop-few : (x : List ℕ) → word_spelled hop_members x < 4
hop-few x = spelled_few hop_members x
