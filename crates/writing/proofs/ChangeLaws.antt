-- An accepted message with another Via in its place, one that keeps Via's rule, is accepted again, with the same facts (`via-changed`): frame says that
-- the text is JSON, with its tag and all other members as they were, and the reading goes by those alone. Assumes nothing.
use Rattle.std.proofs.Common.{Ok}
use Rattle.values.proofs.SpellingLaws.{left_cut}
use Prim.Native.Nat.{ℕ, zero, suc, ◌+◌, ◌-◌, ◌≤◌, ◌<◌}
use Rattle.frame.proofs.Forwarding.{Changed}
use Rattle.frame.proofs.MessageShape.{swap_read}
use Rattle.json_text.specs.Places.{part, bytes, raw, closing, behind, size, left, quoted, value_of, members, spell}
use Rattle.fields.specs.Known.{empty, noted}
use Rattle.message.specs.Shape.{tag_of, object_of}
use Rattle.values.specs.Value.{word_spelled}
use Rattle.fields.specs.Via.{via_rule}
use Rattle.rules.specs.Names.{fields, tags}
use Rattle.utf8.specs.Rfc3629.{verdict}
use Rattle.message.proofs.AcceptedRows.{Accepted}
use Rattle.message.proofs.AlikeLaws.{AlikeAt, neither, both, Alike, field-there, alike-accepted}
use Rattle.message.proofs.MemberLaws.{fields-few, tag_of_lem, members_of, pairs_once, via_where, shape}
use Rattle.message.proofs.PairLaws.{found, value_in, doubled, Nth, nth-one, late-members, by-once, noted-none, noted-by, where_is}
use Rattle.writing.proofs.SwapLaws.{swap_found, swap_doubled, swap_nth, swap_other}
use lib.ListN.{length, get_or, take, drop}
use lib.Seq.{drop-cons, drop-drop, take-take}
use mathlib.Core.Bool.{Bool, true, false}
use mathlib.Core.List.{List, [], ◌∷◌, map}
use mathlib.Core.Path.{◌≡◌, refl, sym, ap, subst, ◌∙◌}
use native.Mathlib.Omega.{arith}

-- What is left of a string is decided by its own bytes, so what stands between the quotes of a string is.
string-size : (l : List ℕ) → size (34 ∷ l) ≡ suc (left l quoted 0)
unfolding size
string-size l = refl

-- the string that these bytes begin with
abbrev own : List ℕ → List ℕ
own l = 34 ∷ take (left l quoted 0) l

raw_at : (s : List ℕ) (x : ℕ) (l : List ℕ) → drop x s ≡ 34 ∷ l → raw s x ≡ take (left l quoted 0 - 1) l
unfolding raw closing behind part
raw_at s x l e =
    let g : size (drop x s) ≡ suc (left l quoted 0) = ap size e ∙ string-size l in
    let d : drop (x + 1) s ≡ l = sym (drop-drop 1 x s) ∙ ap (drop 1) e in
    let z : x + size (drop x s) - 1 - (x + 1) ≡ left l quoted 0 - 1 = omega arith in
    rw (z, d)

bytes-at : (s : List ℕ) (x : ℕ) (l : List ℕ) → drop x s ≡ 34 ∷ l → bytes s x ≡ own l
unfolding behind part
bytes-at s x l e =
    let g : size (drop x s) ≡ suc (left l quoted 0) = ap size e ∙ string-size l in
    let z : x + size (drop x s) - x ≡ suc (left l quoted 0) = omega arith in
    rw (z, e)

raw-own : (s : List ℕ) (x : ℕ) (l : List ℕ) → drop x s ≡ 34 ∷ l → raw s x ≡ raw (bytes s x) 0
raw-own s x l e =
    let r : raw (own l) 0 ≡ take (left (take (left l quoted 0) l) quoted 0 - 1) (take (left l quoted 0) l) = raw_at (own l) 0 (take (left l quoted 0) l) refl in
    raw_at s x l e ∙ sym (ap (λ (v : List ℕ). raw v 0) (bytes-at s x l e) ∙ r ∙ ap (λ (n : ℕ). take (n - 1) (take (left l quoted 0) l)) (left_cut l quoted 0)
    ∙ take-take (left l quoted 0 - 1) (left l quoted 0) l (omega arith))

opens_at : (s : List ℕ) (x : ℕ) → get_or s x 0 ≡ 34 → drop x s ≡ 34 ∷ drop (suc x) s
opens_at s x e = drop-cons s x 0 (inside s x e) ∙ ap (λ (b : ℕ). b ∷ drop (suc x) s) e
  where
    inside : (s : List ℕ) (x : ℕ) → get_or s x 0 ≡ 34 → x < length s
    inside [] x e = absurd (omega arith)
    inside (b ∷ s) zero e = omega arith
    inside (b ∷ s) (suc x) e = let h = inside s x e in omega arith

-- a value whose bytes begin so begins so itself
pub first_byte : (s : List ℕ) (x e b : ℕ) → get_or (part s x e) 0 0 ≡ suc b → get_or s x 0 ≡ suc b
unfolding part
first_byte s x e b h = by (e - x) s x h
  where
    by : (n : ℕ) (s : List ℕ) (x : ℕ) → get_or (take n (drop x s)) 0 0 ≡ suc b → get_or s x 0 ≡ suc b
    by zero s x h = absurd (omega arith)
    by (suc n) [] zero h = h
    by (suc n) [] (suc x) h = absurd (omega arith)
    by (suc n) (c ∷ s) zero h = h
    by (suc n) (c ∷ s) (suc x) h = by (suc n) s x h

-- the tag of a text whose tag has the same bytes
same-raw : (s s' : List ℕ) (x : ℕ) → get_or s x 0 ≡ 34 → bytes s' x ≡ bytes s x → (get_or s' x 0 ≡ 34) × (raw s' x ≡ raw s x)
same-raw s s' x h e =
    let b : get_or (bytes s x) 0 0 ≡ 34 = ap (λ (v : List ℕ). get_or v 0 0) (bytes-at s x (drop (suc x) s) (opens_at s x h)) in
    let g : get_or s' x 0 ≡ 34 = first_byte s' x (behind s' x) 33 (ap (λ (v : List ℕ). get_or v 0 0) e ∙ b) in
    (g, raw-own s' x (drop (suc x) s') (opens_at s' x g) ∙ ap (λ (v : List ℕ). raw v 0) e ∙ sym (raw-own s x (drop (suc x) s) (opens_at s x h)))

-- what is said of the changed message
pub record Again (s : List ℕ) (tag : ℕ) (t s' : List ℕ) : Type 0 where
  pub t' : List ℕ
  pub accepted : Accepted s' tag t'
  pub alike : Alike s t s' t'
  pub via : get_or t' 6 0 ≡ get_or t 6 0
  pub object : object_of s' ≡ object_of s

module _ {s : List ℕ} {tag : ℕ} {t : List ℕ} (a : Accepted s tag t) (s' v : List ℕ) (c : Changed s s' (shape a).x (shape a).y (via_where a).n (get_or t 6 0) v) where
  shape-again : (tag_of s' ≡ tag) × (object_of s' ≡ (shape a).y)
  shape-again =
      let g = same-raw s s' (shape a).x (shape a).string c.tag in
      tag_of_lem s' (shape a).x (shape a).y tag c.again.array c.again.two g.0 c.again.object (ap (word_spelled tags) g.1 ∙ (shape a).name)

  read_again : members_of s' ≡ swap_read (via_where a).n v (members_of s)
  read_again = ap (λ (o : ℕ). map (spell s') (members s' o)) shape-again.1 ∙ c.same
      ∙ ap (λ (o : ℕ). swap_read (via_where a).n v (map (spell s) (members s o))) (sym (shape a).at)

  once-again : doubled fields (members_of s') ≡ false
  once-again = ap (doubled fields) read_again ∙ swap_doubled fields v (via_where a).n (members_of s) ∙ pairs_once a

  places' : List ℕ
  places' = noted fields s' empty (members s' (object_of s'))

  found-again : (k : ℕ) → found fields k (members_of s') ≡ found fields k (members_of s)
  found-again k = ap (found fields k) read_again ∙ swap_found fields v k (via_where a).n (members_of s)

  alike_at : (k : ℕ) → 1 ≤ k → (b : Bool) → found fields k (members_of s) ≡ b → AlikeAt s t s' places' k
  unfolding places'
  alike_at k h true f =
      let p = noted-by fields fields-few s (members s (object_of s)) k (late-members s (object_of s)) h (pairs_once a) f in
      let q = noted-by fields fields-few s' (members s' (object_of s')) k (late-members s' (object_of s')) h once-again (found-again k ∙ f) in
      both (rw (← a.places) p.0) q.0
      (λ ne. ap (λ (l : List ℕ). bytes s (get_or l k 0)) (sym a.places) ∙ p.1
      ∙ sym (q.1 ∙ ap (value_in fields k) read_again ∙ swap_other fields v k 6 (via_where a).n (members_of s) (via_where a).nth ne))
  alike_at k h false f =
      neither (ap (λ (l : List ℕ). get_or l k 0) (sym a.places) ∙ noted-none fields fields-few s (members s (object_of s)) k f)
      (noted-none fields fields-few s' (members s' (object_of s')) k (found-again k ∙ f))

  alike_all : Alike s t s' places'
  alike_all k h g = alike_at k h (found fields k (members_of s)) refl

  there₆ : AlikeAt s t s' places' 6 → 0 < get_or places' 6 0
  there₆ (neither x y) = absurd (omega (arith, field-there a 6 (omega arith) (omega arith)))
  there₆ (both x y f) = y

  via-again : get_or places' 6 0 ≡ get_or t 6 0
  unfolding places'
  via-again =
      let w = where_is fields fields-few s' (members s' (object_of s')) 6 (omega arith) once-again (there₆ (alike_all 6 (omega arith) (omega arith))) in
      let nth : Nth fields 6 (via_where a).n (members_of s') = subst (Nth fields 6 (via_where a).n) (sym read_again)
      (swap_nth fields v 6 (via_where a).n (via_where a).n (members_of s) (via_where a).nth) in
      let z : w.n ≡ (via_where a).n = nth-one fields 6 w.n (via_where a).n (members_of s') (omega arith) once-again w.nth nth in
      w.is ∙ ap (λ (n : ℕ). value_of s' (get_or (members s' (object_of s')) n 0)) z ∙ ap (λ (o : ℕ). value_of s' (get_or (members s' o) (via_where a).n 0)) shape-again.1
      ∙ sym c.again.place

  -- THE LAW
  pub via-changed : via_rule v ≡ true → 1 ≤ length s' → length s' ≤ 32768 → verdict s' ≡ Ok tt → Again s tag t s'
  unfolding places'
  via-changed r x y u = record {
    t' = places';
    accepted = alike-accepted a alike_all (ap (λ (p : ℕ). via_rule (bytes s' p)) via-again ∙ ap via_rule c.there ∙ r) x y u (length s') c.whole shape-again.0
        (by-once fields fields-few s' (members s' (object_of s')) once-again) refl;
    alike = alike_all;
    via = via-again;
    object = shape-again.1 ∙ sym (shape a).at;
  }
