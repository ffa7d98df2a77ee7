-- An object of Via: the walk over its members, one member at a time; and where its host and destination stand by its own bytes. One law for each way
-- that the code goes. Assumes nothing.
use Rattle.json_text.proofs.TurnLaws.{one_more, comma, no-comma}
use Rattle.fields.specs.inner.Gathering.{places_in, AllFound, Found, Gathered}
use Rattle.json_text.specs.inner.Landing.{Row}
use Prim.Native.Nat.{ℕ, ◌+◌, ◌-◌, ◌<◌}
use Rattle.json_text.proofs.PlaceLaws.{closing-is, raw-is}
use Rattle.json_text.specs.Places.{part, past, behind, value_of, more, members, members_from}
use Rattle.fields.proofs.GatherLaws.{Sofar, started, over, repeats, goes_on, has-is, note-is, number_is}
use Rattle.fields.specs.Hop.{hop_of}
use Rattle.fields.specs.Known.{empty, noted, repeated}
use Rattle.values.specs.Value.{word_spelled, number_at}
use Rattle.fields.specs.Via.{hop_places}
use Rattle.fields.specs.declared.hops.Hop.{Hop}
use Rattle.fields.specs.declared.hops.Members.{Members}
use Rattle.rules.specs.Names.{hop_members}
use Rattle.std.specs.Prelude.{Some}
use borrow.Author.Tests.{ne_eqb}
use lib.Dec.{eqb, ltb}
use lib.ListN.{length, get_or, set}
use mathlib.Core.Bool.{Bool, true, false, ◌&&◌, cond}
use mathlib.Core.List.{List, [], ◌∷◌}
use mathlib.Core.Path.{◌≡◌, refl, sym, ap, ◌∙◌}
use native.Mathlib.Omega.{arith}

-- what is found of the members of the object at o, where none stands twice: the places and the ends
abbrev MembersFound : List ℕ → ℕ → Members → Type 0
MembersFound v o m = Gathered hop_members v o 0 (places_in m) × AllFound v m

-- the walk over the members of the object at o: p is behind the brace or a comma, n members at most are to come
pub record Walking (v : List ℕ) (o : ℕ) (m : Members) (n p : ℕ) : Type 0 where
  pub sofar : Sofar hop_members v o (places_in m) (members_from n v p)
  pub found : AllFound v m

pub walk-starts : (v : List ℕ) (o : ℕ) {m : Members} {n : ℕ} → n ≡ length v → places_in m ≡ empty → AllFound v m → Walking v o m n (o + 1)
walk-starts v o z e f = record { sofar = rw (z, e) (started hop_members v o); found = f }

pub walk-over : {v : List ℕ} {o : ℕ} {m : Members} {n p : ℕ} → Walking v o m n p → members_from n v p ≡ [] → MembersFound v o m
walk-over f e = (over f.sofar e, f.found)

module _ {v : List ℕ} {o : ℕ} {m : Members} {n p : ℕ} (f : Walking v o m n p) (some : 0 < n) {q : ℕ} (at-q : q ≡ past v p) (quote : get_or v q 0 ≡ 34) {e a w t : ℕ}
    (row : Row v q e a w t) {x : List ℕ} {k : ℕ} (called : x ≡ part v (q + 1) (e - 1)) (numbered : k ≡ word_spelled hop_members x) {r : Bool}
    (seen : (u : List ℕ) → AllFound u m → r ≡ (ltb 0 k && ltb 0 (get_or (places_in m) k 0))) (late : 0 < q) where
  number : k ≡ number_at hop_members v q
  number = number_is hop_members v q (called ∙ raw-is v q (closing-is v q row.named)) numbered

  next : members_from n v p ≡ q ∷ more v (members_from (n - 1) v) (value_of v q)
  next = one_more v n p some at-q quote

  -- a repeat
  pub walk_twice : r ≡ true → repeated hop_members v empty (members v o) ≡ 0 → ⊥
  walk_twice h z =
      let g = repeats f.sofar q (more v (members_from (n - 1) v) (value_of v q)) next (λ y. omega arith) (sym (has-is hop_members v (places_in m) q number (seen v f.found)) ∙ h) in
      omega (arith, g.first)

  module _ (new : r ≡ false) {m' : Members}
      (put : (places_in m' ≡ cond (eqb k 0) (places_in m) (set (places_in m) k a)) × ((u : List ℕ) → Found u (Some (record { at = a; end = w })) → AllFound u m → AllFound u m'))
    where
      next-sofar : (rest : List ℕ) → more v (members_from (n - 1) v) (value_of v q) ≡ rest → Sofar hop_members v o (places_in m') rest
      next-sofar rest g = goes_on f.sofar q (more v (members_from (n - 1) v) (value_of v q)) next (sym (has-is hop_members v (places_in m) q number (seen v f.found)) ∙ new)
          (note-is hop_members v (places_in m) q number row.begins.is put.0) g

      next-found : AllFound v m'
      next-found = put.1 v (omega (arith, row.named.low, row.begins.low), row.ends.is ∙ ap (behind v) (sym row.begins.is)) f.found

      -- a comma follows, or none
      pub walk-again : {n' : ℕ} → n' ≡ n - 1 → get_or v t 0 ≡ 44 → Walking v o m' n' (t + 1)
      walk-again z b = record {
        sofar = rw z (next-sofar (members_from (n - 1) v (t + 1)) (comma v (members_from (n - 1) v) (value_of v q) row.goes.is b));
        found = next-found;
      }

      pub walk-shut : (get_or v t 0 ≡ 44 → ⊥) → MembersFound v o m'
      walk-shut b = (over (next-sofar [] (no-comma v (members_from (n - 1) v) (value_of v q) row.goes.is b)) refl, next-found)

-- nothing stands in no bytes
pub no_bytes : (v : List ℕ) → length v ≡ 0 → ◌≡◌ {A = Hop} (record { host = 0; destination = 0 }) (hop_of v)
unfolding hop_of hop_places repeated noted members members_from
no_bytes [] e = refl
no_bytes (b ∷ v) e = absurd (omega arith)

module _ (v : List ℕ) where
  pub member_twice : (repeated hop_members v empty (members v 0) ≡ 0 → ⊥) → ◌≡◌ {A = Hop} (record { host = 0; destination = 0 }) (hop_of v)
  unfolding hop_of
  member_twice ne = rw (ne_eqb _ _ ne)

  pub members-once : {at : List ℕ} → Gathered hop_members v 0 0 at → ◌≡◌ {A = Hop} (record { host = get_or at 1 0; destination = get_or at 2 0 }) (hop_of v)
  unfolding hop_of hop_places
  members-once g = rw (← g.first, ← (g.all refl))
