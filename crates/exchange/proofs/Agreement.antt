-- What `lifting` says of an event on a well-formed table is what the keeper's contracts say. Assumes nothing.
use Rattle.answers.specs.Answer.{Answer}
use Rattle.std.specs.Prelude.{Option, Some, None, Err, Ok}
use Prim.Native.Nat.{ℕ, ◌<◌}
use Rattle.call.specs.Rule.{decided}
use Rattle.answers.specs.declared.Reason.TheVariants.{NoRoom}
use Rattle.answers.specs.declared.Refusal.TheVariants.{Call as Ruled}
use Rattle.answers.specs.declared.Waiting.TheVariants.{Requester}
use Rattle.call.specs.declared.events.Event.TheVariants.{Tick}
use Rattle.call.specs.declared.records.After.TheVariants.{Same, Set, Free}
use Rattle.call.specs.declared.records.After.{After}
use Rattle.call.specs.declared.records.Call.{Call}
use Rattle.call.specs.declared.records.Outcome.{Outcome}
use Rattle.exchange.proofs.Parts.{opened, altered, to_old, rule, is_at, ours}
use Rattle.exchange.proofs.Rules.{first-is, first-none}
use Rattle.exchange.specs.Sequence.{Time, Event, message, tick, event_step, name_of, record_in, record_named}
use Rattle.keeper.specs.Facts.{event_of}
use Rattle.keeper.specs.Keeping.{Step, table_after, call_at, record_for, taken_at, taken, agrees_at, asked_at, ticked_at, on_reading, on_message, on_tick}
use Rattle.lifting.specs.inner.First.{first}
use Rattle.lifting.specs.inner.Keeper as lifted
use Rattle.message.specs.Parties.{call_id_of}
use Rattle.message.specs.Reading.{reading}
use Rattle.message.specs.declared.facts.Message.{Message}
use Rattle.message.specs.Refusal.{Reading}
use Rattle.rules.specs.Texts.{call_id_rule}
use Rattle.table.proofs.ImageLaws.{with_itself}
use Rattle.table.proofs.LookupLaws.{found, not_found, free-found}
use Rattle.table.specs.Image.{record_count, record_at, with_record}
use Rattle.table.specs.Record.{is_free, is_named}
use Rattle.table.specs.Search.{place_named, free_place}
use Rattle.table.specs.WellFormed.{well_formed}
use borrow.Author.Tests.{lt-ltb, le-ltb}
use lib.Dec.{ltb}
use mathlib.Core.Bool.{Bool, true, false}
use mathlib.Core.List.{List}
use mathlib.Core.Path.{◌≡◌, refl}

-- the same place, and the same record, by either search
module _ (c : ℕ) (id t : List ℕ) where
  place_at : (k : ℕ) → place_named id t ≡ Some k → lifted.place (ours c) id t ≡ k
  place_at k e = first-is (λ j. is_named id (record_at t j)) (record_count t) k (found id t k e)

  look_at : (k : ℕ) → place_named id t ≡ Some k → lifted.look (ours c) id t ≡ Some (record_at t k)
  look_at k e = rw (place_at k e, lt-ltb k (record_count t) (found id t k e).inside)

  look_none : place_named id t ≡ None → lifted.look (ours c) id t ≡ None
  look_none e = rw (le-ltb (first (λ j. is_named id (record_at t j)) (record_count t)) (record_count t)
      (first-none (λ j. is_named id (record_at t j)) (record_count t) (not_found id t e)))

  pub look_is : lifted.look (ours c) id t ≡ record_named id t
  unfolding record_named
  look_is = go (place_named id t) refl
    where
      go : (f : Option ℕ) → place_named id t ≡ f → lifted.look (ours c) id t ≡ record_in t f
      go (Some k) e = look_at k e
      go None e = look_none e

-- the answer and the table, of `lifting` and of the keeper
pub record Agrees (c : ℕ) (t : List ℕ) (e : Event) (s : Step) : Type 0 where
  pub answers : lifted.answer (ours c) t e ≡ s.answer
  pub tables : lifted.next (ours c) t e ≡ s.table

module _ (c : ℕ) (t : List ℕ) (e : Event) (id : List ℕ) (by : name_of c e ≡ Some id) where
  -- on the call's record
  store_kept : (k h : ℕ) (b : Bool) → k < record_count t → (after : After)
      → lifted.store (ours c) t k h (Some (record_at t k)) (altered (record_at t k) after) b ≡ table_after t k after
  store_kept k h b i Same = with_itself t k i
  store_kept k h b i (Set d) = refl
  store_kept k h b i Free = refl

  on-old : (k : ℕ) (o : Outcome) → place_named id t ≡ Some k → rule c e (Some (record_at t k)) ≡ to_old (record_at t k) o
      → Agrees c t e (record { answer = o.answer; table = table_after t k o.after })
  unfolding lifted.answer lifted.next lifted.answer_to lifted.next_to
  on-old k o p r =
      record {
        answers = rw (by, look_at c id t k p, r);
        tables = rw (by, look_at c id t k p, place_at c id t k p, r) (store_kept k (lifted.hole (ours c) t) (is_at (free_place t)) (found id t k p).inside o.after);
      }

  -- on none, where none is opened
  on_none : (a : Answer) → place_named id t ≡ None → rule c e None ≡ (a, None) → Agrees c t e (record { answer = a; table = t })
  unfolding lifted.answer lifted.next lifted.answer_to lifted.next_to
  on_none a p r = record { answers = rw (by, look_none c id t p, r); tables = rw (by, look_none c id t p, r) }

  -- on none, where one is opened: at the lowest free record, or turned away
  on_room : (a : Answer) (x : List ℕ) (k : ℕ) → place_named id t ≡ None → rule c e None ≡ (a, Some x) → free_place t ≡ Some k
      → Agrees c t e (record { answer = a; table = with_record t k x })
  unfolding lifted.answer lifted.next lifted.answer_to lifted.next_to
  on_room a x k p r f =
      let h : lifted.hole (ours c) t ≡ k = first-is (λ j. is_free (record_at t j)) (record_count t) k (free-found t k f) in
      record { answers = rw (by, look_none c id t p, r, f); tables = rw (by, look_none c id t p, r, f, h) }

  on-full : (a : Answer) (x : List ℕ) → place_named id t ≡ None → rule c e None ≡ (a, Some x) → free_place t ≡ None
      → Agrees c t e (record { answer = Err (Ruled NoRoom Requester); table = t })
  unfolding lifted.answer lifted.next lifted.answer_to lifted.next_to
  on-full a x p r f = record { answers = rw (by, look_none c id t p, r, f); tables = rw (by, look_none c id t p, r, f) }

-- an event that names no call
on-mute : (c : ℕ) (t : List ℕ) (e : Event) (a : Answer) → name_of c e ≡ None → (ours c).mute e ≡ a → Agrees c t e (record { answer = a; table = t })
unfolding lifted.answer lifted.next
on-mute c t e a by m = record { answers = rw by m; tables = rw by }

module _ (c : ℕ) (t : List ℕ) (now : Time) (s : List ℕ) (m : Message) (is : reading c s ≡ Ok m) where
  abbrev event : Event
  event = message now s

  abbrev outcome : Outcome
  outcome = decided None (event_of m false) now.milliseconds

  on-asked : name_of c event ≡ Some (call_id_of s m) → (f : Option ℕ) → place_named (call_id_of s m) t ≡ f → Agrees c t event (asked_at t now.milliseconds s m f)
  on-asked by (Some k) p =
      on-old c t event (call_id_of s m) by k (decided (Some (call_at t k)) (event_of m (agrees_at t s m k)) now.milliseconds) p (rw is)
  on-asked by None p = go outcome.answer outcome.after (rw is)
    where
      room : (a : Answer) (d : Call) → rule c event None ≡ (a, Some (record_for s m d)) → (f : Option ℕ) → free_place t ≡ f → Agrees c t event (taken_at t s m a d f)
      room a d r (Some k) q = on_room c t event (call_id_of s m) by a (record_for s m d) k p r q
      room a d r None q = on-full c t event (call_id_of s m) by a (record_for s m d) p r q

      go : (a : Answer) (after : After) → rule c event None ≡ (a, opened s m after) → Agrees c t event (taken t s m a after)
      go a Same r = on_none c t event (call_id_of s m) by a p r
      go a (Set d) r = room a d r (free_place t) refl
      go a Free r = on_none c t event (call_id_of s m) by a p r

on_read : (c : ℕ) (t : List ℕ) (now : Time) (s : List ℕ) (r : Reading) → reading c s ≡ r → Agrees c t (message now s) (on_reading t now.milliseconds s r)
unfolding name_of
on_read c t now s (Err r) e = on-mute c t (message now s) _ (rw e) (rw e)
on_read c t now s (Ok m) e = go (ltb 2 m.tag) refl
  where
    go : (b : Bool) → ltb 2 m.tag ≡ b → Agrees c t (message now s) (on_reading t now.milliseconds s (Ok m))
    go true w = rw w (on-mute c t (message now s) _ (rw (e, w)) (rw e))
    go false w = rw w (on-asked c t now s m e (rw (e, w)) (place_named (call_id_of s m) t) refl)

on-ticked : (c : ℕ) (t : List ℕ) (now : Time) (id : List ℕ) → call_id_rule id ≡ true → (f : Option ℕ) → place_named id t ≡ f
    → Agrees c t (tick now id) (ticked_at t now.milliseconds f)
unfolding name_of
on-ticked c t now id b (Some k) p = on-old c t (tick now id) id (rw b) k (decided (Some (call_at t k)) Tick now.milliseconds) p refl
on-ticked c t now id b None p = on_none c t (tick now id) id (rw b) (decided None Tick now.milliseconds).answer p refl

on-message : (c : ℕ) (t : List ℕ) (now : Time) (s : List ℕ) → well_formed t ≡ true → Agrees c t (message now s) (on_message c t now.milliseconds s)
unfolding on_message
on-message c t now s w = rw w (on_read c t now s (reading c s) refl)

on-tick : (c : ℕ) (t : List ℕ) (now : Time) (id : List ℕ) → well_formed t ≡ true → Agrees c t (tick now id) (on_tick t now.milliseconds id)
unfolding name_of on_tick
on-tick c t now id w = go (call_id_rule id) refl
  where
    go : (b : Bool) → call_id_rule id ≡ b → Agrees c t (tick now id) (on_tick t now.milliseconds id)
    go true e = rw (w, e) (on-ticked c t now id e (place_named id t) refl)
    go false e = rw (w, e) (on-mute c t (tick now id) _ (rw e) refl)

-- on a well-formed table both say the same
pub agrees : (c : ℕ) (t : List ℕ) (e : Event) → well_formed t ≡ true → Agrees c t e (event_step c t e)
agrees c t (message now s) w = on-message c t now s w
agrees c t (tick now id) w = on-tick c t now id w
