-- What an event leaves of a well-formed table is well-formed: what the rule sets is sound, and a new record's texts are within their rules.
-- Assumes nothing.
use Rattle.answers.specs.Answer.{Answer}
use Rattle.std.specs.Prelude.{Option, Some, None}
use Prim.Native.Nat.{ℕ, ◌<◌}
use Rattle.call.specs.inner.Sound.{Sound, SoundAfter}
use Rattle.call.specs.declared.records.After.TheVariants.{Same, Set, Free}
use Rattle.call.specs.declared.records.After.{After}
use Rattle.call.specs.declared.records.Call.{Call}
use Rattle.keeper.proofs.FactLaws.{sound-fields, fit-fields}
use Rattle.keeper.specs.Facts.{fields_from}
use Rattle.keeper.specs.Keeping.{table_after, record_for, taken, taken_at}
use Rattle.message.specs.inner.Named.{Named}
use Rattle.message.specs.Parties.{call_id_of, user_of, caller_fire_of, callee_fire_of}
use Rattle.message.specs.declared.facts.Message.{Message}
use Rattle.table.proofs.KeepLaws.{Ruled, store_keeps, open_keeps, release_keeps}
use Rattle.table.proofs.LookupLaws.{free-found, not_found}
use Rattle.table.specs.Image.{record_count, record_at}
use Rattle.table.specs.Record.{is_free}
use Rattle.table.specs.Search.{place_named, free_place}
use Rattle.table.specs.WellFormed.{well_formed}
use mathlib.Core.Bool.{true, false}
use mathlib.Core.List.{List}
use mathlib.Core.Path.{◌≡◌, refl}

ruled : (s : List ℕ) (m : Message) → Named s m → Ruled (call_id_of s m) (user_of s m) (caller_fire_of s m) (callee_fire_of s m)
ruled s m n = record { call_id = n.call_id; user = n.user; caller-fire = n.caller-fire; callee-fire = n.callee-fire }

module _ (t : List ℕ) (w : well_formed t ≡ true) where
  pub kept-well : (k : ℕ) → k < record_count t → is_free (record_at t k) ≡ false → (after : After) → SoundAfter after → well_formed (table_after t k after) ≡ true
  kept-well k h used Same s = w
  kept-well k h used (Set c) s = store_keeps t k w h (fields_from c) used (sound-fields c s) (fit-fields c s)
  kept-well k h used Free s = release_keeps t k w h

  module _ (s : List ℕ) (m : Message) (n : Named s m) (new : place_named (call_id_of s m) t ≡ None) (a : Answer) where
    taken-at-well : (c : Call) → Sound c → (f : Option ℕ) → free_place t ≡ f → well_formed (taken_at t s m a c f).table ≡ true
    unfolding record_for
    taken-at-well c sound (Some k) e =
        open_keeps t k w (free-found t k e).inside (call_id_of s m) (user_of s m) (caller_fire_of s m) (callee_fire_of s m) (fields_from c)
        (ruled s m n) (sound-fields c sound) (fit-fields c sound) (not_found (call_id_of s m) t new)
    taken-at-well c sound None e = w

    pub taken-well : (after : After) → SoundAfter after → well_formed (taken t s m a after).table ≡ true
    taken-well Same sound = w
    taken-well (Set c) sound = taken-at-well c sound (free_place t) refl
    taken-well Free sound = w
