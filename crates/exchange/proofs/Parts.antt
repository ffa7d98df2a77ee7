-- The keeper's table and rule under a ceiling of c JSON values, put in for the parameters of `lifting`. Assumes nothing.
use Rattle.answers.specs.Answer.{Answer}
use Rattle.std.specs.Prelude.{Option, Some, None, Err, Ok}
use Prim.Native.Nat.{ℕ}
use Rattle.call.specs.Rule.{decided}
use Rattle.answers.specs.declared.Reason.TheVariants.{NoRoom}
use Rattle.answers.specs.declared.Refusal.TheVariants.{Reading as Unread, PingPong, Call as Ruled}
use Rattle.answers.specs.declared.Waiting.TheVariants.{Requester}
use Rattle.call.specs.declared.events.Event.TheVariants.{Tick}
use Rattle.call.specs.declared.records.After.TheVariants.{Same, Set, Free}
use Rattle.call.specs.declared.records.After.{After}
use Rattle.call.specs.declared.records.Outcome.{Outcome}
use Rattle.exchange.specs.Sequence.{Event, message, tick, name_of}
use Rattle.keeper.specs.Facts.{call_of, event_of, fields_from}
use Rattle.keeper.specs.inner.Known.{Fitting}
use Rattle.keeper.specs.Keeping.{record_for}
use Rattle.lifting.specs.inner.Keeper.{Keeper}
use Rattle.message.specs.Parties.{user_of, caller_fire_of, callee_fire_of}
use Rattle.message.specs.Reading.{reading}
use Rattle.message.specs.declared.facts.Message.{Message}
use Rattle.message.specs.Refusal.{Reading, number, place}
use Rattle.table.specs.Image.{record_count, record_at, record_size, with_record, free_record}
use Rattle.table.specs.Record.{record_fields, is_free, is_named, same_parties, with_fields}
use Rattle.table.specs.Search.{free_place}
use Rattle.table.specs.WellFormed.{frame_sound, record_sound}
use lib.ListN.{length}
use mathlib.Core.Bool.{Bool, true, false}
use mathlib.Core.List.{List}
use mathlib.Core.Path.{◌≡◌}

-- the answer to an event that names no call
abbrev mute_read : Reading → Answer
mute_read (Err e) = Err (Unread (number e) (place e))
mute_read (Ok m) = Err PingPong

abbrev pub mute : ℕ → Event → Answer
mute c (message now s) = mute_read (reading c s)
mute c (tick now id) = Err (Unread 9 0)

-- the record of a call that is new, or that had the record r
abbrev pub opened : List ℕ → Message → After → Option (List ℕ)
opened s m Same = None
opened s m (Set c) = Some (record_for s m c)
opened s m Free = None

abbrev pub altered : List ℕ → After → Option (List ℕ)
altered r Same = Some r
altered r (Set c) = Some (with_fields r (fields_from c))
altered r Free = None

abbrev pub to_new : List ℕ → Message → Outcome → Answer × Option (List ℕ)
to_new s m o = (o.answer, opened s m o.after)

abbrev pub to_old : List ℕ → Outcome → Answer × Option (List ℕ)
to_old r o = (o.answer, altered r o.after)

-- the rule on a call's record, or on none
abbrev pub rule_read : ℕ → List ℕ → Reading → Option (List ℕ) → Answer × Option (List ℕ)
rule_read now s (Err e) r = (Err (Unread (number e) (place e)), r)
rule_read now s (Ok m) None = to_new s m (decided None (event_of m false) now)
rule_read now s (Ok m) (Some r) =
    to_old r (decided (Some (call_of (record_fields r))) (event_of m (same_parties (user_of s m) (caller_fire_of s m) (callee_fire_of s m) r)) now)

abbrev pub rule_tick : ℕ → Option (List ℕ) → Answer × Option (List ℕ)
rule_tick now None = ((decided None Tick now).answer, None)
rule_tick now (Some r) = to_old r (decided (Some (call_of (record_fields r))) Tick now)

abbrev pub rule : ℕ → Event → Option (List ℕ) → Answer × Option (List ℕ)
rule c (message now s) r = rule_read now.milliseconds s (reading c s) r
rule c (tick now id) r = rule_tick now.milliseconds r

-- a new call is admitted where some record is free
abbrev pub is_at : Option ℕ → Bool
is_at (Some k) = true
is_at None = false

-- what every record meets: its length, well-formedness by itself, and numbers that fit their bytes
pub record Fit (r : List ℕ) : Type 0 where
  pub long : length r ≡ record_size
  pub sound : record_sound r ≡ true
  pub fitting : Fitting (record_fields r)

abbrev pub ours : ℕ → Keeper
ours c =
    record {
      Tab = List ℕ;
      Rec = List ℕ;
      Id = List ℕ;
      Ev = Event;
      Ans = Answer;
      size = record_count;
      at = record_at;
      put = with_record;
      free = is_free;
      named = is_named;
      blank = free_record;
      names = name_of c;
      mute = mute c;
      rule = rule c;
      admits = λ t e. is_at (free_place t);
      turned = λ e. Err (Ruled NoRoom Requester);
      Fit = Fit;
      Frame = λ t. frame_sound t ≡ true;
    }
