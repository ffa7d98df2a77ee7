-- Two rows of document 01's table of numbers (01 Events) on any well-formed table, computed from the definition: 28, and 27; the numbers
-- themselves are `numbers` in crate `call`. Assumes nothing.
use Rattle.std.specs.Prelude.{None, Ok}
use Prim.Native.Nat.{ℕ}
use Rattle.call.specs.Rule.{decided_unheld}
use Rattle.answers.specs.declared.Reason.TheVariants.{NoRoom}
use Rattle.answers.specs.declared.Refusal.TheVariants.{Call, PingPong}
use Rattle.answers.specs.declared.Waiting.TheVariants.{Requester}
use Rattle.keeper.specs.Facts.{event_of, method_of_code}
use Rattle.keeper.specs.Keeping.{on_message, refusal}
use Rattle.message.specs.Message.{probe_of}
use Rattle.message.specs.Parties.{call_id_of}
use Rattle.message.specs.Reading.{reading}
use Rattle.message.specs.declared.facts.Message.{Message}
use Rattle.table.specs.Search.{free_place, place_named}
use Rattle.table.specs.WellFormed.{well_formed}
use mathlib.Core.Bool.{true}
use mathlib.Core.List.{List}
use mathlib.Core.Path.{◌≡◌, refl}

module _ (c : ℕ) (t s : List ℕ) (now : ℕ) (sound : well_formed t ≡ true) where
  -- 28: a ping, and a pong; the table as it was
  pub ping_refused : reading c s ≡ Ok (probe_of 3) → on_message c t now s ≡ refusal t PingPong
  unfolding on_message probe_of
  ping_refused read = rw (sound, read) refl

  pub pong_refused : reading c s ≡ Ok (probe_of 4) → on_message c t now s ≡ refusal t PingPong
  unfolding on_message probe_of
  pong_refused read = rw (sound, read) refl

  -- 27: an INVITE request that names no call on record, and no record free; the table as it was
  pub full-refused : (m : Message) → reading c s ≡ Ok m → m.tag ≡ 1 → m.method ≡ 1 → place_named (call_id_of s m) t ≡ None → free_place t ≡ None
      → on_message c t now s ≡ refusal t (Call NoRoom Requester)
  unfolding on_message event_of method_of_code decided_unheld
  full-refused m read tag method new full = rw (sound, read, new, tag, method, full) refl
