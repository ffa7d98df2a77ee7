-- Inner: what the numbers of a record in use meet (01 The table image, 'Well-formed'); `decided-sound` in `proofs/Soundness.antt` says that the rule
-- keeps it. Tied to `table`'s `fields_sound`, which the paper's words are, by `sound-call` and `sound-fields` in keeper's `proofs/FactLaws.antt`.
-- Assumes nothing.
use Rattle.std.specs.Prelude.{◌≡◌, ◌≤◌, ◌<◌, Option, Some, None}
use Rattle.call.specs.declared.records.Call.{Call}
use Rattle.call.specs.declared.records.After.{After}
use Rattle.call.specs.declared.records.After.TheVariants.{Same, Set, Free}
use Rattle.call.specs.declared.events.Event.{Event}
use Rattle.call.specs.declared.events.Event.TheVariants.{Asks, Replies, Tick}

-- (state 1 to 6 and Secure-Call 0 or 1 hold by their types; texts, 00s, distinct Call-IDs and the header are the table's)
-- INVITE number at least 1, caller's highest not below it, methods 1 to 8 (the callee's is 0 exactly if the callee's highest is 0),
-- both other times at most the last time; and numbers and times fit the bytes that they have
pub record Sound (c : Call) : Type 0 where
  pub invited : 1 ≤ c.invite
  pub not-below : c.invite ≤ c.caller.number
  pub caller-method : 1 ≤ c.caller.method
  pub caller-known : c.caller.method ≤ 8
  pub callee_known : c.callee.method ≤ 8
  pub callee-none : c.callee.number ≡ 0 → c.callee.method ≡ 0
  pub callee-some : c.callee.method ≡ 0 → c.callee.number ≡ 0
  pub entry_past : c.entry ≤ c.last
  pub chat-past : c.chat ≤ c.last
  pub caller-fits : c.caller.number < 4294967296
  pub callee-fits : c.callee.number < 4294967296
  pub last_fits : c.last < 18446744073709551616

-- of the record that an event finds: none, or a sound one
abbrev pub SoundHeld : Option Call → Type 0
SoundHeld None = Unit
SoundHeld (Some c) = Sound c

-- of what becomes of a record: where it is set, it is sound
abbrev pub SoundAfter : After → Type 0
SoundAfter Same = Unit
SoundAfter (Set c) = Sound c
SoundAfter Free = Unit

-- an event's number is 1 to 4294967295, as the reading sees to (01 Reading, CSeq)
abbrev pub Numbered : Event → Type 0
Numbered (Asks r agrees) = (1 ≤ r.number) × (r.number < 4294967296)
Numbered (Replies r agrees) = (1 ≤ r.number) × (r.number < 4294967296)
Numbered Tick = Unit
