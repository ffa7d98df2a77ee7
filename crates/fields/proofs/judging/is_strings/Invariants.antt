-- `fields::judging::is_strings` meets its contract. The loop keeps that the elements still to come decide. Assumes nothing.
use Prim.Native.Nat.{◌-◌, ◌≤◌, ◌<◌}
use Rattle.fields.proofs.FieldLaws.{quotes}
use Rattle.fields.proofs.judging.is_strings.Given as goal
use Rattle.fields.specs.Field.{strings_field}
use Rattle.json_text.specs.Places.{elements_from}
use Rattle.octets.specs.Class.{all}
use lib.ListN.{length}
use mathlib.Core.Path.{◌≡◌}

abbrev pub invariant-loop : goal.invariant-loop
invariant-loop l = (l.p ≤ length l.v) × ((length l.v < 18446744073709551616) × (strings_field l.v ≡ all (quotes l.v) (elements_from (length l.v - l.counter) l.v l.p)))
