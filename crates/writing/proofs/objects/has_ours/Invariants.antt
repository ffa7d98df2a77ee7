-- `writing::objects::has_ours` meets its contract. The loop keeps that the objects still to come decide. Assumes nothing.
use Prim.Native.Nat.{◌-◌, ◌≤◌, ◌<◌}
use Rattle.json_text.specs.Places.{bytes, elements, elements_from}
use Rattle.writing.proofs.objects.has_ours.Given as goal
use Rattle.writing.specs.Objects.{is_ours, some}
use lib.ListN.{length}
use mathlib.Core.List.{map}
use mathlib.Core.Path.{◌≡◌}

abbrev pub invariant-loop : goal.invariant-loop
invariant-loop l =
    (l.p ≤ length l.s) × ((length l.s < 18446744073709551616)
    × (some (is_ours l.path.host.now l.path.destination.now) (map (bytes l.s) (elements l.s l.v))
    ≡ some (is_ours l.path.host.now l.path.destination.now) (map (bytes l.s) (elements_from (length l.s - l.counter) l.s l.p))))
