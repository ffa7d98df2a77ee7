-- A refused word is answered `?`; else the bytes taken are the path and the message. Assumes nothing.
use Prim.Native.Nat.{◌-◌}
use Rattle.showing.proofs.ShownLaws.{says}
use Rattle.showing.proofs.WriterLaws.{edit_last, last-refused, last_taken, no_room, rest-room}
use Rattle.showing.proofs.writers.edit_to.Goals as goal
use lib.ListN.{drop, length-take}
use mathlib.Core.Path.{◌∙◌, sym}
use native.Mathlib.Omega.{arith}

pub returns-in_default : goal.returns-in_default
returns-in_default c =
    let x = c.args in says x.out.now (sym (no_room x.words.now _ (sym c.first_number.ensures ∙ c.in_default.is))) c.put_unknown.ensures

pub take_bytes-requires : goal.take_bytes-requires
take_bytes-requires c = rw c.rest.ensures (rest-room c.args.words.now c.args.c c.requires.2)

pub returns-in_default-take_bytes : goal.returns-in_default-take_bytes
returns-in_default-take_bytes c =
    let x = c.args in
    says x.out.now (sym (last-refused x.words.now x.bytes.now x.c _ c.requires.2 (sym c.first_number.ensures ∙ c.in-Some.is) (rw c.rest.ensures at c.take_bytes.ensures)
    c.in_default-take_bytes.is _)) c.put_unknown-in_default-take_bytes.ensures

pub slice_bounds-write_edit-end : goal.slice_bounds-write_edit-end
slice_bounds-write_edit-end c =
    let x = c.args in
    let l = last_taken x.words.now x.bytes.now x.c _ c.requires.2 (sym c.first_number.ensures ∙ c.in-Some.is) (rw c.rest.ensures at c.take_bytes.ensures) c.requires.3
    c.in-Some-take_bytes.is in
    l.within

pub write_edit-requires : goal.write_edit-requires
write_edit-requires c =
    let x = c.args in
    let l = last_taken x.words.now x.bytes.now x.c _ c.requires.2 (sym c.first_number.ensures ∙ c.in-Some.is) (rw c.rest.ensures at c.take_bytes.ensures) c.requires.3
    c.in-Some-take_bytes.is in
    (l.small, omega (arith, l.short, length-take (c.in-Some-take_bytes.e - x.c) (drop x.c c.take_bytes.new.bytes)))

pub returns : goal.returns
returns c =
    let x = c.args in
    let l = last_taken x.words.now x.bytes.now x.c _ c.requires.2 (sym c.first_number.ensures ∙ c.in-Some.is) (rw c.rest.ensures at c.take_bytes.ensures) c.requires.3
    c.in-Some-take_bytes.is in
    edit_last x.out.now x.adds x.bytes.now x.a x.b x.c l c.requires.0 c.requires.1 c.requires.3 c.write_edit.ensures
