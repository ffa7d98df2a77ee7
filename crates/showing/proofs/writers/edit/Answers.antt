-- A refused word is answered `?`; else the bytes taken are the host. Assumes nothing.
use Rattle.showing.proofs.WriterLaws.{edit_first, edit_refused, first-refused, first_taken}
use Rattle.showing.proofs.writers.edit.Goals as goal
use native.Mathlib.Omega.{arith}

pub returns-in_default : goal.returns-in_default
returns-in_default c =
    let x = c.args in
    edit_refused x.out.now x.adds x.words.now
    (first-refused x.words.now x.bytes.now 0 _ (omega arith) c.take_first.ensures c.in_default.is)
    c.put_unknown.ensures

pub edit_destination-requires : goal.edit_destination-requires
edit_destination-requires c =
    let x = c.args in
    let l = first_taken x.words.now x.bytes.now 0 _ (omega arith) c.take_first.ensures (omega arith) c.in-Some.is in
    (rw c.rest.ensures l.bound, l.within)

pub returns : goal.returns
returns c =
    let x = c.args in
    let l = first_taken x.words.now x.bytes.now 0 _ (omega arith) c.take_first.ensures (omega arith) c.in-Some.is in
    edit_first x.out.now x.adds l c.rest.ensures c.edit_destination.ensures
