-- A refused word is answered `?`; else the bytes taken are the destination, behind the host. Assumes nothing.
use Rattle.showing.proofs.ShownLaws.{says}
use Rattle.showing.proofs.WriterLaws.{edit_second, first-refused, first_taken}
use Rattle.showing.proofs.writers.edit_destination.Goals as goal
use mathlib.Core.Path.{sym}

pub returns-in_default : goal.returns-in_default
returns-in_default c =
    let x = c.args in
    says x.out.now (sym (first-refused x.words.now x.bytes.now x.a _ c.requires.0 c.take_first.ensures c.in_default.is
    _)) c.put_unknown.ensures

pub edit_organization-requires : goal.edit_organization-requires
edit_organization-requires c =
    let x = c.args in
    let l = first_taken x.words.now x.bytes.now x.a _ c.requires.0 c.take_first.ensures c.requires.1 c.in-Some.is in
    (l.order, rw c.rest.ensures l.bound, l.within)

pub returns : goal.returns
returns c =
    let x = c.args in
    let l = first_taken x.words.now x.bytes.now x.a _ c.requires.0 c.take_first.ensures c.requires.1 c.in-Some.is in
    edit_second x.out.now x.adds x.bytes.now x.a l c.rest.ensures c.edit_organization.ensures
