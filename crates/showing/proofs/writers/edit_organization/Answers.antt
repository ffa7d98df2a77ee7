-- A refused word is answered `?`; else the bytes taken are the organization, behind host and destination. Assumes nothing.
use Rattle.showing.proofs.ShownLaws.{says}
use Rattle.showing.proofs.WriterLaws.{edit_third, first-refused, first_taken}
use Rattle.showing.proofs.writers.edit_organization.Goals as goal
use mathlib.Core.Path.{sym}

pub returns-in_default : goal.returns-in_default
returns-in_default c =
    let x = c.args in
    says x.out.now (sym (first-refused x.words.now x.bytes.now x.b _ c.requires.1 c.take_first.ensures c.in_default.is
    _)) c.put_unknown.ensures

pub edit_to-requires : goal.edit_to-requires
edit_to-requires c =
    let x = c.args in
    let l = first_taken x.words.now x.bytes.now x.b _ c.requires.1 c.take_first.ensures c.requires.2 c.in-Some.is in
    (c.requires.0, l.order, rw c.rest.ensures l.bound, l.within)

pub returns : goal.returns
returns c =
    let x = c.args in
    let l = first_taken x.words.now x.bytes.now x.b _ c.requires.1 c.take_first.ensures c.requires.2 c.in-Some.is in
    edit_third x.out.now x.adds x.bytes.now x.a x.b l c.requires.0 c.requires.2 c.rest.ensures c.edit_to.ensures
