-- A refused word is answered `?`; else the bytes taken are the date. Assumes nothing.
use Rattle.showing.proofs.ShownLaws.{says}
use Rattle.showing.proofs.WriterLaws.{first-refused, first_taken, reply-first}
use Rattle.showing.proofs.writers.reply_dated.Goals as goal
use mathlib.Core.Path.{sym}
use native.Mathlib.Omega.{arith}

pub returns-in_default : goal.returns-in_default
returns-in_default c =
    let x = c.args in
    says x.out.now (sym (first-refused x.words.now x.bytes.now 0 _ (omega arith) c.take_first.ensures c.in_default.is _))
    c.put_unknown.ensures

pub reply_to-requires : goal.reply_to-requires
reply_to-requires c =
    let x = c.args in
    let l = first_taken x.words.now x.bytes.now 0 _ (omega arith) c.take_first.ensures (omega arith) c.in-Some.is in
    (rw c.rest.ensures l.bound, l.within)

pub returns : goal.returns
returns c =
    let x = c.args in
    let l = first_taken x.words.now x.bytes.now 0 _ (omega arith) c.take_first.ensures (omega arith) c.in-Some.is in
    reply-first x.out.now x.code l c.rest.ensures c.reply_to.ensures
