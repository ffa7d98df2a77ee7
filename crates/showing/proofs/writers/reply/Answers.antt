-- No code, or a code and the words behind it. Assumes nothing.
use Rattle.showing.proofs.WriterLaws.{number-small, reply-coded, reply-refused, rest-room}
use Rattle.showing.proofs.writers.reply.Goals as goal
use mathlib.Core.Path.{◌∙◌, sym}
use native.Mathlib.Omega.{arith}

pub returns-in_default : goal.returns-in_default
returns-in_default c =
    let x = c.args in reply-refused x.out.now x.words.now (sym c.first_number.ensures ∙ c.in_default.is) c.put_unknown.ensures

pub overflow_cast-code : goal.overflow_cast-code
overflow_cast-code c = omega (arith, number-small 65535 c.args.words.now (sym c.first_number.ensures ∙ c.in-Some.is))

pub reply_dated-requires : goal.reply_dated-requires
reply_dated-requires c =
    let x = c.args in
    rw c.rest.ensures (omega (arith, rest-room x.words.now 0 (omega arith)))

pub returns : goal.returns
returns c =
    let x = c.args in reply-coded x.out.now x.words.now (sym c.first_number.ensures ∙ c.in-Some.is) c.rest.ensures c.reply_dated.ensures
