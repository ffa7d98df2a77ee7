-- `writing::replies::reply` meets its contract: what is read decides. Assumes nothing.
use Rattle.writing.proofs.WayLaws.{refused_as, wrote_as, reply-none, reply_of_lem}
use Rattle.writing.proofs.replies.reply.Goals as goal
use Rattle.writing.specs.declared.answers.Refusal.TheVariants.{Kind}
use mathlib.Core.Path.{sym, ◌∙◌}

pub reply_to-requires : goal.reply_to-requires
reply_to-requires c = sym c.read.ensures ∙ c.in-Ok.is

pub returns-in-Err : goal.returns-in-Err
returns-in-Err c =
    let x = c.args in
    refused_as x.out.now Kind (reply-none x.s.now x.code x.date.now _ (sym c.read.ensures ∙ c.in-Err.is))

pub returns-in-Ok : goal.returns-in-Ok
returns-in-Ok c =
    let x = c.args in wrote_as (reply_of_lem x.s.now _ x.code x.date.now (sym c.read.ensures ∙ c.in-Ok.is)) c.reply_to.ensures
