-- `writing::replies::reply_to` meets its contract. One law of `WayLaws` for each way out. Assumes nothing.
use Prim.Native.Nat.{ℕ}
use Rattle.rules.specs.Status.{status_text}
use Rattle.writing.proofs.PutLaws.{status-short, put-front}
use Rattle.writing.proofs.WayLaws.{refused_as, wrote_as, no-reply, bad-code, bad-date, a-reply}
use Rattle.writing.proofs.replies.reply_to.Goals as goal
use Rattle.writing.specs.Outcome.{write}
use Rattle.writing.specs.Reply.{reply_text}
use Rattle.writing.specs.declared.answers.Refusal.TheVariants.{Kind, Code, Date}
use lib.ListN.{length}
use mathlib.Core.List.{List}
use mathlib.Core.Path.{sym, ap, ◌∙◌}
use native.Mathlib.Omega.{arith}

pub returns-then-is_unanswered : goal.returns-then-is_unanswered
returns-then-is_unanswered c =
    let x = c.args in
    refused_as x.out.now Kind (no-reply x.s.now x.m x.code x.date.now (sym c.is_unanswered.ensures ∙ c.if-is_unanswered.true))

pub returns-then-is_wrong_code : goal.returns-then-is_wrong_code
returns-then-is_wrong_code c =
    let x = c.args in
    refused_as x.out.now Code (bad-code x.s.now x.m x.code x.date.now
    (sym c.is_unanswered.ensures ∙ c.if-is_unanswered.false) (sym c.is_wrong_code.ensures ∙ c.if-is_wrong_code.true))

pub returns-then-not-is_date : goal.returns-then-not-is_date
returns-then-not-is_date c =
    let x = c.args in refused_as x.out.now Date
    (bad-date x.s.now x.m x.code x.date.now (sym c.is_unanswered.ensures ∙ c.if-is_unanswered.false)
    (sym c.is_wrong_code.ensures ∙ c.if-is_wrong_code.false) (sym c.is_date.ensures ∙ c.if-not-is_date.true))

pub put_status-end-requires : goal.put_status-end-requires
put_status-end-requires c = omega (arith, status-short c.args.code)

pub slice_bounds-status-end : goal.slice_bounds-status-end
slice_bounds-status-end c = omega (arith, c.put_status-end.ensures.0, ap length (put-front _ (status_text c.args.code) c.put_status-end.ensures))

pub slice_bounds-room-end : goal.slice_bounds-room-end
slice_bounds-room-end c = omega (arith, c.put_status-end.ensures.0, status-short c.args.code, c.put_status-end.auto.out)

pub returns : goal.returns
unfolding reply_text
returns c =
    let x = c.args in
    wrote_as (a-reply x.s.now x.m x.code x.date.now (sym c.is_unanswered.ensures ∙ c.if-is_unanswered.false)
    (sym c.is_wrong_code.ensures ∙ c.if-is_wrong_code.false) (sym c.is_date.ensures ∙ c.if-not-is_date.false)
    c.value_part.ensures c.value_part-2.ensures c.value_part-3.ensures c.value_part-4.ensures
    c.value_part-5.ensures)
    (wrote_as (ap (λ (st : List ℕ). write (reply_text st c.value_part.result.now c.value_part-2.result.now c.value_part-3.result.now
    c.value_part-4.result.now x.date.now c.value_part-5.result.now))
    (sym (put-front _ (status_text x.code) c.put_status-end.ensures))) c.put_parts.ensures)
