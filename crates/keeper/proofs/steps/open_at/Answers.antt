-- `keeper::steps::open_at` meets its contract. The texts are found in the message or decoded, and fit their rooms. Assumes nothing.
use Rattle.keeper.proofs.StepLaws.{opened}
use Rattle.keeper.proofs.TextLaws.{call-text, callee-fire-text, callee-text, caller-fire-text, caller-text, user-text}
use Rattle.keeper.proofs.steps.open_at.Goals as goal
use Rattle.rules.proofs.PartLaws.{call_id_length, user-length, fire-length}
use mathlib.Core.Path.{◌∙◌}

pub open-requires : goal.open-requires
open-requires c =
    let s = c.args.s.now in
    let m = c.args.m in
    let n = c.requires.1 in
    let id = call-text s m n (c.text-id.ensures ∙ c.of-named.ensures) c.call_id-spelled.ensures in
    let caller = caller-text s m n (c.text-caller.ensures ∙ c.of-calling.ensures) c.caller_address.ensures in
    let callee = callee-text s m n (c.text-callee.ensures ∙ c.of-called.ensures) c.callee_address.ensures in (
      c.requires.0,
      rw id (call_id_length _ n.call_id).1,
      rw (user-text s m caller c.user-user.ensures) (user-length _ n.user).1,
      rw (caller-fire-text s m caller c.caller_fire-caller_fire.ensures) (fire-length _ n.caller-fire).1,
      rw (callee-fire-text s m callee c.callee_fire-callee_fire.ensures) (fire-length _ n.callee-fire).1,
    )

pub returns : goal.returns
returns c =
    let s = c.args.s.now in
    let m = c.args.m in
    let n = c.requires.1 in
    let id = call-text s m n (c.text-id.ensures ∙ c.of-named.ensures) c.call_id-spelled.ensures in
    let caller = caller-text s m n (c.text-caller.ensures ∙ c.of-calling.ensures) c.caller_address.ensures in
    let callee = callee-text s m n (c.text-callee.ensures ∙ c.of-called.ensures) c.callee_address.ensures in
    opened c.args.t.now s m c.args.c c.args.k id (user-text s m caller c.user-user.ensures)
    (caller-fire-text s m caller c.caller_fire-caller_fire.ensures)
    (callee-fire-text s m callee c.callee_fire-callee_fire.ensures) c.fields_from.ensures
    c.«open».ensures
