-- `keeper::steps::agrees_decoded` meets its contract. Assumes nothing.
use Rattle.keeper.proofs.TextLaws.{callee-fire-text, callee-text, caller-fire-text, caller-text, user-text}
use Rattle.keeper.proofs.steps.agrees_decoded.Goals as goal
use mathlib.Core.Path.{refl, ◌∙◌}

pub returns : goal.returns
returns c =
    let s = c.args.s.now in
    let m = c.args.m in
    let caller = caller-text s m c.requires.1 (c.text-caller.ensures ∙ c.of-calling.ensures) c.caller_address.ensures in
    let callee = callee-text s m c.requires.1 (c.text-callee.ensures ∙ c.of-called.ensures) c.callee_address.ensures in
    rw (← (user-text s m caller refl), ← (caller-fire-text s m caller refl), ← (callee-fire-text s m callee refl)) c.are_parties.ensures
