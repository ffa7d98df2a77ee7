-- `keeper::steps::agrees_at` meets its contract. As the addresses are spelled where they have no escape, and else decoded. Assumes nothing.
use Rattle.keeper.proofs.TextLaws.{callee-fire-text, callee-own, caller-fire-text, caller-own, user-text}
use Rattle.keeper.proofs.steps.agrees_at.Goals as goal
use mathlib.Core.Path.{refl}
use native.Mathlib.Omega.{arith}

pub overflow_add-a : goal.overflow_add-a
overflow_add-a c = let n = c.requires.1 in omega (arith, n.caller-ends, n.caller-short)

pub overflow_add-b : goal.overflow_add-b
overflow_add-b c = let n = c.requires.1 in omega (arith, n.callee-ends, n.callee-short)

pub returns : goal.returns
returns c =
    let s = c.args.s.now in
    let m = c.args.m in
    let caller = caller-own s m c.requires.1 c.caller_address-caller.ensures (omega arith) in
    let callee = callee-own s m c.requires.1 c.callee_address-callee.ensures (omega arith) in
    rw (← (user-text s m caller refl), ← (caller-fire-text s m caller refl), ← (callee-fire-text s m callee refl)) c.are_parties.ensures
