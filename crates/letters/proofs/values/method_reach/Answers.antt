-- `values::method_reach` meets its contract: the furthest of the words. Assumes nothing.
use Rattle.letters.proofs.JoinLaws.{methods-are}
use Rattle.letters.proofs.RuleLaws.{methods-inside}
use Rattle.letters.proofs.values.method_reach.Goals as goal
use native.Mathlib.Omega.{arith}

pub returns : goal.returns
returns c = let s = c.args.s.now in
    let e = methods-are s c.common-invite.ensures.0
    c.common-bye.ensures.0 c.common-cancel.ensures.0
    c.common-ack.ensures.0
    c.common-message.ensures.0
    c.common-callback.ensures.0
    c.common-refer.ensures.0
    c.common-notify.ensures.0 c.max.ensures
    c.max-2.ensures c.max-last.ensures c.max-3.ensures
    c.max-4.ensures c.max-5.ensures c.max-6.ensures in (e, omega (arith, methods-inside s))
