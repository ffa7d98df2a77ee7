-- `ceiling`, or any other command. Assumes nothing.
use Rattle.probe.proofs.CeilingLaws.{ceiling-set}
use Rattle.probe.proofs.CommandLaws.{does-plain, finishes}
use Rattle.probe.proofs.commands.obey.Goals as goal
use lib.ListN.{take}
use mathlib.Core.Path.{sym, ◌∙◌}

pub returns-then-same : goal.returns-then-same
returns-then-same c =
    let x = c.args in
    ceiling-set x.ceiling x.size x.held.now x.name.now x.words.now x.out.now (sym c.same.ensures ∙ c.if-same.true) c.set_ceiling-set.ensures
    c.requires.0

pub returns : goal.returns
returns c =
    let x = c.args in
    finishes x.ceiling x.out.now
    (does-plain x.ceiling (take x.size x.held.now) x.name.now x.words.now (sym c.same.ensures ∙ c.if-same.false)) c.obey_plain-a.ensures
    c.keep_ceiling.ensures
