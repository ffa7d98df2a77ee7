-- `particulars::leaves::keeps` meets its contract, leaf by leaf. Assumes nothing.
use Rattle.particulars.proofs.LeafLaws.{leaf-kept}
use Rattle.particulars.proofs.leaves.keeps.Goals as goal
use Rattle.particulars.specs.Leaves.{keeps}
use Rattle.std.specs.Option.{is_some}
use mathlib.Core.Path.{ap, sym, ◌∙◌}

pub returns-in-Text : goal.returns-in-Text
unfolding keeps
returns-in-Text c = rw c.in-Text.is c.is_text.ensures

pub returns-in-Name : goal.returns-in-Name
unfolding keeps
returns-in-Name c = rw (c.in-Name.is, ← c.least_name.ensures) c.is_text-in-Name.ensures

pub returns-in-Filled : goal.returns-in-Filled
unfolding keeps
returns-in-Filled c = rw c.in-Filled.is c.is_filled.ensures

pub returns-in-Coordinate : goal.returns-in-Coordinate
unfolding keeps
returns-in-Coordinate c = rw c.in-Coordinate.is (c.is_some.ensures ∙ ap is_some c.coordinate_of.ensures)

pub returns-in-Metres : goal.returns-in-Metres
unfolding keeps
returns-in-Metres c = rw c.in-Metres.is c.is_metres.ensures

pub returns-in-Accuracy : goal.returns-in-Accuracy
unfolding keeps
returns-in-Accuracy c = rw c.in-Accuracy.is c.is_accuracy.ensures

pub returns-in_default : goal.returns-in_default
returns-in_default c =
    let d = c.in_default in
    let a = c.args in
    c.keeps_text.ensures ∙ sym (leaf-kept a.w a.l a.v.now d.not-Text d.not-Name d.not-Filled d.not-Coordinate d.not-Metres d.not-Accuracy)
