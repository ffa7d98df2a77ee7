-- `texts::points` meets its contract, by what `count` answers. Assumes nothing.
use Rattle.rules.proofs.PieceLaws.{points-counted}
use Rattle.rules.proofs.texts.points.Goals as goal
use Rattle.rules.specs.Texts.{begins_point}
use Rattle.std.proofs.Common.{rules, ◌≡◌}
use Rattle.std.specs.List.{count_by}
use mathlib.Core.Path.{sym, ◌∙◌}

pub returns : goal.returns
unfolding begins_point
returns c =
    let s = c.args.s.now in
    let n : c.count.result ≡ count_by begins_point s = search rules in
    n ∙ sym (points-counted s)
