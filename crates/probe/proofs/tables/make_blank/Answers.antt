-- The first n bytes are lent. Assumes nothing.
use Rattle.probe.proofs.TableLaws.{made, made_held}
use Rattle.probe.proofs.tables.make_blank.Goals as goal
use lib.ListN.{length}
use mathlib.Core.Path.{◌≡◌, ◌∙◌}
use native.Mathlib.Omega.{arith}

pub returns : goal.returns
returns c =
    let x = c.args in
    let b = c.blank.ensures in
    let l : length c.blank.new.out ≡ x.n = omega arith in
    let k = made_held x.held.now x.n x.count (omega arith) c.blank.new.out l b.1 in
    (c.is_ok.ensures.value ∙ made x.held.now x.n x.count (omega arith) b.0, k.0, k.1)
