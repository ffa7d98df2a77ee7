-- `octets::texts::before` meets its contract. By what `position` answers. Assumes nothing.
use Rattle.octets.proofs.TextLaws.{before_or_all}
use Rattle.octets.proofs.texts.before.Goals as goal
use Rattle.std.proofs.lemmas.Iterator.Search.{position_from_yields_List}
use Rattle.std.proofs.lemmas.Iterator.{YieldsList-from_slice}
use borrow.Author.Rules.{rules}
use borrow.Author.Tests.{tests}
use lib.Dec.{eqb}
use mathlib.Core.Path.{◌∙◌}

pub returns : goal.returns
returns c =
    let x = c.args in
    let e = position_from_yields_List (λ y. eqb y x.b) _ _ c.position.result c.position.ensures.ran (YieldsList-from_slice x.s.now cc) (λ y t q k. search (rules, tests)) in
    c.unwrap_or.ensures ∙ before_or_all x.b x.s.now e
