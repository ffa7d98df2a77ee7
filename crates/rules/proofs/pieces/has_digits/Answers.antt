-- `pieces::has_digits` meets its contract, by what `all` answers over a range. Assumes nothing.
use Rattle.octets.specs.Class.{is_digit}
use Rattle.rules.proofs.PieceLaws.{digits_all}
use Rattle.rules.proofs.pieces.has_digits.Goals as goal
use Rattle.std.proofs.lemmas.Iterator.Search.{all_from_yields_List}
use Rattle.std.proofs.lemmas.Iterator.{YieldsList-from_range}
use borrow.Author.Rules.{rules}
use borrow.Author.Tests.{tests}
use Prim.Native.Nat.{◌+◌}
use lib.ListN.{get_or}
use mathlib.Core.Path.{◌∙◌}
use native.Mathlib.Omega.{arith}

pub returns : goal.returns
returns c =
    let x = c.args in
    let e = all_from_yields_List (λ i. is_digit (get_or x.s.now (x.at + i) 0)) _ _ c.all.result c.all.ensures.ran
    (YieldsList-from_range 0 x.n x.n (cc) (omega arith)) (λ y b q k. search (rules, tests)) in
    e ∙ digits_all x.s.now x.at x.n
