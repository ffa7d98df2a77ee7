-- `octets::classes::is_digits` meets its contract, by what the library's range holds and what `all` answers. Assumes nothing.
use Rattle.octets.proofs.ClassLaws.{every}
use Rattle.octets.proofs.classes.is_digits.Goals as goal
use Rattle.octets.specs.Class.{among, digits_rule, is_digit}
use Rattle.std.proofs.lemmas.Iterator.Search.{all_from_yields_List}
use Rattle.std.proofs.lemmas.Iterator.{YieldsList-from_slice}
use borrow.Author.Rules.{rules}
use borrow.Author.Tests.{tests}
use lib.ListN.{length}
use mathlib.Core.Path.{◌≡◌}

pub returns-then-contains : goal.returns-then-contains
unfolding digits_rule among
returns-then-contains c =
    let x = c.args in
    let r : c.contains.result ≡ among x.lo x.hi (length x.s.now) = search rules in
    let a = all_from_yields_List is_digit _ _ c.all.result c.all.ensures.ran (YieldsList-from_slice x.s.now cc) (λ y b q k. search (rules, tests)) in
    rw (← r, c.if-contains.true, ← every is_digit x.s.now) a

pub returns-else-contains : goal.returns-else-contains
unfolding digits_rule among
returns-else-contains c =
    let x = c.args in
    let r : c.contains.result ≡ among x.lo x.hi (length x.s.now) = search rules in
    rw (← r, c.if-contains.false)
