-- `texts::is_memo` meets its contract, by what `all` answers and how many points there are. Assumes nothing.
use Rattle.octets.proofs.ClassLaws.{every}
use Rattle.rules.proofs.texts.is_memo.Goals as goal
use Rattle.rules.specs.Texts.{memo_rule, no_break}
use Rattle.std.proofs.Common.{rules}
use Rattle.std.proofs.lemmas.Iterator.Search.{all_from_yields_List}
use Rattle.std.proofs.lemmas.Iterator.{YieldsList-from_slice}
use borrow.Author.Tests.{tests}

pub returns-then-all : goal.returns-then-all
unfolding memo_rule no_break
returns-then-all c =
    let s = c.args.s.now in
    let a = all_from_yields_List no_break _ _ c.all.result c.all.ensures.ran (YieldsList-from_slice s cc) (λ y b q k. search (rules, tests)) in
    rw (← every no_break s, ← a, c.if-all.true, ← c.points.ensures)

pub returns-else-all : goal.returns-else-all
unfolding memo_rule no_break
returns-else-all c =
    let s = c.args.s.now in
    let a = all_from_yields_List no_break _ _ c.all.result c.all.ensures.ran (YieldsList-from_slice s cc) (λ y b q k. search (rules, tests)) in
    rw (← every no_break s, ← a, c.if-all.false)
