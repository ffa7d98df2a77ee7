-- Every byte, two for each byte. Assumes nothing.
use Rattle.hex_text.proofs.is_hex.Goals as goal
use Rattle.hex_text.specs.Digits.{is_hex, is_lower_hex}
use Rattle.octets.proofs.ClassLaws.{every}
use Rattle.std.proofs.lemmas.Iterator.Search.{all_from_yields_List}
use Rattle.std.proofs.lemmas.Iterator.{YieldsList-from_slice}
use borrow.Author.Rules.{rules}
use borrow.Author.Tests.{eq-eqb, ne_eqb, tests}
use mathlib.Core.Path.{◌∙◌}

pub returns-then-s-eq0 : goal.returns-then-s-eq0
unfolding is_hex
returns-then-s-eq0 c =
    let s = c.args.s.now in
    let e = all_from_yields_List is_lower_hex _ _ c.all.result c.all.ensures.ran (YieldsList-from_slice s cc) (λ x b q k. search (rules, tests)) in
    rw (eq-eqb _ _ c.if-s-eq0.true) (e ∙ every is_lower_hex s)

pub returns-else-s-eq0 : goal.returns-else-s-eq0
unfolding is_hex
returns-else-s-eq0 c = rw (ne_eqb _ _ c.if-s-eq0.false)
