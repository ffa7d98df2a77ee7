-- No space, or the number of the first word. Assumes nothing.
use Rattle.showing.proofs.WriterLaws.{number-first, number-none}
use Rattle.showing.proofs.writers.first_number.Goals as goal
use Rattle.showing.specs.Words.{number_to}
use borrow.Author.Tests.{not-false, not-true}
use mathlib.Core.Path.{◌∙◌, ap, sym}

pub returns-then-not-has_space : goal.returns-then-not-has_space
returns-then-not-has_space c = number-none c.args.most c.args.words.now (sym c.has_space.ensures ∙ not-true _ c.if-not-has_space.true-raw)

pub returns : goal.returns
returns c =
    let x = c.args in
    c.number_to.ensures ∙ ap (number_to x.most) c.first.ensures
    ∙ number-first x.most x.words.now (sym c.has_space.ensures ∙ not-false _ c.if-not-has_space.false-raw)
