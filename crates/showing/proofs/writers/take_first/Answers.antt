-- No space, or by what `take_bytes` says of the first word. Assumes nothing.
use Rattle.showing.proofs.WordLaws.{got_none}
use Rattle.showing.proofs.WriterLaws.{first_got, first-none, first-room}
use Rattle.showing.proofs.writers.take_first.Goals as goal
use borrow.Author.Tests.{not-false, not-true}
use mathlib.Core.Path.{◌∙◌, sym}

pub returns-then-not-has_space : goal.returns-then-not-has_space
returns-then-not-has_space c = got_none (first-none c.args.words.now (sym c.has_space.ensures ∙ not-true _ c.if-not-has_space.true-raw))

pub take_bytes-requires : goal.take_bytes-requires
take_bytes-requires c =
    rw c.first.ensures (first-room c.args.words.now c.args.at c.requires)

pub returns : goal.returns
returns c =
    first_got c.args.words.now (sym c.has_space.ensures ∙ not-false _ c.if-not-has_space.false-raw)
    (rw c.first.ensures at c.take_bytes.ensures)
