-- By whether the word stands for bytes. Assumes nothing.
use Rattle.showing.proofs.WordLaws.{got_none, got_some}
use Rattle.showing.proofs.words.take_bytes.Goals as goal
use Rattle.showing.specs.Words.{hex_bytes}
use mathlib.Core.Path.{◌∙◌, sym}

pub returns-then-is_hex_to : goal.returns-then-is_hex_to
returns-then-is_hex_to c =
    let x = c.args in
    got_some x.bytes.now x.at (hex_bytes x.word.now) (sym c.is_hex_to.ensures ∙ c.if-is_hex_to.true) c.put_bytes.ensures

pub returns-else-is_hex_to : goal.returns-else-is_hex_to
returns-else-is_hex_to c =
    got_none (sym c.is_hex_to.ensures ∙ c.if-is_hex_to.false)
