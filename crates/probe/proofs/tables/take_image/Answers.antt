-- As many bytes as pairs of digits. Assumes nothing.
use Rattle.hex_text.proofs.HexLaws.{length-decoded}
use Rattle.probe.proofs.tables.take_image.Goals as goal
use Rattle.showing.proofs.WordLaws.{stands}
use mathlib.Core.Path.{◌∙◌, sym}

pub returns : goal.returns
returns c =
    let w = c.args.word.now in
    rw (← stands w) (c.decode.ensures.0 ∙ sym (length-decoded w), c.decode.ensures.1)
