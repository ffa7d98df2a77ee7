-- By whether the word stands for an image. Assumes nothing.
use Rattle.lines.proofs.WritingLaws.{front-written}
use Rattle.probe.proofs.TableLaws.{image, no-image, stays, turns}
use Rattle.probe.proofs.tables.hold.Goals as goal
use Rattle.probe.specs.Tables.{verdict_text}
use Rattle.showing.proofs.WordLaws.{hex-short, stands-length}
use Rattle.showing.specs.Words.{hex_bytes}
use Rattle.table.specs.WellFormed.{well_formed}
use borrow.Author.Tests.{not-false, not-true}
use lib.ListN.{take}
use mathlib.Core.Path.{◌∙◌, sym}
use native.Mathlib.Omega.{arith}

pub returns-then-not-is_hex_to : goal.returns-then-not-is_hex_to
returns-then-not-is_hex_to c =
    let x = c.args in
    let t = take x.size x.held.now in
    stays x.out.now x.size x.held.now (no-image t x.word.now (sym c.is_hex_to.ensures ∙ not-true _ c.if-not-is_hex_to.true-raw))
    c.answer_unknown.ensures c.requires

pub take_image-n-requires : goal.take_image-n-requires
take_image-n-requires c = omega
    (arith, hex-short 131072 c.args.word.now (omega arith) (sym c.is_hex_to.ensures ∙ not-false _ c.if-not-is_hex_to.false-raw))

pub judge-requires : goal.judge-requires
judge-requires c =
    let w = c.args.word.now in
    omega (
      arith,
      stands-length w,
      c.take_image-n.ensures.0,
      hex-short 131072 w (omega arith) (sym c.is_hex_to.ensures ∙ not-false _ c.if-not-is_hex_to.false-raw),
    )

pub returns : goal.returns
returns c =
    let x = c.args in
    let w = x.word.now in
    let m = c.take_image-n.ensures in
    let g = sym c.is_hex_to.ensures ∙ not-false _ c.if-not-is_hex_to.false-raw in
    let f = front-written x.held.now (hex_bytes w) m.1 m.0 in
    turns x.out.now c.take_image-n.result c.take_image-n.new.held (hex_bytes w) (verdict_text (well_formed (hex_bytes w)))
    (image (take x.size x.held.now) w g) (rw f at c.judge.ensures) f (omega (arith, stands-length w, m.0, hex-short 131072 w (omega arith) g))
