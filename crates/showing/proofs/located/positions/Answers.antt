-- By whether the word stands for bytes. Assumes nothing.
use Rattle.showing.proofs.LocatedLaws.{positions-good, positions-unknown}
use Rattle.showing.proofs.ShownLaws.{says}
use Rattle.showing.proofs.WordLaws.{got_alone, got_false, got_place, got_true, half}
use Rattle.showing.proofs.located.positions.Goals as goal
use Rattle.showing.specs.Words.{is_bytes}
use native.Mathlib.Omega.{arith}

pub returns-in_default : goal.returns-in_default
returns-in_default c =
    let x = c.args in
    says x.out.now (positions-unknown x.word.now (got_false (is_bytes x.word.now) c.take_bytes.ensures c.in_default.is)) c.put_unknown.ensures

pub locate-requires : goal.locate-requires
locate-requires c =
    let w = c.args.word.now in
    let t = c.take_bytes.ensures in
    omega (arith, half w, (got_place t (got_true (is_bytes w) t c.in-Some.is) c.in-Some.is).0)

pub returns : goal.returns
returns c =
    let x = c.args in
    let t = c.take_bytes.ensures in
    says x.out.now (positions-good x.word.now (got_true (is_bytes x.word.now) t c.in-Some.is))
    (rw (got_alone (is_bytes x.word.now) t c.in-Some.is) at c.locate.ensures)
