use Rattle.escapes.proofs.LetterLaws.{sound-at, escape-room}
use Rattle.escapes.proofs.PlaceLaws.{start, ends, own-stops, own-more, escape-stops, escape-more}
use Rattle.escapes.proofs.placing.place_of.Goals as goal
use native.Mathlib.Omega.{arith}

pub loop-i-init : goal.loop-i-init
loop-i-init c = start c.args.raw.now c.args.k

pub returns-then-n-w : goal.returns-then-n-w
returns-then-n-w c =
    let e = c.escape_at-e in
    let l = c.loop-i in
    escape-stops l.invariant (omega arith) e.result e.ensures c.if-raw-i-eq92.true c.width-w.ensures c.if-n-w.true

pub overflow_add-i : goal.overflow_add-i
overflow_add-i c =
    let x = c.args in
    let l = c.loop-i in
    let e = c.escape_at-e in
    omega (arith, escape-room x.raw.now l.i (omega arith) e.result e.ensures)

pub loop-i-smaller-then-raw-i-eq92 : goal.loop-i-smaller-then-raw-i-eq92
loop-i-smaller-then-raw-i-eq92 c =
    let x = c.args in
    let l = c.loop-i in
    let e = c.escape_at-e in
    omega (arith, (sound-at x.raw.now l.i (omega arith) e.result e.ensures).some, escape-room x.raw.now l.i (omega arith) e.result e.ensures)

pub loop-i-preserved-then-raw-i-eq92 : goal.loop-i-preserved-then-raw-i-eq92
loop-i-preserved-then-raw-i-eq92 c =
    let e = c.escape_at-e in
    let l = c.loop-i in
    escape-more l.invariant (omega arith) e.result e.ensures c.if-raw-i-eq92.true c.width-w.ensures c.if-n-w.false

pub returns-then-n-eq0 : goal.returns-then-n-eq0
returns-then-n-eq0 c = own-stops c.loop-i.invariant (omega arith) c.if-raw-i-eq92.false c.if-n-eq0.true

pub loop-i-preserved : goal.loop-i-preserved
loop-i-preserved c = own-more c.loop-i.invariant (omega arith) c.if-raw-i-eq92.false c.if-n-eq0.false

pub returns : goal.returns
returns c = ends c.loop-i.invariant c.loop-i-test.false
