use Rattle.escapes.proofs.DecodeLaws.{start, step-own, step-escape, ends}
use Rattle.escapes.proofs.LetterLaws.{sound-at, escape-room}
use Rattle.escapes.proofs.decoding.decode.Goals as goal
use native.Mathlib.Omega.{arith}

pub loop-i-init : goal.loop-i-init
loop-i-init c = start c.args.raw.now c.args.out.now

pub put_code-n-requires : goal.put_code-n-requires
put_code-n-requires c =
    let x = c.args in
    let l = c.loop-i in
    let e = c.escape_at-e in
    let q = sound-at x.raw.now l.i (omega arith) e.result e.ensures in
    (q.number, omega (arith, q.fits, l.invariant.short, escape-room x.raw.now l.i (omega arith) e.result e.ensures))

pub overflow_add-i : goal.overflow_add-i
overflow_add-i c =
    let x = c.args in
    let l = c.loop-i in
    let e = c.escape_at-e in
    omega (arith, escape-room x.raw.now l.i (omega arith) e.result e.ensures)

pub loop-i-smaller-then-b-eq92 : goal.loop-i-smaller-then-b-eq92
loop-i-smaller-then-b-eq92 c =
    let x = c.args in
    let l = c.loop-i in
    let e = c.escape_at-e in
    omega (arith, (sound-at x.raw.now l.i (omega arith) e.result e.ensures).some, escape-room x.raw.now l.i (omega arith) e.result e.ensures)

pub loop-i-preserved-then-b-eq92 : goal.loop-i-preserved-then-b-eq92
loop-i-preserved-then-b-eq92 c =
    let l = c.loop-i in
    let e = c.escape_at-e in
    step-escape _ _ e.result l.invariant (omega arith) c.if-b-eq92.true e.ensures c.put_code-n.ensures

pub put_byte-n-requires : goal.put_byte-n-requires
put_byte-n-requires c = omega (arith, c.loop-i.invariant.short)

pub loop-i-preserved : goal.loop-i-preserved
loop-i-preserved c =
    step-own _ _ c.loop-i.invariant (omega arith) c.if-b-eq92.false c.put_byte-n.ensures

pub returns : goal.returns
returns c = ends c.loop-i.invariant c.loop-i-test.false
