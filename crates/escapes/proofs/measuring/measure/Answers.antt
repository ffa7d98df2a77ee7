use Rattle.escapes.proofs.LetterLaws.{sound-at, escape-room}
use Rattle.escapes.proofs.MeasureLaws.{start, step-own, step-escape, ends}
use Rattle.escapes.proofs.measuring.measure.Goals as goal
use borrow.Author.Rules.{rules}
use mathlib.Core.Bool.{false}
use mathlib.Core.Path.{◌≡◌}
use native.Mathlib.Omega.{arith}

pub loop-i-init : goal.loop-i-init
loop-i-init c =
    let e : c.default-m.result ≡ (record { length = 0; points = 0; broken = false; breaks = false }) = search rules in
    rw e (start c.args.raw.now)

pub with_code-m-requires : goal.with_code-m-requires
with_code-m-requires c =
    let x = c.args in
    let l = c.loop-i in
    let e = c.escape_at-e in
    let q = sound-at x.raw.now l.i (omega arith) e.result e.ensures in
    (omega (arith, q.fits, l.invariant.short, escape-room x.raw.now l.i (omega arith) e.result e.ensures), omega (arith, l.invariant.few))

pub overflow_add-i : goal.overflow_add-i
overflow_add-i c =
    let x = c.args in
    let l = c.loop-i in
    let e = c.escape_at-e in
    omega (arith, escape-room x.raw.now l.i (omega arith) e.result e.ensures)

pub loop-i-smaller-then-b-eq92 : goal.loop-i-smaller-then-b-eq92
loop-i-smaller-then-b-eq92 c =
    let x = c.args in
    let l = c.loop-i in
    let e = c.escape_at-e in
    omega (arith, (sound-at x.raw.now l.i (omega arith) e.result e.ensures).some, escape-room x.raw.now l.i (omega arith) e.result e.ensures)

pub loop-i-preserved-then-b-eq92 : goal.loop-i-preserved-then-b-eq92
loop-i-preserved-then-b-eq92 c =
    let l = c.loop-i in
    let e = c.escape_at-e in
    step-escape _ e.result l.invariant (omega arith) c.if-b-eq92.true e.ensures c.with_code-m.ensures

pub with_byte-m-requires : goal.with_byte-m-requires
with_byte-m-requires c =
    let l = c.loop-i in
    (omega (arith, l.invariant.short), omega (arith, l.invariant.few))

pub loop-i-preserved : goal.loop-i-preserved
loop-i-preserved c = step-own _ c.loop-i.invariant (omega arith) c.if-b-eq92.false c.with_byte-m.ensures

pub returns : goal.returns
returns c = ends c.loop-i.invariant c.loop-i-test.false
