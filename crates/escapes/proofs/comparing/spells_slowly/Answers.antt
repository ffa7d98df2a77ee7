use Rattle.escapes.proofs.LetterLaws.{sound-at, escape-room}
use Rattle.escapes.proofs.SpellLaws.{own-goes, own-stops, own-past, escape-lone, escape-goes, escape-stops, all_read, text-room}
use Rattle.escapes.proofs.comparing.spells_slowly.Goals as goal
use borrow.Author.Rules.{rules}
use mathlib.Core.Path.{◌∙◌, refl, sym}
use native.Mathlib.Omega.{arith}

pub loop-i-init : goal.loop-i-init
loop-i-init c = (search rules, search rules, refl)

pub returns-then-is_surrogate : goal.returns-then-is_surrogate
returns-then-is_surrogate c =
    let x = c.args in
    let l = c.loop-i in
    let e = c.escape_at-e in
    sym (l.invariant.2 ∙ escape-lone x.raw.now x.w.now l.i l.j (omega arith) c.if-b-eq92.true e.result e.ensures
    (sym c.is_surrogate.ensures ∙ c.if-is_surrogate.true))

pub code_stands-n-requires : goal.code_stands-n-requires
code_stands-n-requires c =
    let x = c.args in
    let l = c.loop-i in
    let e = c.escape_at-e in
    (sound-at x.raw.now l.i (omega arith) e.result e.ensures).number

pub returns-then-n-eq0 : goal.returns-then-n-eq0
returns-then-n-eq0 c =
    let x = c.args in
    let l = c.loop-i in
    let e = c.escape_at-e in
    sym (l.invariant.2 ∙ escape-stops x.raw.now x.w.now l.i l.j (omega arith) c.if-b-eq92.true e.result e.ensures
    c.code_stands-n.result c.code_stands-n.ensures c.if-n-eq0.true)

pub overflow_add-i : goal.overflow_add-i
overflow_add-i c =
    let x = c.args in
    let l = c.loop-i in
    let e = c.escape_at-e in
    omega (arith, escape-room x.raw.now l.i (omega arith) e.result e.ensures)

pub overflow_add-j : goal.overflow_add-j
overflow_add-j c =
    let x = c.args in
    let l = c.loop-i in
    let e = c.escape_at-e in
    let n = c.code_stands-n in
    omega (
      arith,
      text-room x.raw.now x.w.now l.i l.j (omega arith) c.if-b-eq92.true e.result e.ensures
          n.result n.ensures c.if-n-eq0.false,
    )

pub loop-i-smaller-then-b-eq92 : goal.loop-i-smaller-then-b-eq92
loop-i-smaller-then-b-eq92 c =
    let x = c.args in
    let l = c.loop-i in
    let e = c.escape_at-e in
    omega (arith, (sound-at x.raw.now l.i (omega arith) e.result e.ensures).some, escape-room x.raw.now l.i (omega arith) e.result e.ensures)

pub loop-i-preserved-then-b-eq92 : goal.loop-i-preserved-then-b-eq92
loop-i-preserved-then-b-eq92 c =
    let x = c.args in
    let l = c.loop-i in
    let e = c.escape_at-e in
    let n = c.code_stands-n in
    let go = escape-goes x.raw.now x.w.now l.i l.j (omega arith) c.if-b-eq92.true e.result e.ensures n.result
    n.ensures c.if-n-eq0.false in (
      omega (arith, escape-room x.raw.now l.i (omega arith) e.result e.ensures),
      omega (
        arith,
        text-room x.raw.now x.w.now l.i l.j (omega arith) c.if-b-eq92.true e.result e.ensures
            n.result n.ensures c.if-n-eq0.false,
      ),
      l.invariant.2 ∙ go (sym c.is_surrogate.ensures ∙ c.if-is_surrogate.false),
    )

pub returns-then-w-j : goal.returns-then-w-j
returns-then-w-j c =
    let x = c.args in
    let l = c.loop-i in
    sym (l.invariant.2 ∙ own-past x.raw.now x.w.now l.i l.j (omega arith) c.if-b-eq92.false c.if-w-j.true)

pub returns-then-w-j-2 : goal.returns-then-w-j-2
returns-then-w-j-2 c =
    let x = c.args in
    let l = c.loop-i in
    sym (l.invariant.2 ∙ own-stops x.raw.now x.w.now l.i l.j (omega arith) c.if-b-eq92.false (omega arith) c.if-w-j-2.true)

pub loop-i-preserved : goal.loop-i-preserved
loop-i-preserved c =
    let x = c.args in
    let l = c.loop-i in
    (search rules, search rules, l.invariant.2 ∙ own-goes x.raw.now x.w.now l.i l.j (omega arith) c.if-b-eq92.false (omega arith) c.if-w-j-2.false)

pub returns : goal.returns
returns c =
    let x = c.args in
    let l = c.loop-i in
    sym (l.invariant.2 ∙ all_read x.raw.now x.w.now l.i l.j (omega arith) (omega arith))
