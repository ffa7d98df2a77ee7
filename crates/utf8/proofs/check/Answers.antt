use Rattle.utf8.proofs.PassedLaws.{stays, then, passed-char}
use Rattle.utf8.proofs.Rows.{sized-none, sized-some}
use Rattle.utf8.proofs.Walk.{char-bad, ends}
use Rattle.utf8.proofs.check.Goals as goal
use mathlib.Core.Path.{sym, ◌∙◌}
use native.Mathlib.Omega.{arith}

pub loop-i-init : goal.loop-i-init
loop-i-init c = stays c.args.s.now 0 (omega arith)

pub returns-in_default : goal.returns-in_default
returns-in_default c =
    let s = c.args.s.now in
    char-bad s c.loop-i.i (omega arith) (sized-none _ (sym c.in_default.is ∙ c.sequence.ensures)) ∙ sym c.loop-i.invariant.goes

-- the character there is passed
pub overflow_add-i : goal.overflow_add-i
overflow_add-i c =
    let p = sized-some _ (sym c.in-Some.is ∙ c.sequence.ensures) in
    omega (arith, (passed-char c.args.s.now c.loop-i.i _ (omega arith) p.0 p.1).within)

pub past_alike-i-requires : goal.past_alike-i-requires
past_alike-i-requires c =
    let p = sized-some _ (sym c.in-Some.is ∙ c.sequence.ensures) in
    (passed-char c.args.s.now c.loop-i.i _ (omega arith) p.0 p.1).within

pub loop-i-smaller : goal.loop-i-smaller
loop-i-smaller c =
    let p = sized-some _ (sym c.in-Some.is ∙ c.sequence.ensures) in
    omega (arith, c.past_alike-i.ensures.onward, p.1)

pub loop-i-preserved : goal.loop-i-preserved
loop-i-preserved c =
    let s = c.args.s.now in
    let p = sized-some _ (sym c.in-Some.is ∙ c.sequence.ensures) in
    then s (then s c.loop-i.invariant (passed-char s c.loop-i.i _ (omega arith) p.0 p.1)) c.past_alike-i.ensures

pub returns : goal.returns
returns c = ends c.args.s.now c.loop-i.i (omega arith) ∙ sym c.loop-i.invariant.goes
