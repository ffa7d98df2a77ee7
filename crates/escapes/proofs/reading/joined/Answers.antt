-- One law for each way out. Assumes nothing.
use Rattle.escapes.proofs.EscapeLaws.{high_in, low_in, joined-pair, joined-first, joined-second, joined-none}
use Rattle.escapes.proofs.reading.joined.Goals as goal
use Rattle.escapes.proofs.reading.joined.Goals.{else-is_high-via-then-is_high+else-is_low, else-is_high-via-else-is_high}
use Rattle.escapes.specs.Rfc7159.{pair}
use mathlib.Core.Path.{sym, ◌∙◌}
use native.Mathlib.Omega.{arith}

pub overflow_sub-result : goal.overflow_sub-result
overflow_sub-result c = let h = high_in c.args.u (sym c.is_high.ensures ∙ c.if-is_high.true) in omega arith

pub overflow_mul-result : goal.overflow_mul-result
overflow_mul-result c = let h = high_in c.args.u (sym c.is_high.ensures ∙ c.if-is_high.true) in record { fits = omega arith }

pub overflow_add-result : goal.overflow_add-result
overflow_add-result c = let h = high_in c.args.u (sym c.is_high.ensures ∙ c.if-is_high.true) in record { fits = omega arith }

pub overflow_sub-result-then-is_low : goal.overflow_sub-result-then-is_low
overflow_sub-result-then-is_low c = let l = low_in c.in-Some.v (sym c.is_low.ensures ∙ c.if-is_low.true) in omega arith

pub overflow_add-result-then-is_low : goal.overflow_add-result-then-is_low
overflow_add-result-then-is_low c = let h = high_in c.args.u (sym c.is_high.ensures ∙ c.if-is_high.true) in let l = low_in c.in-Some.v (sym c.is_low.ensures ∙ c.if-is_low.true) in
    record { fits = omega arith }

pub returns-then-is_low : goal.returns-then-is_low
unfolding pair
returns-then-is_low c = λ n b.
    let e = rw c.in-Some.is at b in
    rw (← e.0) (joined-pair c.args.u c.in-Some.v (sym c.is_high.ensures ∙ c.if-is_high.true) (sym c.is_low.ensures ∙ c.if-is_low.true))

pub returns-else-is_high : goal.returns-else-is_high
returns-else-is_high c = λ n b.
    let e = rw c.in-Some.is at b in
    elim c.else-is_high.branch [
      | else-is_high-via-then-is_high+else-is_low w ↦ rw (← e.0) (joined-second c.args.u c.in-Some.v (sym w.is_low.ensures ∙ w.if-is_low.false))
      | else-is_high-via-else-is_high w ↦ joined-first c.args.u n (sym c.is_high.ensures ∙ w.if-is_high.false)
    ]

pub returns-in_default : goal.returns-in_default
returns-in_default c = λ n b. joined-none c.args.u n (rw c.in_default.is at b)
