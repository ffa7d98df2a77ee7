use Rattle.json_text.proofs.MoveLaws.{run, passes}
use Rattle.json_text.proofs.strings.past_plain.Goals as goal
use Rattle.json_text.specs.inner.Machine.{is_plain}
use borrow.Author.Rules.{rules}
use mathlib.Core.Path.{refl, ◌∙◌}
use native.Mathlib.Omega.{arith}

pub loop-i-init : goal.loop-i-init
loop-i-init c = (search rules, search rules, λ m k f. refl)

pub overflow_cast-n : goal.overflow_cast-n
overflow_cast-n c = omega (arith, c.plain_of_32-n.ensures.few)

pub overflow_add-i : goal.overflow_add-i
overflow_add-i c = omega (arith, c.plain_of_32-n.ensures.few)

pub returns-then-n-lt32 : goal.returns-then-n-lt32
returns-then-n-lt32 c =
    record {
      low = omega arith;
      high = omega (arith, c.plain_of_32-n.ensures.few);
      stop = λ h. c.plain_of_32-n.ensures.stop c.if-n-lt32.true;
      same = λ m k f.
          c.loop-i.invariant.2 m k f
          ∙ run is_plain _ _ _ (omega (arith, c.plain_of_32-n.ensures.few)) c.plain_of_32-n.ensures.plain m k f;
    }

pub loop-i-smaller : goal.loop-i-smaller
loop-i-smaller c = omega (arith, c.plain_of_32-n.ensures.few)

pub loop-i-preserved : goal.loop-i-preserved
loop-i-preserved c = (
  omega arith,
  omega (arith, c.plain_of_32-n.ensures.few),
  λ m k f.
      c.loop-i.invariant.2 m k f
      ∙ run is_plain _ _ _ (omega (arith, c.plain_of_32-n.ensures.few)) c.plain_of_32-n.ensures.plain m k f,
)

pub returns : goal.returns
returns c =
    let p = c.past.ensures in
    let q = passes {f = is_plain} p.within.0 p.within.1 (λ k g h. let q = p.passed k g h in search rules) (λ h. let q = p.stopped h in search rules) in
    record { low = omega (arith, q.low); high = q.high; stop = q.stop; same = λ m k f. c.loop-i.invariant.2 m k f ∙ q.same m k f }
