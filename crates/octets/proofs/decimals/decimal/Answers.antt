use Prim.Native.Nat.{◌+◌, ◌-◌, ◌*◌}
use Rattle.octets.proofs.ClassLaws.{all_more, all-stops, all-ends, digit_in}
use Rattle.octets.proofs.DecimalLaws.{empty, long, no_digit, too_large, read, tens-more, tens-ends}
use Rattle.octets.proofs.decimals.decimal.Goals as goal
use Rattle.octets.proofs.decimals.decimal.Goals.{then-is_empty-via-then-is_empty, then-is_empty-via-else-is_empty+then-s-gt20}
use Rattle.octets.specs.Class.{is_digit}
use borrow.Author.Tests.{eqb-true, eqb-false}
use lib.ListN.{get_or}
use mathlib.Core.Bool.{true}
use mathlib.Core.Path.{◌≡◌, refl, sym, ◌∙◌}
use native.Mathlib.Omega.{arith}

pub returns-then-is_empty : goal.returns-then-is_empty
returns-then-is_empty c = elim c.then-is_empty.branch [
  | then-is_empty-via-then-is_empty w ↦ empty c.args.s.now (eqb-true _ _ (sym c.is_empty.ensures ∙ w.if-is_empty.true))
  | then-is_empty-via-else-is_empty+then-s-gt20 w ↦ long c.args.s.now w.if-s-gt20.true
]

pub loop-b-init : goal.loop-b-init
loop-b-init c = record { digits = refl; so_far = refl; fits = omega arith }

pub returns-then-not-is_digit : goal.returns-then-not-is_digit
returns-then-not-is_digit c =
    let x = c.args in
    no_digit x.s.now (omega arith) (omega arith)
    (c.loop-b.invariant.digits ∙ all-stops is_digit x.s.now c.loop-b.b-index (omega arith) (sym c.is_digit.ensures ∙ c.if-not-is_digit.true))

pub overflow_sub-b : goal.overflow_sub-b
overflow_sub-b c = let d = digit_in _ (sym c.is_digit.ensures ∙ c.if-not-is_digit.false) in omega arith

pub returns-in_err-checked_mul : goal.returns-in_err-checked_mul
returns-in_err-checked_mul c =
    let x = c.args in
    c.from_residual.ensures
    ∙ too_large x.s.now (omega arith) (omega arith) c.loop-b.b-index c.loop-b.v (omega arith) c.loop-b.invariant.so_far (omega (arith, c.in_err-checked_mul.ensures))

pub returns-in_err-v : goal.returns-in_err-v
returns-in_err-v c =
    let x = c.args in
    c.from_residual-in_err-v.ensures
    ∙ too_large x.s.now (omega arith) (omega arith) c.loop-b.b-index c.loop-b.v (omega arith) c.loop-b.invariant.so_far
    (omega (arith, c.wide.ensures, c.in_ok-checked_mul.ensures, c.in_err-v.ensures))

pub loop-b-preserved : goal.loop-b-preserved
loop-b-preserved c =
    let x = c.args in
    let d : is_digit (get_or x.s.now c.loop-b.b-index 0) ≡ true = sym c.is_digit.ensures ∙ c.if-not-is_digit.false in
    let v : c.in_ok-v.v ≡ c.loop-b.v * 10 + (get_or x.s.now c.loop-b.b-index 0 - 48) = omega (arith, c.wide.ensures, c.in_ok-checked_mul.ensures, c.in_ok-v.ensures) in
    record {
      digits = c.loop-b.invariant.digits ∙ all_more is_digit x.s.now c.loop-b.b-index (omega arith) d;
      so_far = rw v (c.loop-b.invariant.so_far ∙ tens-more c.loop-b.v x.s.now c.loop-b.b-index (omega arith));
      fits = omega (arith, c.in_ok-v.ensures);
    }

pub returns : goal.returns
returns c =
    let x = c.args in
    let e = eqb-false _ _ (sym c.is_empty.ensures ∙ c.if-is_empty.false) in
    read x.s.now (omega arith) (omega arith) c.loop-b.v
    (c.loop-b.invariant.digits ∙ all-ends is_digit x.s.now c.loop-b.b-index (omega arith))
    (c.loop-b.invariant.so_far ∙ tens-ends c.loop-b.v x.s.now c.loop-b.b-index (omega arith)) c.loop-b.invariant.fits
