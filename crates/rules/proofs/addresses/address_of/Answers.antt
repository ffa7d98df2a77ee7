-- `addresses::address_of` meets its contract: the places are the definitions'. Assumes nothing.
use Rattle.rules.proofs.AddressLaws.{callee-end, caller-end, user-end}
use Rattle.rules.proofs.addresses.address_of.Goals as goal
use Rattle.rules.specs.Address.{address_of, address_rule}
use native.Mathlib.Omega.{arith}

pub is_caller-requires : goal.is_caller-requires
is_caller-requires c = (
  user-end c.args.s.now c.run_end-user.result c.run_end-user.ensures.0,
  (
    caller-end c.args.s.now c.run_end-user.result c.run_end-user.ensures.0 c.run_end-fire.result c.run_end-fire.ensures.0,
    (omega arith, (omega arith, omega arith)),
  ),
)

pub returns-then-is_caller : goal.returns-then-is_caller
unfolding address_of address_rule
returns-then-is_caller c =
    let u = c.run_end-user in
    let p = user-end c.args.s.now u.result u.ensures.0 in
    let q = caller-end c.args.s.now u.result u.ensures.0 c.run_end-fire.result c.run_end-fire.ensures.0 in
    grind (arith, p, q)

pub is_callee-requires : goal.is_callee-requires
is_callee-requires c = (callee-end c.args.s.now c.run_end-fire-2.result c.run_end-fire-2.ensures.0, (omega arith, omega arith))

pub returns : goal.returns
unfolding address_of address_rule
returns c =
    let p = callee-end c.args.s.now c.run_end-fire-2.result c.run_end-fire-2.ensures.0 in
    grind (arith, p)
