-- `fields::hops::hop_of` meets its contract. One law of `HopLaws` for each way out. Assumes nothing.
use Rattle.fields.proofs.HopLaws.{no_bytes, member_twice, members-once}
use Rattle.fields.proofs.hops.hop_of.Goals as goal

pub returns-then-v-eq0 : goal.returns-then-v-eq0
returns-then-v-eq0 c = no_bytes c.args.v.now c.if-v-eq0.true

pub returns-in-None : goal.returns-in-None
returns-in-None c = member_twice c.args.v.now c.in-None.ensures

pub returns-in-Some : goal.returns-in-Some
returns-in-Some c = rw (c.begin.ensures, c.begin-in-Some.ensures) (members-once c.args.v.now c.in-Some.ensures.0.0)
