-- Turn by turn; there is room for as many pairs as the longest message has bytes. Assumes nothing.
use Rattle.message.specs.Reading.{ample}
use Rattle.octets.proofs.Chain.{length_at}
use Rattle.positions.proofs.BoundLaws.{few-positions}
use Rattle.positions.specs.Positions.{positions_of}
use Rattle.showing.proofs.LocatedLaws.{goes-on, located-shown, never-none, no-pairs, room-behind, still-low}
use Rattle.showing.proofs.located.put_located.Goals as goal
use Rattle.showing.proofs.located.put_located.Goals.{in-Some, in_default}
use Rattle.showing.specs.Located.{home_text, pair_text}
use Rattle.std.proofs.lemmas.Int.{to_z-of_z}
use borrow.Author.Rules.{rules}
use lib.ListN.{length}
use mathlib.Core.Path.{◌≡◌, sym, ◌∙◌}
use mir.Syntax.{w32}
use mir.Val.{SFits}
use native.Mathlib.Omega.{arith}

pub loop-k-init : goal.loop-k-init
loop-k-init c = record {
  here = no-pairs c.args.out.now (positions_of c.args.s.now c.args.a.now.message) c.put-end.ensures;
  low = omega (arith, c.put-end.ensures.0);
}

pub put_pair-end-requires : goal.put_pair-end-requires
put_pair-end-requires c =
    let o = c.args.out.now in
    let size : length o ≡ 800000 = search rules in
    let few = few-positions ample c.args.s.now c.args.a.now.message c.requires.0 in
    let inv = c.loop-k.invariant in
    let long = length_at inv.here (omega (arith, size, inv.low, inv.here.place, few, c.count-k-end.ensures)) in
    omega (arith, size, long, inv.low, few, c.count-k-end.ensures)

pub loop-k-preserved : goal.loop-k-preserved
loop-k-preserved c =
    let ps = positions_of c.args.s.now c.args.a.now.message in
    let k = c.loop-k.k in
    let inv = c.loop-k.invariant in
    elim c.match-position.branch [
      | in-Some w ↦
          let p = w.in-Some.p in
          let f : SFits w32 p.latitude = search rules in
          let g : SFits w32 p.longitude = search rules in
          let x = rw (to_z-of_z w32 p.latitude f, to_z-of_z w32 p.longitude g) at w.put_pair-end.ensures in
          rw (w.out-is, w.end-is) (record { here = goes-on ps k inv.here w.in-Some.ensures x; low = still-low ps k inv.here (pair_text p.latitude p.longitude) inv.low x })
      | in_default w ↦ never-none ps k (omega (arith, c.count-k-end.ensures)) (sym w.in_default.is ∙ c.position.ensures)
    ]

pub put_home-end-requires : goal.put_home-end-requires
put_home-end-requires c =
    let o = c.args.out.now in
    let size : length o ≡ 800000 = search rules in
    let few = few-positions ample c.args.s.now c.args.a.now.message c.requires.0 in
    let inv = c.loop-k.invariant in
    let long = length_at inv.here (omega (arith, size, inv.low, inv.here.place, few, c.count-k-end.ensures)) in
    omega (arith, size, long, inv.low, few, c.count-k-end.ensures)

pub put-requires : goal.put-requires
put-requires c =
    let o = c.args.out.now in
    let size : length o ≡ 800000 = search rules in
    let few = few-positions ample c.args.s.now c.args.a.now.message c.requires.0 in
    let inv = c.loop-k.invariant in
    let long = length_at inv.here (omega (arith, size, inv.low, inv.here.place, few, c.count-k-end.ensures)) in
    room-behind c.loop-k.out (home_text c.home.result) c.loop-k.end (omega (arith, size, long, inv.low, few, c.count-k-end.ensures)) c.put_home-end.ensures

pub returns : goal.returns
returns c =
    located-shown c.args.out.now c.args.s.now c.args.a.now.message c.loop-k.k (omega (arith, c.count-k-end.ensures)) c.loop-k.invariant.here
    (rw c.home.ensures at c.put_home-end.ensures) c.put.ensures
