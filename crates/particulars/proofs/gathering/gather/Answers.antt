-- `particulars::gathering::gather` meets its contract. One law of `GatheringLaws` for each way out of a turn. Assumes nothing.
use Prim.Native.Nat.{ℕ, ◌+◌, ◌-◌}
use Rattle.json_text.proofs.PlaceLaws.{closing-is, raw-is}
use Rattle.json_text.proofs.TurnLaws.{comma, no-comma, no_more, one_more, spent}
use Rattle.json_text.specs.Places.{members_from, value_of}
use Rattle.octets.proofs.TextLaws.{there}
use Rattle.particulars.proofs.GatheringLaws.{Sofar, goes-on, number-is, over, started, zeros}
use Rattle.particulars.proofs.gathering.gather.Goals as goal
use Rattle.particulars.specs.Types.{names_of}
use Rattle.std.specs.Prelude.{None}
use borrow.Author.Rules.{rules}
use lib.ListN.{length}
use mathlib.Core.Path.{◌≡◌, refl, subst, sym, ◌∙◌}
use native.Mathlib.Omega.{arith}

pub loop-init : goal.loop-init
loop-init c =
    let s = c.args.s.now in
    let all : length s ≡ length s - 0 = omega arith in
    record {
      low = omega arith;
      high = omega arith;
      small = search rules;
      sofar = subst (λ (k : ℕ). Sofar (names_of c.args.t) s c.args.o None (zeros 9) (zeros 9) (members_from k s (c.args.o + 1))) all (started (names_of c.args.t) s c.args.o);
    }

pub returns-then-byte-ne34 : goal.returns-then-byte-ne34
returns-then-byte-ne34 c =
    let s = c.args.s.now in
    over c.args.t s c.args.o c.loop.invariant.sofar (no_more s (length s - c.loop.counter) c.loop.p c.skip-q.ensures.is (λ e. c.if-byte-ne34.true (c.byte.ensures ∙ e)))

pub returns-then-byte-ne44 : goal.returns-then-byte-ne44
returns-then-byte-ne44 c =
    let s = c.args.s.now in
    let ns = names_of c.args.t in
    let q = c.skip-q.result in
    let m = c.member_at-m in
    let g = c.note.ensures in
    let one = one_more s (length s - c.loop.counter) c.loop.p (omega arith) c.skip-q.ensures.is (sym c.byte.ensures ∙ c.if-byte-ne34.false) in
    let k = number-is ns s q (c.part.ensures ∙ raw-is s q (closing-is s q m.ensures.named)) c.number_spelled-k.ensures.0 in
    over c.args.t s c.args.o
    (goes-on ns s c.args.o c.loop.invariant.sofar q c.number_spelled-k.result k c.number_spelled-k.ensures.1 m.ensures (omega (arith, m.ensures.begins.low)) g.again g.at g.end _
    one
    (no-comma s (members_from (length s - c.loop.counter - 1) s) (value_of s q) m.ensures.goes.is (λ e. c.if-byte-ne44.true (c.byte-in-loop.ensures ∙ e)))) refl

pub loop-preserved : goal.loop-preserved
loop-preserved c =
    let s = c.args.s.now in
    let ns = names_of c.args.t in
    let q = c.skip-q.result in
    let m = c.member_at-m in
    let g = c.note.ensures in
    let one = one_more s (length s - c.loop.counter) c.loop.p (omega arith) c.skip-q.ensures.is (sym c.byte.ensures ∙ c.if-byte-ne34.false) in
    let k = number-is ns s q (c.part.ensures ∙ raw-is s q (closing-is s q m.ensures.named)) c.number_spelled-k.ensures.0 in
    let b = sym c.byte-in-loop.ensures ∙ c.if-byte-ne44.false in
    let less : length s - c.loop.counter - 1 ≡ length s - (c.loop.counter + 1) = omega arith in
    let high = there s m.result.then 43 b in
    record {
      low = omega arith;
      high = omega (arith, high);
      small = c.loop.invariant.small;
      sofar = subst (λ (k : ℕ). Sofar ns s c.args.o c.note.new.f.again c.note.new.f.at c.note.new.f.end (members_from k s (m.result.then + 1))) less
          (goes-on ns s c.args.o c.loop.invariant.sofar q c.number_spelled-k.result k c.number_spelled-k.ensures.1 m.ensures (omega (arith, m.ensures.begins.low)) g.again g.at
          g.end _ one
          (comma s (members_from (length s - c.loop.counter - 1) s) (value_of s q) m.ensures.goes.is b));
    }

pub returns : goal.returns
returns c =
    let s = c.args.s.now in
    over c.args.t s c.args.o c.loop.invariant.sofar (spent s (length s - c.loop.counter) c.loop.p (omega arith))
