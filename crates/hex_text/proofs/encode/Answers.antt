use Prim.Native.Nat.{◌*◌, ◌+◌, ◌<◌}
use Rattle.hex_text.proofs.HexLaws.{encoded-high, encoded-low, length-encoded, written_all, written-more, written_none}
use Rattle.hex_text.proofs.encode.Goals as goal
use Rattle.hex_text.specs.Digits.{encoded}
use borrow.Author.Rules.{rules}
use lib.ListN.{length}
use lib.Seq.{lt-length-set}
use mathlib.Core.Path.{◌≡◌, refl, sym, ◌∙◌}
use native.Mathlib.Omega.{arith}

pub loop-i-init : goal.loop-i-init
loop-i-init c = (refl, written_none c.args.out.now (encoded c.args.s.now))

pub digit-requires : goal.digit-requires
digit-requires c = omega (arith, c.shared_slice_known-in-loop-i-1.given c.loop-i.i)

pub bounds-out-i-in-loop-i : goal.bounds-out-i-in-loop-i
bounds-out-i-in-loop-i c =
    lt-length-set c.loop-i.out (2 * c.loop-i.i) c.digit.result (omega arith)

pub loop-i-preserved : goal.loop-i-preserved
loop-i-preserved c =
    let l = c.loop-i in
    let x = c.args in
    let s = x.s.now in
    let h : l.i < length s = omega arith in
    let z : 2 * (l.i + 1) ≡ 2 * l.i + 1 + 1 = omega arith in
    let n = length-encoded s in (
      search rules,
      rw (
        z,
        l.invariant.1,
        written-more x.out.now (encoded s) (2 * l.i) c.digit.result (omega arith) (omega arith)
            (c.digit.ensures ∙ sym (encoded-high s l.i h)),
      )
          (written-more x.out.now (encoded s) (2 * l.i + 1) c.digit-in-loop-i.result (omega arith) (omega arith) (c.digit-in-loop-i.ensures ∙ sym (encoded-low s l.i h))),
    )

pub returns : goal.returns
returns c =
    let l = c.loop-i in
    let x = c.args in
    let all : 2 * l.i ≡ 2 * length x.s.now = omega arith in
    (refl, l.invariant.1 ∙ written_all x.out.now (encoded x.s.now) (2 * l.i) (rw (length-encoded x.s.now) all))
