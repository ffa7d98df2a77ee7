use Prim.Native.Nat.{◌*◌, ◌+◌, ◌/◌, ◌<◌}
use Rattle.hex_text.proofs.HexLaws.{decoded-at, length-decoded, written_all, written-more, written_none}
use Rattle.hex_text.proofs.decode.Goals as goal
use Rattle.hex_text.specs.Digits.{decoded}
use borrow.Author.Rules.{rules}
use lib.ListN.{get_or, length}
use mathlib.Core.Path.{◌≡◌, refl, sym, ◌∙◌}
use native.Mathlib.Omega.{arith}

pub loop-i-init : goal.loop-i-init
loop-i-init c = (refl, written_none c.args.out.now (decoded c.args.s.now))

pub loop-i-preserved : goal.loop-i-preserved
loop-i-preserved c =
    let l = c.loop-i in
    let x = c.args in
    let s = x.s.now in
    let h : l.i < length s / 2 = omega arith in
    let v : c.worth.result * 16 + c.worth-in-loop-i.result ≡ get_or (decoded s) l.i 0 = rw (c.worth.ensures.0, c.worth-in-loop-i.ensures.0)
    (sym (decoded-at s l.i h)) in
    (search rules, rw l.invariant.1 (written-more x.out.now (decoded s) l.i _ (rw (length-decoded s) h) (rw (length-decoded s) (omega arith)) v))

pub returns : goal.returns
returns c =
    let l = c.loop-i in
    let x = c.args in
    let all : l.i ≡ length x.s.now / 2 = omega arith in
    (refl, l.invariant.1 ∙ written_all x.out.now (decoded x.s.now) l.i (rw (length-decoded x.s.now) all))
