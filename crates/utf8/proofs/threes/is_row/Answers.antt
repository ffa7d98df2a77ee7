-- `utf8::threes::is_row` meets its contract. By the three bytes. Assumes nothing.
use Prim.Native.Nat.{◌+◌}
use Rattle.octets.specs.Class.{among}
use Rattle.utf8.proofs.Rows.{three-bytes}
use Rattle.utf8.proofs.threes.is_row.Goals as goal
use Rattle.utf8.proofs.threes.is_row.Goals.{then-among, else-among}
use lib.ListN.{get_or}
use mathlib.Core.Bool.{true, false}
use mathlib.Core.Path.{◌≡◌, sym, ◌∙◌}
use native.Mathlib.Omega.{arith}

pub returns-then-among-2 : goal.returns-then-among-2
returns-then-among-2 c =
    let x = c.args in
    elim c.if-among.branch [
      | then-among w ↦
          let e : among x.from x.till (get_or x.s.now x.at 0) ≡ true = sym c.among.ensures ∙ w.if-among.true in
          let f : among x.lo x.hi (get_or x.s.now (x.at + 1) 0) ≡ true = sym w.among-then-among.ensures ∙ sym w.value-is ∙ c.if-among-2.true in
          rw (sym (three-bytes x.from x.till x.lo x.hi x.s.now x.at (omega arith)), e, f) c.among-then-among-2.ensures
      | else-among w ↦ cc
    ]

pub returns-else-among-2 : goal.returns-else-among-2
returns-else-among-2 c =
    let x = c.args in
    elim c.if-among.branch [
      | then-among w ↦
          let e : among x.from x.till (get_or x.s.now x.at 0) ≡ true = sym c.among.ensures ∙ w.if-among.true in
          let f : among x.lo x.hi (get_or x.s.now (x.at + 1) 0) ≡ false = sym w.among-then-among.ensures ∙ sym w.value-is ∙ c.if-among-2.false in
          rw (sym (three-bytes x.from x.till x.lo x.hi x.s.now x.at (omega arith)), e, f) c.if-among-2.false
      | else-among w ↦
          let e : among x.from x.till (get_or x.s.now x.at 0) ≡ false = sym c.among.ensures ∙ w.if-among.false in
          rw (sym (three-bytes x.from x.till x.lo x.hi x.s.now x.at (omega arith)), e) c.if-among-2.false
    ]
