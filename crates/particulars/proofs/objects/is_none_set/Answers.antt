-- `particulars::objects::is_none_set` meets its contract. One law of `FaultLaws` for each way out of a turn. Assumes nothing.
use Prim.Native.Nat.{◌+◌}
use Rattle.particulars.proofs.FaultLaws.{none-other, none-over, none-start, one-unset, some-is-set}
use Rattle.particulars.proofs.TableLaws.{row-here, rows-end}
use Rattle.particulars.proofs.objects.is_none_set.Goals as goal
use Rattle.particulars.proofs.objects.is_none_set.Goals.{then-is_choice+else-not-is_unset, else-is_choice}
use mathlib.Core.Path.{sym, ◌∙◌}

pub loop-k-init : goal.loop-k-init
loop-k-init c = none-start c.args.s.now c.args.f.now.at _

pub returns-then-not-is_unset : goal.returns-then-not-is_unset
returns-then-not-is_unset c =
    let a = c.args in
    some-is-set a.s.now a.f.now.at c.loop-k.some (c.loop-k.k + 1) _ _
    (row-here a.t c.entries-es.result.now c.entries-es.ensures.0 c.loop-k.k _ c.loop-k-test.true)
    (sym c.is_choice.ensures ∙ c.if-is_choice.true) (sym c.is_unset.ensures ∙ c.if-not-is_unset.true)
    ∙ sym c.loop-k.invariant

pub loop-k-preserved : goal.loop-k-preserved
loop-k-preserved c =
    let a = c.args in
    let row = row-here a.t c.entries-es.result.now c.entries-es.ensures.0 c.loop-k.k _ c.loop-k-test.true in
    elim c.if-is_choice.branch [
      | then-is_choice+else-not-is_unset w ↦ rw w.some-is (c.loop-k.invariant ∙ one-unset a.s.now a.f.now.at c.loop-k.some (c.loop-k.k + 1) _ _ row
          (sym c.is_choice.ensures ∙ w.if-is_choice.true) (sym w.is_unset.ensures ∙ w.if-not-is_unset.false))
      | else-is_choice w ↦ rw w.some-is (c.loop-k.invariant ∙ none-other a.s.now a.f.now.at c.loop-k.some (c.loop-k.k + 1) _ _ row
          (sym c.is_choice.ensures ∙ w.if-is_choice.false))
    ]

pub returns : goal.returns
returns c =
    let a = c.args in
    none-over a.s.now a.f.now.at c.loop-k.some (c.loop-k.k + 1) (rows-end a.t c.entries-es.result.now c.entries-es.ensures.0 c.loop-k.k c.loop-k-test.false)
    ∙ sym c.loop-k.invariant
