-- `message::envelopes::judge_told` meets its contract. A field that is kept passes row 9 on, a broken one ends it. Assumes nothing.
use Prim.Native.Nat.{ℕ}
use Rattle.fields.proofs.JudgingLaws.{status_fault}
use Rattle.message.proofs.CheckLaws.{fits}
use Rattle.message.proofs.EnvelopeLaws.{no_code, told, untold}
use Rattle.message.proofs.envelopes.judge_told.Goals as goal
use Rattle.values.proofs.SpellingLaws.{own-bytes}
use Rattle.values.specs.inner.Asked.{Own}
use lib.ListN.{get_or}
use mathlib.Core.List.{List}
use mathlib.Core.Path.{subst, sym, ◌∙◌}
use native.Mathlib.Omega.{arith}

pub returns-then-tag-ne-RESPONSE : goal.returns-then-tag-ne-RESPONSE
returns-then-tag-ne-RESPONSE c = let x = c.args in (untold x.s.now x.at.now c.requires.0 c.if-tag-ne-RESPONSE.true, no_code x.s.now x.at.now c.if-tag-ne-RESPONSE.true)

pub value_at-requires : goal.value_at-requires
value_at-requires c = c.requires.1.ends 7

pub judge_status-requires : goal.judge_status-requires
judge_status-requires c =
    subst (λ (l : List ℕ). Own l) (sym c.value_at.ensures) (own-bytes c.args.s.now (get_or c.args.at.now 7 0))

pub placed-requires : goal.placed-requires
placed-requires c =
    fits (get_or c.args.at.now 7 0) c.judge_status.result
    (λ p e h. let z = (status_fault _ (e ∙ c.judge_status.ensures)).0 in absurd (omega arith))

pub returns : goal.returns
returns c =
    let x = c.args in
    told x.s.now x.at.now c.requires.0 c.if-tag-ne-RESPONSE.false c.value_at.ensures c.judge_status.result c.judge_status.ensures c.placed.ensures
