-- `message::checking::judge_field` meets its contract. One law of `CheckLaws` for each way out. Assumes nothing.
use Rattle.message.specs.inner.Facts.{by_tag}
use Prim.Native.Nat.{ℕ}
use Rattle.values.proofs.SpellingLaws.{own-bytes}
use Rattle.values.specs.inner.Asked.{Own}
use Rattle.message.proofs.CheckLaws.{absent, present, unlisted}
use Rattle.message.proofs.checking.judge_field.Goals as goal
use lib.ListN.{get_or}
use mathlib.Core.List.{List}
use mathlib.Core.Path.{subst, sym}

pub returns-then-v-eq0 : goal.returns-then-v-eq0
returns-then-v-eq0 c = let x = c.args in absent (by_tag x.run) x.k x.at.now x.n x.s.now c.if-v-eq0.true

pub returns-then-asks-eq-UNLISTED : goal.returns-then-asks-eq-UNLISTED
returns-then-asks-eq-UNLISTED c = let x = c.args in unlisted (by_tag x.run) x.k x.at.now x.n c.asks.ensures x.s.now c.if-asks-eq-UNLISTED.true

pub value_at-requires : goal.value_at-requires
value_at-requires c =
    c.requires.1.1.1.1.ends c.args.n

pub judge-requires : goal.judge-requires
judge-requires c = (
  subst (λ (l : List ℕ). Own l) (sym c.value_at.ensures) (own-bytes c.args.s.now (get_or c.args.at.now c.args.n 0)),
  (c.requires.1.1.0, c.requires.1.1.1.0),
)

pub returns : goal.returns
returns c =
    let x = c.args in present (by_tag x.run) x.k x.at.now x.n c.asks.ensures x.s.now c.if-asks-eq-UNLISTED.false c.if-v-eq0.false
    c.value_at.ensures c.judge.ensures
