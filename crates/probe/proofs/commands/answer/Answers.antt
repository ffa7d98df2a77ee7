-- One law for each way out. Assumes nothing.
use Rattle.probe.proofs.CommandLaws.{finishes, finishes_as, line_command, line_dump, line_long, line_word}
use Rattle.probe.proofs.TableLaws.{stays, turns}
use Rattle.probe.proofs.commands.answer.Goals as goal
use Rattle.probe.specs.Effect.{holding}
use Rattle.probe.specs.Tables.{dump_text}
use Rattle.showing.proofs.WordLaws.{rest-short}
use borrow.Author.Tests.{not-false, not-true}
use lib.ListN.{take}
use mathlib.Core.Path.{◌∙◌, refl, sym}
use native.Mathlib.Omega.{arith}

pub returns-then-line-gt170000 : goal.returns-then-line-gt170000
returns-then-line-gt170000 c =
    let x = c.args in
    let h = holding x.ceiling (take x.size x.held.now) in
    finishes x.ceiling x.out.now (line_long h x.line.now c.if-line-gt170000.true)
    (stays x.out.now x.size x.held.now refl c.answer_unknown.ensures c.requires) c.keep_ceiling.ensures

pub returns-then-same : goal.returns-then-same
returns-then-same c =
    let x = c.args in
    let t = take x.size x.held.now in
    finishes x.ceiling x.out.now
    (line_dump (holding x.ceiling t) x.line.now c.if-line-gt170000.false (sym c.same.ensures ∙ c.if-same.true))
    (turns x.out.now x.size x.held.now t (dump_text t) refl c.dump.ensures refl c.requires) c.keep_ceiling-then-same.ensures

pub returns-then-not-has_space : goal.returns-then-not-has_space
returns-then-not-has_space c =
    let x = c.args in
    let h = holding x.ceiling (take x.size x.held.now) in
    finishes x.ceiling x.out.now
    (line_word h x.line.now c.if-line-gt170000.false (sym c.same.ensures ∙ c.if-same.false)
    (sym c.has_space.ensures ∙ not-true _ c.if-not-has_space.true-raw))
    (stays x.out.now x.size x.held.now refl c.answer_unknown-then-not-has_space.ensures c.requires) c.keep_ceiling-then-not-has_space.ensures

pub obey-requires : goal.obey-requires
obey-requires c = (
  c.requires,
  rw c.rest.ensures (omega (arith, rest-short c.args.line.now, c.if-line-gt170000.false)),
)

pub returns : goal.returns
returns c =
    let x = c.args in
    let h = holding x.ceiling (take x.size x.held.now) in
    finishes_as x.out.now
    (line_command h x.line.now c.if-line-gt170000.false (sym c.same.ensures ∙ c.if-same.false)
    (sym c.has_space.ensures ∙ not-false _ c.if-not-has_space.false-raw) c.first.ensures c.rest.ensures) c.obey.ensures
