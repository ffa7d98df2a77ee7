-- One law for each way out. Assumes nothing.
use Rattle.probe.proofs.TableLaws.{blank-held, blank-refused, held-blank, held_stays, no_bytes, no_count, no_length, stays, turns}
use Rattle.probe.proofs.tables.blank.Goals as goal
use Rattle.probe.specs.Tables.{verdict_text}
use Rattle.showing.proofs.WordLaws.{to-small}
use Rattle.showing.specs.Words.{numeral, rest}
use Rattle.table.specs.Blank.{blank_of}
use borrow.Author.Tests.{not-false, not-true}
use lib.ListN.{take}
use mathlib.Core.Bool.{false, true}
use mathlib.Core.Path.{◌∙◌, ap, sym}
use native.Mathlib.Omega.{arith}

pub returns-then-not-has_space : goal.returns-then-not-has_space
returns-then-not-has_space c =
    let x = c.args in
    let t = take x.size x.held.now in
    stays x.out.now x.size x.held.now (no_length t x.words.now (sym c.has_space.ensures ∙ not-true _ c.if-not-has_space.true-raw))
    c.answer_unknown.ensures c.requires

pub returns-in_default : goal.returns-in_default
returns-in_default c =
    let x = c.args in
    let t = take x.size x.held.now in
    let s = sym c.has_space.ensures ∙ not-false _ c.if-not-has_space.false-raw in
    stays x.out.now x.size x.held.now (no_count t x.words.now s (rw c.first.ensures at (sym c.number_to.ensures ∙ c.in_default.is)))
    c.answer_unknown-in_default.ensures c.requires

pub returns-in_default-number_to : goal.returns-in_default-number_to
returns-in_default-number_to c =
    let x = c.args in
    let t = take x.size x.held.now in
    let s = sym c.has_space.ensures ∙ not-false _ c.if-not-has_space.false-raw in
    let k = rw c.first.ensures at (sym c.number_to.ensures ∙ c.in-Some.is) in
    let l = rw c.rest.ensures at (sym c.number_to-2.ensures ∙ c.in_default-number_to.is) in
    stays x.out.now x.size x.held.now (no_bytes t x.words.now s k l) c.answer_unknown-in_default-number_to.ensures c.requires

pub make_blank-requires : goal.make_blank-requires
make_blank-requires c =
    omega (arith, to-small 65536 (numeral (rest c.args.words.now)) (rw c.rest.ensures at (sym c.number_to-2.ensures ∙ c.in-Some-number_to.is)))

pub returns-then-make_blank : goal.returns-then-make_blank
returns-then-make_blank c =
    let x = c.args in
    let t = take x.size x.held.now in
    let n = c.in-Some-number_to.length in
    let s = sym c.has_space.ensures ∙ not-false _ c.if-not-has_space.false-raw in
    let k = rw c.first.ensures at (sym c.number_to.ensures ∙ c.in-Some.is) in
    let l = rw c.rest.ensures at (sym c.number_to-2.ensures ∙ c.in-Some-number_to.is) in
    let m = c.make_blank.ensures in
    let h = c.make_blank.new.held in
    let e = sym m.0 ∙ c.if-make_blank.true in
    let small = to-small 65536 (numeral (rest x.words.now)) l in
    turns x.out.now n h (blank_of c.in-Some.count) (verdict_text true) (blank-held t x.words.now s k l e) c.verdict.ensures
    (held-blank x.held.now n c.in-Some.count (omega (arith, small)) h m.1 e) small

pub returns : goal.returns
returns c =
    let x = c.args in
    let t = take x.size x.held.now in
    let n = c.in-Some-number_to.length in
    let s = sym c.has_space.ensures ∙ not-false _ c.if-not-has_space.false-raw in
    let k = rw c.first.ensures at (sym c.number_to.ensures ∙ c.in-Some.is) in
    let l = rw c.rest.ensures at (sym c.number_to-2.ensures ∙ c.in-Some-number_to.is) in
    let m = c.make_blank.ensures in
    let h = c.make_blank.new.held in
    let e = sym m.0 ∙ c.if-make_blank.false in
    let small = to-small 65536 (numeral (rest x.words.now)) l in
    turns x.out.now x.size h t (verdict_text false) (blank-refused t x.words.now s k l e) c.verdict-2.ensures
    (ap (take x.size) (held_stays x.held.now n c.in-Some.count (omega (arith, small)) h m.1 e m.2)) c.requires
