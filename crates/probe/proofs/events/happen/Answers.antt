-- By the words. Assumes nothing.
use Rattle.probe.proofs.CommandLaws.{does}
use Rattle.probe.proofs.EventLaws.{an_event, no_bytes, no-event, no-time}
use Rattle.probe.proofs.TableLaws.{turns}
use Rattle.probe.proofs.events.happen.Goals as goal
use Rattle.showing.proofs.WordLaws.{got_alone, got_false, got_place, got_true, half, rest-short}
use Rattle.showing.specs.Shown.{unknown}
use Rattle.showing.specs.Words.{is_bytes, rest}
use borrow.Author.Tests.{not-false, not-true}
use lib.ListN.{take}
use mathlib.Core.Path.{◌∙◌, refl, sym}
use native.Mathlib.Omega.{arith}

pub returns-then-not-has_space : goal.returns-then-not-has_space
returns-then-not-has_space c =
    let x = c.args in
    let t = take x.size x.held.now in
    turns x.out.now x.size x.held.now t unknown
    (no-event x.ceiling t x.tick x.words.now (sym c.has_space.ensures ∙ not-true _ c.if-not-has_space.true-raw))
    c.put_unknown.ensures refl
    c.requires.0

pub take_bytes-requires : goal.take_bytes-requires
take_bytes-requires c =
    rw c.rest.ensures
    (omega (arith, rest-short c.args.words.now, c.requires.1))

pub returns-in_default : goal.returns-in_default
returns-in_default c =
    let x = c.args in
    let t = take x.size x.held.now in
    let b = got_false (is_bytes (rest x.words.now)) (rw c.rest.ensures at c.take_bytes.ensures) c.in_default.is in
    turns x.out.now x.size x.held.now t unknown
    (no_bytes x.ceiling t x.tick x.words.now (sym c.has_space.ensures ∙ not-false _ c.if-not-has_space.false-raw) b)
    c.put_unknown-in_default.ensures refl c.requires.0

pub returns-in_default-number : goal.returns-in_default-number
returns-in_default-number c =
    let x = c.args in
    let t = take x.size x.held.now in
    let b = got_true (is_bytes (rest x.words.now)) (rw c.rest.ensures at c.take_bytes.ensures) c.in-Some.is in
    let v = rw c.first.ensures at (sym c.number.ensures ∙ c.in_default-number.is) in
    turns x.out.now x.size x.held.now t unknown
    (no-time x.ceiling t x.tick x.words.now (sym c.has_space.ensures ∙ not-false _ c.if-not-has_space.false-raw) b v)
    c.put_unknown-in_default-number.ensures refl c.requires.0

pub happens-requires : goal.happens-requires
happens-requires c =
    let w = rest c.args.words.now in
    let k = rw c.rest.ensures at c.take_bytes.ensures in
    (c.requires.0, omega (arith, c.requires.1, half w, rest-short c.args.words.now, (got_place k (got_true (is_bytes w) k c.in-Some.is) c.in-Some.is).0))

pub returns : goal.returns
returns c =
    let x = c.args in
    let t = take x.size x.held.now in
    let w = rest x.words.now in
    let k = rw c.rest.ensures at c.take_bytes.ensures in
    let v = rw c.first.ensures at (sym c.number.ensures ∙ c.in-Some-number.is) in
    let e = an_event x.ceiling t x.tick x.words.now (sym c.has_space.ensures ∙ not-false _ c.if-not-has_space.false-raw) c.in-Some-number.time
    (got_true (is_bytes w) k c.in-Some.is) v in
    does x.out.now (sym e) (rw (got_alone (is_bytes w) k c.in-Some.is) at c.happens.ensures)
