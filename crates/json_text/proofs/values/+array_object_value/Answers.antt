use mathlib.Core.Bool.{false}
use mathlib.Core.Path.{refl, sym, ◌∙◌}
use native.Mathlib.Omega.{arith}
use borrow.Author.Rules.{rules}
use Rattle.json_text.specs.inner.Machine.{arr, obj, value as val, first, name, name₁, after, live, dead}
use Rattle.std.specs.Prelude.{Err}
use Rattle.json_text.proofs.Complete.{first-not}
use Rattle.json_text.proofs.MoveLaws.{short-arr, short-obj, raised}
use Rattle.json_text.proofs.StepLaws.{ws-first, ws-name₁, ws-arr, ws-obj, first_close, first-value, arr-comma, arr_close, arr-miss, name₁_close, name₁-name}
use Rattle.json_text.proofs.StepLaws.{obj-comma, obj_close, obj-miss}
use Rattle.json_text.proofs.TourLaws.{tour-moves, tour-short, tour-alike, spaces, close_quiet, first_alike, calm-is, tally-is}
use Rattle.json_text.proofs.TourLaws.{value-short, value-text, value_scalar, array-bracket, object-bracket, bracket-deep, bracket-many, bracket_in}
use Rattle.json_text.proofs.values.+array_object_value.Goals as goal

pub array-returns-then-s-i : goal.array-returns-then-s-i
array-returns-then-s-i t c =
    record {
      low = search rules;
      high = search rules;
      same = λ k e.
          spaces _ _ _ first (arr k) _ c.past_spaces-i.ensures (ws-first (arr k)) (λ b h. first-not b h)
          ∙ tour-short _ _ first (arr k) _ (search rules) (search rules) (short-arr _ _ first k (search rules) (search rules));
    }

pub array-returns-then-s-i-eq93 : goal.array-returns-then-s-i-eq93
array-returns-then-s-i-eq93 t c =
    record {
      low = search rules;
      high = search rules;
      same = λ k e.
          spaces _ _ _ first (arr k) _ c.past_spaces-i.ensures (ws-first (arr k)) (λ b h. first-not b h)
          ∙ tour-moves _ _ first (arr k) _ false (live after k) (search rules) (close_quiet _ c.if-s-i-eq93.true) (first_close k _ c.if-s-i-eq93.true);
    }

pub array-loop-e-init : goal.array-loop-e-init
array-loop-e-init t c = (
  search rules,
  search rules,
  λ k e.
      spaces _ _ _ first (arr k) _ c.past_spaces-i.ensures (ws-first (arr k)) (λ b h. first-not b h)
      ∙ tour-alike _ _ first val (arr k) _ (search rules) (first_alike _ (c.past_spaces-i.ensures.stop (search rules)) c.if-s-i-eq93.false)
      (first-value k _ (c.past_spaces-i.ensures.stop (search rules)) c.if-s-i-eq93.false),
)

pub array-value-requires : goal.array-value-requires
array-value-requires t c = (omega (arith, c.requires), search rules)

pub array-returns-in_err-e : goal.array-returns-in_err-e
array-returns-in_err-e t c =
    let l = tally-is c.value.ensures c.in_err-e.was in
    tally-is {r = Err _}
    (record {
      low = omega (arith, l.low);
      high = l.high;
      same = λ k e. c.loop-e.invariant.2 k e ∙ l.same (arr k) e;
    })
    (sym (raised c.from_residual.ensures.1))

pub array-past_spaces-j-requires : goal.array-past_spaces-j-requires
array-past_spaces-j-requires t c = let l = tally-is c.value.ensures c.in_ok-e.was in l.high

pub array-returns-then-s-j : goal.array-returns-then-s-j
array-returns-then-s-j t c =
    let l = tally-is c.value.ensures c.in_ok-e.was in
    record {
      low = omega (arith, l.low);
      high = search rules;
      same = λ k e.
          c.loop-e.invariant.2 k e
          ∙ l.same (arr k) e
          ∙ spaces _ _ _ after (arr k) _ c.past_spaces-j.ensures (λ b h. ws-arr b h k) (λ b h. refl)
          ∙ tour-short _ _ after (arr k) _ (search rules) (search rules) (short-arr _ _ after k (search rules) (search rules));
    }

pub array-returns-then-b-eq93 : goal.array-returns-then-b-eq93
array-returns-then-b-eq93 t c =
    let l = tally-is c.value.ensures c.in_ok-e.was in
    record {
      low = omega (arith, l.low);
      high = search rules;
      same = λ k e.
          c.loop-e.invariant.2 k e
          ∙ l.same (arr k) e
          ∙ spaces _ _ _ after (arr k) _ c.past_spaces-j.ensures (λ b h. ws-arr b h k) (λ b h. refl)
          ∙ tour-moves _ _ after (arr k) _ false (live after k) (search rules) refl (arr_close k _ c.if-b-eq93.true);
    }

pub array-returns-then-b-ne44 : goal.array-returns-then-b-ne44
array-returns-then-b-ne44 t c =
    let l = tally-is c.value.ensures c.in_ok-e.was in
    record {
      low = omega (arith, l.low);
      high = search rules;
      same = λ k e.
          c.loop-e.invariant.2 k e
          ∙ l.same (arr k) e
          ∙ spaces _ _ _ after (arr k) _ c.past_spaces-j.ensures (λ b h. ws-arr b h k) (λ b h. refl)
          ∙ tour-moves _ _ after (arr k) _ false dead (search rules) refl
          (arr-miss k _ (c.past_spaces-j.ensures.stop (search rules)) c.if-b-eq93.false c.if-b-ne44.true);
    }

pub array-loop-e-smaller : goal.array-loop-e-smaller
array-loop-e-smaller t c =
    let l = tally-is c.value.ensures c.in_ok-e.was in
    omega (arith, l.low)

pub array-loop-e-preserved : goal.array-loop-e-preserved
array-loop-e-preserved t c =
    let l = tally-is c.value.ensures c.in_ok-e.was in (
      omega (arith, l.low),
      search rules,
      λ k e.
          c.loop-e.invariant.2 k e
          ∙ l.same (arr k) e
          ∙ spaces _ _ _ after (arr k) _ c.past_spaces-j.ensures (λ b h. ws-arr b h k) (λ b h. refl)
          ∙ tour-moves _ _ after (arr k) _ false (live val (arr k)) (search rules) refl (arr-comma k _ c.if-b-ne44.false),
    )

pub object-returns-then-s-i : goal.object-returns-then-s-i
object-returns-then-s-i t c =
    record {
      low = search rules;
      high = search rules;
      same = λ k e.
          spaces _ _ _ name₁ (obj k) _ c.past_spaces-i.ensures (ws-name₁ (obj k)) (λ b h. refl)
          ∙ tour-short _ _ name₁ (obj k) _ (search rules) (search rules) (short-obj _ _ name₁ k (search rules) (search rules));
    }

pub object-returns-then-s-i-eq125 : goal.object-returns-then-s-i-eq125
object-returns-then-s-i-eq125 t c =
    record {
      low = search rules;
      high = search rules;
      same = λ k e.
          spaces _ _ _ name₁ (obj k) _ c.past_spaces-i.ensures (ws-name₁ (obj k)) (λ b h. refl)
          ∙ tour-moves _ _ name₁ (obj k) _ false (live after k) (search rules) refl (name₁_close k _ c.if-s-i-eq125.true);
    }

pub object-loop-a-init : goal.object-loop-a-init
object-loop-a-init t c = (
  search rules,
  search rules,
  λ k e.
      spaces _ _ _ name₁ (obj k) _ c.past_spaces-i.ensures (ws-name₁ (obj k)) (λ b h. refl)
      ∙ tour-alike _ _ name₁ name (obj k) _ (search rules) refl (name₁-name k _ (c.past_spaces-i.ensures.stop (search rules)) c.if-s-i-eq125.false),
)

pub object-returns-in_err-a : goal.object-returns-in_err-a
object-returns-in_err-a t c =
    let m = calm-is c.label.ensures c.in_err-a.was in
    tally-is {r = Err _}
    (record {
      low = omega (arith, m.low);
      high = m.high;
      same = λ k e. c.loop-a.invariant.2 k e ∙ m.same (obj k) _;
    })
    (sym (raised c.from_residual.ensures.1))

pub object-value-requires : goal.object-value-requires
object-value-requires t c =
    let m = calm-is c.label.ensures c.in_ok-a.was in (
      omega (arith, c.requires),
      m.high,
    )

pub object-returns-in_err-e : goal.object-returns-in_err-e
object-returns-in_err-e t c =
    let m = calm-is c.label.ensures c.in_ok-a.was in
    let l = tally-is c.value.ensures c.in_err-e.was in
    tally-is {r = Err _}
    (record {
      low = omega (arith, m.low, l.low);
      high = l.high;
      same = λ k e.
          c.loop-a.invariant.2 k e
          ∙ m.same (obj k) _
          ∙ l.same (obj k) e;
    })
    (sym (raised c.from_residual-in_err-e.ensures.1))

pub object-past_spaces-j-requires : goal.object-past_spaces-j-requires
object-past_spaces-j-requires t c =
    let m = calm-is c.label.ensures c.in_ok-a.was in
    let l = tally-is c.value.ensures c.in_ok-e.was in
    l.high

pub object-returns-then-s-j : goal.object-returns-then-s-j
object-returns-then-s-j t c =
    let m = calm-is c.label.ensures c.in_ok-a.was in
    let l = tally-is c.value.ensures c.in_ok-e.was in
    record {
      low = omega (arith, l.low, m.low);
      high = search rules;
      same = λ k e.
          c.loop-a.invariant.2 k e
          ∙ m.same (obj k) _
          ∙ l.same (obj k) e
          ∙ spaces _ _ _ after (obj k) _ c.past_spaces-j.ensures (λ b h. ws-obj b h k) (λ b h. refl)
          ∙ tour-short _ _ after (obj k) _ (search rules) (search rules) (short-obj _ _ after k (search rules) (search rules));
    }

pub object-returns-then-b-eq125 : goal.object-returns-then-b-eq125
object-returns-then-b-eq125 t c =
    let m = calm-is c.label.ensures c.in_ok-a.was in
    let l = tally-is c.value.ensures c.in_ok-e.was in
    record {
      low = omega (arith, l.low, m.low);
      high = search rules;
      same = λ k e.
          c.loop-a.invariant.2 k e
          ∙ m.same (obj k) _
          ∙ l.same (obj k) e
          ∙ spaces _ _ _ after (obj k) _ c.past_spaces-j.ensures (λ b h. ws-obj b h k) (λ b h. refl)
          ∙ tour-moves _ _ after (obj k) _ false (live after k) (search rules) refl (obj_close k _ c.if-b-eq125.true);
    }

pub object-returns-then-b-ne44 : goal.object-returns-then-b-ne44
object-returns-then-b-ne44 t c =
    let m = calm-is c.label.ensures c.in_ok-a.was in
    let l = tally-is c.value.ensures c.in_ok-e.was in
    record {
      low = omega (arith, l.low, m.low);
      high = search rules;
      same = λ k e.
          c.loop-a.invariant.2 k e
          ∙ m.same (obj k) _
          ∙ l.same (obj k) e
          ∙ spaces _ _ _ after (obj k) _ c.past_spaces-j.ensures (λ b h. ws-obj b h k) (λ b h. refl)
          ∙ tour-moves _ _ after (obj k) _ false dead (search rules) refl
          (obj-miss k _ (c.past_spaces-j.ensures.stop (search rules)) c.if-b-eq125.false c.if-b-ne44.true);
    }

pub object-loop-a-smaller : goal.object-loop-a-smaller
object-loop-a-smaller t c =
    let m = calm-is c.label.ensures c.in_ok-a.was in
    let l = tally-is c.value.ensures c.in_ok-e.was in
    omega (arith, l.low, m.low)

pub object-loop-a-preserved : goal.object-loop-a-preserved
object-loop-a-preserved t c =
    let m = calm-is c.label.ensures c.in_ok-a.was in
    let l = tally-is c.value.ensures c.in_ok-e.was in (
      omega (arith, l.low, m.low),
      search rules,
      λ k e.
          c.loop-a.invariant.2 k e
          ∙ m.same (obj k) _
          ∙ l.same (obj k) e
          ∙ spaces _ _ _ after (obj k) _ c.past_spaces-j.ensures (λ b h. ws-obj b h k) (λ b h. refl)
          ∙ tour-moves _ _ after (obj k) _ false (live name (obj k)) (search rules) refl (obj-comma k _ c.if-b-ne44.false),
    )

pub value-returns-then-s-i : goal.value-returns-then-s-i
value-returns-then-s-i t c = value-short _ _ c.past_spaces-i.ensures (search rules)

pub value-returns-then-b-eq34 : goal.value-returns-then-b-eq34
value-returns-then-b-eq34 t c = value-text _ _ c.past_spaces-i.ensures (search rules) c.if-b-eq34.true c.string.ensures
    c.taking.ensures

pub value-returns-then-left-eq0 : goal.value-returns-then-left-eq0
value-returns-then-left-eq0 t c = bracket-deep _ _ c.past_spaces-i.ensures (search rules) (array-bracket c.if-b-eq91.true) c.if-left-eq0.true

pub value-returns-then-room-eq0 : goal.value-returns-then-room-eq0
value-returns-then-room-eq0 t c = bracket-many _ _ c.past_spaces-i.ensures (search rules) (array-bracket c.if-b-eq91.true)
    c.if-left-eq0.false c.if-room-eq0.true

pub value-returns-then-b-eq91 : goal.value-returns-then-b-eq91
value-returns-then-b-eq91 t c =
    bracket_in _ _ c.past_spaces-i.ensures (search rules) (array-bracket c.if-b-eq91.true)
    c.if-left-eq0.false c.if-room-eq0.false
    c.array.ensures

pub value-returns-then-left-eq0-2 : goal.value-returns-then-left-eq0-2
value-returns-then-left-eq0-2 t c = bracket-deep _ _ c.past_spaces-i.ensures (search rules) (object-bracket c.if-b-eq123.true)
    c.if-left-eq0-2.true

pub value-returns-then-room-eq0-2 : goal.value-returns-then-room-eq0-2
value-returns-then-room-eq0-2 t c = bracket-many _ _ c.past_spaces-i.ensures (search rules)
    (object-bracket c.if-b-eq123.true)
    c.if-left-eq0-2.false c.if-room-eq0-2.true

pub value-returns-then-b-eq123 : goal.value-returns-then-b-eq123
value-returns-then-b-eq123 t c =
    bracket_in _ _ c.past_spaces-i.ensures (search rules) (object-bracket c.if-b-eq123.true)
    c.if-left-eq0-2.false c.if-room-eq0-2.false
    c.object.ensures

pub value-scalar-requires : goal.value-scalar-requires
value-scalar-requires t c =
    record {
      inside = search rules;
      no_space = c.past_spaces-i.ensures.stop (search rules);
      no-quote = c.if-b-eq34.false;
      no-array = c.if-b-eq91.false;
      no-object = c.if-b-eq123.false;
    }

pub value-returns : goal.value-returns
value-returns t c =
    value_scalar _ _ c.past_spaces-i.ensures
    (record {
      inside = search rules;
      no_space = c.past_spaces-i.ensures.stop (search rules);
      no-quote = c.if-b-eq34.false;
      no-array = c.if-b-eq91.false;
      no-object = c.if-b-eq123.false;
    })
    c.scalar.ensures c.starting.ensures
