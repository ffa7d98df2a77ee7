use Rattle.table.proofs.SearchLaws.{all-every, every-stops}
use Rattle.table.proofs.SoundLaws.{through}
use Rattle.table.proofs.soundness.are_records_sound.Goals as goal
use Rattle.table.specs.Image.{record_count, record_at}
use Rattle.table.specs.WellFormed.{record_sound, records_sound}
use borrow.Author.Count.{below_more}
use borrow.Author.Tests.{not-true, not-false}
use mathlib.Core.Bool.{true}
use mathlib.Core.Path.{◌≡◌, sym}
use native.Mathlib.Omega.{arith}

pub loop-k-init : goal.loop-k-init
loop-k-init c = λ j h. absurd (omega arith)

pub returns-then-not-is_record_sound : goal.returns-then-not-is_record_sound
unfolding records_sound
returns-then-not-is_record_sound c =
    sym (every-stops (λ l. record_sound (record_at c.args.t.now l)) (record_count c.args.t.now)
    c.loop-k.k (omega arith)
    (through record_sound c.is_record_sound.ensures c.record_at.ensures.0 (not-true _ c.if-not-is_record_sound.true-raw)))

pub loop-k-preserved : goal.loop-k-preserved
loop-k-preserved c =
    below_more (λ j. record_sound
    (record_at c.args.t.now j) ≡ true) c.loop-k.k c.loop-k.invariant
    (through record_sound c.is_record_sound.ensures c.record_at.ensures.0 (not-false _ c.if-not-is_record_sound.false-raw))

pub returns : goal.returns
unfolding records_sound
returns c = sym (all-every _ (record_count c.args.t.now) (λ j h. c.loop-k.invariant j (omega arith)))
