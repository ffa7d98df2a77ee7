-- `table::soundness::well_formed` meets its contract. One law for each way out. Assumes nothing.
use Rattle.octets.proofs.TestLaws.{clash}
use Rattle.table.proofs.SoundLaws.{frame-broken, record_broken, only-distinct, frame-size}
use Rattle.table.proofs.soundness.well_formed.Goals as goal
use Rattle.table.proofs.soundness.well_formed.Goals.{then-is_frame_sound, else-is_frame_sound}
use mathlib.Core.Path.{sym, ◌∙◌}

pub is_distinct-requires : goal.is_distinct-requires
is_distinct-requires c =
    elim c.if-is_frame_sound.branch [
      | then-is_frame_sound w ↦ (
        frame-size c.args.t.now (sym c.is_frame_sound.ensures ∙ w.if-is_frame_sound.true),
        sym w.are_records_sound.ensures ∙ sym w.value-is ∙ c.if-are_records_sound.true,
      )
      | else-is_frame_sound w ↦ clash c.if-are_records_sound.true (w.value-is ∙ w.if-is_frame_sound.false)
    ]

pub returns-then-are_records_sound : goal.returns-then-are_records_sound
returns-then-are_records_sound c =
    elim c.if-is_frame_sound.branch [
      | then-is_frame_sound w ↦
          only-distinct c.args.t.now (sym c.is_frame_sound.ensures ∙ w.if-is_frame_sound.true)
          (sym w.are_records_sound.ensures ∙ sym w.value-is ∙ c.if-are_records_sound.true) c.is_distinct.ensures
      | else-is_frame_sound w ↦ clash c.if-are_records_sound.true (w.value-is ∙ w.if-is_frame_sound.false)
    ]

pub returns-else-are_records_sound : goal.returns-else-are_records_sound
returns-else-are_records_sound c =
    c.if-are_records_sound.false ∙ elim c.if-is_frame_sound.branch [
      | then-is_frame_sound w ↦
          record_broken c.args.t.now (sym c.is_frame_sound.ensures ∙ w.if-is_frame_sound.true)
          (sym w.are_records_sound.ensures ∙ sym w.value-is ∙ c.if-are_records_sound.false)
      | else-is_frame_sound w ↦ frame-broken c.args.t.now (sym c.is_frame_sound.ensures ∙ w.if-is_frame_sound.false)
    ]
