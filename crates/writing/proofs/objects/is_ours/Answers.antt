-- `writing::objects::is_ours` meets its contract: host and destination are spelled at the places that `hop_of` finds. Assumes nothing.
use Rattle.fields.specs.Hop.{host_of, destination_of}
use Rattle.values.specs.Spans.{spelling_at}
use Rattle.writing.proofs.objects.is_ours.Goals as goal
use Rattle.writing.specs.Objects.{is_ours}
use mathlib.Core.Path.{sym, ◌∙◌}

pub returns-then-spells : goal.returns-then-spells
unfolding is_ours host_of destination_of spelling_at
returns-then-spells c =
    rw (
      ← c.hop_of-h.ensures,
      ← c.value_part.ensures,
      ← c.spelling_of-its_host.ensures,
      sym c.spells.ensures ∙ c.if-spells.true,
      ← c.value_part-2.ensures,
      ← c.spelling_of-its_destination.ensures,
      ← c.spells-then-spells.ensures,
    )

pub returns-else-spells : goal.returns-else-spells
unfolding is_ours host_of destination_of spelling_at
returns-else-spells c =
    rw (
      ← c.hop_of-h.ensures,
      ← c.value_part.ensures,
      ← c.spelling_of-its_host.ensures,
      sym c.spells.ensures ∙ c.if-spells.false,
    ) c.if-spells.false
