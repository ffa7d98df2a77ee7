-- The places of two fields end where the list of ends says. Assumes nothing.
use Rattle.message.proofs.disagreeing.is_callback_training.Goals as goal

pub spelling_at-requires : goal.spelling_at-requires
spelling_at-requires c = c.requires.ends 19

pub spelling_at-requires-then-spells : goal.spelling_at-requires-then-spells
spelling_at-requires-then-spells c = c.requires.ends 15
