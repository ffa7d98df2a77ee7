-- `fields::spelled::rescuee` meets its contract. As it is spelled, and else decoded. Assumes nothing.
use Rattle.escapes.specs.Rfc7159.{text}
use Rattle.rules.specs.Pieces.{word_number}
use borrow.Author.Rules.{rules}
use native.Mathlib.Omega.{arith}
use lib.ListN.{take}
use mathlib.Core.Path.{◌≡◌}
use Rattle.values.proofs.SpelledLaws.{word-decoded, word-own}
use Rattle.fields.proofs.TriedLaws.{rescuee_words}
use Rattle.fields.proofs.spelled.rescuee.Goals as goal
use Rattle.rules.specs.Words.{rescuees}

pub returns-in-0 : goal.returns-in-0
returns-in-0 c =
    let e : c.of_text.result ≡ word_number rescuees (take 256 (text c.args.w.now)) = search rules in
    word-decoded rescuees rescuee_words c.args.w.now e

pub returns-in_default : goal.returns-in_default
returns-in_default c = word-own rescuees rescuee_words c.args.w.now c.rescuee.ensures (λ z. omega arith)
