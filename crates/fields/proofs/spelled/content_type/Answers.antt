-- `fields::spelled::content_type` meets its contract. As it is spelled, and else decoded. Assumes nothing.
use Rattle.escapes.specs.Rfc7159.{text}
use Rattle.rules.specs.Pieces.{word_number}
use borrow.Author.Rules.{rules}
use native.Mathlib.Omega.{arith}
use lib.ListN.{take}
use mathlib.Core.Path.{◌≡◌}
use Rattle.values.proofs.SpelledLaws.{word-decoded, word-own}
use Rattle.fields.proofs.TriedLaws.{type_words}
use Rattle.fields.proofs.spelled.content_type.Goals as goal
use Rattle.rules.specs.Words.{content_types}

pub returns-in-0 : goal.returns-in-0
returns-in-0 c =
    let e : c.of_text.result ≡ word_number content_types (take 256 (text c.args.w.now)) = search rules in
    word-decoded content_types type_words c.args.w.now e

pub returns-in_default : goal.returns-in_default
returns-in_default c = word-own content_types type_words c.args.w.now c.content_type.ensures (λ z. omega arith)
