-- `fields::spelled::tag` meets its contract. As it is spelled, and else decoded. Assumes nothing.
use Rattle.escapes.specs.Rfc7159.{text}
use Rattle.rules.specs.Pieces.{word_number}
use borrow.Author.Rules.{rules}
use native.Mathlib.Omega.{arith}
use lib.ListN.{take}
use mathlib.Core.Path.{◌≡◌}
use Rattle.values.proofs.SpelledLaws.{word-decoded, word-own}
use Rattle.fields.proofs.TriedLaws.{tag_words}
use Rattle.fields.proofs.spelled.tag.Goals as goal
use Rattle.rules.specs.Names.{tags}

pub returns-in-0 : goal.returns-in-0
returns-in-0 c =
    let e : c.of_text.result ≡ word_number tags (take 256 (text c.args.w.now)) = search rules in
    word-decoded tags tag_words c.args.w.now e

pub returns-in_default : goal.returns-in_default
returns-in_default c = word-own tags tag_words c.args.w.now c.tag.ensures (λ z. omega arith)
