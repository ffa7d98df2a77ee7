-- `fields::spelled::field` meets its contract. As it is spelled, and else decoded. Assumes nothing.
use Rattle.escapes.specs.Rfc7159.{text}
use Rattle.rules.specs.Pieces.{word_number}
use borrow.Author.Rules.{rules}
use lib.ListN.{take}
use mathlib.Core.Path.{◌≡◌}
use Rattle.values.proofs.SpelledLaws.{word-decoded, word_none, word-own}
use Rattle.fields.proofs.TriedLaws.{field_words}
use Rattle.fields.proofs.spelled.field.Goals as goal
use Rattle.rules.specs.Names.{fields}
use mathlib.Core.Path.{sym, ◌∙◌}
use native.Mathlib.Omega.{arith}

pub returns-in-0 : goal.returns-in-0
returns-in-0 c =
    let e : c.of_text.result ≡ word_number fields (take 256 (text c.args.w.now)) = search rules in
    (word-decoded fields field_words c.args.w.now e, search rules)

pub returns-in_default : goal.returns-in_default
returns-in_default c = (c.in-0.is ∙ word_none fields field_words c.args.w.now c.field.ensures.0 c.in-0.is (sym c.is_escaped.ensures ∙ c.if-is_escaped.false), c.field.ensures.1)

pub returns-in_default-2 : goal.returns-in_default-2
returns-in_default-2 c = (word-own fields field_words c.args.w.now c.field.ensures.0 (λ z. omega arith), c.field.ensures.1)
