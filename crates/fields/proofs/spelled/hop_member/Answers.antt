-- `fields::spelled::hop_member` meets its contract. As it is spelled, and else decoded. Assumes nothing.
use Rattle.escapes.specs.Rfc7159.{text}
use Rattle.rules.specs.Pieces.{word_number}
use borrow.Author.Rules.{rules}
use native.Mathlib.Omega.{arith}
use lib.ListN.{take}
use mathlib.Core.Path.{◌≡◌}
use Rattle.values.proofs.SpelledLaws.{word-decoded, word_none, word-own}
use Rattle.fields.proofs.TriedLaws.{member_words}
use Rattle.fields.proofs.spelled.hop_member.Goals as goal
use Rattle.rules.specs.Names.{hop_members}
use mathlib.Core.Path.{sym, ◌∙◌}

pub returns-in-0 : goal.returns-in-0
returns-in-0 c =
    let e : c.of_text.result ≡ word_number hop_members (take 256 (text c.args.w.now)) = search rules in
    word-decoded hop_members member_words c.args.w.now e

pub returns-in_default : goal.returns-in_default
returns-in_default c = c.in-0.is ∙ word_none hop_members member_words c.args.w.now c.hop_member.ensures c.in-0.is (sym c.is_escaped.ensures ∙ c.if-is_escaped.false)

pub returns-in_default-2 : goal.returns-in_default-2
returns-in_default-2 c = word-own hop_members member_words c.args.w.now c.hop_member.ensures (λ z. omega arith)
