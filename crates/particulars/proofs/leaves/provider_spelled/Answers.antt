-- `particulars::leaves::provider_spelled` meets its contract. As it is spelled, and else decoded. Assumes nothing.
use Rattle.escapes.specs.Rfc7159.{text}
use Rattle.particulars.proofs.LeafLaws.{provider-words}
use Rattle.particulars.proofs.leaves.provider_spelled.Goals as goal
use Rattle.rules.specs.Pieces.{word_number}
use Rattle.rules.specs.Words.{providers}
use Rattle.values.proofs.SpelledLaws.{word-decoded, word_none, word-own}
use borrow.Author.Rules.{rules}
use lib.ListN.{take}
use mathlib.Core.Path.{◌≡◌, sym, ◌∙◌}
use native.Mathlib.Omega.{arith}

pub returns-in-0 : goal.returns-in-0
returns-in-0 c =
    let e : c.of_text.result ≡ word_number providers (take 256 (text c.args.w.now)) = search rules in
    word-decoded providers provider-words c.args.w.now e

pub returns-in_default : goal.returns-in_default
returns-in_default c = c.in-0.is ∙ word_none providers provider-words c.args.w.now c.provider.ensures c.in-0.is (sym c.is_escaped.ensures ∙ c.if-is_escaped.false)

pub returns-in_default-2 : goal.returns-in_default-2
returns-in_default-2 c = word-own providers provider-words c.args.w.now c.provider.ensures (λ z. omega arith)
