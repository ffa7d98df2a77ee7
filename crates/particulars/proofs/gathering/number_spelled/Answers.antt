-- `particulars::gathering::number_spelled` meets its contract. As it is spelled, and else decoded. Assumes nothing.
use Rattle.escapes.specs.Rfc7159.{text}
use Rattle.particulars.proofs.TableLaws.{names-plain}
use Rattle.particulars.proofs.gathering.number_spelled.Goals as goal
use Rattle.particulars.specs.Types.{names_of}
use Rattle.rules.specs.Pieces.{word_number}
use Rattle.values.proofs.SpelledLaws.{word-decoded, word_none, word-own}
use borrow.Author.Rules.{rules}
use lib.ListN.{take}
use mathlib.Core.Path.{◌≡◌, sym, ◌∙◌}
use native.Mathlib.Omega.{arith}

pub returns-in-0 : goal.returns-in-0
returns-in-0 c =
    let t = c.args.t in
    let e : c.of_text.result ≡ word_number (names_of t) (take 256 (text c.args.w.now)) = search rules in
    (word-decoded (names_of t) (names-plain t) c.args.w.now e, search rules)

pub returns-in_default : goal.returns-in_default
returns-in_default c =
    let t = c.args.t in
    (c.in-0.is ∙ word_none (names_of t) (names-plain t) c.args.w.now c.number_of.ensures.0 c.in-0.is (sym c.is_escaped.ensures ∙ c.if-is_escaped.false), c.number_of.ensures.1)

pub returns-in_default-2 : goal.returns-in_default-2
returns-in_default-2 c =
    let t = c.args.t in
    (word-own (names_of t) (names-plain t) c.args.w.now c.number_of.ensures.0 (λ z. omega arith), c.number_of.ensures.1)
