-- `fields::spelled::sequence_of` meets its contract. As it is spelled, and else decoded. Assumes nothing.
use Rattle.escapes.specs.Rfc7159.{text}
use Rattle.fields.proofs.FieldLaws.{sequence-kept}
use Rattle.fields.proofs.TriedLaws.{broken-sequence}
use Rattle.fields.proofs.spelled.sequence_of.Goals as goal
use Rattle.rules.proofs.PlainLaws.{sequence-plain}
use Rattle.rules.specs.Sequence.{sequence_of}
use Rattle.std.specs.Prelude.{None}
use Rattle.values.proofs.SpelledLaws.{own-text, within_same, or_told}
use borrow.Author.Rules.{rules}
use lib.ListN.{take}
use mathlib.Core.Path.{◌≡◌, ap, sym, ◌∙◌}

pub returns : goal.returns
returns c =
    let w = c.args.w.now in
    or_told c.sequence_of.result c.or_else.ensures
    (λ n h. (let e : c.or_else.result ≡ sequence_of (take 256 (text w)) = search rules in e) ∙ within_same sequence-plain sequence_of None broken-sequence w)
    (λ x s h. h ∙ sym s ∙ c.sequence_of.ensures ∙ ap sequence_of (sym (own-text sequence-plain w (sym (sequence-kept w (sym s ∙ c.sequence_of.ensures))))))
