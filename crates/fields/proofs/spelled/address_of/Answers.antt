-- `fields::spelled::address_of` meets its contract. As it is spelled, and else decoded. Assumes nothing.
use Rattle.escapes.specs.Rfc7159.{text}
use Rattle.fields.proofs.FieldLaws.{address_kept}
use Rattle.fields.proofs.TriedLaws.{broken_address}
use Rattle.fields.proofs.spelled.address_of.Goals as goal
use Rattle.rules.proofs.PlainLaws.{address_plain}
use Rattle.rules.specs.Address.{address_of}
use Rattle.std.specs.Prelude.{None}
use Rattle.values.proofs.SpelledLaws.{own-text, within_same, or_told}
use borrow.Author.Rules.{rules}
use lib.ListN.{take}
use mathlib.Core.Path.{◌≡◌, ap, sym, ◌∙◌}

pub returns : goal.returns
returns c =
    let w = c.args.w.now in
    or_told c.address_of.result c.or_else.ensures
    (λ n h. (let e : c.or_else.result ≡ address_of (take 256 (text w)) = search rules in e) ∙ within_same address_plain address_of None broken_address w)
    (λ x s h. h ∙ sym s ∙ c.address_of.ensures ∙ ap address_of (sym (own-text address_plain w (sym (address_kept w (sym s ∙ c.address_of.ensures))))))
