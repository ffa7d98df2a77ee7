-- `fields::spelled::is_hop_text` meets its contract. As it is spelled, and else decoded. Assumes nothing.
use Rattle.values.proofs.SpelledLaws.{tried_plain}
use Rattle.fields.proofs.TriedLaws.{hop-plain}
use Rattle.fields.proofs.spelled.is_hop_text.Goals as goal
use Rattle.escapes.specs.Rfc7159.{text}
use Rattle.fields.specs.Via.{hop_rule}
use borrow.Author.Rules.{rules}
use lib.ListN.{take}
use mathlib.Core.Path.{◌≡◌}
use mathlib.Core.Path.{sym, ◌∙◌}

pub returns-then-is_hop : goal.returns-then-is_hop
returns-then-is_hop c =
    let x = c.args in
    c.if-is_hop.true ∙ sym ((tried_plain (hop-plain x.n)).own x.w.now (sym c.is_hop.ensures ∙ c.if-is_hop.true))

pub returns-else-is_hop : goal.returns-else-is_hop
returns-else-is_hop c =
    let x = c.args in
    let e : c.of_text.result ≡ hop_rule x.n (take 256 (text x.w.now)) = search rules in
    e ∙ (tried_plain (hop-plain x.n)).within x.w.now
