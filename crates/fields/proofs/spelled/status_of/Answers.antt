-- `fields::spelled::status_of` meets its contract. As it is spelled, and else decoded: the front decides. Assumes nothing.
use Rattle.escapes.specs.Rfc7159.{text}
use Rattle.fields.proofs.FieldLaws.{status-kept}
use Rattle.fields.proofs.spelled.status_of.Goals as goal
use Rattle.rules.proofs.PlainLaws.{code-front, status-front}
use Rattle.rules.specs.Status.{status_of}
use Rattle.values.proofs.SpelledLaws.{front-own, front_same, or_told}
use borrow.Author.Rules.{rules}
use lib.ListN.{take}
use mathlib.Core.Path.{◌≡◌, sym, ◌∙◌}
use native.Mathlib.Omega.{arith}

pub returns : goal.returns
returns c =
    let w = c.args.w.now in
    or_told c.status_of.result c.or_else.ensures
    (λ n h. (let e : c.or_else.result ≡ status_of (take 256 (text w)) = search rules in e) ∙ front_same status-front (omega arith) status_of code-front w)
    (λ x s h. h ∙ sym s ∙ c.status_of.ensures ∙ sym (front-own status-front (omega arith) status_of code-front w (sym (status-kept w (sym s ∙ c.status_of.ensures)))))
