-- `fields::vias::keeps_member` meets its contract. A string is under the rule, and nothing else. Assumes nothing.
use Prim.Native.Nat.{ℕ}
use Rattle.fields.proofs.TriedLaws.{hop-plain}
use Rattle.fields.proofs.ViaLaws.{is-there}
use Rattle.fields.proofs.vias.keeps_member.Goals as goal
use Rattle.fields.specs.Via.{hop_rule}
use Rattle.json_text.specs.Places.{part}
use Rattle.values.proofs.SpelledLaws.{ruled-is}
use Rattle.values.proofs.SpellingLaws.{own-bytes}
use Rattle.values.proofs.ValueLaws.{string-text}
use Rattle.values.specs.inner.Asked.{Own}
use mathlib.Core.List.{List}
use mathlib.Core.Path.{refl, sym, ap, subst, ◌∙◌}
use native.Mathlib.Omega.{arith}

pub own_spelling-requires : goal.own_spelling-requires
own_spelling-requires c =
    let a = c.args in
    subst (λ (l : List ℕ). Own l) (sym (c.part-w.ensures ∙ ap (part a.v.now a.x.at) c.requires.1)) (own-bytes a.v.now a.x.at)

pub returns-then-is_string : goal.returns-then-is_string
returns-then-is_string c =
    let a = c.args in
    let w = c.part-w.result.now in
    is-there a.v.now a.x.at a.n (λ e. omega (arith, c.requires.0)) (c.part-w.ensures ∙ ap (part a.v.now a.x.at) c.requires.1)
    (string-text (hop_rule a.n) w c.is_string.ensures c.own_spelling.ensures c.is_hop_text.ensures (rw c.if-is_string.true)
    ∙ sym (ruled-is (hop-plain a.n) w))

pub returns-else-is_string : goal.returns-else-is_string
returns-else-is_string c =
    let a = c.args in
    let w = c.part-w.result.now in
    is-there a.v.now a.x.at a.n (λ e. omega (arith, c.requires.0)) (c.part-w.ensures ∙ ap (part a.v.now a.x.at) c.requires.1)
    (string-text (hop_rule a.n) w c.is_string.ensures refl refl (rw c.if-is_string.false)
    ∙ sym (ruled-is (hop-plain a.n) w))
