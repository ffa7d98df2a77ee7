-- `fields::faults::letter_at` meets its contract. The buffer tells as much as the text, and no place is behind the spelling. Assumes nothing.
use Prim.Native.Nat.{ℕ, ◌+◌}
use Rattle.escapes.proofs.PlaceLaws.{place_inside}
use Rattle.escapes.specs.Placing.{place_of}
use Rattle.escapes.specs.Rfc7159.{text}
use Rattle.fields.specs.Field.{letter_reach}
use borrow.Author.Rules.{rules}
use lib.ListN.{take}
use mathlib.Core.Path.{◌≡◌}
use Rattle.fields.proofs.LetterLaws.{reach_cut}
use Rattle.fields.proofs.faults.letter_at.Goals as goal
use mathlib.Core.Path.{ap, ◌∙◌}
use native.Mathlib.Omega.{arith}

pub overflow_add-result : goal.overflow_add-result
overflow_add-result c =
    let x = c.args in
    omega (arith, c.place_of.ensures, place_inside x.w.now c.of_text.result)

pub returns : goal.returns
returns c =
    let x = c.args in
    let e : c.of_text.result ≡ letter_reach x.n (take 256 (text x.w.now)) = search rules in
    ap (λ (p : ℕ). 1 + p) (c.place_of.ensures ∙ ap (place_of x.w.now) (e ∙ reach_cut x.n (text x.w.now)))
