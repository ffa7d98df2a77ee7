-- The puts make a chain. Assumes nothing.
use Rattle.answers.specs.Answer.{spelling}
use Rattle.lines.proofs.WritingLaws.{word-length}
use Rattle.lines.proofs.answering.put_accepted.Goals as goal
use Rattle.octets.proofs.Chain.{more, start}
use Rattle.octets.proofs.DecimalLaws.{shown-length}
use Rattle.octets.specs.Decimal.{shown}
use Rattle.octets.specs.Splice.{written}
use lib.ListN.{length}
use mathlib.Core.List.{[], ◌∷◌, ◌++◌, append_assoc}
use mathlib.Core.Path.{◌≡◌, ap, ◌∙◌}
use native.Mathlib.Omega.{arith}

pub put-before_state-requires : goal.put-before_state-requires
put-before_state-requires c = omega (arith, word-length c.args.word)

pub put_decimal-behind_state-requires : goal.put_decimal-behind_state-requires
put_decimal-behind_state-requires c =
    omega (arith, word-length c.args.word, shown-length c.args.state (omega arith))

pub put-requires : goal.put-requires
put-requires c =
    omega (arith, word-length c.args.word, shown-length c.args.state (omega arith))

pub returns : goal.returns
returns c =
    let x = c.args in
    let w = more (10 ∷ []) (more (shown x.state)
    (more (32 ∷ []) (more (spelling x.word)
    (more (32 ∷ []) (start x.out.now) c.put-before_word.ensures)
    c.put_word-behind_word.ensures) c.put-before_state.ensures)
    c.put_decimal-behind_state.ensures) c.put.ensures in
    let e : ((((([] ++ (32 ∷ [])) ++ spelling x.word) ++ (32 ∷ [])) ++ shown x.state) ++ (10 ∷ [])) ≡ 32
    ∷ ((spelling x.word ++ (32 ∷ shown x.state)) ++ (10 ∷ [])) = simp append_assoc in
    (w.place ∙ ap length e, w.is ∙ ap (written x.out.now) e, omega (arith, word-length x.word, shown-length x.state (omega arith)))
