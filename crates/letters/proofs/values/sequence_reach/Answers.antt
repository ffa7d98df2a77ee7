-- `values::sequence_reach` meets its contract, piece by piece. Assumes nothing.
use Prim.Native.Nat.{ℕ, ◌+◌}
use Rattle.letters.proofs.JoinLaws.{count-is, count_none, fixed-is}
use Rattle.letters.proofs.values.sequence_reach.Goals as goal
use Rattle.letters.specs.inner.Reach.{fixed_reach, reach_of, sequence_reach, words_reach}
use Rattle.octets.specs.Ascii.{ascii}
use Rattle.rules.specs.Names.{methods}
use mathlib.Core.Path.{ap, ◌∙◌}

pub returns-then-end-eq0 : goal.returns-then-end-eq0
unfolding sequence_reach reach_of
returns-then-end-eq0 c = count_none 4294967295 (fixed_reach (ascii " ") (words_reach methods)) c.args.s.now c.count_letters-end.ensures.0 c.if-end-eq0.true

pub returns : goal.returns
unfolding sequence_reach reach_of
returns c = let s = c.args.s.now in
    count-is 4294967295 (fixed_reach (ascii " ") (words_reach methods)) s c.count_letters-end.ensures.0
    c.if-end-eq0.false
    (fixed-is (words_reach methods) s _ (ascii " ")
    (ap (λ (k : ℕ). c.count_letters-end.result + 1 + k)
    (c.method_reach-method.ensures.0 ∙ ap (words_reach methods) c.rest.ensures.0)) c.fixed_or.ensures)
