-- `pieces::common` meets its contract, by what the pairs that are alike are. Assumes nothing.
use Prim.Native.Nat.{ℕ}
use Rattle.letters.proofs.LoopLaws.{common-inside, common-zip}
use Rattle.letters.proofs.pieces.common.Goals as goal
use Rattle.std.proofs.lemmas.Iterator.Consumers.{count_from_yields_List}
use Rattle.std.proofs.lemmas.Iterator.Search.{YieldsList-from_take_while}
use Rattle.std.proofs.lemmas.Iterator.{YieldsList-from_slice, YieldsList-from_zip}
use Rattle.std.proofs.lemmas.List.Folds.{length-prefix_len}
use Rattle.std.specs.List.{zip}
use borrow.Author.Rules.{rules}
use borrow.Author.Tests.{tests}
use lib.Dec.{eqb}
use mathlib.Core.Bool.{Bool}
use mathlib.Core.Path.{◌∙◌}
use native.Mathlib.Omega.{arith}

abbrev alike : ℕ × ℕ → Bool
alike p = eqb p.0 p.1

pub returns : goal.returns
returns c =
    let s = c.args.s.now in
    let w = c.args.w.now in
    let n = count_from_yields_List _ c.count.result c.count.ensures.ran
    (YieldsList-from_take_while _ alike (YieldsList-from_zip (YieldsList-from_slice s (cc)) (YieldsList-from_slice w (cc))) (cc) (cc) (λ x b q k. search (rules, tests))) in
    let e = n ∙ length-prefix_len alike (zip s w) ∙ common-zip s w in
    (e, omega (arith, e, common-inside s w))
