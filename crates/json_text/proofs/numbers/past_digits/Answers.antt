use Rattle.json_text.proofs.MoveLaws.{passes}
use Rattle.json_text.proofs.numbers.past_digits.Goals as goal
use borrow.Author.Rules.{rules}

pub returns : goal.returns
returns c =
    let p = c.past.ensures in
    passes p.within.0 p.within.1 (λ k g h. let q = p.passed k g h in search rules) (λ h. let q = p.stopped h in search rules)
