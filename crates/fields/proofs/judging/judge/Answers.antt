-- `fields::judging::judge` meets its contract. The rules as the code goes through them are those of the list. Assumes nothing.
use Rattle.fields.proofs.ChainLaws.{chain-keeps}
use Rattle.fields.proofs.JudgingLaws.{judged-first, judged-kept, judged-letter}
use Rattle.fields.proofs.judging.judge.Goals as goal
use Rattle.fields.proofs.judging.judge.Goals.{else-n-lt-VIA-via-then-n-lt-VIA+else-is_string, else-n-lt-VIA-via-else-n-lt-VIA}
use native.Mathlib.Omega.{arith}
use mathlib.Core.Path.{sym, ◌∙◌}

pub returns-then-keeps_rule : goal.returns-then-keeps_rule
returns-then-keeps_rule c = judged-kept c.args.k c.args.n c.args.v.now
    (c.keeps_rule.ensures ∙ chain-keeps c.args.k c.args.v.now c.args.n c.requires.1.0 c.requires.1.1 (sym c.holds_particulars.ensures ∙ c.if-holds_particulars.false))
    c.if-keeps_rule.true

pub returns-then-is_string : goal.returns-then-is_string
returns-then-is_string c =
    judged-letter c.args.k c.args.n c.args.v.now
    (c.keeps_rule.ensures ∙ chain-keeps c.args.k c.args.v.now c.args.n c.requires.1.0 c.requires.1.1 (sym c.holds_particulars.ensures ∙ c.if-holds_particulars.false))
    c.if-keeps_rule.false
    c.requires.1.0 c.if-n-lt-VIA.true (sym c.is_string.ensures ∙ c.if-is_string.true) c.own_spelling.ensures
    c.letter_at.ensures

pub returns : goal.returns
returns c =
    judged-first c.args.k c.args.n c.args.v.now
    (c.keeps_rule.ensures ∙ chain-keeps c.args.k c.args.v.now c.args.n c.requires.1.0 c.requires.1.1 (sym c.holds_particulars.ensures ∙ c.if-holds_particulars.false))
    c.if-keeps_rule.false
    c.requires.1.0 (λ h. elim c.else-n-lt-VIA.branch [
      | else-n-lt-VIA-via-then-n-lt-VIA+else-is_string w ↦ sym w.is_string.ensures ∙ w.if-is_string.false
      | else-n-lt-VIA-via-else-n-lt-VIA w ↦ absurd (omega arith)
    ]) (sym c.holds_particulars.ensures ∙ c.if-holds_particulars.false)
