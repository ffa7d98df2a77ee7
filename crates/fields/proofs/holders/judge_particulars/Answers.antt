-- `fields::holders::judge_particulars` meets its contract. One law of `JudgingLaws` for each way out. Assumes nothing.
use Rattle.fields.proofs.JudgingLaws.{judged-sound, judged-unsound}
use Rattle.fields.proofs.holders.judge_particulars.Goals as goal

pub returns-in-None : goal.returns-in-None
returns-in-None c = judged-sound c.args.k c.args.n c.args.v.now c.requires c.in-None.ensures

pub returns-in-Some : goal.returns-in-Some
returns-in-Some c = judged-unsound c.args.k c.args.n c.args.v.now c.requires c.in-Some.ensures
