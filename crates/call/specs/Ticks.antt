-- Ticks (01 Events, 'Tick'). Assumes nothing.
use Rattle.std.specs.Prelude.{ℕ, cond, leb, ltb}
use Rattle.answers.specs.declared.State.{State}
use Rattle.answers.specs.declared.State.TheVariants.{Calling, Ringing, Answered, Talking, Ended, Cancelling}
use Rattle.answers.specs.declared.Word.TheVariants.{Timeout, Idle, None}
use Rattle.call.specs.declared.records.Call.{Call}
use Rattle.call.specs.declared.records.Outcome.{Outcome}
use Rattle.call.specs.Outcomes.{unchanged, goes, freed, since}

-- 1 or 6 entered 15,000 ms ago or more, timeout, to 5; 2 likewise at 150,000; 3, 4 with chat time 1,800,000 ago or more, idle,
-- to 5; 5 entered more than 3,600,000 ago, freed; else none
abbrev pub tick_in : State → ℕ → Call → Outcome
tick_in Calling now c = cond (leb 15000 (since now c.entry)) (goes Timeout Ended now c) (unchanged None c)
tick_in Ringing now c = cond (leb 150000 (since now c.entry)) (goes Timeout Ended now c) (unchanged None c)
tick_in Answered now c = cond (leb 1800000 (since now c.chat)) (goes Idle Ended now c) (unchanged None c)
tick_in Talking now c = cond (leb 1800000 (since now c.chat)) (goes Idle Ended now c) (unchanged None c)
tick_in Ended now c = cond (ltb 3600000 (since now c.entry)) freed (unchanged None c)
tick_in Cancelling now c = cond (leb 15000 (since now c.entry)) (goes Timeout Ended now c) (unchanged None c)
