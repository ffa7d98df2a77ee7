-- Each word is copied as it is spelt. Assumes nothing.
use Rattle.answers.proofs.put_word.Goals as goal

pub returns-in-Pass : goal.returns-in-Pass
returns-in-Pass c = rw c.in-Pass.is c.put.ensures

pub returns-in-Repeat : goal.returns-in-Repeat
returns-in-Repeat c = rw c.in-Repeat.is c.put-in-Repeat.ensures

pub returns-in-Bye : goal.returns-in-Bye
returns-in-Bye c = rw c.in-Bye.is c.put-in-Bye.ensures

pub returns-in-Timeout : goal.returns-in-Timeout
returns-in-Timeout c = rw c.in-Timeout.is c.put-in-Timeout.ensures

pub returns-in-Idle : goal.returns-in-Idle
returns-in-Idle c = rw c.in-Idle.is c.put-in-Idle.ensures

pub returns-in-Freed : goal.returns-in-Freed
returns-in-Freed c = rw c.in-Freed.is c.put-in-Freed.ensures

pub returns-in-None : goal.returns-in-None
returns-in-None c = rw c.in-None.is c.put-in-None.ensures
