-- `answers::Refusal::reply` meets its contract. Each arm computes, once the constructor that it met is put in. Assumes nothing.
use Rattle.answers.proofs.Refusal.reply.Goals as goal

pub returns-in-Call : goal.returns-in-Call
returns-in-Call c = rw c.in-Call.is c.waiting_reply.ensures
