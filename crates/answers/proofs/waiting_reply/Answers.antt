-- `answers::waiting_reply` meets its contract. Each arm computes, once the constructor that it met is put in. Assumes nothing.
use Rattle.answers.proofs.waiting_reply.Goals as goal

pub returns-in-Requester : goal.returns-in-Requester
returns-in-Requester c = rw c.in-Requester.is c.reason_reply.ensures

pub returns-in-CallbackRequester : goal.returns-in-CallbackRequester
returns-in-CallbackRequester c = rw c.in-CallbackRequester.is c.reason_reply-in-CallbackRequester.ensures
