-- Responses (01 Events, 'Responses'), in the paper's order: to INVITE, to BYE, MESSAGE, NOTIFY and REFER, to CANCEL and ACK, to CALLBACK; `response` goes by the
-- method. Assumes nothing.
use Rattle.std.specs.Prelude.{ℕ, Bool, true, false, cond, eqb, ltb}
use Rattle.answers.specs.declared.State.{State}
use Rattle.answers.specs.declared.State.TheVariants.{Calling, Ringing, Answered, Talking, Ended, Cancelling}
use Rattle.answers.specs.declared.Word.TheVariants.{Pass, Bye}
use Rattle.answers.specs.declared.Reason.TheVariants.{WrongNumber, NotNow}
use Rattle.answers.specs.declared.Waiting.TheVariants.{Nobody}
use Rattle.call.specs.declared.records.Call.{Call}
use Rattle.call.specs.declared.events.Method.{Method}
use Rattle.call.specs.declared.events.Method.TheVariants.{Invite, Bye, Cancel, Ack, Message, Callback, Refer, Notify}
use Rattle.call.specs.declared.events.Response.{Response}
use Rattle.call.specs.declared.records.Outcome.{Outcome}
use Rattle.call.specs.Outcomes.{refused, stays, goes}
use Rattle.call.specs.Requests.{highest_of}

-- to INVITE, 1xx: in 1 pass (180 goes to 2); in 2, 6 pass; else 24
abbrev pub progress : State → ℕ → ℕ → Call → Outcome
progress Calling status now c = cond (eqb status 180) (goes Pass Ringing now c) (stays Pass now c)
progress Ringing status now c = stays Pass now c
progress Answered status now c = refused NotNow Nobody
progress Talking status now c = refused NotNow Nobody
progress Ended status now c = refused NotNow Nobody
progress Cancelling status now c = stays Pass now c

-- to INVITE, 2xx: 1, 2 to 3 pass; 3, 4 pass; 6 to 5 and 5, bye
abbrev pub success : State → ℕ → Call → Outcome
success Calling now c = goes Pass Answered now c
success Ringing now c = goes Pass Answered now c
success Answered now c = stays Pass now c
success Talking now c = stays Pass now c
success Ended now c = stays Bye now c
success Cancelling now c = goes Bye Ended now c

-- to INVITE, 300 up: 1, 2, 6 to 5 pass; else 24
abbrev pub failure : State → ℕ → Call → Outcome
failure Calling now c = goes Pass Ended now c
failure Ringing now c = goes Pass Ended now c
failure Answered now c = refused NotNow Nobody
failure Talking now c = refused NotNow Nobody
failure Ended now c = refused NotNow Nobody
failure Cancelling now c = goes Pass Ended now c

-- to INVITE: number differs, 23; then by the status
unfoldable pub to_invite : Response → ℕ → Call → Outcome
to_invite r now c =
    cond (eqb r.number c.invite)
    (cond (ltb r.status 200) (progress c.state r.status now c)
    (cond (ltb r.status 300) (success c.state now c) (failure c.state now c)))
    (refused WrongNumber Nobody)

-- 3, 4, 5 pass; 6 too where six is true (a response to CANCEL); else 24
abbrev pub response_in : State → Bool → ℕ → Call → Outcome
response_in Calling six now c = refused NotNow Nobody
response_in Ringing six now c = refused NotNow Nobody
response_in Answered six now c = stays Pass now c
response_in Talking six now c = stays Pass now c
response_in Ended six now c = stays Pass now c
response_in Cancelling six now c = cond six (stays Pass now c) (refused NotNow Nobody)

-- to BYE, MESSAGE, NOTIFY, REFER: number above From's highest, 23 (a response keeps the request's From); 3, 4, 5 pass; else 24
unfoldable pub to_within : Response → ℕ → Call → Outcome
to_within r now c = cond (ltb (highest_of r.from c).number r.number) (refused WrongNumber Nobody) (response_in c.state false now c)

-- to CANCEL, ACK: number not the INVITE's, 23; 3, 4, 5 pass, CANCEL also 6; else 24
unfoldable pub to_inviting : Bool → Response → ℕ → Call → Outcome
to_inviting six r now c = cond (eqb r.number c.invite) (response_in c.state six now c) (refused WrongNumber Nobody)

-- to CALLBACK: 5 pass, else 24
abbrev pub to_callback : State → ℕ → Call → Outcome
to_callback Calling now c = refused NotNow Nobody
to_callback Ringing now c = refused NotNow Nobody
to_callback Answered now c = refused NotNow Nobody
to_callback Talking now c = refused NotNow Nobody
to_callback Ended now c = stays Pass now c
to_callback Cancelling now c = refused NotNow Nobody

unfoldable pub response : Method → Response → ℕ → Call → Outcome
response Invite r now c = to_invite r now c
response Bye r now c = to_within r now c
response Cancel r now c = to_inviting true r now c
response Ack r now c = to_inviting false r now c
response Message r now c = to_within r now c
response Callback r now c = to_callback c.state now c
response Refer r now c = to_within r now c
response Notify r now c = to_within r now c
