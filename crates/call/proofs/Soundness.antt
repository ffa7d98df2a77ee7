-- The rule keeps a record sound: whatever an event does to a sound record, what is set is sound, and so is what an INVITE opens.
-- By the rows of the rule, each of which sets one of few things. Assumes nothing.
use Rattle.std.specs.Prelude.{Option, Result, Some, None, Ok, Err}
use Rattle.octets.proofs.TestLaws.{clash}
use Prim.Native.Nat.{ℕ, ◌≤◌, ◌<◌}
use Rattle.answers.specs.Answer.{quiet_word, is_quiet}
use Rattle.call.specs.Rule.{waiting, request_unheld, first_checks, decided_held, decided_unheld, decided}
use Rattle.call.specs.Outcomes.{refused, unchanged, with_times, heard, chat_on_entering, entered, stays, goes, since}
use Rattle.call.specs.Requests.{method_code, new_call, invite, ack_in, ack, cancel_in, cancel, highest_of, numbered, chatted, in_talk, admitted, if_admitted, bye, message, notify}
use Rattle.call.specs.Requests.{refer, callback_in, request}
use Rattle.call.specs.Responses.{progress, success, failure, to_invite, response_in, to_within, to_inviting, to_callback, response}
use Rattle.call.specs.Ticks.{tick_in}
use Rattle.call.specs.inner.Sound.{Sound, SoundHeld, SoundAfter, Numbered}
use Rattle.answers.specs.declared.Reason.TheVariants.{NoCall, OtherParty, Earlier, WrongNumber, NotNow, NotSecure, TooLate}
use Rattle.answers.specs.declared.Reason.{Reason}
use Rattle.answers.specs.declared.State.TheVariants.{Calling, Ringing, Answered, Talking, Ended, Cancelling}
use Rattle.answers.specs.declared.State.{State}
use Rattle.answers.specs.declared.Waiting.TheVariants.{Nobody, Requester, CallbackRequester}
use Rattle.answers.specs.declared.Waiting.{Waiting}
use Rattle.answers.specs.declared.Word.TheVariants.{Pass, Repeat, Bye, Timeout, Idle, None as nothing}
use Rattle.answers.specs.declared.Word.{Word}
use Rattle.call.specs.declared.events.Event.TheVariants.{Asks, Replies, Tick}
use Rattle.call.specs.declared.events.Event.{Event}
use Rattle.call.specs.declared.events.Method.TheVariants.{Invite, Bye as bye-, Cancel, Ack, Message, Callback, Refer, Notify}
use Rattle.call.specs.declared.events.Method.{Method}
use Rattle.call.specs.declared.events.Request.{Request}
use Rattle.call.specs.declared.events.Response.{Response}
use Rattle.call.specs.declared.events.Side.TheVariants.{Caller, Callee}
use Rattle.call.specs.declared.events.Side.{Side}
use Rattle.call.specs.declared.records.After.TheVariants.{Same}
use Rattle.call.specs.declared.records.Call.{Call}
use Rattle.call.specs.declared.records.Outcome.{Outcome}
use borrow.Author.Tests.{ltb-false, leb-false}
use lib.Dec.{eqb, leb, ltb}
use mathlib.Core.Bool.{Bool, true, false, cond, ◌&&◌}
use mathlib.Core.Path.{◌≡◌, refl}
use native.Mathlib.Omega.{arith}

-- an outcome that sets nothing but a sound record, and nothing where its answer says so
pub record Fine (o : Outcome) : Type 0 where
  pub fine : SoundAfter o.after
  pub still : is_quiet o.answer ≡ true → o.after ≡ Same

either : (t : Bool) (a b : Outcome) → Fine a → Fine b → Fine (cond t a b)
either true a b p q = p
either false a b p q = q

-- where the first is not taken, that is known of the test
unless : (t : Bool) (a b : Outcome) → Fine a → (t ≡ false → Fine b) → Fine (cond t a b)
unless true a b p q = p
unless false a b p q = q refl

-- no earlier than the last time, and a time of 64 bits
pub record Timely (last now : ℕ) : Type 0 where
  pub after : last ≤ now
  pub clock : now < 18446744073709551616

-- what is set

-- another state and other times, of which now is the last
timed-sound : (c : Call) (x : State) (now entry chat : ℕ) → Sound c → now < 18446744073709551616 → entry ≤ now → chat ≤ now
    → Sound (with_times x now entry chat c)
timed-sound c x now entry chat s clock e h =
    record {
      invited = s.invited;
      not-below = s.not-below;
      caller-method = s.caller-method;
      caller-known = s.caller-known;
      callee_known = s.callee_known;
      callee-none = s.callee-none;
      callee-some = s.callee-some;
      entry_past = e;
      chat-past = h;
      caller-fits = s.caller-fits;
      callee-fits = s.callee-fits;
      last_fits = clock;
    }

module _ (c : Call) (now : ℕ) (s : Sound c) (later : Timely c.last now) where
  entry-before : c.entry ≤ now
  entry-before = omega (arith, s.entry_past, later.after)

  chat-before : c.chat ≤ now
  chat-before = omega (arith, s.chat-past, later.after)

  heard-sound : Sound (heard now c)
  heard-sound = timed-sound c c.state now c.entry c.chat s later.clock entry-before chat-before

  chatted-sound : Sound (heard now (chatted now c))
  chatted-sound = timed-sound c c.state now c.entry now s later.clock entry-before (omega arith)

  entered-chat : (x : State) → chat_on_entering x now c.chat ≤ now
  entered-chat Calling = chat-before
  entered-chat Ringing = chat-before
  entered-chat Answered = omega arith
  entered-chat Talking = chat-before
  entered-chat Ended = chat-before
  entered-chat Cancelling = chat-before

  pub entered-sound : (x : State) → Sound (entered x now c)
  entered-sound x = timed-sound c x now now (chat_on_entering x now c.chat) s later.clock (omega arith) (entered-chat x)

  stays-fine : (w : Word) → quiet_word w ≡ false → Fine (stays w now c)
  stays-fine w l = record { fine = heard-sound; still = λ e. clash e l }

  goes-fine : (w : Word) (x : State) → quiet_word w ≡ false → Fine (goes w x now c)
  goes-fine w x l = record { fine = entered-sound x; still = λ e. clash e l }

refused-fine : (r : Reason) (w : Waiting) → Fine (refused r w)
refused-fine r w = record { fine = tt; still = λ e. refl }

unchanged-fine : (w : Word) (c : Call) → Fine (unchanged w c)
unchanged-fine w c = record { fine = tt; still = λ e. refl }

-- what a request within a call goes on with

code-low : (m : Method) → 1 ≤ method_code m
code-low Invite = omega arith
code-low bye- = omega arith
code-low Cancel = omega arith
code-low Ack = omega arith
code-low Message = omega arith
code-low Callback = omega arith
code-low Refer = omega arith
code-low Notify = omega arith

code-high : (m : Method) → method_code m ≤ 8
code-high Invite = omega arith
code-high bye- = omega arith
code-high Cancel = omega arith
code-high Ack = omega arith
code-high Message = omega arith
code-high Callback = omega arith
code-high Refer = omega arith
code-high Notify = omega arith

numbered-sound : (side : Side) (n : ℕ) (m : Method) (c : Call) → Sound c → (highest_of side c).number < n → n < 4294967296 → Sound (numbered side n (method_code m) c)
numbered-sound Caller n m c s h fits =
    record {
      invited = s.invited;
      not-below = (let e = s.not-below in omega arith);
      caller-method = code-low m;
      caller-known = code-high m;
      callee_known = s.callee_known;
      callee-none = s.callee-none;
      callee-some = s.callee-some;
      entry_past = s.entry_past;
      chat-past = s.chat-past;
      caller-fits = fits;
      callee-fits = s.callee-fits;
      last_fits = s.last_fits;
    }
numbered-sound Callee n m c s h fits =
    record {
      invited = s.invited;
      not-below = s.not-below;
      caller-method = s.caller-method;
      caller-known = s.caller-known;
      callee_known = code-high m;
      callee-none = (λ e. absurd (omega arith));
      callee-some = (λ e. absurd (let l = code-low m in omega arith));
      entry_past = s.entry_past;
      chat-past = s.chat-past;
      caller-fits = s.caller-fits;
      callee-fits = fits;
      last_fits = s.last_fits;
    }

numbered-last : (side : Side) (n m : ℕ) (c : Call) → (numbered side n m c).last ≡ c.last
numbered-last Caller n m c = refl
numbered-last Callee n m c = refl

-- a sound record that was last heard no later, or an outcome that is fine
abbrev Onward : ℕ → Result Call Outcome → Type 0
Onward now (Err o) = Fine o
Onward now (Ok d) = Sound d × (Timely d.last now)

pick_onward : (now : ℕ) (t : Bool) (a b : Result Call Outcome) → (t ≡ true → Onward now a) → (t ≡ false → Onward now b) → Onward now (cond t a b)
pick_onward now true a b p q = p refl
pick_onward now false a b p q = q refl

module _ (c : Call) (now : ℕ) (s : Sound c) (later : Timely c.last now) where
  admitted-onward : (r : Request) → r.number < 4294967296 → Onward now (admitted r c)
  unfolding admitted
  admitted-onward r fits =
      pick_onward now (eqb r.number (highest_of r.from c).number && eqb (method_code r.method) (highest_of r.from c).method) _ _
      (λ e. unchanged-fine Repeat c)
      (λ e. pick_onward now (leb r.number (highest_of r.from c).number) _ _ (λ f. refused-fine WrongNumber Requester)
      (λ f. pick_onward now (in_talk c.state) _ _
      (λ g. (
        numbered-sound r.from r.number r.method c s (leb-false _ _ f) fits,
        rw (numbered-last r.from r.number (method_code r.method) c) later,
      ))
      (λ g. refused-fine NotNow Requester)))

onward-fine : (now : ℕ) (a : Result Call Outcome) (f : Call → Outcome) → Onward now a → ((d : Call) → Sound d → Timely d.last now → Fine (f d)) → Fine (if_admitted a f)
onward-fine now (Err o) f p g = p
onward-fine now (Ok d) f p g = g d p.0 p.1

-- the rows of the rule, on a sound record that was last heard no later

module _ (c : Call) (now : ℕ) (s : Sound c) (later : Timely c.last now) where
  rejected : (w : Waiting) → Fine (refused NotNow w)
  rejected w = refused-fine NotNow w

  stay : (w : Word) → quiet_word w ≡ false → Fine (stays w now c)
  stay w l = stays-fine c now s later w l

  go : (w : Word) (x : State) → quiet_word w ≡ false → Fine (goes w x now c)
  go w x l = goes-fine c now s later w x l

  ack-fine : (x : State) → Fine (ack_in x now c)
  ack-fine Calling = rejected Nobody
  ack-fine Ringing = rejected Nobody
  ack-fine Answered = go Pass Talking refl
  ack-fine Talking = unchanged-fine Repeat c
  ack-fine Ended = rejected Nobody
  ack-fine Cancelling = rejected Nobody

  cancel-fine : (x : State) → Fine (cancel_in x now c)
  cancel-fine Calling = go Pass Cancelling refl
  cancel-fine Ringing = go Pass Cancelling refl
  cancel-fine Answered = unchanged-fine Repeat c
  cancel-fine Talking = unchanged-fine Repeat c
  cancel-fine Ended = unchanged-fine Repeat c
  cancel-fine Cancelling = unchanged-fine Repeat c

  callback-fine : (x : State) → Fine (callback_in x now c)
  callback-fine Calling = rejected CallbackRequester
  callback-fine Ringing = rejected CallbackRequester
  callback-fine Answered = rejected CallbackRequester
  callback-fine Talking = rejected CallbackRequester
  callback-fine Ended = either (leb (since now c.entry) 3600000) _ _ (stay Pass refl) (refused-fine TooLate CallbackRequester)
  callback-fine Cancelling = rejected CallbackRequester

  within-fine : (r : Request) (f : Call → Outcome) → r.number < 4294967296 → ((d : Call) → Sound d → Timely d.last now → Fine (f d)) → Fine (if_admitted (admitted r c) f)
  within-fine r f fits g = onward-fine now (admitted r c) f (admitted-onward c now s later r fits) g

  request-fine : (m : Method) (r : Request) → r.number < 4294967296 → Fine (request m r now c)
  unfolding request invite ack cancel bye message notify refer
  request-fine Invite r fits = either (eqb r.number c.invite) _ _ (unchanged-fine Repeat c) (rejected Requester)
  request-fine bye- r fits = within-fine r _ fits (λ d t l. goes-fine d now t l Pass Ended refl)
  request-fine Cancel r fits = either (eqb r.number c.invite) _ _ (cancel-fine c.state) (refused-fine WrongNumber Requester)
  request-fine Ack r fits = either (eqb r.number c.invite) _ _ (ack-fine c.state) (refused-fine WrongNumber Nobody)
  request-fine Message r fits = within-fine r _ fits (λ d t l. record { fine = chatted-sound d now t l; still = λ e. clash e refl })
  request-fine Callback r fits = callback-fine c.state
  request-fine Refer r fits = within-fine r _ fits (λ d t l. either d.secure _ _ (stays-fine d now t l Pass refl) (refused-fine NotSecure Requester))
  request-fine Notify r fits = within-fine r _ fits (λ d t l. stays-fine d now t l Pass refl)

  progress-fine : (x : State) (status : ℕ) → Fine (progress x status now c)
  progress-fine Calling status = either (eqb status 180) _ _ (go Pass Ringing refl) (stay Pass refl)
  progress-fine Ringing status = stay Pass refl
  progress-fine Answered status = rejected Nobody
  progress-fine Talking status = rejected Nobody
  progress-fine Ended status = rejected Nobody
  progress-fine Cancelling status = stay Pass refl

  success-fine : (x : State) → Fine (success x now c)
  success-fine Calling = go Pass Answered refl
  success-fine Ringing = go Pass Answered refl
  success-fine Answered = stay Pass refl
  success-fine Talking = stay Pass refl
  success-fine Ended = stay Bye refl
  success-fine Cancelling = go Bye Ended refl

  failure-fine : (x : State) → Fine (failure x now c)
  failure-fine Calling = go Pass Ended refl
  failure-fine Ringing = go Pass Ended refl
  failure-fine Answered = rejected Nobody
  failure-fine Talking = rejected Nobody
  failure-fine Ended = rejected Nobody
  failure-fine Cancelling = go Pass Ended refl

  response_in_fine : (x : State) (six : Bool) → Fine (response_in x six now c)
  response_in_fine Calling six = rejected Nobody
  response_in_fine Ringing six = rejected Nobody
  response_in_fine Answered six = stay Pass refl
  response_in_fine Talking six = stay Pass refl
  response_in_fine Ended six = stay Pass refl
  response_in_fine Cancelling six = either six _ _ (stay Pass refl) (rejected Nobody)

  to-callback-fine : (x : State) → Fine (to_callback x now c)
  to-callback-fine Calling = rejected Nobody
  to-callback-fine Ringing = rejected Nobody
  to-callback-fine Answered = rejected Nobody
  to-callback-fine Talking = rejected Nobody
  to-callback-fine Ended = stay Pass refl
  to-callback-fine Cancelling = rejected Nobody

  wrong : Fine (refused WrongNumber Nobody)
  wrong = refused-fine WrongNumber Nobody

  to-invite-fine : (r : Response) → Fine (to_invite r now c)
  unfolding to_invite
  to-invite-fine r =
      either (eqb r.number c.invite) _ _
      (either (ltb r.status 200) _ _ (progress-fine c.state r.status)
      (either (ltb r.status 300) _ _ (success-fine c.state) (failure-fine c.state))) wrong

  to-within-fine : (r : Response) → Fine (to_within r now c)
  unfolding to_within
  to-within-fine r = either (ltb (highest_of r.from c).number r.number) _ _ wrong (response_in_fine c.state false)

  to_inviting_fine : (six : Bool) (r : Response) → Fine (to_inviting six r now c)
  unfolding to_inviting
  to_inviting_fine six r = either (eqb r.number c.invite) _ _ (response_in_fine c.state six) wrong

  response-fine : (m : Method) (r : Response) → Fine (response m r now c)
  unfolding response
  response-fine Invite r = to-invite-fine r
  response-fine bye- r = to-within-fine r
  response-fine Cancel r = to_inviting_fine true r
  response-fine Ack r = to_inviting_fine false r
  response-fine Message r = to-within-fine r
  response-fine Callback r = to-callback-fine c.state
  response-fine Refer r = to-within-fine r
  response-fine Notify r = to-within-fine r

  tick-fine : (x : State) → Fine (tick_in x now c)
  tick-fine Calling = either (leb 15000 (since now c.entry)) _ _ (go Timeout Ended refl) (unchanged-fine nothing c)
  tick-fine Ringing = either (leb 150000 (since now c.entry)) _ _ (go Timeout Ended refl) (unchanged-fine nothing c)
  tick-fine Answered = either (leb 1800000 (since now c.chat)) _ _ (go Idle Ended refl) (unchanged-fine nothing c)
  tick-fine Talking = either (leb 1800000 (since now c.chat)) _ _ (go Idle Ended refl) (unchanged-fine nothing c)
  tick-fine Ended = either (ltb 3600000 (since now c.entry)) _ _ (record { fine = tt; still = λ e. clash e refl }) (unchanged-fine nothing c)
  tick-fine Cancelling = either (leb 15000 (since now c.entry)) _ _ (go Timeout Ended refl) (unchanged-fine nothing c)

-- the checks 21 and 22 before them

first_checks_fine : (agrees : Bool) (w : Waiting) (now : ℕ) (c : Call) (o : Outcome) → now < 18446744073709551616 → (Timely c.last now → Fine o)
    → Fine (first_checks agrees w now c o)
first_checks_fine agrees w now c o t f =
    either agrees _ _ (unless (ltb now c.last) _ _ (refused-fine Earlier w) (λ e. f (record { after = ltb-false _ _ e; clock = t }))) (refused-fine OtherParty w)

decided-held-fine : (e : Event) (now : ℕ) (c : Call) → Sound c → Numbered e → now < 18446744073709551616 → Fine (decided_held e now c)
unfolding decided_held
decided-held-fine (Asks r agrees) now c s n t = first_checks_fine agrees (waiting r.method) now c _ t (λ l. request-fine c now s l r.method r n.1)
decided-held-fine (Replies r agrees) now c s n t = first_checks_fine agrees Nobody now c _ t (λ l. response-fine c now s l r.method r)
decided-held-fine Tick now c s n t = first_checks_fine true Nobody now c _ t (λ l. tick-fine c now s l c.state)

pub new-call-sound : (number : ℕ) (secure : Bool) (now : ℕ) → 1 ≤ number → number < 4294967296 → now < 18446744073709551616 → Sound (new_call number secure now)
new-call-sound number secure now h fits t =
    record {
      invited = h;
      not-below = omega arith;
      caller-method = omega arith;
      caller-known = omega arith;
      callee_known = omega arith;
      callee-none = (λ e. refl);
      callee-some = (λ e. refl);
      entry_past = omega arith;
      chat-past = omega arith;
      caller-fits = fits;
      callee-fits = omega arith;
      last_fits = t;
    }

request-unheld-fine : (m : Method) (r : Request) (now : ℕ) → 1 ≤ r.number → r.number < 4294967296 → now < 18446744073709551616 → Fine (request_unheld m r now)
request-unheld-fine Invite r now h fits t = record { fine = new-call-sound r.number r.secure now h fits t; still = λ e. clash e refl }
request-unheld-fine bye- r now h fits t = refused-fine NoCall Requester
request-unheld-fine Cancel r now h fits t = refused-fine NoCall Requester
request-unheld-fine Ack r now h fits t = refused-fine NoCall Nobody
request-unheld-fine Message r now h fits t = refused-fine NoCall Requester
request-unheld-fine Callback r now h fits t = refused-fine NoCall CallbackRequester
request-unheld-fine Refer r now h fits t = refused-fine NoCall Requester
request-unheld-fine Notify r now h fits t = refused-fine NoCall Requester

decided-unheld-fine : (e : Event) (now : ℕ) → Numbered e → now < 18446744073709551616 → Fine (decided_unheld e now)
unfolding decided_unheld
decided-unheld-fine (Asks r agrees) now h t = request-unheld-fine r.method r now h.0 h.1 t
decided-unheld-fine (Replies r agrees) now h t = refused-fine NoCall Nobody
decided-unheld-fine Tick now h t = refused-fine NoCall Nobody

-- THE THEOREM: on a sound record, or on none, an event that carries a number of CSeq and a time of 64 bits sets nothing but a sound record
pub decided-sound : (h : Option Call) (e : Event) (now : ℕ) → SoundHeld h → Numbered e → now < 18446744073709551616 → SoundAfter (decided h e now).after
decided-sound None e now s n t = (decided-unheld-fine e now n t).fine
decided-sound (Some c) e now s n t = (decided-held-fine e now c s n t).fine

-- and where its answer says that nothing changes, it leaves the record
pub decided-still : (h : Option Call) (e : Event) (now : ℕ) → SoundHeld h → Numbered e → now < 18446744073709551616 → is_quiet (decided h e now).answer ≡ true
    → (decided h e now).after ≡ Same
decided-still None e now s n t = (decided-unheld-fine e now n t).still
decided-still (Some c) e now s n t = (decided-held-fine e now c s n t).still
