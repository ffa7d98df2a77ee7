-- The numbers of a sound record are a sound call, and back. Assumes nothing.
use Prim.Native.Nat.{ℕ, ◌≤◌, ◌<◌}
use Rattle.answers.specs.Answer.{state_number}
use Rattle.call.specs.inner.Sound.{Sound, Numbered}
use Rattle.answers.specs.declared.State.TheVariants.{Calling, Ringing, Answered, Talking, Ended, Cancelling}
use Rattle.answers.specs.declared.State.{State}
use Rattle.call.specs.declared.events.Event.{Event}
use Rattle.call.specs.declared.records.Call.{Call}
use Rattle.keeper.specs.Facts.{call_of, fields_from, event_of}
use Rattle.keeper.specs.inner.Known.{Fitting}
use Rattle.message.specs.declared.facts.Message.{Message}
use Rattle.octets.proofs.ClassLaws.{among_in, in_among}
use Rattle.octets.proofs.TestLaws.{and_parts, and_both}
use Rattle.octets.specs.Class.{among}
use Rattle.table.proofs.FieldLaws.{Fits}
use Rattle.table.specs.WellFormed.{callee_sound, fields_sound}
use Rattle.table.specs.declared.numbers.Fields.{Fields}
use borrow.Author.Tests.{eqb-true, eqb-false, leb-true, le-leb, eq-eqb, ne_eqb}
use lib.Dec.{eqb, leb}
use mathlib.Core.Bool.{Bool, true, false, not, ◌&&◌, ◌||◌, cond}
use mathlib.Core.Path.{◌≡◌, refl}
use native.Mathlib.Decide.{ℕ_discrete}
use native.Mathlib.Omega.{arith}

-- what the callee's highest number and its method are to each other
record Callee (callee method : ℕ) : Type 0 where
  known : method ≤ 8
  none-none : callee ≡ 0 → method ≡ 0
  some-some : method ≡ 0 → callee ≡ 0

callee-parts : (callee method : ℕ) → callee_sound callee method ≡ true → Callee callee method
unfolding callee_sound
callee-parts callee method e = go (eqb callee 0) refl
  where
    go : (b : Bool) → eqb callee 0 ≡ b → Callee callee method
    go true z =
        let m : method ≡ 0 = eqb-true method 0 (both (eqb method 0) (rw z at e)) in
        record { known = omega arith; none-none = λ w. m; some-some = λ w. eqb-true callee 0 z }
      where
        both : (b : Bool) → ((true && b) || (not true && among 1 8 method)) ≡ true → b ≡ true
        both true q = refl
        both false q = q
    go false z =
        let r = among_in 1 8 method (rw z at e) in
        let n = eqb-false callee 0 z in
        record { known = r.1; none-none = λ w. absurd (n w); some-some = λ w. absurd (let l = r.0 in omega arith) }

parts-callee : (callee method : ℕ) → method ≤ 8 → (callee ≡ 0 → method ≡ 0) → (method ≡ 0 → callee ≡ 0) → callee_sound callee method ≡ true
unfolding callee_sound
parts-callee callee method h n s = go (ℕ_discrete callee 0)
  where
    go : Dec (callee ≡ 0) → ((eqb callee 0 && eqb method 0) || (not (eqb callee 0) && among 1 8 method)) ≡ true
    go (yes e) = rw (eq-eqb _ _ e, eq-eqb _ _ (n e))
    go (no d) = rw (ne_eqb _ _ d, in_among 1 8 method (low (ℕ_discrete method 0)) h)
      where
        low : Dec (method ≡ 0) → 1 ≤ method
        low (yes z) = absurd (d (s z))
        low (no z) = omega arith

-- the parts of a sound record's numbers
record Parts (f : Fields) : Type 0 where
  state-low : 1 ≤ f.state
  state-high : f.state ≤ 6
  invited : 1 ≤ f.invite
  not-below : f.invite ≤ f.caller
  caller-low : 1 ≤ f.callermethod
  caller-high : f.callermethod ≤ 8
  callee : Callee f.callee f.calleemethod
  secure : f.secure ≤ 1
  entry : f.entry ≤ f.last
  chat : f.chat ≤ f.last

parts : (f : Fields) → fields_sound f ≡ true → Parts f
unfolding fields_sound
parts f e =
    let a = and_parts _ _ e in
    let b = and_parts _ _ a.1 in
    let d = and_parts _ _ b.1 in
    let g = and_parts _ _ d.1 in
    let h = and_parts _ _ g.1 in
    let i = and_parts _ _ h.1 in
    let j = and_parts _ _ i.1 in
    let s = among_in 1 6 f.state a.0 in
    let m = among_in 1 8 f.callermethod g.0 in
    record {
      state-low = s.0;
      state-high = s.1;
      invited = leb-true _ _ b.0;
      not-below = leb-true _ _ d.0;
      caller-low = m.0;
      caller-high = m.1;
      callee = callee-parts _ _ h.0;
      secure = leb-true _ _ i.0;
      entry = leb-true _ _ j.0;
      chat = leb-true _ _ j.1;
    }

-- a sound record's numbers, which fit their bytes, are a sound call
pub sound-call : (f : Fields) → fields_sound f ≡ true → Fitting f → Sound (call_of f)
unfolding call_of
sound-call f e fit =
    let p = parts f e in
    record {
      invited = p.invited;
      not-below = p.not-below;
      caller-method = p.caller-low;
      caller-known = p.caller-high;
      callee_known = p.callee.known;
      callee-none = p.callee.none-none;
      callee-some = p.callee.some-some;
      entry_past = p.entry;
      chat-past = p.chat;
      caller-fits = fit.caller;
      callee-fits = fit.callee;
      last_fits = fit.last;
    }

state-among : (s : State) → among 1 6 (state_number s) ≡ true
unfolding among
state-among Calling = refl
state-among Ringing = refl
state-among Answered = refl
state-among Talking = refl
state-among Ended = refl
state-among Cancelling = refl

bit-one : (b : Bool) → leb (cond b 1 0) 1 ≡ true
bit-one true = refl
bit-one false = refl

module _ (c : Call) (s : Sound c) where
  -- a sound call's numbers are a sound record's, and fit their bytes
  pub sound-fields : fields_sound (fields_from c) ≡ true
  unfolding fields_sound fields_from
  sound-fields =
      and_both (state-among c.state)
      (and_both (le-leb _ _ s.invited)
      (and_both (le-leb _ _ s.not-below)
      (and_both (in_among 1 8 c.caller.method s.caller-method s.caller-known)
      (and_both (parts-callee c.callee.number c.callee.method s.callee_known s.callee-none s.callee-some)
      (and_both (bit-one c.secure)
      (and_both (le-leb _ _ s.entry_past) (le-leb _ _ s.chat-past)))))))

  pub fit-fields : Fits (fields_from c)
  unfolding fields_from
  fit-fields =
      let a = s.not-below in
      let b = s.caller-fits in
      let d = s.entry_past in
      let e = s.chat-past in
      let g = s.last_fits in
      record { invite = omega arith; caller = b; callee = s.callee-fits; last = g; entry = omega arith; chat = omega arith }

numbered-by : (b : Bool) (x y : Event) → Numbered x → Numbered y → Numbered (cond b x y)
numbered-by true x y p q = p
numbered-by false x y p q = q

-- the event of a message that names a call carries its number
pub numbered : (m : Message) (agrees : Bool) → 1 ≤ m.number → m.number < 4294967296 → Numbered (event_of m agrees)
unfolding event_of
numbered m agrees l h = numbered-by (eqb m.tag 1) _ _ (l, h) (l, h)
