-- What is read of a message: the bounds of a method's code, the tag of a setting, and the message by its parts. Assumes nothing.
use Prim.Native.Nat.{ℕ, ◌+◌, ◌<◌}
use Rattle.rules.proofs.NameLaws.{place-below}
use Rattle.message.proofs.PartyLaws.{side-is, sorted_is}
use Rattle.message.specs.Message.{method_in, setting_of, caller_in, from_caller, word_at}
use Rattle.message.specs.Message.{secure_of, caller_place, callee_place, message_of, user_span, caller_span, callee_span}
use Rattle.fields.specs.Trail.{moved}
use Rattle.values.specs.Spans.{spelling_at, spelling_span, text_at}
use Rattle.values.specs.Value.{word_spelled}
use Rattle.message.specs.declared.facts.Facts.{Facts}
use Rattle.message.specs.declared.facts.Message.{Message}
use Rattle.message.specs.declared.facts.Parties.{Parties}
use Rattle.message.specs.inner.Facts.{FactsOf, PartiesOf}
use Rattle.fields.specs.declared.trails.Trail.{Trail}
use Rattle.values.specs.declared.spans.Span.{Span}
use Rattle.fields.specs.declared.judging.Setting.{Setting}
use Rattle.rules.specs.Address.{address_of}
use Rattle.rules.specs.Names.{methods}
use Rattle.rules.specs.Sequence.{sequence_rule, sequence_of, number_end, cseq_number, cseq_method}
use Rattle.std.specs.Prelude.{None, Option, Some}
use Rattle.rules.specs.declared.addresses.Address.{Address}
use borrow.Author.Tests.{ne_eqb}
use lib.Dec.{eqb}
use lib.ListN.{drop, get_or}
use mathlib.Core.Bool.{Bool, true, false, cond}
use mathlib.Core.List.{List}
use mathlib.Core.Path.{◌≡◌, ap, ◌∙◌}
use native.Mathlib.Decide.{ℕ_discrete}
use native.Mathlib.Omega.{arith}

method-small : (t : List ℕ) → cseq_method t < 9
unfolding cseq_method
method-small t = omega (arith, place-below methods (drop (number_end t + 1) t))

by-rule : (b : Bool) (t : List ℕ) → method_in (cond b (Some (record { number = cseq_number t; method = cseq_method t })) None) < 9
by-rule true t = method-small t
by-rule false t = omega arith

-- a method's code is at most 8
pub method-few : (t : List ℕ) → method_in (sequence_of t) < 9
unfolding sequence_of
method-few t = by-rule (sequence_rule t) t

-- a setting has the tag that it was made for
pub setting-tag : (s : List ℕ) (tag : ℕ) (t : List ℕ) {k : Setting} → k ≡ setting_of s tag t → k.tag ≡ tag
unfolding setting_of
setting-tag s tag t e = rw e

-- The message by its parts.
module _ (s : List ℕ) (k : Setting) (t : List ℕ) {x : Facts} (h : FactsOf s k.tag t x) where
  module _ {caller secure : Bool} {callid v w : Span} {p : Parties} {trail : Trail} where
    pub message-is : caller ≡ caller_in (Some x.from) → secure ≡ secure_of s k (get_or t 17 0) → callid ≡ spelling_span s (get_or t 5 0)
        → v ≡ spelling_span s (get_or t 3 0) → w ≡ spelling_span s (get_or t 2 0)
        → PartiesOf (cond (caller_in (Some x.from)) v w) (cond (caller_in (Some x.from)) x.from x.to)
        (cond (caller_in (Some x.from)) w v) (cond (caller_in (Some x.from)) x.to x.from) p
        → trail ≡ moved (get_or t 6 0) x.trail
        → ◌≡◌ {A = Message} (record {
          tag = k.tag;
          method = k.method;
          number = x.number;
          status = x.code;
          caller = caller;
          secure = secure;
          cseq = get_or t 1 0;
          to = get_or t 2 0;
          from = get_or t 3 0;
          call = get_or t 5 0;
          via = get_or t 6 0;
          callid = callid;
          calleraddress = p.calleraddress;
          calleeaddress = p.calleeaddress;
          user = p.user;
          callerfire = p.callerfire;
          calleefire = p.calleefire;
          trail = trail;
        }) (message_of s k t)
    unfolding message_of from_caller caller_place callee_place
    message-is a f c d e q m =
        let i = get_or t 3 0 in
        let j = get_or t 2 0 in
        let g : ℕ → Option Address = λ v. address_of (text_at s v) in
        let y = caller_in (g i) in
        let n : caller_in (Some x.from) ≡ y = ap caller_in h.sent in
        rw (
          m,
          h.trailed,
          a,
          f,
          c,
          q.caller,
          q.callee,
          q.users ∙ side-is user_span g i i j h.sent h.sent h.meant,
          q.callers ∙ side-is caller_span g i i j h.sent h.sent h.meant,
          q.callees ∙ side-is callee_span g i j i h.sent h.meant h.sent,
          d,
          e,
          h.numbered,
          h.coded,
          n,
          sorted_is (spelling_span s) y i j,
          sorted_is (spelling_span s) y j i,
        )

-- what is told of a value by its words, where there is one
pub word-told : (ws : List (List ℕ)) (s : List ℕ) (v : ℕ) {r : ℕ} → (v ≡ 0 → r ≡ 0) → ((v ≡ 0 → ⊥) → r ≡ word_spelled ws (spelling_at s v)) → r ≡ word_at ws s v
unfolding word_at
word-told ws s v {r} none told = by (ℕ_discrete v 0)
  where
    by : Dec (v ≡ 0) → r ≡ cond (eqb v 0) 0 (word_spelled ws (spelling_at s v))
    by (yes e) = none e ∙ rw e
    by (no ne) = told ne ∙ rw (ne_eqb v 0 ne)
