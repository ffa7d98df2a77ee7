-- What is known of a message that was read, over the definitions alone, for the layers above. The idea: whatever refuses is passed, so that the
-- fields of the tag kept their rules and the two sides differ. Assumes nothing.
use Prim.Native.Nat.{ℕ, ◌+◌, ◌≤◌, ◌<◌}
use Rattle.json_text.specs.Places.{bytes, part}
use Rattle.fields.proofs.FieldLaws.{address_broken, sequence-broken, status-broken}
use Rattle.values.proofs.SpellingLaws.{text-cut}
use Rattle.values.proofs.ValueLaws.{free-text, ruled-text}
use Rattle.message.proofs.PartyLaws.{address_short}
use Rattle.message.specs.Checks.{checked}
use Rattle.fields.specs.Field.{status_field, keeps}
use Rattle.message.specs.Message.{first_setting, number_in, method_in, caller_in, code_in, number_of, method_of, from_caller, to_caller, code_of, setting_of, same_side}
use Rattle.message.specs.Message.{sides_disagree, disagrees, user_span, caller_span, callee_span, caller_place, callee_place, message_of}
use Rattle.values.specs.Spans.{cut, text_at}
use Rattle.message.specs.Parties.{call_id_of, caller_address_of, callee_address_of, user_of, caller_fire_of, callee_fire_of}
use Rattle.message.specs.Reading.{reading}
use Rattle.message.proofs.AcceptedRows.{good-sound, is-there, is-kept, read-tag, read_taken}
use Rattle.message.specs.inner.Named.{Named}
use Rattle.std.specs.Prelude.{Ok, None, Option, Some}
use Rattle.message.specs.declared.facts.Message.{Message}
use Rattle.octets.proofs.TestLaws.{or-none}
use Rattle.rules.proofs.PartLaws.{caller_address_parts, callee_address_parts}
use Rattle.rules.proofs.SequenceLaws.{Ranges, sequence_ranges}
use Rattle.rules.proofs.StatusLaws.{status-range}
use Rattle.rules.specs.Address.{address_of, address_rule}
use Rattle.rules.specs.Asks.{tag_asks, is_in}
use Rattle.rules.specs.Sequence.{sequence_rule, sequence_of}
use Rattle.rules.specs.Status.{status_rule, status_of}
use Rattle.rules.specs.Texts.{fire_rule, user_rule, call_id_rule}
use Rattle.rules.specs.declared.addresses.Address.TheVariants as addresses
use Rattle.rules.specs.declared.addresses.Address.{Address}
use Rattle.rules.specs.declared.sequences.Sequence.{Sequence}
use lib.ListN.{get_or, length}
use mathlib.Core.Bool.{Bool, true, false}
use mathlib.Core.List.{List}
use mathlib.Core.Logic.{◌⊎◌, inl, inr}
use mathlib.Core.Path.{◌≡◌, refl, sym, ap, subst, ◌∙◌}
use native.Mathlib.Decide.{ℕ_discrete}
use native.Mathlib.Omega.{arith}

-- any message that was read: its tag, and what a request or a response has besides
pub record Facts (s : List ℕ) (m : Message) : Type 0 where
  pub tag-low : 1 ≤ m.tag
  pub tag-high : m.tag ≤ 4
  pub named : m.tag ≤ 2 → Named s m

never : {A : Type 0} → ◌≡◌ {A = Bool} true false → A
never e = absurd (let z : ◌≡◌ {A = ℕ} 0 1 = cc in omega arith)

sides : (from to : Bool) → same_side from to ≡ false → ((from ≡ true) × (to ≡ false)) ⊎ ((from ≡ false) × (to ≡ true))
unfolding same_side
sides true true e = never e
sides true false e = inl (refl, refl)
sides false true e = inr (refl, refl)
sides false false e = never e

-- what texts that keep their rules say

module _ (t : List ℕ) (rule : address_rule t ≡ true) where
  caller_side : (a : Option Address) → address_of t ≡ a → caller_in a ≡ true
      → (user_rule (cut t (user_span a)) ≡ true) × ((fire_rule (cut t (caller_span a)) ≡ true) × ((caller_span a).end + 7 ≡ length t))
  unfolding cut part
  caller_side (Some (addresses.Caller u f)) e h = let p = caller_address_parts t u f e in (p.user, (p.fire, p.ends))
  caller_side (Some (addresses.Callee f)) e h = never (sym h)
  caller_side None e h = never (sym h)

  callee_side : (a : Option Address) → address_of t ≡ a → caller_in a ≡ false → (fire_rule (cut t (callee_span a)) ≡ true) × ((callee_span a).end + 7 ≡ length t)
  unfolding cut part
  callee_side (Some (addresses.Caller u f)) e h = never h
  callee_side (Some (addresses.Callee f)) e h = let p = callee_address_parts t f e in (p.fire, p.ends)
  callee_side None e h = never (sym rule ∙ sym (address_broken t (sym e)))

numbered : (t : List ℕ) → sequence_rule t ≡ true → (q : Option Sequence) → sequence_of t ≡ q → Ranges (number_in q) (method_in q)
numbered t rule (Some q) e = sequence_ranges t q e
numbered t rule None e = never (sym rule ∙ sym (sequence-broken t (sym e)))

coded : (t : List ℕ) → status_rule t ≡ true → (q : Option ℕ) → status_of t ≡ q → (100 ≤ code_in q) × (code_in q ≤ 699)
coded t rule (Some n) e = status-range t n e
coded t rule None e = never (sym rule ∙ sym (status-broken t (sym e)))

-- where the addresses end, how long they are at most, and that what they name keeps its rule
abbrev Sides : List ℕ → Message → Type 0
Sides s m =
    ((m.callerfire.end + 7 ≡ length (caller_address_of s m)) × (m.calleefire.end + 7 ≡ length (callee_address_of s m)))
    × (((length (caller_address_of s m) ≤ 45) × (length (callee_address_of s m) ≤ 45))
    × ((user_rule (user_of s m) ≡ true) × ((fire_rule (caller_fire_of s m) ≡ true) × (fire_rule (callee_fire_of s m) ≡ true))))

-- A request or a response that passed the run of its tag, and whose sides differ.

module _ (s : List ℕ) (tag : ℕ) (t : List ℕ) (two : (tag ≡ 1) ⊎ (tag ≡ 2)) (good : checked s true (first_setting tag) t ≡ Ok tt) where
  -- a field that the tag requires is there and keeps its rule
  kept : (n : ℕ) → 1 ≤ n → n < 27 → tag_asks tag n ≡ 1 → keeps (first_setting tag) n (bytes s (get_or t n 0)) ≡ true
  kept n h g a =
      let sound = good-sound s true (first_setting tag) t good in
      is-kept sound n h g (omega (arith, a)) (is-there sound n h g a)

  asked : (n : ℕ) → tag_asks 1 n ≡ 1 → tag_asks 2 n ≡ 1 → (tag ≡ 1) ⊎ (tag ≡ 2) → tag_asks tag n ≡ 1
  asked n a b (inl e) = rw e a
  asked n a b (inr e) = rw e b

  sequence-kept : sequence_rule (text_at s (get_or t 1 0)) ≡ true
  unfolding text_at tag_asks is_in keeps
  sequence-kept = ruled-text sequence_rule (bytes s (get_or t 1 0)) (kept 1 (omega arith) (omega arith) (asked 1 refl refl two))

  to-kept : address_rule (text_at s (get_or t 2 0)) ≡ true
  unfolding text_at tag_asks is_in keeps
  to-kept = ruled-text address_rule (bytes s (get_or t 2 0)) (kept 2 (omega arith) (omega arith) (asked 2 refl refl two))

  from-kept : address_rule (text_at s (get_or t 3 0)) ≡ true
  unfolding text_at tag_asks is_in keeps
  from-kept = ruled-text address_rule (bytes s (get_or t 3 0)) (kept 3 (omega arith) (omega arith) (asked 3 refl refl two))

  call_kept : call_id_rule (text_at s (get_or t 5 0)) ≡ true
  unfolding text_at tag_asks is_in keeps
  call_kept = ruled-text call_id_rule (bytes s (get_or t 5 0)) (kept 5 (omega arith) (omega arith) (asked 5 refl refl two))

  status-kept : tag ≡ 2 → status_rule (text_at s (get_or t 7 0)) ≡ true
  unfolding text_at tag_asks is_in keeps status_field
  status-kept e = free-text status_rule (bytes s (get_or t 7 0)) (rw e at (kept 7 (omega arith) (omega arith) (rw e refl)))

  code_in_lem : tag ≡ 2 → (100 ≤ code_of s tag (get_or t 7 0)) × (code_of s tag (get_or t 7 0) ≤ 699)
  unfolding code_of
  code_in_lem e =
      let x = text_at s (get_or t 7 0) in
      let p = coded x (status-kept e) (status_of x) refl in
      rw e p

  code-high : (tag ≡ 1) ⊎ (tag ≡ 2) → code_of s tag (get_or t 7 0) < 1000
  unfolding code_of
  code-high (inl e) = rw e (omega arith)
  code-high (inr e) = let p = code_in_lem e in omega arith

  -- the message that is read of it
  abbrev it : Message
  it = message_of s (setting_of s tag t) t

  -- which of the two addresses is the caller's
  parties : ((from_caller s t ≡ true) × (to_caller s t ≡ false)) ⊎ ((from_caller s t ≡ false) × (to_caller s t ≡ true)) → Sides s it
  unfolding message_of caller_address_of callee_address_of user_of caller_fire_of callee_fire_of caller_place callee_place from_caller to_caller
  parties (inl e) =
      let v = get_or t 3 0 in
      let w = get_or t 2 0 in
      let p = caller_side (text_at s v) from-kept (address_of (text_at s v)) refl e.0 in
      let q = callee_side (text_at s w) to-kept (address_of (text_at s w)) refl e.1 in
      rw (e.0, text-cut s v, text-cut s w) ((p.1.1, q.1), ((address_short (text_at s v) from-kept, address_short (text_at s w) to-kept), (p.0, (p.1.0, q.0))))
  parties (inr e) =
      let v = get_or t 3 0 in
      let w = get_or t 2 0 in
      let p = caller_side (text_at s w) to-kept (address_of (text_at s w)) refl e.1 in
      let q = callee_side (text_at s v) from-kept (address_of (text_at s v)) refl e.0 in
      rw (e.0, text-cut s v, text-cut s w) ((p.1.1, q.1), ((address_short (text_at s w) to-kept, address_short (text_at s v) from-kept), (p.0, (p.1.0, q.0))))

  -- the Call-ID is its value's text
  call-named : call_id_rule (call_id_of s it) ≡ true
  unfolding message_of call_id_of
  call-named = ap call_id_rule (text-cut s (get_or t 5 0)) ∙ call_kept

  is-named : same_side (from_caller s t) (to_caller s t) ≡ false → Named s it
  unfolding message_of setting_of number_of method_of
  is-named apart =
      let p = parties (sides (from_caller s t) (to_caller s t) apart) in
      let x = text_at s (get_or t 1 0) in
      let r = numbered x sequence-kept (sequence_of x) refl in
      record {
        call_id = call-named;
        caller-ends = p.0.0;
        callee-ends = p.0.1;
        caller-short = p.1.0.0;
        callee-short = p.1.0.1;
        user = p.1.1.0;
        caller-fire = p.1.1.1.0;
        callee-fire = p.1.1.1.1;
        number-low = r.positive;
        number-high = omega (arith, r.small);
        method-low = r.coded;
        method-high = r.known;
        status-high = code-high two;
        status-range = code_in_lem;
      }

  -- row 10 tells the sides apart
  apart : disagrees s (setting_of s tag t) t ≡ false → same_side (from_caller s t) (to_caller s t) ≡ false
  unfolding disagrees sides_disagree
  apart e = (or-none _ _ (or-none _ _ e).0).0

one-or-two : (tag : ℕ) → 1 ≤ tag → tag ≤ 2 → (tag ≡ 1) ⊎ (tag ≡ 2)
one-or-two tag l h = by (ℕ_discrete tag 1)
  where
    by : Dec (tag ≡ 1) → (tag ≡ 1) ⊎ (tag ≡ 2)
    by (yes e) = inl e
    by (no e) = inr (omega arith)

-- a request or a response that is read
pub read_named : (c : ℕ) (s : List ℕ) (m : Message) → reading c s ≡ Ok m → m.tag ≤ 2 → Named s m
read_named c s m e h =
    let a = read_taken c s m e h in
    let two = one-or-two m.tag a.accepted.kind.0 h in
    subst (Named s) a.is (is-named s m.tag a.t two a.accepted.fits (apart s m.tag a.t two a.accepted.fits a.accepted.agrees))

-- THE LAW: what is known of every message that is read
pub facts : (c : ℕ) (s : List ℕ) (m : Message) → reading c s ≡ Ok m → Facts s m
facts c s m e = let k = read-tag c s m e in record { tag-low = k.0; tag-high = k.1; named = read_named c s m e }
