-- Keepers that the contract of `tick` shuts out (01 What contracts say): one that refuses everything, one that always answers pass, one that
-- never alters the table, and one that acts on the first event and only answers later. Shown on a table of one call. Assumes nothing.
use Rattle.answers.specs.Answer.{Answer, accepted}
use Rattle.std.specs.Prelude.{Some, None}
use Prim.Native.Nat.{ℕ, ◌≤◌, ◌<◌}
use Rattle.call.proofs.Soundness.{entered-sound, new-call-sound}
use Rattle.call.specs.Rule.{decided, decided_held}
use Rattle.call.specs.Outcomes.{entered as enters}
use Rattle.call.specs.inner.Sound.{Sound}
use Rattle.answers.specs.declared.State.TheVariants.{Calling, Ended}
use Rattle.answers.specs.declared.Word.TheVariants.{Timeout, Freed}
use Rattle.call.specs.declared.events.Event.TheVariants.{Tick}
use Rattle.call.specs.declared.records.Call.{Call}
use Rattle.exchange.proofs.WrongKeepers.{Handed, Keeper, Meets, is_refused, is_pass, RefusesAll, PassesAll, AltersNone, each-byte}
use Rattle.exchange.specs.Marks.{call_in}
use Rattle.exchange.specs.Paper.{paper_of}
use Rattle.keeper.proofs.FactLaws.{sound-fields, fit-fields}
use Rattle.keeper.specs.Facts.{state_of, call_of, fields_from}
use Rattle.keeper.specs.Keeping.{Step, call_at, step_of, on_tick}
use Rattle.octets.specs.Ascii.{ascii}
use Rattle.octets.specs.Class.{among, is_alnum, is_digit, is_letter, is_lower, is_upper, all}
use Rattle.octets.specs.Number.{bytes_of}
use Rattle.octets.specs.Splice.{splice}
use Rattle.octets.specs.Text.{same}
use Rattle.octets.proofs.TestLaws.{clash}
use Rattle.rules.proofs.PartLaws.{call_id_length, user-length, fire-length}
use Rattle.rules.specs.Classes.{holds}
use Rattle.rules.specs.Pieces.{piece_end, has_piece, reads, run_length, within}
use Rattle.rules.specs.Texts.{call_id_rule, user_rule, fire_rule}
use Rattle.table.proofs.ImageLaws.{with_same, size_with}
use Rattle.table.proofs.KeepLaws.{Ruled, blank-sound, open_keeps, store_keeps, call_id_kept, call_id_new, fields-new, fields-stored, new-sound, stored-sound, used-not-free}
use Rattle.table.proofs.LookupLaws.{named-own, place_kept, place-new, not_found}
use Rattle.table.proofs.RecordLaws.{length-new_record, length-with_fields}
use Rattle.table.specs.Blank.{blank_of}
use Rattle.table.specs.Image.{record_count, header_of, record_at, record_size, with_record, free_record}
use Rattle.table.specs.Record.{counts_of, record_fields, is_named, new_record, record_of, slot_of, times_of, with_fields}
use Rattle.table.specs.Search.{lowest_found, place_named}
use Rattle.table.specs.WellFormed.{used_sound, well_formed}
use Rattle.table.specs.declared.numbers.Fields.{Fields}
use lib.ListN.{length, length-replicate}
use mathlib.Core.Bool.{true, false}
use mathlib.Core.List.{List}
use mathlib.Core.Path.{◌≡◌, refl, sym, ap, ◌∙◌}
use native.Mathlib.Omega.{arith}

-- The table: one record, a call that entered Calling at 1000.

abbrev i : List ℕ
i = ascii "A1.nx"

abbrev u : List ℕ
u = ascii "u1"

abbrev a : List ℕ
a = ascii "nishi"

abbrev b : List ℕ
b = ascii "kita"

ruled : Ruled i u a b
unfolding call_id_rule user_rule fire_rule reads has_piece piece_end within run_length holds among is_alnum is_digit is_letter is_lower is_upper
ruled = record { call_id = refl; user = refl; caller-fire = refl; callee-fire = refl }

abbrev pub calling : Call
calling = call_in Calling 1000

abbrev ended : Call
ended = enters Ended 16000 calling

pub calling-sound : Sound calling
calling-sound = new-call-sound 1 false 1000 (omega arith) (omega arith) (omega arith)

ended-sound : Sound ended
ended-sound = entered-sound calling 16000 calling-sound (record { after = omega arith; clock = omega arith }) Ended

abbrev f0 : Fields
f0 = fields_from calling

abbrev f1 : Fields
f1 = fields_from ended

abbrev r0 : List ℕ
r0 = new_record i u a b f0

abbrev r1 : List ℕ
r1 = with_fields r0 f1

abbrev t0 : List ℕ
t0 = with_record (blank_of 1) 0 r0

abbrev t1 : List ℕ
t1 = with_record t0 0 r1

l1 : length i ≤ 64
l1 = (call_id_length i ruled.call_id).1

l2 : length u ≤ 15
l2 = (user-length u ruled.user).1

l3 : length a ≤ 15
l3 = (fire-length a ruled.caller-fire).1

l4 : length b ≤ 15
l4 = (fire-length b ruled.callee-fire).1

long0 : length r0 ≡ record_size
long0 = length-new_record i u a b f0 l1 l2 l3 l4

long1 : length r1 ≡ record_size
long1 = length-with_fields r0 f1 long0

one : record_count (blank_of 1) ≡ 1
unfolding blank_of header_of bytes_of
one = refl

nobody : place_named i (blank_of 1) ≡ None
unfolding place_named lowest_found is_named blank_of header_of bytes_of
nobody = refl

-- the call stands at record 0 of a well-formed table
record Stands (t r : List ℕ) (c : Call) : Type 0 where
  well : well_formed t ≡ true
  inside : 0 < record_count t
  place : place_named i t ≡ Some 0
  record_is : record_at t 0 ≡ r
  fields : record_fields r ≡ fields_from c

used0 : used_sound r0 ≡ true
used0 = new-sound i u a b f0 ruled (sound-fields calling calling-sound) (fit-fields calling calling-sound)

named0 : is_named i r0 ≡ true
named0 = named-own i r0 (used-not-free r0 used0) (call_id_new i u a b f0 l1 l2 l3 l4)

below : 0 < record_count (blank_of 1)
below = rw one (omega arith)

stands0 : Stands t0 r0 calling
stands0 =
    record {
      well =
          open_keeps (blank_of 1) 0 (blank-sound 1 (omega arith) (omega arith)) below i u a b f0 ruled (sound-fields calling calling-sound)
          (fit-fields calling calling-sound) (not_found i (blank_of 1) nobody);
      inside = rw (size_with (blank_of 1) 0 below r0 long0) below;
      place = place-new (blank_of 1) 0 below r0 long0 i nobody named0;
      record_is = with_same (blank_of 1) 0 below r0 long0;
      fields = fields-new i u a b f0 l1 l2 l3 l4 (fit-fields calling calling-sound);
    }

used1 : used_sound r1 ≡ true
used1 = stored-sound r0 f1 long0 used0 (sound-fields ended ended-sound) (fit-fields ended ended-sound)

named1 : is_named i r1 ≡ true
named1 = named-own i r1 (used-not-free r1 used1) (call_id_kept r0 f1 long0 ∙ call_id_new i u a b f0 l1 l2 l3 l4)

stands1 : Stands t1 r1 ended
stands1 =
    let h = stands0.inside in
    let e = stands0.record_is in
    let k : well_formed (with_record t0 0 (with_fields (record_at t0 0) f1)) ≡ true =
    store_keeps t0 0 stands0.well h f1 (rw e (used-not-free r0 used0)) (sound-fields ended ended-sound) (fit-fields ended ended-sound) in
    record {
      well = rw e at k;
      inside = rw (size_with t0 0 h r1 long1) h;
      place = place_kept t0 0 h r1 long1 i (named1 ∙ sym (ap (is_named i) e ∙ named0)) ∙ stands0.place;
      record_is = with_same t0 0 h r1 long1;
      fields = fields-stored r0 f1 long0 (fit-fields ended ended-sound);
    }

-- a tick there
ticked : (t r : List ℕ) (c : Call) (now : ℕ) → Stands t r c → call_of (fields_from c) ≡ c → on_tick t now i ≡ step_of t 0 (decided (Some c) Tick now)
unfolding on_tick
ticked t r c now s back =
    let e : call_at t 0 ≡ c = ap (λ (x : List ℕ). call_of (record_fields x)) s.record_is ∙ ap call_of s.fields ∙ back in
    rw (s.well, ruled.call_id, s.place, e)

times_out : on_tick t0 16000 i ≡ record { answer = accepted Timeout (Some Ended); table = with_record t0 0 (with_fields (record_at t0 0) f1) }
unfolding decided_held call_of fields_from state_of
times_out = ticked t0 r0 calling 16000 stands0 refl

frees : on_tick t1 3616001 i ≡ record { answer = accepted Freed None; table = with_record t1 0 free_record }
unfolding decided_held call_of fields_from state_of
frees = ticked t1 r1 ended 3616001 stands1 refl

-- the table after the first tick is another, and after the second another again
abbrev state : List ℕ → ℕ
state t = (record_fields (record_at t 0)).state

state0 : state t0 ≡ 1
unfolding fields_from record_fields
state0 = ap (λ (x : List ℕ). (record_fields x).state) stands0.record_is ∙ ap (λ (x : Fields). x.state) stands0.fields

state1 : state t1 ≡ 5
unfolding fields_from record_fields
state1 = ap (λ (x : List ℕ). (record_fields x).state) stands1.record_is ∙ ap (λ (x : Fields). x.state) stands1.fields

state2 : state (with_record t1 0 free_record) ≡ 0
unfolding record_fields
state2 = ap (λ (x : List ℕ). (record_fields x).state) (with_same t1 0 stands1.inside free_record (length-replicate {A = ℕ} record_size 0))

first-table : (on_tick t0 16000 i).table ≡ t1
first-table = ap (λ (s : Step). s.table) times_out ∙ ap (λ (x : List ℕ). with_record t0 0 (with_fields x f1)) stands0.record_is

-- What is handed over there is bytes.

handed : Handed t0 16000 i × Handed t1 3616001 i
unfolding all splice blank_of header_of bytes_of new_record record_of fields_from slot_of counts_of times_of
handed = (
  record { table = each-byte t0 refl; clock = omega arith; text = each-byte i refl },
  record { table = each-byte t1 refl; clock = omega arith; text = each-byte i refl },
)

module _ (f : Keeper) (meets : Meets on_tick f) where
  answers : (f t0 16000 i).answer ≡ accepted Timeout (Some Ended)
  answers = (meets t0 16000 i handed.0).0 ∙ ap (λ (s : Step). s.answer) times_out

  leaves : (f t0 16000 i).table ≡ t1
  leaves = (meets t0 16000 i handed.0).1 ∙ first-table

  pub refuses-not-all : RefusesAll f → ⊥
  refuses-not-all h = clash (h t0 16000 i handed.0) (ap (λ (a : Answer). is_refused (paper_of a)) answers)

  pub passes-not-all : PassesAll f → ⊥
  unfolding same
  passes-not-all h = clash (h t0 16000 i handed.0) (ap (λ (a : Answer). is_pass (paper_of a)) answers)

  pub alters_some : AltersNone f → ⊥
  alters_some h = let e : ◌≡◌ {A = ℕ} 5 1 = sym state1 ∙ ap state (sym leaves ∙ h t0 16000 i handed.0) ∙ state0 in omega arith

  -- it acts on later ticks for the same Call-ID too
  pub acts_later : ((t : List ℕ) (now : ℕ) (id : List ℕ) → Handed t now id → (later : ℕ) → Handed (f t now id).table later id
      → (f (f t now id).table later id).table ≡ (f t now id).table) → ⊥
  acts_later h =
      let q : (f t1 3616001 i).table ≡ t1 = rw leaves at (h t0 16000 i handed.0 3616001 (rw leaves handed.1)) in
      let r : (f t1 3616001 i).table ≡ with_record t1 0 free_record = (meets t1 3616001 i handed.1).1 ∙ ap (λ (s : Step). s.table) frees in
      let e : ◌≡◌ {A = ℕ} 0 5 = sym state2 ∙ ap state (sym r ∙ q) ∙ state1 in
      omega arith
