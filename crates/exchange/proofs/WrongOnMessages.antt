-- Keepers that the contract of `message` shuts out (01 What contracts say): one that refuses everything, one that always answers pass, one that
-- never alters the table, and one that acts on the first event and only answers later. Shown on a blank table of two records: an INVITE is
-- passed and takes the first, one of another Call-ID is passed and takes the second, and a message of no bytes is refused. The second is shut
-- out under every ceiling of JSON values (02 §9), the others under every ceiling with room for the INVITE's 38, so at the program's 16,384 (a
-- ceiling of 0 refuses every message). Assumes nothing.
use Rattle.answers.specs.Answer.{Answer, accepted}
use Rattle.std.specs.Prelude.{Some, None, Ok}
use Prim.Native.Nat.{ℕ, ◌≤◌, ◌<◌}
use Rattle.call.specs.Rule.{decided_unheld}
use Rattle.answers.specs.declared.State.TheVariants.{Calling}
use Rattle.answers.specs.declared.Word.TheVariants.{Pass}
use Rattle.exchange.proofs.Invites.{invite_of, invite, invites_read}
use Rattle.exchange.proofs.WrongKeepers.{Handed, Keeper, Meets, is_refused, is_pass, RefusesAll, PassesAll, AltersNone, each-byte}
use Rattle.exchange.proofs.WrongOnTicks.{calling, calling-sound}
use Rattle.exchange.specs.Paper.{refused, paper_of}
use Rattle.json_text.specs.Places.{part}
use Rattle.keeper.proofs.FactLaws.{sound-fields, fit-fields}
use Rattle.message.proofs.Accepted.{read_named}
use Rattle.keeper.specs.Facts.{method_of_code, event_of, fields_from}
use Rattle.keeper.specs.Keeping.{Step, record_for, on_message}
use Rattle.values.specs.Spans.{cut}
use Rattle.escapes.specs.Rfc7159.{letter_of, letters_from, spelt, text, took}
use Rattle.message.specs.Parties.{call_id_of, caller_address_of, callee_address_of, user_of, caller_fire_of, callee_fire_of}
use Rattle.message.specs.Reading.{reading, reporting}
use Rattle.octets.specs.Ascii.{ascii}
use Rattle.octets.specs.Class.{all}
use Rattle.octets.specs.Number.{bytes_of}
use Rattle.octets.specs.Splice.{splice}
use Rattle.octets.specs.Text.{same}
use Rattle.octets.proofs.TestLaws.{clash}
use Rattle.rules.proofs.PartLaws.{call_id_length, user-length, fire-length}
use Rattle.table.proofs.ImageLaws.{with_same}
use Rattle.table.proofs.KeepLaws.{Ruled, blank-sound, open_keeps, fields-new}
use Rattle.table.proofs.LookupLaws.{free-found, not_found}
use Rattle.table.proofs.RecordLaws.{length-new_record}
use Rattle.table.specs.Blank.{blank_of}
use Rattle.table.specs.Image.{record_count, header_of, record_at, with_record}
use Rattle.table.specs.Record.{counts_of, record_fields, is_named, new_record, record_of, slot_of, room_text, times_of}
use Rattle.table.specs.Search.{lowest_found, place_named, free_place}
use Rattle.table.specs.WellFormed.{well_formed}
use Rattle.table.specs.declared.numbers.Fields.{Fields}
use borrow.Author.Tests.{eqb-true}
use mathlib.Core.Bool.{true}
use mathlib.Core.List.{List, []}
use mathlib.Core.Path.{◌≡◌, refl, sym, ap, ◌∙◌}
use native.Mathlib.Omega.{arith}

-- An INVITE at 1000 where its Call-ID stands in no record and record k is the lowest free one.

abbrev state : List ℕ → ℕ → ℕ
state t k = (record_fields (record_at t k)).state

module _ (c : ℕ) (t s : List ℕ) (k : ℕ) (w : well_formed t ≡ true) (read : reading c s ≡ Ok invite) (nobody : place_named (call_id_of s invite) t ≡ None)
    (free : free_place t ≡ Some k) where
  abbrev r : List ℕ
  r = record_for s invite calling

  ruled : Ruled (call_id_of s invite) (user_of s invite) (caller_fire_of s invite) (callee_fire_of s invite)
  ruled =
      let n = read_named c s invite read (omega arith) in
      record { call_id = n.call_id; user = n.user; caller-fire = n.caller-fire; callee-fire = n.callee-fire }

  inside : k < record_count t
  inside = (free-found t k free).inside

  passed : on_message c t 1000 s ≡ record { answer = accepted Pass (Some Calling); table = with_record t k r }
  unfolding on_message event_of method_of_code decided_unheld
  passed = rw (w, read, nobody, free)

  well : well_formed (with_record t k r) ≡ true
  unfolding record_for
  well =
      open_keeps t k w inside _ _ _ _ (fields_from calling) ruled (sound-fields calling calling-sound) (fit-fields calling calling-sound)
      (not_found (call_id_of s invite) t nobody)

  -- the record is another than it was
  before : state t k ≡ 0
  unfolding record_fields
  before = eqb-true _ 0 (free-found t k free).passes

  after : state (with_record t k r) k ≡ 1
  unfolding record_for fields_from
  after =
      let l1 = (call_id_length _ ruled.call_id).1 in
      let l2 = (user-length _ ruled.user).1 in
      let l3 = (fire-length _ ruled.caller-fire).1 in
      let l4 = (fire-length _ ruled.callee-fire).1 in
      ap (λ (x : List ℕ). (record_fields x).state) (with_same t k inside r (length-new_record _ _ _ _ (fields_from calling) l1 l2 l3 l4))
      ∙ ap (λ (x : Fields). x.state) (fields-new _ _ _ _ (fields_from calling) l1 l2 l3 l4 (fit-fields calling calling-sound))

  altered : with_record t k r ≡ t → ⊥
  altered e = let z : ◌≡◌ {A = ℕ} 1 0 = sym after ∙ ap (λ (x : List ℕ). state x k) e ∙ before in omega arith

-- The table: two records, both free; then with one call, and then with two.

abbrev s1 : List ℕ
s1 = invite_of (ascii "A1.nx")

abbrev s2 : List ℕ
s2 = invite_of (ascii "B2.nx")

abbrev r1 : List ℕ
r1 = record_for s1 invite calling

abbrev t0 : List ℕ
t0 = blank_of 2

abbrev t1 : List ℕ
t1 = with_record t0 0 r1

abbrev t2 : List ℕ
t2 = with_record t1 1 (record_for s2 invite calling)

w0 : well_formed t0 ≡ true
w0 = blank-sound 2 (omega arith) (omega arith)

-- neither Call-ID stands where its INVITE comes, and which record is free then
searched : ((place_named (call_id_of s1 invite) t0 ≡ None) × (free_place t0 ≡ Some 0)) × ((place_named (call_id_of s2 invite) t1 ≡ None) × (free_place t1 ≡ Some 1))
unfolding place_named free_place lowest_found is_named same blank_of header_of bytes_of splice record_for new_record record_of fields_from room_text slot_of counts_of times_of
    call_id_of caller_address_of callee_address_of user_of caller_fire_of callee_fire_of cut part text spelt letters_from letter_of took
searched = ((refl, refl), (refl, refl))

w1 : well_formed t1 ≡ true
w1 = well 38 t0 s1 0 w0 (invites_read 38 (omega arith)).0 searched.0.0 searched.0.1

handed : Handed t0 1000 [] × (Handed t0 1000 s1 × Handed t1 1000 s2)
unfolding all blank_of header_of bytes_of splice record_for new_record record_of fields_from slot_of counts_of times_of call_id_of caller_address_of callee_address_of user_of
    caller_fire_of
    callee_fire_of cut part text spelt letters_from letter_of took
handed = (
  record { table = each-byte t0 refl; clock = omega arith; text = each-byte [] refl },
  (
    record { table = each-byte t0 refl; clock = omega arith; text = each-byte s1 refl },
    record { table = each-byte t1 refl; clock = omega arith; text = each-byte s2 refl },
  ),
)

first : (c : ℕ) → 38 ≤ c → on_message c t0 1000 s1 ≡ record { answer = accepted Pass (Some Calling); table = t1 }
first c room = passed c t0 s1 0 w0 (invites_read c room).0 searched.0.0 searched.0.1

second : (c : ℕ) → 38 ≤ c → on_message c t1 1000 s2 ≡ record { answer = accepted Pass (Some Calling); table = t2 }
second c room = passed c t1 s2 1 w1 (invites_read c room).1 searched.1.0 searched.1.1

-- a message of no bytes is answered 2
empty : (c : ℕ) → paper_of (on_message c t0 1000 []).answer ≡ refused 2 0 0
unfolding on_message reading reporting
empty c = rw w0 refl

module _ (c : ℕ) (f : Keeper) (meets : Meets (on_message c) f) where
  leaves : 38 ≤ c → (f t0 1000 s1).table ≡ t1
  leaves room = (meets t0 1000 s1 handed.1.0).1 ∙ ap (λ (x : Step). x.table) (first c room)

  pub refuses-not-all : 38 ≤ c → RefusesAll f → ⊥
  refuses-not-all room h =
      clash (h t0 1000 s1 handed.1.0) (ap (λ (a : Answer). is_refused (paper_of a)) ((meets t0 1000 s1 handed.1.0).0 ∙ ap (λ (x : Step). x.answer) (first c room)))

  pub passes-not-all : PassesAll f → ⊥
  passes-not-all h = clash (h t0 1000 [] handed.0) (ap (λ (a : Answer). is_pass (paper_of a)) (meets t0 1000 [] handed.0).0 ∙ ap is_pass (empty c))

  pub alters_some : 38 ≤ c → AltersNone f → ⊥
  alters_some room h = altered c t0 s1 0 w0 (invites_read c room).0 searched.0.0 searched.0.1 (sym (leaves room) ∙ h t0 1000 s1 handed.1.0)

  -- it acts on later messages too
  pub acts_later : 38 ≤ c → ((t : List ℕ) (now : ℕ) (s : List ℕ) → Handed t now s → (later : ℕ) (z : List ℕ) → Handed (f t now s).table later z
      → (f (f t now s).table later z).table ≡ (f t now s).table) → ⊥
  acts_later room h =
      let q : (f t1 1000 s2).table ≡ t1 = rw (leaves room) at (h t0 1000 s1 handed.1.0 1000 s2 (rw (leaves room) handed.1.1)) in
      let e : (f t1 1000 s2).table ≡ t2 = (meets t1 1000 s2 handed.1.1).1 ∙ ap (λ (x : Step). x.table) (second c room) in
      altered c t1 s2 1 w1 (invites_read c room).1 searched.1.0 searched.1.1 (sym e ∙ q)
