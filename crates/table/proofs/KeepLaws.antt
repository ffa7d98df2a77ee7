-- Well-formedness is kept: by a store of sound numbers into a record in use, by a new record whose Call-ID is in no record, by a record
-- that is freed; and a blank table has it. One law, `kept`, replaces a record; the rest shows what it asks. Assumes nothing.
use Prim.Native.Nat.{ℕ, ◌+◌, ◌-◌, ◌*◌, ◌≤◌, ◌<◌}
use Rattle.octets.proofs.ClassLaws.{among_in, in_among}
use Rattle.octets.proofs.TextLaws.{same-eq, same_self, eq-same, ne_same}
use Rattle.octets.specs.Class.{among}
use Rattle.octets.specs.Text.{same}
use Rattle.octets.proofs.TestLaws.{clash, and_both, and_left, and_right, Either, either}
use Rattle.rules.proofs.PartLaws.{call_id_length, user-length, fire-length}
use Rattle.rules.specs.Texts.{call_id_rule, user_rule, fire_rule}
use Rattle.table.proofs.BlankLaws.{length_header}
use Rattle.table.proofs.FieldLaws.{Fits, fields_read, texts-read, spare-zero, text-own, slot_own, text-read, slot_read, zeros-replicate}
use Rattle.table.proofs.ImageLaws.{length_record, length_with, with_same, with_other, with_header}
use Rattle.table.proofs.RecordLaws.{slots, length-slots, length-texts, length-with_fields, length-new_record}
use Rattle.table.proofs.SearchLaws.{all-every, every-at}
use Rattle.table.proofs.SlotLaws.{length_slot}
use Rattle.table.proofs.SoundLaws.{record_used, texts_of_lem}
use Rattle.table.specs.Blank.{blank_of}
use Rattle.table.specs.Image.{record_count, header_of, record_at, with_record, free_record, record_size, header_size}
use Rattle.table.specs.Record.{call_id_at, call_id_room, record_call_id, record_user, record_caller_fire, record_callee_fire, room_text, record_fields, texts_of, slot_of}
use Rattle.table.specs.Record.{with_fields}
use Rattle.table.specs.Record.{new_record}
use Rattle.table.specs.Record.{is_free, is_named, same_parties}
use Rattle.table.specs.WellFormed.{padded, slot_sound, texts_sound, fields_sound, spare_sound, used_sound, record_sound, apart, apart_before, distinct, frame_sound, records_sound}
use Rattle.table.specs.WellFormed.{well_formed}
use Rattle.table.specs.declared.numbers.Fields.{Fields}
use borrow.Author.Tests.{eq-eqb, ne_eqb, not-true}
use lib.Dec.{eqb}
use lib.ListN.{length, get_or, take, drop, replicate, length-append, length-replicate, replicate-append-replicate}
use lib.Seq.{take_at, drop_at, drop-append-add}
use mathlib.Core.Bool.{Bool, true, false, not, ◌&&◌, ◌||◌}
use mathlib.Core.List.{List, [], ◌++◌, append_assoc, append-nil}
use mathlib.Core.Logic.{inl, inr}
use mathlib.Core.Path.{◌≡◌, refl, sym, ap, ◌∙◌}
use native.Mathlib.Decide.{ℕ_discrete, dec_lt}
use native.Mathlib.Omega.{arith}

-- The texts of a record.

unfoldable own_sound : List ℕ → Bool
own_sound x = slot_sound call_id_rule 0 64 x && (slot_sound user_rule 65 15 x && (slot_sound fire_rule 81 15 x && slot_sound fire_rule 97 15 x))

texts-own : (r : List ℕ) → own_sound (texts_of r) ≡ texts_sound r
unfolding own_sound texts_sound
texts-own r =
    rw (
      slot_own r 0 64 (omega arith) call_id_rule,
      slot_own r 65 15 (omega arith) user_rule,
      slot_own r 81 15 (omega arith) fire_rule,
      slot_own r 97 15 (omega arith) fire_rule,
    )

-- a record with other numbers holds the same texts
module _ (r : List ℕ) (f : Fields) (e : length r ≡ record_size) where
  text-kept : (a room : ℕ) → a + 1 + room ≤ 113 → room_text (1 + a) room (with_fields r f) ≡ room_text (1 + a) room r
  text-kept a room h =
      sym (text-own (with_fields r f) a room h) ∙ ap (room_text a room) (texts-read f (texts_of r) (length-texts r e)) ∙ text-own r a room h

  pub call_id_kept : record_call_id (with_fields r f) ≡ record_call_id r
  call_id_kept = text-kept 0 64 (omega arith)

  pub user-kept : record_user (with_fields r f) ≡ record_user r
  user-kept = text-kept 65 15 (omega arith)

  pub caller-fire-kept : record_caller_fire (with_fields r f) ≡ record_caller_fire r
  caller-fire-kept = text-kept 81 15 (omega arith)

  pub callee-fire-kept : record_callee_fire (with_fields r f) ≡ record_callee_fire r
  callee-fire-kept = text-kept 97 15 (omega arith)

  pub parties-kept : (u a b : List ℕ) → same_parties u a b (with_fields r f) ≡ same_parties u a b r
  unfolding same_parties
  parties-kept u a b = rw (user-kept, caller-fire-kept, callee-fire-kept)

  pub fields-stored : Fits f → record_fields (with_fields r f) ≡ f
  fields-stored k = fields_read f (texts_of r) (length-texts r e) k

  pub stored-sound : used_sound r ≡ true → fields_sound f ≡ true → Fits f → used_sound (with_fields r f) ≡ true
  unfolding used_sound
  stored-sound u g k =
      let x : length (texts_of r) ≡ 113 = length-texts r e in
      let v : texts_sound (with_fields r f) ≡ texts_sound r =
      sym (texts-own (with_fields r f)) ∙ ap own_sound (texts-read f (texts_of r) x) ∙ texts-own r in
      and_both (ap fields_sound (fields-stored k) ∙ g) (and_both (spare-zero f (texts_of r) x) (v ∙ texts_of_lem r u))

-- a new record holds the texts and the numbers that it was made from
module _ (call_id user callerFire calleeFire : List ℕ) (f : Fields) (h1 : length call_id ≤ 64) (h2 : length user ≤ 15)
    (h3 : length callerFire ≤ 15) (h4 : length calleeFire ≤ 15) where
  abbrev new : List ℕ
  new = new_record call_id user callerFire calleeFire f

  abbrev own : List ℕ
  own = slots call_id user callerFire calleeFire f

  long : length own ≡ 113
  long = length-slots call_id user callerFire calleeFire f h1 h2 h3 h4

  new-texts : texts_of new ≡ own
  unfolding new_record
  new-texts = texts-read f own long

  abbrev two : List ℕ
  two = slot_of 64 call_id ++ slot_of 15 user

  abbrev three : List ℕ
  three = two ++ slot_of 15 callerFire

  at-user : own ≡ slot_of 64 call_id ++ (slot_of 15 user ++ (slot_of 15 callerFire ++ slot_of 15 calleeFire))
  at-user = refl

  at_caller : own ≡ two ++ (slot_of 15 callerFire ++ slot_of 15 calleeFire)
  at_caller = simp append_assoc

  at-callee : own ≡ three ++ (slot_of 15 calleeFire ++ [])
  at-callee = simp (append_assoc, append-nil)

  length_two : length two ≡ 81
  length_two = simp (length-append, length_slot 64 call_id h1, length_slot 15 user h2)

  length_three : length three ≡ 97
  length_three = simp (length-append, length_slot 64 call_id h1, length_slot 15 user h2, length_slot 15 callerFire h3)

  text-new : (a room : ℕ) → a + 1 + room ≤ 113 → room_text (1 + a) room new ≡ room_text a room own
  text-new a room h = sym (text-own new a room h) ∙ ap (room_text a room) new-texts

  pub call_id_new : record_call_id new ≡ call_id
  call_id_new =
      text-new 0 64 (omega arith) ∙ text-read [] call_id (slot_of 15 user ++ (slot_of 15 callerFire ++ slot_of 15 calleeFire))
      0 64 refl refl h1

  pub user-new : record_user new ≡ user
  user-new =
      text-new 65 15 (omega arith) ∙ text-read (slot_of 64 call_id) user (slot_of 15 callerFire ++ slot_of 15 calleeFire) 65 15 at-user
      (length_slot 64 call_id h1) h2

  pub caller-fire-new : record_caller_fire new ≡ callerFire
  caller-fire-new = text-new 81 15 (omega arith) ∙ text-read two callerFire (slot_of 15 calleeFire) 81 15 at_caller length_two h3

  pub callee-fire-new : record_callee_fire new ≡ calleeFire
  callee-fire-new = text-new 97 15 (omega arith) ∙ text-read three calleeFire [] 97 15 at-callee length_three h4

  pub parties-new : same_parties user callerFire calleeFire new ≡ true
  unfolding same_parties
  parties-new = rw (user-new, caller-fire-new, callee-fire-new, same_self user, same_self callerFire, same_self calleeFire)

  pub fields-new : Fits f → record_fields new ≡ f
  unfolding new_record
  fields-new k = fields_read f own long k

  new-spare : spare_sound new ≡ true
  unfolding new_record
  new-spare = spare-zero f own long

  new-own : call_id_rule call_id ≡ true → user_rule user ≡ true → fire_rule callerFire ≡ true → fire_rule calleeFire ≡ true → own_sound own ≡ true
  unfolding own_sound
  new-own r1 r2 r3 r4 =
      and_both (slot_read [] call_id (slot_of 15 user ++ (slot_of 15 callerFire ++ slot_of 15 calleeFire)) 0 64 refl refl h1 call_id_rule r1)
      (and_both (slot_read (slot_of 64 call_id) user (slot_of 15 callerFire ++ slot_of 15 calleeFire) 65 15 at-user
      (length_slot 64 call_id h1) h2 user_rule r2)
      (and_both (slot_read two callerFire (slot_of 15 calleeFire) 81 15 at_caller length_two h3 fire_rule r3)
      (slot_read three calleeFire [] 97 15 at-callee length_three h4 fire_rule r4)))

-- the texts of a new record are within their rules
pub record Ruled (i u a b : List ℕ) : Type 0 where
  pub call_id : call_id_rule i ≡ true
  pub user : user_rule u ≡ true
  pub caller-fire : fire_rule a ≡ true
  pub callee-fire : fire_rule b ≡ true

module _ (call_id user callerFire calleeFire : List ℕ) (f : Fields) (r : Ruled call_id user callerFire calleeFire) where
  h1 : length call_id ≤ 64
  h1 = (call_id_length call_id r.call_id).1

  h2 : length user ≤ 15
  h2 = (user-length user r.user).1

  h3 : length callerFire ≤ 15
  h3 = (fire-length callerFire r.caller-fire).1

  h4 : length calleeFire ≤ 15
  h4 = (fire-length calleeFire r.callee-fire).1

  pub new-sound : fields_sound f ≡ true → Fits f → used_sound (new_record call_id user callerFire calleeFire f) ≡ true
  unfolding used_sound
  new-sound g k =
      let n : List ℕ = new_record call_id user callerFire calleeFire f in
      and_both (ap fields_sound (fields-new call_id user callerFire calleeFire f h1 h2 h3 h4 k) ∙ g)
      (and_both (new-spare call_id user callerFire calleeFire f h1 h2 h3 h4)
      (sym (texts-own n) ∙ ap own_sound (new-texts call_id user callerFire calleeFire f h1 h2 h3 h4) ∙
      (new-own call_id user callerFire calleeFire f h1 h2 h3 h4 r.call_id r.user r.caller-fire r.callee-fire)))

-- One record by itself.

-- a record in use has a state
state-one : (r : List ℕ) → used_sound r ≡ true → 1 ≤ get_or r 0 0
unfolding used_sound fields_sound record_fields
state-one r u = (among_in 1 6 (get_or r 0 0) (and_left (among 1 6 (get_or r 0 0)) _ (and_left (fields_sound (record_fields r)) _ u))).0

pub used-not-free : (r : List ℕ) → used_sound r ≡ true → is_free r ≡ false
used-not-free r u = let h = state-one r u in ne_eqb (get_or r 0 0) 0 (λ w. omega arith)

not-free-state : (r : List ℕ) → is_free r ≡ false → get_or r 0 0 ≡ 0 → ⊥
not-free-state r e w = clash (eq-eqb (get_or r 0 0) 0 w) e

-- what is not free is in use
pub sound-used : (r : List ℕ) → record_sound r ≡ true → is_free r ≡ false → used_sound r ≡ true
sound-used r s e = record_used r (not-free-state r e) refl ∙ s

used_sound_lem : (r : List ℕ) → used_sound r ≡ true → record_sound r ≡ true
used_sound_lem r u = sym (record_used r (not-free-state r (used-not-free r u)) refl) ∙ u

pub free-sound : record_sound free_record ≡ true
unfolding record_sound
free-sound = rw (zeros-replicate record_size)

-- Call-IDs.

same_swap : (a b : List ℕ) → same a b ≡ same b a
same_swap a b = go (either (same a b))
  where
    go : Either (same a b) → same a b ≡ same b a
    go (inl e) = e ∙ sym (eq-same b a (sym (same-eq a b e)))
    go (inr e) = e ∙ sym (ne_same b a (λ w. clash (eq-same a b (sym w)) e))

apart_swap : (r s : List ℕ) → apart r s ≡ apart s r
unfolding apart
apart_swap r s = rw (same_swap (record_call_id r) (record_call_id s)) (go (is_free r) (is_free s) (not (same (record_call_id s) (record_call_id r))))
  where
    go : (a b c : Bool) → (a || (b || c)) ≡ (b || (a || c))
    go true true c = refl
    go true false c = refl
    go false true c = refl
    go false false c = refl

-- the record that is named is in use, and has the name
pub named-used : (id r : List ℕ) → is_named id r ≡ true → is_free r ≡ false
unfolding is_named
named-used id r e = not-true (is_free r) (and_left (not (is_free r)) _ e)

pub named-is : (id r : List ℕ) → is_named id r ≡ true → record_call_id r ≡ id
unfolding is_named
named-is id r e = same-eq (record_call_id r) id (and_right (not (is_free r)) _ e)

-- two records of one call are not apart
pub named-apart : (id r s : List ℕ) → apart r s ≡ true → is_named id r ≡ true → is_named id s ≡ true → ⊥
unfolding apart
named-apart id r s e p q =
    let w : same (record_call_id r) (record_call_id s) ≡ true = eq-same (record_call_id r) (record_call_id s) (named-is id r p ∙ sym (named-is id s q)) in
    clash refl (sym (rw (named-used id r p, named-used id s q, w) at e))

-- a record whose Call-ID is not that of another is apart from it
other-apart : (r s id : List ℕ) → record_call_id r ≡ id → is_named id s ≡ false → apart r s ≡ true
unfolding apart is_named
other-apart r s id e n = go (is_free r) (either (is_free s))
  where
    go : (a : Bool) → Either (is_free s) → (a || (is_free s || not (same (record_call_id r) (record_call_id s)))) ≡ true
    go true b = refl
    go false (inl b) = rw b
    go false (inr b) = rw (b, same_swap (record_call_id r) (record_call_id s), e) (rw (rw b at n))

-- a record with the Call-ID of one in use is apart from what that one is apart from
apart-same : (r x s : List ℕ) → is_free r ≡ false → record_call_id x ≡ record_call_id r → apart r s ≡ true → apart x s ≡ true
unfolding apart
apart-same r x s e q a = rw q (go (is_free x) (rw e at a))
  where
    go : (b : Bool) → (is_free s || not (same (record_call_id r) (record_call_id s))) ≡ true
        → (b || (is_free s || not (same (record_call_id r) (record_call_id s)))) ≡ true
    go true v = refl
    go false v = v

free-apart : (s : List ℕ) → apart free_record s ≡ true
unfolding apart
free-apart s = refl

module _ (t : List ℕ) where
  pub apart-pair : distinct t ≡ true → (k l : ℕ) → k < record_count t → l < record_count t → (l ≡ k → ⊥) → apart (record_at t k) (record_at t l) ≡ true
  unfolding distinct apart_before
  apart-pair d k l h g ne = go (dec_lt l k)
    where
      go : Dec (l < k) → apart (record_at t k) (record_at t l) ≡ true
      go (yes w) = every-at (λ j. apart (record_at t k) (record_at t j)) k l (every-at (apart_before t) (record_count t) k d h) w
      go (no w) =
          apart_swap (record_at t k) (record_at t l)
          ∙ every-at (λ j. apart (record_at t l) (record_at t j)) l k (every-at (apart_before t) (record_count t) l d g) (omega arith)

  pair-distinct : ((k l : ℕ) → k < record_count t → l < k → apart (record_at t k) (record_at t l) ≡ true) → distinct t ≡ true
  unfolding distinct apart_before
  pair-distinct f =
      all-every (apart_before t) (record_count t) (λ k h. all-every (λ j. apart (record_at t k) (record_at t j)) k (λ l g. f k l h g))

  -- a Call-ID stands in one record at most
  pub one_record : distinct t ≡ true → (id : List ℕ) (k l : ℕ) → k < record_count t → l < record_count t → is_named id (record_at t k) ≡ true
      → is_named id (record_at t l) ≡ true → l ≡ k
  one_record d id k l h g p q = go (ℕ_discrete l k)
    where
      go : Dec (l ≡ k) → l ≡ k
      go (yes w) = w
      go (no w) = absurd (named-apart id (record_at t k) (record_at t l) (apart-pair d k l h g w) p q)

-- The parts of a well-formed table.

module _ (t : List ℕ) (w : well_formed t ≡ true) where
  pub frame_of : frame_sound t ≡ true
  unfolding well_formed
  frame_of = and_left (frame_sound t) (records_sound t && distinct t) w

  pub distinct_of : distinct t ≡ true
  unfolding well_formed
  distinct_of = and_right (records_sound t) (distinct t) (and_right (frame_sound t) (records_sound t && distinct t) w)

  pub record_of : (k : ℕ) → k < record_count t → record_sound (record_at t k) ≡ true
  unfolding well_formed records_sound
  record_of k h =
      every-at (λ j. record_sound (record_at t j)) (record_count t) k
      (and_left (records_sound t) (distinct t) (and_right (frame_sound t) (records_sound t && distinct t) w)) h

  -- the numbers of a record in use are right
  pub fields_of : (k : ℕ) → k < record_count t → is_free (record_at t k) ≡ false → fields_sound (record_fields (record_at t k)) ≡ true
  unfolding used_sound
  fields_of k h e = and_left (fields_sound (record_fields (record_at t k))) _ (sound-used (record_at t k) (record_of k h) e)

  pub call_id_of_lem : (k : ℕ) → k < record_count t → is_free (record_at t k) ≡ false → call_id_rule (record_call_id (record_at t k)) ≡ true
  unfolding texts_sound slot_sound
  call_id_of_lem k h e =
      let r = record_at t k in
      and_right (padded call_id_at call_id_room r) _ (and_left (slot_sound call_id_rule call_id_at call_id_room r) _ (texts_of_lem r (sound-used r (record_of k h) e)))

-- A record replaced.

module _ (t : List ℕ) (k : ℕ) (x : List ℕ) (w : well_formed t ≡ true) (h : k < record_count t) (fit : length x ≡ record_size) (sound : record_sound x ≡ true)
    (others : (l : ℕ) → l < record_count t → (l ≡ k → ⊥) → apart x (record_at t l) ≡ true) where
  abbrev t' : List ℕ
  t' = with_record t k x

  sizes : record_count t' ≡ record_count t
  sizes = rw (length_with t k h x fit)

  frame-kept : frame_sound t' ≡ true
  unfolding frame_sound
  frame-kept = rw (length_with t k h x fit, with_header t k h x fit) (frame_of t w)

  records-kept : records_sound t' ≡ true
  unfolding records_sound
  records-kept = all-every (λ j. record_sound (record_at t' j)) (record_count t') (λ j g. go j (rw sizes at g) (ℕ_discrete j k))
    where
      go : (j : ℕ) → j < record_count t → Dec (j ≡ k) → record_sound (record_at t' j) ≡ true
      go j g (yes e) = rw (e, with_same t k h x fit) sound
      go j g (no e) = rw (with_other t k h x fit j g e) (record_of t w j g)

  distinct-kept : distinct t' ≡ true
  distinct-kept = pair-distinct t' (λ j l g i. go j l (rw sizes at g) i (ℕ_discrete j k) (ℕ_discrete l k))
    where
      go : (j l : ℕ) → j < record_count t → l < j → Dec (j ≡ k) → Dec (l ≡ k) → apart (record_at t' j) (record_at t' l) ≡ true
      go j l g i (yes e) (yes d) = absurd (omega arith)
      go j l g i (yes e) (no d) = rw (e, with_same t k h x fit, with_other t k h x fit l (omega arith) d) (others l (omega arith) d)
      go j l g i (no e) (yes d) = rw (d, with_same t k h x fit, with_other t k h x fit j g e) (apart_swap (record_at t j) x ∙ others j g e)
      go j l g i (no e) (no d) =
          rw (with_other t k h x fit j g e, with_other t k h x fit l (omega arith) d)
          (apart-pair t (distinct_of t w) j l g (omega arith) (λ q. omega arith))

  pub kept : well_formed t' ≡ true
  unfolding well_formed
  kept = and_both frame-kept (and_both records-kept distinct-kept)

module _ (t : List ℕ) (k : ℕ) (w : well_formed t ≡ true) (h : k < record_count t) where
  -- sound numbers into a record in use
  pub store_keeps : (f : Fields) → is_free (record_at t k) ≡ false → fields_sound f ≡ true → Fits f
      → well_formed (with_record t k (with_fields (record_at t k) f)) ≡ true
  store_keeps f e g fits =
      let r : List ℕ = record_at t k in
      let l : length r ≡ record_size = length_record t k h in
      let u : used_sound r ≡ true = sound-used r (record_of t w k h) e in
      let s : used_sound (with_fields r f) ≡ true = stored-sound r f l u g fits in
      kept t k (with_fields r f) w h (length-with_fields r f l) (used_sound_lem (with_fields r f) s)
      (λ j i ne. apart-same r (with_fields r f) (record_at t j) e (call_id_kept r f l) (apart-pair t (distinct_of t w) k j h i ne))

  -- a new record whose Call-ID stands in none
  pub open_keeps : (call_id user callerFire calleeFire : List ℕ) (f : Fields) → Ruled call_id user callerFire calleeFire
      → fields_sound f ≡ true → Fits f
      → ((l : ℕ) → l < record_count t → is_named call_id (record_at t l) ≡ false) → well_formed
      (with_record t k (new_record call_id user callerFire calleeFire f)) ≡ true
  open_keeps i u a b f r g fits none =
      let n : List ℕ = new_record i u a b f in
      let l1 : length i ≤ 64 = (call_id_length i r.call_id).1 in
      let l2 : length u ≤ 15 = (user-length u r.user).1 in
      let l3 : length a ≤ 15 = (fire-length a r.caller-fire).1 in
      let l4 : length b ≤ 15 = (fire-length b r.callee-fire).1 in
      kept t k n w h (length-new_record i u a b f l1 l2 l3 l4) (used_sound_lem n (new-sound i u a b f r g fits))
      (λ j q ne. other-apart n (record_at t j) i (call_id_new i u a b f l1 l2 l3 l4) (none j q))

  -- a record freed
  pub release_keeps : well_formed (with_record t k free_record) ≡ true
  release_keeps = kept t k free_record w h (length-replicate {A = ℕ} record_size 0) free-sound (λ j q ne. free-apart (record_at t j))

-- A blank table.

take-blank : (n : ℕ) → take 16 (blank_of n) ≡ header_of n
unfolding blank_of
take-blank n = take_at (header_of n) (replicate (record_size * n) 0) 16 (length_header n)

module _ (n : ℕ) (low : 1 ≤ n) (high : n ≤ 255) where
  abbrev zs : ℕ → List ℕ
  zs m = replicate m 0

  length-blank : length (blank_of n) ≡ header_size + record_size * n
  unfolding blank_of
  length-blank = simp (length-append, length_header, length-replicate)

  blank-size : record_count (blank_of n) ≡ n
  blank-size = rw length-blank (omega arith)

  blank_record : (k : ℕ) → k < n → record_at (blank_of n) k ≡ free_record
  unfolding blank_of
  blank_record k h =
      let m : ℕ = record_size * (n - k - 1) in
      let a : record_size * k + (record_size + m) ≡ record_size * n = omega arith in
      let q : zs (record_size * n) ≡ zs (record_size * k) ++ (zs record_size ++ zs m) =
      ap zs (sym a) ∙ sym (replicate-append-replicate (record_size * k) (record_size + m) 0)
      ∙ ap (λ (l : List ℕ). zs (record_size * k) ++ l) (sym (replicate-append-replicate record_size m 0)) in
      let d : drop (header_size + record_size * k) (header_of n ++ zs (record_size * n)) ≡ drop (record_size * k) (zs (record_size * n)) =
      ap (λ (j : ℕ). drop (j + record_size * k) (header_of n ++ zs (record_size * n))) (sym (length_header n)) ∙ drop-append-add (header_of n)
      (zs (record_size * n)) (record_size * k) in
      ap (take record_size) (d ∙ ap (drop (record_size * k)) q
      ∙ drop_at (zs (record_size * k)) (zs record_size ++ zs m) (record_size * k) (length-replicate {A = ℕ} (record_size * k) 0))
      ∙ take_at (zs record_size) (zs m) record_size (length-replicate {A = ℕ} record_size 0)

  blank-frame : frame_sound (blank_of n) ≡ true
  unfolding frame_sound
  blank-frame =
      let a : eqb (length (blank_of n)) (header_size + record_size * record_count (blank_of n)) ≡ true =
      eq-eqb (length (blank_of n)) (header_size + record_size * record_count (blank_of n)) (let s = blank-size in let l = length-blank in omega arith) in
      let b : among 1 255 (record_count (blank_of n)) ≡ true = rw blank-size (in_among 1 255 n low high) in
      let c : same (take 16 (blank_of n)) (header_of (record_count (blank_of n))) ≡ true =
      eq-same (take 16 (blank_of n)) (header_of (record_count (blank_of n))) (take-blank n ∙ ap header_of (sym blank-size)) in
      and_both a (and_both b c)

  pub blank-sound : well_formed (blank_of n) ≡ true
  unfolding well_formed records_sound
  blank-sound =
      let s : record_count (blank_of n) ≡ n = blank-size in
      and_both blank-frame
      (and_both (all-every (λ k. record_sound (record_at (blank_of n) k)) (record_count (blank_of n))
      (λ k h. rw (blank_record k (omega arith)) free-sound))
      (pair-distinct (blank_of n) (λ k l h g. rw (blank_record k (omega arith)) (free-apart (record_at (blank_of n) l)))))
