-- A record and its fields: how the stores put it together, and that what is put together is read back. Assumes nothing.
use Prim.Native.Nat.{ℕ, ◌+◌, ◌≤◌, ◌<◌}
use Rattle.octets.proofs.Chain.{length-splice}
use Rattle.octets.proofs.NumberLaws.{length-bytes_of}
use Rattle.octets.specs.Number.{bytes_of}
use Rattle.octets.specs.Splice.{splice}
use Rattle.octets.specs.Text.{same}
use Rattle.table.proofs.ImageLaws.{room, length_record, within_record}
use Rattle.table.proofs.SlotLaws.{length_slot}
use Rattle.table.proofs.SpliceLaws.{inside, Run, further}
use Rattle.table.specs.Image.{base, record_count, record_at, with_record, record_size}
use Rattle.table.specs.Record.{record_number, record_fields, counts_of, times_of, numbers_of, record_of, texts_of, with_fields, slot_of, new_record, room_text, is_named}
use Rattle.table.specs.WellFormed.{apart}
use Rattle.table.specs.declared.numbers.Fields.{Fields}
use borrow.Author.Tests.{eq-eqb, ne_eqb}
use lib.ListN.{length, get_or, drop, length-append, length-drop, drop_of_length-le}
use lib.Seq.{length-take-le}
use mathlib.Core.Bool.{Bool, true, false, not}
use mathlib.Core.List.{List, [], ◌∷◌, ◌++◌, append_assoc, append-nil}
use mathlib.Core.Path.{◌≡◌, refl, sym, ap, ◌∙◌}
use native.Mathlib.Nat.{add-zero}
use native.Mathlib.Omega.{arith}

-- Lengths.

pub length-counts : (f : Fields) → length (counts_of f) ≡ 14
unfolding counts_of
length-counts f = simp (length-append, length-bytes_of)

pub length-times : (f : Fields) → length (times_of f) ≡ 32
unfolding times_of
length-times f = simp (length-append, length-bytes_of)

pub length-numbers : (f : Fields) → length (numbers_of f) ≡ 46
length-numbers f = simp (length-append, length-counts, length-times)

pub length-record_of : (f : Fields) (x : List ℕ) → length x ≡ 113 → length (record_of f x) ≡ record_size
unfolding record_of
length-record_of f x e = simp (length-append, e, length-counts, length-times)

pub length-texts : (r : List ℕ) → length r ≡ record_size → length (texts_of r) ≡ 113
length-texts r e = length-take-le 113 (drop 1 r) (rw length-drop (omega arith))

pub length-with_fields : (r : List ℕ) (f : Fields) → length r ≡ record_size → length (with_fields r f) ≡ record_size
length-with_fields r f e = length-record_of f (texts_of r) (length-texts r e)

-- The numbers of a record, read one by one.

pub fields_made : (r : List ℕ) {invite caller callee last entry chat : ℕ} → invite ≡ record_number 116 4 r → caller ≡ record_number 120 4 r
    → callee ≡ record_number 124 4 r → last ≡ record_number 128 8 r → entry ≡ record_number 136 8 r → chat ≡ record_number 152 8 r
    → ◌≡◌ {A = Fields} (record {
      state = get_or r 0 0;
      secure = get_or r 114 0;
      invite = invite;
      caller = caller;
      callermethod = get_or r 115 0;
      callee = callee;
      calleemethod = get_or r 144 0;
      last = last;
      entry = entry;
      chat = chat;
    }) (record_fields r)
unfolding record_fields
fields_made r a b d e g h =
    λ i. record {
      state = get_or r 0 0;
      secure = get_or r 114 0;
      invite = a i;
      caller = b i;
      callermethod = get_or r 115 0;
      callee = d i;
      calleemethod = get_or r 144 0;
      last = e i;
      entry = g i;
      chat = h i;
    }

-- The stores.

-- state and numbers written over a record
record_stored : (r : List ℕ) (f : Fields) → length r ≡ record_size → splice (splice r 0 (f.state ∷ [])) 114 (numbers_of f) ≡ with_fields r f
unfolding splice record_of
record_stored r f e =
    let n : length (numbers_of f) ≡ 46 = length-numbers f in
    let d : drop (114 + length (numbers_of f)) (f.state ∷ drop 1 r) ≡ [] =
    drop_of_length-le (f.state ∷ drop 1 r) {i = 114 + length (numbers_of f)} (let w = length-drop 1 r in omega arith) in
    rw (d, append-nil)

pub stored : (t : List ℕ) (k : ℕ) (f : Fields) {a b : List ℕ} → k < record_count t → a ≡ splice t (base k) (f.state ∷ [])
    → b ≡ splice a (base k + 114) (numbers_of f) → b ≡ with_record t k (with_fields (record_at t k) f)
stored t k f {a} {b} h p q =
    let r : List ℕ = record_at t k in
    let l : length r ≡ record_size = length_record t k h in
    let x : List ℕ = splice r 0 (f.state ∷ []) in
    let m : length x ≡ record_size = length-splice r 0 (f.state ∷ []) (omega arith) ∙ l in
    let w : a ≡ with_record t k x =
    p ∙ ap (λ (n : ℕ). splice t n (f.state ∷ [])) (sym (add-zero (base k))) ∙ within_record t k h 0 (f.state ∷ []) (omega arith) in
    q ∙ rw w (inside t (base k) x 114 (numbers_of f) (rw m (room t k h)) (omega (arith, length-numbers f)))
    ∙ ap (splice t (base k)) (record_stored r f l)

module _ (call_id user callerFire calleeFire : List ℕ) (f : Fields) where
  abbrev pub slots : List ℕ
  slots = slot_of 64 call_id ++ (slot_of 15 user ++ (slot_of 15 callerFire ++ slot_of 15 calleeFire))

  module _ (h1 : length call_id ≤ 64) (h2 : length user ≤ 15) (h3 : length callerFire ≤ 15) (h4 : length calleeFire ≤ 15) where
    pub length-slots : length slots ≡ 113
    length-slots =
        simp (
          length-append,
          length_slot 64 call_id h1,
          length_slot 15 user h2,
          length_slot 15 callerFire h3,
          length_slot 15 calleeFire h4,
        )

    pub length-new_record : length (new_record call_id user callerFire calleeFire f) ≡ record_size
    unfolding new_record
    length-new_record = length-record_of f slots length-slots

    -- a new record, piece by piece
    pub opened : (t : List ℕ) (k : ℕ) {a b c d e g : List ℕ} → k < record_count t → a ≡ splice t (base k) (f.state ∷ [])
        → b ≡ splice a (base k + 1) (slot_of 64 call_id) → c ≡ splice b (base k + 66) (slot_of 15 user)
        → d ≡ splice c (base k + 82) (slot_of 15 callerFire) → e ≡ splice d (base k + 98) (slot_of 15 calleeFire)
        → g ≡ splice e (base k + 114) (numbers_of f) → g ≡ with_record t k (new_record call_id user callerFire calleeFire f)
    unfolding new_record record_of
    opened t k {a} {b} {c} {d} {e} {g} h q1 q2 q3 q4 q5 q6 =
        let w : base k + 160 ≤ length t = room t k h in
        let r1 : Run t (base k) (f.state ∷ []) 1 a = record { is = q1; long = refl } in
        let r2 = further (slot_of 64 call_id) 65 r1 (omega arith) (length_slot 64 call_id h1) refl q2 in
        let r3 = further (slot_of 15 user) 16 r2 (omega arith) (length_slot 15 user h2) refl q3 in
        let r4 = further (slot_of 15 callerFire) 16 r3 (omega arith) (length_slot 15 callerFire h3) refl q4 in
        let r5 = further (slot_of 15 calleeFire) 16 r4 (omega arith) (length_slot 15 calleeFire h4) refl q5 in
        let r6 = further (numbers_of f) 46 r5 (omega arith) (length-numbers f) refl q6 in
        r6.is ∙ simp append_assoc

-- The numbers, piece by piece.

pub counts-written : (o : List ℕ) (p : ℕ) (f : Fields) {a b c d : List ℕ} → p + 160 ≤ length o
    → a ≡ splice o (p + 114) (f.secure ∷ f.callermethod ∷ [])
    → b ≡ splice a (p + 116) (bytes_of 4 f.invite) → c ≡ splice b (p + 120) (bytes_of 4 f.caller) → d ≡ splice c (p + 124)
    (bytes_of 4 f.callee)
    → d ≡ splice o (p + 114) (counts_of f)
unfolding counts_of
counts-written o p f {a} h q1 q2 q3 q4 =
    let r1 : Run o (p + 114) (f.secure ∷ f.callermethod ∷ []) 2 a = record { is = q1; long = refl } in
    let r2 = further (bytes_of 4 f.invite) 4 r1 (omega arith) (length-bytes_of 4 f.invite) (omega arith) q2 in
    let r3 = further (bytes_of 4 f.caller) 4 r2 (omega arith) (length-bytes_of 4 f.caller) (omega arith) q3 in
    let r4 = further (bytes_of 4 f.callee) 4 r3 (omega arith) (length-bytes_of 4 f.callee) (omega arith) q4 in
    r4.is ∙ simp append_assoc

pub times-written : (o : List ℕ) (p : ℕ) (f : Fields) {a b c d : List ℕ} → p + 160 ≤ length o → a ≡ splice o (p + 128) (bytes_of 8 f.last)
    → b ≡ splice a (p + 136) (bytes_of 8 f.entry) → c ≡ splice b (p + 144) (f.calleemethod ∷ 0 ∷ 0 ∷ 0 ∷ 0 ∷ 0 ∷ 0 ∷ 0 ∷ [])
    → d ≡ splice c (p + 152) (bytes_of 8 f.chat) → d ≡ splice o (p + 128) (times_of f)
unfolding times_of
times-written o p f {a} h q1 q2 q3 q4 =
    let r1 : Run o (p + 128) (bytes_of 8 f.last) 8 a = record { is = q1; long = length-bytes_of 8 f.last } in
    let r2 = further (bytes_of 8 f.entry) 8 r1 (omega arith) (length-bytes_of 8 f.entry) (omega arith) q2 in
    let r3 = further (f.calleemethod ∷ 0 ∷ 0 ∷ 0 ∷ 0 ∷ 0 ∷ 0 ∷ 0 ∷ []) 8 r2 (omega arith) refl (omega arith) q3 in
    let r4 = further (bytes_of 8 f.chat) 8 r3 (omega arith) (length-bytes_of 8 f.chat) (omega arith) q4 in
    r4.is ∙ simp append_assoc

pub numbers-written : (o : List ℕ) (p : ℕ) (f : Fields) {a b : List ℕ} → p + 160 ≤ length o → a ≡ splice o (p + 114) (counts_of f)
    → b ≡ splice a (p + 128) (times_of f) → b ≡ splice o (p + 114) (numbers_of f)
numbers-written o p f {a} h q1 q2 =
    let r1 : Run o (p + 114) (counts_of f) 14 a = record { is = q1; long = length-counts f } in
    let r2 = further (times_of f) 32 r1 (omega arith) (length-times f) (omega arith) q2 in
    r2.is

-- Whose a record is.

module _ (r s : List ℕ) where
  pub apart-first : get_or r 0 0 ≡ 0 → true ≡ apart r s
  unfolding apart
  apart-first e = simp (eq-eqb _ _ e)

  pub apart-second : (get_or r 0 0 ≡ 0 → ⊥) → get_or s 0 0 ≡ 0 → true ≡ apart r s
  unfolding apart
  apart-second ne e = simp (ne_eqb _ _ ne, eq-eqb _ _ e)

  pub apart-texts : {x y : List ℕ} {b : Bool} → (get_or r 0 0 ≡ 0 → ⊥) → (get_or s 0 0 ≡ 0 → ⊥) → x ≡ room_text 1 64 r → y ≡ room_text 1 64 s
      → b ≡ same x y → not b ≡ apart r s
  unfolding apart
  apart-texts ne nf e g q = ap not q ∙ simp (e, g, ne_eqb _ _ ne, ne_eqb _ _ nf)
