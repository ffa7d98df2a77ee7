-- What the rules with facts answer, one law for each way out of the code, and what their answers say. Assumes nothing.
use Prim.Native.Nat.{ℕ, ◌+◌, ◌≤◌, ◌<◌}
use Rattle.escapes.specs.Placing.{place_of}
use Rattle.escapes.specs.Rfc7159.{text}
use Rattle.fields.proofs.FieldLaws.{sequence-broken, address_broken}
use Rattle.fields.proofs.LetterLaws.{fault_first, fault_letter, fault_particular, its_letter, no-letter, one-letter}
use Rattle.values.proofs.SpelledLaws.{ruled-is}
use Rattle.values.proofs.ValueLaws.{text-is}
use Rattle.fields.specs.Field.{body_field, caller_field, fault_at, keeps, letter_at, letter_reach, live_field, locations_field, names_image, particulars_faults}
use Rattle.fields.specs.inner.Chain.{holds_particulars}
use Rattle.particulars.proofs.LowestLaws.{sound, unsound}
use Rattle.particulars.specs.Fields.{live_faults}
use Rattle.particulars.specs.Lowest.{is_sound, lowest}
use Rattle.rules.specs.Numbers.{content_location}
use Rattle.fields.specs.inner.Judging.{judged_value, cseq_of, party_of, via_of, status_in}
use Rattle.fields.specs.Trail.{trail_in, trail_of}
use Rattle.values.specs.Value.{is_string, spelling_of, text_of, freely, ruled}
use Rattle.fields.specs.Via.{via_rule}
use Rattle.std.specs.declared.result.Result.TheVariants.{Err, Ok}
use Rattle.std.specs.declared.result.Result.{Result}
use Rattle.fields.specs.declared.judging.Setting.{Setting}
use Rattle.fields.specs.declared.trails.Trail.{Trail}
use Rattle.json_text.specs.Places.{elements}
use Rattle.rules.proofs.PlainLaws.{Plain, address_plain, sequence-plain}
use Rattle.rules.specs.Address.{address_of, address_rule, parts_of}
use Rattle.rules.specs.Pieces.{decimal_at}
use Rattle.rules.specs.Sequence.{sequence_rule, sequence_of, cseq_number, cseq_method}
use Rattle.rules.specs.Status.{status_rule, status_of}
use Rattle.rules.specs.declared.addresses.Address.{Address}
use Rattle.rules.specs.declared.sequences.Sequence.{Sequence}
use Rattle.std.specs.Option.{ok_or}
use Rattle.std.specs.Prelude.{None, Option, Some}
use Rattle.std.specs.Result.{is_ok}
use borrow.Author.Tests.{eqb-true, ne_eqb}
use lib.Dec.{eqb}
use mathlib.Core.Bool.{Bool, true, false, ◌&&◌, ◌||◌, cond}
use mathlib.Core.List.{List, []}
use mathlib.Core.Path.{◌≡◌, refl, sym, ap, ◌∙◌}
use native.Mathlib.Decide.{dec_lt, ℕ_discrete}
use native.Mathlib.Omega.{arith}

-- a string, or not: what is left of a rule
module _ (rule : List ℕ → Bool) (p : Plain rule) (v w : List ℕ) {u : Bool} (is : w ≡ spelling_of v) (tested : u ≡ is_string v) where
  not-ruled : u ≡ false → ruled rule v ≡ false
  unfolding freely
  not-ruled e = ruled-is p v ∙ rw (sym tested ∙ e)

  by-rule : u ≡ true → ruled rule v ≡ rule (text w)
  unfolding freely
  by-rule e = ruled-is p v ∙ rw (sym tested ∙ e, text-is v is)

-- What a rule answers.

module _ {A : Type 0} (a : A) (p : ℕ) where
  told : (b : Bool) {x : A} → Ok x ≡ cond b (Ok a) (Err p) → (b ≡ true) × (x ≡ a)
  told true e = (refl, cc)
  told false e = (cc, cc)

  fault : (b : Bool) {q : ℕ} → Err q ≡ cond b (Ok a) (Err p) → (q ≡ p) × (b ≡ false)
  fault true e = (cc, cc)
  fault false e = (cc, refl)

  -- by what `rules` says of the text
  ok_of : (b : Bool) {x : A} → Some x ≡ cond b (Some a) None → ◌≡◌ {A = Result A ℕ} (Ok x) (cond b (Ok a) (Err p))
  ok_of true e = cc
  ok_of false e = cc

-- CSeq

module _ (v w : List ℕ) {u : Bool} (is : w ≡ spelling_of v) (tested : u ≡ is_string v) where
  pub cseq-untold : u ≡ false → Err 0 ≡ cseq_of v
  unfolding cseq_of
  cseq-untold e = rw (not-ruled sequence_rule sequence-plain v w is tested e) (ap Err (no-letter 1 v w is tested e))

  module _ (e : u ≡ true) where
    pub cseq-kept : {q : Sequence} → Some q ≡ sequence_of (text w) → Ok q ≡ cseq_of v
    unfolding cseq_of sequence_of
    cseq-kept f = rw (by-rule sequence_rule sequence-plain v w is tested e, ← (text-is v is)) (ok_of _ (letter_at 1 v) (sequence_rule (text w)) f)

    pub cseq-broken : {p : ℕ} → None ≡ sequence_of (text w) → p ≡ 1 + place_of w (letter_reach 1 (text w)) → Err p ≡ cseq_of v
    unfolding cseq_of
    cseq-broken f g =
        rw (by-rule sequence_rule sequence-plain v w is tested e, ← (sequence-broken (text w) f)) (ap Err (its_letter 1 v w is tested e g))

  -- To and From
  pub party_untold : u ≡ false → Err 0 ≡ party_of v
  unfolding party_of
  party_untold e = rw (not-ruled address_rule address_plain v w is tested e) (ap Err (no-letter 2 v w is tested e))

  module _ (e : u ≡ true) where
    pub party_kept : {a : Address} → Some a ≡ address_of (text w) → Ok a ≡ party_of v
    unfolding party_of address_of
    party_kept f = rw (by-rule address_rule address_plain v w is tested e, ← (text-is v is)) (ok_of _ (letter_at 2 v) (address_rule (text w)) f)

    pub party_broken : {p : ℕ} → None ≡ address_of (text w) → p ≡ 1 + place_of w (letter_reach 2 (text w)) → Err p ≡ party_of v
    unfolding party_of
    party_broken f g =
        rw (by-rule address_rule address_plain v w is tested e, ← (address_broken (text w) f)) (ap Err (its_letter 2 v w is tested e g))

-- Status of a response

module _ (v : List ℕ) where
  pub status-untold : is_string v ≡ false → Err 0 ≡ status_in v
  unfolding status_in freely
  status-untold e = rw e

  module _ (t : List ℕ) (e : is_string v ≡ true) (is : t ≡ text_of v) where
    pub code-told : {r : Option ℕ} → r ≡ status_of t → ok_or r 0 ≡ status_in v
    unfolding status_in freely status_of
    code-told f = rw (e, ← is, f) (by (status_rule t))
      where
        by : (b : Bool) → ok_or {E = ℕ} (cond b (Some (decimal_at 3 t 0)) None) 0 ≡ cond b (Ok (decimal_at 3 t 0)) (Err 0)
        by true = refl
        by false = refl

-- Via

pub via-broken : (v : List ℕ) → via_rule v ≡ false → Err 0 ≡ via_of v
unfolding via_of
via-broken v e = rw e

pub via-found : (v : List ℕ) → is_ok (via_of v) ≡ via_rule v
unfolding via_of
via-found v = go (via_rule v)
  where
    go : (b : Bool) → is_ok {E = ℕ} (cond b (Ok (trail_of v (elements v 0))) (Err 0)) ≡ b
    go true = refl
    go false = refl

pub via-kept : (v : List ℕ) {r : Trail} → (true ≡ via_rule v) × (r ≡ trail_in v) → Ok r ≡ via_of v
unfolding via_of trail_in
via-kept v (a, b) = rw (b, ← a)

no-particulars : (a b c : Bool) (x y z : List ℕ) → (a || (b || c)) ≡ false → cond a x (cond b y (cond c z [])) ≡ []
no-particulars true b c x y z e = absurd (let z : ◌≡◌ {A = Bool} true false = e in cc)
no-particulars false true c x y z e = absurd (let z : ◌≡◌ {A = Bool} true false = e in cc)
no-particulars false false true x y z e = absurd (let z : ◌≡◌ {A = Bool} true false = e in cc)
no-particulars false false false x y z e = refl

-- any field
module _ (k : Setting) (n : ℕ) (v : List ℕ) {b : Bool} (is : b ≡ keeps k n v) where
  pub judged-kept : b ≡ true → Ok tt ≡ judged_value k n v
  unfolding judged_value
  judged-kept e = rw (← is, e)

  -- broken at the bad letter of a string, from 4 to 5, and else at the first byte
  module _ (e : b ≡ false) (low : 3 < n) where
    pub judged-letter : {w : List ℕ} {p : ℕ} → n < 6 → is_string v ≡ true → w ≡ spelling_of v → p ≡ 1 + place_of w (letter_reach n (text w)) → Err p ≡ judged_value k n v
    unfolding judged_value
    judged-letter {w} h t f g = rw (← is, e) (ap Err (its_letter n v w f refl t g ∙ sym (fault_letter k n v (omega arith) (omega arith))))

    pub judged-first : (n < 6 → is_string v ≡ false) → holds_particulars k n ≡ false → Err 0 ≡ judged_value k n v
    unfolding judged_value holds_particulars particulars_faults
    judged-first t other = rw (← is, e) (ap Err (by (dec_lt n 6)))
      where
        by : Dec (n < 6) → 0 ≡ fault_at k n v
        by (no h) = sym (fault_first k n v (omega arith) (no-particulars (eqb n 21) (eqb n 23) (eqb n 10 && eqb k.content content_location) _ _ _ other))
        by (yes h) = no-letter n v (spelling_of v) refl refl (t h) ∙ sym (fault_letter k n v (omega arith) (omega arith))

-- a field that has to hold particulars
particulars-keep : (k : Setting) (n : ℕ) (v : List ℕ) → holds_particulars k n ≡ true → keeps k n v ≡ is_sound (particulars_faults k n v)
unfolding holds_particulars keeps particulars_faults locations_field caller_field live_field body_field names_image
particulars-keep k n v h = by (ℕ_discrete n 21) (ℕ_discrete n 23) (ℕ_discrete n 10)
  where
    by : Dec (n ≡ 21) → Dec (n ≡ 23) → Dec (n ≡ 10) → keeps k n v ≡ is_sound (particulars_faults k n v)
    by (yes e) b c = rw e
    by (no a) (yes e) c = rw e
    by (no a) (no b) (yes e) =
        let z : eqb k.content content_location ≡ true = rw e at h in
        rw (e, eqb-true k.content content_location z)
    by (no a) (no b) (no c) = absurd (let z : ◌≡◌ {A = Bool} false true = rw (ne_eqb n 21 a, ne_eqb n 23 b, ne_eqb n 10 c) at h in cc)

pub live-particulars : (k : Setting) (n : ℕ) (v : List ℕ) → holds_particulars k n ≡ true → (n ≡ 21 → ⊥) → (n ≡ 23 → ⊥) → lowest (live_faults v) ≡ lowest (particulars_faults k n v)
unfolding holds_particulars particulars_faults
live-particulars k n v h a b =
    let z : (eqb n 10 && eqb k.content content_location) ≡ true = rw (ne_eqb n 21 a, ne_eqb n 23 b) at h in
    rw (ne_eqb n 21 a, ne_eqb n 23 b, z)

particulars-late : (k : Setting) (n : ℕ) → holds_particulars k n ≡ true → 5 < n
unfolding holds_particulars
particulars-late k n h = by (dec_lt 5 n)
  where
    by : Dec (5 < n) → 5 < n
    by (yes g) = g
    by (no g) = absurd (let z : ◌≡◌ {A = Bool} false true =
        rw (ne_eqb n 21 (λ e. omega arith), ne_eqb n 23 (λ e. omega arith), ne_eqb n 10 (λ e. omega arith)) at h in cc)

module _ (k : Setting) (n : ℕ) (v : List ℕ) (h : holds_particulars k n ≡ true) where
  pub judged-sound : None ≡ lowest (particulars_faults k n v) → Ok tt ≡ judged_value k n v
  unfolding judged_value
  judged-sound e = rw (particulars-keep k n v h, sound (particulars_faults k n v) e)

  pub judged-unsound : {p : ℕ} → Some p ≡ lowest (particulars_faults k n v) → Err p ≡ judged_value k n v
  unfolding judged_value
  judged-unsound e =
      let u = unsound (particulars_faults k n v) e in
      rw (particulars-keep k n v h, u.0) (ap Err (u.1 ∙ sym (fault_particular k n v (particulars-late k n h))))

-- What an answer says: broken, and where, or kept with its facts.

module _ (v : List ℕ) where
  pub cseq_fault : (k : Setting) {p : ℕ} → Err p ≡ cseq_of v → (p ≡ fault_at k 1 v) × (ruled sequence_rule v ≡ false)
  unfolding cseq_of
  cseq_fault k e = let q = fault _ _ (ruled sequence_rule v) e in (q.0 ∙ sym (fault_letter k 1 v (omega arith) (omega arith)), q.1)

  pub cseq-tells : {x : Sequence} → Ok x ≡ cseq_of v → (ruled sequence_rule v ≡ true) × ((x.number ≡ cseq_number (text_of v)) × (x.method ≡ cseq_method (text_of v)))
  unfolding cseq_of
  cseq-tells e = let q = told _ _ (ruled sequence_rule v) e in (q.0, (rw q.1, rw q.1))

  pub party_fault : (k : Setting) (n : ℕ) → 2 ≤ n → n ≤ 3 → {p : ℕ} → Err p ≡ party_of v → (p ≡ fault_at k n v) × (ruled address_rule v ≡ false)
  unfolding party_of
  party_fault k n low high e =
      let q = fault _ _ (ruled address_rule v) e in
      (q.0 ∙ sym (fault_letter k n v (omega arith) (omega arith) ∙ one-letter n v low high), q.1)

  pub party_tells : {a : Address} → Ok a ≡ party_of v → (ruled address_rule v ≡ true) × (a ≡ parts_of (text_of v))
  unfolding party_of
  party_tells e = told _ _ (ruled address_rule v) e

  pub status_fault : {p : ℕ} → Err p ≡ status_in v → (p ≡ 0) × (freely status_rule v ≡ false)
  unfolding status_in
  status_fault e = fault _ _ (freely status_rule v) e

  pub status-tells : {n : ℕ} → Ok n ≡ status_in v → (freely status_rule v ≡ true) × (n ≡ decimal_at 3 (text_of v) 0)
  unfolding status_in
  status-tells e = told _ _ (freely status_rule v) e

  pub via_fault : {p : ℕ} → Err p ≡ via_of v → (p ≡ 0) × (via_rule v ≡ false)
  unfolding via_of
  via_fault e = fault _ _ (via_rule v) e

  pub via-tells : {r : Trail} → Ok r ≡ via_of v → (via_rule v ≡ true) × (r ≡ trail_in v)
  unfolding via_of trail_in
  via-tells e = let q = told _ _ (via_rule v) e in (q.0, rw q.0 q.1)

  module _ (k : Setting) (n : ℕ) where
    pub judged_fault : {p : ℕ} → Err p ≡ judged_value k n v → (p ≡ fault_at k n v) × (keeps k n v ≡ false)
    unfolding judged_value
    judged_fault e = fault _ _ (keeps k n v) e

    pub judged-tells : Ok tt ≡ judged_value k n v → keeps k n v ≡ true
    unfolding judged_value
    judged-tells e = (told _ _ (keeps k n v) e).0
