-- Row 9 on the fields that a request or a response must have: each kept field passes it on, a broken one ends it; and what each tells. Assumes nothing.
use Rattle.std.specs.declared.result.Result.TheVariants.{Ok}
use Prim.Native.Nat.{ℕ, zero, suc, ◌+◌, ◌≤◌, ◌<◌}
use Rattle.fields.proofs.JudgingLaws.{cseq-tells, party_tells, status_fault, status-tells, via_fault, via-tells}
use Rattle.fields.proofs.LetterLaws.{fault_early}
use Rattle.fields.specs.Field.{fault_at, keeps, status_field}
use Rattle.fields.specs.inner.Judging.{cseq_of, party_of, status_in, via_of}
use Rattle.values.specs.Spans.{text_at}
use Rattle.fields.specs.Trail.{trail_in}
use Rattle.values.proofs.ValueLaws.{free-text, ruled-text}
use Rattle.values.specs.Value.{freely}
use Rattle.rules.specs.declared.sequences.Sequence.{Sequence}
use Rattle.std.specs.Prelude.{Some, Result, Ok, Err}
use Rattle.fields.specs.declared.judging.Setting.{Setting}
use Rattle.fields.specs.declared.trails.Trail.{Trail}
use Rattle.json_text.specs.Places.{bytes}
use Rattle.message.proofs.CheckLaws.{fault_there, fits, lowest-none, passes, stops, unkept}
use Rattle.message.specs.Checks.{asks, breaks, lacks, lowest, missing}
use Rattle.message.specs.Message.{code_of, field_text, method_of, number_of, first_setting}
use Rattle.message.specs.declared.refusals.Refusal.TheVariants.{Rule}
use Rattle.message.specs.declared.envelopes.Opening.{Opening}
use Rattle.message.specs.declared.refusals.Refusal.{Refusal}
use Rattle.message.specs.inner.Facts.{Asked, Fits, FactsOf, OpeningSays, SentSays, ToldSays, faulty, nine_from, placed}
use Rattle.rules.specs.Address.{address_of, address_rule}
use Rattle.rules.specs.Asks.{is_in, tag_asks}
use Rattle.rules.specs.Sequence.{sequence_of, sequence_rule}
use Rattle.rules.specs.Status.{status_of, status_rule}
use Rattle.rules.specs.declared.addresses.Address.{Address}
use borrow.Author.Tests.{eq-eqb, eqb-false, lt-ltb, ne_eqb}
use lib.Dec.{eqb, ltb}
use lib.ListN.{get_or, length}
use mathlib.Core.Bool.{true, false, and-false}
use mathlib.Core.List.{List}
use mathlib.Core.Path.{◌≡◌, refl, subst, sym, ap, ◌∙◌}
use native.Mathlib.Omega.{arith}

-- One field, whose value is v.
module _ (s : List ℕ) (k : Setting) (t : List ℕ) (n : ℕ) (low : 0 < n) (high : n < 27) {v : List ℕ} (is : v ≡ bytes s (get_or t n 0)) where
  pub passing : keeps k n v ≡ true → nine_from s true k t n ≡ nine_from s true k t (n + 1)
  unfolding breaks
  passing e = passes s true k t n high (rw (← is, e, and-false (ltb 0 (get_or t n 0))) (and-false (ltb 0 (asks true k n))))

  pub stopping : {p r : ℕ} → breaks s true k t n ≡ faulty s k t n → keeps k n v ≡ false → p ≡ fault_at k n v → r ≡ get_or t n 0 + p → nine_from s true k t n ≡ Err (Rule r)
  stopping a e z w = stops s true k t n high low (z ∙ ap (fault_at k n) is) w (a ∙ rw (← is, e))

  -- by what its rule says, whose faults are these
  module _ {A : Type 0} (said : Result A ℕ) (faults : (p : ℕ) → Err p ≡ said → (p ≡ fault_at k n v) × (keeps k n v ≡ false)) where
    pub inside : length s < 0x10000000000000000 → Fits (get_or t n 0) said
    inside short = fits (get_or t n 0) said (λ p e h. omega (arith, fault_there s k n (get_or t n 0) is (faults p e).0 h))

    pub refusing : {e : Refusal} → Err e ≡ placed (get_or t n 0) said → breaks s true k t n ≡ faulty s k t n → nine_from s true k t n ≡ Err e
    refusing e a = let u = unkept (get_or t n 0) said e in let f = faults u.0 u.1.0 in stopping a f.1 f.0 refl ∙ ap Err (sym u.1.1)

-- What the fields tell.
module _ (s : List ℕ) (t : List ℕ) where
  module _ {v : List ℕ} (is : v ≡ bytes s (get_or t 1 0)) {x : Sequence} (e : Ok x ≡ cseq_of v) where
    pub number-told : x.number ≡ number_of s t
    unfolding number_of text_at sequence_of
    number-told = let a = cseq-tells v e in a.1.0 ∙ rw (← is, ruled-text sequence_rule v a.0)

    pub method-told : x.method ≡ method_of s t
    unfolding method_of text_at sequence_of
    method-told = let a = cseq-tells v e in a.1.1 ∙ rw (← is, ruled-text sequence_rule v a.0)

  pub party_told : (n : ℕ) {v : List ℕ} → v ≡ bytes s (get_or t n 0) → {a : Address} → Ok a ≡ party_of v → Some a ≡ address_of (field_text s t n)
  unfolding text_at address_of
  party_told n {v} is e = let a = party_tells v e in rw (← is, ruled-text address_rule v a.0) (ap Some a.1)

  pub trail-told : {v : List ℕ} → v ≡ bytes s (get_or t 6 0) → {r : Trail} → Ok r ≡ via_of v → r ≡ trail_in (bytes s (get_or t 6 0))
  trail-told {v} is e = (via-tells v e).1 ∙ ap trail_in is

  pub code-told : {tag : ℕ} → tag ≡ 2 → {v : List ℕ} → v ≡ bytes s (get_or t 7 0) → {c : ℕ} → Ok c ≡ status_in v → c ≡ code_of s tag (get_or t 7 0)
  unfolding code_of text_at status_of
  code-told two {v} is e = let a = status-tells v e in a.1 ∙ rw (two, ← is, free-text status_rule v a.0)

  pub no_code : {tag : ℕ} → (tag ≡ 2 → ⊥) → 0 ≡ code_of s tag (get_or t 7 0)
  unfolding code_of
  no_code {tag} ne = rw (ne_eqb tag 2 ne)

-- What a request and a response ask for.
module _ (s t : List ℕ) where
  there : (k : Setting) (n : ℕ) → 1 ≤ n → n < 27 → missing true k t ≡ 0 → asks true k n ≡ 1 → breaks s true k t n ≡ faulty s k t n
  unfolding lacks breaks
  there k n low high none a =
      let l = lowest-none (lacks true k t) 26 1 n (omega arith) none low (omega arith) in
      let e : eqb (get_or t n 0) 0 ≡ false = rw a at l in
      let some : 0 < get_or t n 0 = let ne = eqb-false (get_or t n 0) 0 e in omega arith in
      rw (a, lt-ltb 0 (get_or t n 0) some)

  request-asks : missing true (first_setting 1) t ≡ 0 → Asked s 1 t
  unfolding nine_from lowest breaks tag_asks is_in
  request-asks none =
      record {
        one = there (first_setting 1) 1 (omega arith) (omega arith) none refl;
        two = there (first_setting 1) 2 (omega arith) (omega arith) none refl;
        three = there (first_setting 1) 3 (omega arith) (omega arith) none refl;
        four = there (first_setting 1) 4 (omega arith) (omega arith) none refl;
        five = there (first_setting 1) 5 (omega arith) (omega arith) none refl;
        six = there (first_setting 1) 6 (omega arith) (omega arith) none refl;
        seven = refl;
        others = refl;
      }

  response-asks : missing true (first_setting 2) t ≡ 0 → Asked s 2 t
  unfolding nine_from lowest breaks tag_asks is_in
  response-asks none =
      record {
        one = there (first_setting 2) 1 (omega arith) (omega arith) none refl;
        two = there (first_setting 2) 2 (omega arith) (omega arith) none refl;
        three = there (first_setting 2) 3 (omega arith) (omega arith) none refl;
        four = there (first_setting 2) 4 (omega arith) (omega arith) none refl;
        five = there (first_setting 2) 5 (omega arith) (omega arith) none refl;
        six = there (first_setting 2) 6 (omega arith) (omega arith) none refl;
        seven = there (first_setting 2) 7 (omega arith) (omega arith) none refl;
        others = refl;
      }

  pub asked : (tag : ℕ) → 0 < tag → tag ≤ 2 → missing true (first_setting tag) t ≡ 0 → Asked s tag t
  asked zero low high none = absurd (omega arith)
  asked (suc zero) low high none = request-asks none
  asked (suc (suc zero)) low high none = response-asks none
  asked (suc (suc (suc n))) low high none = absurd (omega arith)

pub via-faults : (tag : ℕ) (v : List ℕ) {said : Result Trail ℕ} → said ≡ via_of v → (p : ℕ) → Err p ≡ said
    → (p ≡ fault_at (first_setting tag) 6 v) × (keeps (first_setting tag) 6 v ≡ false)
unfolding keeps
via-faults tag v e p f = let g = via_fault v (f ∙ e) in (g.0 ∙ sym (fault_early (first_setting tag) 6 v (omega arith) (omega arith)), g.1)

-- Field 6, the last of three, whose rule says what they tell.
module _ (s t : List ℕ) {tag : ℕ} (a : Asked s tag t) (so-far : nine_from s true (first_setting tag) t 4 ≡ nine_from s true (first_setting tag) t 6)
    {v : List ℕ} (is : v ≡ bytes s (get_or t 6 0)) where
  pub sent : (said : Result Trail ℕ) → said ≡ via_of v → {r : Result Trail Refusal} → r ≡ placed (get_or t 6 0) said → SentSays s tag t r
  unfolding keeps
  sent (Ok c) e f =
      subst (SentSays s tag t) (sym f)
      (so-far ∙ passing s (first_setting tag) t 6 (omega arith) (omega arith) is (via-tells v e).0, trail-told s t is e)
  sent (Err p) e f =
      subst (SentSays s tag t) (sym f)
      (so-far ∙ refusing s (first_setting tag) t 6 (omega arith) (omega arith) is (Err p) (via-faults tag v e) refl a.six)

-- Field 7: of a response.
module _ (s t : List ℕ) {tag : ℕ} (a : Asked s tag t) where
  pub untold : (tag ≡ 2 → ⊥) → nine_from s true (first_setting tag) t 7 ≡ Ok tt
  untold ne = passes s true (first_setting tag) t 7 (omega arith) (a.seven ∙ rw (ne_eqb tag 2 ne)) ∙ a.others

  module _ (two : tag ≡ 2) {v : List ℕ} (is : v ≡ bytes s (get_or t 7 0)) where
    by-status : keeps (first_setting tag) 7 v ≡ freely status_rule v
    unfolding keeps status_field
    by-status = rw two

    pub told : (said : Result ℕ ℕ) → said ≡ status_in v → {r : Result ℕ Refusal} → r ≡ placed (get_or t 7 0) said → ToldSays s tag t r
    told (Ok c) e f =
        subst (ToldSays s tag t) (sym f) (
          passing s (first_setting tag) t 7 (omega arith) (omega arith) is (by-status ∙ (status-tells v e).0) ∙ a.others,
          code-told s t two is e,
        )
    told (Err p) e f =
        let b = status_fault v e in
        subst (ToldSays s tag t) (sym f)
        (stopping s (first_setting tag) t 7 (omega arith) (omega arith) is (a.seven ∙ rw (eq-eqb tag 2 two)) (by-status ∙ b.1)
        (b.0 ∙ sym (fault_early (first_setting tag) 7 v (omega arith) (omega arith))) refl)

-- All of them, by what the three parts say.
module _ (s t : List ℕ) (tag : ℕ) {o : Opening} (opened : OpeningSays s tag t (Ok o)) where
  pub second_fault : {e : Refusal} → SentSays s tag t (Err e) → nine_from s true (first_setting tag) t 1 ≡ Err e
  second_fault g = opened.0 ∙ g

  module _ {trail : Trail} (traced : SentSays s tag t (Ok trail)) where
    pub third_fault : {e : Refusal} → ToldSays s tag t (Err e) → nine_from s true (first_setting tag) t 1 ≡ Err e
    third_fault g = opened.0 ∙ traced.0 ∙ g

    pub all_told : {code : ℕ} → ToldSays s tag t (Ok code)
        → (nine_from s true (first_setting tag) t 1 ≡ Ok tt)
        × FactsOf s tag t (record { number = o.number; method = o.method; to = o.to; from = o.from; trail = trail; code = code })
    all_told g = (
      opened.0 ∙ traced.0 ∙ g.0,
      record {
        numbered = opened.1.0;
        methodic = opened.1.1.0;
        meant = opened.1.1.1.0;
        sent = opened.1.1.1.1;
        trailed = traced.1;
        coded = g.1;
      },
    )
