-- THEOREMS on replies: what `reply` writes is accepted by the reading as a response with the status code given; its members are the seven of document 01,
-- in its order, with the Date given and CSeq, To, From, Call-ID and Via byte for byte the request's. And where nothing is refused, the reply to a
-- forwarded request, less our entry, is the reply to the original. Over the public contracts of `reply`, `add` and `remove`. Assumes nothing.
use Rattle.std.proofs.Common.{Ok}
use Prim.Native.Nat.{ℕ, zero, suc, ◌≤◌, ◌<◌}
use Rattle.escapes.specs.Rfc7159 as strings
use Rattle.escapes.specs.Rfc7159.{is_broken, letter_of, letters_from, lone, spelt, took}
use Rattle.frame.proofs.Forwarding.{copied_elements, copied_undone}
use Rattle.frame.proofs.Standing.{Piece}
use Rattle.frame.proofs.Written.{in_quotes}
use Rattle.frame.specs.Edit.{added, removed}
use Rattle.json_text.proofs.Listing.{read_all}
use Rattle.json_text.specs.Places.{bytes, value_of, members, elements}
use Rattle.message.specs.Checks.{lacks, breaks}
use Rattle.fields.specs.Field.{status_field, keeps}
use Rattle.fields.specs.Known.{empty, noted}
use Rattle.message.specs.Message.{method_of, number_of, from_caller, to_caller, code_of, setting_of, sides_disagree, response_disagrees, disagrees, message_of, first_setting}
use Rattle.values.specs.Spans.{text_at}
use Rattle.message.specs.Reading.{ample, reading}
use Rattle.message.specs.Shape.{object_of}
use Rattle.values.specs.Value.{is_string, text_of, freely, ruled, word_spelled}
use Rattle.message.specs.declared.facts.Message.{Message}
use Rattle.std.specs.Prelude.{Ok}
use Rattle.octets.specs.Ascii.{ascii}
use Rattle.octets.specs.Class.{all}
use Rattle.octets.specs.Text.{same}
use Rattle.octets.proofs.TestLaws.{or-none}
use Rattle.rules.specs.Date.{date_rule}
use Rattle.rules.specs.Asks.{is_in, tag_asks}
use Rattle.rules.specs.Names.{fields}
use Rattle.rules.specs.Pieces.{word_number_from}
use Rattle.rules.specs.Status.{listed, status_text, status_rule}
use Rattle.utf8.proofs.Join.{join, ascii-good}
use Rattle.utf8.specs.Rfc3629.{verdict}
use Rattle.message.proofs.AcceptedRows.{Accepted, Sound, accepted-read, read_taken, same-message, sound-good}
use Rattle.message.proofs.AcceptedVia.{via-keeps}
use Rattle.writing.proofs.EntryLaws.{quoted-text, quoted-ruled, entry-piece}
use Rattle.writing.proofs.ForwardLaws.{kept-via, opens, via-some, stand}
use Rattle.writing.proofs.ForwardTheorems.{SameValues, forwarded_by, took-wrote}
use Rattle.message.proofs.MemberLaws.{fields-few, shape, via_where, members_of}
use Rattle.writing.proofs.StandingLaws.{via-member}
use Rattle.writing.proofs.ObjectLaws.{all_open}
use Rattle.writing.proofs.OutcomeLaws.{stood, Replied, was_replied, was-added, was-taken, written-front}
use Rattle.message.proofs.PairLaws.{found, value_in, doubled, Nth, nth-one, late-members, by-once, noted-by, where_is}
use Rattle.escapes.proofs.PlainLaws.{plain-ascii}
use Rattle.rules.proofs.PlainLaws.{date-plain}
use Rattle.writing.proofs.PutLaws.{reply-long}
use Rattle.writing.proofs.ReplyLaws.{copied_rule, status₇, rest₇, Shown, reply-shape, reply_ahead, reply-split, ahead-long, text-field, Copied, copied_text, copied_via}
use Rattle.writing.proofs.WordLaws.{plain-plainly, status-plain, status-kept, status-code}
use Rattle.writing.specs.Adding.{entry, adding}
use Rattle.writing.specs.Outcome.{write, Writes}
use Rattle.writing.specs.Removing.{removing, host_in, Took}
use Rattle.writing.specs.Reply.{reply_text, reply_of, wrong_code, replying}
use Rattle.writing.specs.Objects.{objects}
use Rattle.writing.specs.declared.answers.Taken.{Taken}
use borrow.Author.Tests.{ne_eqb, ltb-true, ltb-false, not-false}
use lib.Dec.{eqb, ltb}
use lib.ListN.{length, get_or, take}
use mathlib.Core.Bool.{Bool, true, false, not, ◌&&◌, and-false}
use mathlib.Core.List.{List, [], ◌∷◌, ◌++◌}
use mathlib.Core.Logic.{inl, inr}
use mathlib.Core.Path.{◌≡◌, refl, sym, ap, subst, ◌∙◌}
use native.Mathlib.Omega.{arith}

-- the members of the reply to s, read as m
abbrev pub seven_of : List ℕ → Message → ℕ → List ℕ → List (List ℕ × List ℕ)
seven_of s m code date =
    (ascii "Status", in_quotes (status_text code))
    ∷ (ascii "CSeq", bytes s m.cseq)
    ∷ (ascii "To", bytes s m.to)
    ∷ (ascii "From", bytes s m.from)
    ∷ (ascii "Call-ID", bytes s m.call)
    ∷ (ascii "Date", in_quotes date)
    ∷ (ascii "Via", bytes s m.via)
    ∷ []

-- w is the reply to the request s, read as m, and is read back
pub record ReadBack (s : List ℕ) (m : Message) (code : ℕ) (date w : List ℕ) : Type 0 where
  pub message : Message
  pub read : reading ample w ≡ Ok message
  pub response : message.tag ≡ 2
  pub status : message.status ≡ code
  pub method : message.method ≡ m.method
  pub number : message.number ≡ m.number
  pub caller : message.caller ≡ m.caller
  pub values : SameValues s m w message
  pub via : bytes w message.via ≡ bytes s m.via
  pub objects : objects w message.via ≡ objects s m.via
  pub seven : members_of w ≡ seven_of s m code date
  pub place : message.via ≡ length (reply_ahead (status_text code) (bytes s m.cseq) (bytes s m.to) (bytes s m.from) (bytes s m.call) date)

-- what no response is asked for
none-asked : (n : ℕ) → 8 ≤ n → tag_asks 2 n ≡ 0
unfolding tag_asks is_in
none-asked n h =
    rw (
      ne_eqb n 1 (λ e. omega arith),
      ne_eqb n 2 (λ e. omega arith),
      ne_eqb n 3 (λ e. omega arith),
      ne_eqb n 4 (λ e. omega arith),
      ne_eqb n 5 (λ e. omega arith),
      ne_eqb n 6 (λ e. omega arith),
      ne_eqb n 7 (λ e. omega arith),
    )

by-seven : (P : ℕ → Type 0) → P 1 → P 2 → P 3 → P 4 → P 5 → P 6 → P 7 → (n : ℕ) → 1 ≤ n → n ≤ 7 → P n
by-seven P a b c d e f g zero h i = absurd (omega arith)
by-seven P a b c d e f g (suc zero) h i = a
by-seven P a b c d e f g (suc (suc zero)) h i = b
by-seven P a b c d e f g (suc (suc (suc zero))) h i = c
by-seven P a b c d e f g (suc (suc (suc (suc zero)))) h i = d
by-seven P a b c d e f g (suc (suc (suc (suc (suc zero))))) h i = e
by-seven P a b c d e f g (suc (suc (suc (suc (suc (suc zero)))))) h i = f
by-seven P a b c d e f g (suc (suc (suc (suc (suc (suc (suc zero))))))) h i = g
by-seven P a b c d e f g (suc (suc (suc (suc (suc (suc (suc (suc n)))))))) h i = absurd (omega arith)

-- the status field of a response
status-field : (v : List ℕ) → keeps (first_setting 2) 7 v ≡ freely status_rule v
unfolding keeps status_field
status-field v = refl

date-field : (v : List ℕ) → keeps (first_setting 2) 4 v ≡ ruled date_rule v
unfolding keeps
date-field v = refl

module _ {s t : List ℕ} (a : Accepted s 1 t) (code : ℕ) (date : List ℕ) (ok : listed code ≡ true) (day : date_rule date ≡ true) where
  abbrev v₁ : List ℕ
  v₁ = bytes s (get_or t 1 0)

  abbrev v₂ : List ℕ
  v₂ = bytes s (get_or t 2 0)

  abbrev v₃ : List ℕ
  v₃ = bytes s (get_or t 3 0)

  abbrev v₅ : List ℕ
  v₅ = bytes s (get_or t 5 0)

  abbrev v₆ : List ℕ
  v₆ = bytes s (get_or t 6 0)

  abbrev text : List ℕ
  text = reply_text (status_text code) v₁ v₂ v₃ v₅ date v₆

  c₁ : Copied v₁ × (ruled (copied_rule 1) v₁ ≡ true)
  c₁ = copied_text a 1 (omega arith) (omega arith) (inl refl)

  c₂ : Copied v₂ × (ruled (copied_rule 2) v₂ ≡ true)
  c₂ = copied_text a 2 (omega arith) (omega arith) (inr (inl refl))

  c₃ : Copied v₃ × (ruled (copied_rule 3) v₃ ≡ true)
  c₃ = copied_text a 3 (omega arith) (omega arith) (inr (inr (inl refl)))

  c₅ : Copied v₅ × (ruled (copied_rule 5) v₅ ≡ true)
  c₅ = copied_text a 5 (omega arith) (omega arith) (inr (inr (inr refl)))

  c₆ : Copied v₆
  c₆ = copied_via a

  unfoldable shown : Shown text (status_text code) v₁ v₂ v₃ v₅ date v₆
  shown =
      reply-shape (status_text code) v₁ v₂ v₃ v₅ date v₆ (plain-plainly (status_text code) (status-plain code)) c₁.0.piece c₂.0.piece c₃.0.piece c₅.0.piece
      (plain-plainly date (date-plain.plain date day)) c₆.piece

  abbrev seven₀ : List (List ℕ × List ℕ)
  seven₀ = read_all (status₇ (status_text code) v₁ v₂ v₃ v₅ date v₆ ∷ rest₇ (status_text code) v₁ v₂ v₃ v₅ date v₆)

  once₀ : doubled fields seven₀ ≡ false
  unfolding doubled found word_spelled is_broken lone strings.text spelt letters_from letter_of took word_number_from same
  once₀ = refl

  once : doubled fields (members_of text) ≡ false
  once = ap (doubled fields) shown.read ∙ once₀

  abbrev places : List ℕ
  places = noted fields text empty (members text (object_of text))

  value-at : (n : ℕ) → 1 ≤ n → found fields n seven₀ ≡ true → (0 < get_or places n 0) × (bytes text (get_or places n 0) ≡ value_in fields n seven₀)
  value-at n h f =
      let r = noted-by fields fields-few text (members text (object_of text)) n (late-members text (object_of text)) h once (ap (found fields n) shown.read ∙ f) in
      (r.0, r.1 ∙ ap (value_in fields n) shown.read)

  found₀ : (n : ℕ) → 1 ≤ n → n ≤ 7 → found fields n seven₀ ≡ true
  unfolding found word_spelled is_broken lone strings.text spelt letters_from letter_of took word_number_from same
  found₀ = by-seven (λ n. found fields n seven₀ ≡ true) refl refl refl refl refl refl refl

  value₁ : bytes text (get_or places 1 0) ≡ v₁
  unfolding value_in word_spelled is_broken lone strings.text spelt letters_from letter_of took word_number_from same
  value₁ = (value-at 1 (omega arith) (found₀ 1 (omega arith) (omega arith))).1

  value₂ : bytes text (get_or places 2 0) ≡ v₂
  unfolding value_in word_spelled is_broken lone strings.text spelt letters_from letter_of took word_number_from same
  value₂ = (value-at 2 (omega arith) (found₀ 2 (omega arith) (omega arith))).1

  value₃ : bytes text (get_or places 3 0) ≡ v₃
  unfolding value_in word_spelled is_broken lone strings.text spelt letters_from letter_of took word_number_from same
  value₃ = (value-at 3 (omega arith) (found₀ 3 (omega arith) (omega arith))).1

  value₄ : bytes text (get_or places 4 0) ≡ in_quotes date
  unfolding value_in word_spelled is_broken lone strings.text spelt letters_from letter_of took word_number_from same
  value₄ = (value-at 4 (omega arith) (found₀ 4 (omega arith) (omega arith))).1

  value₅ : bytes text (get_or places 5 0) ≡ v₅
  unfolding value_in word_spelled is_broken lone strings.text spelt letters_from letter_of took word_number_from same
  value₅ = (value-at 5 (omega arith) (found₀ 5 (omega arith) (omega arith))).1

  value₆ : bytes text (get_or places 6 0) ≡ v₆
  unfolding value_in word_spelled is_broken lone strings.text spelt letters_from letter_of took word_number_from same
  value₆ = (value-at 6 (omega arith) (found₀ 6 (omega arith) (omega arith))).1

  value₇ : bytes text (get_or places 7 0) ≡ in_quotes (status_text code)
  unfolding value_in word_spelled is_broken lone strings.text spelt letters_from letter_of took word_number_from same
  value₇ = (value-at 7 (omega arith) (found₀ 7 (omega arith) (omega arith))).1

  status-text : text_of (in_quotes (status_text code)) ≡ status_text code
  status-text = quoted-text (status_text code) (status-plain code)

  kept₇ : freely status_rule (in_quotes (status_text code)) ≡ true
  unfolding freely is_string
  kept₇ = rw status-text (status-kept code ok)

  kept : (n : ℕ) → 1 ≤ n → n ≤ 7 → keeps (first_setting 2) n (bytes text (get_or places n 0)) ≡ true
  kept =
      by-seven (λ n. keeps (first_setting 2) n (bytes text (get_or places n 0)) ≡ true)
      (rw value₁ (text-field (first_setting 2) 1 v₁ (inl refl) ∙ c₁.1))
      (rw value₂ (text-field (first_setting 2) 2 v₂ (inr (inl refl)) ∙ c₂.1))
      (rw value₃ (text-field (first_setting 2) 3 v₃ (inr (inr (inl refl))) ∙ c₃.1))
      (rw value₄ (date-field (in_quotes date) ∙ quoted-ruled date_rule date (date-plain.plain date day) day))
      (rw value₅ (text-field (first_setting 2) 5 v₅ (inr (inr (inr refl))) ∙ c₅.1))
      (rw value₆ (via-keeps (first_setting 2) v₆ ∙ kept-via a))
      (rw value₇ (status-field (in_quotes (status_text code)) ∙ kept₇))

  lacks-none : (n : ℕ) → 1 ≤ n → (b : Bool) → ltb n 8 ≡ b → lacks true (first_setting 2) places n ≡ false
  unfolding lacks
  lacks-none n h true e = rw (ne_eqb (get_or places n 0) 0 (λ z. omega (arith, (value-at n h (found₀ n h (omega (arith, ltb-true n 8 e)))).0))) (and-false (eqb (tag_asks 2 n) 1))
  lacks-none n h false e = rw (none-asked n (ltb-false n 8 e))

  breaks-none : (n : ℕ) → 1 ≤ n → (b : Bool) → ltb n 8 ≡ b → breaks text true (first_setting 2) places n ≡ false
  unfolding breaks
  breaks-none n h true e = rw (kept n h (omega (arith, ltb-true n 8 e)), and-false (ltb 0 (get_or places n 0))) (and-false (ltb 0 (tag_asks 2 n)))
  breaks-none n h false e = rw (none-asked n (ltb-false n 8 e))

  sound : Sound text true (first_setting 2) places
  sound = record { there = λ n l g. lacks-none n l (ltb n 8) refl; kept = λ n l g. breaks-none n l (ltb n 8) refl }

  -- the facts are the request's, and the code the one given
  method-same : method_of text places ≡ method_of s t
  unfolding method_of text_at
  method-same = rw value₁

  number_same : number_of text places ≡ number_of s t
  unfolding number_of text_at
  number_same = rw value₁

  from-same : from_caller text places ≡ from_caller s t
  unfolding from_caller text_at
  from-same = rw value₃

  to_same : to_caller text places ≡ to_caller s t
  unfolding to_caller text_at
  to_same = rw value₂

  code_is : code_of text 2 (get_or places 7 0) ≡ code
  unfolding code_of text_at
  code_is = rw (value₇, status-text, status-code code ok)

  sides-agree : sides_disagree (method_of s t) (number_of s t) (from_caller s t) (to_caller s t) ≡ false
  unfolding disagrees setting_of
  sides-agree = (or-none (sides_disagree (method_of s t) (number_of s t) (from_caller s t) (to_caller s t)) _ a.agrees).0

  module _ (fit : response_disagrees code (method_of s t) ≡ false) (short : length text ≤ 32768) where
    agree : disagrees text (setting_of text 2 places) places ≡ false
    unfolding disagrees setting_of
    agree = rw (method-same, number_same, from-same, to_same, code_is, sides-agree, fit)

    good : verdict text ≡ Ok tt
    unfolding reply_text all
    good =
        join (ascii "[\"response\",{\"Status\":\"") _ (ascii-good _ refl)
        (join (status_text code) _ (ascii-good _ (plain-ascii (status_text code) (status-plain code)))
        (join (ascii "\",\"CSeq\":") _ (ascii-good _ refl)
        (join v₁ _ c₁.0.utf
        (join (ascii ",\"To\":") _ (ascii-good _ refl)
        (join v₂ _ c₂.0.utf
        (join (ascii ",\"From\":") _ (ascii-good _ refl)
        (join v₃ _ c₃.0.utf
        (join (ascii ",\"Call-ID\":") _ (ascii-good _ refl)
        (join v₅ _ c₅.0.utf
        (join (ascii ",\"Date\":\"") _ (ascii-good _ refl)
        (join date _ (ascii-good _ (plain-ascii date (date-plain.plain date day)))
        (join (ascii "\",\"Via\":") _ (ascii-good _ refl)
        (join v₆ _ c₆.utf (ascii-good (ascii "}]") refl))))))))))))))

    accepted : Accepted text 2 places
    accepted = record {
      some = omega (arith, reply-long (status_text code) v₁ v₂ v₃ v₅ date v₆);
      short = short;
      utf = good;
      end = length text;
      json = shown.json;
      tagged = shown.tagged;
      kind = (omega arith, omega arith);
      once = by-once fields fields-few text (members text (object_of text)) once;
      places = refl;
      fits = sound-good text true (first_setting 2) places sound;
      more = λ e. absurd (omega arith);
      agrees = agree;
    }

    -- where Via stands in it
    nth₆ : Nth fields 6 6 seven₀
    unfolding word_spelled is_broken lone strings.text spelt letters_from letter_of took word_number_from same
    nth₆ = refl

    via-stands : get_or places 6 0 ≡ length (reply_ahead (status_text code) v₁ v₂ v₃ v₅ date)
    via-stands =
        let w = where_is fields fields-few text (members text (object_of text)) 6 (omega arith) once (value-at 6 (omega arith) (found₀ 6 (omega arith) (omega arith))).0 in
        let z = nth-one fields 6 w.n 6 (members_of text) (omega arith) once w.nth (subst (Nth fields 6 6) (sym shown.read) nth₆) in
        w.is ∙ ap (λ (n : ℕ). value_of text (get_or (members text (object_of text)) n 0)) z ∙ ap (λ (o : ℕ). value_of text (get_or (members text o) 6 0)) shown.object ∙ shown.place
        ∙ ahead-long shown.ahead (reply_ahead (status_text code) v₁ v₂ v₃ v₅ date) (v₆ ++ (125 ∷ (93 ∷ []))) text shown.parts
        (reply-split (status_text code) v₁ v₂ v₃ v₅ date v₆)

    objects-by : (es : List ℕ) → elements s (get_or t 6 0) ≡ es → objects text (get_or places 6 0) ≡ objects s (get_or t 6 0)
    objects-by [] e = absurd (omega (arith, via-some a, ap length e))
    objects-by (x ∷ xs) e =
        let p = reply_ahead (status_text code) v₁ v₂ v₃ v₅ date in
        let q : List ℕ = 125 ∷ (93 ∷ []) in
        ap (objects text) via-stands ∙ ap (λ (w : List ℕ). objects w (length p)) (sym (reply-split (status_text code) v₁ v₂ v₃ v₅ date v₆))
        ∙ copied_elements s (shape a).x (shape a).y (via_where a).n (get_or t 6 0) (via-member a) x xs (opens a) e (all_open 5 s (elements s (get_or t 6 0)) (stand a)) p q

    read-back-at : ReadBack s (message_of s (setting_of s 1 t) t) code date (reply_of s (message_of s (setting_of s 1 t) t) code date)
    unfolding message_of setting_of reply_of
    read-back-at = record {
      message = message_of text (setting_of text 2 places) places;
      read = accepted-read accepted;
      response = refl;
      status = code_is;
      method = method-same;
      number = number_same;
      caller = from-same;
      values = record { cseq = value₁; to = value₂; from = value₃; call = value₅ };
      via = value₆;
      objects = objects-by (elements s (get_or t 6 0)) refl;
      seven = shown.read;
      place = via-stands;
    }

code-parts : (code method : ℕ) → wrong_code code method ≡ false → (listed code ≡ true) × (response_disagrees code method ≡ false)
unfolding wrong_code response_disagrees
code-parts code method e = let r = or-none (not (listed code)) (eqb code 202 && not (eqb method 7)) e in (not-false _ r.0, r.1)

method-is : (s : List ℕ) (tag : ℕ) (t : List ℕ) (m : Message) → message_of s (setting_of s tag t) t ≡ m → m.method ≡ method_of s t
unfolding message_of setting_of
method-is s tag t m e = sym (ap (λ (x : Message). x.method) e)

text_of_lem : (s t : List ℕ) (m : Message) (code : ℕ) (date : List ℕ) → message_of s (setting_of s 1 t) t ≡ m
    → reply_text (status_text code) (bytes s (get_or t 1 0)) (bytes s (get_or t 2 0)) (bytes s (get_or t 3 0)) (bytes s (get_or t 5 0)) date (bytes s (get_or t 6 0)) ≡ reply_of s
    m code date
unfolding reply_of message_of
text_of_lem s t m code date e = ap (λ (x : Message). reply_of s x code date) e

replied_one : (s t : List ℕ) (m : Message) (code : ℕ) (date : List ℕ) → Accepted s 1 t → message_of s (setting_of s 1 t) t ≡ m → wrong_code code m.method ≡ false
    → date_rule date ≡ true → length (reply_of s m code date) ≤ 32768 → ReadBack s m code date (reply_of s m code date)
replied_one s t m code date a i c y l =
    let k = code-parts code m.method c in
    let fit : response_disagrees code (method_of s t) ≡ false = ap (response_disagrees code) (sym (method-is s 1 t m i)) ∙ k.1 in
    subst (λ (x : Message). ReadBack s x code date (reply_of s x code date)) i (read-back-at a code date k.0 y fit (omega (arith, ap length (text_of_lem s t m code date i))))

replied_at : (s t : List ℕ) (m : Message) (code : ℕ) (date : List ℕ) (tag : ℕ) → tag ≡ 1 → Accepted s tag t → message_of s (setting_of s tag t) t ≡ m
    → wrong_code code m.method ≡ false → date_rule date ≡ true → length (reply_of s m code date) ≤ 32768 → ReadBack s m code date (reply_of s m code date)
replied_at s t m code date tag e =
    subst (λ (n : ℕ). Accepted s n t → message_of s (setting_of s n t) t ≡ m → wrong_code code m.method ≡ false → date_rule date ≡ true → length (reply_of s m code date) ≤ 32768
    → ReadBack s m code date (reply_of s m code date)) (sym e) (replied_one s t m code date)

pub read-back-by : (s : List ℕ) (code : ℕ) (date w : List ℕ) (e : Replied s code date w) → length w ≤ 32768 → ReadBack s e.m code date w
read-back-by s code date w e l =
    let a = read_taken ample s e.m e.read (omega (arith, e.request)) in
    subst (λ (x : List ℕ). ReadBack s e.m code date x) (sym e.is)
    (replied_at s a.t e.m code date e.m.tag e.request a.accepted a.is e.listed e.day (omega (arith, ap length e.is)))

-- THEOREM: what `reply` writes is read back
pub reply-read-back : (s : List ℕ) (code : ℕ) (date : List ℕ) {o : List ℕ} {n : ℕ} {o' : List ℕ} → Writes o (replying s code date) (Ok n) o'
    → (m : Message) × ((reading ample s ≡ Ok m) × ReadBack s m code date (take n o'))
reply-read-back s code date {o} {n} {o'} w =
    let x = stood w in
    let e = was_replied s code date x.w x.is in
    (e.m, (e.read, subst (λ (z : List ℕ). ReadBack s e.m code date z) (sym x.front) (read-back-by s code date x.w e x.short)))

-- the texts of these values are the same; those of Via stand in its objects, which are the same bytes
pub record SameTexts (s : List ℕ) (m : Message) (w : List ℕ) (r : Message) : Type 0 where
  pub cseq : text_at w r.cseq ≡ text_at s m.cseq
  pub to : text_at w r.to ≡ text_at s m.to
  pub from : text_at w r.from ≡ text_at s m.from
  pub call : text_at w r.call ≡ text_at s m.call
  pub via : objects w r.via ≡ objects s m.via

-- THEOREM: the five values are the request's after decoding too (02 §2)
pub reply-same-texts : {s : List ℕ} {m : Message} {code : ℕ} {date w : List ℕ} (b : ReadBack s m code date w) → SameTexts s m w b.message
unfolding text_at
reply-same-texts b = let v = b.values in record { cseq = ap text_of v.cseq; to = ap text_of v.to; from = ap text_of v.from; call = ap text_of v.call; via = b.objects }

-- The reply to a forwarded request, less our entry.
one-read : (s : List ℕ) (a b : Message) → reading ample s ≡ Ok a → reading ample s ≡ Ok b → a ≡ b
one-read s a b e f = same-message (sym e ∙ f)

undone-at : {s t : List ℕ} {tag : ℕ} (a : Accepted s tag t) (p q z : List ℕ) → Piece 5 z → (es : List ℕ) → elements s (get_or t 6 0) ≡ es
    → removed (p ++ (added (bytes s (get_or t 6 0)) 0 z ++ q)) (length p) ≡ p ++ (bytes s (get_or t 6 0) ++ q)
undone-at {s} {t} a p q z g [] e = absurd (omega (arith, via-some a, ap length e))
undone-at {s} {t} a p q z g (x ∷ xs) e = copied_undone s (shape a).x (shape a).y (via_where a).n (get_or t 6 0) (via-member a) x xs (opens a) e
    (all_open 5 s (elements s (get_or t 6 0)) (stand a)) p q z g

via-is : (s : List ℕ) (tag : ℕ) (t : List ℕ) (m : Message) → message_of s (setting_of s tag t) t ≡ m → get_or t 6 0 ≡ m.via
unfolding message_of
via-is s tag t m e = ap (λ (x : Message). x.via) e

undone : (s : List ℕ) (m : Message) → reading ample s ≡ Ok m → m.tag ≤ 2 → (p q z : List ℕ) → Piece 5 z
    → removed (p ++ (added (bytes s m.via) 0 z ++ q)) (length p) ≡ p ++ (bytes s m.via ++ q)
undone s m e l p q z g =
    let a = read_taken ample s m e l in
    subst (λ (o : ℕ). removed (p ++ (added (bytes s o) 0 z ++ q)) (length p) ≡ p ++ (bytes s o ++ q)) (via-is s m.tag a.t m a.is)
    (undone-at a.accepted p q z g (elements s (get_or a.t 6 0)) refl)

-- THEOREM: where nothing is refused, the reply to a forwarded request, less our entry, is the reply to the original, byte for byte
pub reply-less-ours : (s h d g : List ℕ) (code : ℕ) (date s' w' w w₀ : List ℕ) → adding s h d g ≡ write s' → length s' ≤ 32768 → replying s' code date ≡ write w'
    → length w' ≤ 32768 → removing w' h d g ≡ write w → replying s code date ≡ write w₀ → w ≡ w₀
unfolding reply_of
reply-less-ours s h d g code date s' w' w w₀ e₁ l₁ e₂ l₂ e₃ e₄ =
    let a = was-added s h d g s' e₁ in
    let f = forwarded_by s h d g s' a l₁ in
    let b = was_replied s' code date w' e₂ in
    let r = read-back-by s' code date w' b l₂ in
    let c = was-taken w' h d g w e₃ in
    let k = was_replied s code date w₀ e₄ in
    let m = a.m in
    let x : b.m ≡ f.edited.message = one-read s' b.m f.edited.message b.read f.edited.read in
    let y : c.m ≡ r.message = one-read w' c.m r.message c.read r.read in
    let v : k.m ≡ m = one-read s k.m m k.read a.read in
    let n = f.edited.message in
    let p = reply_ahead (status_text code) (bytes s m.cseq) (bytes s m.to) (bytes s m.from) (bytes s m.call) date in
    let q : List ℕ = 125 ∷ (93 ∷ []) in
    let ahead : reply_ahead (status_text code) (bytes s' b.m.cseq) (bytes s' b.m.to) (bytes s' b.m.from) (bytes s' b.m.call) date ≡ p = ap
    (λ (j : Message). reply_ahead (status_text code) (bytes s' j.cseq) (bytes s' j.to) (bytes s' j.from) (bytes s' j.call) date) x
    ∙ rw (f.edited.values.cseq, f.edited.values.to, f.edited.values.from, f.edited.values.call) in
    let via : bytes s' b.m.via ≡ added (bytes s m.via) 0 (entry h d g) = ap (λ (j : Message). bytes s' j.via) x ∙ ap (bytes s') f.edited.via ∙ f.edited.there in
    let text : w' ≡ p ++ (added (bytes s m.via) 0 (entry h d g) ++ q) = b.is
    ∙ sym (reply-split (status_text code) (bytes s' b.m.cseq) (bytes s' b.m.to) (bytes s' b.m.from) (bytes s' b.m.call) date (bytes s' b.m.via))
    ∙ ap (λ (l : List ℕ). l ++ (bytes s' b.m.via ++ q)) ahead ∙ ap (λ (l : List ℕ). p ++ (l ++ q)) via in
    let place : c.m.via ≡ length p = ap (λ (j : Message). j.via) y ∙ r.place ∙ ap length ahead in
    c.is ∙ ap (removed w') place ∙ ap (λ (l : List ℕ). removed l (length p)) text
    ∙ undone s m a.read (omega (arith, a.request)) p q (entry h d g) (entry-piece h d g a.path)
    ∙ reply-split (status_text code) (bytes s m.cseq) (bytes s m.to) (bytes s m.from) (bytes s m.call) date (bytes s m.via)
    ∙ sym (k.is ∙ ap (λ (j : Message). reply_of s j code date) v)

-- the same of what the functions write
pub returned_reply : (s h d g : List ℕ) (code : ℕ) (date : List ℕ) {o₁ o₂ o₃ o₄ : List ℕ} {n₁ n₂ n₄ : ℕ} {t₃ : Taken} {p₁ p₂ p₃ p₄ : List ℕ} → Writes o₁ (adding s h d g) (Ok n₁) p₁
    → Writes o₂ (replying (take n₁ p₁) code date) (Ok n₂) p₂ → Took o₃ (host_in (reading ample (take n₂ p₂))) (removing (take n₂ p₂) h d g) (Ok t₃) p₃
    → Writes o₄ (replying s code date) (Ok n₄) p₄ → take t₃.length p₃ ≡ take n₄ p₄
returned_reply s h d g code date {o₁} {o₂} {o₃} {o₄} {n₁} {n₂} {n₄} {t₃} {p₁} {p₂} {p₃} {p₄} w₁ w₂ w₃ w₄ =
    let x₁ = written-front w₁ in
    let x₂ = written-front w₂ in
    let x₃ = written-front (took-wrote w₃) in
    let x₄ = written-front w₄ in
    reply-less-ours s h d g code date (take n₁ p₁) (take n₂ p₂) (take t₃.length p₃) (take n₄ p₄) x₁.0 x₁.1 x₂.0 x₂.1 x₃.0 x₄.0

-- THEOREM: a writer of one fixed text is shut out: one text is the reply to requests with the same values only, and with one code
pub reply-tells : {s : List ℕ} {m : Message} {code : ℕ} {date w s₂ : List ℕ} {m₂ : Message} {code₂ : ℕ} {date₂ : List ℕ} → ReadBack s m code date w → ReadBack s₂ m₂ code₂ date₂ w
    → SameValues s m s₂ m₂ × ((bytes s₂ m₂.via ≡ bytes s m.via) × (code₂ ≡ code))
reply-tells {s} {m} {code} {date} {w} a b =
    let e : b.message ≡ a.message = one-read w b.message a.message b.read a.read in (
      record {
        cseq = sym b.values.cseq ∙ ap (λ (j : Message). bytes w j.cseq) e ∙ a.values.cseq;
        to = sym b.values.to ∙ ap (λ (j : Message). bytes w j.to) e ∙ a.values.to;
        from = sym b.values.from ∙ ap (λ (j : Message). bytes w j.from) e ∙ a.values.from;
        call = sym b.values.call ∙ ap (λ (j : Message). bytes w j.call) e ∙ a.values.call;
      },
      (sym b.via ∙ ap (λ (j : Message). bytes w j.via) e ∙ a.via, sym b.status ∙ ap (λ (j : Message). j.status) e ∙ a.status),
    )
