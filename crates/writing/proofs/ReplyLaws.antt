-- A reply as a message of seven members without white space: it is accepted JSON, with its tag, its members and their places (`reply-shape`). Values of an
-- accepted request end by themselves and are good UTF-8 (`copied`). Assumes nothing.
use Rattle.octets.proofs.TestLaws.{and_parts}
use Prim.Native.Nat.{ℕ, ◌≤◌, ◌<◌}
use Rattle.escapes.specs.Rfc7159 as strings
use Rattle.escapes.specs.Rfc7159.{is_broken, letter_of, letters_from, lone, text, took}
use Rattle.frame.proofs.Forwarding.{value-apart, value-followed, value-piece}
use Rattle.frame.proofs.MessageShape.{Fronts, Around, AroundFine, message, head, up_to, beyond, tail, message-accepted, message-start, message-elements, message-members}
use Rattle.frame.proofs.MessageShape.{value_there, message-split}
use Rattle.frame.proofs.Standing.{Val, Piece, piece-val}
use Rattle.frame.proofs.Written.{plainly, Named, body-append, plain-name, in_quotes, text-piece}
use Rattle.json_text.proofs.Listing.{Field, Fine, Fines, items, item, body, entry, read_all, name-is}
use Rattle.json_text.proofs.ScanLaws.{Opener, Opened}
use Rattle.json_text.specs.inner.Machine.{answer}
use Rattle.json_text.specs.Places.{bytes, behind, past, raw, value_of, members, elements, spell}
use Rattle.fields.specs.Field.{keeps}
use Rattle.message.specs.Shape.{tag_of, object_of}
use Rattle.values.specs.Value.{is_string, ruled, word_spelled}
use Rattle.fields.specs.declared.judging.Setting.{Setting}
use Rattle.octets.specs.Ascii.{ascii}
use Rattle.octets.specs.Text.{same}
use Rattle.rules.specs.Address.{address_rule}
use Rattle.rules.specs.Names.{tags}
use Rattle.rules.specs.Pieces.{word_number_from}
use Rattle.utf8.specs.Rfc3629.{verdict}
use Rattle.message.proofs.AcceptedRows.{Accepted, good-sound, is-kept}
use Rattle.message.specs.Message.{first_setting}
use Rattle.message.proofs.AlikeLaws.{field-there, tag-asks}
use Rattle.writing.proofs.ChangeLaws.{first_byte}
use Rattle.writing.proofs.ForwardLaws.{opens}
use Rattle.message.proofs.MemberLaws.{shape, field_where, tag_of_lem, members_of}
use Rattle.writing.proofs.StandingLaws.{field-member}
use Rattle.writing.proofs.SeamLaws.{utf-part}
use Rattle.writing.specs.Reply.{reply_text}
use borrow.Author.Tests.{eqb-true}
use Rattle.rules.specs.Sequence.{sequence_rule}
use Rattle.rules.specs.Texts.{call_id_rule}
use lib.Dec.{eqb}
use lib.ListN.{length, get_or, take, drop, length-append}
use mathlib.Core.Bool.{Bool, true, cond}
use mathlib.Core.List.{List, [], ◌∷◌, ◌++◌, append_assoc, map}
use mathlib.Core.Logic.{◌⊎◌, inl, inr}
use mathlib.Core.Path.{◌≡◌, refl, sym, ap, subst, ◌∙◌}
use native.Mathlib.Omega.{arith}
use Rattle.std.specs.Prelude.{Ok}

-- a member without white space
abbrev pub field_of : List ℕ → List ℕ → Field
field_of n v = record { w = []; n = n; w₁ = []; w₂ = []; v = v; u = [] }

abbrev pub around : Around
around = record { w = []; i = record { w = []; v = in_quotes (ascii "response"); u = [] }; jw = []; ju = []; t = [] }

-- the seven, Status first
module _ (status cseq to from call date via : List ℕ) where
  abbrev pub rest₇ : List Field
  rest₇ =
      field_of (ascii "CSeq") cseq
      ∷ field_of (ascii "To") to
      ∷ field_of (ascii "From") from
      ∷ field_of (ascii "Call-ID") call
      ∷ field_of (ascii "Date") (in_quotes date)
      ∷ field_of (ascii "Via") via
      ∷ []

  abbrev pub status₇ : Field
  status₇ = field_of (ascii "Status") (in_quotes status)

  opened : message around status₇ rest₇ ≡ ascii "[\"response\",{" ++ body status₇ rest₇ (93 ∷ [])
  unfolding message items item
  opened = ap (λ (l : List ℕ). ascii "[\"response\",{" ++ l) (body-append status₇ rest₇ (93 ∷ []))

  spelt : ascii "[\"response\",{" ++ body status₇ rest₇ (93 ∷ []) ≡ reply_text status cseq to from call date via
  unfolding body entry reply_text
  spelt = rw (append_assoc status, append_assoc date)

  pub reply-message : message around status₇ rest₇ ≡ reply_text status cseq to from call date via
  reply-message = opened ∙ spelt

fine_of : (b : ℕ) (n v : List ℕ) → plainly n ≡ true → Piece 6 v → Fine (Val 6) Named (field_of n v) b
fine_of b n v h p = record { before = tt; named = plain-name n h; before₁ = tt; before₂ = tt; val = λ t. piece-val 6 v (b ∷ t) p; behind = tt }

around-fine : AroundFine around
unfolding plainly
around-fine = record {
  hw = tt;
  hi = record { before = tt; val = λ t. piece-val 7 (in_quotes (ascii "response")) (44 ∷ t) (text-piece 7 (ascii "response") refl); behind = tt };
  hj = tt;
  hu = tt;
  ht = tt;
}

-- what is known of a reply's text
pub record Shown (w : List ℕ) (status cseq to from call date via : List ℕ) : Type 0 where
  pub json : answer w ≡ Ok (length w)
  pub tagged : tag_of w ≡ 2
  pub read : members_of w ≡ read_all (status₇ status cseq to from call date via ∷ rest₇ status cseq to from call date via)
  pub object : object_of w ≡ 12
  pub ahead : List ℕ
  pub parts : w ≡ ahead ++ (via ++ (125 ∷ (93 ∷ [])))
  pub place : value_of w (get_or (members w 12) 6 0) ≡ length ahead

module _ (status cseq to from call date via : List ℕ) (p₀ : plainly status ≡ true) (p₁ : Piece 6 cseq) (p₂ : Piece 6 to) (p₃ : Piece 6 from) (p₄ : Piece 6 call)
    (p₅ : plainly date ≡ true) (p₆ : Piece 6 via) where
  abbrev f₀ : Field
  f₀ = status₇ status cseq to from call date via

  abbrev fs₀ : List Field
  fs₀ = rest₇ status cseq to from call date via

  seven-fine : Fines (Val 6) Named f₀ fs₀
  unfolding plainly
  seven-fine = (
    fine_of 44 (ascii "Status") (in_quotes status) refl (text-piece 6 status p₀),
    (
      fine_of 44 (ascii "CSeq") cseq refl p₁,
      (
        fine_of 44 (ascii "To") to refl p₂,
        (
          fine_of 44 (ascii "From") from refl p₃,
          (fine_of 44 (ascii "Call-ID") call refl p₄, (fine_of 44 (ascii "Date") (in_quotes date) refl (text-piece 6 date p₅), fine_of 125 (ascii "Via") via refl p₆)),
        ),
      ),
    ),
  )

  abbrev text₀ : List ℕ
  text₀ = message around f₀ fs₀

  head_12 : length (head around) ≡ 12
  unfolding head item
  head_12 = refl

  string-byte : get_or text₀ 1 0 ≡ 34
  unfolding message items item
  string-byte = refl

  array-byte : get_or text₀ 0 0 ≡ 91
  unfolding message items item
  array-byte = refl

  object-byte : get_or text₀ 12 0 ≡ 123
  unfolding message items item
  object-byte = refl

  two-elements : elements text₀ (past text₀ 0) ≡ 1 ∷ (12 ∷ [])
  two-elements =
      ap (elements text₀) (message-start around around-fine f₀ fs₀ seven-fine) ∙ message-elements around around-fine f₀ fs₀ seven-fine ∙ ap (λ (n : ℕ). 1 ∷ (n ∷ [])) head_12

  tag-name : raw text₀ 1 ≡ ascii "response"
  unfolding message items item plainly
  tag-name = name-is text₀ (ascii "response") _ 1 (plain-name (ascii "response") refl).listed refl

  tag-two : word_spelled tags (raw text₀ 1) ≡ 2
  unfolding word_spelled is_broken lone text strings.spelt letters_from letter_of took word_number_from same
  tag-two = rw tag-name

  shape_two : (tag_of text₀ ≡ 2) × (object_of text₀ ≡ 12)
  shape_two = tag_of_lem text₀ 1 12 2 (ap (λ (n : ℕ). get_or text₀ n 0) (message-start around around-fine f₀ fs₀ seven-fine) ∙ array-byte) two-elements string-byte object-byte
      tag-two

  six-few : 6 ≤ length fs₀
  six-few = omega arith

  split-six : text₀ ≡ up_to around 6 f₀ fs₀ ++ (via ++ (125 ∷ (93 ∷ [])))
  unfolding beyond tail
  split-six = message-split around f₀ fs₀ 6 six-few

  shown₀ : Shown text₀ status cseq to from call date via
  shown₀ = record {
    json = message-accepted around around-fine f₀ fs₀ seven-fine;
    tagged = shape_two.0;
    read = ap (λ (o : ℕ). map (spell text₀) (members text₀ o)) (shape_two.1 ∙ sym head_12) ∙ message-members around around-fine f₀ fs₀ seven-fine;
    object = shape_two.1;
    ahead = up_to around 6 f₀ fs₀;
    parts = split-six;
    place = ap (λ (o : ℕ). value_of text₀ (get_or (members text₀ o) 6 0)) (sym head_12) ∙ value_there around around-fine f₀ fs₀ seven-fine 6 six-few;
  }

  pub reply-shape : Shown (reply_text status cseq to from call date via) status cseq to from call date via
  reply-shape = subst (λ (w : List ℕ). Shown w status cseq to from call date via) (reply-message status cseq to from call date via) shown₀

-- The reply up to its Via value, and the reply with another Via in its place.
unfoldable pub reply_ahead : List ℕ → List ℕ → List ℕ → List ℕ → List ℕ → List ℕ → List ℕ
reply_ahead status cseq to from call date =
    ascii "[\"response\",{\"Status\":\""
    ++ (status
    ++ (ascii "\",\"CSeq\":"
    ++ (cseq
    ++ (ascii ",\"To\":"
    ++ (to
    ++ (ascii ",\"From\":"
    ++ (from
    ++ (ascii ",\"Call-ID\":"
    ++ (call
    ++ (ascii ",\"Date\":\""
    ++ (date
    ++ ascii "\",\"Via\":")))))))))))

regroup : (k₀ a k₁ b k₂ c k₃ d k₄ e k₅ f k₆ g : List ℕ)
    → (k₀ ++ (a ++ (k₁ ++ (b ++ (k₂ ++ (c ++ (k₃ ++ (d ++ (k₄ ++ (e ++ (k₅ ++ (f ++ k₆)))))))))))) ++ g ≡ k₀
    ++ (a ++ (k₁ ++ (b ++ (k₂ ++ (c ++ (k₃ ++ (d ++ (k₄ ++ (e ++ (k₅ ++ (f ++ (k₆ ++ g))))))))))))
regroup k₀ a k₁ b k₂ c k₃ d k₄ e k₅ f k₆ g = simp append_assoc

pub reply-split : (status cseq to from call date via : List ℕ)
    → reply_ahead status cseq to from call date ++ (via ++ (125 ∷ (93 ∷ []))) ≡ reply_text status cseq to from call date via
unfolding reply_ahead reply_text
reply-split status cseq to from call date via =
    regroup (ascii "[\"response\",{\"Status\":\"") status (ascii "\",\"CSeq\":") cseq (ascii ",\"To\":") to (ascii ",\"From\":") from (ascii ",\"Call-ID\":") call
    (ascii ",\"Date\":\"") date (ascii "\",\"Via\":") (via ++ (125 ∷ (93 ∷ [])))

pub ahead-long : (a b l w : List ℕ) → w ≡ a ++ l → b ++ l ≡ w → length a ≡ length b
ahead-long a b l w e f = omega (arith, ap length e, ap length f, length-append a l, length-append b l)

-- the rules of the texts that a reply copies: 1 CSeq, 2 To, 3 From, 5 Call-ID
abbrev pub copied_rule : ℕ → List ℕ → Bool
copied_rule n = cond (eqb n 1) sequence_rule (cond (eqb n 5) call_id_rule address_rule)

-- A text under a rule is a string.
pub text-field : (k : Setting) (n : ℕ) (v : List ℕ) → (n ≡ 1) ⊎ ((n ≡ 2) ⊎ ((n ≡ 3) ⊎ (n ≡ 5))) → keeps k n v ≡ ruled (copied_rule n) v
unfolding keeps
text-field k n v (inl e) = rw e
text-field k n v (inr (inl e)) = rw e
text-field k n v (inr (inr (inl e))) = rw e
text-field k n v (inr (inr (inr e))) = rw e

ruled-string : (rule : List ℕ → Bool) (v : List ℕ) → ruled rule v ≡ true → get_or v 0 0 ≡ 34
unfolding ruled is_string
ruled-string rule v e = eqb-true (get_or v 0 0) 34 (and_parts (eqb (get_or v 0 0) 34) _ e).0

-- what is known of a value that a reply copies
pub record Copied (v : List ℕ) : Type 0 where
  pub piece : Piece 6 v
  pub utf : verdict v ≡ Ok tt

opener_low : (b : ℕ) → Opener b → b < 128
opener_low b (inl e) = omega arith
opener_low b (inr (inl e)) = omega arith
opener_low b (inr (inr e)) = omega arith

opened-front : (v : List ℕ) → Opened v → Fronts v
opened-front [] o = absurd o
opened-front (b ∷ v) o = record { b = b; c = v; is = refl; low = opener_low b o }

module _ {s : List ℕ} {tag : ℕ} {t : List ℕ} (a : Accepted s tag t) (n : ℕ) (h : 1 ≤ n) (g : n ≤ 6) where
  copied_at : Opener (get_or s (get_or t n 0) 0) → Copied (bytes s (get_or t n 0))
  copied_at o =
      let m = field-member a n h g in
      let p = value-piece s (shape a).x (shape a).y (field_where a n h g).n (get_or t n 0) m o in
      let e = value-apart s (shape a).x (shape a).y (field_where a n h g).n (get_or t n 0) m in
      record {
        piece = p;
        utf = utf-part (take (get_or t n 0) s) (bytes s (get_or t n 0)) (drop (behind s (get_or t n 0)) s) (opened-front (bytes s (get_or t n 0)) p.opened)
            (value-followed s (shape a).x (shape a).y (field_where a n h g).n (get_or t n 0) m) (subst (λ (x : List ℕ). verdict x ≡ Ok tt) e a.utf);
      }

  kept_field : keeps (first_setting tag) n (bytes s (get_or t n 0)) ≡ true
  kept_field = is-kept (good-sound s true (first_setting tag) t a.fits) n h (omega arith) (omega (arith, tag-asks tag n a.kind.0 a.kind.1 h g)) (field-there a n h g)

  pub copied_text : (n ≡ 1) ⊎ ((n ≡ 2) ⊎ ((n ≡ 3) ⊎ (n ≡ 5))) → Copied (bytes s (get_or t n 0)) × (ruled (copied_rule n) (bytes s (get_or t n 0)) ≡ true)
  copied_text e =
      let r = sym (text-field (first_setting tag) n (bytes s (get_or t n 0)) e) ∙ kept_field in
      (copied_at (inl (first_byte s (get_or t n 0) (behind s (get_or t n 0)) 33 (ruled-string (copied_rule n) (bytes s (get_or t n 0)) r))), r)

pub copied_via : {s : List ℕ} {tag : ℕ} {t : List ℕ} (a : Accepted s tag t) → Copied (bytes s (get_or t 6 0))
copied_via {s} {tag} {t} a = copied_at a 6 (omega arith) (omega arith) (inr (inl (opens a)))
