-- Two texts whose fields are the same but for Via: what rows 8 to 10 say of one they say of the other (`alike-accepted`), and the facts read are the
-- same (`alike-facts`). Assumes nothing.
use Prim.Native.Nat.{ℕ, zero, suc, ◌≤◌, ◌<◌}
use Rattle.json_text.specs.inner.Machine.{answer}
use Rattle.json_text.specs.Places.{bytes, members}
use Rattle.message.specs.Checks.{asks, lacks, breaks}
use Rattle.fields.specs.Field.{keeps}
use Rattle.fields.specs.Known.{empty, noted, repeated}
use Rattle.message.specs.Message.{method_of, number_of, from_caller, to_caller, word_at, code_in, code_of, secure_of, setting_of, sides_disagree, callback_training}
use Rattle.message.specs.Message.{request_disagrees}
use Rattle.message.specs.Message.{response_disagrees, disagrees, message_of, first_setting}
use Rattle.values.specs.Spans.{spelling_at, text_at}
use Rattle.message.specs.Shape.{tag_of, object_of}
use Rattle.fields.specs.Via.{via_rule}
use Rattle.message.specs.declared.facts.Message.{Message}
use Rattle.fields.specs.declared.judging.Setting.{Setting}
use Rattle.octets.specs.Ascii.{ascii}
use Rattle.octets.specs.Text.{same}
use Rattle.rules.specs.Asks.{is_in, tag_asks, method_asks}
use Rattle.rules.specs.Names.{fields}
use Rattle.rules.specs.Status.{status_of}
use Rattle.rules.specs.Words.{call_modes, content_types, rescuees, services}
use Rattle.utf8.specs.Rfc3629.{verdict}
use Rattle.message.proofs.AcceptedRows.{Accepted, Sound, good-sound, sound-good, is-there}
use Rattle.message.proofs.AcceptedVia.{via-keeps}
use borrow.Author.Tests.{ne_eqb, lt-ltb, le-ltb, eqb-true, eqb-false}
use lib.Dec.{eqb, ltb}
use lib.ListN.{length, get_or}
use mathlib.Core.Bool.{Bool, true, false, ◌&&◌, cond, and-false}
use mathlib.Core.List.{List}
use mathlib.Core.Path.{◌≡◌, refl, sym, ap, ◌∙◌}
use native.Mathlib.Omega.{arith}
use Rattle.std.specs.Prelude.{Ok}

-- field k is in neither, or in both and, but for Via, with the same value
pub data AlikeAt (s t s' t' : List ℕ) (k : ℕ) : Type 0 where
  neither : get_or t k 0 ≡ 0 → get_or t' k 0 ≡ 0 → AlikeAt s t s' t' k
  both : 0 < get_or t k 0 → 0 < get_or t' k 0 → ((k ≡ 6 → ⊥) → bytes s (get_or t k 0) ≡ bytes s' (get_or t' k 0)) → AlikeAt s t s' t' k

abbrev pub Alike : List ℕ → List ℕ → List ℕ → List ℕ → Type 0
Alike s t s' t' = (k : ℕ) → 1 ≤ k → k < 27 → AlikeAt s t s' t' k

module _ (s t s' t' : List ℕ) (via : via_rule (bytes s' (get_or t' 6 0)) ≡ true) where
  lacks_as : (run : Bool) (k : Setting) (n : ℕ) → AlikeAt s t s' t' n → lacks run k t n ≡ false → lacks run k t' n ≡ false
  unfolding lacks
  lacks_as run k n (neither a b) e = ap (λ (x : ℕ). eqb (asks run k n) 1 && eqb x 0) (b ∙ sym a) ∙ e
  lacks_as run k n (both a b f) e = rw (ne_eqb (get_or t' n 0) 0 (λ z. omega arith)) (and-false (eqb (asks run k n) 1))

  breaks-at : (run : Bool) (k : Setting) (n : ℕ) (u : Bool) → eqb n 6 ≡ u → 0 < get_or t n 0 → 0 < get_or t' n 0 → ((n ≡ 6 → ⊥) → bytes s (get_or t n 0) ≡ bytes s' (get_or t' n 0))
      → breaks s run k t n ≡ false → breaks s' run k t' n ≡ false
  unfolding breaks
  breaks-at run k n true h a b f e =
      let z = eqb-true n 6 h in
      let y : keeps k n (bytes s' (get_or t' n 0)) ≡ true = rw z (via-keeps k (bytes s' (get_or t' 6 0)) ∙ via) in
      rw (y, and-false (ltb 0 (get_or t' n 0))) (and-false (ltb 0 (asks run k n)))
  breaks-at run k n false h a b f e =
      let y = f (eqb-false n 6 h) in
      let x = rw (lt-ltb 0 (get_or t n 0) a) at e in
      rw (lt-ltb 0 (get_or t' n 0) b, ← y) x

  breaks_as : (run : Bool) (k : Setting) (n : ℕ) → AlikeAt s t s' t' n → breaks s run k t n ≡ false → breaks s' run k t' n ≡ false
  unfolding breaks
  breaks_as run k n (neither a b) e = rw (le-ltb 0 (get_or t' n 0) (omega arith)) (and-false (ltb 0 (asks run k n)))
  breaks_as run k n (both a b f) e = breaks-at run k n (eqb n 6) refl a b f e

  pub sound_as : (run : Bool) (k : Setting) → Alike s t s' t' → Sound s run k t → Sound s' run k t'
  sound_as run k a h = record { there = λ n l g. lacks_as run k n (a n l g) (h.there n l g); kept = λ n l g. breaks_as run k n (a n l g) (h.kept n l g) }

-- the text of a field that is there
text-by : (s t s' t' : List ℕ) (k : ℕ) → (k ≡ 6 → ⊥) → 0 < get_or t k 0 → AlikeAt s t s' t' k → bytes s (get_or t k 0) ≡ bytes s' (get_or t' k 0)
text-by s t s' t' k ne h (neither a b) = absurd (omega arith)
text-by s t s' t' k ne h (both a b f) = f ne

record Asked (m : ℕ) : Type 0 where
  mode : method_asks m 15 ≡ 1
  secure : method_asks m 17 ≡ 1
  service : method_asks m 19 ≡ 1

invite-asks : (m : ℕ) → m ≡ 1 → Asked m
unfolding method_asks is_in
invite-asks m e = record { mode = rw e; secure = rw e; service = rw e }

pub tag-asks : (tag n : ℕ) → 1 ≤ tag → tag ≤ 2 → 1 ≤ n → n ≤ 6 → tag_asks tag n ≡ 1
unfolding tag_asks is_in
tag-asks zero n a b c d = absurd (omega arith)
tag-asks (suc zero) zero a b c d = absurd (omega arith)
tag-asks (suc zero) (suc zero) a b c d = refl
tag-asks (suc zero) (suc (suc zero)) a b c d = refl
tag-asks (suc zero) (suc (suc (suc zero))) a b c d = refl
tag-asks (suc zero) (suc (suc (suc (suc zero)))) a b c d = refl
tag-asks (suc zero) (suc (suc (suc (suc (suc zero))))) a b c d = refl
tag-asks (suc zero) (suc (suc (suc (suc (suc (suc zero)))))) a b c d = refl
tag-asks (suc zero) (suc (suc (suc (suc (suc (suc (suc n))))))) a b c d = absurd (omega arith)
tag-asks (suc (suc zero)) zero a b c d = absurd (omega arith)
tag-asks (suc (suc zero)) (suc zero) a b c d = refl
tag-asks (suc (suc zero)) (suc (suc zero)) a b c d = refl
tag-asks (suc (suc zero)) (suc (suc (suc zero))) a b c d = refl
tag-asks (suc (suc zero)) (suc (suc (suc (suc zero)))) a b c d = refl
tag-asks (suc (suc zero)) (suc (suc (suc (suc (suc zero))))) a b c d = refl
tag-asks (suc (suc zero)) (suc (suc (suc (suc (suc (suc zero)))))) a b c d = refl
tag-asks (suc (suc zero)) (suc (suc (suc (suc (suc (suc (suc n))))))) a b c d = absurd (omega arith)
tag-asks (suc (suc (suc tag))) n a b c d = absurd (omega arith)

pub status-asked : (tag : ℕ) → tag ≡ 2 → tag_asks tag 7 ≡ 1
unfolding tag_asks is_in
status-asked tag e = rw e

-- the fields that are asked for are there
pub field-there : {s t : List ℕ} {tag : ℕ} → Accepted s tag t → (n : ℕ) → 1 ≤ n → n ≤ 6 → 0 < get_or t n 0
field-there {s} {t} {tag} a n h g = is-there (good-sound s true (first_setting tag) t a.fits) n h (omega arith) (tag-asks tag n a.kind.0 a.kind.1 h g)

pub status-there : {s t : List ℕ} {tag : ℕ} → Accepted s tag t → tag ≡ 2 → 0 < get_or t 7 0
status-there {s} {t} {tag} a e = is-there (good-sound s true (first_setting tag) t a.fits) 7 (omega arith) (omega arith) (status-asked tag e)

-- the facts of two messages are the same, places and trail aside
pub record SameFacts (m m' : Message) : Type 0 where
  pub tag : m'.tag ≡ m.tag
  pub method : m'.method ≡ m.method
  pub number : m'.number ≡ m.number
  pub status : m'.status ≡ m.status
  pub caller : m'.caller ≡ m.caller
  pub secure : m'.secure ≡ m.secure

module _ {s t s' t' : List ℕ} {tag : ℕ} (a : Accepted s tag t) (l : Alike s t s' t') where
  six : (n : ℕ) → n < 6 → n ≡ 6 → ⊥
  six n h e = omega arith

  pub same_bytes : (n : ℕ) → 1 ≤ n → n < 6 → bytes s (get_or t n 0) ≡ bytes s' (get_or t' n 0)
  same_bytes n h g = text-by s t s' t' n (six n g) (field-there a n h (omega arith)) (l n h (omega arith))

  same-method : method_of s' t' ≡ method_of s t
  unfolding method_of text_at
  same-method = rw (same_bytes 1 (omega arith) (omega arith))

  same_number : number_of s' t' ≡ number_of s t
  unfolding number_of text_at
  same_number = rw (same_bytes 1 (omega arith) (omega arith))

  same_from : from_caller s' t' ≡ from_caller s t
  unfolding from_caller text_at
  same_from = rw (same_bytes 3 (omega arith) (omega arith))

  same-to : to_caller s' t' ≡ to_caller s t
  unfolding to_caller text_at
  same-to = rw (same_bytes 2 (omega arith) (omega arith))

  word_by : (ws : List (List ℕ)) (n : ℕ) → (n ≡ 6 → ⊥) → AlikeAt s t s' t' n → word_at ws s' (get_or t' n 0) ≡ word_at ws s (get_or t n 0)
  unfolding word_at spelling_at
  word_by ws n ne (neither x y) = rw (x, y)
  word_by ws n ne (both x y f) = rw (ne_eqb (get_or t n 0) 0 (λ e. omega arith), ne_eqb (get_or t' n 0) 0 (λ e. omega arith), f ne)

  same-word : (ws : List (List ℕ)) (n : ℕ) → 6 < n → n < 27 → word_at ws s' (get_or t' n 0) ≡ word_at ws s (get_or t n 0)
  same-word ws n h g = word_by ws n (λ e. omega arith) (l n (omega arith) g)

  same-setting : setting_of s' tag t' ≡ setting_of s tag t
  unfolding setting_of
  same-setting = rw (
    same-method,
    same-word content_types 9 (omega arith) (omega arith),
    same-word call_modes 15 (omega arith) (omega arith),
    same-word rescuees 18 (omega arith) (omega arith),
    same-word services 19 (omega arith) (omega arith),
  )

  setting-tag : (setting_of s tag t).tag ≡ tag
  unfolding setting_of
  setting-tag = refl

  -- of an INVITE request
  module _ (one : tag ≡ 1) (invite : (setting_of s tag t).method ≡ 1) where
    sound₂ : Sound s false (setting_of s tag t) t
    sound₂ = good-sound s false (setting_of s tag t) t (a.more one)

    same-mode : bytes s (get_or t 15 0) ≡ bytes s' (get_or t' 15 0)
    same-mode = text-by s t s' t' 15 (λ e. omega arith) (is-there sound₂ 15 (omega arith) (omega arith) (invite-asks _ invite).mode) (l 15 (omega arith) (omega arith))

    same-service : bytes s (get_or t 19 0) ≡ bytes s' (get_or t' 19 0)
    same-service = text-by s t s' t' 19 (λ e. omega arith) (is-there sound₂ 19 (omega arith) (omega arith) (invite-asks _ invite).service) (l 19 (omega arith) (omega arith))

    same_truth : bytes s (get_or t 17 0) ≡ bytes s' (get_or t' 17 0)
    same_truth = text-by s t s' t' 17 (λ e. omega arith) (is-there sound₂ 17 (omega arith) (omega arith) (invite-asks _ invite).secure) (l 17 (omega arith) (omega arith))

    same_training : callback_training s' (get_or t' 19 0) (get_or t' 15 0) ≡ callback_training s (get_or t 19 0) (get_or t 15 0)
    unfolding callback_training spelling_at
    same_training = rw (same-mode, same-service)

  request-by : tag ≡ 1 → (u : Bool) → eqb (setting_of s tag t).method 1 ≡ u → (f : Bool)
      → request_disagrees s' (setting_of s tag t) t' f ≡ request_disagrees s (setting_of s tag t) t f
  unfolding request_disagrees
  request-by o true h f = rw (same_training o (eqb-true _ 1 h))
  request-by o false h f = rw h

  request-same : (u : Bool) → eqb tag 1 ≡ u → (f : Bool) → (u && request_disagrees s' (setting_of s tag t) t' f) ≡ (u && request_disagrees s (setting_of s tag t) t f)
  request-same true h f = request-by (eqb-true tag 1 h) (eqb (setting_of s tag t).method 1) refl f
  request-same false h f = refl

  status-by : (u : Bool) → eqb tag 2 ≡ u → cond u (code_in (status_of (text_at s' (get_or t' 7 0)))) 0 ≡ cond u (code_in (status_of (text_at s (get_or t 7 0)))) 0
  unfolding text_at
  status-by true h = rw (text-by s t s' t' 7 (λ e. omega arith) (status-there a (eqb-true tag 2 h)) (l 7 (omega arith) (omega arith)))
  status-by false h = refl

  same-status : code_of s' tag (get_or t' 7 0) ≡ code_of s tag (get_or t 7 0)
  unfolding code_of
  same-status = status-by (eqb tag 2) refl

  secure-by : (u v : Bool) → eqb tag 1 ≡ u → eqb (setting_of s tag t).method 1 ≡ v
      → ((u && v) && same (bytes s' (get_or t' 17 0)) (ascii "true")) ≡ ((u && v) && same (bytes s (get_or t 17 0)) (ascii "true"))
  secure-by true true h g = rw (same_truth (eqb-true tag 1 h) (eqb-true _ 1 g))
  secure-by true false h g = refl
  secure-by false v h g = refl

  same-secure : secure_of s' (setting_of s tag t) (get_or t' 17 0) ≡ secure_of s (setting_of s tag t) (get_or t 17 0)
  unfolding secure_of setting_of
  same-secure = secure-by (eqb tag 1) (eqb (method_of s t) 1) refl refl

  sides-same : sides_disagree (setting_of s tag t).method (number_of s' t') (from_caller s' t') (to_caller s' t') ≡ sides_disagree (setting_of s tag t).method (number_of s t)
      (from_caller s t) (to_caller s t)
  sides-same = rw (same_number, same_from, same-to)

  asked-same : (eqb (setting_of s tag t).tag 1 && request_disagrees s' (setting_of s tag t) t' (from_caller s' t')) ≡
      (eqb (setting_of s tag t).tag 1 && request_disagrees s (setting_of s tag t) t (from_caller s t))
  unfolding setting_of
  asked-same = rw same_from (request-same (eqb tag 1) refl (from_caller s t))

  told_same : (eqb (setting_of s tag t).tag 2 && response_disagrees (code_of s' (setting_of s tag t).tag (get_or t' 7 0)) (setting_of s tag t).method) ≡
      (eqb (setting_of s tag t).tag 2 && response_disagrees (code_of s (setting_of s tag t).tag (get_or t 7 0)) (setting_of s tag t).method)
  unfolding setting_of
  told_same = rw same-status

  same-disagrees : disagrees s' (setting_of s' tag t') t' ≡ disagrees s (setting_of s tag t) t
  unfolding disagrees
  same-disagrees = ap (λ (k : Setting). disagrees s' k t') same-setting ∙ rw (sides-same, asked-same, told_same)

  pub alike-facts : SameFacts (message_of s (setting_of s tag t) t) (message_of s' (setting_of s' tag t') t')
  unfolding message_of
  alike-facts = rw same-setting (record { tag = refl; method = refl; number = same_number; status = rw setting-tag same-status; caller = same_from; secure = same-secure })

  module _ (via : via_rule (bytes s' (get_or t' 6 0)) ≡ true) where
    pub alike-accepted : 1 ≤ length s' → length s' ≤ 32768 → verdict s' ≡ Ok tt → (e : ℕ) → answer s' ≡ Ok e → tag_of s' ≡ tag
        → repeated fields s' empty (members s' (object_of s')) ≡ 0 → noted fields s' empty (members s' (object_of s')) ≡ t' → Accepted s' tag t'
    alike-accepted x y u e j g o p = record {
      some = x;
      short = y;
      utf = u;
      end = e;
      json = j;
      tagged = g;
      kind = a.kind;
      once = o;
      places = p;
      fits = sound-good s' true (first_setting tag) t' (sound_as s t s' t' via true (first_setting tag) l (good-sound s true (first_setting tag) t a.fits));
      more = λ z. rw same-setting (sound-good s' false (setting_of s tag t) t'
          (sound_as s t s' t' via false (setting_of s tag t) l (good-sound s false (setting_of s tag t) t (a.more z))));
      agrees = same-disagrees ∙ a.agrees;
    }
