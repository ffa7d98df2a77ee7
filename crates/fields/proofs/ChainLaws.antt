-- The rules as the code goes through them are those of the list: one number after the other, computed, or by what a plain rule says (`ruled-is`).
-- Assumes nothing.
use Prim.Native.Nat.{ℕ, zero, suc, ◌<◌}
use Rattle.fields.proofs.TriedLaws.{availability_plain, call-mode-plain, message_type_plain, notify_type_plain, presence_plain, rescuee_plain, service-plain}
use Rattle.fields.specs.Field.{body_field, content_field, keeps, names_image, status_field}
use Rattle.fields.specs.declared.judging.Setting.{Setting}
use Rattle.fields.specs.inner.Chain.{by_kind, chain, holds_particulars, kind_rule, later_rule, on_body, on_status, on_text, on_type, plain_rule}
use Rattle.rules.proofs.PlainLaws.{call_id_plain, date-plain, desk_plain, fire-plain, language_plain, message_id_plain}
use Rattle.rules.specs.Numbers.{content_location, content_presence, content_text, method_message, tag_pong}
use Rattle.rules.specs.Status.{status_rule}
use Rattle.rules.specs.Texts.{image_rule}
use Rattle.rules.specs.Words.{availabilities, message_types, notify_types, presences}
use Rattle.values.proofs.SpelledLaws.{ruled-is}
use Rattle.values.specs.Value.{freely, is_string, one_of, ruled, text_of}
use borrow.Author.Tests.{ne_eqb}
use lib.Dec.{eqb}
use mathlib.Core.Bool.{Bool, true, false, ◌&&◌, ◌||◌, and-true, cond}
use mathlib.Core.List.{List}
use mathlib.Core.Path.{◌≡◌, refl, sym}
use native.Mathlib.Omega.{arith}

-- Status, Content-Type and Body, by what the rule sees besides the value

status-keeps : (tag : ℕ) (v : List ℕ) → freely (on_status tag) v ≡ status_field tag v
unfolding on_status status_field freely
status-keeps tag v = by (eqb tag tag_pong)
  where
    by : (b : Bool) → (is_string v && cond b (one_of availabilities (text_of v)) (status_rule (text_of v))) ≡ cond b (ruled (one_of availabilities) v)
        (is_string v && status_rule (text_of v))
    by true = sym (ruled-is availability_plain v)
    by false = refl

type_keeps : (method : ℕ) (v : List ℕ) → freely (on_type method) v ≡ content_field method v
unfolding on_type content_field freely
type_keeps method v = by (eqb method method_message)
  where
    by : (b : Bool) → (is_string v && cond b (one_of message_types (text_of v)) (one_of notify_types (text_of v))) ≡ cond b (ruled (one_of message_types) v)
        (ruled (one_of notify_types) v)
    by true = sym (ruled-is message_type_plain v)
    by false = sym (ruled-is notify_type_plain v)

body-keeps : (content : ℕ) (v : List ℕ) → eqb content content_location ≡ false → freely (on_body content) v ≡ body_field content v
unfolding on_body body_field freely names_image
body-keeps content v other = rw other (by (eqb content content_text) (names_image content) (eqb content content_presence))
  where
    by : (a b c : Bool) → (is_string v && cond a true (cond b (image_rule (text_of v)) (cond c (one_of presences (text_of v)) (status_rule (text_of v)))))
        ≡ cond a (is_string v) (cond b (is_string v && image_rule (text_of v))
        (cond c (ruled (one_of presences) v) (is_string v && status_rule (text_of v))))
    by true b c = and-true (is_string v)
    by false true c = refl
    by false false true = sym (ruled-is presence_plain v)
    by false false false = refl

module _ (k : Setting) (v : List ℕ) where
  pub chain-keeps : (n : ℕ) → 3 < n → n < 27 → holds_particulars k n ≡ false → chain k n v ≡ keeps k n v
  unfolding chain keeps by_kind kind_rule on_text plain_rule later_rule freely holds_particulars
  chain-keeps zero h g e = absurd (omega arith)
  chain-keeps (suc zero) h g e = absurd (omega arith)
  chain-keeps (suc (suc zero)) h g e = absurd (omega arith)
  chain-keeps (suc (suc (suc zero))) h g e = absurd (omega arith)
  chain-keeps (suc (suc (suc (suc zero)))) h g e = sym (ruled-is date-plain v)
  chain-keeps (suc (suc (suc (suc (suc zero))))) h g e = sym (ruled-is call_id_plain v)
  chain-keeps (suc (suc (suc (suc (suc (suc zero)))))) h g e = refl
  chain-keeps (suc (suc (suc (suc (suc (suc (suc zero))))))) h g e = status-keeps k.tag v
  chain-keeps (suc (suc (suc (suc (suc (suc (suc (suc zero)))))))) h g e = sym (ruled-is message_id_plain v)
  chain-keeps (suc (suc (suc (suc (suc (suc (suc (suc (suc zero))))))))) h g e = type_keeps k.method v
  chain-keeps (suc (suc (suc (suc (suc (suc (suc (suc (suc (suc zero)))))))))) h g e = body-keeps k.content v e
  chain-keeps (suc (suc (suc (suc (suc (suc (suc (suc (suc (suc (suc zero))))))))))) h g e = sym (ruled-is fire-plain v)
  chain-keeps (suc (suc (suc (suc (suc (suc (suc (suc (suc (suc (suc (suc zero)))))))))))) h g e = sym (ruled-is fire-plain v)
  chain-keeps (suc (suc (suc (suc (suc (suc (suc (suc (suc (suc (suc (suc (suc zero))))))))))))) h g e = refl
  chain-keeps (suc (suc (suc (suc (suc (suc (suc (suc (suc (suc (suc (suc (suc (suc zero)))))))))))))) h g e = sym (ruled-is call_id_plain v)
  chain-keeps (suc (suc (suc (suc (suc (suc (suc (suc (suc (suc (suc (suc (suc (suc (suc zero))))))))))))))) h g e = sym (ruled-is call-mode-plain v)
  chain-keeps (suc (suc (suc (suc (suc (suc (suc (suc (suc (suc (suc (suc (suc (suc (suc (suc zero)))))))))))))))) h g e = refl
  chain-keeps (suc (suc (suc (suc (suc (suc (suc (suc (suc (suc (suc (suc (suc (suc (suc (suc (suc zero))))))))))))))))) h g e = refl
  chain-keeps (suc (suc (suc (suc (suc (suc (suc (suc (suc (suc (suc (suc (suc (suc (suc (suc (suc (suc zero)))))))))))))))))) h g e = sym (ruled-is rescuee_plain v)
  chain-keeps (suc (suc (suc (suc (suc (suc (suc (suc (suc (suc (suc (suc (suc (suc (suc (suc (suc (suc (suc zero))))))))))))))))))) h g e = sym (ruled-is service-plain v)
  chain-keeps (suc (suc (suc (suc (suc (suc (suc (suc (suc (suc (suc (suc (suc (suc (suc (suc (suc (suc (suc (suc zero)))))))))))))))))))) h g e = sym (ruled-is language_plain v)
  chain-keeps (suc (suc (suc (suc (suc (suc (suc (suc (suc (suc (suc (suc (suc (suc (suc (suc (suc (suc (suc (suc (suc zero))))))))))))))))))))) h g e = absurd
      (let z : ◌≡◌ {A = Bool} true false = e in cc)
  chain-keeps (suc (suc (suc (suc (suc (suc (suc (suc (suc (suc (suc (suc (suc (suc (suc (suc (suc (suc (suc (suc (suc (suc zero)))))))))))))))))))))) h g e = refl
  chain-keeps (suc (suc (suc (suc (suc (suc (suc (suc (suc (suc (suc (suc (suc (suc (suc (suc (suc (suc (suc (suc (suc (suc (suc zero))))))))))))))))))))))) h g e = absurd
      (let z : ◌≡◌ {A = Bool} true false = e in cc)
  chain-keeps (suc (suc (suc (suc (suc (suc (suc (suc (suc (suc (suc (suc (suc (suc (suc (suc (suc (suc (suc (suc (suc (suc (suc (suc zero)))))))))))))))))))))))) h g e = refl
  chain-keeps (suc (suc (suc (suc (suc (suc (suc (suc (suc (suc (suc (suc (suc (suc (suc (suc (suc (suc (suc (suc (suc (suc (suc (suc (suc zero))))))))))))))))))))))))) h g e = sym
      (ruled-is desk_plain v)
  chain-keeps (suc (suc (suc (suc (suc (suc (suc (suc (suc (suc (suc (suc (suc (suc (suc (suc (suc (suc (suc (suc (suc (suc (suc (suc (suc (suc zero)))))))))))))))))))))))))) h
      g e = sym (ruled-is desk_plain v)
  chain-keeps (suc (suc (suc (suc (suc (suc (suc (suc (suc (suc (suc (suc (suc (suc (suc (suc (suc (suc (suc (suc (suc (suc (suc (suc (suc (suc (suc n))))))))))))))))))))))))))) h
      g e = absurd (omega arith)
