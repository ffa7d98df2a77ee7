-- A text by its spelling: what keeps a rule, or is a known word, has no escape and is short, so that the bytes may be tried as they stand, and what is decoded
-- into a buffer of 256 bytes says as much as the whole (`rules`' PlainLaws, rule by rule). Assumes nothing.
use Prim.Native.Nat.{ℕ, ◌<◌, ◌≤◌}
use Rattle.escapes.proofs.HighLaws.{broken-high}
use Rattle.escapes.proofs.PlainLaws.{plain-ascii, plain-front, plain-text, plain-unescaped}
use Rattle.escapes.specs.Rfc7159.{is_broken, text}
use Rattle.escapes.specs.Text.{escaped}
use Rattle.octets.proofs.TestLaws.{clash, fails}
use Rattle.rules.proofs.PlainLaws.{Front, Plain, are_plain, word-plain}
use Rattle.rules.specs.Pieces.{word_number}
use Rattle.std.specs.Prelude.{Err, IsErrAnd, MatchOption, None, Ok, Option, Result, Some}
use Rattle.values.specs.Value.{freely, is_string, one_of, ruled, spelling_of, text_of, word_spelled}
use borrow.Author.Tests.{lt-ltb, ltb-false}
use lib.Dec.{ltb}
use lib.ListN.{drop, length, take, take-append-drop}
use lib.Seq.{length-take-le, take_all, take-append_seam, take-take}
use mathlib.Core.Bool.{Bool, true, false, not, ◌&&◌, and-false, cond}
use mathlib.Core.List.{List, ◌++◌}
use mathlib.Core.Path.{◌≡◌, refl, sym, ap, ◌∙◌}
use native.Mathlib.Decide.{dec_lt}
use native.Mathlib.Omega.{arith}

module _ {rule : List ℕ → Bool} (p : Plain rule) where
  -- what keeps the rule as it is spelled is its own text
  pub own-text : (w : List ℕ) → rule w ≡ true → text w ≡ w
  own-text w e = plain-text w (plain-unescaped w (p.plain w e))

  -- what keeps it is not broken
  unbroken : (w : List ℕ) → rule (text w) ≡ true → is_broken w ≡ false
  unbroken w e = fails (is_broken w) (λ h. clash (plain-ascii (text w) (p.plain (text w) e)) (broken-high w h))

  long : (t : List ℕ) → 256 ≤ length t → rule t ≡ false
  long t h = fails (rule t) (λ e. omega (arith, p.short t e))

  -- what the buffer holds tells as much as the text, where nothing but z is told of a text that breaks the rule
  pub within_same : {A : Type 0} (f : List ℕ → A) (z : A) → ((t : List ℕ) → rule t ≡ false → f t ≡ z) → (w : List ℕ) → f (take 256 (text w)) ≡ f (text w)
  within_same {A} f z h w = by (dec_lt 256 (length (text w)))
    where
      by : Dec (256 < length (text w)) → f (take 256 (text w)) ≡ f (text w)
      by (no g) = ap f (take_all 256 (text w) (omega arith))
      by (yes g) =
          let l : length (take 256 (text w)) ≡ 256 = length-take-le 256 (text w) (omega arith) in
          h (take 256 (text w)) (long (take 256 (text w)) (omega arith)) ∙ sym (h (text w) (long (text w) (omega arith)))

  -- a string under such a rule is a string whose text keeps it
  pub ruled-is : (v : List ℕ) → ruled rule v ≡ freely rule v
  unfolding ruled freely text_of
  ruled-is v = ap (λ (b : Bool). is_string v && b) (beside (not (is_broken (spelling_of v))) (rule (text (spelling_of v))) (λ e. ap not (unbroken (spelling_of v) e)))
    where
      beside : (a b : Bool) → (b ≡ true → a ≡ true) → (a && b) ≡ b
      beside a true h = rw (h refl)
      beside a false h = and-false a

-- A rule that may be asked of the bytes as they are spelled, and then of what the buffer holds.

pub record Tried (rule : List ℕ → Bool) : Type 0 where
  pub own : (w : List ℕ) → rule w ≡ true → rule (text w) ≡ true
  pub within : (w : List ℕ) → rule (take 256 (text w)) ≡ rule (text w)

pub tried_plain : {rule : List ℕ → Bool} → Plain rule → Tried rule
tried_plain {rule} p = record { own = λ w e. ap rule (own-text p w e) ∙ e; within = within_same p rule false (λ t e. e) }

-- one that looks at the front alone
module _ {n : ℕ} {rule : List ℕ → Bool} (p : Front n rule) (few : n ≤ 256) where
  front-text : (w : List ℕ) → rule w ≡ true → take n (text w) ≡ take n w
  front-text w e =
      let q = p.plain w e in
      let l : length (take n w) ≡ n = length-take-le n w q.0 in
      let s : text (take n w ++ drop n w) ≡ take n w ++ text (drop n w) = plain-front (take n w) (drop n w) (plain-unescaped (take n w) q.1) in
      let r : text w ≡ take n w ++ text (drop n w) = ap text (sym (take-append-drop n w)) ∙ s in
      ap (take n) r ∙ ap (λ (k : ℕ). take k (take n w ++ text (drop n w))) (sym l) ∙ take-append_seam (take n w) (text (drop n w))

  -- what is told by the front alone
  module _ {A : Type 0} (f : List ℕ → A) (alike : (t : List ℕ) → f t ≡ f (take n t)) (w : List ℕ) where
    pub front-own : rule w ≡ true → f (text w) ≡ f w
    front-own e = alike (text w) ∙ ap f (front-text w e) ∙ sym (alike w)

    pub front_same : f (take 256 (text w)) ≡ f (text w)
    front_same = alike (take 256 (text w)) ∙ ap f (take-take n 256 (text w) few) ∙ sym (alike (text w))

pub tried_front : {n : ℕ} {rule : List ℕ → Bool} → Front n rule → n ≤ 256 → Tried rule
tried_front {rule = rule} p few = record { own = λ w e. front-own p few rule p.alike w e ∙ e; within = front_same p few rule p.alike }

pub tried_any : Tried (λ t. true)
tried_any = record { own = λ w e. refl; within = λ w. refl }

-- either of two rules, by a test that the text has no part in
pub tried_by : (b : Bool) {f g : List ℕ → Bool} → Tried f → Tried g → Tried (λ t. cond b (f t) (g t))
tried_by true p q = record { own = p.own; within = p.within }
tried_by false p q = record { own = q.own; within = q.within }

-- and either of two plain ones
pub plain_by : (b : Bool) {f g : List ℕ → Bool} → Plain f → Plain g → Plain (λ t. cond b (f t) (g t))
plain_by true p q = record { plain = p.plain; short = p.short }
plain_by false p q = record { plain = q.plain; short = q.short }

-- Words, by their numbers.

pub one_of_plain : (ws : List (List ℕ)) → are_plain ws ≡ true → Plain (one_of ws)
unfolding one_of
one_of_plain ws e = let p = word-plain ws e in record { plain = p.plain; short = p.short }

unknown : (n : ℕ) → ltb 0 n ≡ false → n ≡ 0
unknown n e = omega (arith, ltb-false 0 n e)

module _ (ws : List (List ℕ)) (p : are_plain ws ≡ true) (w : List ℕ) where
  words_plain : Plain (λ t. ltb 0 (word_number ws t))
  words_plain = word-plain ws p

  spelled_is : word_spelled ws w ≡ word_number ws (text w)
  unfolding word_spelled
  spelled_is = by (is_broken w) refl
    where
      by : (t : Bool) → is_broken w ≡ t → cond t 0 (word_number ws (text w)) ≡ word_number ws (text w)
      by false e = refl
      by true e = sym (unknown (word_number ws (text w)) (fails (ltb 0 (word_number ws (text w))) (λ g. clash e (unbroken words_plain w g))))

  -- a word found in the bytes as they stand, in what was decoded, and nowhere where there is no escape
  pub word-own : {k : ℕ} → k ≡ word_number ws w → (k ≡ 0 → ⊥) → k ≡ word_spelled ws w
  word-own {k} e ne =
      let t : text w ≡ w = own-text words_plain w (lt-ltb 0 (word_number ws w) (omega arith)) in
      e ∙ ap (word_number ws) (sym t) ∙ sym spelled_is

  pub word-decoded : {k : ℕ} → k ≡ word_number ws (take 256 (text w)) → k ≡ word_spelled ws w
  word-decoded e = e ∙ within_same words_plain (word_number ws) 0 (λ t u. unknown (word_number ws t) u) w ∙ sym spelled_is

  pub word_none : {k : ℕ} → k ≡ word_number ws w → k ≡ 0 → escaped w ≡ false → 0 ≡ word_spelled ws w
  word_none e z f = sym z ∙ e ∙ ap (word_number ws) (sym (plain-text w f)) ∙ sym spelled_is

-- what is told of a value, or where there is none
pub or_told : {A : Type 0} (r : Option A) {P G : Type 0} {Q : A → Type 0} → MatchOption r P Q → (r ≡ None → P → G) → ((x : A) → r ≡ Some x → Q x → G) → G
or_told None m f g = f refl m
or_told (Some x) m f g = g x refl m

pub err_told : {A E : Type 0} (r : Result A E) {G : Type 0} {P : E → Type 0} → IsErrAnd r P → ((p : E) → r ≡ Err p → P p → G) → G
err_told (Ok x) m f = absurd m
err_told (Err p) m f = f p refl m
