-- The scan of `Places` passes over whatever a rule of RFC 7159 derives, rule by rule: from a state to a state (`Passes`), in a string or outside, with so
-- many brackets open. A value leaves it as it was (`p_value`). Cited by proofs/GrammarCore.antt. Assumes nothing.
use mathlib.Core.Path.{◌≡◌, refl, ap, ◌∙◌}
use mathlib.Core.Bool.{true, false}
use mathlib.Core.List.{List, [], ◌∷◌, ◌++◌, append_assoc}
use Prim.Native.Nat.{ℕ, zero, suc, ◌+◌, ◌≤◌, ◌<◌}
use native.Mathlib.Omega.{arith}
use lib.ListN.{length, length-append}
use lib.Dec.{eqb}
use borrow.Author.Tests.{ne_eqb}
use Rattle.json_text.specs.Places.{is_open, is_shut, Inside, outside, quoted, escaped, left}
use Rattle.json_text.specs.Rfc7159.{Rule, Bytes, bytes as it, Byte, Range, range, AtLeast, at_least, ◌⨾◌, both, ◌or◌, left as one_of, right, Opt, absent}
use Rattle.json_text.specs.Rfc7159.{present, Star, none, more, DIGIT, HEXDIG, ws, name_separator, value_separator, False, null, True, number, char, string}
use Rattle.json_text.specs.Rfc7159.{member, object, array, value}
use Rattle.json_text.proofs.ScanLaws.{Calm, calm, calm-letter, left-calm, left-quote, left_open, left-shut, left-closes, left_back, left-char, left-taken}

-- What a rule derives, the scan passes over: from x with n brackets open to x' with n'.
pub record Passes (A : Rule) (x : Inside) (n : ℕ) (x' : Inside) (n' : ℕ) : Type 0 where
  pub run : (s : List ℕ) → A s → (r : List ℕ) → left (s ++ r) x n ≡ length s + left r x' n'

-- one byte does so
record Moves (b : ℕ) (x : Inside) (n : ℕ) (x' : Inside) (n' : ℕ) : Type 0 where
  does : (r : List ℕ) → left (b ∷ r) x n ≡ suc (left r x' n')

one_byte : {b : ℕ} {x x' : Inside} {n n' : ℕ} → Moves b x n x' n' → (r : List ℕ) → left ((b ∷ []) ++ r) x n ≡ length (b ∷ []) + left r x' n'
one_byte f r = let e = f.does r in omega arith

module _ {x x' : Inside} {n n' : ℕ} where
  byte-run : {b : ℕ} → Moves b x n x' n' → (s : List ℕ) → Byte b s → (r : List ℕ) → left (s ++ r) x n ≡ length s + left r x' n'
  byte-run f s it r = one_byte f r

  p_byte : {b : ℕ} → Moves b x n x' n' → Passes (Byte b) x n x' n'
  p_byte f = record { run = byte-run f }

  range-run : {lo hi : ℕ} → ((b : ℕ) → lo ≤ b → b ≤ hi → Moves b x n x' n') → (s : List ℕ) → Range lo hi s → (r : List ℕ) → left (s ++ r) x n ≡ length s + left r x' n'
  range-run f s (range {b} l u) r = one_byte (f b l u) r

  p_range : {lo hi : ℕ} → ((b : ℕ) → lo ≤ b → b ≤ hi → Moves b x n x' n') → Passes (Range lo hi) x n x' n'
  p_range f = record { run = range-run f }

  least-run : {lo : ℕ} → ((b : ℕ) → lo ≤ b → Moves b x n x' n') → (s : List ℕ) → AtLeast lo s → (r : List ℕ) → left (s ++ r) x n ≡ length s + left r x' n'
  least-run f s (at_least {b} l) r = one_byte (f b l) r

  p_least : {lo : ℕ} → ((b : ℕ) → lo ≤ b → Moves b x n x' n') → Passes (AtLeast lo) x n x' n'
  p_least f = record { run = least-run f }

  or-run : (A B : Rule) → Passes A x n x' n' → Passes B x n x' n' → (s : List ℕ) → (A or B) s → (r : List ℕ) → left (s ++ r) x n ≡ length s + left r x' n'
  or-run A B f g s (one_of y) = f.run s y
  or-run A B f g s (right y) = g.run s y

  infixr 40 ◌or_else◌
  ◌or_else◌ : {A B : Rule} → Passes A x n x' n' → Passes B x n x' n' → Passes (A or B) x n x' n'
  ◌or_else◌ {A} {B} f g = record { run = or-run A B f g }

module _ {x : Inside} {n : ℕ} where
  opt_run : (A : Rule) → Passes A x n x n → (s : List ℕ) → Opt A s → (r : List ℕ) → left (s ++ r) x n ≡ length s + left r x n
  opt_run A f s absent r = omega arith
  opt_run A f s (present y) r = f.run s y r

  p_opt : {A : Rule} → Passes A x n x n → Passes (Opt A) x n x n
  p_opt {A} f = record { run = opt_run A f }

  star_run : (A : Rule) → Passes A x n x n → (s : List ℕ) → Star A s → (r : List ℕ) → left (s ++ r) x n ≡ length s + left r x n
  star_run A f s none r = omega arith
  star_run A f s (more {s = p} {t = q} y z) r =
      let e = ap (λ (l : List ℕ). left l x n) (append_assoc p q r) ∙ f.run p y (q ++ r) in
      omega (arith, star_run A f q z r, length-append p q)

  p_star : {A : Rule} → Passes A x n x n → Passes (Star A) x n x n
  p_star {A} f = record { run = star_run A f }

module _ {A B : Rule} {x x₁ x₂ : Inside} {n n₁ n₂ : ℕ} where
  both_run : Passes A x n x₁ n₁ → Passes B x₁ n₁ x₂ n₂ → (s : List ℕ) → (A ⨾ B) s → (r : List ℕ) → left (s ++ r) x n ≡ length s + left r x₂ n₂
  both_run f g s (both {s = p} {t = q} y z) r =
      let e = ap (λ (l : List ℕ). left l x n) (append_assoc p q r) ∙ f.run p y (q ++ r) in
      omega (arith, g.run q z r, length-append p q)

  infixr 50 ◌and_then◌
  pub ◌and_then◌ : Passes A x n x₁ n₁ → Passes B x₁ n₁ x₂ n₂ → Passes (A ⨾ B) x n x₂ n₂
  ◌and_then◌ f g = record { run = both_run f g }

-- Outside strings, with a bracket open.
calm-byte : (b n : ℕ) → Calm b → Moves b outside (suc n) outside (suc n)
calm-byte b n c = record { does = λ r. left-calm b r (suc n) n refl c }

low : (b : ℕ) → b < 91 → (b ≡ 34 → ⊥) → Calm b
low b l h = calm b h (omega arith) (omega arith) (omega arith) (omega arith)

p_low : (b n : ℕ) → b < 91 → (b ≡ 34 → ⊥) → Passes (Byte b) outside (suc n) outside (suc n)
p_low b n l h = p_byte (calm-byte b n (low b l h))

p_digit : (n : ℕ) → Passes DIGIT outside (suc n) outside (suc n)
p_digit n = p_range (λ b l u. calm-byte b n (low b (omega arith) (omega arith)))

pub p_ws : (n : ℕ) → Passes ws outside (suc n) outside (suc n)
p_ws n = p_star (p_low 0x20 n (omega arith) (omega arith) or_else p_low 0x09 n (omega arith) (omega arith) or_else p_low 0x0A n (omega arith) (omega arith) or_else p_low 0x0D n
    (omega arith) (omega arith))

p_number : (n : ℕ) → Passes number outside (suc n) outside (suc n)
p_number n =
    p_opt (p_low 0x2D n (omega arith) (omega arith))
    and_then (p_low 0x30 n (omega arith) (omega arith) or_else p_range (λ b l u. calm-byte b n (low b (omega arith) (omega arith))) and_then p_star (p_digit n))
    and_then p_opt (p_low 0x2E n (omega arith) (omega arith) and_then p_digit n and_then p_star (p_digit n))
    and_then p_opt ((p_byte (calm-byte 0x65 n (calm-letter 0x65 (omega arith) (omega arith))) or_else p_low 0x45 n (omega arith) (omega arith)) and_then p_opt
    (p_low 0x2D n (omega arith) (omega arith) or_else p_low 0x2B n (omega arith) (omega arith)) and_then p_digit n and_then p_star (p_digit n))

abbrev Calms : List ℕ → Type 0
Calms [] = Unit
Calms (b ∷ bs) = Calm b × Calms bs

calms_run : (n : ℕ) (v r : List ℕ) → Calms v → left (v ++ r) outside (suc n) ≡ length v + left r outside (suc n)
calms_run n [] r h = omega arith
calms_run n (b ∷ v) r h = omega (arith, (calm-byte b n h.0).does (v ++ r), calms_run n v r h.1)

literal-run : (n : ℕ) (w : List ℕ) → Calms w → (s : List ℕ) → Bytes w s → (r : List ℕ) → left (s ++ r) outside (suc n) ≡ length s + left r outside (suc n)
literal-run n w h s it r = calms_run n w r h

p_literal : (n : ℕ) {w : List ℕ} → Calms w → Passes (Bytes w) outside (suc n) outside (suc n)
p_literal n {w} h = record { run = literal-run n w h }

p_false : (n : ℕ) → Passes False outside (suc n) outside (suc n)
p_false n = p_literal n (
  calm-letter 0x66 (omega arith) (omega arith),
  (
    calm-letter 0x61 (omega arith) (omega arith),
    (calm-letter 0x6C (omega arith) (omega arith), (calm-letter 0x73 (omega arith) (omega arith), (calm-letter 0x65 (omega arith) (omega arith), tt))),
  ),
)

p_null : (n : ℕ) → Passes null outside (suc n) outside (suc n)
p_null n = p_literal n (
  calm-letter 0x6E (omega arith) (omega arith),
  (calm-letter 0x75 (omega arith) (omega arith), (calm-letter 0x6C (omega arith) (omega arith), (calm-letter 0x6C (omega arith) (omega arith), tt))),
)

p_true : (n : ℕ) → Passes True outside (suc n) outside (suc n)
p_true n = p_literal n (
  calm-letter 0x74 (omega arith) (omega arith),
  (calm-letter 0x72 (omega arith) (omega arith), (calm-letter 0x75 (omega arith) (omega arith), (calm-letter 0x65 (omega arith) (omega arith), tt))),
)

-- In strings, with any number of brackets open.
in_string : (b n : ℕ) → (b ≡ 34 → ⊥) → (b ≡ 92 → ⊥) → Moves b quoted n quoted n
in_string b n h g = record { does = λ r. left-char b r n (ne_eqb b 34 h) (ne_eqb b 92 g) }

p_hex : (n : ℕ) → Passes HEXDIG quoted n quoted n
p_hex n = p_range (λ b l u. in_string b n (omega arith) (omega arith)) or_else p_range (λ b l u. in_string b n (omega arith) (omega arith)) or_else p_range
    (λ b l u. in_string b n (omega arith) (omega arith))

p_taken : (b n : ℕ) → Passes (Byte b) escaped n quoted n
p_taken b n = p_byte (record { does = λ r. left-taken b r n })

pub p_chars : (n : ℕ) → Passes (Star char) quoted n quoted n
p_chars n =
    p_star
    ((p_range (λ b l u. in_string b n (omega arith) (omega arith)) or_else p_range (λ b l u. in_string b n (omega arith) (omega arith)) or_else p_least
    (λ b l. in_string b n (omega arith) (omega arith)))
    or_else p_byte (record { does = λ r. left_back 92 r n refl refl })
    and_then (p_taken 0x22 n or_else p_taken 0x5C n or_else p_taken 0x2F n or_else p_taken 0x62 n or_else p_taken 0x66 n or_else p_taken 0x6E n or_else p_taken 0x72 n or_else
    p_taken 0x74 n or_else p_taken 0x75 n and_then p_hex n and_then p_hex n and_then p_hex n and_then p_hex n))

pub p_quote : (n : ℕ) → Passes (Byte 0x22) quoted n outside n
p_quote n = p_byte (record { does = λ r. left-closes 34 r n refl })

p_string : (n : ℕ) → Passes string outside (suc n) outside (suc n)
p_string n = p_byte (record { does = λ r. left-quote 34 r (suc n) n refl refl }) and_then p_chars (suc n) and_then p_quote (suc n)

-- Brackets.
p_open : (b n : ℕ) → eqb b 34 ≡ false → is_open b ≡ true → Passes (Byte b) outside (suc n) outside (suc (suc n))
p_open b n h o = p_byte (record { does = λ r. left_open b r (suc n) n refl h o })

p_shut : (b n : ℕ) → eqb b 34 ≡ false → is_open b ≡ false → is_shut b ≡ true → Passes (Byte b) outside (suc n) outside n
p_shut b n h o c = p_byte (record { does = λ r. left-shut b r (suc n) n refl h o c })

open_91 : is_open 91 ≡ true
unfolding is_open
open_91 = refl

open_123 : is_open 123 ≡ true
unfolding is_open
open_123 = refl

pub p_end_93 : (n : ℕ) → Passes (Byte 0x5D) outside (suc n) outside n
unfolding is_open is_shut
p_end_93 n = p_shut 93 n refl refl refl

pub p_end_125 : (n : ℕ) → Passes (Byte 0x7D) outside (suc n) outside n
unfolding is_open is_shut
p_end_125 n = p_shut 125 n refl refl refl

p_comma : (n : ℕ) → Passes value_separator outside (suc n) outside (suc n)
p_comma n = p_ws n and_then p_low 0x2C n (omega arith) (omega arith) and_then p_ws n

p_colon : (n : ℕ) → Passes name_separator outside (suc n) outside (suc n)
p_colon n = p_ws n and_then p_low 0x3A n (omega arith) (omega arith) and_then p_ws n

-- what stands between brackets, over what a value is
module _ (X : Rule) (p : (n : ℕ) → Passes X outside (suc n) outside (suc n)) (n : ℕ) where
  pub p_values : Passes (Opt (X ⨾ Star (value_separator ⨾ X))) outside (suc n) outside (suc n)
  p_values = p_opt (p n and_then p_star (p_comma n and_then p n))

  p_member : Passes (member X) outside (suc n) outside (suc n)
  p_member = p_string n and_then p_colon n and_then p n

  pub p_members : Passes (Opt (member X ⨾ Star (value_separator ⨾ member X))) outside (suc n) outside (suc n)
  p_members = p_opt (p_member and_then p_star (p_comma n and_then p_member))

p_array : (X : Rule) (p : (n : ℕ) → Passes X outside (suc n) outside (suc n)) (n : ℕ) → Passes (array X) outside (suc n) outside (suc n)
p_array X p n = (p_ws n and_then p_open 91 n refl open_91 and_then p_ws (suc n)) and_then p_values X p (suc n) and_then p_ws (suc n) and_then p_end_93 (suc n) and_then p_ws n

p_object : (X : Rule) (p : (n : ℕ) → Passes X outside (suc n) outside (suc n)) (n : ℕ) → Passes (object X) outside (suc n) outside (suc n)
p_object X p n = (p_ws n and_then p_open 123 n refl open_123 and_then p_ws (suc n)) and_then p_members X p (suc n) and_then p_ws (suc n) and_then p_end_125 (suc n) and_then p_ws n

pub p_value : (d n : ℕ) → Passes (value d) outside (suc n) outside (suc n)
p_value zero n = p_false n or_else p_null n or_else p_true n or_else p_number n or_else p_string n
p_value (suc d) n = p_false n or_else p_null n or_else p_true n or_else p_object (value d) (p_value d) n or_else p_array (value d) (p_value d) n or_else p_number n or_else
    p_string n
