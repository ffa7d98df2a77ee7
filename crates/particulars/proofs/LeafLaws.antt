-- Single values: the rules by what is told of a value on the way to them. One law for each way that the code goes. Assumes nothing.
use Prim.Native.Nat.{ℕ}
use Rattle.escapes.proofs.PlainLaws.{plain-text, plain-whole}
use Rattle.escapes.specs.Rfc7159.{is_broken}
use Rattle.escapes.specs.Text.{escaped, measure_of}
use Rattle.escapes.specs.declared.measuring.Measured.{Measured}
use Rattle.octets.specs.Ascii.{ascii}
use Rattle.octets.specs.Class.{all, among, digits_rule}
use Rattle.octets.specs.Text.{same}
use Rattle.particulars.specs.Leaves.{filled_rule, keeps, metres_rule, text_rule}
use Rattle.particulars.specs.declared.types.Leaf.TheVariants.{Provider, LiveProvider, Sex, Text, Name, Filled, Telephone, Coordinate, Metres, Accuracy, Date, Day, FireId, UserId}
use Rattle.particulars.specs.declared.types.Leaf.{Leaf}
use Rattle.particulars.specs.inner.Telling.{characters_in, on_text}
use Rattle.rules.proofs.PlainLaws.{Plain, are_plain, date-plain, day-plain, digits_plain, fire-plain, is_plain, user_plain}
use Rattle.rules.specs.Texts.{points}
use Rattle.rules.specs.Words.{live_providers, providers, sexes}
use Rattle.std.specs.Prelude.{None, Option, Some}
use Rattle.values.proofs.SpelledLaws.{Tried, one_of_plain, ruled-is, tried_plain}
use Rattle.values.specs.Value.{freely, is_string, ruled, spelling_of, text_of}
use lib.Dec.{eqb, ltb}
use lib.ListN.{length, get_or}
use mathlib.Core.Bool.{Bool, true, false, not, ◌&&◌, cond}
use mathlib.Core.List.{List}
use mathlib.Core.Path.{◌≡◌, ap, refl, sym, ◌∙◌}
use native.Mathlib.Omega.{arith}

-- How many characters a string has.

module _ (v : List ℕ) where
  pub not-string : is_string v ≡ false → None ≡ characters_in v
  unfolding characters_in
  not-string e = rw e

  module _ (e : is_string v ≡ true) {w : List ℕ} (is : w ≡ spelling_of v) where
    pub plain-characters : escaped w ≡ false → {n : ℕ} → n ≡ points w → Some n ≡ characters_in v
    unfolding characters_in text_of
    plain-characters f g = rw (g, e, ← is, plain-whole w f, plain-text w f)

    pub broken-characters : {m : Measured} → m ≡ measure_of w → m.broken ≡ true → None ≡ characters_in v
    unfolding characters_in measure_of
    broken-characters {m} f b = let z : is_broken w ≡ true = sym (ap (λ (x : Measured). x.broken) f) ∙ b in rw (e, ← is, z)

    pub measured-characters : {m : Measured} → m ≡ measure_of w → m.broken ≡ false → Some m.points ≡ characters_in v
    unfolding characters_in measure_of text_of
    measured-characters {m} f b = let z : is_broken w ≡ false = sym (ap (λ (x : Measured). x.broken) f) ∙ b in rw (f, e, ← is, z)

  -- a rule that counts them
  module _ (g : ℕ → Bool) where
    counted-by : (a b : Bool) (n : ℕ) → {o : Option ℕ} → o ≡ cond (a && not b) (Some n) None
        → (o ≡ None → (a && (not b && g n)) ≡ false) × ((m : ℕ) → o ≡ Some m → (a && (not b && g n)) ≡ g m)
    counted-by true true n e = (λ f. refl, λ m f. cc)
    counted-by true false n e = (λ f. cc, λ m f. ap g (let z : n ≡ m = cc in z))
    counted-by false b n e = (λ f. refl, λ m f. cc)

    pub uncounted : None ≡ characters_in v → false ≡ ruled (λ t. g (points t)) v
    unfolding ruled characters_in
    uncounted e = sym ((counted-by (is_string v) (is_broken (spelling_of v)) (points (text_of v)) refl).0 (sym e))

    pub counted : {n : ℕ} → Some n ≡ characters_in v → g n ≡ ruled (λ t. g (points t)) v
    unfolding ruled characters_in
    counted {n} e = sym ((counted-by (is_string v) (is_broken (spelling_of v)) (points (text_of v)) refl).1 n (sym e))

  pub no-text : (lo hi : ℕ) → None ≡ characters_in v → false ≡ ruled (text_rule lo hi) v
  unfolding text_rule
  no-text lo hi e = uncounted (among lo hi) e

  pub some-text : (lo hi : ℕ) {n : ℕ} → Some n ≡ characters_in v → among lo hi n ≡ ruled (text_rule lo hi) v
  unfolding text_rule
  some-text lo hi e = counted (among lo hi) e

  pub no-filled : None ≡ characters_in v → false ≡ ruled filled_rule v
  unfolding filled_rule
  no-filled e = uncounted (ltb 0) e

  pub some-filled : {n : ℕ} → Some n ≡ characters_in v → ltb 0 n ≡ ruled filled_rule v
  unfolding filled_rule
  some-filled e = counted (ltb 0) e

-- Whole metres.

module _ (v : List ℕ) where
  pub zero-metres : same v (ascii "0") ≡ true → true ≡ metres_rule v
  unfolding metres_rule
  zero-metres e = rw e

  pub some-metres : same v (ascii "0") ≡ false → {b : Bool} → b ≡ (not (eqb (get_or v 0 0) 48) && digits_rule 1 (length v) v) → b ≡ metres_rule v
  unfolding metres_rule
  some-metres e f = rw e f

-- Words, digits, dates and identifiers.

pub provider-words : are_plain providers ≡ true
unfolding are_plain all is_plain
provider-words = refl

live-words : are_plain live_providers ≡ true
unfolding are_plain all is_plain
live-words = refl

sex-words : are_plain sexes ≡ true
unfolding are_plain all is_plain
sex-words = refl

-- no text at all
no-plain : Plain (λ t. false)
no-plain = record { plain = λ t e. cc; short = λ t e. cc }

leaf-plain : (l : Leaf) → Plain (on_text l)
unfolding on_text
leaf-plain Provider = one_of_plain providers provider-words
leaf-plain LiveProvider = one_of_plain live_providers live-words
leaf-plain Sex = one_of_plain sexes sex-words
leaf-plain (Text lo hi) = no-plain
leaf-plain (Name hi) = no-plain
leaf-plain Filled = no-plain
leaf-plain (Telephone lo) = digits_plain lo 15 (omega arith)
leaf-plain (Coordinate n) = no-plain
leaf-plain Metres = no-plain
leaf-plain Accuracy = no-plain
leaf-plain Date = date-plain
leaf-plain Day = day-plain
leaf-plain FireId = fire-plain
leaf-plain UserId = user_plain

pub leaf-tried : (l : Leaf) → Tried (on_text l)
leaf-tried l = tried_plain (leaf-plain l)

-- these leaves, by their text
pub leaf-kept : (w : ℕ) (l : Leaf) (v : List ℕ) → ((lo hi : ℕ) → l ≡ Text lo hi → ⊥) → ((n : ℕ) → l ≡ Name n → ⊥) → (l ≡ Filled → ⊥)
    → ((n : ℕ) → l ≡ Coordinate n → ⊥) → (l ≡ Metres → ⊥) → (l ≡ Accuracy → ⊥) → keeps w l v ≡ freely (on_text l) v
unfolding keeps on_text
leaf-kept w Provider v a b c d e f = ruled-is (leaf-plain Provider) v
leaf-kept w LiveProvider v a b c d e f = ruled-is (leaf-plain LiveProvider) v
leaf-kept w Sex v a b c d e f = ruled-is (leaf-plain Sex) v
leaf-kept w (Text lo hi) v a b c d e f = absurd (a lo hi refl)
leaf-kept w (Name hi) v a b c d e f = absurd (b hi refl)
leaf-kept w Filled v a b c d e f = absurd (c refl)
leaf-kept w (Telephone lo) v a b c d e f = ruled-is (leaf-plain (Telephone lo)) v
leaf-kept w (Coordinate n) v a b c d e f = absurd (d n refl)
leaf-kept w Metres v a b c d e f = absurd (e refl)
leaf-kept w Accuracy v a b c d e f = absurd (f refl)
leaf-kept w Date v a b c d e f = ruled-is (leaf-plain Date) v
leaf-kept w Day v a b c d e f = ruled-is (leaf-plain Day) v
leaf-kept w FireId v a b c d e f = ruled-is (leaf-plain FireId) v
leaf-kept w UserId v a b c d e f = ruled-is (leaf-plain UserId) v
