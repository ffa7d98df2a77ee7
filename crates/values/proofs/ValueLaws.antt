-- A string's text: by its spelling, and that it keeps the rule that the string is under; and an array's first byte. Assumes nothing.
use Prim.Native.Nat.{ℕ, ◌<◌}
use Rattle.escapes.proofs.PlainLaws.{plain-text, plain-whole}
use Rattle.escapes.specs.Rfc7159.{is_broken, text}
use Rattle.escapes.specs.Text.{escaped, measure_of}
use Rattle.escapes.specs.declared.measuring.Measured.{Measured}
use Rattle.octets.proofs.TestLaws.{and_parts}
use Rattle.octets.specs.Class.{all}
use Rattle.rules.specs.Texts.{memo_rule, no_break}
use Rattle.values.specs.Value.{freely, is_array, is_string, ruled, spelling_of, text_of}
use lib.Dec.{leb}
use lib.ListN.{length}
use mathlib.Core.Bool.{Bool, true, false, not, ◌&&◌, not-not}
use mathlib.Core.List.{List, [], ◌∷◌}
use mathlib.Core.Path.{◌≡◌, ap, ◌∙◌}
use native.Mathlib.Omega.{arith}

-- what the spelling spells
pub text-is : (v : List ℕ) {w : List ℕ} → w ≡ spelling_of v → text w ≡ text_of v
unfolding text_of
text-is v e = ap text e

pub ruled-text : (rule : List ℕ → Bool) (v : List ℕ) → ruled rule v ≡ true → rule (text_of v) ≡ true
unfolding ruled
ruled-text rule v e = (and_parts (not (is_broken (spelling_of v))) (rule (text_of v)) (and_parts (is_string v) _ e).1).1

pub free-text : (rule : List ℕ → Bool) (v : List ℕ) → freely rule v ≡ true → rule (text_of v) ≡ true
unfolding freely
free-text rule v e = (and_parts (is_string v) (rule (text_of v)) e).1

-- a string and what is told of its text by its spelling
pub no-string : (rule : List ℕ → Bool) (v : List ℕ) → is_string v ≡ false → false ≡ freely rule v
unfolding freely
no-string rule v e = rw e

pub string-text : (rule : List ℕ → Bool) (v : List ℕ) {w : List ℕ} {u k r : Bool} → u ≡ is_string v → w ≡ spelling_of v → k ≡ rule (text w) → r ≡ (u && k)
    → r ≡ freely rule v
unfolding freely
string-text rule v e f g h = h ∙ rw (e, g, text-is v f)

-- Refer-Memo by its measure
pub no-memo : (v : List ℕ) → is_string v ≡ false → false ≡ ruled memo_rule v
unfolding ruled
no-memo v e = rw e

module _ (v : List ℕ) (e : is_string v ≡ true) {w : List ℕ} (is : w ≡ spelling_of v) where
  pub measured-memo : {m : Measured} → m ≡ measure_of w → ruled memo_rule v ≡ (not m.broken && (not m.breaks && leb m.points 128))
  unfolding ruled memo_rule measure_of text_of
  measured-memo f = rw (f, is, e, not-not (all no_break (text (spelling_of v))))

  pub plain-memo : escaped w ≡ false → memo_rule w ≡ ruled memo_rule v
  unfolding ruled text_of
  plain-memo f = rw (e, ← is, plain-whole w f, plain-text w f)

-- an array has a byte
pub array-there : (v : List ℕ) → is_array v ≡ true → 0 < length v
unfolding is_array
array-there [] e = let z : ◌≡◌ {A = ℕ} 0 1 = cc in absurd (omega arith)
array-there (x ∷ v) e = omega arith
