-- A measure, letter by letter. Assumes nothing.
use Prim.Native.Nat.{ℕ, ◌+◌, ◌/◌, ◌≤◌, ◌<◌}
use Rattle.escapes.proofs.EncodingLaws.{Row, row, row_one, row-two, row-three, row-four, one, two, three, four}
use Rattle.escapes.proofs.LetterLaws.{sound-at, escape-room, text-own, broken-own, text-escape, broken-escape, text-end, broken-end}
use Rattle.escapes.proofs.PointLaws.{points-append, points-within, one-point}
use Rattle.escapes.specs.Encoding.{encoded, low}
use Rattle.escapes.specs.Rfc7159.{escape_of, is_broken, is_surrogate, text}
use Rattle.escapes.specs.Text.{measure_of}
use Rattle.escapes.specs.declared.measuring.Measured.{Measured}
use Rattle.escapes.specs.declared.reading.Escape.{Escape}
use Rattle.escapes.specs.inner.Measuring.{added}
use Rattle.octets.proofs.ClassLaws.{all_append}
use Rattle.octets.specs.Class.{all}
use Rattle.rules.specs.Texts.{no_break, points}
use borrow.Author.Tests.{ne_eqb}
use lib.Dec.{eqb}
use lib.ListN.{length, length-append, drop, get_or}
use mathlib.Core.Bool.{Bool, true, false, not, ◌&&◌, ◌||◌, or_assoc, or-false, and-true, not-not}
use mathlib.Core.List.{List, [], ◌∷◌, ◌++◌}
use mathlib.Core.Path.{◌≡◌, refl, sym, ◌∙◌}
use native.Mathlib.Omega.{arith}

-- What was met before is not to be met again.

abbrev measured : ℕ → ℕ → Bool → Bool → Measured
measured n p b l = record { length = n; points = p; broken = b; breaks = l }

same_measure : {n n' p p' : ℕ} {b b' l l' : Bool} → n ≡ n' → p ≡ p' → b ≡ b' → l ≡ l' → measured n p b l ≡ measured n' p' b' l'
same_measure e f g h = rw (e, f, g, h)

added-first : (s : List ℕ) → measure_of s ≡ added (measured 0 0 false false) (text s) (is_broken s)
unfolding measure_of added
added-first s = same_measure (omega arith) (omega arith) refl refl

not-both : (a b : Bool) → not (a && b) ≡ (not a || not b)
not-both true b = refl
not-both false b = refl

added_more : (m : Measured) (w v : List ℕ) (t u : Bool) → added m (w ++ v) (t || u) ≡ added (added m w t) v u
unfolding added
added_more m w v t u =
    let a = length-append w v in
    let p = points-append w v in
    same_measure
    (omega arith)
    (omega arith)
    (sym (or_assoc m.broken t u))
    (rw (all_append no_break w v, not-both (all no_break w) (all no_break v)) (sym (or_assoc m.breaks (not (all no_break w)) (not (all no_break v)))))

added_none : (m : Measured) → added m [] false ≡ m
unfolding added points all
added_none m = same_measure (omega arith) (omega arith) (or-false m.broken) (or-false m.breaks)

-- A byte, and a number.

byte-breaks : (b : ℕ) → not (all no_break (b ∷ [])) ≡ (eqb b 10 || eqb b 13)
unfolding all no_break
byte-breaks b = rw (and-true (not (eqb b 10 || eqb b 13))) (not-not (eqb b 10 || eqb b 13))

no_break_lem : (b : ℕ) → 13 < b → no_break b ≡ true
unfolding no_break
no_break_lem b h = rw (ne_eqb b 10 (λ e. omega arith), ne_eqb b 13 (λ e. omega arith))

code-breaks : (c : ℕ) → not (all no_break (encoded c)) ≡ (eqb c 10 || eqb c 13)
unfolding all
code-breaks c = go (row c)
  where
    far : 13 < c → (eqb c 10 || eqb c 13) ≡ false
    far h = rw (ne_eqb c 10 (λ e. omega arith), ne_eqb c 13 (λ e. omega arith))

    tail : (x : ℕ) → no_break (low x) ≡ true
    tail x = no_break_lem (low x) (omega arith)

    go : Row c → not (all no_break (encoded c)) ≡ (eqb c 10 || eqb c 13)
    go (row_one h) = rw (one c h) (byte-breaks c)
    go (row-two h k) = rw (two c h k, no_break_lem (0xC0 + c / 64) (omega arith), tail c, far (omega arith))
    go (row-three h k) = rw (three c h k, no_break_lem (0xE0 + c / 4096) (omega arith), tail (c / 64), tail c, far (omega arith))
    go (row-four h) = rw (four c h, no_break_lem (0xF0 + c / 262144) (omega arith), tail (c / 4096), tail (c / 64), tail c, far (omega arith))

-- what `with_byte` and `with_code` answer
module _ (m : Measured) (u l : Bool) (e : l ≡ (m.breaks || u)) where
  pub byte-added : (b p : ℕ) → p ≡ points (b ∷ []) → u ≡ (eqb b 10 || eqb b 13) → measured (m.length + 1) (m.points + p) m.broken l ≡ added m (b ∷ []) false
  unfolding added
  byte-added b p f g = same_measure refl (omega arith) (sym (or-false m.broken)) (rw (byte-breaks b, ← g) e)

  pub code-added : (c n : ℕ) (t b : Bool) → n ≡ length (encoded c) → t ≡ is_surrogate c → b ≡ (m.broken || t) → u ≡ (eqb c 10 || eqb c 13) →
      measured (m.length + n) (m.points + 1) b l ≡ added m (encoded c) (is_surrogate c)
  unfolding added
  code-added c n t b f g h k = same_measure (omega arith) (omega (arith, one-point c)) (rw (← g) h) (rw (code-breaks c, ← k) e)

-- The loop of `measure`: i bytes of s are read, and m is the measure of what they spell.

pub record Sofar (s : List ℕ) (m : Measured) (i : ℕ) : Type 0 where
  pub inside : i ≤ length s
  pub short : m.length ≤ i
  pub few : m.points ≤ i
  pub is : measure_of s ≡ added m (text (drop i s)) (is_broken (drop i s))

pub start : (s : List ℕ) → Sofar s (measured 0 0 false false) 0
start s = record { inside = omega arith; short = omega arith; few = omega arith; is = added-first s }

-- t bytes more, which spell the octets w
step : {s : List ℕ} {m : Measured} {i : ℕ} (t : ℕ) (w : List ℕ) (b : Bool) → Sofar s m i →
    text (drop i s) ≡ w ++ text (drop (i + t) s) → is_broken (drop i s) ≡ (b || is_broken (drop (i + t) s)) →
    length w ≤ t → i + t ≤ length s → Sofar s (added m w b) (i + t)
unfolding added
step {s} {m} {i} t w b p e f h g =
    let p0 = p.short in
    let p1 = p.few in
    let q = points-within w in
    record {
      inside = g;
      short = omega arith;
      few = omega arith;
      is = p.is ∙ rw (e, f) (added_more m w (text (drop (i + t) s)) b (is_broken (drop (i + t) s)));
    }

pub step-own : {s : List ℕ} {m : Measured} {i : ℕ} (m' : Measured) → Sofar s m i → i < length s → (get_or s i 0 ≡ 92 → ⊥) → m' ≡ added m (get_or s i 0 ∷ []) false
    → Sofar s m' (i + 1)
step-own {s} {i = i} m' p h ne e = rw e (step 1 (get_or s i 0 ∷ []) false p (text-own s i h ne) (broken-own s i h ne) (omega arith) (omega arith))

pub step-escape : {s : List ℕ} {m : Measured} {i : ℕ} (m' : Measured) (x : Escape) → Sofar s m i → i < length s → get_or s i 0 ≡ 92 → x ≡ escape_of (drop i s) →
    m' ≡ added m (encoded x.code) (is_surrogate x.code) → Sofar s m' (i + x.took)
step-escape {s} {i = i} m' x p h eq f e =
    rw e (step x.took (encoded x.code) (is_surrogate x.code) p (text-escape s i h x f eq) (broken-escape s i h x f eq) (sound-at s i h x f).fits (escape-room s i h x f))

pub ends : {s : List ℕ} {m : Measured} {i : ℕ} → Sofar s m i → length s ≤ i → m ≡ measure_of s
ends {s} {m} {i} p h = sym (p.is ∙ rw (text-end s i h, broken-end s i h) (added_none m))
