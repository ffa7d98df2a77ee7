-- A text is never longer than its spelling, and one that is as long is its spelling. Assumes nothing.
use Prim.Native.Nat.{ℕ, zero, suc, ◌+◌, ◌-◌, ◌≤◌, ◌<◌}
use Rattle.escapes.proofs.EncodingLaws.{one}
use Rattle.escapes.proofs.LetterLaws.{Sound, sound, took-some}
use Rattle.escapes.specs.Encoding.{encoded}
use Rattle.escapes.specs.Rfc7159.{escape_of, own, code, letter_of, took, letters_from, octets_of, spelt, text}
use Rattle.escapes.specs.declared.reading.Escape.{Escape}
use borrow.Author.Tests.{eqb-true}
use lib.Dec.{eqb}
use lib.ListN.{drop, length, get_or, length-append}
use mathlib.Core.Bool.{Bool, true, false, cond}
use mathlib.Core.List.{List, [], ◌∷◌, ◌++◌}
use mathlib.Core.Path.{◌≡◌, refl, ap, ◌∙◌}
use native.Mathlib.Decide.{dec_lt}
use native.Mathlib.Omega.{arith}

letter-fits : (s : List ℕ) → 1 ≤ length s → length (octets_of (letter_of s)) ≤ took s
unfolding letter_of took
letter-fits s h = go (eqb (get_or s 0 0) 92)
  where
    go : (t : Bool) → length (octets_of (cond t (code (escape_of s).code) (own (get_or s 0 0)))) ≤ cond t (escape_of s).took 1
    go true = (sound s h).fits
    go false = omega arith

never_longer_from : (k : ℕ) (s : List ℕ) → k ≤ length s → length (spelt (letters_from k s)) + k ≤ length s
unfolding letters_from spelt
never_longer_from zero [] h = omega arith
never_longer_from (suc k) [] h = absurd (omega arith)
never_longer_from (suc k) (b ∷ s) h = let r = never_longer_from k s (omega arith) in omega arith
never_longer_from zero (b ∷ s) h =
    let t = took-some (b ∷ s) (omega arith) in
    let r = never_longer_from (took (b ∷ s) - 1) s (omega arith) in
    let f = letter-fits (b ∷ s) (omega arith) in
    omega (arith, length-append (octets_of (letter_of (b ∷ s))) (spelt (letters_from (took (b ∷ s) - 1) s)))

pub never_longer : (s : List ℕ) → length (text s) ≤ length s
unfolding text
never_longer s = let r = never_longer_from 0 s (omega arith) in omega arith

-- an escape at the front of a text that is as long as its spelling is a backslash by itself
stray-front : (b : ℕ) (s : List ℕ) (e : Escape) → Sound (b ∷ s) e → b ≡ 92 → (length (spelt (letters_from 0 s)) ≡ length s → spelt (letters_from 0 s) ≡ s)
    → length (encoded e.code ++ spelt (letters_from (e.took - 1) s)) ≡ suc (length s) → encoded e.code ++ spelt (letters_from (e.took - 1) s) ≡ b ∷ s
stray-front b s e x f ih g =
    let y : e.took - 1 ≡ 0 = let z = alone in omega arith in
    let c : encoded e.code ≡ 92 ∷ [] = ap encoded (x.stray alone) ∙ one 92 (omega arith) in
    let r : length ((92 ∷ []) ++ spelt (letters_from 0 s)) ≡ suc (length s) = rw (c, y) at g in
    rw (c, y, f) (ap (λ (l : List ℕ). 92 ∷ l) (ih (omega arith)))
  where
    by : Dec (1 < e.took) → e.took ≡ 1
    by (yes h) =
        let i = x.inside in
        let n = never_longer_from (e.took - 1) s (omega arith) in
        let a = length-append (encoded e.code) (spelt (letters_from (e.took - 1) s)) in
        absurd (omega (arith, x.shorter (omega arith)))
    by (no h) = omega (arith, x.some)

    alone : e.took ≡ 1
    alone = by (dec_lt 1 e.took)

as_long-by : (b : ℕ) (s : List ℕ) (t : Bool) → eqb b 92 ≡ t → (length (spelt (letters_from 0 s)) ≡ length s → spelt (letters_from 0 s) ≡ s)
    → length (octets_of (cond t (code (escape_of (b ∷ s)).code) (own b)) ++ spelt (letters_from (cond t (escape_of (b ∷ s)).took 1 - 1) s)) ≡ suc (length s)
    → octets_of (cond t (code (escape_of (b ∷ s)).code) (own b)) ++ spelt (letters_from (cond t (escape_of (b ∷ s)).took 1 - 1) s) ≡ b ∷ s
as_long-by b s false f ih e = ap (λ (l : List ℕ). b ∷ l) (ih (omega arith))
as_long-by b s true f ih e = stray-front b s (escape_of (b ∷ s)) (sound (b ∷ s) (omega arith)) (eqb-true b 92 f) ih e

as_long-from : (k : ℕ) (s : List ℕ) → k ≤ length s → length (spelt (letters_from k s)) + k ≡ length s → spelt (letters_from k s) ≡ drop k s
unfolding letters_from spelt letter_of took
as_long-from zero [] h e = refl
as_long-from (suc k) [] h e = absurd (omega arith)
as_long-from (suc k) (b ∷ s) h e = as_long-from k s (omega arith) (omega arith)
as_long-from zero (b ∷ s) h e =
    as_long-by b s (eqb b 92) refl (λ f. as_long-from zero s (omega arith) (omega (arith, f))) (omega (arith, e))

-- a text that is as long as its spelling is its spelling
pub as_long : (s : List ℕ) → length (text s) ≡ length s → text s ≡ s
unfolding text
as_long s e = as_long-from 0 s (omega arith) (omega arith)
