-- The letters one by one: what is so of every escape, and what a byte or an escape adds to the text. Assumes nothing.
use Prim.Native.Nat.{ℕ, zero, suc, ◌+◌, ◌-◌, ◌≤◌, ◌<◌}
use Rattle.escapes.proofs.EncodingLaws.{length-one, at-most-three, at-most-four}
use Rattle.escapes.proofs.EscapeLaws.{short-there, escape-by, unit-there, joined_by}
use Rattle.escapes.specs.Encoding.{encoded}
use Rattle.escapes.specs.Rfc7159.{none, unit, short, is_surrogate, esc, pair, joined, escape_of, own, code, letter_of, took, Letter, letters_from, letters, spelt, lone, text}
use Rattle.escapes.specs.Rfc7159.{is_broken}
use Rattle.escapes.specs.declared.reading.Escape.{Escape}
use Rattle.octets.proofs.TestLaws.{picked}
use borrow.Author.Tests.{eq-eqb, ne_eqb}
use lib.Dec.{eqb}
use lib.ListN.{length, drop, get_or, length-drop, drop_of_length-le}
use lib.Seq.{drop-cons, drop-drop}
use mathlib.Core.Bool.{Bool, false, ◌||◌, cond}
use mathlib.Core.List.{List, [], ◌∷◌, ◌++◌}
use mathlib.Core.Path.{◌≡◌, refl, ap, ◌∙◌}
use native.Mathlib.Numerals.{add-one}
use native.Mathlib.Omega.{arith}

-- An escape is inside, its number is one of Unicode's, and its UTF-8 is shorter than it, but for a backslash that begins none.

pub record Sound (s : List ℕ) (e : Escape) : Type 0 where
  pub some : 1 ≤ e.took
  pub inside : e.took ≤ length s
  pub number : e.code < 0x110000
  pub fits : length (encoded e.code) ≤ e.took
  pub shorter : 2 ≤ e.took → length (encoded e.code) < e.took
  pub stray : e.took ≡ 1 → e.code ≡ 92

-- what the byte behind a backslash spells is a number below 80 hex, or none
abbrev Small : ℕ → Type 0
Small n = n < none → n < 0x80

small : {x y : ℕ} (t : Bool) → Small x → Small y → Small (cond t x y)
small t = picked Small t

short-small : (b : ℕ) → Small (short b)
unfolding short
short-small b =
    small (eqb b 34) (λ h. omega arith)
    (small (eqb b 92) (λ h. omega arith)
    (small (eqb b 47) (λ h. omega arith)
    (small (eqb b 98) (λ h. omega arith)
    (small (eqb b 102) (λ h. omega arith)
    (small (eqb b 110) (λ h. omega arith)
    (small (eqb b 114) (λ h. omega arith)
    (small (eqb b 116) (λ h. omega arith) (λ h. absurd (omega arith)))))))))

sound-six : (s : List ℕ) (u : ℕ) → 6 ≤ length s → u < none → Sound s (esc u 6)
sound-six s u h k = record {
  some = omega arith;
  inside = h;
  number = omega arith;
  fits = omega (arith, at-most-three u k);
  shorter = λ l. omega (arith, at-most-three u k);
  stray = λ l. absurd (omega arith);
}

sound-joined : (s : List ℕ) (u v : ℕ) → 6 ≤ length s → u < none → v ≡ unit (drop 6 s) → Sound s (joined u v)
unfolding pair
sound-joined s u v h k e = joined_by u v (Sound s) (sound-six s u h k) (λ a b f g.
    let t = unit-there (drop 6 s) (let z : v ≡ unit (drop 6 s) = e in omega arith) in
    record {
      some = omega arith;
      inside = omega (arith, length-drop 6 s);
      number = omega arith;
      fits = omega (arith, at-most-four (pair u v));
      shorter = λ l. omega (arith, at-most-four (pair u v));
      stray = λ l. absurd (omega arith);
    })

pub sound : (s : List ℕ) → 1 ≤ length s → Sound s (escape_of s)
sound s h = escape-by s (Sound s) two (λ b. sound-joined s (unit s) (unit (drop 6 s)) (unit-there s b) b refl) (record {
  some = omega arith;
  inside = h;
  number = omega arith;
  fits = omega (arith, length-one 92 (omega arith));
  shorter = λ l. absurd (omega arith);
  stray = λ l. refl;
})
  where
    two : short (get_or s 1 0) < none → Sound s (esc (short (get_or s 1 0)) 2)
    two a = let q = short-small (get_or s 1 0) a in record {
      some = omega arith;
      inside = short-there s a;
      number = omega arith;
      fits = omega (arith, length-one (short (get_or s 1 0)) q);
      shorter = λ l. omega (arith, length-one (short (get_or s 1 0)) q);
      stray = λ l. absurd (omega arith);
    }

-- The first letter.

-- it is at least one byte and inside
pub took-some : (s : List ℕ) → 1 ≤ length s → (1 ≤ took s) × (took s ≤ length s)
unfolding took
took-some s h = picked (λ (n : ℕ). (1 ≤ n) × (n ≤ length s)) (eqb (get_or s 0 0) 92) ((sound s h).some, (sound s h).inside) (omega arith, h)

-- the bytes of a letter already met are passed
passed : (k : ℕ) (s : List ℕ) → letters_from k s ≡ letters (drop k s)
unfolding letters_from
passed zero s = refl
passed (suc k) [] = refl
passed (suc k) (b ∷ s) = passed k s

first : (b : ℕ) (s : List ℕ) → letters (b ∷ s) ≡ letter_of (b ∷ s) ∷ letters (drop (took (b ∷ s)) (b ∷ s))
unfolding letters_from
first b s = ap (λ (l : List Letter). letter_of (b ∷ s) ∷ l) (passed (took (b ∷ s) - 1) s ∙ rest (took (b ∷ s)) (took-some (b ∷ s) (omega arith)).0)
  where
    rest : (n : ℕ) → 1 ≤ n → letters (drop (n - 1) s) ≡ letters (drop n (b ∷ s))
    rest zero h = absurd (omega arith)
    rest (suc n) h = let a : suc n - 1 ≡ n = omega arith in rw a

-- What a byte that stands for itself adds.

module _ (s : List ℕ) (i : ℕ) (h : i < length s) where
  here : drop i s ≡ get_or s i 0 ∷ drop (suc i) s
  here = drop-cons s i 0 h

  module _ (ne : get_or s i 0 ≡ 92 → ⊥) where
    turn-own : letters (drop i s) ≡ own (get_or s i 0) ∷ letters (drop (i + 1) s)
    unfolding letter_of took
    turn-own = rw here (first (get_or s i 0) (drop (suc i) s) ∙ simp (ne_eqb (get_or s i 0) 92 ne, add-one i))

    pub text-own : text (drop i s) ≡ get_or s i 0 ∷ text (drop (i + 1) s)
    unfolding text spelt
    text-own = rw turn-own

    pub broken-own : is_broken (drop i s) ≡ is_broken (drop (i + 1) s)
    unfolding is_broken lone
    broken-own = rw turn-own

  -- What an escape adds.

  module _ (e : Escape) (f : e ≡ escape_of (drop i s)) where
    pub sound-at : Sound (drop i s) e
    sound-at = rw f (sound (drop i s) (omega (arith, length-drop i s)))

    pub escape-room : i + e.took ≤ length s
    escape-room = let q = sound-at.inside in omega (arith, length-drop i s)

    module _ (eq : get_or s i 0 ≡ 92) where
      turn-escape : letters (drop i s) ≡ code e.code ∷ letters (drop (i + e.took) s)
      unfolding letter_of took
      turn-escape = rw (f, ← drop-drop (escape_of (drop i s)).took i s, here) (first (get_or s i 0) (drop (suc i) s) ∙ simp (eq-eqb (get_or s i 0) 92 eq))

      pub text-escape : text (drop i s) ≡ encoded e.code ++ text (drop (i + e.took) s)
      unfolding text spelt
      text-escape = rw turn-escape

      pub broken-escape : is_broken (drop i s) ≡ (is_surrogate e.code || is_broken (drop (i + e.took) s))
      unfolding is_broken lone
      broken-escape = rw turn-escape

-- Behind the end there is no letter.

module _ (s : List ℕ) (i : ℕ) (h : length s ≤ i) where
  pub text-end : text (drop i s) ≡ []
  unfolding text spelt letters_from
  text-end = rw (drop_of_length-le s h)

  pub broken-end : is_broken (drop i s) ≡ false
  unfolding is_broken lone letters_from
  broken-end = rw (drop_of_length-le s h)
