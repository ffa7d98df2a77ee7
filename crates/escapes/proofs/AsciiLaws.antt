-- The bytes of an escape are ASCII. Assumes nothing.
use Prim.Native.Nat.{ℕ, zero, suc, ◌+◌, ◌-◌, ◌*◌, ◌≤◌, ◌<◌}
use Rattle.escapes.proofs.EscapeLaws.{escape-by, joined_by}
use Rattle.escapes.specs.Rfc7159.{none, nibble, quad, unit, short, joined, escape_of, took}
use Rattle.escapes.specs.declared.reading.Escape.{Escape}
use Rattle.octets.proofs.ClassLaws.{among_in, digit_in}
use Rattle.octets.proofs.TestLaws.{Either, and_parts, either}
use Rattle.octets.specs.Class.{among, is_digit}
use borrow.Author.Tests.{eqb-true, ltb-true, ne_eqb}
use lib.Dec.{eqb, ltb}
use lib.ListN.{drop, get_or}
use lib.Seq.{get_or-drop}
use mathlib.Core.Bool.{Bool, true, false, ◌&&◌, cond}
use mathlib.Core.List.{List, ◌∷◌}
use mathlib.Core.Logic.{inl, inr}
use mathlib.Core.Path.{◌≡◌, refl, ap, ◌∙◌}
use native.Mathlib.Decide.{dec_lt}
use native.Mathlib.Omega.{arith}

-- the first k bytes are below 80 hex
abbrev pub Low : ℕ → List ℕ → Type 0
Low k s = (j : ℕ) → j < k → get_or s j 0 < 0x80

pick_some : (t : Bool) (n : ℕ) → cond t n none < none → (t ≡ true) × (n < none)
pick_some true n h = (refl, h)
pick_some false n h = absurd (omega arith)

nibble-ascii : (b : ℕ) → nibble b < 16 → b < 0x80
unfolding nibble
nibble-ascii b h = go (either (is_digit b)) (either (among 65 70 b)) (either (among 97 102 b))
  where
    go : Either (is_digit b) → Either (among 65 70 b) → Either (among 97 102 b) → b < 0x80
    go (inl e) f g = let q = digit_in b e in omega arith
    go (inr e) (inl f) g = let q = among_in 65 70 b f in omega arith
    go (inr e) (inr f) (inl g) = let q = among_in 97 102 b g in omega arith
    go (inr e) (inr f) (inr g) = let z : nibble b ≡ 16 = rw (e, f, g) in absurd (omega arith)

quad-ascii : (a b c d : ℕ) → quad (nibble a) (nibble b) (nibble c) (nibble d) < none → (a < 0x80) × ((b < 0x80) × ((c < 0x80) × (d < 0x80)))
unfolding quad
quad-ascii a b c d h =
    let test : ℕ → Bool = λ x. ltb (nibble x) 16 in
    let n : ℕ = nibble a * 4096 + nibble b * 256 + nibble c * 16 + nibble d in
    let p = and_parts (test a) (test b && (test c && test d)) (pick_some (test a && (test b && (test c && test d))) n h).0 in
    let q = and_parts (test b) (test c && test d) p.1 in
    let r = and_parts (test c) (test d) q.1 in (
      nibble-ascii a (ltb-true (nibble a) 16 p.0),
      (nibble-ascii b (ltb-true (nibble b) 16 q.0), (nibble-ascii c (ltb-true (nibble c) 16 r.0), nibble-ascii d (ltb-true (nibble d) 16 r.1))),
    )

low-six : (s : List ℕ) → get_or s 0 0 < 0x80 → get_or s 1 0 < 0x80 → get_or s 2 0 < 0x80 → get_or s 3 0 < 0x80 → get_or s 4 0 < 0x80 → get_or s 5 0 < 0x80 → Low 6 s
low-six s a b c d e f zero h = a
low-six s a b c d e f (suc zero) h = b
low-six s a b c d e f (suc (suc zero)) h = c
low-six s a b c d e f (suc (suc (suc zero))) h = d
low-six s a b c d e f (suc (suc (suc (suc zero)))) h = e
low-six s a b c d e f (suc (suc (suc (suc (suc zero))))) h = f
low-six s a b c d e f (suc (suc (suc (suc (suc (suc j)))))) h = absurd (omega arith)

unit-ascii : (s : List ℕ) → unit s < none → Low 6 s
unfolding unit
unit-ascii s h =
    let p = pick_some (eqb (get_or s 0 0) 92 && eqb (get_or s 1 0) 117) (quad (nibble (get_or s 2 0)) (nibble (get_or s 3 0)) (nibble (get_or s 4 0)) (nibble (get_or s 5 0))) h in
    let e = and_parts (eqb (get_or s 0 0) 92) (eqb (get_or s 1 0) 117) p.0 in
    let a = eqb-true (get_or s 0 0) 92 e.0 in
    let b = eqb-true (get_or s 1 0) 117 e.1 in
    let q = quad-ascii (get_or s 2 0) (get_or s 3 0) (get_or s 4 0) (get_or s 5 0) p.1 in
    low-six s (omega arith) (omega arith) q.0 q.1.0 q.1.1.0 q.1.1.1

short-ascii : (b : ℕ) → short b < none → b < 0x80
unfolding short
short-ascii b h = go (dec_lt b 0x80)
  where
    go : Dec (b < 0x80) → b < 0x80
    go (yes a) = a
    go (no a) =
        let other : (n : ℕ) → n < 0x80 → eqb b n ≡ false = λ n k. ne_eqb b n (λ e. omega arith) in
        let z : short b ≡ none = simp (
          other 34 (omega arith),
          other 92 (omega arith),
          other 47 (omega arith),
          other 98 (omega arith),
          other 102 (omega arith),
          other 110 (omega arith),
          other 114 (omega arith),
          other 116 (omega arith),
        ) in
        absurd (omega arith)

joined-ascii : (s : List ℕ) (u v : ℕ) → Low 6 s → v ≡ unit (drop 6 s) → Low (joined u v).took s
joined-ascii s u v l e = joined_by u v (λ (x : Escape). Low x.took s) l (λ a b f g. twelve g)
  where
    twelve : v ≤ 0xDFFF → Low 12 s
    twelve h j k = by (dec_lt j 6)
      where
        by : Dec (j < 6) → get_or s j 0 < 0x80
        by (yes a) = l j a
        by (no a) =
            let q = unit-ascii (drop 6 s) (omega arith) (j - 6) (omega arith) in
            let z : 6 + (j - 6) ≡ j = omega arith in
            let y : get_or (drop 6 s) (j - 6) 0 ≡ get_or s j 0 = get_or-drop 6 s (j - 6) 0 ∙ ap (λ (n : ℕ). get_or s n 0) z in
            omega arith

escape_ascii : (s : List ℕ) → get_or s 0 0 ≡ 92 → Low (escape_of s).took s
escape_ascii s e = escape-by s (λ (x : Escape). Low x.took s) two (λ b. joined-ascii s (unit s) (unit (drop 6 s)) (unit-ascii s b) refl) one
  where
    two : short (get_or s 1 0) < none → Low 2 s
    two h zero k = omega arith
    two h (suc zero) k = short-ascii (get_or s 1 0) h
    two h (suc (suc j)) k = absurd (omega arith)

    one : Low 1 s
    one zero k = omega arith
    one (suc j) k = absurd (omega arith)

-- all bytes of the letter that begins with a backslash
pub letter-ascii : (b : ℕ) (s : List ℕ) → eqb b 92 ≡ true → Low (took (b ∷ s)) (b ∷ s)
unfolding took
letter-ascii b s e = rw e (escape_ascii (b ∷ s) (eqb-true b 92 e))
