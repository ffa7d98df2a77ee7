-- Texts joined and cut: good texts joined are good, and a good text cut before an ASCII byte is good on both sides.
-- Copies of parts of a message rest on these. Assumes nothing.
use Rattle.std.proofs.Common.{Ok, Err}
use Prim.Native.Nat.{ℕ, zero, suc, ◌≤◌, ◌<◌}
use Rattle.octets.proofs.ClassLaws.{among-low}
use Rattle.octets.proofs.TestLaws.{and_parts, picked}
use Rattle.octets.specs.Class.{among, all}
use Rattle.utf8.proofs.Rows.{one}
use Rattle.utf8.proofs.Walk.{char_at-length}
use Rattle.utf8.specs.Rfc3629.{row_of, syntax, Bounds, Begins, char, none, begins, goes_on, counted, char_of, char_at, opened, octets, verdict, Verdict}
use borrow.Author.Tests.{leb-true}
use lib.Dec.{leb}
use lib.ListN.{length}
use mathlib.Core.Bool.{Bool, true, false, ◌&&◌, cond}
use mathlib.Core.List.{List, [], ◌∷◌, ◌++◌}
use mathlib.Core.Path.{◌≡◌, refl, sym, ◌∙◌}
use native.Mathlib.Omega.{arith}

-- a verdict is good
abbrev Fine : Verdict → Type 0
Fine v = v ≡ Ok tt

-- A char at the front stays one, whatever stands behind.

goes-append : (rs : List Bounds) (s t : List ℕ) → goes_on rs s ≡ true → goes_on rs (s ++ t) ≡ true
unfolding goes_on
goes-append [] s t e = refl
goes-append (r ∷ rs) [] t e = cc
goes-append (r ∷ rs) (b ∷ s) t e =
    let p = and_parts (among r.low r.high b) (goes_on rs s) e in
    rw p.0 (goes-append rs s t p.1)

counted-some : (t : Bool) (n k : ℕ) → counted t n ≡ suc k → t ≡ true
counted-some true n k e = refl
counted-some false n k e = let z : ◌≡◌ {A = ℕ} 0 1 = cc in absurd (omega arith)

char_of-append : (x : Begins) (s t : List ℕ) (k : ℕ) → char_of x s ≡ suc k → char_of x (s ++ t) ≡ suc k
char_of-append (char rs) s t k e =
    let h : goes_on rs s ≡ true = counted-some (goes_on rs s) (suc (length rs)) k e in
    rw (goes-append rs s t h) (rw h at e)
char_of-append none s t k e = e

char_at-append : (s t : List ℕ) (k : ℕ) → char_at s ≡ suc k → char_at (s ++ t) ≡ suc k
unfolding char_at
char_at-append [] t k e = let z : ◌≡◌ {A = ℕ} 0 1 = cc in absurd (omega arith)
char_at-append (b ∷ s) t k e = char_of-append (begins b) s t k e

-- where a good text goes on, a char began
opened-fine : (n i : ℕ) (f : ℕ → Verdict) → Fine (opened n i f) → (k : ℕ) × ((n ≡ suc k) × Fine (f k))
opened-fine zero i f e = let z : Err i ≡ Ok tt = e in let y : ◌≡◌ {A = ℕ} 0 1 = cc in absurd (omega arith)
opened-fine (suc k) i f e = (k, (refl, e))

-- the place does not matter for a good text
pub anywhere : (k i j : ℕ) (s : List ℕ) → octets k i s ≡ Ok tt → octets k j s ≡ Ok tt
unfolding octets
anywhere k i j [] e = refl
anywhere (suc k) i j (b ∷ s) e = anywhere k (suc i) (suc j) s e
anywhere zero i j (b ∷ s) e =
    let o = opened-fine (char_at (b ∷ s)) i (λ k. octets k (suc i) s) e in
    rw o.1.0 (anywhere o.0 (suc i) (suc j) s o.1.1)

-- joined from within a char
join-from : (k i : ℕ) (s t : List ℕ) → k ≤ length s → octets k i s ≡ Ok tt → verdict t ≡ Ok tt → octets k i (s ++ t) ≡ Ok tt
unfolding octets
join-from zero i [] t h e g = anywhere 0 0 i t g
join-from (suc k) i [] t h e g = absurd (omega arith)
join-from (suc k) i (b ∷ s) t h e g = join-from k (suc i) s t (omega arith) e g
join-from zero i (b ∷ s) t h e g =
    let o = opened-fine (char_at (b ∷ s)) i (λ k. octets k (suc i) s) e in
    rw (char_at-append (b ∷ s) t o.0 o.1.0)
    (join-from o.0 (suc i) s t (let w = char_at-length (b ∷ s) in omega (arith, o.1.0)) o.1.1 g)

-- good texts joined are good
pub join : (s t : List ℕ) → verdict s ≡ Ok tt → verdict t ≡ Ok tt → verdict (s ++ t) ≡ Ok tt
join s t e g = join-from 0 0 s t (omega arith) e g

-- A char holds no ASCII byte behind its first, so it ends before one.

-- ranges of octets above ASCII
abbrev highs : List Bounds → Bool
highs [] = true
highs (r ∷ rs) = leb 0x80 r.low && highs rs

abbrev high : Begins → Bool
high (char rs) = highs rs
high none = true

pick_high : (t : Bool) (x y : Begins) → high x ≡ true → high y ≡ true → high (cond t x y) ≡ true
pick_high t x y = picked (λ (z : Begins). high z ≡ true) t

-- every row of a table
abbrev all_high : List (List Bounds) → Bool
all_high [] = true
all_high ([] ∷ rows) = all_high rows
all_high ((r ∷ rs) ∷ rows) = highs rs && all_high rows

row-high : (rows : List (List Bounds)) (b : ℕ) → all_high rows ≡ true → high (row_of rows b) ≡ true
row-high [] b e = refl
row-high ([] ∷ rows) b e = row-high rows b e
row-high ((r ∷ rs) ∷ rows) b e =
    let p = and_parts (highs rs) (all_high rows) e in
    pick_high (among r.low r.high b) (char rs) (row_of rows b) p.0 (row-high rows b p.1)

begins-high : (b : ℕ) → high (begins b) ≡ true
unfolding begins
begins-high b = row-high syntax b refl

module _ (b : ℕ) (q : List ℕ) (low : b < 0x80) where
  goes-cut : (rs : List Bounds) (s : List ℕ) → highs rs ≡ true → goes_on rs (s ++ (b ∷ q)) ≡ true → goes_on rs s ≡ true
  unfolding goes_on
  goes-cut [] s h e = refl
  goes-cut (r ∷ rs) [] h e =
      let k = leb-true 0x80 r.low (and_parts (leb 0x80 r.low) (highs rs) h).0 in
      let f : among r.low r.high b ≡ false = among-low r.low r.high b (omega arith) in
      let g = (and_parts (among r.low r.high b) (goes_on rs q) e).0 in
      let z : true ≡ false = sym g ∙ f in
      cc
  goes-cut (r ∷ rs) (c ∷ s) h e =
      let p = and_parts (among r.low r.high c) (goes_on rs (s ++ (b ∷ q))) e in
      rw p.0 (goes-cut rs s (and_parts (leb 0x80 r.low) (highs rs) h).1 p.1)

  char_of-cut : (x : Begins) (s : List ℕ) (k : ℕ) → high x ≡ true → char_of x (s ++ (b ∷ q)) ≡ suc k → char_of x s ≡ suc k
  char_of-cut (char rs) s k h e =
      let g : goes_on rs (s ++ (b ∷ q)) ≡ true = counted-some (goes_on rs (s ++ (b ∷ q))) (suc (length rs)) k e in
      rw (goes-cut rs s h g) (rw g at e)
  char_of-cut none s k h e = e

  cut-from : (k i : ℕ) (s : List ℕ) → k ≤ length s → octets k i (s ++ (b ∷ q)) ≡ Ok tt → (octets k i s ≡ Ok tt) × (verdict (b ∷ q) ≡ Ok tt)
  unfolding octets char_at
  cut-from zero i [] h e = (refl, anywhere 0 i 0 (b ∷ q) e)
  cut-from (suc k) i [] h e = absurd (omega arith)
  cut-from (suc k) i (c ∷ s) h e = cut-from k (suc i) s (omega arith) e
  cut-from zero i (c ∷ s) h e =
      let o = opened-fine (char_at (c ∷ (s ++ (b ∷ q)))) i (λ k. octets k (suc i) (s ++ (b ∷ q))) e in
      let f : char_at (c ∷ s) ≡ suc o.0 = char_of-cut (begins c) s o.0 (begins-high c) o.1.0 in
      let r = cut-from o.0 (suc i) s (let w = char_at-length (c ∷ s) in omega arith) o.1.1 in
      (rw f r.0, r.1)

  -- a good text cut before an ASCII byte is good on both sides
  pub cut : (s : List ℕ) → verdict (s ++ (b ∷ q)) ≡ Ok tt → (verdict s ≡ Ok tt) × (verdict (b ∷ q) ≡ Ok tt)
  cut s e = cut-from 0 0 s (omega arith) e

ascii-from : (i : ℕ) (s : List ℕ) → all (λ b. leb b 0x7F) s ≡ true → octets 0 i s ≡ Ok tt
unfolding octets all char_at goes_on
ascii-from i [] h = refl
ascii-from i (b ∷ s) h =
    let p = and_parts (leb b 0x7F) (all (λ b. leb b 0x7F) s) h in
    let k = leb-true b 0x7F p.0 in
    rw (one b (omega arith)) (ascii-from (suc i) s p.1)

-- a text of ASCII bytes alone is good
pub ascii-good : (s : List ℕ) → all (λ b. leb b 0x7F) s ≡ true → verdict s ≡ Ok tt
ascii-good s h = ascii-from 0 s h
