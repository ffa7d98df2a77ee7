-- The steps of the loops over digits, and that what is encoded is decoded again. Assumes nothing.
use Prim.Native.Nat.{ℕ, zero, suc, ◌+◌, ◌*◌, ◌/◌, ◌%◌, ◌≤◌, ◌<◌}
use Rattle.hex_text.specs.Digits.{decoded, digit_of, encoded, worth_of}
use Rattle.octets.proofs.ClassLaws.{among-high, in_among}
use Rattle.octets.specs.Splice.{written}
use borrow.Author.Tests.{le-ltb, lt-ltb}
use lib.ListN.{drop, get_or, length, set, take}
use lib.Seq.{drop-cons, length-take-le, set_at, take_all, take-suc}
use mathlib.Core.List.{List, [], ◌∷◌, append_assoc}
use mathlib.Core.Path.{◌≡◌, ap, refl, sym}
use native.Mathlib.Decide.{dec_lt}
use native.Mathlib.Numerals.{add-one}
use native.Mathlib.Omega.{arith}

-- one element more of l at the front of o
pub written-more : (o l : List ℕ) (i v : ℕ) → i < length l → length l ≤ length o → v ≡ get_or l i 0 → set (written o (take i l)) i v ≡ written o (take (i + 1) l)
unfolding written
written-more o l i v h k e =
    let n : length (take i l) ≡ i = length-take-le i l (omega arith) in
    let m : length (take (suc i) l) ≡ suc i = length-take-le (suc i) l (omega arith) in
    rw (add-one, n, m, drop-cons o i 0 (omega arith), set_at (take i l) (get_or o i 0) (drop (suc i) o) v i n, take-suc l i 0 h, e)
    (sym (append_assoc (take i l) (get_or l i 0 ∷ []) (drop (suc i) o)))

pub written_none : (o l : List ℕ) → o ≡ written o (take 0 l)
unfolding written
written_none o l = refl

pub written_all : (o l : List ℕ) (n : ℕ) → n ≡ length l → written o (take n l) ≡ written o l
written_all o l n e = ap (written o) (take_all n l (omega arith))

-- Decoding.

pub length-decoded : (s : List ℕ) → length (decoded s) ≡ length s / 2
unfolding decoded
length-decoded [] = refl
length-decoded (a ∷ []) = refl
length-decoded (a ∷ (b ∷ s)) = let h = length-decoded s in omega arith

pub decoded-at : (s : List ℕ) (i : ℕ) → i < length s / 2 → get_or (decoded s) i 0 ≡ worth_of (get_or s (2 * i) 0) * 16 + worth_of (get_or s (2 * i + 1) 0)
unfolding decoded
decoded-at [] i h = absurd (omega arith)
decoded-at (a ∷ []) i h = absurd (omega arith)
decoded-at (a ∷ (b ∷ s)) zero h = refl
decoded-at (a ∷ (b ∷ s)) (suc i) h =
    let x : 2 * suc i ≡ suc (suc (2 * i)) = omega arith in
    let y : suc (suc (2 * i)) + 1 ≡ suc (suc (2 * i + 1)) = omega arith in
    rw (x, y) (decoded-at s i (omega arith))

-- Encoding.

pub length-encoded : (s : List ℕ) → length (encoded s) ≡ 2 * length s
unfolding encoded
length-encoded [] = refl
length-encoded (b ∷ s) = let h = length-encoded s in omega arith

pub encoded-high : (s : List ℕ) (i : ℕ) → i < length s → get_or (encoded s) (2 * i) 0 ≡ digit_of (get_or s i 0 / 16)
unfolding encoded
encoded-high [] i h = absurd (omega arith)
encoded-high (b ∷ s) zero h = refl
encoded-high (b ∷ s) (suc i) h =
    let x : 2 * suc i ≡ suc (suc (2 * i)) = omega arith in
    rw x (encoded-high s i (omega arith))

pub encoded-low : (s : List ℕ) (i : ℕ) → i < length s → get_or (encoded s) (2 * i + 1) 0 ≡ digit_of (get_or s i 0 % 16)
unfolding encoded
encoded-low [] i h = absurd (omega arith)
encoded-low (b ∷ s) zero h = refl
encoded-low (b ∷ s) (suc i) h =
    let x : 2 * suc i + 1 ≡ suc (suc (2 * i + 1)) = omega arith in
    rw x (encoded-low s i (omega arith))

-- There and back.

value-digit : (n : ℕ) → n < 16 → worth_of (digit_of n) ≡ n
unfolding worth_of digit_of
value-digit n h = go (dec_lt n 10)
  where
    go : Dec (n < 10) → worth_of (digit_of n) ≡ n
    go (yes a) = rw (lt-ltb n 10 a, in_among 48 57 (48 + n) (omega arith) (omega arith)) (omega arith)
    go (no a) = rw (le-ltb n 10 (omega arith), among-high 48 57 (87 + n) (omega arith) (omega arith), in_among 97 102 (87 + n) (omega arith) (omega arith)) (omega arith)

pub there_and_back : (s : List ℕ) → ((i : ℕ) → i < length s → get_or s i 0 < 256) → decoded (encoded s) ≡ s
unfolding decoded encoded
there_and_back [] h = refl
there_and_back (b ∷ s) h =
    let k : b < 256 = h 0 (omega arith) in
    let e : worth_of (digit_of (b / 16)) * 16 + worth_of (digit_of (b % 16)) ≡ b = rw (value-digit (b / 16) (omega arith), value-digit (b % 16) (omega arith)) (omega arith) in
    rw (e, there_and_back s (λ i g. h (suc i) (omega arith)))
