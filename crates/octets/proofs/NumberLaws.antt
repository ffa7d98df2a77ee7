-- Big-endian numbers: read and written back, over the width; the loops' steps. Assumes nothing.
use Prim.Native.Nat.{ℕ, zero, suc, ◌+◌, ◌*◌, ◌/◌, ◌%◌, ◌≤◌, ◌<◌}
use Rattle.octets.specs.Number.{bytes_of, onto, big_endian}
use Rattle.octets.specs.Splice.{splice}
use lib.ListN.{length, length-drop, get_or, take, drop, set, length-append, take-append-drop}
use lib.Seq.{get_or-drop, take_all, take-suc, length-take-le, get_or-take, set_split, drop_at, take-set-le}
use mathlib.Core.List.{List, [], ◌∷◌, ◌++◌, append_assoc}
use mathlib.Core.Path.{◌≡◌, refl, sym, ap, ◌∙◌}
use native.Mathlib.Numerals.{add-one}
use native.Mathlib.Omega.{arith}

-- 256 to the n: a number below it has n bytes
unfoldable pub capacity : ℕ → ℕ
capacity zero = 1
capacity (suc n) = 256 * capacity n

pub length-bytes_of : (n v : ℕ) → length (bytes_of n v) ≡ n
unfolding bytes_of
length-bytes_of zero v = refl
length-bytes_of (suc n) v = length-append (bytes_of n (v / 256)) (v % 256 ∷ []) ∙ rw (length-bytes_of n (v / 256)) (omega arith)

-- one byte more
pub onto_snoc : (a : ℕ) (s : List ℕ) (x : ℕ) → onto a (s ++ (x ∷ [])) ≡ onto a s * 256 + x
unfolding onto
onto_snoc a [] x = refl
onto_snoc a (y ∷ s) x = onto_snoc (a * 256 + y) s x

-- what is written is read back
pub number-bytes : (n v : ℕ) → v < capacity n → big_endian (bytes_of n v) ≡ v
unfolding onto bytes_of capacity
number-bytes zero v h = omega arith
number-bytes (suc n) v h =
    rw (onto_snoc 0 (bytes_of n (v / 256)) (v % 256), number-bytes n (v / 256) (omega arith)) (omega arith)

-- each element is a byte
pub record Octets (s : List ℕ) : Type 0 where
  pub each : (k : ℕ) → k < length s → get_or s k 0 < 256

-- a list of suc n is its first n and its last
pub last_apart : (n : ℕ) (s : List ℕ) → length s ≡ suc n → s ≡ take n s ++ (get_or s n 0 ∷ [])
last_apart n s e = sym (take_all (suc n) s (omega arith)) ∙ take-suc s n 0 (omega arith)

pub octets-take : (n : ℕ) (s : List ℕ) → n ≤ length s → Octets s → Octets (take n s)
octets-take n s h b = record {
  each = λ k g.
      let e = length-take-le n s h in
      rw (get_or-take n s k 0 (omega arith)) (b.each k (omega arith));
}

-- what is read is written back
pub bytes-number : (n : ℕ) (s : List ℕ) → length s ≡ n → Octets s → bytes_of n (big_endian s) ≡ s
unfolding bytes_of
bytes-number zero [] e b = refl
bytes-number zero (x ∷ s) e b = absurd (omega arith)
bytes-number (suc n) s e b =
    let f : List ℕ = take n s in
    let x : ℕ = get_or s n 0 in
    let l : s ≡ f ++ (x ∷ []) = last_apart n s e in
    let v : big_endian s ≡ big_endian f * 256 + x = ap (onto 0) l ∙ onto_snoc 0 f x in
    let h : x < 256 = b.each n (omega arith) in
    let q : big_endian s / 256 ≡ big_endian f = omega arith in
    let r : big_endian s % 256 ≡ x = omega arith in
    rw (q, r, bytes-number n f (length-take-le n s (omega arith)) (octets-take n s (omega arith) b)) (sym l)

-- a number of n bytes is below 256 to the n
pub number-below : (n : ℕ) (s : List ℕ) → length s ≡ n → Octets s → big_endian s < capacity n
unfolding onto capacity
number-below zero [] e b = omega arith
number-below zero (x ∷ s) e b = absurd (omega arith)
number-below (suc n) s e b =
    let f : List ℕ = take n s in
    let x : ℕ = get_or s n 0 in
    let l : s ≡ f ++ (x ∷ []) = last_apart n s e in
    let v : big_endian s ≡ big_endian f * 256 + x = ap (onto 0) l ∙ onto_snoc 0 f x in
    let h : x < 256 = b.each n (omega arith) in
    let k : big_endian f < capacity n = number-below n f (length-take-le n s (omega arith)) (octets-take n s (omega arith) b) in
    omega arith

-- a byte written before the rest of the number, which is shorter by it
put-before : (o : List ℕ) (at : ℕ) (p : List ℕ) (x : ℕ) → at + length p < length o → splice o at (p ++ (x ∷ [])) ≡ splice (set o (at + length p) x) at p
unfolding splice
put-before o at p x h =
    let k : ℕ = at + length p in
    let s : set o k x ≡ take k o ++ (x ∷ drop (suc k) o) = set_split o k x h in
    let d : drop k (set o k x) ≡ x ∷ drop (suc k) o = ap (drop k) s ∙ drop_at (take k o) (x ∷ drop (suc k) o) k (length-take-le k o (omega arith)) in
    let n : at + length (p ++ (x ∷ [])) ≡ suc k = rw length-append (omega arith) in
    rw (take-set-le at o k x (omega arith), d, n, append_assoc)

-- the loop of `put_number`: the last byte is written, and the others are left
pub byte_down : (o : List ℕ) (at i n v : ℕ) → n ≡ suc i → at + n ≤ length o → splice o at (bytes_of n v) ≡ splice (set o (at + i) (v % 256)) at (bytes_of i (v / 256))
unfolding bytes_of
byte_down o at i n v e h =
    let l : length (bytes_of i (v / 256)) ≡ i = length-bytes_of i (v / 256) in
    rw (e) (put-before o at (bytes_of i (v / 256)) (v % 256) (omega arith) ∙ rw l)

pub no_byte : (o : List ℕ) (at n v : ℕ) → n ≡ 0 → splice o at (bytes_of n v) ≡ o
unfolding bytes_of splice
no_byte o at n v e = rw (e) (rw add-zero (take-append-drop at o))
  where
    add-zero : at + 0 ≡ at
    add-zero = omega arith

-- the loop of `number_at`
pub none_read : 0 ≡ big_endian []
unfolding onto
none_read = refl

pub none_yet : (s : List ℕ) (at : ℕ) → 0 ≡ big_endian (take 0 (drop at s))
none_yet s at = none_read

pub below_one : 0 < capacity 0
unfolding capacity
below_one = omega arith

pub one_more : (s : List ℕ) (i : ℕ) {v b : ℕ} → v ≡ big_endian (take i s) → i < length s → b ≡ get_or s i 0 → v * 256 + b ≡ big_endian (take (i + 1) s)
one_more s i {v} {b} e h g = rw (add-one, take-suc s i 0 h, onto_snoc 0 (take i s) (get_or s i 0)) (cc)

pub number_more : (s : List ℕ) (at i : ℕ) {v b : ℕ} → v ≡ big_endian (take i (drop at s)) → at + i < length s → b ≡ get_or s (at + i) 0
    → v * 256 + b ≡ big_endian (take (i + 1) (drop at s))
number_more s at i {v} {b} e h g = one_more (drop at s) i e (rw length-drop (omega arith)) (g ∙ sym (get_or-drop at s i 0))

pub span_more : (i : ℕ) {v b : ℕ} → v < capacity i → b < 256 → v * 256 + b < capacity (i + 1)
unfolding capacity
span_more i {v} {b} h g = rw add-one (omega arith)

span_pos : (n : ℕ) → 1 ≤ capacity n
unfolding capacity
span_pos zero = omega arith
span_pos (suc n) = let h = span_pos n in omega arith

span_grows : (i j : ℕ) → i ≤ j → capacity i ≤ capacity j
unfolding capacity
span_grows zero j h = span_pos j
span_grows (suc i) zero h = absurd (omega arith)
span_grows (suc i) (suc j) h = let g = span_grows i j (omega arith) in omega arith

-- a number of at most seven bytes, and one byte more, fits 64 bits
pub span_seven : (i v : ℕ) → i < 8 → v < capacity i → v < 72057594037927936
unfolding capacity
span_seven i v h g = let k : capacity i ≤ capacity 7 = span_grows i 7 (omega arith) in omega arith
