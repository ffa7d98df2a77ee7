-- Characters passed: one, a run of ASCII. Assumes nothing.
use Prim.Native.Nat.{ℕ, zero, suc, ◌+◌, ◌-◌, ◌≤◌, ◌<◌}
use Rattle.utf8.proofs.Rows.{char-here, one}
use Rattle.utf8.proofs.Walk.{char-more, char_at-length}
use Rattle.utf8.specs.Rfc3629.{char_at, goes_on}
use Rattle.std.specs.Str.{IsAscii}
use native.Mathlib.Numerals.{add-one}
use native.Mathlib.Decide.{dec_le}
use lib.Seq.{get_or-take, get_or-drop}
use Rattle.utf8.specs.inner.Passed.{Passed}
use lib.ListN.{length, drop, get_or, length-drop, take}
use mathlib.Core.List.{List}
use mathlib.Core.Path.{◌≡◌, refl, sym, ◌∙◌}
use native.Mathlib.Omega.{arith}

module _ (s : List ℕ) where
  pub stays : (i : ℕ) → i ≤ length s → Passed s i i
  stays i h = record { onward = omega arith; within = h; goes = refl }

  pub then : {i j k : ℕ} → Passed s i j → Passed s j k → Passed s i k
  then p q = record { onward = omega (arith, p.onward, q.onward); within = q.within; goes = p.goes ∙ q.goes }

  -- a char of n octets
  pub passed-char : (i n : ℕ) → i < length s → n ≡ char_at (drop i s) → (n ≡ 0 → ⊥) → Passed s i (i + n)
  passed-char i n h e f =
      let w = char_at-length (drop i s) in
      let l : length (drop i s) ≡ length s - i = length-drop i s in
      record { onward = omega arith; within = omega (arith, w, l, e); goes = char-more s i n h e f }

  -- an ASCII byte
  pub passed-byte : (i : ℕ) → i < length s → get_or s i 0 < 0x80 → Passed s i (i + 1)
  unfolding goes_on
  passed-byte i h k = passed-char i 1 h (sym (char-here s i h ∙ rw (one (get_or s i 0) k))) (λ e. omega arith)

  -- bytes of ASCII, by their places
  pub passed_each : (i j : ℕ) → i ≤ j → j ≤ length s → ((k : ℕ) → i ≤ k → k < j → get_or s k 0 < 0x80) → Passed s i j
  passed_each i zero h l f = let e : i ≡ 0 = omega arith in rw e (stays 0 l)
  passed_each i (suc j) h l f = go (dec_le i j) (λ a. passed_each i j a (omega arith) (λ k g e. f k g (omega arith)))
    where
      go : Dec (i ≤ j) → (i ≤ j → Passed s i j) → Passed s i (suc j)
      go (yes a) before = rw add-one at (then (before a) (passed-byte j (omega arith) (f j a (omega arith))))
      go (no a) before = let e : i ≡ suc j = omega arith in rw e (stays (suc j) l)

  -- a run of ASCII
  pub passed-run : (i n : ℕ) → i + n ≤ length s → IsAscii (take n (drop i s)) → Passed s i (i + n)
  passed-run i n h f = passed_each i (i + n) (omega arith) h (λ k g e.
      let z : i + (k - i) ≡ k = omega arith in
      rw (get_or-take n (drop i s) (k - i) 0 (omega arith), get_or-drop i s (k - i) 0, z) at (f (k - i)))
