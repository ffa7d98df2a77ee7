-- A run of plain bytes, found by the least rank: one more byte seen, and what the least rank of all says. Assumes nothing.
use mathlib.Core.Path.{◌≡◌, refl, subst}
use mathlib.Core.Bool.{Bool, true, false, cond}
use mathlib.Core.List.{List}
use Prim.Native.Nat.{ℕ, ◌+◌, ◌≤◌, ◌<◌}
use native.Mathlib.Omega.{arith}
use borrow.Author.Tests.{le-ltb, ltb-true, ltb-false}
use lib.Dec.{ltb}
use lib.ListN.{get_or}
use Rattle.json_text.specs.inner.Machine.{is_plain}
use Rattle.json_text.specs.inner.Runs.{rank, least, Run}

-- of the first k of 32 bytes, so many are plain before the first that is not; 32 if all are
pub record Seen (s : List ℕ) (a k m : ℕ) : Type 0 where
  pub few : m ≤ 32
  pub plain : (j : ℕ) → j < k → j < m → is_plain (get_or s (a + j) 0) ≡ true
  pub found : m < 32 → m < k
  pub stop : m < 32 → is_plain (get_or s (a + m) 0) ≡ false

pub seen_none : (s : List ℕ) (a : ℕ) → Seen s a 0 32
seen_none s a = record { few = omega arith; plain = λ j h. absurd (omega arith); found = λ h. absurd (omega arith); stop = λ h. absurd (omega arith) }

module _ (s : List ℕ) (a k m : ℕ) (h : k < 32) (o : Seen s a k m) where
  on-plain : is_plain (get_or s (a + k) 0) ≡ true → Seen s a (k + 1) m
  on-plain e = record {
    few = o.few;
    plain = λ j l u. last j (ltb j k) refl l u;
    found = λ l. let q = o.found l in omega arith;
    stop = o.stop;
  }
    where
      last : (j : ℕ) (t : Bool) → ltb j k ≡ t → j < k + 1 → j < m → is_plain (get_or s (a + j) 0) ≡ true
      last j true q l u = o.plain j (ltb-true j k q) u
      last j false q l u = let n = ltb-false j k q in let z : k ≡ j = omega arith in subst (λ (i : ℕ). is_plain (get_or s (a + i) 0) ≡ true) z e

  on-other : is_plain (get_or s (a + k) 0) ≡ false → (t : Bool) → ltb k m ≡ t → Seen s a (k + 1) (cond t k m)
  on-other e true q =
      let n = ltb-true k m q in
      record {
        few = omega arith;
        plain = λ j l u. o.plain j u (omega arith);
        found = λ l. omega arith;
        stop = λ l. e;
      }
  on-other e false q =
      let n = ltb-false k m q in
      record {
        few = o.few;
        plain = λ j l u. o.plain j (omega arith) u;
        found = λ l. let r = o.found l in omega arith;
        stop = o.stop;
      }

  more : (t : Bool) → is_plain (get_or s (a + k) 0) ≡ t → Seen s a (k + 1) (least m (cond t 32 k))
  unfolding least
  more true e = rw (le-ltb 32 m o.few) (on-plain e)
  more false e = on-other e (ltb k m) refl

  -- one byte more
  pub seen_more : Seen s a (k + 1) (least m (rank (get_or s (a + k) 0) k))
  unfolding rank
  seen_more = more (is_plain (get_or s (a + k) 0)) refl

pub seen_all : (s : List ℕ) (a k m : ℕ) → 32 ≤ k → Seen s a k m → Run s a 32 m
seen_all s a k m h o = record { few = o.few; plain = λ j l. let q = o.few in o.plain j (omega arith) l; stop = o.stop }
