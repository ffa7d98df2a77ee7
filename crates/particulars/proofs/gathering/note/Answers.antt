-- `particulars::gathering::note` meets its contract: by whether the name has a place. Assumes nothing.
use Prim.Native.Nat.{ℕ}
use Rattle.particulars.proofs.LowestLaws.{lower-none}
use Rattle.particulars.proofs.gathering.note.Goals as goal
use Rattle.particulars.specs.inner.Gathering.{is_noted}
use borrow.Author.Tests.{le-ltb, lt-ltb}
use lib.ListN.{get_or}
use mathlib.Core.Bool.{and-false, false, true}
use mathlib.Core.List.{List}
use mathlib.Core.Path.{◌≡◌, sym}
use native.Mathlib.Omega.{arith}

new : (t : List ℕ) (k : ℕ) → get_or t k 0 ≡ 0 → is_noted t k ≡ false
unfolding is_noted
new t k e = rw e

old : (t : List ℕ) (k : ℕ) → (get_or t k 0 ≡ 0 → ⊥) → is_noted t k ≡ true
unfolding is_noted
old t k ne = lt-ltb 0 (get_or t k 0) (omega (arith, ne))

pub returns-then-f-k-eq0-clause-again : goal.returns-then-f-k-eq0-clause-again
returns-then-f-k-eq0-clause-again c = let a = c.args in rw (new a.f.now.at a.k c.if-f-k-eq0.true, and-false) (sym (lower-none a.f.now.again))

pub returns-then-f-k-eq0-clause-at : goal.returns-then-f-k-eq0-clause-at
returns-then-f-k-eq0-clause-at c = let a = c.args in rw (new a.f.now.at a.k c.if-f-k-eq0.true)

pub returns-then-f-k-eq0-clause-end : goal.returns-then-f-k-eq0-clause-end
returns-then-f-k-eq0-clause-end c = let a = c.args in rw (new a.f.now.at a.k c.if-f-k-eq0.true)

pub returns-then-k-gt0-clause-again : goal.returns-then-k-gt0-clause-again
returns-then-k-gt0-clause-again c = let a = c.args in rw (old a.f.now.at a.k c.if-f-k-eq0.false, lt-ltb 0 a.k c.if-k-gt0.true) c.lower-f.ensures

pub returns-then-k-gt0-clause-at : goal.returns-then-k-gt0-clause-at
returns-then-k-gt0-clause-at c = let a = c.args in rw (old a.f.now.at a.k c.if-f-k-eq0.false)

pub returns-then-k-gt0-clause-end : goal.returns-then-k-gt0-clause-end
returns-then-k-gt0-clause-end c = let a = c.args in rw (old a.f.now.at a.k c.if-f-k-eq0.false)

pub returns-else-k-gt0-clause-again : goal.returns-else-k-gt0-clause-again
returns-else-k-gt0-clause-again c = let a = c.args in rw (le-ltb 0 a.k (omega (arith, c.if-k-gt0.false))) (sym (lower-none a.f.now.again))

pub returns-else-k-gt0-clause-at : goal.returns-else-k-gt0-clause-at
returns-else-k-gt0-clause-at c = let a = c.args in rw (old a.f.now.at a.k c.if-f-k-eq0.false)

pub returns-else-k-gt0-clause-end : goal.returns-else-k-gt0-clause-end
returns-else-k-gt0-clause-end c = let a = c.args in rw (old a.f.now.at a.k c.if-f-k-eq0.false)
