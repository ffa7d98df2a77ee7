-- The parts of an address. Assumes nothing.
use Prim.Native.Nat.{ℕ, ◌≤◌}
use Rattle.message.specs.inner.Facts.{Placed}
use Rattle.octets.proofs.TestLaws.{or_split}
use Rattle.rules.proofs.PartLaws.{caller_address_parts}
use Rattle.rules.proofs.PlainLaws.{callee-short, caller-short}
use Rattle.rules.specs.Address.{address_of, address_rule, callee_rule, caller_rule}
use Rattle.rules.specs.declared.addresses.Address.TheVariants.{Caller, Callee}
use Rattle.rules.specs.declared.addresses.Address.{Address}
use Rattle.message.specs.Message.{caller_in}
use Rattle.std.specs.Prelude.{Option, Some}
use lib.ListN.{length}
use mathlib.Core.Bool.{Bool, true, false, cond}
use mathlib.Core.List.{List}
use mathlib.Core.Logic.{◌⊎◌, inl, inr}
use mathlib.Core.Path.{◌≡◌, ap, refl, sym}
use native.Mathlib.Omega.{arith}

module _ (t : List ℕ) where
  -- they stand one behind the other
  pub held : (a : Address) → Some a ≡ address_of t → Placed a
  held (Caller u f) e = omega (arith, (caller_address_parts t u f (sym e)).goes_on)
  held (Callee f) e = tt

  -- an address has at most 45 bytes
  pub address_short : address_rule t ≡ true → length t ≤ 45
  unfolding address_rule
  address_short e = by (or_split (caller_rule t) (callee_rule t) e)
    where
      by : (caller_rule t ≡ true) ⊎ (callee_rule t ≡ true) → length t ≤ 45
      by (inl h) = caller-short t h
      by (inr h) = omega (arith, callee-short t h)

-- From and To, sorted by the caller's side
pub sorted_is : {A B : Type 0} (f : B → A) (c : Bool) (v w : B) → cond c (f v) (f w) ≡ f (cond c v w)
sorted_is f true v w = refl
sorted_is f false v w = refl

-- what is chosen by the side of one address
module _ {A : Type 0} (r : Option Address → A) (g : ℕ → Option Address) {w u v : Address} (k i j : ℕ) (p : Some w ≡ g k) (q : Some u ≡ g i) (o : Some v ≡ g j) where
  pub side-is : r (Some (cond (caller_in (Some w)) u v)) ≡ r (g (cond (caller_in (g k)) i j))
  side-is = rw (← (sorted_is g (caller_in (g k)) i j)) (rw (← p, ← q, ← o) (ap r (sym (sorted_is Some (caller_in (Some w)) u v))))
