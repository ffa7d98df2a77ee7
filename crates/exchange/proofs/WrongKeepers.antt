-- Keepers of one entry, of messages or of ticks, and the wrong ones among them (01 What contracts say). Assumes nothing.
use Prim.Native.Nat.{ℕ, zero, suc, ◌<◌}
use Rattle.exchange.specs.Paper.{Paper, accepted, refused, paper_of}
use Rattle.exchange.specs.Sequence.{AllBytes}
use Rattle.keeper.proofs.Determined.{Allowed}
use Rattle.keeper.specs.Keeping.{Step}
use Rattle.octets.proofs.TestLaws.{and_parts}
use Rattle.octets.specs.Ascii.{ascii}
use Rattle.octets.specs.Class.{all}
use Rattle.octets.specs.Text.{same}
use borrow.Author.Tests.{ltb-true}
use lib.Dec.{ltb}
use lib.ListN.{length, get_or}
use mathlib.Core.Bool.{Bool, true, false}
use mathlib.Core.List.{List, [], ◌∷◌}
use mathlib.Core.Path.{◌≡◌}
use native.Mathlib.Omega.{arith}

-- what an entry can be handed: a table of bytes, a time of 64 bits, and bytes
pub record Handed (t : List ℕ) (now : ℕ) (x : List ℕ) : Type 0 where
  pub table : AllBytes t
  pub clock : now < 18446744073709551616
  pub text : AllBytes x

-- a keeper: what it answers, and the table that it leaves
abbrev pub Keeper : Type 0
Keeper = List ℕ → ℕ → List ℕ → Step

-- it meets the contract that cites g where that allows all of it
abbrev pub Meets : Keeper → Keeper → Type 0
Meets g f = (t : List ℕ) (now : ℕ) (x : List ℕ) → Handed t now x → Allowed (g t now x) (f t now x).answer (f t now x).table

abbrev pub is_refused : Paper → Bool
is_refused (accepted w n) = false
is_refused (refused n p r) = true

abbrev pub is_pass : Paper → Bool
is_pass (accepted w n) = same w (ascii "pass")
is_pass (refused n p r) = false

-- it refuses everything
abbrev pub RefusesAll : Keeper → Type 0
RefusesAll f = (t : List ℕ) (now : ℕ) (x : List ℕ) → Handed t now x → is_refused (paper_of (f t now x).answer) ≡ true

-- it always answers pass
abbrev pub PassesAll : Keeper → Type 0
PassesAll f = (t : List ℕ) (now : ℕ) (x : List ℕ) → Handed t now x → is_pass (paper_of (f t now x).answer) ≡ true

-- it never alters the table
abbrev pub AltersNone : Keeper → Type 0
AltersNone f = (t : List ℕ) (now : ℕ) (x : List ℕ) → Handed t now x → (f t now x).table ≡ t

-- bytes, by a test
each_below : (t : List ℕ) → all (λ b. ltb b 256) t ≡ true → (k : ℕ) → k < length t → get_or t k 0 < 256
unfolding all
each_below [] e k h = absurd (omega arith)
each_below (x ∷ t) e zero h = ltb-true x 256 (and_parts (ltb x 256) (all (λ b. ltb b 256) t) e).0
each_below (x ∷ t) e (suc k) h = each_below t (and_parts (ltb x 256) (all (λ b. ltb b 256) t) e).1 k (omega arith)

pub each-byte : (t : List ℕ) → all (λ b. ltb b 256) t ≡ true → AllBytes t
each-byte t e = record { each = each_below t e }
