-- `ceiling N`, by its word. Assumes nothing.
use Prim.Native.Nat.{ℕ, ◌+◌, ◌≤◌}
use Rattle.octets.proofs.Chain.{more, start}
use Rattle.octets.specs.Ascii.{ascii}
use Rattle.octets.specs.Splice.{splice, written}
use Rattle.probe.proofs.CommandLaws.{does-ceiling}
use Rattle.probe.specs.Ceiling.{ceiling_after, ceiling_text}
use Rattle.probe.specs.Commands.{command_done}
use Rattle.probe.specs.Effect.{holding}
use Rattle.probe.specs.inner.Turned.{Finishes}
use Rattle.octets.specs.Text.{same}
use Rattle.showing.specs.Shown.{Puts, unknown}
use Rattle.showing.specs.Words.{number_to}
use Rattle.std.specs.Prelude.{None, Some}
use lib.ListN.{length, take}
use mathlib.Core.Bool.{true}
use mathlib.Core.List.{List}
use mathlib.Core.Path.{◌≡◌, ap, refl}

-- its answer, where the word behind its name is a number, and where it is none
module _ (o : List ℕ) (c : ℕ) (w : List ℕ) where
  pub no-ceiling : {m : ℕ} {o' : List ℕ} → number_to 4294967295 w ≡ None → (m ≡ length unknown) × (o' ≡ written o unknown) → Puts o (ceiling_text w) m o' × (c ≡ ceiling_after c w)
  unfolding ceiling_text ceiling_after
  no-ceiling e p = rw e (p, refl)

  pub a-ceiling : {n m : ℕ} {o' : List ℕ} → number_to 4294967295 w ≡ Some n → (m ≡ 0 + 3) × (o' ≡ splice o 0 (ascii "ok\n"))
      → Puts o (ceiling_text w) m o' × (n ≡ ceiling_after c w)
  unfolding ceiling_text ceiling_after
  a-ceiling e p = rw e (let x = more (ascii "ok\n") (start o) p in ((x.place, x.is), refl))

-- and how it stands in the buffers: the table stays
pub ceiling-set : (c size : ℕ) (h name words o : List ℕ) {n : ℕ} {o' : List ℕ} {c' : ℕ} → same name (ascii "ceiling") ≡ true
    → Puts o (ceiling_text words) n o' × (c' ≡ ceiling_after c words) → size ≤ 65536 → Finishes (command_done (holding c (take size h)) name words) o n o' c' size h
ceiling-set c size h name words o e p small =
    rw (← does-ceiling c (take size h) name words e) (record { text = p.0; held = ap (λ (x : ℕ). holding x (take size h)) p.1; small = small })
