-- Inner: how the effect of a line stands in the program's buffers. Cited by the contracts of `src/`. Tied to `Commands.line_done` by `text-determined`,
-- `held-determined` and `size-determined` in `proofs/Determined.antt`, and to what is written by `whole-input` in `proofs/WholeInput.antt`. Assumes nothing.
use Rattle.std.specs.Prelude.{ℕ, ◌≤◌, take, List, ◌≡◌}
use Rattle.lines.specs.Log.{Effect}
use Rattle.probe.specs.Effect.{Held, holding}
use Rattle.showing.specs.Shown.{Puts}

-- the answer to a line is put at the front of the output buffer o, and the first bytes of h' are the table after it
pub record Turned (d : Effect (List ℕ)) (o : List ℕ) (n : ℕ) (o' : List ℕ) (size : ℕ) (h' : List ℕ) : Type 0 where
  pub text : Puts o d.text n o'
  pub table : take size h' ≡ d.held
  pub small : size ≤ 65536

-- the same, and the ceiling after it
pub record Finishes (d : Effect Held) (o : List ℕ) (n : ℕ) (o' : List ℕ) (c size : ℕ) (h' : List ℕ) : Type 0 where
  pub text : Puts o d.text n o'
  pub held : holding c (take size h') ≡ d.held
  pub small : size ≤ 65536
