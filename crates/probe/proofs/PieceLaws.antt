-- One line of a piece, as the splitter gives it and as its answer stands in the buffers. Assumes nothing.
use Prim.Native.Nat.{ℕ, ◌+◌, ◌-◌}
use Rattle.lines.proofs.WorkLaws.{buffered-gone, here-gone, pending-gone}
use Rattle.lines.proofs.WritingLaws.{front-written}
use Rattle.lines.specs.inner.Splitting.{buffer_after, next_line}
use Rattle.lines.specs.Log.{Effect}
use Rattle.lines.specs.inner.Running.{Works}
use Rattle.lines.specs.declared.splitting.Next.TheVariants.{Buffered, Here, Pending}
use Rattle.probe.proofs.WholeInput.{line_kept}
use Rattle.probe.specs.Commands.{line_done}
use Rattle.probe.specs.Effect.{Held, holding}
use Rattle.probe.specs.inner.Turned.{Finishes}
use lib.ListN.{drop, length, take}
use mathlib.Core.List.{List, []}
use mathlib.Core.Path.{◌≡◌, subst}
use native.Mathlib.Omega.{arith}

-- the state that `told` answers, where a line was answered by n bytes and the next one begins at f
pub record Told (c size f n end c' size' len' from' : ℕ) : Type 0 where
  pub ceiling : c' ≡ c
  pub table : size' ≡ size
  pub none_kept : len' ≡ 0
  pub next : from' ≡ f
  pub handed : end ≡ n

module _ (x : Held) (o : List ℕ) (room : length o ≡ 170001) (len : ℕ) (s : List ℕ) (from : ℕ) where
  kept : (l : List ℕ) → line_done x (take (length o) l) ≡ line_done x l
  kept l = line_kept (length o) (omega arith) x l

  in_room : {x' : Held} {k' s' w : List ℕ} → Works line_done (length o) x (take len o) (drop from s) x' k' s' w → Works line_done 170001 x (take len o) (drop from s) x' k' s' w
  in_room {x'} {k'} {s'} {w} = subst (λ (n : ℕ). Works line_done n x (take len o) (drop from s) x' k' s' w) room

  gone : (d : Effect Held) (f : ℕ) (out o'' : List ℕ) {n : ℕ} {out' : List ℕ} {c size : ℕ} {h' : List ℕ} {c' size' len' from' end : ℕ}
      → Works line_done (length o) x (take len o) (drop from s) d.held [] (drop f s) d.text → Finishes d out n out' c size h' → Told c size f n end c' size' len' from'
      → Works line_done 170001 x (take len o) (drop from s) (holding c' (take size' h')) (take len' o'') (drop from' s) (take end out')
  gone d f out o'' g w r =
      rw (r.ceiling, r.table, r.none_kept, r.next, r.handed, w.held, front-written out d.text w.text.1 w.text.0) (in_room g)

  pub here-told : (e : ℕ) (out o'' : List ℕ) {n : ℕ} {out' : List ℕ} {c size : ℕ} {h' : List ℕ} {c' size' len' from' end : ℕ} → next_line o len s from ≡ Here e
      → Finishes (line_done x (take (e - from) (drop from s))) out n out' c size h' → Told c size (e + 1) n end c' size' len' from'
      → Works line_done 170001 x (take len o) (drop from s) (holding c' (take size' h')) (take len' o'') (drop from' s) (take end out')
  here-told e out o'' q = gone (line_done x (take (e - from) (drop from s))) (e + 1) out o'' (here-gone line_done x o kept len s from e q)

  pub buffered-told : (m e : ℕ) (out o' o'' : List ℕ) {n : ℕ} {out' : List ℕ} {c size : ℕ} {h' : List ℕ} {c' size' len' from' end : ℕ} → next_line o len s from ≡ Buffered m e
      → o' ≡ buffer_after o len s from → Finishes (line_done x (take m o')) out n out' c size h' → Told c size e n end c' size' len' from'
      → Works line_done 170001 x (take len o) (drop from s) (holding c' (take size' h')) (take len' o'') (drop from' s) (take end out')
  buffered-told m e out o' o'' q after = gone (line_done x (take m o')) e out o'' (buffered-gone line_done x o kept len s from m e o' q after)

  pub kept_on : (n : ℕ) (o' : List ℕ) → next_line o len s from ≡ Pending n → o' ≡ buffer_after o len s from
      → Works line_done 170001 x (take len o) (drop from s) x (take n o') (drop (length s) s) []
  kept_on n o' q after = in_room (pending-gone line_done x o kept len s from n o' q after)
