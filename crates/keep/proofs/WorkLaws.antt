-- How the work on a piece goes on, line by line, with what stands in the output buffer: one law for each answer of the splitter.
-- Assumes nothing.
use Prim.Native.Nat.{ℕ, ◌+◌, ◌-◌, ◌≤◌}
use Rattle.keep.specs.Log.{said_done, line_done}
use Rattle.lines.proofs.LineLaws.{said-kept}
use Rattle.lines.proofs.WorkLaws.{buffered-gone, here-gone, pending-gone, then-goes}
use Rattle.lines.specs.inner.Splitting.{buffer_after, next_line}
use Rattle.lines.specs.inner.Running.{Works}
use Rattle.lines.specs.declared.splitting.Next.TheVariants.{Buffered, Here, Pending}
use Rattle.octets.specs.Splice.{splice}
use Rattle.octets.proofs.Chain.{take-splice}
use lib.ListN.{drop, length, take}
use mathlib.Core.List.{List, [], append-nil}
use mathlib.Core.Path.{◌≡◌, ap, subst}

-- a line cut to 32,790 bytes or more does what the whole does
pub line_kept : (cap : ℕ) → 32790 ≤ cap → (t l : List ℕ) → line_done t (take cap l) ≡ line_done t l
unfolding line_done
line_kept cap room t l = ap (said_done t) (said-kept cap room l)

-- One turn of the loop, where the work came from an earlier state with what stands before `at` in the buffer out.
module _ (cap : ℕ) (t₀ k₀ s₀ t o : List ℕ) (size : length o ≡ cap) (room : 32790 ≤ length o) (len : ℕ) (s : List ℕ) (from : ℕ) (out : List ℕ) (at : ℕ) (within : at ≤ length out)
    (so : Works line_done cap t₀ k₀ s₀ t (take len o) (drop from s) (take at out)) where
  in_cap : {t' k' s' w : List ℕ} → Works line_done (length o) t (take len o) (drop from s) t' k' s' w → Works line_done cap t (take len o) (drop from s) t' k' s' w
  in_cap {t'} {k'} {s'} {w} = subst (λ (n : ℕ). Works line_done n t (take len o) (drop from s) t' k' s' w) size

  -- the answer w to a line was put behind what stands there
  gone : {t' k' s' w t'' out' : List ℕ} {r : ℕ} → Works line_done (length o) t (take len o) (drop from s) t' k' s' w → r ≡ at + length w → out' ≡ splice out at w → t'' ≡ t'
      → Works line_done cap t₀ k₀ s₀ t'' k' s' (take r out')
  gone {t'} {k'} {s'} {w} g rr oo tt = rw (tt, rr, oo, take-splice out at w within) (then-goes line_done cap so (in_cap g))

  pub here-goes : (e : ℕ) {r : ℕ} {out' t' : List ℕ} → next_line o len s from ≡ Here e → r ≡ at + length (line_done t (take (e - from) (drop from s))).text
      → out' ≡ splice out at (line_done t (take (e - from) (drop from s))).text → t' ≡ (line_done t (take (e - from) (drop from s))).held
      → Works line_done cap t₀ k₀ s₀ t' [] (drop (e + 1) s) (take r out')
  here-goes e q = gone (here-gone line_done t o (line_kept (length o) room t) len s from e q)

  pub buffered-goes : (m e : ℕ) {r : ℕ} {out' t' : List ℕ} (o' : List ℕ) → next_line o len s from ≡ Buffered m e → o' ≡ buffer_after o len s from
      → r ≡ at + length (line_done t (take m o')).text → out' ≡ splice out at (line_done t (take m o')).text → t' ≡ (line_done t (take m o')).held
      → Works line_done cap t₀ k₀ s₀ t' [] (drop e s) (take r out')
  buffered-goes m e o' q after = gone (buffered-gone line_done t o (line_kept (length o) room t) len s from m e o' q after)

  pub pending-goes : (n : ℕ) (o' : List ℕ) → next_line o len s from ≡ Pending n → o' ≡ buffer_after o len s from
      → Works line_done cap t₀ k₀ s₀ t (take n o') (drop (length s) s) (take at out)
  pending-goes n o' q after = rw append-nil at (then-goes line_done cap so (in_cap (pending-gone line_done t o (line_kept (length o) room t) len s from n o' q after)))
