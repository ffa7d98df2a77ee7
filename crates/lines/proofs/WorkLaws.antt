-- How the work on a piece goes on, line by line, whatever a line does: one law for each answer of the splitter. Assumes nothing.
use Prim.Native.Nat.{ℕ, ◌+◌, ◌-◌, ◌≤◌, ◌<◌}
use Rattle.lines.proofs.Cutting.{ends_in, goes_on, buffered-says, here-says, pending-says, step, whole}
use Rattle.lines.proofs.WritingLaws.{front-written}
use Rattle.lines.specs.Input.{ended_lines, open_line}
use Rattle.lines.specs.inner.Splitting.{buffer_after, joined, line_end, next_line, rest_of_line}
use Rattle.lines.specs.Log.{Effect, log_held, log_text}
use Rattle.lines.specs.inner.Running.{Works}
use Rattle.lines.specs.declared.splitting.Next.TheVariants.{Buffered, Here, Pending}
use Rattle.octets.specs.Text.{before}
use lib.ListN.{drop, length, length-drop, take}
use lib.Seq.{drop-length, take_all, take-take}
use mathlib.Core.List.{List, [], ◌++◌, append_assoc}
use mathlib.Core.Path.{◌≡◌, ap, refl, sym, ◌∙◌}
use native.Mathlib.Omega.{arith}

module _ {S : Type 0} (done : S → List ℕ → Effect S) (cap : ℕ) where
  pub nothing : (t : S) (k s : List ℕ) → Works done cap t k s t k s []
  nothing t k s = record { written = refl; held = refl; open_line = refl }

  pub then-goes : {t : S} {k s : List ℕ} {t' : S} {k' s' w : List ℕ} {t'' : S} {k'' s'' x : List ℕ} → Works done cap t k s t' k' s' w → Works done cap t' k' s' t'' k'' s'' x
      → Works done cap t k s t'' k'' s'' (w ++ x)
  then-goes {w = w} {x = x} g h = record {
    written = g.written ∙ rw h.written (sym (append_assoc w x _));
    held = g.held ∙ h.held;
    open_line = g.open_line ∙ h.open_line;
  }

  -- one line l that does what the line does
  one_line : (t : S) (k s : List ℕ) (from : ℕ) (l : List ℕ) → line_end s from < length s → done t l ≡ done t (k ++ rest_of_line s from)
      → Works done cap t k (drop from s) (done t l).held [] (drop (line_end s from + 1) s) (done t l).text
  unfolding log_text log_held
  one_line t k s from l h e =
      let st = step k (drop from s) (ends_in s from h) in
      record {
        written = rw (st.first, e, goes_on s from);
        held = rw (st.first, e, goes_on s from);
        open_line = rw (st.then, goes_on s from);
      }

  -- the piece is used up
  used-up : (t : S) (k s : List ℕ) (from : ℕ) → length s ≤ line_end s from → Works done cap t k (drop from s) t (take cap (k ++ rest_of_line s from)) (drop (length s) s) []
  unfolding ended_lines open_line log_text log_held
  used-up t k s from h =
      let d : length (drop from s) ≤ before 10 (drop from s) = rw length-drop (omega arith) in
      let w = whole k (drop from s) d in
      rw (drop-length s) (record {
        written = rw w.none;
        held = rw w.none;
        open_line = rw (w.all, take_all (before 10 (drop from s)) (drop from s) d) (sym (take-take cap cap (k ++ drop from s) (omega arith)));
      })

-- One answer of the splitter, where a line cut to the buffer o does what the whole does.
module _ {S : Type 0} (done : S → List ℕ → Effect S) (t : S) (o : List ℕ) (kept : (l : List ℕ) → done t (take (length o) l) ≡ done t l) (len : ℕ) (s : List ℕ) (from : ℕ) where
  -- the line l was answered, and the next one begins at e
  line_gone : (l : List ℕ) (e : ℕ) → line_end s from < length s → e ≡ line_end s from + 1 → done t l ≡ done t (take len o ++ rest_of_line s from)
      → Works done (length o) t (take len o) (drop from s) (done t l).held [] (drop e s) (done t l).text
  line_gone l e h is same = rw is (one_line done (length o) t (take len o) s from l h same)

  pub here-gone : (e : ℕ) → next_line o len s from ≡ Here e
      → Works done (length o) t (take len o) (drop from s) (done t (take (e - from) (drop from s))).held [] (drop (e + 1) s) (done t (take (e - from) (drop from s))).text
  here-gone e q =
      let p = here-says o len s from e q in
      let w : e - from ≡ before 10 (drop from s) = omega (arith, p.0) in
      line_gone (take (e - from) (drop from s)) (e + 1) p.1 (ap (λ (n : ℕ). n + 1) p.0) (rw (p.2, w))

  pub buffered-gone : (m e : ℕ) (o' : List ℕ) → next_line o len s from ≡ Buffered m e → o' ≡ buffer_after o len s from
      → Works done (length o) t (take len o) (drop from s) (done t (take m o')).held [] (drop e s) (done t (take m o')).text
  buffered-gone m e o' q after =
      let p = buffered-says o len s from m e q in
      let f : take m o' ≡ joined o len s from = front-written o (joined o len s from) (after ∙ p.3) p.0 in
      line_gone (take m o') e p.2 p.1 (ap (done t) f ∙ kept (take len o ++ rest_of_line s from))

  pub pending-gone : (n : ℕ) (o' : List ℕ) → next_line o len s from ≡ Pending n → o' ≡ buffer_after o len s from
      → Works done (length o) t (take len o) (drop from s) t (take n o') (drop (length s) s) []
  pending-gone n o' q after =
      let p = pending-says o len s from n q in
      let f : take n o' ≡ joined o len s from = front-written o (joined o len s from) (after ∙ p.2) p.0 in
      rw f (used-up done (length o) t (take len o) s from p.1)
