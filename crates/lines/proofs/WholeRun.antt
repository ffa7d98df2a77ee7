-- What a run hands to `write` is the text of what it read, whatever pieces the system's reads give: for any rule of a line by which a line
-- cut to a buffer's room does what the whole does. `keep` and `probe` put their own rules in. Assumes nothing.
use Prim.Native.Nat.{ℕ, zero, suc, ◌≤◌, ◌<◌}
use Rattle.lines.proofs.Cutting.{ended-cut, step, take-kept, unended_cut, whole}
use Rattle.lines.proofs.WorkLaws.{nothing, then-goes}
use Rattle.lines.specs.Input.{ended_lines, last_line, lines_of, open_line}
use Rattle.lines.specs.Log.{Effect, log_held, log_text}
use Rattle.lines.specs.inner.Running.{Works, Reached, Turns, Stepped}
use Rattle.lines.specs.inner.Running.Turns.{begun, read, answered}
use Rattle.lines.specs.inner.Running.Stepped.{reads, answers}
use Rattle.octets.specs.Text.{before}
use lib.ListN.{drop, length, take}
use mathlib.Core.List.{List, [], ◌∷◌, ◌++◌, append_assoc, append-nil}
use mathlib.Core.Path.{◌≡◌, ap, refl, sym, ◌∙◌}
use native.Mathlib.Decide.{dec_lt}
use native.Mathlib.Omega.{arith}

-- lines behind lines
text-append : {S : Type 0} (done : S → List ℕ → Effect S) (t : S) (x y : List (List ℕ)) → log_text done t (x ++ y) ≡ log_text done t x ++ log_text done (log_held done t x) y
unfolding log_text log_held
text-append done t [] y = refl
text-append done t (l ∷ x) y = rw (text-append done (done t l).held x y) (sym (append_assoc (done t l).text (log_text done (done t l).held x) _))

held-append : {S : Type 0} (done : S → List ℕ → Effect S) (t : S) (x y : List (List ℕ)) → log_held done t (x ++ y) ≡ log_held done (log_held done t x) y
unfolding log_held
held-append done t [] y = refl
held-append done t (l ∷ x) y = held-append done (done t l).held x y

-- two first lines that do the same
same_head : {S : Type 0} (done : S → List ℕ → Effect S) (t : S) (x y : List ℕ) (ls : List (List ℕ)) → done t x ≡ done t y
    → (log_text done t (x ∷ ls) ≡ log_text done t (y ∷ ls)) × (log_held done t (x ∷ ls) ≡ log_held done t (y ∷ ls))
unfolding log_text log_held
same_head {S} done t x y ls e = (
  ap (λ (d : Effect S). d.text ++ log_text done d.held ls) e,
  ap (λ (d : Effect S). log_held done d.held ls) e,
)

clash : (n y : ℕ) (k : List ℕ) → 1 ≤ n → take n [] ≡ take n (y ∷ k) → ⊥
clash zero y k h e = omega arith
clash (suc n) y k h e = let z = ap length e in omega arith

module _ {S : Type 0} (done : S → List ℕ → Effect S) (cap : ℕ) (some : 1 ≤ cap) (kept : (t : S) (l : List ℕ) → done t (take cap l) ≡ done t l) where
  -- two open lines of which the same is kept go on alike
  record Alike (t : S) (j k s : List ℕ) : Type 0 where
    text : log_text done t (ended_lines j s) ≡ log_text done t (ended_lines k s)
    held : log_held done t (ended_lines j s) ≡ log_held done t (ended_lines k s)
    open_line : take cap (open_line j s) ≡ take cap (open_line k s)

  does-alike : (t : S) (j k p : List ℕ) → take cap j ≡ take cap k → done t (j ++ p) ≡ done t (k ++ p)
  does-alike t j k p e =
      let f : take cap (j ++ p) ≡ take cap (k ++ p) = sym (take-kept cap j p) ∙ rw e (take-kept cap k p) in
      sym (kept t (j ++ p)) ∙ ap (done t) f ∙ kept t (k ++ p)

  alike : (t : S) (j k s : List ℕ) → take cap j ≡ take cap k → Alike t j k s
  alike t j k s e = go (dec_lt (before 10 s) (length s))
    where
      go : Dec (before 10 s < length s) → Alike t j k s
      go (yes h) =
          let a = step j s h in
          let b = step k s h in
          let q = does-alike t j k (take (before 10 s) s) e in
          let h = same_head done t (j ++ take (before 10 s) s) (k ++ take (before 10 s) s) (ended_lines [] (drop (suc (before 10 s)) s)) q in
          record { text = rw (a.first, b.first) h.0; held = rw (a.first, b.first) h.1; open_line = rw (a.then, b.then) }
      go (no h) =
          let a = whole j s (omega arith) in
          let b = whole k s (omega arith) in
          record {
            text = rw (a.none, b.none);
            held = rw (a.none, b.none);
            open_line = rw (a.all, b.all) (sym (take-kept cap j s) ∙ rw e (take-kept cap k s));
          }

  -- a piece is read behind what was read
  read-on : (t₀ : S) (i p : List ℕ) {w : List ℕ} {t : S} {k : List ℕ} → Works done cap t₀ [] i t k [] w → Works done cap t₀ [] (i ++ p) t k p w
  unfolding log_text log_held ended_lines open_line
  read-on t₀ i p {w} {t} {k} g =
      let r = alike t (open_line [] i) k p g.open_line in
      let v : log_text done t₀ (ended_lines [] i) ≡ w = g.written ∙ append-nil w in
      record {
        written = rw (ended-cut [] i p, text-append done t₀ (ended_lines [] i) (ended_lines (open_line [] i) p), v, g.held, r.text);
        held = rw (ended-cut [] i p, held-append done t₀ (ended_lines [] i) (ended_lines (open_line [] i) p), g.held) r.held;
        open_line = rw (unended_cut [] i p) r.open_line;
      }

  -- at every place of a run: what was handed on, and then what is still to be handed on, is the text of the lines that have ended
  pub so_far : {t₀ : S} {i w : List ℕ} {t : S} {k s : List ℕ} → Turns done cap t₀ i w t k s → Works done cap t₀ [] i t k s w
  so_far {t₀} begun = nothing done cap t₀ [] []
  so_far {t₀} (read {i} {w} {t} {k} {p} r) = read-on t₀ i p (so_far r)
  so_far (answered r g) = then-goes done cap (so_far r) g

  last-alike : (t : S) (j k : List ℕ) → take cap j ≡ take cap k → log_text done t (last_line j) ≡ log_text done t (last_line k)
  unfolding log_text last_line
  last-alike t [] [] e = refl
  last-alike t [] (y ∷ k) e = absurd (clash cap y k some e)
  last-alike t (x ∷ j) [] e = absurd (clash cap x j some (sym e))
  last-alike t (x ∷ j) (y ∷ k) e =
      let q : done t (x ∷ j) ≡ done t (y ∷ k) = sym (kept t (x ∷ j)) ∙ ap (done t) e ∙ kept t (y ∷ k) in
      rw q

  -- at the end of the input: what was handed on, and then the answer to a last line without its line feed, is the text of the input
  pub whole_run : {t₀ : S} {i w : List ℕ} {t : S} {k : List ℕ} → Turns done cap t₀ i w t k [] → log_text done t₀ (lines_of i) ≡ w ++ log_text done t (last_line k)
  unfolding lines_of log_text log_held ended_lines open_line
  whole_run {t₀} {i} {w} {t} {k} r =
      let g = so_far r in
      rw (text-append done t₀ (ended_lines [] i) (last_line (open_line [] i)), g.written, append-nil w, g.held, last-alike t (open_line [] i) k g.open_line)

-- a run with one turn more
pub further : {S : Type 0} {done : S → List ℕ → Effect S} {cap : ℕ} {t₀ t : S} {k s : List ℕ} {t' : S} {k' s' x : List ℕ} → Reached done cap t₀ t k s
    → Stepped done cap t k s t' k' s' x
    → Reached done cap t₀ t' k' s'
further r (reads {p}) = record { input = r.input ++ p; handed = r.handed; run = read r.run }
further r (answers {x = x} g) = record { input = r.input; handed = r.handed ++ x; run = answered r.run g }
