-- The same lines wherever the input is cut. The lines of a piece are a fold over its bytes with the open line as state, so a piece behind
-- a piece is one line of induction; and what the splitter gives of a piece is that fold, each line cut to the buffer's room. Assumes nothing.
use Prim.Native.Nat.{ℕ, zero, suc, ◌+◌, ◌-◌, ◌≤◌, ◌<◌}
use Rattle.lines.proofs.WritingLaws.{front-written}
use Rattle.lines.specs.Input.{ended_lines, last_line, lines_of, open_line}
use Rattle.lines.specs.inner.Splitting.{Splits, buffer_after, buffered, here, joined, first_bytes, line_end, next_line, rest_of_line, pending}
use Rattle.lines.specs.declared.splitting.Next.TheVariants.{Buffered, Here, Pending}
use Rattle.octets.proofs.Chain.{length-written}
use Rattle.octets.specs.Splice.{written}
use Rattle.octets.specs.Text.{before}
use borrow.Author.Tests.{eqb-true, ltb-false, ltb-true}
use lib.Dec.{eqb, ltb}
use lib.ListN.{drop, length, length-drop, take}
use lib.Seq.{drop-drop, take_all, take-nil}
use mathlib.Core.Bool.{Bool, false, true, cond}
use mathlib.Core.List.{List, [], ◌∷◌, ◌++◌, append_assoc, append-nil, map}
use mathlib.Core.Path.{◌≡◌, ap, refl, subst, sym, ◌∙◌}
use native.Mathlib.Omega.{arith}

pub ended-cut : (k a b : List ℕ) → ended_lines k (a ++ b) ≡ ended_lines k a ++ ended_lines (open_line k a) b
unfolding ended_lines open_line
ended-cut k [] b = refl
ended-cut k (x ∷ a) b = go (eqb x 10) (ended-cut [] a b) (ended-cut (k ++ (x ∷ [])) a b)
  where
    go : (t : Bool) → ended_lines [] (a ++ b) ≡ ended_lines [] a ++ ended_lines (open_line [] a) b
        → ended_lines (k ++ (x ∷ [])) (a ++ b) ≡ ended_lines (k ++ (x ∷ [])) a ++ ended_lines (open_line (k ++ (x ∷ [])) a) b
        → cond t (k ∷ ended_lines [] (a ++ b)) (ended_lines (k ++ (x ∷ [])) (a ++ b)) ≡ cond t (k ∷ ended_lines [] a) (ended_lines (k ++ (x ∷ [])) a) ++ ended_lines
        (cond t (open_line [] a) (open_line (k ++ (x ∷ [])) a)) b
    go true e f = ap (λ (l : List (List ℕ)). k ∷ l) e
    go false e f = f

pub unended_cut : (k a b : List ℕ) → open_line k (a ++ b) ≡ open_line (open_line k a) b
unfolding open_line
unended_cut k [] b = refl
unended_cut k (x ∷ a) b = go (eqb x 10) (unended_cut [] a b) (unended_cut (k ++ (x ∷ [])) a b)
  where
    go : (t : Bool) → open_line [] (a ++ b) ≡ open_line (open_line [] a) b → open_line (k ++ (x ∷ [])) (a ++ b) ≡ open_line (open_line (k ++ (x ∷ [])) a) b
        → cond t (open_line [] (a ++ b)) (open_line (k ++ (x ∷ [])) (a ++ b)) ≡ open_line (cond t (open_line [] a) (open_line (k ++ (x ∷ [])) a)) b
    go true e f = e
    go false e f = f

-- the lines of an input that comes in two pieces
pub lines_cut : (a b : List ℕ) → lines_of (a ++ b) ≡ ended_lines [] a ++ (ended_lines (open_line [] a) b ++ last_line (open_line (open_line [] a) b))
unfolding lines_of
lines_cut a b = rw (ended-cut [] a b, unended_cut [] a b) (simp append_assoc)

-- One line of a piece: up to the first line feed, or the whole piece.

pub record Step (k s : List ℕ) : Type 0 where
  pub first : ended_lines k s ≡ (k ++ take (before 10 s) s) ∷ ended_lines [] (drop (suc (before 10 s)) s)
  pub then : open_line k s ≡ open_line [] (drop (suc (before 10 s)) s)

pub step : (k s : List ℕ) → before 10 s < length s → Step k s
unfolding ended_lines open_line before
step k [] h = absurd (omega arith)
step k (x ∷ s) h = go (eqb x 10) refl (step (k ++ (x ∷ [])) s)
  where
    go : (t : Bool) → eqb x 10 ≡ t → (before 10 s < length s → Step (k ++ (x ∷ [])) s) → Step k (x ∷ s)
    go true e r = record { first = rw (e, append-nil k); then = rw e }
    go false e r =
        let q = r (let g : suc (before 10 s) < suc (length s) = rw e at h in omega arith) in
        record {
          first = rw e (q.first ∙ ap (λ (l : List ℕ). l ∷ ended_lines [] (drop (suc (before 10 s)) s)) (append_assoc k (x ∷ []) (take (before 10 s) s)));
          then = rw e q.then;
        }

pub record Whole (k s : List ℕ) : Type 0 where
  pub none : ended_lines k s ≡ []
  pub all : open_line k s ≡ k ++ s

pub whole : (k s : List ℕ) → length s ≤ before 10 s → Whole k s
unfolding ended_lines open_line before
whole k [] h = record { none = refl; all = sym (append-nil k) }
whole k (x ∷ s) h = go (eqb x 10) refl (whole (k ++ (x ∷ [])) s)
  where
    go : (t : Bool) → eqb x 10 ≡ t → (length s ≤ before 10 s → Whole (k ++ (x ∷ [])) s) → Whole k (x ∷ s)
    go true e r = absurd (let g : suc (length s) ≤ 0 = rw e at h in omega arith)
    go false e r =
        let q = r (let g : suc (length s) ≤ suc (before 10 s) = rw e at h in omega arith) in
        record { none = rw e q.none; all = rw e (q.all ∙ append_assoc k (x ∷ []) s) }

-- What is kept.

pub take-kept : (n : ℕ) (a b : List ℕ) → take n (take n a ++ b) ≡ take n (a ++ b)
take-kept zero a b = refl
take-kept (suc n) [] b = refl
take-kept (suc n) (x ∷ a) b = ap (λ (l : List ℕ). x ∷ l) (take-kept n a b)

pub short : (n : ℕ) (l : List ℕ) → length (take n l) ≤ n
short zero l = omega arith
short (suc n) [] = omega arith
short (suc n) (x ∷ l) = let h = short n l in omega arith

module _ (o : List ℕ) (len : ℕ) (s : List ℕ) (from : ℕ) where
  -- what each answer says
  pub here-says : (e : ℕ) → next_line o len s from ≡ Here e → (e ≡ line_end s from) × (line_end s from < length s) × (len ≡ 0) × (buffer_after o len s from ≡ o)
  unfolding next_line buffer_after
  here-says e q = go (ltb (line_end s from) (length s)) (eqb len 0) refl refl q
    where
      go : (t u : Bool) → ltb (line_end s from) (length s) ≡ t → eqb len 0 ≡ u
          → cond t (cond u (Here (line_end s from)) (Buffered (length (joined o len s from)) (line_end s from + 1))) (Pending (length (joined o len s from))) ≡ Here e
          → (e ≡ line_end s from) × (line_end s from < length s) × (len ≡ 0) × (cond t (cond u o (written o (joined o len s from))) (written o (joined o len s from)) ≡ o)
      go true true pt pu q = (cc, ltb-true _ _ pt, eqb-true _ _ pu, refl)
      go true false pt pu q = let z : ◌≡◌ {A = ℕ} 0 1 = cc in absurd (omega arith)
      go false u pt pu q = let z : ◌≡◌ {A = ℕ} 0 1 = cc in absurd (omega arith)

  pub buffered-says : (m e : ℕ) → next_line o len s from ≡ Buffered m e
      → (m ≡ length (joined o len s from)) × (e ≡ line_end s from + 1) × (line_end s from < length s) × (buffer_after o len s from ≡ written o (joined o len s from))
  unfolding next_line buffer_after
  buffered-says m e q = go (ltb (line_end s from) (length s)) (eqb len 0) refl q
    where
      go : (t u : Bool) → ltb (line_end s from) (length s) ≡ t
          → cond t (cond u (Here (line_end s from)) (Buffered (length (joined o len s from)) (line_end s from + 1))) (Pending (length (joined o len s from))) ≡ Buffered m e
          → (m ≡ length (joined o len s from)) × (e ≡ line_end s from + 1) × (line_end s from < length s)
          × (cond t (cond u o (written o (joined o len s from))) (written o (joined o len s from)) ≡ written o (joined o len s from))
      go true true pt q = let z : ◌≡◌ {A = ℕ} 0 1 = cc in absurd (omega arith)
      go true false pt q = (cc, cc, ltb-true _ _ pt, refl)
      go false u pt q = let z : ◌≡◌ {A = ℕ} 0 1 = cc in absurd (omega arith)

  pub pending-says : (n : ℕ) → next_line o len s from ≡ Pending n
      → (n ≡ length (joined o len s from)) × (length s ≤ line_end s from) × (buffer_after o len s from ≡ written o (joined o len s from))
  unfolding next_line buffer_after
  pending-says n q = go (ltb (line_end s from) (length s)) (eqb len 0) refl q
    where
      go : (t u : Bool) → ltb (line_end s from) (length s) ≡ t
          → cond t (cond u (Here (line_end s from)) (Buffered (length (joined o len s from)) (line_end s from + 1))) (Pending (length (joined o len s from))) ≡ Pending n
          → (n ≡ length (joined o len s from)) × (length s ≤ line_end s from)
          × (cond t (cond u o (written o (joined o len s from))) (written o (joined o len s from)) ≡ written o (joined o len s from))
      go true true pt q = let z : ◌≡◌ {A = ℕ} 0 1 = cc in absurd (omega arith)
      go true false pt q = let z : ◌≡◌ {A = ℕ} 0 1 = cc in absurd (omega arith)
      go false u pt q = (cc, ltb-false _ _ pt, refl)

  -- the line so far, and the part, where k is the whole of the line so far
  pub joins : (k : List ℕ) → take len o ≡ first_bytes o k → joined o len s from ≡ first_bytes o (k ++ rest_of_line s from)
  joins k e = rw e (take-kept (length o) k (rest_of_line s from))

  pub room-kept : length (written o (joined o len s from)) ≡ length o
  room-kept = length-written o (joined o len s from) (short (length o) (take len o ++ rest_of_line s from))

pub ends_in : (s : List ℕ) (from : ℕ) → line_end s from < length s → before 10 (drop from s) < length (drop from s)
ends_in s from h = rw length-drop (omega arith)

pub goes_on : (s : List ℕ) (from : ℕ) → drop (suc (before 10 (drop from s))) (drop from s) ≡ drop (line_end s from + 1) s
goes_on s from =
    let z : from + suc (before 10 (drop from s)) ≡ line_end s from + 1 = omega arith in
    rw (drop-drop, z)

-- a line that is shown in place, where nothing of it is kept
pub in_place : (o : List ℕ) (len : ℕ) (s : List ℕ) (from e : ℕ) (k : List ℕ) → take len o ≡ first_bytes o k → e ≡ line_end s from → len ≡ 0
    → first_bytes o (take (e - from) (drop from s)) ≡ first_bytes o (k ++ rest_of_line s from)
in_place o len s from e k z is none =
    let w : e - from ≡ before 10 (drop from s) = omega arith in
    let y : first_bytes o k ≡ [] = sym z ∙ rw none in
    rw w (ap (λ (l : List ℕ). first_bytes o (l ++ rest_of_line s from)) (sym y) ∙ take-kept (length o) k (rest_of_line s from))

-- what the splitter gives of a piece: its lines, each cut to the buffer's room, and what is kept of the open one
pub record Given (s o : List ℕ) (from : ℕ) (k : List ℕ) (ls : List (List ℕ)) (o' : List ℕ) (n : ℕ) : Type 0 where
  pub lines : ls ≡ map (first_bytes o) (ended_lines k (drop from s))
  pub open_line : take n o' ≡ first_bytes o (open_line k (drop from s))
  pub room : length o' ≡ length o

-- one line x, and then the rest, from place e on with the buffer b
one : (s o b : List ℕ) (from e : ℕ) (k x : List ℕ) (ls : List (List ℕ)) (o' : List ℕ) (n : ℕ) → line_end s from < length s → e ≡ line_end s from + 1 → length b ≡ length o
    → x ≡ first_bytes o (k ++ rest_of_line s from) → Given s b e [] ls o' n → Given s o from k (x ∷ ls) o' n
one s o b from e k x ls o' n h is size xe g =
    let st = step k (drop from s) (ends_in s from h) in
    let f : ended_lines k (drop from s) ≡ (k ++ rest_of_line s from) ∷ ended_lines [] (drop e s) = st.first ∙ rw (is, goes_on s from) in
    let u : open_line k (drop from s) ≡ open_line [] (drop e s) = st.then ∙ rw (is, goes_on s from) in
    let l : ls ≡ map (first_bytes o) (ended_lines [] (drop e s)) = subst (λ (m : ℕ). ls ≡ map (take m) (ended_lines [] (drop e s))) size g.lines in
    record {
      lines = rw (f, xe, l);
      open_line = rw (u, ← size) g.open_line;
      room = g.room ∙ size;
    }

none_left : (s o : List ℕ) (len from : ℕ) (k : List ℕ) (n : ℕ) → take len o ≡ first_bytes o k → n ≡ length (joined o len s from) → length s ≤ line_end s from
    → Given s o from k [] (written o (joined o len s from)) n
none_left s o len from k n e is h =
    let d : length (drop from s) ≤ before 10 (drop from s) = rw length-drop (omega arith) in
    let w = whole k (drop from s) d in
    record {
      lines = rw w.none;
      open_line = front-written o (joined o len s from) refl is ∙ joins o len s from k e ∙ rw (w.all, take_all (before 10 (drop from s)) (drop from s) d);
      room = room-kept o len s from;
    }

pub given : {s o : List ℕ} {len from : ℕ} {ls : List (List ℕ)} {o' : List ℕ} {n : ℕ} → Splits s o len from ls o' n → (k : List ℕ) → take len o ≡ first_bytes o k
    → Given s o from k ls o' n
given {s} (pending {o} {len} {from} {n} q) k z =
    let p = pending-says o len s from n q in
    rw p.2 (none_left s o len from k n z p.0 p.1)
given {s} (here {o} {len} {from} {e} {ls} {o'} {n} q t) k z =
    let p = here-says o len s from e q in
    let g = given t [] (sym (take-nil (length (buffer_after o len s from)))) in
    one s o (buffer_after o len s from) from (e + 1) k _ ls o' n p.1 (ap (λ (m : ℕ). m + 1) p.0) (ap length p.3) (in_place o len s from e k z p.0 p.2) g
given {s} (buffered {o} {len} {from} {m} {e} {ls} {o'} {n} q t) k z =
    let p = buffered-says o len s from m e q in
    let g = given t [] (sym (take-nil (length (buffer_after o len s from)))) in
    one s o (buffer_after o len s from) from e k _ ls o' n p.2 p.1 (ap length p.3 ∙ room-kept o len s from)
    (rw p.3 (front-written o (joined o len s from) refl p.0) ∙ joins o len s from k z) g
