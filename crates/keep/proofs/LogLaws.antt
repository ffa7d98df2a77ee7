-- What a line does, by each case of what it says, and that its answer's line always has room. Assumes nothing.
use Rattle.answers.specs.Answer.{Answer}
use Rattle.std.proofs.Common.{Result, Err}
use Rattle.std.specs.Result.{result_unwrap_or}
use Prim.Native.Nat.{ℕ, ◌+◌, ◌-◌, ◌≤◌, ◌<◌}
use Rattle.answers.specs.declared.Refusal.TheVariants.{Reading}
use Rattle.keeper.specs.Keeping.{on_message, on_tick}
use Rattle.message.specs.Reading.{ample}
use Rattle.keep.specs.Log.{line_done}
use Rattle.lines.proofs.Cutting.{short}
use Rattle.lines.proofs.LineLaws.{Places, of_long, of_message, of_tick, places}
use Rattle.lines.proofs.WritingLaws.{wrote}
use Rattle.lines.specs.Program.{after_writing, answer_line, bad_line, line_of, said, said_by, wrote_at}
use Rattle.lines.specs.declared.answering.NoRoom.{NoRoom}
use Rattle.lines.specs.declared.reading.Line.TheVariants.{Bad, Long, Message, Tick}
use Rattle.lines.specs.declared.reading.Line.{Line}
use Rattle.octets.proofs.ClassLaws.{in_among}
use Rattle.octets.specs.Splice.{splice}
use Rattle.table.proofs.KeepLaws.{blank-sound}
use Rattle.table.specs.Blank.{blank_after, blank_fits, blank_of}
use Rattle.table.specs.WellFormed.{well_formed}
use lib.ListN.{drop, length, length-drop, take}
use lib.Seq.{take_all}
use mathlib.Core.Bool.{true}
use mathlib.Core.List.{List}
use mathlib.Core.Path.{◌≡◌, ap, refl, subst, sym, ◌∙◌}
use native.Mathlib.Omega.{arith}

-- Where a line's parts stand.

pub long-at : (l : List ℕ) (n : ℕ) → line_of l ≡ Long n → (n ≤ 20) × (n < length l)
long-at l n e = of_long (subst (λ (r : Line). Places l r) e (places l))

pub tick-at : (l : List ℕ) (n v : ℕ) → line_of l ≡ Tick n v → (n ≤ 20) × (n + 6 ≤ length l)
tick-at l n v e = of_tick (subst (λ (r : Line). Places l r) e (places l))

pub message-at : (l : List ℕ) (n v : ℕ) → line_of l ≡ Message n v → (n ≤ 20) × (n < length l)
message-at l n v e = of_message (subst (λ (r : Line). Places l r) e (places l))

pub part-short : (l : List ℕ) (n : ℕ) → n ≤ 20 → length (take (n - 0) l) ≤ 20
part-short l n h = let z : n - 0 ≡ n = omega arith in rw z (let k = short n l in omega arith)

-- Writing a line w that has room, by what `unwrap_or` then gives.
pub put-end : (o : List ℕ) (at : ℕ) (w : List ℕ) → at + length w ≤ length o → (r : Result ℕ NoRoom) (d : ℕ) {o' : List ℕ} → (r ≡ wrote_at o at w) × (o' ≡ after_writing o at w)
    → (result_unwrap_or r d ≡ at + length w) × (o' ≡ splice o at w)
put-end o at w room r d is =
    let k = wrote o at w room in
    (ap (λ (x : Result ℕ NoRoom). result_unwrap_or x d) (is.0 ∙ sym k.0), is.1 ∙ sym k.1)

-- What a line does, where its answer's line was written as the last two equations say.
module _ (t l o : List ℕ) (at : ℕ) {o' : List ℕ} {r : ℕ} where
  pub bad-done : line_of l ≡ Bad → (r ≡ at + length bad_line) × (o' ≡ splice o at bad_line)
      → (r ≡ at + length (line_done t l).text) × (o' ≡ splice o at (line_done t l).text) × (t ≡ (line_done t l).held)
  unfolding line_done said said_by
  bad-done e w = rw e (w.0, w.1, refl)

  pub long-done : (n : ℕ) → line_of l ≡ Long n
      → (r ≡ at + length (answer_line (take (n - 0) l) (Err (Reading 2 0)))) × (o' ≡ splice o at (answer_line (take (n - 0) l) (Err (Reading 2 0))))
      → (r ≡ at + length (line_done t l).text) × (o' ≡ splice o at (line_done t l).text) × (t ≡ (line_done t l).held)
  unfolding line_done said said_by
  long-done n e w =
      let z : n - 0 ≡ n = omega arith in
      let u = rw z at w in
      rw e (u.0, u.1, refl)

  pub tick-done : (n v : ℕ) {a : Answer} {t' : List ℕ} → line_of l ≡ Tick n v → (a ≡ (on_tick t v (take (length l - (n + 6)) (drop (n + 6) l))).answer)
      → (t' ≡ (on_tick t v (take (length l - (n + 6)) (drop (n + 6) l))).table)
      → (r ≡ at + length (answer_line (take (n - 0) l) a)) × (o' ≡ splice o at (answer_line (take (n - 0) l) a))
      → (r ≡ at + length (line_done t l).text) × (o' ≡ splice o at (line_done t l).text) × (t' ≡ (line_done t l).held)
  unfolding line_done said said_by
  tick-done n v e ans tab w =
      let z : n - 0 ≡ n = omega arith in
      let d : take (length l - (n + 6)) (drop (n + 6) l) ≡ drop (n + 6) l = take_all (length l - (n + 6)) (drop (n + 6) l) (rw length-drop (omega arith)) in
      let u = rw (z, ans, d) at w in
      rw e (u.0, u.1, rw d at tab)

  pub message-done : (n v : ℕ) {a : Answer} {t' : List ℕ} → line_of l ≡ Message n v → (a ≡ (on_message ample t v (take (length l - (n + 1)) (drop (n + 1) l))).answer)
      → (t' ≡ (on_message ample t v (take (length l - (n + 1)) (drop (n + 1) l))).table)
      → (r ≡ at + length (answer_line (take (n - 0) l) a)) × (o' ≡ splice o at (answer_line (take (n - 0) l) a))
      → (r ≡ at + length (line_done t l).text) × (o' ≡ splice o at (line_done t l).text) × (t' ≡ (line_done t l).held)
  unfolding line_done said said_by
  message-done n v e ans tab w =
      let z : n - 0 ≡ n = omega arith in
      let d : take (length l - (n + 1)) (drop (n + 1) l) ≡ drop (n + 1) l = take_all (length l - (n + 1)) (drop (n + 1) l) (rw length-drop (omega arith)) in
      let u = rw (z, ans, d) at w in
      rw e (u.0, u.1, rw d at tab)

-- 255 blank records are made, and they are a table
pub starts : (o : List ℕ) {t : List ℕ} → length o ≡ 40816 → t ≡ blank_after o 255 → t ≡ blank_of 255
unfolding blank_fits
starts o l e = e ∙ rw (l, in_among 1 255 255 (omega arith) (omega arith))

pub blank-starts : {t : List ℕ} → t ≡ blank_of 255 → well_formed t ≡ true
blank-starts e = rw e (blank-sound 255 (omega arith) (omega arith))
