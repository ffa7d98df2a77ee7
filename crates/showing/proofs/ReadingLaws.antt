-- Each answer of `read`. Assumes nothing.
use Prim.Native.Nat.{ℕ, ◌+◌}
use Rattle.message.specs.Reading.{reporting}
use Rattle.std.specs.Prelude.{Err}
use Rattle.message.specs.Refusal.{number, place}
use Rattle.message.specs.declared.reading.Report.{Report}
use Rattle.message.specs.declared.refusals.Refusal.{Refusal}
use Rattle.octets.proofs.Chain.{more, start}
use Rattle.octets.specs.Ascii.{ascii}
use Rattle.octets.specs.Decimal.{shown}
use Rattle.octets.specs.Splice.{splice, written}
use Rattle.showing.proofs.ShownLaws.{says}
use Rattle.showing.specs.Readings.{read_text, reading_text, report_text}
use Rattle.showing.specs.Shown.{unknown}
use Rattle.showing.specs.Words.{hex_bytes, is_bytes}
use lib.ListN.{length}
use mathlib.Core.Bool.{true, false}
use mathlib.Core.List.{List, [], ◌++◌, append_assoc}
use mathlib.Core.Path.{◌≡◌}

pub reading-refused : (o : List ℕ) (e : Refusal) {n p m k r : ℕ} {a b o' : List ℕ} → n ≡ number e → p ≡ place e → (m ≡ 0 + 3) × (a ≡ splice o 0 (ascii "no "))
    → (k ≡ m + length (shown n ++ ascii " ")) × (b ≡ splice a m (shown n ++ ascii " ")) → (r ≡ k + length (shown p ++ ascii " ")) × (o' ≡ splice b k (shown p ++ ascii " "))
    → (r ≡ length (reading_text (Err e))) × (o' ≡ written o (reading_text (Err e)))
unfolding reading_text
reading-refused o r {n} {p} i j x y z =
    let w = more (shown p ++ ascii " ") (more (shown n ++ ascii " ") (more (ascii "no ") (start o) x) y) z in
    let e : (([] ++ ascii "no ") ++ (shown n ++ ascii " ")) ++ (shown p ++ ascii " ") ≡ ascii "no " ++ (shown n ++ (ascii " " ++ (shown p ++ ascii " "))) = simp append_assoc in
    rw (← i, ← j) (says o e (w.place, w.is))

-- the count behind a reading
pub report_shown : (o : List ℕ) (x : Report) {m r : ℕ} {a o' : List ℕ} → (m ≡ length (reading_text x.reading)) × (a ≡ written o (reading_text x.reading))
    → (r ≡ m + length (shown x.count ++ ascii "\n")) × (o' ≡ splice a m (shown x.count ++ ascii "\n")) → (r ≡ length (report_text x)) × (o' ≡ written o (report_text x))
unfolding report_text
report_shown o x y z = let w = more (shown x.count ++ ascii "\n") (record { is = y.1; place = y.0 }) z in (w.place, w.is)

pub read-unknown : (c : ℕ) (w : List ℕ) → is_bytes w ≡ false → unknown ≡ read_text c w
unfolding read_text
read-unknown c w e = simp e

pub read-good : (c : ℕ) (w : List ℕ) → is_bytes w ≡ true → report_text (reporting c (hex_bytes w)) ≡ read_text c w
unfolding read_text
read-good c w e = simp e
