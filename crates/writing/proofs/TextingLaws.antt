-- The text of a part of a message: one law for each way out of `text`, by what `measure` and `decode` answer. Assumes nothing.
use Prim.Native.Nat.{ℕ, ◌≤◌, ◌<◌}
use Rattle.escapes.specs.Rfc7159 as strings
use Rattle.escapes.specs.Rfc7159.{is_broken}
use Rattle.escapes.specs.Text.{measure_of, over}
use Rattle.escapes.specs.declared.measuring.Measured.{Measured}
use Rattle.octets.specs.Splice.{written}
use Rattle.std.specs.Prelude.{Result, Ok, Err}
use Rattle.writing.proofs.PutLaws.{too_long, no_room, done}
use Rattle.writing.specs.Outcome.{write, Writes}
use Rattle.writing.specs.Texting.{texting}
use Rattle.writing.specs.declared.answers.Refusal.TheVariants.{Broken, Long, Room}
use Rattle.writing.specs.declared.answers.Refusal.{Refusal}
use lib.ListN.{length}
use lib.Seq.{take_all}
use mathlib.Core.Bool.{true, false}
use mathlib.Core.List.{List}
use mathlib.Core.Path.{◌≡◌, sym, ap, ◌∙◌}
use native.Mathlib.Omega.{arith}

-- where there is room, all of a text is put over the front
over-fits : (o w : List ℕ) → length w ≤ length o → over o w ≡ written o w
unfolding over
over-fits o w h = ap (written o) (take_all (length o) w h)

module _ (o s : List ℕ) {m : Measured} (e : m ≡ measure_of s) where
  broken-is : m.broken ≡ is_broken s
  unfolding measure_of
  broken-is = ap (λ (x : Measured). x.broken) e

  long : m.length ≡ length (strings.text s)
  unfolding measure_of
  long = ap (λ (x : Measured). x.length) e

  pub text-broken : m.broken ≡ true → Writes o (texting s) (Err Broken) o
  unfolding texting
  text-broken h = let b = sym broken-is ∙ h in record { answer = rw b; output = rw b }

  module _ (whole : m.broken ≡ false) where
    -- it is written, then
    by-write : {r : Result ℕ Refusal} {o' : List ℕ} → Writes o (write (strings.text s)) r o' → Writes o (texting s) r o'
    unfolding texting
    by-write w = rw (sym broken-is ∙ whole) w

    pub text-long : 32768 < m.length → Writes o (texting s) (Err Long) o
    text-long h = by-write (too_long o (strings.text s) m.length long h)

    pub text-room : m.length ≤ 32768 → length o < m.length → Writes o (texting s) (Err Room) o
    text-room h g = by-write (no_room o (strings.text s) m.length long h g)

    pub text-done : m.length ≤ 32768 → m.length ≤ length o → {r : ℕ} {o' : List ℕ} → (r ≡ length (strings.text s)) × (o' ≡ over o (strings.text s))
        → Writes o (texting s) (Ok r) o'
    text-done h g d =
        by-write (done o (strings.text s) m.length long h g (record { is = d.1 ∙ over-fits o (strings.text s) (omega (arith, long)); place = d.0 }))
