-- The exits of `read`: the readers' answer is the machine's under the ceiling, which is true of the text. Assumes nothing.
use mathlib.Core.Path.{◌≡◌, refl, ap, subst, ◌∙◌}
use mathlib.Core.Bool.{false}
use mathlib.Core.List.{List, []}
use Prim.Native.Nat.{ℕ, ◌-◌, ◌≤◌, ◌<◌}
use native.Mathlib.Omega.{arith}
use lib.ListN.{length, get_or}
use Rattle.json_text.specs.Places.{is_ws}
use Rattle.json_text.specs.Verdict.{Verdict}
use Rattle.json_text.specs.inner.Begun.{begun}
use Rattle.json_text.specs.inner.Machine.{text, value, after, dead, answer, Pass}
use Rattle.json_text.specs.inner.Tour.{tour, total, resume, spot, Tally}
use Rattle.json_text.specs.inner.Tour.{Toured}
use Rattle.json_text.proofs.MoveLaws.{whole, trail}
use Rattle.json_text.proofs.StepLaws.{ws-text}
use Rattle.json_text.proofs.AroundLaws.{cap-end}
use Rattle.json_text.proofs.TourLaws.{tour-is, tour-moves, places_halt, spaces}
use Rattle.json_text.proofs.VerdictLaws.{verdict}
use Rattle.json_text.specs.declared.Fault.{Fault}
use Rattle.json_text.specs.declared.Fault.TheVariants.{Bad}
use Rattle.std.specs.Prelude.{Ok, Err}

module _ (c : ℕ) (s : List ℕ) where
  -- the room left is no more than there was
  pub tour-room : (e n : ℕ) → tour s 0 value (text 8) c ≡ Ok (e, n) → n ≤ c
  unfolding tour
  tour-room e n h = omega (arith, (cap-end c (answer s) (begun s 0 value (text 8)) e n h).1)

  read_is : (t : Toured) → tour s 0 value (text 8) c ≡ t → Verdict c s (total c t)
  read_is t e = subst (λ (x : Toured). Verdict c s (total c x)) e (verdict c s)

  -- the reader of its value answered r
  module _ {r : Toured} (v : Tally s 0 8 c value (λ k. k) r) where
    run : {r' : Toured} → r ≡ r' → tour s 0 value (text 8) c ≡ resume s after (text 8) r'
    run e = v.same (text 8) refl ∙ ap (resume s after (text 8)) e

    pub read-fault : {f : Fault} → r ≡ Err f → Verdict c s (Err f)
    read-fault {f} e = read_is (Err f) (run e)

    pub read-high : {e n : ℕ} → r ≡ Ok (e, n) → e ≤ length s
    read-high q = subst (λ (x : Toured). spot x ≤ length s) q v.high

    module _ {e n i : ℕ} (q : r ≡ Ok (e, n)) (w : Pass is_ws s e i) where
      on : tour s 0 value (text 8) c ≡ tour s i after (text 8) n
      on = run q ∙ spaces s i e after (text 8) n w (λ b h. ws-text b h 8) (λ b h. refl)

      over : length s ≤ i → tour s 0 value (text 8) c ≡ Ok (i, n)
      over u = on ∙ tour-is s i after (text 8) n (Ok i) [] (whole s i w.high u) (places_halt s i after (text 8) (omega (arith, w.high)))

      pub read-text : length s ≤ i → Verdict c s (Ok (c - n))
      read-text u = read_is (Ok (i, n)) (over u)

      pub read-room : length s ≤ i → n ≤ c
      read-room u = tour-room i n (over u)

      pub read-trail : i < length s → Verdict c s (Err (Bad i))
      read-trail h = read_is (Err (Bad i)) (on ∙ tour-moves s i after (text 8) n false dead h refl (trail (get_or s i 0) (w.stop h)))
