-- THEOREM on refusals: whichever of the four writers is asked, and whatever it is given, where it refuses, by any number, the output is byte for
-- byte what it was. Over the public contracts of `reply`, `add`, `remove` and `text`. Assumes nothing.
use Prim.Native.Nat.{ℕ}
use Rattle.message.specs.Reading.{ample, reading}
use Rattle.values.specs.declared.spans.Span.{Span}
use Rattle.std.specs.Prelude.{Result, Ok, Err}
use Rattle.writing.specs.Adding.{adding}
use Rattle.writing.specs.Outcome.{Outcome, refuse, write, fitted, answered, put, output_left, Writes}
use Rattle.writing.specs.Removing.{removing, host_in, host_shown, Took}
use Rattle.writing.specs.Reply.{replying}
use Rattle.writing.specs.Texting.{texting}
use Rattle.writing.specs.declared.answers.Refusal.TheVariants.{Long, Room}
use Rattle.writing.specs.declared.answers.Refusal.{Refusal}
use borrow.Author.Tests.{lt-leb, le-leb, ltb-true, ltb-false}
use lib.Dec.{ltb}
use lib.ListN.{length}
use mathlib.Core.Bool.{Bool, true, false, cond}
use mathlib.Core.List.{List}
use mathlib.Core.Path.{◌≡◌, refl, ap, ◌∙◌}
use native.Mathlib.Omega.{arith}

-- what a writer is asked: a reply to a message, with a code and a Date; our entry added to one, or taken off; the text of a part of one
pub data Asked : Type 0 where
  reply : (s : List ℕ) → (code : ℕ) → (date : List ℕ) → Asked
  add : (s host destination organization : List ℕ) → Asked
  remove : (s host destination organization : List ℕ) → Asked
  text : (s : List ℕ) → Asked

-- the contract of that writer allows that it refuses so, and leaves o' of the output o
abbrev pub Refuses : Asked → Refusal → List ℕ → List ℕ → Type 0
Refuses (reply s code date) f o o' = Writes o (replying s code date) (Err f) o'
Refuses (add s h d g) f o o' = Writes o (adding s h d g) (Err f) o'
Refuses (remove s h d g) f o o' = Took o (host_in (reading ample s)) (removing s h d g) (Err f) o'
Refuses (text s) f o o' = Writes o (texting s) (Err f) o'

-- 39 and 33, which go by the result's length
too_much : (o w : List ℕ) (f : Refusal) (a b : Bool) → ltb 32768 (length w) ≡ a → ltb (length o) (length w) ≡ b
    → Err f ≡ cond a (Err Long) (cond b (Err Room) (Ok (length w))) → put o w ≡ o
unfolding put
too_much o w f true b p q e = rw (lt-leb (length w) 32768 (ltb-true 32768 (length w) p))
too_much o w f false true p q e =
    rw (le-leb (length w) 32768 (ltb-false 32768 (length w) p), lt-leb (length w) (length o) (ltb-true (length o) (length w) q))
too_much o w f false false p q e = absurd (let z : ◌≡◌ {A = ℕ} 0 1 = cc in omega arith)

stays : (o : List ℕ) (x : Outcome) (f : Refusal) → Err f ≡ answered (length o) x → output_left o x ≡ o
unfolding fitted
stays o (refuse r) f e = refl
stays o (write w) f e = too_much o w f (ltb 32768 (length w)) (ltb (length o) (length w)) refl refl e

refused_of : (h : Span) (w : Result ℕ Refusal) (f : Refusal) → Err f ≡ host_shown h w → Err f ≡ w
refused_of h (Ok n) f e = absurd (let z : ◌≡◌ {A = ℕ} 0 1 = cc in omega arith)
refused_of h (Err r) f e = let z : f ≡ r = cc in ap Err z

pub refused-leaves : (a : Asked) (f : Refusal) (o o' : List ℕ) → Refuses a f o o' → o' ≡ o
refused-leaves (reply s code date) f o o' w = w.output ∙ stays o (replying s code date) f w.answer
refused-leaves (add s h d g) f o o' w = w.output ∙ stays o (adding s h d g) f w.answer
refused-leaves (remove s h d g) f o o' w =
    w.output ∙ stays o (removing s h d g) f (refused_of (host_in (reading ample s)) (answered (length o) (removing s h d g)) f w.answer)
refused-leaves (text s) f o o' w = w.output ∙ stays o (texting s) f w.answer
