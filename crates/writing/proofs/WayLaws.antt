-- The ways out of a reply, an adding and a removing, one law for each. Assumes nothing.
use Prim.Native.Nat.{ℕ, ◌≤◌, ◌<◌}
use Rattle.frame.specs.Edit.{added, removed}
use Rattle.json_text.specs.Places.{bytes}
use Rattle.message.specs.Reading.{ample, reading}
use Rattle.message.specs.declared.facts.Message.{Message}
use Rattle.values.specs.declared.spans.Span.{Span}
use Rattle.rules.specs.Date.{date_rule}
use Rattle.rules.specs.Status.{status_text}
use Rattle.std.specs.Prelude.{Result, Ok, Err}
use Rattle.writing.proofs.TrailLaws.{Passed}
use Rattle.writing.specs.Adding.{entry, path_rule, add_to, adding}
use Rattle.writing.specs.Outcome.{Outcome, refuse, write, Writes}
use Rattle.writing.specs.Removing.{remove_from, removing, host_in, Took}
use Rattle.writing.specs.Reply.{reply_of, reply_text, unanswered, wrong_code, reply_to, replying}
use Rattle.writing.specs.Objects.{objects, is_ours, some}
use Rattle.writing.specs.declared.answers.Refusal.TheVariants.{Path, Kind, Code, Date, Loop, Full, Few, Foreign}
use Rattle.message.specs.declared.refusals.Refusal.{Refusal as Unread}
use Rattle.writing.specs.declared.answers.Refusal.{Refusal}
use Rattle.writing.specs.declared.answers.Taken.{Taken}
use borrow.Author.Tests.{eq-eqb, ne_eqb, lt-ltb, le-ltb}
use lib.ListN.{take, drop}
use mathlib.Core.Bool.{Bool, true, false}
use mathlib.Core.List.{List, ◌∷◌, ◌++◌}
use mathlib.Core.Path.{◌≡◌, ◌∙◌}

-- what is refused leaves the output
pub refused_as : (o : List ℕ) (r : Refusal) {x : Outcome} → x ≡ refuse r → Writes o x (Err r) o
refused_as o r e = record { answer = rw e; output = rw e }

pub wrote_as : {o : List ℕ} {x y : Outcome} {r : Result ℕ Refusal} {o' : List ℕ} → x ≡ y → Writes o y r o' → Writes o x r o'
wrote_as e w = record { answer = w.answer ∙ rw e; output = w.output ∙ rw e }

-- the reply
module _ (s : List ℕ) (m : Message) (code : ℕ) (date : List ℕ) where
  pub no-reply : unanswered m ≡ true → reply_to s m code date ≡ refuse Kind
  unfolding reply_to
  no-reply e = rw e

  module _ (a : unanswered m ≡ false) where
    pub bad-code : wrong_code code m.method ≡ true → reply_to s m code date ≡ refuse Code
    unfolding reply_to
    bad-code e = rw (a, e)

    module _ (b : wrong_code code m.method ≡ false) where
      pub bad-date : date_rule date ≡ false → reply_to s m code date ≡ refuse Date
      unfolding reply_to
      bad-date e = rw (a, b, e)

      pub a-reply : date_rule date ≡ true → {cseq to from call via : List ℕ} → cseq ≡ bytes s m.cseq → to ≡ bytes s m.to → from ≡ bytes s m.from → call ≡ bytes s m.call
          → via ≡ bytes s m.via → reply_to s m code date ≡ write (reply_text (status_text code) cseq to from call date via)
      unfolding reply_to reply_of
      a-reply e f₁ f₂ f₃ f₄ f₅ = rw (a, b, e, f₁, f₂, f₃, f₄, f₅)

  pub reply_of_lem : reading ample s ≡ Ok m → replying s code date ≡ reply_to s m code date
  unfolding replying
  reply_of_lem e = rw e

pub reply-none : (s : List ℕ) (code : ℕ) (date : List ℕ) (e : Unread) → reading ample s ≡ Err e → replying s code date ≡ refuse Kind
unfolding replying
reply-none s code date e q = rw q

-- adding
module _ (s : List ℕ) (m : Message) (host destination organization : List ℕ) where
  pub no-adding : (m.tag ≡ 1 → ⊥) → add_to s m host destination organization ≡ refuse Kind
  unfolding add_to
  no-adding ne = rw (ne_eqb m.tag 1 ne)

  module _ (a : m.tag ≡ 1) {met : Bool} (f : met ≡ some (is_ours host destination) (objects s m.via)) where
    pub on-trail : met ≡ true → add_to s m host destination organization ≡ refuse Loop
    unfolding add_to
    on-trail e = rw (eq-eqb m.tag 1 a, ← f, e)

    module _ (b : met ≡ false) (w : Passed s m.via m.trail) where
      pub sixteen : m.trail.count ≡ 16 → add_to s m host destination organization ≡ refuse Full
      unfolding add_to
      sixteen e = rw (eq-eqb m.tag 1 a, ← f, b, ← w.count, eq-eqb m.trail.count 16 e)

      pub an_adding : (m.trail.count ≡ 16 → ⊥)
          → add_to s m host destination organization ≡ write (take m.trail.end s ++ ((44 ∷ entry host destination organization) ++ drop m.trail.end s))
      unfolding add_to added
      an_adding ne = rw (eq-eqb m.tag 1 a, ← f, b, ← w.count, ne_eqb m.trail.count 16 ne, ← w.end)

module _ (s host destination organization : List ℕ) where
  pub bad-path : path_rule host destination organization ≡ false → adding s host destination organization ≡ refuse Path
  unfolding adding
  bad-path e = rw e

  module _ (k : path_rule host destination organization ≡ true) where
    pub add_none : (e : Unread) → reading ample s ≡ Err e → adding s host destination organization ≡ refuse Kind
    unfolding adding
    add_none e q = rw (k, q)

    pub add_of : (m : Message) → reading ample s ≡ Ok m → adding s host destination organization ≡ add_to s m host destination organization
    unfolding adding
    add_of m e = rw (k, e)

-- removing
pub took-refused : (o : List ℕ) (h : Span) (r : Refusal) {x : Outcome} → x ≡ refuse r → Took o h x (Err r) o
took-refused o h r e = record { answer = rw e; output = rw e }

pub took_as : {o : List ℕ} {h h' : Span} {x y : Outcome} {r : Result Taken Refusal} {o' : List ℕ} → h ≡ h' → x ≡ y → Took o h' y r o' → Took o h x r o'
took_as e f w = record { answer = w.answer ∙ rw (e, f); output = w.output ∙ rw f }

module _ (s : List ℕ) (m : Message) (host destination : List ℕ) where
  pub no-removing : (m.tag ≡ 2 → ⊥) → remove_from s m host destination ≡ refuse Kind
  unfolding remove_from
  no-removing ne = rw (ne_eqb m.tag 2 ne)

  module _ (a : m.tag ≡ 2) (w : Passed s m.via m.trail) where
    pub too_few : m.trail.count < 2 → remove_from s m host destination ≡ refuse Few
    unfolding remove_from
    too_few h = rw (eq-eqb m.tag 2 a, ← w.count, lt-ltb m.trail.count 2 h)

    module _ (b : 2 ≤ m.trail.count) {x : List ℕ} (f : x ≡ bytes s m.trail.last) where
      pub not_ours : is_ours host destination x ≡ false → remove_from s m host destination ≡ refuse Foreign
      unfolding remove_from
      not_ours e = rw (eq-eqb m.tag 2 a, ← w.count, le-ltb m.trail.count 2 b, ← w.last, ← f, e)

      module _ (e : is_ours host destination x ≡ true) where
        a-removing : remove_from s m host destination ≡ write (take m.trail.seam s ++ drop m.trail.end s)
        unfolding remove_from removed
        a-removing = rw (eq-eqb m.tag 2 a, ← w.count, le-ltb m.trail.count 2 b, ← w.last, ← f, e, ← (w.seam b), ← w.end)

        pub took-done : {o : List ℕ} {n : ℕ} {z : Result ℕ Refusal} {o' : List ℕ} → z ≡ Ok n → Writes o (write (take m.trail.seam s ++ drop m.trail.end s)) z o'
            → Took o m.trail.host (remove_from s m host destination) (Ok (record { length = n; host = m.trail.host })) o'
        took-done i g = record { answer = rw (a-removing, ← g.answer, i); output = g.output ∙ rw a-removing }

        pub took-not : {o : List ℕ} {y : Refusal} {z : Result ℕ Refusal} {o' : List ℕ} → z ≡ Err y → Writes o (write (take m.trail.seam s ++ drop m.trail.end s)) z o'
            → Took o m.trail.host (remove_from s m host destination) (Err y) o'
        took-not i g = record { answer = rw (a-removing, ← g.answer, i); output = g.output ∙ rw a-removing }

module _ (s host destination organization : List ℕ) where
  pub wrong-path : path_rule host destination organization ≡ false → removing s host destination organization ≡ refuse Path
  unfolding removing
  wrong-path e = rw e

  module _ (k : path_rule host destination organization ≡ true) where
    pub remove-none : (e : Unread) → reading ample s ≡ Err e → removing s host destination organization ≡ refuse Kind
    unfolding removing
    remove-none e q = rw (k, q)

    pub remove_of : (m : Message) → reading ample s ≡ Ok m → removing s host destination organization ≡ remove_from s m host destination
    unfolding removing
    remove_of m e = rw (k, e)

pub host_of_lem : (s : List ℕ) (m : Message) → reading ample s ≡ Ok m → host_in (reading ample s) ≡ m.trail.host
host_of_lem s m e = rw e
