-- 01 Writing, taking our Via entry off a response, and the next host. The contract of `remove` cites `Took`, `host_in` and `removing`, that of
-- `next_hop` `next_hop`. Assumes nothing.
use Rattle.std.specs.Prelude.{ℕ, eqb, ltb, length, not, cond, List, [], ◌≡◌, Result, Ok, Err}
use Rattle.frame.specs.Edit.{removed}
use Rattle.json_text.specs.Places.{bytes, elements, part, last_of}
use Rattle.message.specs.Reading.{ample, reading}
use Rattle.values.specs.Spans.{nowhere}
use Rattle.message.specs.declared.facts.Message.{Message}
use Rattle.values.specs.declared.spans.Span.{Span}
use Rattle.message.specs.Refusal.{Reading}
use Rattle.writing.specs.Adding.{path_rule}
use Rattle.writing.specs.Outcome.{Outcome, refuse, write, on_read, answered, output_left}
use Rattle.writing.specs.Objects.{is_ours}
use Rattle.writing.specs.declared.answers.Refusal.TheVariants.{Path, Kind, Few, Foreign}
use Rattle.writing.specs.declared.answers.Taken.{Taken}
use Rattle.rules.specs.Numbers.{tag_response}
use Rattle.writing.specs.declared.answers.Refusal.{Refusal}

-- 30 (not a response, tag 2), 37 (fewer than two objects), 36 (the last has another host or destination), and the message less what stands
-- from the end of the last but one Via object to the end of the last
unfoldable pub remove_from : List ℕ → Message → List ℕ → List ℕ → Outcome
remove_from s m host destination =
    cond (not (eqb m.tag tag_response)) (refuse Kind)
    (cond (ltb (length (elements s m.via)) 2) (refuse Few)
    (cond (not (is_ours host destination (bytes s (last_of (elements s m.via))))) (refuse Foreign)
    (write (removed s m.via))))

unfoldable pub removing : List ℕ → List ℕ → List ℕ → List ℕ → Outcome
removing s host destination organization =
    cond (not (path_rule host destination organization)) (refuse Path)
    (on_read (reading ample s) (λ m. remove_from s m host destination))

-- where the host of the last but one Via object stands in what is read; `host_shown` has it only where there are two
abbrev pub host_in : Reading → Span
host_in (Err e) = nowhere
host_in (Ok m) = m.trail.host

-- the answer, where that host stands at h
abbrev pub host_shown : Span → Result ℕ Refusal → Result Taken Refusal
host_shown h (Ok n) = Ok (record { length = n; host = h })
host_shown h (Err r) = Err r

-- answer and output, where x is what becomes of the response on its way into o, and its next host stands at h
pub record Took (o : List ℕ) (h : Span) (x : Outcome) (r : Result Taken Refusal) (o' : List ℕ) : Type 0 where
  pub answer : r ≡ host_shown h (answered (length o) x)
  pub output : o' ≡ output_left o x

-- the next host, as a part of the message itself; on refusal the part is empty
abbrev pub next_hop : List ℕ → Result Taken Refusal → List ℕ
next_hop s (Ok t) = part s t.host.start t.host.end
next_hop s (Err r) = []
