-- 01 Writing, adding our Via entry to a request. The contract of `add` cites `adding`. Assumes nothing.
use Rattle.std.specs.Prelude.{ℕ, eqb, length, Bool, not, ◌&&◌, cond, List, ◌++◌}
use Rattle.frame.specs.Edit.{added}
use Rattle.json_text.specs.Places.{elements}
use Rattle.message.specs.Reading.{ample, reading}
use Rattle.message.specs.declared.facts.Message.{Message}
use Rattle.octets.specs.Ascii.{ascii}
use Rattle.rules.specs.Texts.{host_rule, destination_rule, organization_rule}
use Rattle.writing.specs.Outcome.{Outcome, refuse, write, on_read}
use Rattle.writing.specs.Objects.{objects, is_ours, some}
use Rattle.writing.specs.declared.answers.Refusal.TheVariants.{Path, Kind, Loop, Full}
use Rattle.rules.specs.Numbers.{tag_request}

-- our entry: `{"host":"H","destination":"D","organization":"O"}`; a comma stands before it
unfoldable pub entry : List ℕ → List ℕ → List ℕ → List ℕ
entry host destination organization =
    ascii "{\"host\":\""
    ++ (host
    ++ (ascii "\",\"destination\":\""
    ++ (destination
    ++ (ascii "\",\"organization\":\""
    ++ (organization
    ++ ascii "\"}")))))

-- our own path keeps the Via rules; 38 where it does not
unfoldable pub path_rule : List ℕ → List ℕ → List ℕ → Bool
path_rule host destination organization = host_rule host && (destination_rule destination && organization_rule organization)

-- 30 (not a request), 34 (our host and destination in one Via object), 35 (sixteen objects), and the entry right after the last Via object
unfoldable pub add_to : List ℕ → Message → List ℕ → List ℕ → List ℕ → Outcome
add_to s m host destination organization =
    cond (not (eqb m.tag tag_request)) (refuse Kind)
    (cond (some (is_ours host destination) (objects s m.via)) (refuse Loop)
    (cond (eqb (length (elements s m.via)) 16) (refuse Full)
    (write (added s m.via (entry host destination organization)))))

unfoldable pub adding : List ℕ → List ℕ → List ℕ → List ℕ → Outcome
adding s host destination organization =
    cond (not (path_rule host destination organization)) (refuse Path)
    (on_read (reading ample s) (λ m. add_to s m host destination organization))
