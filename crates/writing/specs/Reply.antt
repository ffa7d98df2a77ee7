-- 01 Writing, the reply. The contract of `reply` cites `replying`. Assumes nothing.
use Rattle.std.specs.Prelude.{ℕ, eqb, Bool, not, ◌&&◌, ◌||◌, cond, List, ◌++◌}
use Rattle.json_text.specs.Places.{bytes}
use Rattle.message.specs.Reading.{ample, reading}
use Rattle.message.specs.declared.facts.Message.{Message}
use Rattle.octets.specs.Ascii.{ascii}
use Rattle.rules.specs.Date.{date_rule}
use Rattle.rules.specs.Status.{listed, status_text}
use Rattle.writing.specs.Outcome.{Outcome, refuse, write, on_read}
use Rattle.writing.specs.declared.answers.Refusal.TheVariants.{Kind, Code, Date}
use Rattle.rules.specs.Numbers.{method_ack, tag_request}

-- compact, keys as fixed byte strings in this order: Status with its phrase and Date as given, the five copied values as they stand
unfoldable pub reply_text : List ℕ → List ℕ → List ℕ → List ℕ → List ℕ → List ℕ → List ℕ → List ℕ
reply_text status cseq to from call date via =
    ascii "[\"response\",{\"Status\":\""
    ++ (status
    ++ (ascii "\",\"CSeq\":"
    ++ (cseq
    ++ (ascii ",\"To\":"
    ++ (to
    ++ (ascii ",\"From\":"
    ++ (from
    ++ (ascii ",\"Call-ID\":"
    ++ (call
    ++ (ascii ",\"Date\":\""
    ++ (date
    ++ (ascii "\",\"Via\":"
    ++ (via
    ++ ascii "}]")))))))))))))

-- the reply to the request s, read as m
unfoldable pub reply_of : List ℕ → Message → ℕ → List ℕ → List ℕ
reply_of s m code date =
    reply_text (status_text code) (bytes s m.cseq) (bytes s m.to) (bytes s m.from) (bytes s m.call) date (bytes s m.via)

-- 30: not a request (tag 1), or an ACK (method 4)
unfoldable pub unanswered : Message → Bool
unanswered m = not (eqb m.tag tag_request) || eqb m.method method_ack

-- 31: code not listed, or 202 without REFER (method 7)
unfoldable pub wrong_code : ℕ → ℕ → Bool
wrong_code code method = not (listed code) || (eqb code 202 && not (eqb method 7))

-- 30, 31, 32, and the reply
unfoldable pub reply_to : List ℕ → Message → ℕ → List ℕ → Outcome
reply_to s m code date =
    cond (unanswered m) (refuse Kind)
    (cond (wrong_code code m.method) (refuse Code)
    (cond (not (date_rule date)) (refuse Date)
    (write (reply_of s m code date))))

unfoldable pub replying : List ℕ → ℕ → List ℕ → Outcome
replying s code date = on_read (reading ample s) (λ m. reply_to s m code date)
