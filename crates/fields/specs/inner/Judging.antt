-- What the rule of a field answers (01 Reading, 9): kept, with the facts that the value tells, or broken, with the place in the value. Each
-- goes by the rules of Field.antt and Via.antt themselves. Assumes nothing.
use Rattle.std.specs.Prelude.{ℕ, cond, List, Result, Ok, Err}
use Rattle.fields.specs.Field.{keeps, letter_at, fault_at}
use Rattle.fields.specs.Trail.{trail_of}
use Rattle.values.specs.Value.{text_of, freely, ruled}
use Rattle.fields.specs.Via.{via_rule}
use Rattle.fields.specs.declared.judging.Setting.{Setting}
use Rattle.json_text.specs.Places.{elements}
use Rattle.fields.specs.declared.trails.Trail.{Trail}
use Rattle.rules.specs.Address.{address_rule, parts_of}
use Rattle.rules.specs.Pieces.{decimal_at}
use Rattle.rules.specs.Sequence.{sequence_rule, cseq_number, cseq_method}
use Rattle.rules.specs.Status.{status_rule}
use Rattle.rules.specs.declared.addresses.Address.{Address}
use Rattle.rules.specs.declared.sequences.Sequence.{Sequence}

-- any field
unfoldable pub judged_value : Setting → ℕ → List ℕ → Result (Unit {0}) ℕ
judged_value k n v = cond (keeps k n v) (Ok tt) (Err (fault_at k n v))

-- 1 CSeq: its number and its method's code
unfoldable pub cseq_of : List ℕ → Result Sequence ℕ
cseq_of v = cond (ruled sequence_rule v) (Ok (record { number = cseq_number (text_of v); method = cseq_method (text_of v) })) (Err (letter_at 1 v))

-- 2 To, 3 From: the address; both are under one rule
unfoldable pub party_of : List ℕ → Result Address ℕ
party_of v = cond (ruled address_rule v) (Ok (parts_of (text_of v))) (Err (letter_at 2 v))

-- 6 Via: its trail
unfoldable pub via_of : List ℕ → Result Trail ℕ
via_of v = cond (via_rule v) (Ok (trail_of v (elements v 0))) (Err 0)

-- 7 Status of a response: its code
unfoldable pub status_in : List ℕ → Result ℕ ℕ
status_in v = cond (freely status_rule v) (Ok (decimal_at 3 (text_of v) 0)) (Err 0)
