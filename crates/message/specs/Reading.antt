-- 01 Reading, rows 2 to 10, and 02 §9's row 11, tried in the paper's order: the contract of `read_and_count` cites `reporting`, that of `read` `reading`. Rows 4, 5 and
-- 11 stand here as the answer of `json_text`'s inner machine, which nobody has to believe: `by_the_grammar` in proofs/Theorems.antt says of any bytes and any
-- ceiling, both ways and in the words of RFC 7159's grammar (`json_text`'s specs/Verdict.antt), when 4, 5 and 11 are answered and at which place, and when row 6 is
-- reached, with which count; and every text has one such verdict (`one-verdict` in `json_text`'s proofs/VerdictLaws.antt).
-- How to read it: from `reporting` upwards, since each row names the next, which stands above it: `reporting` (2), `on_utf8` (3), `on_json` (4, 5, 11),
-- `shaped` (6), `known` (7), `judged` (8 and 9 on the tag's fields), `settled` (8 and 9 on the method's), `agreed` (10). Assumes nothing.
use Rattle.std.specs.Prelude.{ℕ, eqb, leb, ltb, length, true, false, ◌&&◌, cond, List, Result, Ok, Err}
use Rattle.json_text.specs.inner.Tour.{visited}
use Rattle.json_text.specs.Places.{members}
use Rattle.message.specs.Checks.{checked}
use Rattle.fields.specs.Known.{empty, noted, repeated}
use Rattle.message.specs.Message.{first_setting, setting_of, disagrees, message_of, probe_of}
use Rattle.message.specs.Shape.{tag_of, object_of}
use Rattle.message.specs.declared.refusals.Refusal.TheVariants.{Length, Utf8, Shape, Twice, Disagree}
use Rattle.message.specs.declared.refusals.Refusal.{Refusal}
use Rattle.message.specs.Checks.{Check}
use Rattle.fields.specs.declared.judging.Setting.{Setting}
use Rattle.message.specs.Refusal.{Reading, of_json}
use Rattle.message.specs.declared.reading.Report.{Report}
use Rattle.rules.specs.Names.{fields}
use Rattle.rules.specs.Numbers.{tag_request, tag_response}
use Rattle.utf8.specs.Rfc3629.{verdict, Verdict}
use Rattle.json_text.specs.declared.Fault.{Fault as JsonFault}

-- a fault is refused; else it goes on
abbrev pub unless : Check → Reading → Reading
unless (Ok u) r = r
unless (Err e) r = Err e

-- row 10, and what is read
unfoldable pub agreed : List ℕ → Setting → List ℕ → Reading
agreed s k t = cond (disagrees s k t) (Err Disagree) (Ok (message_of s k t))

-- the second run of rows 8 and 9, on the fields of a request's method
unfoldable pub settled : List ℕ → Setting → List ℕ → Reading
settled s k t = cond (eqb k.tag tag_request) (unless (checked s false k t) (agreed s k t)) (agreed s k t)

-- the first run, on the fields of the tag; a ping or a pong ends there
unfoldable pub judged : List ℕ → ℕ → List ℕ → Reading
judged s tag t =
    unless (checked s true (first_setting tag) t) (cond (ltb tag_response tag) (Ok (probe_of tag)) (settled s (setting_of s tag t) t))

-- row 7, a known name twice, at the opening quote of the first repeat; else on to row 8
unfoldable pub known : List ℕ → ℕ → List ℕ → Reading
known s tag qs = cond (ltb 0 (repeated fields s empty qs)) (Err (Twice (repeated fields s empty qs))) (judged s tag (noted fields s empty qs))

-- row 6, and on
unfoldable pub shaped : List ℕ → Reading
shaped s = cond (eqb (tag_of s) 0) (Err Shape) (known s (tag_of s) (members s (object_of s)))

-- refused before row 6: nothing is counted (02 §9)
abbrev pub uncounted : Refusal → Report
uncounted e = record { reading = Err e; count = 0 }

-- rows 4, 5 and 11, and on: the JSON values visited are counted
abbrev pub on_json : List ℕ → Result ℕ JsonFault → Report
on_json s (Ok n) = record { reading = shaped s; count = n }
on_json s (Err f) = uncounted (of_json f)

-- row 3, and on, under a ceiling of c values
abbrev pub on_utf8 : ℕ → List ℕ → Verdict → Report
on_utf8 c s (Ok _) = on_json s (visited c s)
on_utf8 c s (Err p) = uncounted (Utf8 p)

-- row 2: length 0 or over 32,768; and on
unfoldable pub reporting : ℕ → List ℕ → Report
reporting c s = cond (leb 1 (length s) && leb (length s) 32768) (on_utf8 c s (verdict s)) (uncounted Length)

-- what is read, the count aside
unfoldable pub reading : ℕ → List ℕ → Reading
reading c s = (reporting c s).reading

-- the program's ceiling, at which the writers read always (02 §9): no JSON text of 32,768 bytes passes it (`never-eleven` in proofs/Theorems.antt)
abbrev pub ample : ℕ
ample = 16384
