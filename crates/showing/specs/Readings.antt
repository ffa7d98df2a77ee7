-- What `read` shows. Cited by the contracts of `src/readings.rt`. Assumes nothing.
use Rattle.std.specs.Prelude.{cond, ℕ, List, ◌++◌, Ok, Err}
use Rattle.message.specs.Reading.{reporting}
use Rattle.message.specs.Refusal.{Reading, number, place}
use Rattle.message.specs.declared.reading.Report.{Report}
use Rattle.octets.specs.Ascii.{ascii}
use Rattle.octets.specs.Decimal.{shown}
use Rattle.showing.specs.Shown.{unknown}
use Rattle.showing.specs.Words.{hex_bytes, is_bytes}

-- `ok `, or `no N PLACE `
unfoldable pub reading_text : Reading → List ℕ
reading_text (Ok m) = ascii "ok "
reading_text (Err e) = ascii "no " ++ (shown (number e) ++ (ascii " " ++ (shown (place e) ++ ascii " ")))

-- and COUNT (02 §9)
unfoldable pub report_text : Report → List ℕ
report_text r = reading_text r.reading ++ (shown r.count ++ ascii "\n")

-- `read HEX`, under a ceiling of c values
unfoldable pub read_text : ℕ → List ℕ → List ℕ
read_text c w = cond (is_bytes w) (report_text (reporting c (hex_bytes w))) unknown
