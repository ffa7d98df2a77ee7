-- What a command on messages alone shows. Cited by the contract of `src/asking.rt`. Assumes nothing.
use Rattle.std.specs.Prelude.{ℕ, true, false, cond, List}
use Rattle.octets.specs.Ascii.{ascii}
use Rattle.octets.specs.Text.{same}
use Rattle.showing.specs.Located.{positions_text}
use Rattle.showing.specs.Readings.{read_text}
use Rattle.showing.specs.Shown.{unknown}
use Rattle.showing.specs.Writers.{edit_text, reply_line, text_line}

-- by its name, and the words behind it; `?` for any other name; a `read` under a ceiling of c values
unfoldable pub asked_text : ℕ → List ℕ → List ℕ → List ℕ
asked_text c name words =
    cond (same name (ascii "read")) (read_text c words)
    (cond (same name (ascii "positions")) (positions_text words)
    (cond (same name (ascii "reply")) (reply_line words)
    (cond (same name (ascii "add")) (edit_text true words)
    (cond (same name (ascii "remove")) (edit_text false words)
    (cond (same name (ascii "text")) (text_line words)
    unknown)))))
