-- What a line does: its command's name, and the words behind it. Cited by the contracts of `src/commands.rt` and
-- `src/main.rt`. Assumes nothing.
use Rattle.std.specs.Prelude.{ℕ, ltb, length, true, false, cond, List}
use Rattle.lines.specs.Log.{Effect}
use Rattle.octets.specs.Ascii.{ascii}
use Rattle.octets.specs.Text.{same}
use Rattle.probe.specs.Events.{event_done}
use Rattle.probe.specs.Tables.{blank_done, dump_text, table_done}
use Rattle.probe.specs.Ceiling.{ceiling_after, ceiling_text}
use Rattle.probe.specs.Effect.{Held, holding, keeping, shows}
use Rattle.showing.specs.Asked.{asked_text}
use Rattle.showing.specs.Shown.{unknown}
use Rattle.showing.specs.Words.{first_word, has_space, rest}

-- what a command but `ceiling` does to the table with the words behind its name, under a ceiling of c
unfoldable pub plain_done : ℕ → List ℕ → List ℕ → List ℕ → Effect (List ℕ)
plain_done c t name words =
    cond (same name (ascii "msg")) (event_done c t false words)
    (cond (same name (ascii "tick")) (event_done c t true words)
    (cond (same name (ascii "blank")) (blank_done t words)
    (cond (same name (ascii "table")) (table_done t words)
    (shows t (asked_text c name words)))))

-- what a command does: `ceiling` alone alters the ceiling, and not the table
unfoldable pub command_done : Held → List ℕ → List ℕ → Effect Held
command_done h name words =
    cond (same name (ascii "ceiling"))
    (record { text = ceiling_text words; held = holding (ceiling_after h.ceiling words) h.table })
    (keeping h.ceiling (plain_done h.ceiling h.table name words))

-- what a line does: one of more than 170,000 bytes is not looked at
unfoldable pub line_done : Held → List ℕ → Effect Held
line_done h l =
    cond (ltb 170000 (length l)) (keeping h.ceiling (shows h.table unknown))
    (cond (same l (ascii "dump")) (keeping h.ceiling (shows h.table (dump_text h.table)))
    (cond (has_space l) (command_done h (first_word l) (rest l)) (keeping h.ceiling (shows h.table unknown))))
