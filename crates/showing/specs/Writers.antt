-- What `reply`, `add`, `remove` and `text` show for the words behind their names; `?` where a word is not what it should be. Cited by the
-- contracts of `src/writers.rt`. Assumes nothing.
use Rattle.std.specs.Prelude.{ℕ, replicate, Bool, ◌&&◌, cond, List, ◌++◌, None, Option, Some, Result, Ok, Err}
use Rattle.message.specs.Reading.{ample, reading}
use Rattle.octets.specs.Ascii.{ascii}
use Rattle.octets.specs.Decimal as decimal
use Rattle.showing.specs.Shown.{hexed, unknown}
use Rattle.showing.specs.Words.{hex_bytes, first_word, has_space, is_bytes, number_to, rest}
use Rattle.writing.specs.Adding.{adding}
use Rattle.writing.specs.Outcome.{Outcome, answered, output_left, writing_number}
use Rattle.writing.specs.Removing.{host_in, next_hop, removing, host_shown}
use Rattle.writing.specs.Reply.{replying}
use Rattle.writing.specs.Texting.{texting}
use Rattle.writing.specs.declared.answers.Refusal.{Refusal}
use Rattle.writing.specs.declared.answers.Taken.{Taken}

-- The words. Each but the last ends at the first space.

-- the number, up to a limit, that the first word is, where words follow
unfoldable pub first_number : ℕ → List ℕ → Option ℕ
first_number most words = cond (has_space words) (number_to most (first_word words)) None

-- the first word stands for bytes, and words follow
unfoldable pub is_first : List ℕ → Bool
is_first words = has_space words && is_bytes (first_word words)

-- the line by a number, if there is one
abbrev pub on_number : Option ℕ → (ℕ → List ℕ) → List ℕ
on_number (Some n) f = f n
on_number None f = unknown

-- the line by CODE, which goes to 65,535, and the words behind it
unfoldable pub on_code : List ℕ → (ℕ → List ℕ → List ℕ) → List ℕ
on_code words f = on_number (first_number 65535 words) (λ code. f code (rest words))

-- the line by the bytes of the first word and the words behind it
unfoldable pub on_first : List ℕ → (List ℕ → List ℕ → List ℕ) → List ℕ
on_first words f = cond (is_first words) (f (hex_bytes (first_word words)) (rest words)) unknown

-- the line by two words: how many bytes of room, up to 40,000, and what stands for bytes
unfoldable pub on_last : List ℕ → (ℕ → List ℕ → List ℕ) → List ℕ
on_last words f = on_number (first_number 40000 words) (λ n. cond (is_bytes (rest words)) (f n (hex_bytes (rest words))) unknown)

-- The answers.

-- a room of n bytes before the call: each is 5a
unfoldable pub filled : ℕ → List ℕ
filled n = replicate n 90

-- `ok LENGTH ` or `no N `
unfoldable pub head_of : Result ℕ Refusal → List ℕ
head_of (Ok n) = ascii "ok " ++ (decimal.shown n ++ ascii " ")
head_of (Err r) = ascii "no " ++ (decimal.shown (writing_number r) ++ ascii " ")

-- the answer without the places of the next host
unfoldable pub written_of : Result Taken Refusal → Result ℕ Refusal
written_of (Ok t) = Ok t.length
written_of (Err r) = Err r

-- the line for an answer and the room after it
unfoldable pub wrote_text : Result ℕ Refusal → List ℕ → List ℕ
wrote_text w room = head_of w ++ (hexed room ++ ascii "\n")

-- the same with the next host, which is a part of the message s
unfoldable pub took_text : Result Taken Refusal → List ℕ → List ℕ → List ℕ
took_text r room s = head_of (written_of r) ++ (hexed room ++ (ascii " " ++ (hexed (next_hop s r) ++ ascii "\n")))

-- the line for what becomes of x on its way into a room of n bytes: its answer, and the whole room
unfoldable pub wrote_line : ℕ → Outcome → List ℕ
wrote_line n x = wrote_text (answered n x) (output_left (filled n) x)

-- the same, where x is what becomes of the response s
unfoldable pub took_line : ℕ → List ℕ → Outcome → List ℕ
took_line n s x = took_text (host_shown (host_in (reading ample s)) (answered n x)) (output_left (filled n) x) s

-- the line of `add`, or of `remove`
unfoldable pub edited : Bool → ℕ → List ℕ → List ℕ → List ℕ → List ℕ → List ℕ
edited adds n s host destination organization =
    cond adds (wrote_line n (adding s host destination organization)) (took_line n s (removing s host destination organization))

-- `reply CODE DATE ROOM HEX`
unfoldable pub reply_line : List ℕ → List ℕ
reply_line words =
    on_code words (λ code words₁.
    on_first words₁ (λ date words₂.
    on_last words₂ (λ n s. wrote_line n (replying s code date))))

-- `add HOST DEST ORG ROOM HEX` and `remove HOST DEST ORG ROOM HEX`
unfoldable pub edit_text : Bool → List ℕ → List ℕ
edit_text adds words =
    on_first words (λ host words₁.
    on_first words₁ (λ destination words₂.
    on_first words₂ (λ organization words₃.
    on_last words₃ (λ n s. edited adds n s host destination organization))))

-- `text ROOM HEX`
unfoldable pub text_line : List ℕ → List ℕ
text_line words = on_last words (λ n s. wrote_line n (texting s))
