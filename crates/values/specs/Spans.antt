-- The text of a value in any text s, how it is spelled, and where that spelling stands: in the message, or in the bytes of Via. Assumes nothing.
use Rattle.std.specs.Prelude.{ℕ, ◌+◌, ltb, length, cond, List}
use Rattle.json_text.specs.Places.{bytes, part}
use Rattle.values.specs.Value.{spelling_of, text_of}
use Rattle.values.specs.declared.spans.Span.{Span}

-- how the text of the value at v is spelled, and that text
unfoldable pub spelling_at : List ℕ → ℕ → List ℕ
spelling_at s v = spelling_of (bytes s v)

unfoldable pub text_at : List ℕ → ℕ → List ℕ
text_at s v = text_of (bytes s v)

-- nothing
abbrev pub nowhere : Span
nowhere = record { start = 0; end = 0 }

-- where the whole spelling of the value at v stands: it begins behind the quote
unfoldable pub spelling_span : List ℕ → ℕ → Span
spelling_span s v = cond (ltb v (length s)) (record { start = v + 1; end = v + 1 + length (spelling_at s v) }) nowhere

-- the bytes of s at a span
unfoldable pub cut : List ℕ → Span → List ℕ
cut s x = part s x.start x.end
