-- The text of a part of a message, such as the next host, for those who use the library (02 §2). The contract of `text` cites `texting`. Assumes nothing.
use Rattle.std.specs.Prelude.{ℕ, cond, List}
use Rattle.escapes.specs.Rfc7159 as strings
use Rattle.escapes.specs.Rfc7159.{is_broken}
use Rattle.writing.specs.Outcome.{Outcome, refuse, write}
use Rattle.writing.specs.declared.answers.Refusal.TheVariants.{Broken}

-- 9 (a lone surrogate), and the text that these bytes spell
unfoldable pub texting : List ℕ → Outcome
texting s = cond (is_broken s) (refuse Broken) (write (strings.text s))
