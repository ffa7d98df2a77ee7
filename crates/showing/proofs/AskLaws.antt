-- What a command on messages alone shows, by each test of its name. Assumes nothing.
use Prim.Native.Nat.{ℕ}
use Rattle.octets.specs.Ascii.{ascii}
use Rattle.octets.specs.Text.{same}
use Rattle.showing.specs.Asked.{asked_text}
use Rattle.showing.specs.Located.{positions_text}
use Rattle.showing.specs.Readings.{read_text}
use Rattle.showing.specs.Shown.{unknown}
use Rattle.showing.specs.Writers.{edit_text, reply_line, text_line}
use mathlib.Core.Bool.{true, false}
use mathlib.Core.List.{List}
use mathlib.Core.Path.{◌≡◌}

module _ (c : ℕ) (name words : List ℕ) where
  pub asks_read : same name (ascii "read") ≡ true → read_text c words ≡ asked_text c name words
  unfolding asked_text
  asks_read a = simp a

  pub asks-positions : same name (ascii "read") ≡ false → same name (ascii "positions") ≡ true → positions_text words ≡ asked_text c name words
  unfolding asked_text
  asks-positions a b = simp (a, b)

  module _ (a : same name (ascii "read") ≡ false) (b : same name (ascii "positions") ≡ false) where
    pub asks-reply : same name (ascii "reply") ≡ true → reply_line words ≡ asked_text c name words
    unfolding asked_text
    asks-reply d = simp (a, b, d)

    pub asks-add : same name (ascii "reply") ≡ false → same name (ascii "add") ≡ true → edit_text true words ≡ asked_text c name words
    unfolding asked_text
    asks-add d e = simp (a, b, d, e)

    pub asks-remove : same name (ascii "reply") ≡ false → same name (ascii "add") ≡ false → same name (ascii "remove") ≡ true → edit_text false words ≡ asked_text c name words
    unfolding asked_text
    asks-remove d e f = simp (a, b, d, e, f)

    pub asks-text : same name (ascii "reply") ≡ false → same name (ascii "add") ≡ false → same name (ascii "remove") ≡ false → same name (ascii "text") ≡ true
        → text_line words ≡ asked_text c name words
    unfolding asked_text
    asks-text d e f g = simp (a, b, d, e, f, g)

    pub asks_else : same name (ascii "reply") ≡ false → same name (ascii "add") ≡ false → same name (ascii "remove") ≡ false → same name (ascii "text") ≡ false
        → unknown ≡ asked_text c name words
    unfolding asked_text
    asks_else d e f g = simp (a, b, d, e, f, g)
