-- What a line does, by each test on the way to its command. Assumes nothing.
use Prim.Native.Nat.{ℕ, ◌+◌, ◌≤◌, ◌<◌}
use Rattle.lines.specs.Log.{Effect}
use Rattle.octets.specs.Ascii.{ascii}
use Rattle.octets.specs.Splice.{written}
use Rattle.octets.specs.Text.{same}
use Rattle.probe.specs.Commands.{command_done, line_done, plain_done}
use Rattle.probe.specs.Events.{event_done}
use Rattle.probe.specs.Tables.{blank_done, dump_text, table_done}
use Rattle.probe.specs.Ceiling.{ceiling_after, ceiling_text}
use Rattle.probe.specs.Effect.{Held, holding, keeping, shows}
use Rattle.probe.specs.inner.Turned.{Finishes, Turned}
use Rattle.showing.specs.Asked.{asked_text}
use Rattle.showing.specs.Shown.{unknown}
use Rattle.showing.specs.Words.{first_word, has_space, rest}
use borrow.Author.Tests.{le-ltb, lt-ltb}
use lib.ListN.{drop, length, length-append}
use mathlib.Core.Bool.{true, false}
use mathlib.Core.List.{List}
use mathlib.Core.Path.{◌≡◌, ap, ◌∙◌}
use native.Mathlib.Omega.{arith}

-- A command and its words.
module _ (c : ℕ) (t name words : List ℕ) where
  pub does_msg : same name (ascii "msg") ≡ true → event_done c t false words ≡ plain_done c t name words
  unfolding plain_done
  does_msg a = simp a

  pub does-tick : same name (ascii "msg") ≡ false → same name (ascii "tick") ≡ true → event_done c t true words ≡ plain_done c t name words
  unfolding plain_done
  does-tick a b = simp (a, b)

  pub does-blank : same name (ascii "msg") ≡ false → same name (ascii "tick") ≡ false → same name (ascii "blank") ≡ true → blank_done t words ≡ plain_done c t name words
  unfolding plain_done
  does-blank a b d = simp (a, b, d)

  pub does-table : same name (ascii "msg") ≡ false → same name (ascii "tick") ≡ false → same name (ascii "blank") ≡ false → same name (ascii "table") ≡ true
      → table_done t words ≡ plain_done c t name words
  unfolding plain_done
  does-table a b d e = simp (a, b, d, e)

  pub does_ask : same name (ascii "msg") ≡ false → same name (ascii "tick") ≡ false → same name (ascii "blank") ≡ false → same name (ascii "table") ≡ false
      → plain_done c t name words ≡ shows t (asked_text c name words)
  unfolding plain_done
  does_ask a b d e = simp (a, b, d, e)

-- A command of either kind, where a ceiling and a table are held.
module _ (c : ℕ) (t name words : List ℕ) where
  pub does-ceiling : same name (ascii "ceiling") ≡ true → record { text = ceiling_text words; held = holding (ceiling_after c words) t } ≡ command_done (holding c t) name words
  unfolding command_done
  does-ceiling e = rw e

  pub does-plain : same name (ascii "ceiling") ≡ false → command_done (holding c t) name words ≡ keeping c (plain_done c t name words)
  unfolding command_done
  does-plain e = rw e

-- A line.
module _ (h : Held) (l : List ℕ) where
  pub line_long : 170000 < length l → line_done h l ≡ keeping h.ceiling (shows h.table unknown)
  unfolding line_done
  line_long g = rw (lt-ltb 170000 (length l) g)

  pub line_dump : length l ≤ 170000 → same l (ascii "dump") ≡ true → line_done h l ≡ keeping h.ceiling (shows h.table (dump_text h.table))
  unfolding line_done
  line_dump g a = rw (le-ltb 170000 (length l) g, a)

  module _ (g : length l ≤ 170000) (a : same l (ascii "dump") ≡ false) where
    pub line_word : has_space l ≡ false → line_done h l ≡ keeping h.ceiling (shows h.table unknown)
    unfolding line_done
    line_word e = rw (le-ltb 170000 (length l) g, a, e)

    pub line_command : {name words : List ℕ} → has_space l ≡ true → name ≡ first_word l → words ≡ rest l → command_done h name words ≡ line_done h l
    unfolding line_done
    line_command e p q = rw (p, q, le-ltb 170000 (length l) g, a, e)

-- what was done goes by another name
pub does : (o : List ℕ) {d d' : Effect (List ℕ)} {n : ℕ} {o' : List ℕ} {size : ℕ} {h' : List ℕ} → d ≡ d' → Turned d o n o' size h' → Turned d' o n o' size h'
does o e w = rw (← e) w

-- what was done to the table was done, and the ceiling stays
pub finishes : (c : ℕ) (o : List ℕ) {d : Effect (List ℕ)} {x : Effect Held} {n m : ℕ} {o' : List ℕ} {size size' c' : ℕ} {h' : List ℕ} → x ≡ keeping c d → Turned d o n o' size h'
    → (m ≡ n) × ((size' ≡ size) × (c' ≡ c)) → Finishes x o m o' c' size' h'
finishes c o e w s = rw (e, s.0, s.1.0, s.1.1) (record { text = w.text; held = ap (holding c) w.table; small = w.small })

pub finishes_as : (o : List ℕ) {x x' : Effect Held} {n : ℕ} {o' : List ℕ} {c size : ℕ} {h' : List ℕ} → x ≡ x' → Finishes x o n o' c size h' → Finishes x' o n o' c size h'
finishes_as o e w = rw (← e) w

-- an answer that was written whole stands in the buffer
pub answer-fits : (o text : List ℕ) {n : ℕ} {o' : List ℕ} → n ≡ length text → o' ≡ written o text → n ≤ length o'
unfolding written
answer-fits o text {n} {o'} e w =
    let k : length o' ≡ length text + length (drop (length text) o) = ap length w ∙ length-append text (drop (length text) o) in
    omega arith
