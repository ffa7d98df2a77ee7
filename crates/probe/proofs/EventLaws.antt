-- Each answer of `msg` and `tick`, and the table that is held after an event. Assumes nothing.
use Rattle.std.proofs.Common.{None, Result, Some, Err}
use Rattle.std.specs.Result.{result_unwrap_or}
use Prim.Native.Nat.{ℕ, ◌+◌, ◌-◌, ◌≤◌}
use Rattle.answers.specs.Answer.{Answer, refusal_number, refusal_place, refusal_reply}
use Rattle.answers.specs.declared.Refusal.{Refusal}
use Rattle.keeper.specs.Keeping.{Step, on_message, on_tick}
use Rattle.lines.proofs.WritingLaws.{wrote}
use Rattle.lines.specs.Program.{after_writing, answer_line, wrote_at}
use Rattle.lines.specs.declared.answering.NoRoom.{NoRoom}
use Rattle.octets.proofs.Chain.{more, start}
use Rattle.octets.specs.Ascii.{ascii}
use Rattle.octets.specs.Decimal.{shown}
use Rattle.octets.specs.Splice.{splice, written}
use Rattle.probe.specs.Events.{accepted_text, event_done, event_on, event_text, step_done}
use Rattle.probe.specs.Effect.{shows}
use Rattle.probe.specs.inner.Turned.{Turned}
use Rattle.showing.proofs.ShownLaws.{says}
use Rattle.showing.specs.Shown.{unknown}
use Rattle.showing.specs.Words.{hex_bytes, first_word, has_space, is_bytes, numeral, rest}
use lib.ListN.{drop, length, take}
use lib.Seq.{take_at}
use mathlib.Core.Bool.{Bool, true, false}
use mathlib.Core.List.{List, [], ◌++◌, append_assoc}
use mathlib.Core.Path.{◌≡◌, ap, sym, ◌∙◌}
use native.Mathlib.Omega.{arith}

-- What an event is answered.

pub accepted-ends : (o : List ℕ) (a : Answer) {m : ℕ} {o' o'' : List ℕ} (r : Result ℕ NoRoom) (d : ℕ) → (m ≡ 0 + 2) × (o' ≡ splice o 0 (ascii "ok"))
    → m + length (answer_line [] a) ≤ length o'
    → (r ≡ wrote_at o' m (answer_line [] a)) × (o'' ≡ after_writing o' m (answer_line [] a))
    → (result_unwrap_or r d ≡ length (accepted_text a)) × (o'' ≡ written o (accepted_text a))
unfolding accepted_text answer_line
accepted-ends o a {m} {o'} r d ok room is =
    let k = wrote o' m (answer_line [] a) room in
    let p = ap (λ (x : Result ℕ NoRoom). result_unwrap_or x d) (is.0 ∙ sym k.0) in
    let w = more (answer_line [] a) (more (ascii "ok") (start o) ok) (p, is.1 ∙ sym k.1) in
    (w.place, w.is)

pub event-refused : (o : List ℕ) (f : Refusal) {n p q : ℕ} {m k l r : ℕ} {a b d o' : List ℕ} → n ≡ refusal_number f → p ≡ refusal_place f → q ≡ refusal_reply f
    → (m ≡ 0 + 3) × (a ≡ splice o 0 (ascii "no ")) → (k ≡ m + length (shown n ++ ascii " ")) × (b ≡ splice a m (shown n ++ ascii " "))
    → (l ≡ k + length (shown p ++ ascii " ")) × (d ≡ splice b k (shown p ++ ascii " ")) → (r ≡ l + length (shown q ++ ascii "\n")) × (o' ≡ splice d l (shown q ++ ascii "\n"))
    → (r ≡ length (event_text (Err f))) × (o' ≡ written o (event_text (Err f)))
unfolding event_text
event-refused o f {n} {p} {q} en ep eq x y z u =
    let w = more (shown q ++ ascii "\n") (more (shown p ++ ascii " ") (more (shown n ++ ascii " ") (more (ascii "no ") (start o) x) y) z) u in
    let e : ((([] ++ ascii "no ") ++ (shown n ++ ascii " ")) ++ (shown p ++ ascii " ")) ++ (shown q ++ ascii "\n") ≡ ascii "no "
    ++ (shown n ++ (ascii " " ++ (shown p ++ (ascii " " ++ (shown q ++ ascii "\n"))))) = simp append_assoc in
    rw (← en, ← ep, ← eq) (says o e (w.place, w.is))

-- An event e on the first bytes of h, which are lent and come back as p.
pub came_back : (e : List ℕ → Step) (h : List ℕ) (size : ℕ) {r : Answer} (p : List ℕ) → length p ≡ size → (r ≡ (e (take (size - 0) h)).answer) × (p ≡ (e (take (size - 0) h)).table)
    → (r ≡ (e (take size h)).answer) × (take size (p ++ drop (size - 0) h) ≡ (e (take size h)).table)
came_back e h size p l w =
    let z : size - 0 ≡ size = omega arith in
    let v = rw z at w in
    (v.0, take_at p (drop (size - 0) h) size l ∙ v.1)

pub is-tick : (c : ℕ) (t : List ℕ) (tick : Bool) (time : ℕ) (s : List ℕ) → tick ≡ true → on_tick t time s ≡ event_on c t tick time s
unfolding event_on
is-tick c t tick time s e = rw e

pub is-message : (c : ℕ) (t : List ℕ) (tick : Bool) (time : ℕ) (s : List ℕ) → tick ≡ false → on_message c t time s ≡ event_on c t tick time s
unfolding event_on
is-message c t tick time s e = rw e

pub happened : (e : Step) (o : List ℕ) (size : ℕ) (h' : List ℕ) {a : Answer} {n : ℕ} {o' : List ℕ} → (a ≡ e.answer) × (take size h' ≡ e.table)
    → (n ≡ length (event_text a)) × (o' ≡ written o (event_text a)) → size ≤ 65536 → Turned (step_done e) o n o' size h'
happened e o size h' p w small =
    let v = rw p.0 at w in
    record { text = v; table = p.1; small = small }

-- `msg` and `tick`, by their words.
module _ (c : ℕ) (t : List ℕ) (tick : Bool) (words : List ℕ) where
  pub no-event : has_space words ≡ false → event_done c t tick words ≡ shows t unknown
  unfolding event_done
  no-event e = simp e

  module _ (e : has_space words ≡ true) where
    pub no_bytes : is_bytes (rest words) ≡ false → event_done c t tick words ≡ shows t unknown
    unfolding event_done
    no_bytes k = simp (e, k)

    pub no-time : is_bytes (rest words) ≡ true → numeral (first_word words) ≡ None → event_done c t tick words ≡ shows t unknown
    unfolding event_done
    no-time k v = simp (e, k, v)

    pub an_event : (time : ℕ) → is_bytes (rest words) ≡ true → numeral (first_word words) ≡ Some time
        → event_done c t tick words ≡ step_done (event_on c t tick time (hex_bytes (rest words)))
    unfolding event_done
    an_event time k v = simp (e, k, v)
