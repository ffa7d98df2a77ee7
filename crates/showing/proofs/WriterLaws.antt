-- What the words taken mean for the line that is shown, one law for each way out, and what a filled room shows after a writing.
-- Assumes nothing.
use Prim.Native.Nat.{ℕ, zero, suc, ◌+◌, ◌-◌, ◌*◌, ◌≤◌, ◌<◌}
use Rattle.message.specs.Reading.{ample, reading}
use Rattle.values.specs.declared.spans.Span.{Span}
use Rattle.octets.proofs.Chain.{At}
use Rattle.octets.proofs.TestLaws.{and_parts}
use Rattle.octets.specs.Splice.{written}
use Rattle.octets.specs.Text.{before}
use Rattle.showing.proofs.ShownLaws.{says}
use Rattle.showing.proofs.WordLaws.{got_false, got_front, got_place, got_true, half, hex-short, rest-short, stands-length, to-small}
use Rattle.showing.specs.Shown.{Puts, hexed, unknown}
use Rattle.showing.specs.Words.{hex_bytes, first_word, has_space, is_bytes, number_to, numeral, rest}
use Rattle.showing.specs.inner.Got.{Got}
use Rattle.showing.specs.Writers.{edit_text, edited, filled, head_of, first_number, is_first, on_code, on_first, on_last, reply_line, text_line, took_line, took_text}
use Rattle.showing.specs.Writers.{wrote_line}
use Rattle.showing.specs.Writers.{written_of, wrote_text}
use Rattle.message.proofs.AcceptedVia.{part-short}
use Rattle.std.proofs.lemmas.Option.{none-some}
use Rattle.std.specs.Prelude.{None, Option, Some, Result, Ok, Err}
use Rattle.writing.specs.Adding.{adding}
use Rattle.writing.specs.Outcome.{Outcome, Writes, answered, output_left}
use Rattle.writing.specs.Removing.{Took, host_in, next_hop, removing, host_shown}
use Rattle.writing.specs.Reply.{replying}
use Rattle.writing.specs.Texting.{texting}
use Rattle.writing.specs.declared.answers.Refusal.{Refusal}
use Rattle.writing.specs.declared.answers.Taken.{Taken}
use borrow.Author.Tests.{ltb-true}
use lib.ListN.{drop, length, length-append, length-drop, length-replicate, length-take, replicate, take}
use lib.Seq.{drop_at, length-take-le, take-add, take_at, take-take}
use mathlib.Core.Bool.{Bool, true, false, cond}
use mathlib.Core.List.{List, [], ◌∷◌, ◌++◌, append_assoc}
use mathlib.Core.Path.{◌≡◌, ap, refl, sym, ◌∙◌}
use native.Mathlib.Omega.{arith}

-- Words and their lengths.

first_short : (words : List ℕ) → length (first_word words) ≤ length words
first_short words = omega (arith, length-take (before 32 words) words)

both-short : (words : List ℕ) → has_space words ≡ true → length (first_word words) + length (rest words) ≤ length words
both-short words e =
    let h : before 32 words < length words = ltb-true _ _ e in
    omega (arith, length-take-le (before 32 words) words (omega arith), length-drop (before 32 words + 1) words)

-- a word stands for at most 40,000 bytes
most : (w : List ℕ) → is_bytes w ≡ true → length (hex_bytes w) ≤ 40000
most w e = omega (arith, stands-length w, hex-short 80000 w (omega arith) e)

pub first-room : (words : List ℕ) (at : ℕ) → 2 * at + length words ≤ 170000 → 2 * at + length (first_word words) ≤ 170000
first-room words at h = omega (arith, first_short words)

pub rest-room : (words : List ℕ) (at : ℕ) → 2 * at + length words ≤ 170000 → 2 * at + length (rest words) ≤ 170000
rest-room words at h = omega (arith, rest-short words)

-- Whether the words are what they should be.

pub first-none : (words : List ℕ) → has_space words ≡ false → is_first words ≡ false
unfolding is_first
first-none words e = rw e

pub number-none : (most : ℕ) (words : List ℕ) → has_space words ≡ false → None ≡ first_number most words
unfolding first_number
number-none most words e = rw e

pub number-first : (most : ℕ) (words : List ℕ) → has_space words ≡ true → number_to most (first_word words) ≡ first_number most words
unfolding first_number
number-first most words e = rw e

-- and a number is no larger than the limit
pub number-small : (most : ℕ) (words : List ℕ) {n : ℕ} → first_number most words ≡ Some n → n ≤ most
unfolding first_number
number-small most words {n} e = go (has_space words) e
  where
    go : (b : Bool) → cond b (number_to most (first_word words)) None ≡ Some n → n ≤ most
    go true e = to-small most (numeral (first_word words)) e
    go false e = absurd (none-some n e)

number-space : (most : ℕ) (words : List ℕ) {n : ℕ} → first_number most words ≡ Some n → has_space words ≡ true
unfolding first_number
number-space most words {n} e = go (has_space words) e
  where
    go : (b : Bool) → cond b (number_to most (first_word words)) None ≡ Some n → b ≡ true
    go true e = refl
    go false e = absurd (none-some n e)

-- Taking bytes.

module _ (words : List ℕ) {b : List ℕ} {at : ℕ} {r : Option ℕ} {b' : List ℕ} where
  pub first_got : has_space words ≡ true → Got (is_bytes (first_word words)) b at (hex_bytes (first_word words)) r b'
      → Got (is_first words) b at (hex_bytes (first_word words)) r b'
  unfolding is_first
  first_got e x = rw e x

-- what stood in front stays, and the bytes stand behind it
seam : (b b' w : List ℕ) (at r : ℕ) → at ≤ length b → r ≡ at + length w → take r b' ≡ take at b ++ w → (take at b' ≡ take at b) × (take (r - at) (drop at b') ≡ w) × (r ≤ length b')
seam b b' w at r h p e =
    let l : length (take at b) ≡ at = length-take-le at b h in
    let f : take at b' ≡ take at b = sym (take-take at r b' (omega arith)) ∙ ap (take at) e ∙ take_at (take at b) w at l in
    let z : r - at ≡ length w = omega arith in
    let q : take at b' ++ take (length w) (drop at b') ≡ take at b ++ w = sym (take-add at (length w) b') ∙ ap (λ (n : ℕ). take n b') (sym p) ∙ e in
    let k : length (take at b') ≡ at = ap length f ∙ l in (
      f,
      rw z (sym (drop_at (take at b') (take (length w) (drop at b')) at k) ∙ ap (drop at) q ∙ drop_at (take at b) w at l),
      omega (arith, ap length e, length-append (take at b) w, length-take r b'),
    )

cut : (l : List ℕ) (a n : ℕ) → a ≤ length l → drop a (take (a + n) l) ≡ take n (drop a l)
cut l a n h = ap (drop a) (take-add a n l) ∙ drop_at (take a l) (take n (drop a l)) a (length-take-le a l h)

-- and so does each part of it
pub front_kept : (b b' : List ℕ) (a at : ℕ) → a ≤ at → take at b' ≡ take at b → take a b' ≡ take a b
front_kept b b' a at h e = sym (take-take a at b' h) ∙ ap (take a) e ∙ take-take a at b h

pub part-kept : (b b' : List ℕ) (a c at : ℕ) → a ≤ c → c ≤ at → at ≤ length b → take at b' ≡ take at b → take (c - a) (drop a b') ≡ take (c - a) (drop a b)
part-kept b b' a c at h k g e =
    let j : at ≤ length b' = omega (arith, ap length e, length-take at b', length-take at b) in
    let z : a + (c - a) ≡ c = omega arith in
    let f : take (a + (c - a)) b' ≡ take (a + (c - a)) b = rw z (front_kept b b' c at k e) in
    sym (cut b' a (c - a) (omega arith)) ∙ ap (drop a) f ∙ cut b a (c - a) (omega arith)

-- the first word's bytes were taken
pub record First (words b : List ℕ) (at r : ℕ) (b' : List ℕ) : Type 0 where
  pub order : at ≤ r
  pub bound : 2 * r + length (rest words) ≤ 170000
  pub within : r ≤ length b'
  pub front : take at b' ≡ take at b
  pub taken : take (r - at) (drop at b') ≡ hex_bytes (first_word words)
  pub on : (f : List ℕ → List ℕ → List ℕ) → on_first words f ≡ f (hex_bytes (first_word words)) (rest words)

-- ROOM is the number n, and the bytes of HEX were taken
pub record Last (words b : List ℕ) (at n r : ℕ) (b' : List ℕ) : Type 0 where
  pub order : at ≤ r
  pub short : r ≤ at + 40000
  pub small : n ≤ 40000
  pub within : r ≤ length b'
  pub front : take at b' ≡ take at b
  pub taken : take (r - at) (drop at b') ≡ hex_bytes (rest words)
  pub on : (f : ℕ → List ℕ → List ℕ) → on_last words f ≡ f n (hex_bytes (rest words))

first_on : (words : List ℕ) (f : List ℕ → List ℕ → List ℕ) → is_first words ≡ true → on_first words f ≡ f (hex_bytes (first_word words)) (rest words)
unfolding on_first
first_on words f e = rw e

first_off : (words : List ℕ) (f : List ℕ → List ℕ → List ℕ) → is_first words ≡ false → on_first words f ≡ unknown
unfolding on_first
first_off words f e = rw e

last_on : (words : List ℕ) (f : ℕ → List ℕ → List ℕ) {n : ℕ} → first_number 40000 words ≡ Some n → is_bytes (rest words) ≡ true → on_last words f ≡ f n (hex_bytes (rest words))
unfolding on_last
last_on words f e t = rw (e, t)

-- no room
pub no_room : (words : List ℕ) (f : ℕ → List ℕ → List ℕ) → first_number 40000 words ≡ None → on_last words f ≡ unknown
unfolding on_last
no_room words f e = rw e

last_off : (words : List ℕ) (f : ℕ → List ℕ → List ℕ) {n : ℕ} → first_number 40000 words ≡ Some n → is_bytes (rest words) ≡ false → on_last words f ≡ unknown
unfolding on_last
last_off words f e t = rw (e, t)

first-parts : (words : List ℕ) → is_first words ≡ true → has_space words ≡ true
unfolding is_first
first-parts words e = (and_parts _ _ e).0

module _ (words b : List ℕ) (at : ℕ) {o : Option ℕ} (b' : List ℕ) (room : 2 * at + length words ≤ 170000) where
  pub first_taken : Got (is_first words) b at (hex_bytes (first_word words)) o b' → at ≤ length b → {r : ℕ} → o ≡ Some r → First words b at r b'
  first_taken x h {r} k =
      let t = got_true (is_first words) x k in
      let g = got_place x t k in
      let s = seam b b' (hex_bytes (first_word words)) at r h g.0 (got_front x t k h) in
      record {
        order = omega (arith, g.0);
        bound = omega (arith, g.0, half (first_word words), both-short words (first-parts words t));
        within = s.2;
        front = s.0;
        taken = s.1;
        on = λ f. first_on words f t;
      }

  pub first-refused : Got (is_first words) b at (hex_bytes (first_word words)) o b' → o ≡ None → (f : List ℕ → List ℕ → List ℕ) → on_first words f ≡ unknown
  first-refused x k f = first_off words f (got_false (is_first words) x k)

  module _ {n : ℕ} (e : first_number 40000 words ≡ Some n) (x : Got (is_bytes (rest words)) b at (hex_bytes (rest words)) o b') where
    pub last_taken : at ≤ length b → {r : ℕ} → o ≡ Some r → Last words b at n r b'
    last_taken h {r} k =
        let t = got_true (is_bytes (rest words)) x k in
        let g = got_place x t k in
        let s = seam b b' (hex_bytes (rest words)) at r h g.0 (got_front x t k h) in
        record {
          order = omega (arith, g.0);
          short = omega (arith, g.0, most (rest words) t);
          small = number-small 40000 words e;
          within = s.2;
          front = s.0;
          taken = s.1;
          on = λ f. last_on words f e t;
        }

    pub last-refused : o ≡ None → (f : ℕ → List ℕ → List ℕ) → on_last words f ≡ unknown
    last-refused k f = last_off words f e (got_false (is_bytes (rest words)) x k)

-- CODE.
pub code-on : (words : List ℕ) (f : ℕ → List ℕ → List ℕ) {n : ℕ} → first_number 65535 words ≡ Some n → on_code words f ≡ f n (rest words)
unfolding on_code
code-on words f e = rw e

pub code_off : (words : List ℕ) (f : ℕ → List ℕ → List ℕ) → first_number 65535 words ≡ None → on_code words f ≡ unknown
unfolding on_code
code_off words f e = rw e

-- What a filled room shows.

take-replicate : (n k : ℕ) → n ≤ k → take {A = ℕ} n (replicate k 90) ≡ replicate n 90
take-replicate zero k h = refl
take-replicate (suc n) zero h = absurd (omega arith)
take-replicate (suc n) (suc k) h = ap (λ (l : List ℕ). 90 ∷ l) (take-replicate n k (omega arith))

filled-front : (n k : ℕ) → n ≤ k → take n (filled k) ≡ filled n
unfolding filled
filled-front n k h = take-replicate n k h

filled-length : (n : ℕ) → length (filled n) ≡ n
unfolding filled
filled-length n = length-replicate n 90

module _ (n : ℕ) (x : Outcome) {room : List ℕ} (h : n ≤ 40000) (e : room ≡ filled 40000) where
  room-front : take n room ≡ filled n
  room-front = ap (take n) e ∙ filled-front n 40000 h

  room-answered : answered (length (take n room)) x ≡ answered n x
  room-answered = ap (λ (k : ℕ). answered k x) (ap length room-front ∙ filled-length n)

  pub wrote_line_lem : {w : Result ℕ Refusal} {o : List ℕ} → Writes (take n room) x w o → wrote_text w o ≡ wrote_line n x
  unfolding wrote_line
  wrote_line_lem t =
      let a = t.answer ∙ room-answered in
      let b = t.output ∙ ap (λ (o : List ℕ). output_left o x) room-front in
      rw (a, b)

  pub took_line_lem : (s : List ℕ) {r : Result Taken Refusal} {o : List ℕ} → Took (take n room) (host_in (reading ample s)) x r o → took_text r o s ≡ took_line n s x
  unfolding took_line
  took_line_lem s t =
      let a = t.answer ∙ ap (host_shown (host_in (reading ample s))) room-answered in
      let b = t.output ∙ ap (λ (o : List ℕ). output_left o x) room-front in
      rw (a, b)

-- the next host is a part of the message
pub hop-short : (s : List ℕ) (r : Result Taken Refusal) → length (next_hop s r) ≤ length s
hop-short s (Ok t) = part-short s t.host.start t.host.end
hop-short s (Err why) = omega arith

-- The parts of a line.

-- what was put begins a chain, and a chain ends as what was put
pub begun : {o t : List ℕ} {r : ℕ} {o' : List ℕ} → Puts o t r o' → At o t o' r
begun p = record { is = p.1; place = p.0 }

pub ended : {o t : List ℕ} {r : ℕ} {o' : List ℕ} (u : List ℕ) → At o t o' r → t ≡ u → Puts o u r o'
ended {o} u a e = (a.place ∙ ap length e, a.is ∙ ap (written o) e)

pub wrote-parts : (w : Result ℕ Refusal) (room : List ℕ) → (head_of w ++ hexed room) ++ (10 ∷ []) ≡ wrote_text w room
unfolding wrote_text
wrote-parts w room = append_assoc (head_of w) (hexed room) (10 ∷ [])

pub took-parts : (r : Result Taken Refusal) (room s : List ℕ) {w : Result ℕ Refusal} {h : List ℕ} → w ≡ written_of r → h ≡ next_hop s r
    → (((head_of w ++ hexed room) ++ (32 ∷ [])) ++ hexed h) ++ (10 ∷ []) ≡ took_text r room s
unfolding took_text
took-parts r room s e f = rw (e, f) (simp append_assoc)

-- the first n bytes of the room were lent, and came back as `last`
module _ (n : ℕ) (room last post : List ℕ) (h : n ≤ length room) (l : length last ≡ length (take (n - 0) room)) where
  whole : n - 0 ≡ n
  whole = omega arith

  part-back : take n (last ++ post) ≡ last
  part-back = take_at last post n (l ∙ rw whole (length-take-le n room h))

  pub wrote-part : {x : Outcome} {r : Result ℕ Refusal} → Writes (take (n - 0) room) x r last → Writes (take n room) x r (take n (last ++ post))
  wrote-part t = rw part-back (rw whole at t)

  pub took-part : {h : Span} {x : Outcome} {r : Result Taken Refusal} → Took (take (n - 0) room) h x r last → Took (take n room) h x r (take n (last ++ post))
  took-part t = rw part-back (rw whole at t)

-- `reply`: the date ends at d, the message at e.

module _ (o : List ℕ) {k : ℕ} {o' : List ℕ} where
  pub reply-last : {words b : List ℕ} {d e : ℕ} {b' : List ℕ} {n : ℕ} (code : ℕ) → Last words b d n e b'
      → Puts o (wrote_line n (replying (take (e - d) (drop d b')) code (take (d - 0) b'))) k o' → Puts o (on_last words (λ n s. wrote_line n (replying s code (take d b)))) k o'
  reply-last {words} {b} {d} {e} {b'} {n} code l p =
      let z : d - 0 ≡ d = omega arith in
      let f : ℕ → List ℕ → List ℕ = λ n s. wrote_line n (replying s code (take d b)) in
      says o (rw (l.taken, z, l.front) refl ∙ sym (l.on f)) p

  pub reply-first : {words b : List ℕ} {d : ℕ} {b' v : List ℕ} (code : ℕ) → First words b 0 d b' → v ≡ rest words
      → Puts o (on_last v (λ n s. wrote_line n (replying s code (take d b')))) k o'
      → Puts o (on_first words (λ date v. on_last v (λ n s. wrote_line n (replying s code date)))) k o'
  reply-first {words} {b} {d} {b'} {v} code l q p =
      let z : d - 0 ≡ d = omega arith in
      let t : take d b' ≡ hex_bytes (first_word words) = rw z at l.taken in
      let f : List ℕ → List ℕ → List ℕ = λ date v. on_last v (λ n s. wrote_line n (replying s code date)) in
      says o (rw (q, t) refl ∙ sym (l.on f)) p

  pub reply-refused : (words : List ℕ) → first_number 65535 words ≡ None → Puts o unknown k o' → Puts o (reply_line words) k o'
  unfolding reply_line
  reply-refused words e p = says o (sym (code_off words _ e)) p

  pub reply-coded : (words : List ℕ) {code : ℕ} {v : List ℕ} → first_number 65535 words ≡ Some code → v ≡ rest words
      → Puts o (on_first v (λ date v. on_last v (λ n s. wrote_line n (replying s code date)))) k o' → Puts o (reply_line words) k o'
  unfolding reply_line
  reply-coded words {code} {v} e g p =
      let f : ℕ → List ℕ → List ℕ = λ code v. on_first v (λ date v. on_last v (λ n s. wrote_line n (replying s code date))) in
      says o (rw g refl ∙ sym (code-on words f e)) p

-- `add` and `remove`: host, destination and organization end at i, j and m, the message at e.

pub add_line : (adds : Bool) (n : ℕ) (s host destination organization : List ℕ) → adds ≡ true
    → wrote_line n (adding s host destination organization) ≡ edited adds n s host destination organization
unfolding edited
add_line adds n s host destination organization e = rw e

pub remove_line : (adds : Bool) (n : ℕ) (s host destination organization : List ℕ) → adds ≡ false
    → took_line n s (removing s host destination organization) ≡ edited adds n s host destination organization
unfolding edited
remove_line adds n s host destination organization e = rw e

module _ (o : List ℕ) {k : ℕ} {o' : List ℕ} (adds : Bool) where
  pub edit_last : {words : List ℕ} (b : List ℕ) {e : ℕ} {b' : List ℕ} {n : ℕ} (i j m : ℕ) → Last words b m n e b' → i ≤ j → j ≤ m → m ≤ length b
      → Puts o (edited adds n (take (e - m) (drop m b')) (take (i - 0) b') (take (j - i) (drop i b')) (take (m - j) (drop j b'))) k o'
      → Puts o (on_last words (λ n s. edited adds n s (take i b) (take (j - i) (drop i b)) (take (m - j) (drop j b)))) k o'
  edit_last {words} b {e} {b'} {n} i j m l g h r p =
      let z : i - 0 ≡ i = omega arith in
      let host = front_kept b b' i m (omega arith) l.front in
      let destination = part-kept b b' i j m g h r l.front in
      let organization = part-kept b b' j m m h (omega arith) r l.front in
      let f : ℕ → List ℕ → List ℕ = λ n s. edited adds n s (take i b) (take (j - i) (drop i b)) (take (m - j) (drop j b)) in
      says o (rw (l.taken, z, host, destination, organization) refl ∙ sym (l.on f)) p

  pub edit_third : {words : List ℕ} (b : List ℕ) {m : ℕ} {b' v : List ℕ} (i j : ℕ) → First words b j m b' → i ≤ j → j ≤ length b → v ≡ rest words
      → Puts o (on_last v (λ n s. edited adds n s (take i b') (take (j - i) (drop i b')) (take (m - j) (drop j b')))) k o'
      → Puts o (on_first words (λ organization v. on_last v (λ n s. edited adds n s (take i b) (take (j - i) (drop i b)) organization))) k o'
  edit_third {words} b {m} {b'} {v} i j l g r q p =
      let host = front_kept b b' i j g l.front in
      let destination = part-kept b b' i j j g (omega arith) r l.front in
      let f : List ℕ → List ℕ → List ℕ = λ organization v. on_last v (λ n s. edited adds n s (take i b) (take (j - i) (drop i b)) organization) in
      says o (rw (q, l.taken, host, destination) refl ∙ sym (l.on f)) p

  pub edit_second : {words : List ℕ} (b : List ℕ) {j : ℕ} {b' v : List ℕ} (i : ℕ) → First words b i j b' → v ≡ rest words
      → Puts o (on_first v (λ organization v. on_last v (λ n s. edited adds n s (take i b') (take (j - i) (drop i b')) organization))) k o'
      → Puts o (on_first words (λ destination v. on_first v (λ organization v. on_last v (λ n s. edited adds n s (take i b) destination organization)))) k o'
  edit_second {words} b {j} {b'} {v} i l q p =
      let f : List ℕ → List ℕ → List ℕ = λ destination v. on_first v (λ organization v. on_last v (λ n s. edited adds n s (take i b) destination organization)) in
      says o (rw (q, l.taken, l.front) refl ∙ sym (l.on f)) p

  pub edit_first : {words b : List ℕ} {i : ℕ} {b' v : List ℕ} → First words b 0 i b' → v ≡ rest words
      → Puts o (on_first v (λ destination v. on_first v (λ organization v. on_last v (λ n s. edited adds n s (take i b') destination organization)))) k o'
      → Puts o (edit_text adds words) k o'
  unfolding edit_text
  edit_first {words} {b} {i} {b'} {v} l q p =
      let z : i - 0 ≡ i = omega arith in
      let t : take i b' ≡ hex_bytes (first_word words) = rw z at l.taken in
      let f : List ℕ → List ℕ → List ℕ = λ host v. on_first v (λ destination v. on_first v (λ organization v. on_last v (λ n s. edited adds n s host destination organization))) in
      says o (rw (q, t) refl ∙ sym (l.on f)) p

  pub edit_refused : (words : List ℕ) → ((f : List ℕ → List ℕ → List ℕ) → on_first words f ≡ unknown) → Puts o unknown k o' → Puts o (edit_text adds words) k o'
  unfolding edit_text
  edit_refused words e p = says o (sym (e _)) p

-- `text`: the bytes that spell it end at e.

module _ (o : List ℕ) {k : ℕ} {o' : List ℕ} (words : List ℕ) where
  pub text-last : {b : List ℕ} {e : ℕ} {b' : List ℕ} {n : ℕ} → Last words b 0 n e b' → Puts o (wrote_line n (texting (take (e - 0) b'))) k o'
      → Puts o (text_line words) k o'
  unfolding text_line
  text-last l p = let f : ℕ → List ℕ → List ℕ = λ n s. wrote_line n (texting s) in says o (rw l.taken refl ∙ sym (l.on f)) p

  pub text-refused : ((f : ℕ → List ℕ → List ℕ) → on_last words f ≡ unknown) → Puts o unknown k o' → Puts o (text_line words) k o'
  unfolding text_line
  text-refused e p = says o (sym (e _)) p
