-- A text that keeps a rule is plain, of bytes that stand for themselves in a JSON string, and shorter than 256 bytes: so each class is, each fixed word and
-- each number, and none of these rules ends in free text. The two that do are plain in front, and look no further. Whoever has asked the rule need not look
-- for an escape, and may write the text as it is.
-- Assumes nothing.
use Prim.Native.Nat.{◌*◌, ◌+◌, ◌-◌, ◌<◌, ◌≤◌, suc, zero, ℕ}
use mathlib.Core.Bool.{Bool, ◌&&◌, ◌||◌, cond, false, not, true}
use mathlib.Core.List.{List, ◌∷◌, []}
use mathlib.Core.Logic.{◌⊎◌, inl, inr}
use mathlib.Core.Path.{◌∙◌, ◌≡◌, ap, refl, sym}
use native.Mathlib.Omega.{arith}
use borrow.Author.Tests.{eq-eqb, eqb-false, eqb-true, le-leb, leb-false, leb-true, ltb-true, ne_eqb, not-true}
use lib.Dec.{eqb, leb, ltb}
use lib.ListN.{drop, drop_of_length-le, get_or, length, length-drop, length-take, take, take-append-drop}
use lib.Seq.{drop-cons, drop-drop, drop-length, get_or-drop, get_or-take, take-take}
use Rattle.octets.proofs.ClassLaws.{all_append, among_in, digit_in, digits_in}
use Rattle.octets.proofs.TestLaws.{Either, and_parts, either, or_split}
use Rattle.octets.proofs.TextLaws.{same-eq, there}
use Rattle.octets.specs.Ascii.{ascii}
use Rattle.octets.specs.Class.{all, among, digits_rule, is_alnum, is_digit, is_letter, is_lower, is_upper}
use Rattle.octets.specs.Text.{stands_at}
use Rattle.rules.proofs.NameLaws.{Placed, found, none, nth}
use Rattle.rules.proofs.PieceLaws.{stands-inside, stands_one, value_grows}
use Rattle.rules.specs.Address.{address_rule, callee_rule, caller_rule}
use Rattle.rules.specs.Classes.{holds}
use Rattle.rules.specs.Date.{date, date_rule, day, day_rule}
use Rattle.rules.specs.Pieces.{Piece, count, decimal_at, digits, fixed, free, has_piece, number, piece_end, reads, run, run_length, within, word, word_number}
use Rattle.rules.specs.Sequence.{sequence_rule}
use Rattle.rules.specs.Status.{status_of, status_rule}
use Rattle.rules.specs.Texts.{call_id_rule, desk_rule, destination_rule, fire_rule, host_rule, image_rule, language_rule, message_id_rule, message_tail, organization_rule}
use Rattle.rules.specs.Texts.{user_rule}
use Rattle.rules.specs.declared.classes.Class.{Class}
use Rattle.rules.specs.declared.classes.Class.TheVariants.{Alnum, Digit, Fire, Graphic, Label, Lower, Name, Small}

-- a byte that stands for itself in a JSON string: printable ASCII, no quote and no backslash
unfoldable pub is_plain : ℕ → Bool
is_plain b = (leb 32 b && leb b 126) && (not (eqb b 34) && not (eqb b 92))

pub record PlainByte (b : ℕ) : Type 0 where
  pub low : 32 ≤ b
  pub high : b ≤ 126
  pub quote : eqb b 34 ≡ false
  pub slash : eqb b 92 ≡ false

pub plain_byte : (b : ℕ) → is_plain b ≡ true → PlainByte b
unfolding is_plain
plain_byte b e =
    let p = and_parts (leb 32 b && leb b 126) (not (eqb b 34) && not (eqb b 92)) e in
    let q = and_parts (leb 32 b) (leb b 126) p.0 in
    let r = and_parts (not (eqb b 34)) (not (eqb b 92)) p.1 in
    record { low = leb-true 32 b q.0; high = leb-true b 126 q.1; quote = not-true _ r.0; slash = not-true _ r.1 }

-- what keeps the rule is plain and short: Via's host is the longest, 253
pub record Plain (rule : List ℕ → Bool) : Type 0 where
  pub plain : (t : List ℕ) → rule t ≡ true → all is_plain t ≡ true
  pub short : (t : List ℕ) → rule t ≡ true → length t < 256

-- Classes.

-- a test that none but plain bytes pass
abbrev Passes : (ℕ → Bool) → Type 0
Passes f = (b : ℕ) → f b ≡ true → is_plain b ≡ true

-- a range behind the quote that the backslash is not in
range-plain : (lo hi : ℕ) → 34 < lo → hi < 127 → (lo ≤ 92 → hi < 92) → Passes (among lo hi)
unfolding is_plain
range-plain lo hi h g k b e =
    let r = among_in lo hi b e in
    rw (
      le-leb 32 b (omega (arith, r.0)),
      le-leb b 126 (omega (arith, r.1)),
      ne_eqb b 34 (λ z. omega (arith, r.0)),
      ne_eqb b 92 (λ z. let l = k (omega (arith, r.0)) in omega (arith, r.1)),
    )

byte-plain : (k : ℕ) → is_plain k ≡ true → Passes (λ b. eqb b k)
byte-plain k p b e = rw (eqb-true b k e) p

either-plain : (f g : ℕ → Bool) → Passes f → Passes g → Passes (λ b. f b || g b)
either-plain f g p q b e = by (or_split (f b) (g b) e)
  where
    by : (f b ≡ true) ⊎ (g b ≡ true) → is_plain b ≡ true
    by (inl h) = p b h
    by (inr h) = q b h

digit-plain : Passes is_digit
unfolding is_digit
digit-plain = range-plain 48 57 (omega arith) (omega arith) (λ h. omega arith)

lower_plain : Passes is_lower
unfolding is_lower
lower_plain = range-plain 97 122 (omega arith) (omega arith) (λ h. absurd (omega arith))

upper_plain : Passes is_upper
unfolding is_upper
upper_plain = range-plain 65 90 (omega arith) (omega arith) (λ h. omega arith)

alnum_plain : Passes is_alnum
unfolding is_alnum is_letter
alnum_plain = either-plain is_digit _ digit-plain (either-plain is_lower is_upper lower_plain upper_plain)

-- printable, without the quote and the backslash
graphic_plain : Passes (holds Graphic)
unfolding holds is_plain
graphic_plain b e =
    let p = and_parts (among 33 126 b) (not (eqb b 34) && not (eqb b 92)) e in
    let r = among_in 33 126 b p.0 in
    rw (le-leb 32 b (omega (arith, r.0)), le-leb b 126 r.1) p.1

class_plain : (c : Class) → Passes (holds c)
unfolding holds is_plain
class_plain Digit = digit-plain
class_plain Lower = lower_plain
class_plain Small = either-plain is_lower is_digit lower_plain digit-plain
class_plain Alnum = alnum_plain
class_plain Fire = either-plain is_lower _ lower_plain (either-plain is_digit _ digit-plain (byte-plain 95 refl))
class_plain Name = either-plain is_alnum _ alnum_plain (either-plain _ _ (byte-plain 45 refl) (byte-plain 46 refl))
class_plain Label = either-plain is_alnum _ alnum_plain (byte-plain 45 refl)
class_plain Graphic = graphic_plain

-- as many bytes of a class as there are
run-plain : (c : Class) (l : List ℕ) → all is_plain l ≡ all is_plain (drop (run_length c l) l)
unfolding run_length all
run-plain c [] = refl
run-plain c (b ∷ l) = by (holds c b) refl (run-plain c l)
  where
    by : (u : Bool) → holds c b ≡ u → all is_plain l ≡ all is_plain (drop (run_length c l) l)
        → all is_plain (b ∷ l) ≡ all is_plain (drop (cond u (suc (run_length c l)) 0) (b ∷ l))
    by true h e = rw (class_plain c b h) e
    by false h e = refl

run_at : (c : Class) (s : List ℕ) (at : ℕ) → all is_plain (drop at s) ≡ all is_plain (drop (at + run_length c (drop at s)) s)
run_at c s at = run-plain c (drop at s) ∙ ap (all is_plain) (drop-drop (run_length c (drop at s)) at s)

-- the first of them is of the class
run-first : (c : Class) (l : List ℕ) → 0 < run_length c l → holds c (get_or l 0 0) ≡ true
unfolding run_length
run-first c [] h = absurd (omega arith)
run-first c (b ∷ l) h = by (holds c b) refl h
  where
    by : (u : Bool) → holds c b ≡ u → 0 < cond u (suc (run_length c l)) 0 → holds c b ≡ true
    by true e g = e
    by false e g = absurd (omega arith)

-- Digits.

digit-on : (s : List ℕ) (i : ℕ) → is_digit (get_or s i 0) ≡ true → all is_plain (drop i s) ≡ all is_plain (drop (suc i) s)
unfolding all holds
digit-on s i e =
    let h : get_or s i 0 ≡ suc (get_or s i 0 - 1) = omega (arith, (digit_in (get_or s i 0) e).0) in
    rw (drop-cons s i 0 (there s i (get_or s i 0 - 1) h), class_plain Digit (get_or s i 0) e)

digits_at : (n : ℕ) (s : List ℕ) (at : ℕ) → digits n s at ≡ true → all is_plain (drop at s) ≡ all is_plain (drop (at + n) s)
unfolding digits
digits_at zero s at e = let z : at ≡ at + 0 = omega arith in ap (λ (i : ℕ). all is_plain (drop i s)) z
digits_at (suc n) s at e =
    let p = and_parts (digits n s at) (is_digit (get_or s (at + n) 0)) e in
    let z : suc (at + n) ≡ at + suc n = omega arith in
    digits_at n s at p.0 ∙ digit-on s (at + n) p.1 ∙ ap (λ (i : ℕ). all is_plain (drop i s)) z

-- a number of eleven digits, the first not 0, is ten thousand million at least: so one below that has ten at most
module _ (s : List ℕ) (at : ℕ) where
  tens : (n : ℕ) → decimal_at n s at * 10 ≤ decimal_at (suc n) s at
  unfolding decimal_at
  tens n = omega arith

  eleven : 0 < decimal_at 1 s at → 10000000000 ≤ decimal_at 11 s at
  eleven h = omega (arith, tens 1, tens 2, tens 3, tens 4, tens 5, tens 6, tens 7, tens 8, tens 9, tens 10)

  first-counts : holds Digit (get_or (drop at s) 0 0) ≡ true → (get_or s at 0 ≡ 48 → ⊥) → 0 < decimal_at 1 s at
  unfolding holds decimal_at
  first-counts e ne =
      let z : at + 0 ≡ at = omega arith in
      let y : get_or s (at + 0) 0 ≡ get_or s at 0 = ap (λ (i : ℕ). get_or s i 0) z in
      omega (arith, (digit_in _ e).0, get_or-drop at s 0 0, ne)

  ten_digits : (hi : ℕ) → hi < 10000000000 → has_piece (count hi) s at ≡ true → run_length Digit (drop at s) ≤ 10
  unfolding has_piece
  ten_digits hi small e = by (either (leb (run_length Digit (drop at s)) 10))
    where
      by : Either (leb (run_length Digit (drop at s)) 10) → run_length Digit (drop at s) ≤ 10
      by (inl h) = leb-true _ 10 h
      by (inr h) =
          let n = run_length Digit (drop at s) in
          let g : 10 < n = leb-false n 10 h in
          let p = and_parts (not (eqb (get_or s at 0) 48)) (among 1 hi (decimal_at n s at)) e in
          let d = first-counts (run-first Digit (drop at s) (omega arith)) (eqb-false (get_or s at 0) 48 (not-true _ p.0)) in
          absurd (omega (arith, eleven d, value_grows s at 11 n (omega arith), (among_in 1 hi (decimal_at n s at) p.1).1))

-- Fixed words.

fixed_plain : (w s : List ℕ) (at : ℕ) → all is_plain w ≡ true → stands_at s at w ≡ true → all is_plain (drop at s) ≡ all is_plain (drop (at + length w) s)
unfolding stands_at
fixed_plain w s at e h =
    let k = length w in
    let q : take k (drop at s) ≡ w = same-eq (take k (drop at s)) w h in
    ap (all is_plain) (sym (take-append-drop k (drop at s))) ∙ all_append is_plain (take k (drop at s)) (drop k (drop at s))
    ∙ rw (q, e) (ap (all is_plain) (drop-drop k at s))

-- each word of a list is plain and short
unfoldable pub are_plain : List (List ℕ) → Bool
are_plain [] = true
are_plain (w ∷ ws) = (all is_plain w && ltb (length w) 256) && are_plain ws

pub word_at : (ws : List (List ℕ)) → are_plain ws ≡ true → (j : ℕ) → (all is_plain (get_or ws j []) && ltb (length (get_or ws j [])) 256) ≡ true
unfolding are_plain all
word_at [] h j = refl
word_at (w ∷ ws) h zero = (and_parts (all is_plain w && ltb (length w) 256) (are_plain ws) h).0
word_at (w ∷ ws) h (suc j) = word_at ws (and_parts (all is_plain w && ltb (length w) 256) (are_plain ws) h).1 j

-- and no longer than all of them together
together : List (List ℕ) → ℕ
together [] = 0
together (w ∷ ws) = length w + together ws

word-within : (ws : List (List ℕ)) (j : ℕ) → length (get_or ws j []) ≤ together ws
unfolding together
word-within [] j = omega arith
word-within (w ∷ ws) zero = omega arith
word-within (w ∷ ws) (suc j) = omega (arith, word-within ws j)

-- a text that has a number among the words is one of them
word-is : (ws : List (List ℕ)) (t : List ℕ) → ltb 0 (word_number ws t) ≡ true → (P : List ℕ → Type 0) → ((j : ℕ) → P (get_or ws j [])) → P t
word-is ws t e P h = by (word_number ws t) (found ws 1 t) (ltb-true 0 (word_number ws t) e)
  where
    by : (n : ℕ) → Placed ws 1 t n → 0 < n → P t
    by n (none z) g = absurd (omega arith)
    by n (nth j z l q) g = rw q (h j)

pub word-plain : (ws : List (List ℕ)) → are_plain ws ≡ true → Plain (λ t. ltb 0 (word_number ws t))
word-plain ws h = record {
  plain = λ t e. word-is ws t e (λ u. all is_plain u ≡ true) (λ j. (and_parts (all is_plain (get_or ws j [])) _ (word_at ws h j)).0);
  short = λ t e. word-is ws t e (λ u. length u < 256) (λ j. ltb-true (length (get_or ws j [])) 256 (and_parts (all is_plain (get_or ws j [])) _ (word_at ws h j)).1);
}

-- Pieces one after the other.

-- a piece that is no free text, plain in its fixed words, of ten digits at most
abbrev Closed : Piece → Type 0
Closed (fixed w) = all is_plain w ≡ true
Closed (run lo hi c e) = Unit
Closed (number n lo hi) = Unit
Closed (count hi) = hi < 10000000000
Closed (word ws) = are_plain ws ≡ true
Closed free = ⊥

abbrev AllClosed : List Piece → Type 0
AllClosed [] = Unit
AllClosed (p ∷ ps) = Closed p × AllClosed ps

piece-plain : (p : Piece) → Closed p → (s : List ℕ) (at : ℕ) → has_piece p s at ≡ true → all is_plain (drop at s) ≡ all is_plain (drop (piece_end p s at) s)
unfolding has_piece piece_end all
piece-plain (fixed w) c s at e = fixed_plain w s at c e
piece-plain (run lo hi k f) c s at e = run_at k s at
piece-plain (number n lo hi) c s at e = digits_at n s at (and_parts (digits n s at) _ e).0
piece-plain (count hi) c s at e = run_at Digit s at
piece-plain (word ws) c s at e = (word-plain ws c).plain (drop at s) e ∙ rw (drop-length s)
piece-plain free c s at e = absurd c

reads_plain : (ps : List Piece) → AllClosed ps → (s : List ℕ) (at : ℕ) → reads ps s at ≡ true → all is_plain (drop at s) ≡ true
unfolding reads all
reads_plain [] c s at e = rw (eqb-true at (length s) e, drop-length s)
reads_plain (p ∷ ps) c s at e =
    let q = and_parts (has_piece p s at) (reads ps s (piece_end p s at)) e in
    piece-plain p c.0 s at q.0 ∙ reads_plain ps c.1 s (piece_end p s at) q.1

-- how long a piece is at most, and all of them
most : Piece → ℕ
most (fixed w) = length w
most (run lo hi c e) = hi
most (number n lo hi) = n
most (count hi) = 10
most (word ws) = together ws
most free = 0

most_of : List Piece → ℕ
most_of [] = 0
most_of (p ∷ ps) = most p + most_of ps

piece-short : (p : Piece) → Closed p → (s : List ℕ) (at : ℕ) → has_piece p s at ≡ true → piece_end p s at ≤ at + most p
unfolding has_piece piece_end within most
piece-short (fixed w) c s at e = omega arith
piece-short (run lo hi k f) c s at e =
    let n = run_length k (drop at s) in
    let p = (among_in lo hi ((at + n) - at) (and_parts (among lo hi ((at + n) - at)) _ e).0).1 in
    omega arith
piece-short (number n lo hi) c s at e = omega arith
piece-short (count hi) c s at e = omega (arith, ten_digits s at hi c e)
piece-short (word ws) c s at e = omega (arith, length-drop at s, word-is ws (drop at s) e (λ u. length u ≤ together ws) (word-within ws))
piece-short free c s at e = absurd c

reads_short : (ps : List Piece) → AllClosed ps → (s : List ℕ) (at : ℕ) → reads ps s at ≡ true → length s ≤ at + most_of ps
unfolding reads most_of
reads_short [] c s at e = omega (arith, eqb-true at (length s) e)
reads_short (p ∷ ps) c s at e =
    let q = and_parts (has_piece p s at) (reads ps s (piece_end p s at)) e in
    omega (arith, piece-short p c.0 s at q.0, reads_short ps c.1 s (piece_end p s at) q.1)

pieces_plain : (ps : List Piece) → AllClosed ps → ltb (most_of ps) 256 ≡ true → Plain (λ t. reads ps t 0)
pieces_plain ps c h = record {
  plain = λ t e. reads_plain ps c t 0 e;
  short = λ t e. omega (arith, reads_short ps c t 0 e, ltb-true (most_of ps) 256 h);
}

-- The rules.

one_of_two : (f g : List ℕ → Bool) → Plain f → Plain g → Plain (λ t. f t || g t)
one_of_two f g a b = record {
  plain = λ t e. by t (λ u. all is_plain u ≡ true) (or_split (f t) (g t) e) (a.plain t) (b.plain t);
  short = λ t e. by t (λ u. length u < 256) (or_split (f t) (g t) e) (a.short t) (b.short t);
}
  where
    by : (t : List ℕ) (P : List ℕ → Type 0) → (f t ≡ true) ⊎ (g t ≡ true) → (f t ≡ true → P t) → (g t ≡ true → P t) → P t
    by t P (inl h) p q = p h
    by t P (inr h) p q = q h

pub sequence-plain : Plain sequence_rule
unfolding sequence_rule all is_plain are_plain most_of most together
sequence-plain = pieces_plain _ (omega arith, (refl, (refl, tt))) refl

caller-plain : Plain caller_rule
unfolding caller_rule all is_plain most_of most
caller-plain = pieces_plain _ (refl, (tt, (refl, (tt, (refl, tt))))) refl

callee-plain : Plain callee_rule
unfolding callee_rule all is_plain most_of most
callee-plain = pieces_plain _ (refl, (tt, (refl, tt))) refl

pub address_plain : Plain address_rule
unfolding address_rule
address_plain = one_of_two caller_rule callee_rule caller-plain callee-plain

-- and how long they are at most
pub caller-short : (t : List ℕ) → caller_rule t ≡ true → length t ≤ 45
unfolding caller_rule all is_plain most_of most
caller-short t e = reads_short _ (refl, (tt, (refl, (tt, (refl, tt))))) t 0 e

pub callee-short : (t : List ℕ) → callee_rule t ≡ true → length t ≤ 34
unfolding callee_rule all is_plain most_of most
callee-short t e = reads_short _ (refl, (tt, (refl, tt))) t 0 e

-- the day's greatest number goes by the text, but not a piece's length
date-closed : (last : ℕ) → AllClosed (date last)
unfolding all is_plain
date-closed last = (tt, (refl, (tt, (refl, (tt, (refl, (tt, (refl, (tt, (refl, (tt, (refl, (tt, (tt, tt))))))))))))))

date_pieces : (last : ℕ) → Plain (λ t. reads (date last) t 0)
unfolding most_of most
date_pieces last = pieces_plain (date last) (date-closed last) refl

pub date-plain : Plain date_rule
unfolding date_rule
date-plain = record { plain = λ t e. (date_pieces _).plain t e; short = λ t e. (date_pieces _).short t e }

day_pieces : (last : ℕ) → Plain (λ t. reads (day last) t 0)
unfolding all is_plain most_of most
day_pieces last = pieces_plain (day last) (tt, (refl, (tt, (refl, (tt, tt))))) refl

pub day-plain : Plain day_rule
unfolding day_rule
day-plain = record { plain = λ t e. (day_pieces _).plain t e; short = λ t e. (day_pieces _).short t e }

pub call_id_plain : Plain call_id_rule
unfolding call_id_rule most_of most
call_id_plain = pieces_plain _ (tt, tt) refl

pub fire-plain : Plain fire_rule
unfolding fire_rule most_of most
fire-plain = pieces_plain _ (tt, tt) refl

pub user_plain : Plain user_rule
unfolding user_rule most_of most
user_plain = pieces_plain _ (tt, tt) refl

pub host-plain : Plain host_rule
unfolding host_rule most_of most
host-plain = pieces_plain _ (tt, tt) refl

pub destination_plain : Plain destination_rule
unfolding destination_rule most_of most
destination_plain = pieces_plain _ (tt, tt) refl

pub organization_plain : Plain organization_rule
unfolding organization_rule most_of most
organization_plain = pieces_plain _ (tt, tt) refl

pub desk_plain : Plain desk_rule
unfolding desk_rule all is_plain most_of most
desk_plain = pieces_plain _ (tt, (refl, tt)) refl

-- behind a side of seven bytes
tail-plain : (w : List ℕ) → all is_plain w ≡ true → length w ≡ 7 → Plain (λ t. reads (fixed w ∷ message_tail) t 0)
unfolding all is_plain most_of most
tail-plain w h l = pieces_plain (fixed w ∷ message_tail) (h, (tt, (refl, (tt, tt)))) (rw l)

message_pieces : Plain (λ t. reads (fixed (ascii "caller-") ∷ message_tail) t 0 || reads (fixed (ascii "callee-") ∷ message_tail) t 0)
unfolding all is_plain
message_pieces = one_of_two _ _ (tail-plain (ascii "caller-") refl refl) (tail-plain (ascii "callee-") refl refl)

pub message_id_plain : Plain message_id_rule
unfolding message_id_rule
message_id_plain = record {
  plain = λ t e. message_pieces.plain t (and_parts (leb (length t) 64) _ e).1;
  short = λ t e. message_pieces.short t (and_parts (leb (length t) 64) _ e).1;
}

pub language_plain : Plain language_rule
unfolding language_rule most_of most
language_plain = pieces_plain _ (tt, tt) refl

-- digits alone, few enough
every_digit : (t : List ℕ) → all is_digit t ≡ true → all is_plain t ≡ true
unfolding all
every_digit [] e = refl
every_digit (b ∷ t) e =
    let p = and_parts (is_digit b) (all is_digit t) e in
    rw (digit-plain b p.0) (every_digit t p.1)

pub digits_plain : (lo hi : ℕ) → hi ≤ 255 → Plain (digits_rule lo hi)
digits_plain lo hi h = record {
  plain = λ t e. every_digit t (digits_in lo hi t e).2;
  short = λ t e. omega (arith, (digits_in lo hi t e).1);
}

-- The two rules that end in free text.

-- what keeps the rule is plain in its first n bytes, and the rule goes by these alone
pub record Front (n : ℕ) (rule : List ℕ → Bool) : Type 0 where
  pub alike : (t : List ℕ) → rule t ≡ rule (take n t)
  pub plain : (t : List ℕ) → rule t ≡ true → (n ≤ length t) × (all is_plain (take n t) ≡ true)

module _ (k : ℕ) (s : List ℕ) (at : ℕ) where
  digits-front : (n : ℕ) → at + n ≤ k → digits n s at ≡ digits n (take k s) at
  unfolding digits
  digits-front zero h = refl
  digits-front (suc n) h = rw (digits-front n (omega arith), get_or-take k s (at + n) 0 (omega arith))

  value-front : (n : ℕ) → at + n ≤ k → decimal_at n s at ≡ decimal_at n (take k s) at
  unfolding decimal_at
  value-front zero h = refl
  value-front (suc n) h = rw (value-front n (omega arith), get_or-take k s (at + n) 0 (omega arith))

code-value : (t : List ℕ) → decimal_at 3 t 0 ≡ decimal_at 3 (take 4 t) 0
code-value t = value-front 4 t 0 3 (omega arith)

status-alike : (t : List ℕ) → status_rule t ≡ status_rule (take 4 t)
unfolding status_rule reads has_piece piece_end
status-alike t =
    rw (
      digits-front 4 t 0 3 (omega arith),
      code-value t,
      stands_one t 3 32 (omega arith),
      stands_one (take 4 t) 3 32 (omega arith),
      get_or-take 4 t 3 0 (omega arith),
      eq-eqb (length t) (length t) refl,
      eq-eqb (length (take 4 t)) (length (take 4 t)) refl,
    )

status_tests : (t : List ℕ) → status_rule t ≡ true → (digits 3 t 0 ≡ true) × (stands_at t 3 (32 ∷ []) ≡ true)
unfolding status_rule reads has_piece piece_end
status_tests t e =
    let p = and_parts (digits 3 t 0 && among 100 699 (decimal_at 3 t 0)) _ e in
    ((and_parts (digits 3 t 0) _ p.0).0, (and_parts (stands_at t 3 (32 ∷ [])) _ p.1).0)

-- four bytes are the digits and the space
status-four : (t : List ℕ) → length t ≤ 4 → status_rule t ≡ true → all is_plain t ≡ true
unfolding all is_plain
status-four t h e =
    let p = status_tests t e in
    digits_at 3 t 0 p.0 ∙ fixed_plain (32 ∷ []) t 3 refl p.1 ∙ rw (drop_of_length-le t {i = 4} h)

pub status-front : Front 4 status_rule
status-front = record {
  alike = status-alike;
  plain =
      λ t e. (
        stands-inside t 3 32 (omega arith) (status_tests t e).1,
        status-four (take 4 t) (omega (arith, length-take 4 t)) (sym (status-alike t) ∙ e),
      );
}

pub code-front : (t : List ℕ) → status_of t ≡ status_of (take 4 t)
unfolding status_of
code-front t = rw (status-alike t, code-value t)

image-alike : (t : List ℕ) → image_rule t ≡ image_rule (take 8 t)
unfolding image_rule stands_at
image-alike t = rw (take-take 8 8 t (omega arith))

image-plain : (t : List ℕ) → image_rule t ≡ true → (8 ≤ length t) × (all is_plain (take 8 t) ≡ true)
unfolding image_rule stands_at all is_plain
image-plain t e =
    let q : take 8 t ≡ ascii "https://" = same-eq (take 8 t) (ascii "https://") e in
    (omega (arith, length-take 8 t, ap length q), rw q)

pub image-front : Front 8 image_rule
image-front = record { alike = image-alike; plain = image-plain }
