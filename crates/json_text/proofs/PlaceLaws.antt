-- How the places move along the bytes, one byte at a time, for the loops of `src/places.rt`; and that each stays inside the text. Assumes nothing.
use mathlib.Core.Path.{◌≡◌, refl, sym, ap, ◌∙◌}
use mathlib.Core.Bool.{Bool, true, false, not, ◌&&◌, cond}
use mathlib.Core.List.{List, [], ◌∷◌}
use Prim.Native.Nat.{ℕ, zero, suc, ◌+◌, ◌-◌, ◌≤◌, ◌<◌}
use native.Mathlib.Numerals.{add-one}
use native.Mathlib.Omega.{arith}
use lib.ListN.{length, take, drop, get_or, drop_of_length-le, length-drop}
use lib.Seq.{drop-cons, drop-drop, take-nil, take_all}
use lib.Dec.{eqb, leb, ltb}
use borrow.Author.Tests.{eq-eqb, ne_eqb, lt-ltb, le-ltb, eqb-false}
use Rattle.json_text.specs.inner.Machine.{is_plain}
use Rattle.json_text.specs.Places.{part, spaces, past, is_open, is_shut, is_mark, Inside, outside, quoted, escaped, turn, depth, left, unmarked, size, behind}
use Rattle.json_text.specs.Places.{closing, raw, next, value_of, follows, is_ws, last_of, prev_of}
use Rattle.json_text.specs.inner.Landing.{Lands}

-- No count goes past the bytes.
spaces-by : (l : List ℕ) (t : Bool) → spaces l ≤ length l → cond t (suc (spaces l)) 0 ≤ suc (length l)
spaces-by l true h = omega arith
spaces-by l false h = omega arith

pub spaces-fit : (l : List ℕ) → spaces l ≤ length l
unfolding spaces
spaces-fit [] = omega arith
spaces-fit (b ∷ l) = spaces-by l (is_ws b) (spaces-fit l)

pub left-fit : (l : List ℕ) (x : Inside) (n : ℕ) → left l x n ≤ length l
unfolding left
left-fit [] x n = omega arith
left-fit (b ∷ l) outside zero = omega arith
left-fit (b ∷ l) outside (suc n) = omega (arith, left-fit l (turn outside b) (depth (suc n) b))
left-fit (b ∷ l) quoted n = omega (arith, left-fit l (turn quoted b) n)
left-fit (b ∷ l) escaped n = omega (arith, left-fit l quoted n)

unmarked-by : (l : List ℕ) (t : Bool) → unmarked l ≤ length l → cond t 0 (suc (unmarked l)) ≤ suc (length l)
unmarked-by l true h = omega arith
unmarked-by l false h = omega arith

pub unmarked-fit : (l : List ℕ) → unmarked l ≤ length l
unfolding unmarked
unmarked-fit [] = omega arith
unmarked-fit (b ∷ l) = unmarked-by l (is_mark b) (unmarked-fit l)

pub size-fit : (l : List ℕ) → size l ≤ length l
unfolding size
size-fit [] = omega arith
size-fit (b ∷ l) = by (eqb b 34) (is_open b)
  where
    by : (t u : Bool) → cond t (suc (left l quoted 0)) (cond u (suc (left l outside 1)) (unmarked (b ∷ l))) ≤ suc (length l)
    by true u = omega (arith, left-fit l quoted 0)
    by false true = omega (arith, left-fit l outside 1)
    by false false = unmarked-fit (b ∷ l)

module _ (s : List ℕ) (a : ℕ) where
  pub past-low : a ≤ past s a
  unfolding past
  past-low = omega arith

  pub past-inner : a ≤ length s → past s a ≤ length s
  unfolding past
  past-inner h = omega (arith, spaces-fit (drop a s), length-drop a s)

  pub behind-low : a ≤ behind s a
  unfolding behind
  behind-low = omega arith

  pub behind-inner : a ≤ length s → behind s a ≤ length s
  unfolding behind
  behind-inner h = omega (arith, size-fit (drop a s), length-drop a s)

  next-by : (t : Bool) → a ≤ cond t (a + 1) a
  next-by true = omega arith
  next-by false = omega arith

  pub next_low : a ≤ next s a
  unfolding next
  next_low = next-by (ltb a (length s))

  pub next-is : a < length s → next s a ≡ a + 1
  unfolding next
  next-is h = rw (lt-ltb a (length s) h)

  pub next-end : length s ≤ a → next s a ≡ a
  unfolding next
  next-end h = rw (le-ltb a (length s) h)

-- White space.
module _ (s : List ℕ) (i : ℕ) where
  pub past-ws : i < length s → is_ws (get_or s i 0) ≡ true → past s i ≡ past s (i + 1)
  unfolding past spaces
  past-ws h e = rw (drop-cons s i 0, e, add-one) (omega arith)

  pub past_stop : i < length s → is_ws (get_or s i 0) ≡ false → past s i ≡ i
  unfolding past spaces
  past_stop h e = rw (drop-cons s i 0, e) (omega arith)

  pub past_end : length s ≤ i → past s i ≡ i
  unfolding past spaces
  past_end h = rw (drop_of_length-le s h) (omega arith)

past_run : (s : List ℕ) (a n : ℕ) → a + n ≤ length s → ((k : ℕ) → a ≤ k → k < a + n → is_ws (get_or s k 0) ≡ true) → past s a ≡ past s (a + n)
past_run s a zero h g = let z : a ≡ a + 0 = omega arith in ap (past s) z
past_run s a (suc n) h g =
    let z : a + n + 1 ≡ a + suc n = omega arith in
    past_run s a n (omega arith) (λ k l u. g k l (omega arith)) ∙ past-ws s (a + n) (omega arith) (g (a + n) (omega arith) (omega arith)) ∙ ap (past s) z

-- white space alone from a up to r
pub past_over : (s : List ℕ) (a r : ℕ) → a ≤ r → r ≤ length s → ((k : ℕ) → a ≤ k → k < r → is_ws (get_or s k 0) ≡ true) → past s a ≡ past s r
past_over s a r l u g =
    let z : a + (r - a) ≡ r = omega arith in
    past_run s a (r - a) (omega arith) (λ k i j. g k i (omega arith)) ∙ ap (past s) z

-- The last of a list, and the last but one.
pub last_one : (x : ℕ) → last_of (x ∷ []) ≡ x
unfolding last_of
last_one x = refl

pub prev_two : (x y : ℕ) → prev_of (x ∷ (y ∷ [])) ≡ x
unfolding prev_of
prev_two x y = refl

-- Strings.
pub left-none : (l : List ℕ) → left l outside 0 ≡ 0
unfolding left
left-none [] = refl
left-none (b ∷ l) = refl

string-quote : (b : ℕ) (l : List ℕ) → b ≡ 34 → left (b ∷ l) quoted 0 ≡ 1
unfolding left
string-quote b l e = rw e (ap suc (left-none l))

string-char : (b : ℕ) (l : List ℕ) (n : ℕ) → (b ≡ 34 → ⊥) → (b ≡ 92 → ⊥) → left (b ∷ l) quoted n ≡ suc (left l quoted n)
unfolding left
string-char b l n e f = rw (ne_eqb b 34 e, ne_eqb b 92 f)

string-pair : (b c : ℕ) (l : List ℕ) (n : ℕ) → b ≡ 92 → left (b ∷ c ∷ l) quoted n ≡ suc (suc (left l quoted n))
unfolding left
string-pair b c l n e = rw e

string-slash : (b n : ℕ) → b ≡ 92 → left (b ∷ []) quoted n ≡ 1
unfolding left
string-slash b n e = refl

module _ (s : List ℕ) (i : ℕ) where
  pub string-closes : i < length s → get_or s i 0 ≡ 34 → i + left (drop i s) quoted 0 ≡ i + 1
  string-closes h e = rw (drop-cons s i 0) (ap (λ (k : ℕ). i + k) (string-quote (get_or s i 0) (drop (suc i) s) e))

  pub string-more : (n : ℕ) → i < length s → (get_or s i 0 ≡ 34 → ⊥) → (get_or s i 0 ≡ 92 → ⊥) → i + left (drop i s) quoted n ≡ (i + 1) + left (drop (i + 1) s) quoted n
  string-more n h e f = rw (drop-cons s i 0, add-one) (omega (arith, string-char (get_or s i 0) (drop (suc i) s) n e f))

  pub string-escape : (n : ℕ) → i + 1 < length s → get_or s i 0 ≡ 92 → i + left (drop i s) quoted n ≡ (i + 2) + left (drop (i + 2) s) quoted n
  string-escape n h e =
      let d : drop i s ≡ get_or s i 0 ∷ (get_or s (suc i) 0 ∷ drop (suc (suc i)) s) = drop-cons s i 0 (omega arith)
      ∙ ap (λ (l : List ℕ). get_or s i 0 ∷ l) (drop-cons s (suc i) 0 (omega arith)) in
      let z : suc (suc i) ≡ i + 2 = omega arith in
      let q : left (drop i s) quoted n ≡ suc (suc (left (drop (i + 2) s) quoted n)) = ap (λ (l : List ℕ). left l quoted n) d
      ∙ string-pair (get_or s i 0) (get_or s (suc i) 0) (drop (suc (suc i)) s) n e ∙ ap (λ (k : ℕ). suc (suc (left (drop k s) quoted n))) z in
      omega arith

  pub string-cut : (n : ℕ) → i < length s → length s ≤ i + 1 → get_or s i 0 ≡ 92 → i + left (drop i s) quoted n ≡ i + 1
  string-cut n h k e =
      let d : drop i s ≡ get_or s i 0 ∷ [] = drop-cons s i 0 h ∙ ap (λ (l : List ℕ). get_or s i 0 ∷ l) (drop_of_length-le s {i = suc i} (omega arith)) in
      ap (λ (m : ℕ). i + m) (ap (λ (l : List ℕ). left l quoted n) d ∙ string-slash (get_or s i 0) n e)

  pub left_end : (x : Inside) (n : ℕ) → length s ≤ i → i + left (drop i s) x n ≡ i
  unfolding left
  left_end x n h = rw (drop_of_length-le s h) (omega arith)

-- bytes that stand for themselves are neither
plain_by : (x y z : Bool) → (not x && (not y && z)) ≡ true → (x ≡ false) × (y ≡ false)
plain_by true y z e = let q : ◌≡◌ {A = ℕ} 0 1 = cc in absurd (omega arith)
plain_by false true z e = let q : ◌≡◌ {A = ℕ} 0 1 = cc in absurd (omega arith)
plain_by false false z e = (refl, refl)

plain-neither : (b : ℕ) → is_plain b ≡ true → (eqb b 34 ≡ false) × (eqb b 92 ≡ false)
unfolding is_plain
plain-neither b e = plain_by (eqb b 34) (eqb b 92) (leb 32 b) e

-- a run of them is passed at once
pub string-run : (s : List ℕ) (i r : ℕ) → i + r ≤ length s → ((j : ℕ) → j < r → is_plain (get_or s (i + j) 0) ≡ true)
    → i + left (drop i s) quoted 0 ≡ (i + r) + left (drop (i + r) s) quoted 0
string-run s i zero h f = let z : i + 0 ≡ i = omega arith in rw z
string-run s i (suc r) h f =
    let p = plain-neither (get_or s (i + r) 0) (f r (omega arith)) in
    let e = string-run s i r (omega arith) (λ j l. f j (omega arith)) in
    let g = string-more s (i + r) 0 (omega arith) (eqb-false _ 34 p.0) (eqb-false _ 92 p.1) in
    let z : i + r + 1 ≡ i + suc r = omega arith in
    e ∙ g ∙ ap (λ (k : ℕ). k + left (drop k s) quoted 0) z

-- what is left in a string is its own bytes, and then what is left outside
pub left-string : (l : List ℕ) (x : Inside) (n : ℕ) → left l x n ≡ left l x 0 + left (drop (left l x 0) l) outside n
unfolding left
left-string [] x n = refl
left-string (b ∷ l) outside n = omega arith
left-string (b ∷ l) quoted n = omega (arith, left-string l (turn quoted b) n)
left-string (b ∷ l) escaped n = omega (arith, left-string l quoted n)

-- a string at i, inside n brackets, and what is left behind it at r
string-on : (s : List ℕ) (i n : ℕ) {r : ℕ} → r ≡ i + left (drop i s) quoted 0 → i + left (drop i s) quoted n ≡ r + left (drop r s) outside n
string-on s i n {r} g =
    let q : drop (left (drop i s) quoted 0) (drop i s) ≡ drop r s = drop-drop (left (drop i s) quoted 0) i s ∙ ap (λ (k : ℕ). drop k s) (sym g) in
    let e = left-string (drop i s) quoted n in
    let f : left (drop i s) quoted n ≡ left (drop i s) quoted 0 + left (drop r s) outside n = e ∙ ap (λ (l : List ℕ). left (drop i s) quoted 0 + left l outside n) q in
    omega arith

step : (b : ℕ) (l : List ℕ) (m i : ℕ) → i + left (b ∷ l) outside (suc m) ≡ suc i + left l (turn outside b) (depth (suc m) b)
unfolding left
step b l m i = omega arith

-- Arrays and objects: n brackets are open, one at least.
module _ (s : List ℕ) (i n : ℕ) (o : 0 < n) (h : i < length s) where
  nest_step : i + left (drop i s) outside n ≡ (i + 1) + left (drop (i + 1) s) (turn outside (get_or s i 0)) (depth n (get_or s i 0))
  nest_step = rw (drop-cons s i 0, add-one) (by n o)
    where
      by : (m : ℕ) → 0 < m → i + left (get_or s i 0 ∷ drop (suc i) s) outside m ≡ suc i + left (drop (suc i) s) (turn outside (get_or s i 0)) (depth m (get_or s i 0))
      by zero g = absurd (omega arith)
      by (suc m) g = step (get_or s i 0) (drop (suc i) s) m i

  pub nest_string : {r : ℕ} → get_or s i 0 ≡ 34 → r ≡ (i + 1) + left (drop (i + 1) s) quoted 0 → i + left (drop i s) outside n ≡ r + left (drop r s) outside n
  unfolding is_open is_shut
  nest_string {r} e g =
      let l : List ℕ = drop (i + 1) s in
      let q : (i + 1) + left l quoted n ≡ r + left (drop r s) outside n = string-on s (i + 1) n g in
      nest_step ∙ rw e q

  pub nest_opens : is_open (get_or s i 0) ≡ true → (get_or s i 0 ≡ 34 → ⊥) → i + left (drop i s) outside n ≡ (i + 1) + left (drop (i + 1) s) outside (n + 1)
  nest_opens e f = nest_step ∙ rw (ne_eqb _ _ f, e, add-one n)

  pub nest_shuts : is_open (get_or s i 0) ≡ false → is_shut (get_or s i 0) ≡ true → (get_or s i 0 ≡ 34 → ⊥)
      → i + left (drop i s) outside n ≡ (i + 1) + left (drop (i + 1) s) outside (n - 1)
  nest_shuts e g f = nest_step ∙ rw (ne_eqb _ _ f, e, g)

  pub nest_closes : n ≡ 1 → is_open (get_or s i 0) ≡ false → is_shut (get_or s i 0) ≡ true → (get_or s i 0 ≡ 34 → ⊥) → i + left (drop i s) outside n ≡ i + 1
  nest_closes z e g f =
      let q : left (drop (i + 1) s) outside (n - 1) ≡ 0 = ap (left (drop (i + 1) s) outside) (omega arith) ∙ left-none (drop (i + 1) s) in
      nest_shuts e g f ∙ rw q (omega arith)

  pub nest_more : is_open (get_or s i 0) ≡ false → is_shut (get_or s i 0) ≡ false → (get_or s i 0 ≡ 34 → ⊥)
      → i + left (drop i s) outside n ≡ (i + 1) + left (drop (i + 1) s) outside n
  nest_more e g f = nest_step ∙ rw (ne_eqb _ _ f, e, g)

-- Numbers and literals.
module _ (s : List ℕ) (i : ℕ) where
  pub plain-stops : i < length s → is_mark (get_or s i 0) ≡ true → i + unmarked (drop i s) ≡ i
  unfolding unmarked
  plain-stops h e = rw (drop-cons s i 0, e) (omega arith)

  pub plain_more : i < length s → is_mark (get_or s i 0) ≡ false → i + unmarked (drop i s) ≡ (i + 1) + unmarked (drop (i + 1) s)
  unfolding unmarked
  plain_more h e = rw (drop-cons s i 0, e, add-one) (omega arith)

  pub plain-ends : length s ≤ i → i + unmarked (drop i s) ≡ i
  unfolding unmarked
  plain-ends h = rw (drop_of_length-le s h) (omega arith)

plain_run : (s : List ℕ) (a n : ℕ) → a + n ≤ length s → ((k : ℕ) → a ≤ k → k < a + n → is_mark (get_or s k 0) ≡ false)
    → a + unmarked (drop a s) ≡ (a + n) + unmarked (drop (a + n) s)
plain_run s a zero h g = let z : a ≡ a + 0 = omega arith in ap (λ (i : ℕ). i + unmarked (drop i s)) z
plain_run s a (suc n) h g =
    let z : a + n + 1 ≡ a + suc n = omega arith in
    plain_run s a n (omega arith) (λ k l u. g k l (omega arith)) ∙ plain_more s (a + n) (omega arith) (g (a + n) (omega arith) (omega arith))
    ∙ ap (λ (i : ℕ). i + unmarked (drop i s)) z

-- no mark from a up to r
pub plain_over : (s : List ℕ) (a r : ℕ) → a ≤ r → r ≤ length s → ((k : ℕ) → a ≤ k → k < r → is_mark (get_or s k 0) ≡ false)
    → a + unmarked (drop a s) ≡ r + unmarked (drop r s)
plain_over s a r l u g =
    let z : a + (r - a) ≡ r = omega arith in
    plain_run s a (r - a) (omega arith) (λ k i j. g k i (omega arith)) ∙ ap (λ (i : ℕ). i + unmarked (drop i s)) z

-- Values.
module _ (s : List ℕ) (a : ℕ) where
  pub behind-end : length s ≤ a → behind s a ≡ a
  unfolding behind size
  behind-end h = rw (drop_of_length-le s h) (omega arith)

  pub behind-string : a < length s → get_or s a 0 ≡ 34 → behind s a ≡ (a + 1) + left (drop (a + 1) s) quoted 0
  unfolding behind size
  behind-string h e = rw (drop-cons s a 0, eq-eqb _ _ e, add-one) (omega arith)

  pub behind_nest : a < length s → (get_or s a 0 ≡ 34 → ⊥) → is_open (get_or s a 0) ≡ true → behind s a ≡ (a + 1) + left (drop (a + 1) s) outside 1
  unfolding behind size
  behind_nest h e f = rw (drop-cons s a 0, ne_eqb _ _ e, f, add-one) (omega arith)

  pub behind-plain : a < length s → (get_or s a 0 ≡ 34 → ⊥) → is_open (get_or s a 0) ≡ false → behind s a ≡ a + unmarked (drop a s)
  unfolding behind size
  behind-plain h e f = rw (drop-cons s a 0, ne_eqb _ _ e, f)

-- Parts.
module _ (s : List ℕ) (a e : ℕ) where
  pub part_none : e ≤ a → part s a e ≡ []
  unfolding part
  part_none h = let z : e - a ≡ 0 = omega arith in rw z

  pub part-past : length s ≤ a → part s a e ≡ []
  unfolding part
  part-past h = rw (drop_of_length-le s h, take-nil)

  pub part-rest : length s ≤ e → part s a e ≡ take (length s - a) (drop a s)
  unfolding part
  part-rest h =
      let k : length (drop a s) ≤ e - a = omega (arith, length-drop a s) in
      let g : length (drop a s) ≤ length s - a = omega (arith, length-drop a s) in
      take_all (e - a) (drop a s) k ∙ sym (take_all (length s - a) (drop a s) g)

  pub part-is : part s a e ≡ take (e - a) (drop a s)
  unfolding part
  part-is = refl

-- What walks find, one after the other.
pub found-then : {s : List ℕ} {a x b r : ℕ} (f : ℕ → ℕ) → Lands s a x b → Lands s b (f b) r → Lands s a (f x) r
found-then f p q = record { is = q.is ∙ ap f p.is; low = omega (arith, p.low, q.low); inner = λ h. q.inner (p.inner h) }

-- a walk from the place x, which a is
pub found_at : {s : List ℕ} {a x r : ℕ} (f : ℕ → ℕ) → a ≡ x → Lands s a (f a) r → Lands s a (f x) r
found_at f e p = record { is = p.is ∙ ap f e; low = p.low; inner = p.inner }

pub value_found : {s : List ℕ} (q : ℕ) {e v : ℕ} → e ≡ behind s q → Lands s e (past s (next s (past s e))) v → Lands s e (value_of s q) v
unfolding value_of
value_found {s} q h p = found_at (λ (y : ℕ). past s (next s (past s y))) h p

pub follows-found : {s : List ℕ} {v x e r : ℕ} → v ≡ x → Lands s v (behind s v) e → Lands s e (past s e) r → Lands s e (follows s x) r
unfolding follows
follows-found {s} g h p = found_at (past s) (h.is ∙ ap (behind s) g) p

pub behind-outside : (s : List ℕ) (a : ℕ) → length s ≤ a → Lands s a (behind s a) a
behind-outside s a h = record { is = sym (behind-end s a h); low = omega arith; inner = λ g. g }

pub closing-is : (s : List ℕ) (q : ℕ) {e : ℕ} → Lands s q (behind s q) e → e - 1 ≡ closing s q
unfolding closing
closing-is s q h = ap (λ (x : ℕ). x - 1) h.is

pub raw-outside : (s : List ℕ) (q : ℕ) → length s ≤ q → raw s q ≡ []
unfolding raw
raw-outside s q h = part-past s (q + 1) (closing s q) (omega arith)

pub raw-is : (s : List ℕ) (q : ℕ) {e : ℕ} → e ≡ closing s q → part s (q + 1) e ≡ raw s q
unfolding raw
raw-is s q h = ap (part s (q + 1)) h
