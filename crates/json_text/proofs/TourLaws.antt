-- How the answer with room for so many values moves along the bytes; and that strings, in any role (`string-around`), literals and numbers, whose readers'
-- contracts speak of the machine's answer alone, begin no value behind their first byte. Assumes nothing.
use mathlib.Core.Path.{◌≡◌, refl, sym, ap, subst, ◌∙◌}
use mathlib.Core.Bool.{Bool, true, false, ◌||◌, cond}
use mathlib.Core.List.{List, [], ◌∷◌}
use mathlib.Core.Logic.{⊎_elim}
use Prim.Native.Nat.{ℕ, zero, suc, ◌+◌, ◌-◌, ◌≤◌, ◌<◌}
use native.Mathlib.Nat.{eq-or-lt_of_le}
use native.Mathlib.Numerals.{add-one}
use native.Mathlib.Omega.{arith}
use borrow.Author.Tests.{ne_eqb, eq-eqb}
use lib.ListN.{length, get_or, drop}
use lib.Seq.{drop-cons, drop-length}
use lib.Dec.{eqb, ltb}
use Rattle.octets.specs.Class.{is_digit}
use Rattle.octets.proofs.TestLaws.{picked, picked-alike}
use Rattle.json_text.specs.inner.Begun.{begins_value, begins_at, begins, begun}
use Rattle.json_text.specs.inner.Machine.{Stack, alone, arr, obj, Role, plain, Mode, value, first, name₁, after, str, esc, hex, word}
use Rattle.json_text.specs.inner.Machine.{minus, nought, int, dot, frac, exp, sign, power, Next, live, dead, deep, done, is_hex_digit, is_sign, is_esc, closed, due, hexes}
use Rattle.json_text.specs.inner.Machine.{begin, ends, expo, point, step, over, takes, walk, levels, from, place, Leaf, Pass, Scalar}
use Rattle.json_text.specs.inner.Tour.{lift, cap, tour, lone, resume, spot, taken, started, Tally, Calm}
use Rattle.json_text.specs.Places.{is_ws}
use Rattle.json_text.specs.inner.Tour.{Toured}
use Rattle.json_text.specs.inner.Machine.{Walked}
use Rattle.json_text.proofs.AroundLaws.{tour-around}
use Rattle.json_text.proofs.Complete.{begin-on, ws-not}
use Rattle.json_text.proofs.SpaceLaws.{Passes, Quiet, past-tour, pass_is}
use Rattle.json_text.proofs.MoveLaws.{goes, moves, short, stops-place, done-alone, from-alone, onward-alone}
use Rattle.json_text.proofs.StepLaws as laws
use Rattle.json_text.specs.declared.Fault.TheVariants.{Bad, Deep, Many}
use Rattle.std.specs.Prelude.{Ok, Err}

-- The places from byte i on, by what byte i does.
lands : (s : List ℕ) (i : ℕ) (t : Bool) (n : Next) → begins_at t n (begins (drop (suc i) s)) i ≡ begins_at t n (λ m k j. begun s j m k) i
unfolding begun
lands s i t (live m k) = rw add-one
lands s i t dead = refl
lands s i t deep = refl
lands s i t done = refl

pub places_move : (s : List ℕ) (i : ℕ) (m : Mode) (k : Stack) (t : Bool) (n : Next) → i < length s → begins_value m (get_or s i 0) ≡ t → step m k (get_or s i 0) ≡ n
    → begun s i m k ≡ begins_at t n (λ m k j. begun s j m k) i
unfolding begun
places_move s i m k t n h o e =
    rw (drop-cons s i 0) (begin-on (get_or s i 0) (drop (suc i) s) m k i t n o e ∙ lands s i t n)

pub places_halt : (s : List ℕ) (i : ℕ) (m : Mode) (k : Stack) → i ≡ length s → begun s i m k ≡ []
unfolding begun begins
places_halt s i m k e = rw e (rw drop-length)

-- The answer under a ceiling, by the machine's and the places.
pub tour-is : (s : List ℕ) (i : ℕ) (m : Mode) (k : Stack) (n : ℕ) (g : Walked) (l : List ℕ) → from s i m k ≡ g → begun s i m k ≡ l → tour s i m k n ≡ cap n g l
unfolding tour
tour-is s i m k n g l e q = ap (λ (x : Walked). cap n x (begun s i m k)) e ∙ ap (cap n g) q

-- what byte i does with room for n
abbrev pub afterwards : List ℕ → ℕ → ℕ → Bool → Next → Toured
afterwards s i n false (live m k) = tour s (i + 1) m k n
afterwards s i zero true (live m k) = Err (Many i)
afterwards s i (suc n) true (live m k) = tour s (i + 1) m k n
afterwards s i n t dead = Err (Bad i)
afterwards s i n t deep = Err (Deep i)
afterwards s i n t done = Ok (i, n)

after_is : (s : List ℕ) (i n : ℕ) (t : Bool) (x : Next) → cap n (goes s i x) (begins_at t x (λ m k j. begun s j m k) i) ≡ afterwards s i n t x
unfolding tour
after_is s i n false (live m k) = refl
after_is s i zero true (live m k) = refl
after_is s i (suc n) true (live m k) = refl
after_is s i n true dead = refl
after_is s i n true deep = refl
after_is s i n true done = refl
after_is s i n false dead = refl
after_is s i n false deep = refl
after_is s i n false done = refl

pub tour-moves : (s : List ℕ) (i : ℕ) (m : Mode) (k : Stack) (n : ℕ) (t : Bool) (x : Next) → i < length s → begins_value m (get_or s i 0) ≡ t → step m k (get_or s i 0) ≡ x
    → tour s i m k n ≡ afterwards s i n t x
tour-moves s i m k n t x h o e = tour-is s i m k n (goes s i x) _ (moves s i m k x h e) (places_move s i m k t x h o e) ∙ after_is s i n t x

-- the bytes stop
pub tour-short : (s : List ℕ) (i : ℕ) (m : Mode) (k : Stack) (n : ℕ) → i ≤ length s → length s ≤ i → from s i m k ≡ Err (Bad i) → tour s i m k n ≡ Err (Bad i)
tour-short s i m k n l u e = tour-is s i m k n (Err (Bad i)) [] e (places_halt s i m k (omega arith))

-- White space that a reader passed over.
pub spaces : (s : List ℕ) (r a : ℕ) (m : Mode) (k : Stack) (room : ℕ) → Pass is_ws s a r → Passes m k → Quiet m → tour s a m k room ≡ tour s r m k room
spaces s r a m k room p f o = past-tour m k f o s a room ∙ ap (λ (i : ℕ). tour s i m k room) (pass_is p)

-- Strings. Beside the machine at m and `alone 0`, where a string stands by itself, runs the one at m' and k, where it is a value or a name.
data InText (w : Role) : Mode → Mode → Type 0 where
  in_str : InText w (str plain) (str w)
  in_esc : InText w (esc plain) (esc w)
  in_hex : {n : ℕ} → InText w (hex plain n) (hex w n)

text-quiet : (w : Role) (m m' : Mode) (b : ℕ) → InText w m m' → begins_value m' b ≡ false
text-quiet w m m' b in_str = refl
text-quiet w m m' b in_esc = refl
text-quiet w m m' b in_hex = refl

text-due : (w : Role) (m m' : Mode) → InText w m m' → (over m ≡ false) × (over m' ≡ false)
text-due w m m' in_str = (refl, refl)
text-due w m m' in_esc = (refl, refl)
text-due w m m' in_hex = (refl, refl)

data Pair (w : Role) (k : Stack) : Next → Next → Type 0 where
  both : {m m' : Mode} → InText w m m' → Pair w k (live m (alone 0)) (live m' k)
  shuts : Pair w k (live after (alone 0)) (live (closed w) k)
  neither : Pair w k dead dead

pair_cond : {w : Role} {k : Stack} {x y x' y' : Next} (t : Bool) → Pair w k x y → Pair w k x' y' → Pair w k (cond t x x') (cond t y y')
pair_cond {w} {k} = picked-alike (Pair w k)

hexes_in : (w : Role) (k : Stack) (n : ℕ) → Pair w k (live (hexes plain n) (alone 0)) (live (hexes w n) k)
unfolding hexes
hexes_in w k zero = both in_str
hexes_in w k (suc n) = both in_hex

text-alike : (w : Role) (k : Stack) (m m' : Mode) (b : ℕ) → InText w m m' → Pair w k (step m (alone 0) b) (step m' k b)
unfolding step
text-alike w k m m' b in_str = pair_cond (eqb b 34) shuts (pair_cond (eqb b 92) (both in_esc) (pair_cond (ltb b 32) neither (both in_str)))
text-alike w k m m' b in_esc = pair_cond (is_esc b) (both in_str) (pair_cond (eqb b 117) (hexes_in w k 4) neither)
text-alike w k m m' b (in_hex {n = n}) = pair_cond (is_hex_digit b) (hexes_in w k n) neither

module _ (s : List ℕ) (w : Role) (k : Stack) (n : ℕ) where
  -- the second's answer is the first's, and behind its end the machine's where the string is closed
  abbrev Around : Mode → Mode → ℕ → Type 0
  Around m m' i = tour s i m' k n ≡ resume s (closed w) k (lift (from s i m (alone 0)) n)

  module _ (i : ℕ) (m m' : Mode) (r : InText w m m') where
    with_answer : {x : Walked} → from s i m (alone 0) ≡ x → tour s i m' k n ≡ resume s (closed w) k (lift x n) → Around m m' i
    with_answer e f = f ∙ ap (λ (x : Walked). resume s (closed w) k (lift x n)) (sym e)

    around-go : i < length s → ((m₁ m₂ : Mode) → InText w m₁ m₂ → Around m₁ m₂ (i + 1)) → (x y : Next)
        → step m (alone 0) (get_or s i 0) ≡ x → step m' k (get_or s i 0) ≡ y → Pair w k x y → Around m m' i
    around-go h ih x y e f (both {m = m₁} {m' = m₂} r') =
        with_answer (moves s i m (alone 0) (live m₁ (alone 0)) h e) (tour-moves s i m' k n false (live m₂ k) h (text-quiet w m m' _ r) f ∙ ih m₁ m₂ r')
    around-go h ih x y e f shuts =
        with_answer (moves s i m (alone 0) (live after (alone 0)) h e ∙ from-alone s (i + 1) 0 (omega arith))
        (tour-moves s i m' k n false (live (closed w) k) h (text-quiet w m m' _ r) f)
    around-go h ih x y e f neither = with_answer (moves s i m (alone 0) dead h e) (tour-moves s i m' k n false dead h (text-quiet w m m' _ r) f)

    around-end : i ≡ length s → Around m m' i
    around-end e =
        let o = text-due w m m' r in
        with_answer (short s i m (alone 0) (omega arith) (omega arith) o.0)
        (tour-short s i m' k n (omega arith) (omega arith) (short s i m' k (omega arith) (omega arith) o.1))

  around : (c i : ℕ) (m m' : Mode) → InText w m m' → i ≤ length s → length s ≤ i + c → Around m m' i
  around zero i m m' r l u = around-end i m m' r (omega arith)
  around (suc c) i m m' r l u =
      ⊎_elim (λ (e : i ≡ length s). around-end i m m' r e)
      (λ (h : i < length s). around-go i m m' r h (λ m₁ m₂ r'. around c (i + 1) m₁ m₂ r' (omega arith) (omega arith)) _ _ refl refl (text-alike w k m m' (get_or s i 0) r))
      (eq-or-lt_of_le l)

-- from behind its quotation mark, in any role and any surroundings, where r is the machine's answer with nothing around
pub string-around : (s : List ℕ) (a : ℕ) (r : Walked) → a ≤ length s → from s a (str plain) (alone 0) ≡ r → (w : Role) (k : Stack) (n : ℕ)
    → tour s a (str w) k n ≡ resume s (closed w) k (lift r n)
string-around s a r l e w k n =
    around s w k n (length s) a (str plain) (str w) in_str l (omega arith) ∙ ap (λ (x : Walked). resume s (closed w) k (lift x n)) e

pub strings : {s : List ℕ} {a : ℕ} {r : Walked} → a ≤ length s → Leaf s a str closed r → (w : Role) (k : Stack) (n : ℕ) → tour s a (str w) k n ≡ resume s (closed w) k (lift r n)
strings {s} {a} {r} l f w k n = string-around s a r l (f.same plain (alone 0) ∙ onward-alone s 0 r f.high) w k n

-- Literals and numbers: by itself one begins no value behind its first byte, and `tour-around` says the same of it in its surroundings.
data InScalar : Mode → Type 0 where
  in_word : {x : ℕ} {xs : List ℕ} → InScalar (word x xs)
  in_minus : InScalar minus
  in_nought : InScalar nought
  in_int : InScalar int
  in_dot : InScalar dot
  in_frac : InScalar frac
  in_exp : InScalar exp
  in_sign : InScalar sign
  in_power : InScalar power
  in_after : InScalar after

scalar_quiet : (m : Mode) (b : ℕ) → InScalar m → begins_value m b ≡ false
scalar_quiet m b in_word = refl
scalar_quiet m b in_minus = refl
scalar_quiet m b in_nought = refl
scalar_quiet m b in_int = refl
scalar_quiet m b in_dot = refl
scalar_quiet m b in_frac = refl
scalar_quiet m b in_exp = refl
scalar_quiet m b in_sign = refl
scalar_quiet m b in_power = refl
scalar_quiet m b in_after = refl

data Rests (d : ℕ) : Next → Type 0 where
  goes_on : {m : Mode} → InScalar m → Rests d (live m (alone d))
  refused : Rests d dead
  is-over : Rests d done

rests_cond : {d : ℕ} {x y : Next} (t : Bool) → Rests d x → Rests d y → Rests d (cond t x y)
rests_cond {d} = picked (Rests d)

module _ (d b : ℕ) where
  due-rests : (xs : List ℕ) → Rests d (live (due xs) (alone d))
  unfolding due
  due-rests [] = goes_on in_after
  due-rests (x ∷ xs) = goes_on in_word

  ends-rests : Rests d (ends (alone d) b)
  unfolding ends
  ends-rests = is-over

  expo-rests : Rests d (expo (alone d) b)
  unfolding expo
  expo-rests = rests_cond (eqb b 101 || eqb b 69) (goes_on in_exp) ends-rests

  point-rests : Rests d (point (alone d) b)
  unfolding point
  point-rests = rests_cond (eqb b 46) (goes_on in_dot) expo-rests

  scalar_rests : (m : Mode) → InScalar m → Rests d (step m (alone d) b)
  unfolding step
  scalar_rests m (in_word {x = x} {xs = xs}) = rests_cond (eqb b x) (due-rests xs) refused
  scalar_rests m in_minus = rests_cond (eqb b 48) (goes_on in_nought) (rests_cond (is_digit b) (goes_on in_int) refused)
  scalar_rests m in_nought = point-rests
  scalar_rests m in_int = rests_cond (is_digit b) (goes_on in_int) point-rests
  scalar_rests m in_dot = rests_cond (is_digit b) (goes_on in_frac) refused
  scalar_rests m in_frac = rests_cond (is_digit b) (goes_on in_frac) expo-rests
  scalar_rests m in_exp = rests_cond (is_digit b) (goes_on in_power) (rests_cond (is_sign b) (goes_on in_sign) refused)
  scalar_rests m in_sign = rests_cond (is_digit b) (goes_on in_power) refused
  scalar_rests m in_power = rests_cond (is_digit b) (goes_on in_power) ends-rests
  scalar_rests m in_after = ends-rests

none-go : (d i : ℕ) (bs : List ℕ) (t : Bool) (x : Next) → t ≡ false → Rests d x → ((m : Mode) → InScalar m → begins bs m (alone d) (i + 1) ≡ []) → begins_at t x (begins bs) i ≡ []
none-go d i bs t x o (goes_on {m = m} r) ih = rw o (ih m r)
none-go d i bs t x o refused ih = refl
none-go d i bs t x o is-over ih = refl

begins-none : (d : ℕ) (bs : List ℕ) (m : Mode) (i : ℕ) → InScalar m → begins bs m (alone d) i ≡ []
unfolding begins
begins-none d [] m i r = refl
begins-none d (b ∷ bs) m i r = none-go d i bs (begins_value m b) (step m (alone d) b) (scalar_quiet m b r) (scalar_rests d b m r) (λ m' r'. begins-none d bs m' (i + 1) r')

-- the first byte: a scalar is under way, or the byte begins none
data Start (d : ℕ) : Next → Type 0 where
  under : {m : Mode} → InScalar m → Start d (live m (alone d))
  no_start : Start d dead

start_cond : {d : ℕ} {x y : Next} (t : Bool) → Start d x → Start d y → Start d (cond t x y)
start_cond {d} = picked (Start d)

starts : (d b : ℕ) → (b ≡ 34 → ⊥) → (b ≡ 91 → ⊥) → (b ≡ 123 → ⊥) → Start d (begin (alone d) b)
unfolding begin due
starts d b h₁ h₂ h₃ =
    rw (ne_eqb b 34 h₁, ne_eqb b 91 h₂, ne_eqb b 123 h₃)
    (start_cond (eqb b 116) (under in_word) (start_cond (eqb b 102) (under in_word) (start_cond (eqb b 110) (under in_word)
    (start_cond (eqb b 45) (under in_minus) (start_cond (eqb b 48) (under in_nought) (start_cond (is_digit b) (under in_int) no_start))))))

-- A place behind byte i is none before it.
low-go : (bs : List ℕ) (i : ℕ) (n : Next) → ((m : Mode) (k : Stack) → i + 1 ≤ place (walk bs m k (i + 1))) → i ≤ place (takes n (walk bs) i)
low-go bs i (live m k) ih = omega (arith, ih m k)
low-go bs i dead ih = omega arith
low-go bs i deep ih = omega arith
low-go bs i done ih = omega arith

low : (bs : List ℕ) (m : Mode) (k : Stack) (i : ℕ) → i ≤ place (walk bs m k i)
unfolding walk
low [] m k i = omega (arith, stops-place m k i)
low (b ∷ bs) m k i = low-go bs i (step m k b) (λ m' k'. low bs m' k' (i + 1))

low-from : (s : List ℕ) (i : ℕ) (m : Mode) (k : Stack) → i ≤ place (from s i m k)
unfolding from
low-from s i m k = low (drop i s) m k i

-- a literal or a number, or what begins none
module _ (s : List ℕ) (a : ℕ) (k : Stack) (n : ℕ) (sc : Scalar s a) (r : Walked) (f : Leaf s a (λ _. value) (λ _. after) r) where
  abbrev d : ℕ
  d = levels k

  value-begin : step value (alone d) (get_or s a 0) ≡ begin (alone d) (get_or s a 0)
  unfolding step
  value-begin = simp sc.no_space

  r-is : from s a value (alone d) ≡ r
  r-is = f.same plain (alone d) ∙ onward-alone s d r f.high

  -- it has begun: the reader's answer lies behind
  behind : (x : Walked) → a + 1 ≤ place x → taken a n x ≡ started a n x
  behind (Ok e) h = refl
  behind (Err (Bad p)) h = rw (ne_eqb p a (omega arith))
  behind (Err (Deep p)) h = refl
  behind (Err (Many p)) h = refl

  taken_is : (m : Mode) → ((c : ℕ) → tour s (a + 1) m (alone d) c ≡ lift r c) → afterwards s a n true (live m (alone d)) ≡ taken a n r
  taken_is m h = go n
    where
      go : (c : ℕ) → afterwards s a c true (live m (alone d)) ≡ taken a c r
      go zero = refl
      go (suc c) = h c

  alone-go : (x : Next) → begin (alone d) (get_or s a 0) ≡ x → Start d x → lone d n s a ≡ started a n r
  unfolding begun
  alone-go x e (under {m = m} i) =
      let v : from s (a + 1) m (alone d) ≡ r = sym (moves s a value (alone d) (live m (alone d)) sc.inside (value-begin ∙ e)) ∙ r-is in
      tour-moves s a value (alone d) n true (live m (alone d)) sc.inside (simp sc.no_space) (value-begin ∙ e)
      ∙ taken_is m (λ c. tour-is s (a + 1) m (alone d) c r [] v (begins-none d (drop (a + 1) s) m (a + 1) i))
      ∙ behind r (subst (λ (x : Walked). a + 1 ≤ place x) v (low-from s (a + 1) m (alone d)))
  alone-go x e no_start =
      let v : Err (Bad a) ≡ r = sym (moves s a value (alone d) dead sc.inside (value-begin ∙ e)) ∙ r-is in
      tour-moves s a value (alone d) n true dead sc.inside (simp sc.no_space) (value-begin ∙ e) ∙ dead-is ∙ ap (started a n) v
    where
      dead-is : Err (Bad a) ≡ started a n (Err (Bad a))
      dead-is = rw (eq-eqb a a refl)

  pub scalars : tour s a value k n ≡ resume s after k (started a n r)
  scalars = tour-around s d k refl a n ∙ ap (resume s after k) (alone-go _ refl (starts d (get_or s a 0) sc.no-quote sc.no-array sc.no-object))

pub calm-is : {s : List ℕ} {a : ℕ} {m m' : Mode} {r r' : Walked} → Calm s a m m' r → r ≡ r' → Calm s a m m' r'
calm-is {s} {a} {m} {m'} l e = subst (λ (x : Walked). Calm s a m m' x) e l

pub tally-is : {s : List ℕ} {a left room : ℕ} {m : Mode} {f : Stack → Stack} {r r' : Toured} → Tally s a left room m f r → r ≡ r' → Tally s a left room m f r'
tally-is {s} {a} {left} {room} {m} {f} l e = subst (λ (x : Toured). Tally s a left room m f x) e l

pub tour-alike : (s : List ℕ) (i : ℕ) (m m' : Mode) (k : Stack) (n : ℕ) → i < length s → begins_value m (get_or s i 0) ≡ begins_value m' (get_or s i 0)
    → step m k (get_or s i 0) ≡ step m' k (get_or s i 0) → tour s i m k n ≡ tour s i m' k n
tour-alike s i m m' k n h o e = tour-moves s i m k n _ _ h o e ∙ sym (tour-moves s i m' k n _ _ h refl refl)

pub close_quiet : (b : ℕ) → b ≡ 93 → begins_value first b ≡ false
unfolding is_ws
close_quiet b e = rw e

pub first_alike : (b : ℕ) → is_ws b ≡ false → (b ≡ 93 → ⊥) → begins_value first b ≡ begins_value value b
first_alike b w h = simp (w, ne_eqb b 93 h)

-- a byte that begins a string, an array or an object: it is one too many, or it takes room for one
module _ (s : List ℕ) (i : ℕ) (k k' : Stack) (m' : Mode) (h : i < length s) (w : is_ws (get_or s i 0) ≡ false) (e : step value k (get_or s i 0) ≡ live m' k') where
  opens-none : tour s i value k 0 ≡ Err (Many i)
  opens-none = tour-moves s i value k 0 true (live m' k') h (simp w) e

  pub opens-some : (n : ℕ) → tour s i value k (suc n) ≡ tour s (i + 1) m' k' n
  opens-some n = tour-moves s i value k (suc n) true (live m' k') h (simp w) e

lift-spot : (r : Walked) (n : ℕ) → spot (lift r n) ≡ place r
lift-spot (Ok e) n = refl
lift-spot (Err f) n = refl

-- what holds of the place i and of the reader's holds of the answer's
module _ (P : ℕ → Type 0) (i n : ℕ) (here : P i) where
  taken-place : (r : Walked) → P (place r) → P (spot (taken i n r))
  taken-place r l = go n
    where
      go : (c : ℕ) → P (spot (taken i c r))
      go zero = here
      go (suc c) = subst P (sym (lift-spot r c)) l

  started-place : (r : Walked) → P (place r) → P (spot (started i n r))
  started-place (Ok e) l = taken-place (Ok e) l
  started-place (Err (Bad p)) l = picked (λ x. P (spot x)) (eqb p i) l (taken-place (Err (Bad p)) l)
  started-place (Err (Deep p)) l = taken-place (Err (Deep p)) l
  started-place (Err (Many p)) l = taken-place (Err (Many p)) l

text-taken : (s : List ℕ) (i : ℕ) (k : Stack) (n : ℕ) (r : Walked) → i < length s → is_ws (get_or s i 0) ≡ false → step value k (get_or s i 0) ≡ live (str plain) k
    → Leaf s (i + 1) str closed r → tour s i value k n ≡ resume s after k (taken i n r)
text-taken s i k zero r h w e f = opens-none s i k k (str plain) h w e
text-taken s i k (suc n) r h w e f = opens-some s i k k (str plain) h w e n ∙ strings (omega arith) f plain k n

-- byte b opens a level, which f puts around, in mode m; where none is left it opens one too many
pub record Bracket (m : Mode) (f : Stack → Stack) (b : ℕ) : Type 0 where
  opens : (k : Stack) → 0 < levels k → step value k b ≡ live m (f k)
  sinks : (k : Stack) → levels k ≤ 0 → step value k b ≡ deep
  level : (k : Stack) → levels (f k) ≡ levels k - 1

pub array-bracket : {b : ℕ} → b ≡ 91 → Bracket first arr b
array-bracket {b} e = record { opens = λ k. laws.value-arr k b e; sinks = λ k. laws.value-arr-deep k b e; level = λ k. refl }

pub object-bracket : {b : ℕ} → b ≡ 123 → Bracket name₁ obj b
object-bracket {b} e = record { opens = λ k. laws.value-obj k b e; sinks = λ k. laws.value-obj-deep k b e; level = λ k. refl }

-- The exits of `value`.
module _ {s : List ℕ} {a i : ℕ} (left n : ℕ) (p : Pass is_ws s a i) where
  to-value : (k : Stack) → tour s a value k n ≡ tour s i value k n
  to-value k = spaces s i a value k n p (laws.ws-value k) (λ b h. ws-not b h)

  pub value-short : length s ≤ i → Tally s a left n value (λ k. k) (Err (Bad i))
  value-short u = record { low = p.low; high = p.high; same = λ k d. to-value k ∙ tour-short s i value k n p.high u (short s i value k p.high u refl) }

  pub value-text : {r : Walked} {g : Toured} → i < length s → get_or s i 0 ≡ 34 → Leaf s (i + 1) str closed r → g ≡ taken i n r → Tally s a left n value (λ k. k) g
  value-text {r} {g} h b f e =
      tally-is {r = taken i n r}
      (record {
        low = taken-place (λ x. a ≤ x) i n p.low r (omega (arith, p.low, f.low));
        high = taken-place (λ x. x ≤ length s) i n p.high r f.high;
        same = λ k d. to-value k
            ∙ text-taken s i k n r h (p.stop h) (laws.value-quote k _ b) f;
      })
      (sym e)

  pub value_scalar : {r : Walked} {g : Toured} → Scalar s i → Leaf s i (λ _. value) (λ _. after) r → g ≡ started i n r → Tally s a left n value (λ k. k) g
  value_scalar {r} {g} sc f e =
      tally-is {r = started i n r}
      (record {
        low = started-place (λ x. a ≤ x) i n p.low r (omega (arith, p.low, f.low));
        high = started-place (λ x. x ≤ length s) i n p.high r f.high;
        same = λ k d. to-value k
            ∙ scalars s i k n sc r f;
      })
      (sym e)

  -- a bracket
  module _ {m₁ : Mode} {f : Stack → Stack} (h : i < length s) (b : Bracket m₁ f (get_or s i 0)) where
    pub bracket-deep : left ≡ 0 → Tally s a left n value (λ k. k) (Err (Deep i))
    bracket-deep z = record { low = p.low; high = p.high; same = λ k d. to-value k ∙ tour-moves s i value k n _ deep h refl (b.sinks k (omega arith)) }

    pub bracket-many : (left ≡ 0 → ⊥) → n ≡ 0 → Tally s a left n value (λ k. k) (Err (Many i))
    bracket-many z q = record {
      low = p.low;
      high = p.high;
      same = λ k d. to-value k
          ∙ ap (tour s i value k) q ∙ opens-none s i k (f k) m₁ h (p.stop h) (b.opens k (omega arith));
    }

    pub bracket_in : {g : Toured} → (left ≡ 0 → ⊥) → (n ≡ 0 → ⊥) → Tally s (i + 1) (left - 1) (n - 1) m₁ f g → Tally s a left n value (λ k. k) g
    bracket_in z q t = record {
      low = omega (arith, p.low, t.low);
      high = t.high;
      same = λ k d. let o : n ≡ suc (n - 1) = omega arith in
          to-value k
          ∙ ap (tour s i value k) o ∙ opens-some s i k (f k) m₁ h (p.stop h) (b.opens k (omega arith)) (n - 1) ∙ t.same k (omega (arith, b.level k));
    }

-- with nothing around the readers' answer is the machine's
alone-none : (s : List ℕ) (e d : ℕ) → e ≤ length s → begun s e after (alone d) ≡ []
alone-none s e d l =
    ⊎_elim (λ (h : e ≡ length s). places_halt s e after (alone d) h)
    (λ (h : e < length s). places_move s e after (alone d) false done h refl (done-alone d _)) (eq-or-lt_of_le l)

pub alone-stops : (s : List ℕ) (d : ℕ) (r : Toured) → spot r ≤ length s → resume s after (alone d) r ≡ r
alone-stops s d (Ok (e, n)) l = tour-is s e after (alone d) n (Ok e) [] (from-alone s e d l) (alone-none s e d l)
alone-stops s d (Err f) l = refl
