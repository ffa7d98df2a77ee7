-- JSON as a machine that takes one byte at a time: where it stands (a Mode) and which arrays and objects are open (a Stack, innermost first).
-- It is what the readers of src/ are proved against. Inner: `says` and `says-one` in proofs/AnswerLaws.antt say that its answer on a text
-- is the true one, in the words of the grammar alone; Tour.antt puts a ceiling on it. Assumes nothing.
use Rattle.std.specs.Prelude.{◌≡◌, Bool, true, false, not, ◌&&◌, ◌||◌, cond, List, [], ◌∷◌, ℕ, zero, suc, ◌+◌, ◌≤◌, ◌<◌, ◌-◌, length, drop, get_or, eqb, leb, ltb, Result, Ok, Err}
use Prim.Native.Char.{code}
use Rattle.octets.specs.Ascii.{ascii}
use Rattle.octets.specs.Class.{is_digit, among}
use Rattle.json_text.specs.Places.{is_ws}
use Rattle.json_text.specs.declared.Fault.{Fault}
use Rattle.json_text.specs.declared.Fault.TheVariants.{Bad, Deep, Many}

-- an answer: the place behind what was read, or why there is none
abbrev pub Walked : Type 0
Walked = Result ℕ Fault

-- where a fault lies
abbrev pub spotted : Fault → ℕ
spotted (Bad p) = p
spotted (Deep p) = p
spotted (Many p) = p

-- what stands around a value
pub data Stack : Type 0 where
  alone : ℕ → Stack  -- nothing: a value by itself, in which so many levels may open
  text : ℕ → Stack  -- a text, likewise: white space may follow its value
  arr : Stack → Stack  -- an array
  obj : Stack → Stack  -- an object

-- what a string is: the name of a member, or a value
pub data Role : Type 0 where
  label : Role
  plain : Role

-- where the machine stands
pub data Mode : Type 0 where
  value : Mode  -- before a value
  first : Mode  -- after '[': a value or ']'
  name : Mode  -- after ',' in an object: a name
  name₁ : Mode  -- after '{': a name or '}'
  colon : Mode  -- after a name
  after : Mode  -- after a value
  str : Role → Mode  -- in a string
  esc : Role → Mode  -- in a string, after a backslash
  hex : Role → ℕ → Mode  -- in a string, so many hex digits and one more are due
  word : ℕ → List ℕ → Mode  -- in a literal: the byte that is due, and those after it
  minus : Mode  -- in a number, after '-'
  nought : Mode  --   after the leading 0
  int : Mode  --   after a digit of a whole part that starts with 1 to 9
  dot : Mode  --   after '.'
  frac : Mode  --   after a digit behind the '.'
  exp : Mode  --   after 'e' or 'E'
  sign : Mode  --   after the exponent's sign
  power : Mode  --   after a digit of the exponent

-- what a byte does
pub data Next : Type 0 where
  live : Mode → Stack → Next
  dead : Next
  deep : Next
  done : Next  -- the value was over before this byte

-- a hex digit
unfoldable pub is_hex_digit : ℕ → Bool
is_hex_digit b = is_digit b || (among (code "A") (code "F") b || among (code "a") (code "f") b)

-- an exponent's sign
unfoldable pub is_sign : ℕ → Bool
is_sign b = eqb b (code "+") || eqb b (code "-")

-- what may follow a backslash, 'u' aside: " \ / b f n r t
unfoldable pub is_esc : ℕ → Bool
is_esc b = eqb b (code "\"") ||
    (eqb b (code "\\") || (eqb b (code "/") || (eqb b (code "b") || (eqb b (code "f") || (eqb b (code "n") || (eqb b (code "r") || eqb b (code "t")))))))

-- a byte of a string that stands for itself: neither a quote, a backslash nor a control
unfoldable pub is_plain : ℕ → Bool
is_plain b = not (eqb b (code "\"")) && (not (eqb b (code "\\")) && leb 32 b)

-- after a string
abbrev pub closed : Role → Mode
closed label = colon
closed plain = after

-- a literal of which these bytes are due
unfoldable pub due : List ℕ → Mode
due [] = after
due (x ∷ xs) = word x xs

-- so many hex digits are due
unfoldable pub hexes : Role → ℕ → Mode
hexes w zero = str w
hexes w (suc n) = hex w n

-- how many levels may still open
abbrev pub levels : Stack → ℕ
levels (alone d) = d
levels (text d) = d
levels (arr k) = levels k - 1
levels (obj k) = levels k - 1

-- the bracket around is closed
abbrev pub shut : Stack → Stack
shut (alone d) = alone d
shut (text d) = text d
shut (arr k) = k
shut (obj k) = k

-- a bracket opens
unfoldable pub opens : (Stack → Stack) → Mode → Stack → Next
opens f m k = cond (ltb 0 (levels k)) (live m (f k)) deep

-- the first byte of a value
unfoldable pub begin : Stack → ℕ → Next
begin k b =
    cond (eqb b (code "\"")) (live (str plain) k)
    (cond (eqb b (code "[")) (opens arr first k)
    (cond (eqb b (code "{")) (opens obj name₁ k)
    (cond (eqb b (code "t")) (live (due (ascii "rue")) k)
    (cond (eqb b (code "f")) (live (due (ascii "alse")) k)
    (cond (eqb b (code "n")) (live (due (ascii "ull")) k)
    (cond (eqb b (code "-")) (live minus k)
    (cond (eqb b (code "0")) (live nought k)
    (cond (is_digit b) (live int k)
    dead))))))))

-- a byte after a value: by the innermost open bracket
unfoldable pub ends : Stack → ℕ → Next
ends (alone d) b = done
ends (text d) b = cond (is_ws b) (live after (text d)) dead
ends (arr k) b =
    cond (is_ws b) (live after (arr k)) (cond (eqb b (code ",")) (live value (arr k)) (cond (eqb b (code "]")) (live after k) dead))
ends (obj k) b =
    cond (is_ws b) (live after (obj k)) (cond (eqb b (code ",")) (live name (obj k)) (cond (eqb b (code "}")) (live after k) dead))

-- a byte after a number's digits, where an exponent may follow; and where a '.' may follow too
unfoldable pub expo : Stack → ℕ → Next
expo k b = cond (eqb b (code "e") || eqb b (code "E")) (live exp k) (ends k b)

unfoldable pub point : Stack → ℕ → Next
point k b = cond (eqb b (code ".")) (live dot k) (expo k b)

-- what a byte does in each mode
unfoldable pub step : Mode → Stack → ℕ → Next
step value k b = cond (is_ws b) (live value k) (begin k b)
step first k b = cond (is_ws b) (live first k) (cond (eqb b (code "]")) (live after (shut k)) (begin k b))
step name k b = cond (is_ws b) (live name k) (cond (eqb b (code "\"")) (live (str label) k) dead)
step name₁ k b = cond (is_ws b) (live name₁ k) (cond (eqb b (code "}")) (live after (shut k)) (cond (eqb b (code "\"")) (live (str label) k) dead))
step colon k b = cond (is_ws b) (live colon k) (cond (eqb b (code ":")) (live value k) dead)
step after k b = ends k b
step (str w) k b =
    cond (eqb b (code "\"")) (live (closed w) k) (cond (eqb b (code "\\")) (live (esc w) k) (cond (ltb b 32) dead (live (str w) k)))
step (esc w) k b = cond (is_esc b) (live (str w) k) (cond (eqb b (code "u")) (live (hexes w 4) k) dead)
step (hex w n) k b = cond (is_hex_digit b) (live (hexes w n) k) dead
step (word x xs) k b = cond (eqb b x) (live (due xs) k) dead
step minus k b = cond (eqb b (code "0")) (live nought k) (cond (is_digit b) (live int k) dead)
step nought k b = point k b
step int k b = cond (is_digit b) (live int k) (point k b)
step dot k b = cond (is_digit b) (live frac k) dead
step frac k b = cond (is_digit b) (live frac k) (expo k b)
step exp k b = cond (is_digit b) (live power k) (cond (is_sign b) (live sign k) dead)
step sign k b = cond (is_digit b) (live power k) dead
step power k b = cond (is_digit b) (live power k) (ends k b)

-- whether a value can be over here
abbrev pub over : Mode → Bool
over value = false
over first = false
over name = false
over name₁ = false
over colon = false
over after = true
over (str w) = false
over (esc w) = false
over (hex w n) = false
over (word x xs) = false
over minus = false
over nought = true
over int = true
over dot = false
over frac = true
over exp = false
over sign = false
over power = true

-- the answer where the bytes stop
abbrev pub ended : Bool → ℕ → Walked
ended true i = Ok i
ended false i = Err (Bad i)

-- the bytes stop: a whole text, or one that stops short
unfoldable pub stops : Mode → Stack → ℕ → Walked
stops m (alone d) i = ended (over m) i
stops m (text d) i = ended (over m) i
stops m (arr k) i = Err (Bad i)
stops m (obj k) i = Err (Bad i)

-- byte i does n, and f answers on the bytes after it
abbrev pub takes : Next → (Mode → Stack → ℕ → Walked) → ℕ → Walked
takes (live m k) f i = f m k (i + 1)
takes dead f i = Err (Bad i)
takes deep f i = Err (Deep i)
takes done f i = Ok i

-- the machine's answer on bytes of which the first is byte i of the text
unfoldable pub walk : List ℕ → Mode → Stack → ℕ → Walked
walk [] m k i = stops m k i
walk (b ∷ bs) m k i = takes (step m k b) (walk bs) i

-- the answer from byte i of s on
unfoldable pub from : List ℕ → ℕ → Mode → Stack → Walked
from s i m k = walk (drop i s) m k i

-- what is answered on a whole text
abbrev pub answer : List ℕ → Walked
answer s = from s 0 value (text 8)

-- the value that starts at byte a, with d levels left: its end, or why there is none
abbrev pub one : ℕ → List ℕ → ℕ → Walked
one d s a = from s a value (alone d)

-- a reader that came to its end hands on to the machine at m and k there; its fault is the answer
abbrev pub onward : List ℕ → Mode → Stack → Walked → Walked
onward s m k (Ok e) = from s e m k
onward s m k (Err f) = Err f

-- where a reader came to its end or stopped
abbrev pub place : Walked → ℕ
place (Ok e) = e
place (Err f) = spotted f

-- a leaf reader: it starts at byte a of s in mode m, and where it comes to its end it leaves the machine in m', with the same brackets open
pub record Leaf (s : List ℕ) (a : ℕ) (m m' : Role → Mode) (r : Walked) : Type 0 where
  pub low : a ≤ place r
  pub high : place r ≤ length s
  pub same : (w : Role) (k : Stack) → from s a (m w) k ≡ onward s (m' w) k r

-- bytes of a class f are passed over from a to r
pub record Pass (f : ℕ → Bool) (s : List ℕ) (a r : ℕ) : Type 0 where
  pub low : a ≤ r
  pub high : r ≤ length s
  pub stop : r < length s → f (get_or s r 0) ≡ false
  pub same : (m : Mode) (k : Stack) → ((b : ℕ) → f b ≡ true → step m k b ≡ live m k) → from s a m k ≡ from s r m k

-- a reader of the rest of a number: where a value may be over, and the byte at a, if there is one, does what f says
pub record Tail (s : List ℕ) (a : ℕ) (f : Stack → ℕ → Next) (r : Walked) : Type 0 where
  pub low : a ≤ place r
  pub high : place r ≤ length s
  pub same : (m : Mode) (k : Stack) → over m ≡ true → (a < length s → step m k (get_or s a 0) ≡ f k (get_or s a 0)) → from s a m k ≡ onward s after k r

-- at byte a a value starts, if one does, that is neither a string nor an array or object
pub record Scalar (s : List ℕ) (a : ℕ) : Type 0 where
  pub inside : a < length s
  pub no_space : is_ws (get_or s a 0) ≡ false
  pub no-quote : get_or s a 0 ≡ code "\"" → ⊥
  pub no-array : get_or s a 0 ≡ code "[" → ⊥
  pub no-object : get_or s a 0 ≡ code "{" → ⊥
