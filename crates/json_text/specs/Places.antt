-- Where things stand in a text: what the contracts of `src/places.rt` cite, and how the layers above name a value, a member, an element.
-- A place is a number of bytes from the start of the text. Each definition is total, on any bytes and at any place, and reads no further than
-- the thing it passes. proofs/PlaceTie.antt shows that in a text of RFC 7159 they are the grammar's own. Assumes nothing.
use Prim.Native.Char.{code}
use Rattle.std.specs.Prelude.{ℕ, zero, suc, ◌+◌, ◌-◌, Bool, ◌||◌, cond, List, [], ◌∷◌, length, take, drop, get_or, eqb, ltb}

-- the bytes from a up to e
unfoldable pub part : List ℕ → ℕ → ℕ → List ℕ
part s a e = take (e - a) (drop a s)

-- white space: space, tab, line feed, carriage return
unfoldable pub is_ws : ℕ → Bool
is_ws b = eqb b (code " ") || (eqb b (code "\t") || (eqb b (code "\n") || eqb b (code "\r")))

-- how many bytes of white space these begin with
unfoldable pub spaces : List ℕ → ℕ
spaces [] = 0
spaces (b ∷ bs) = cond (is_ws b) (suc (spaces bs)) 0

-- past the white space at a
unfoldable pub past : List ℕ → ℕ → ℕ
past s a = a + spaces (drop a s)

-- a bracket that opens, and one that closes
unfoldable pub is_open : ℕ → Bool
is_open b = eqb b (code "[") || eqb b (code "{")

unfoldable pub is_shut : ℕ → Bool
is_shut b = eqb b (code "]") || eqb b (code "}")

-- what ends a number or a literal: white space, a comma, a closing bracket
unfoldable pub is_mark : ℕ → Bool
is_mark b = is_ws b || (eqb b (code ",") || is_shut b)

-- where a byte of a value stands: outside strings, in one, or in one behind a backslash
pub data Inside : Type 0 where
  outside : Inside
  quoted : Inside
  escaped : Inside

-- a quote opens a string and closes it; a backslash takes the byte after it along
abbrev pub turn : Inside → ℕ → Inside
turn outside b = cond (eqb b (code "\"")) quoted outside
turn quoted b = cond (eqb b (code "\"")) outside (cond (eqb b (code "\\")) escaped quoted)
turn escaped b = quoted

-- how many brackets are open behind b, where n are
abbrev pub depth : ℕ → ℕ → ℕ
depth n b = cond (is_open b) (suc n) (cond (is_shut b) (n - 1) n)

-- how many bytes are left of a string, an array or an object, where n brackets are open: none once nothing is
unfoldable pub left : List ℕ → Inside → ℕ → ℕ
left [] x n = 0
left (b ∷ bs) outside zero = 0
left (b ∷ bs) outside (suc n) = suc (left bs (turn outside b) (depth (suc n) b))
left (b ∷ bs) quoted n = suc (left bs (turn quoted b) n)
left (b ∷ bs) escaped n = suc (left bs (turn escaped b) n)

-- how many bytes of a number or a literal these begin with
unfoldable pub unmarked : List ℕ → ℕ
unmarked [] = 0
unmarked (b ∷ bs) = cond (is_mark b) 0 (suc (unmarked bs))

-- how many bytes the value has that these begin with: its own bytes decide it
unfoldable pub size : List ℕ → ℕ
size [] = 0
size (b ∷ bs) = cond (eqb b (code "\"")) (suc (left bs quoted 0)) (cond (is_open b) (suc (left bs outside 1)) (unmarked (b ∷ bs)))

-- behind the value that begins at a
unfoldable pub behind : List ℕ → ℕ → ℕ
behind s a = a + size (drop a s)

-- the bytes of the value that begins at v
abbrev pub bytes : List ℕ → ℕ → List ℕ
bytes s v = part s v (behind s v)

-- the quote that closes the string that opens at q
unfoldable pub closing : List ℕ → ℕ → ℕ
closing s q = behind s q - 1

-- the bytes between the quotes of the string that opens at q
unfoldable pub raw : List ℕ → ℕ → List ℕ
raw s q = part s (q + 1) (closing s q)

-- one byte further, if there is one
unfoldable pub next : List ℕ → ℕ → ℕ
next s p = cond (ltb p (length s)) (p + 1) p

-- the value of the member whose name opens at q: past the name, the colon and white space
unfoldable pub value_of : List ℕ → ℕ → ℕ
value_of s q = past s (next s (past s (behind s q)))

-- what follows the value that begins at v, past white space: in an accepted text a comma or a closing bracket, or the end
unfoldable pub follows : List ℕ → ℕ → ℕ
follows s v = past s (behind s v)

-- what comes behind the value at v: after a comma what f finds there, else nothing
unfoldable pub more : List ℕ → (ℕ → List ℕ) → ℕ → List ℕ
more s f v = cond (eqb (get_or s (follows s v) 0) (code ",")) (f (follows s v + 1)) []

-- the member whose name opens at q, if a quote stands there, and those after it
unfoldable pub member_at : List ℕ → (ℕ → List ℕ) → ℕ → List ℕ
member_at s f q = cond (eqb (get_or s q 0) (code "\"")) (q ∷ more s f (value_of s q)) []

-- at most n members, from a place behind '{' or ',' on: for each the opening quote of its name
unfoldable pub members_from : ℕ → List ℕ → ℕ → List ℕ
members_from zero s a = []
members_from (suc n) s a = member_at s (members_from n s) (past s a)

-- the members of the object that opens at o, in order: for each the opening quote of its name. It has fewer than the text has bytes.
unfoldable pub members : List ℕ → ℕ → List ℕ
members s o = members_from (length s) s (o + 1)

-- at most n elements, from a place behind '[' or ',' on: for each its first byte
unfoldable pub elements_from : ℕ → List ℕ → ℕ → List ℕ
elements_from zero s a = []
elements_from (suc n) s a = past s a ∷ more s (elements_from n s) (past s a)

-- the elements of the array that opens at o, in order: for each its first byte
unfoldable pub elements : List ℕ → ℕ → List ℕ
elements s o = cond (eqb (get_or s (past s (o + 1)) 0) (code "]")) [] (elements_from (length s) s (o + 1))

-- a member as it is read: the bytes between its name's quotes, and its value's bytes
abbrev pub spell : List ℕ → ℕ → List ℕ × List ℕ
spell s q = (raw s q, bytes s (value_of s q))

-- the last of some places, and the last but one; 0 if there is none
unfoldable pub last_of : List ℕ → ℕ
last_of [] = 0
last_of (x ∷ []) = x
last_of (x ∷ (y ∷ ys)) = last_of (y ∷ ys)

unfoldable pub prev_of : List ℕ → ℕ
prev_of [] = 0
prev_of (x ∷ []) = 0
prev_of (x ∷ (y ∷ [])) = x
prev_of (x ∷ (y ∷ (z ∷ zs))) = prev_of (y ∷ (z ∷ zs))
