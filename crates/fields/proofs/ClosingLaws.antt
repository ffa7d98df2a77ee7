-- Where an object ends, by its members: a member whose value opens with a quote or a bracket leaves as many brackets open as closed-there were, so the brace
-- behind the last of them closes the object. Assumes nothing.
use Rattle.octets.proofs.TextLaws.{there}
use Rattle.json_text.proofs.PlaceLaws.{left-none}
use Prim.Native.Nat.{ℕ, zero, suc, ◌+◌, ◌-◌, ◌<◌}
use Rattle.fields.specs.inner.Gathering.{Open, plain}
use Rattle.json_text.specs.Places.{Inside, outside, quoted, escaped, turn, depth, left, size, spaces, past, next, behind, value_of, follows, is_ws, is_open, is_shut}
use Rattle.json_text.specs.inner.Landing.{Row}
use Rattle.octets.proofs.TestLaws.{and_parts, or_split}
use Rattle.std.specs.Prelude.{MatchOption, None, Option, Some}
use borrow.Author.Tests.{eqb-true, lt-ltb}
use lib.Dec.{eqb}
use lib.ListN.{length, get_or, drop}
use lib.Seq.{drop-cons, drop-drop}
use mathlib.Core.Bool.{Bool, true, false, ◌||◌, cond}
use mathlib.Core.List.{List, [], ◌∷◌}
use mathlib.Core.Logic.{◌⊎◌, inl, inr}
use mathlib.Core.Path.{◌≡◌, refl, sym, ap, ◌∙◌}
use native.Mathlib.Numerals.{add-one}
use native.Mathlib.Omega.{arith}

-- brackets that are open besides stay open
deeper : (n m b : ℕ) (o s : Bool) → cond o (suc (suc n + m)) (cond s (suc n + m - 1) (suc n + m)) ≡ cond o (suc (suc n)) (cond s (suc n - 1) (suc n)) + m
deeper n m b true s = omega arith
deeper n m b false true = omega arith
deeper n m b false false = omega arith

pub over : (l : List ℕ) (x : Inside) (n m : ℕ) → left l x (n + m) ≡ left l x n + left (drop (left l x n) l) outside m
unfolding left
over [] x n m = omega arith
over (b ∷ l) outside zero m = let z : zero + m ≡ m = omega arith in rw z (omega arith)
over (b ∷ l) outside (suc n) m =
    let z : suc n + m ≡ suc (n + m) = omega arith in
    let d : depth (suc (n + m)) b ≡ depth (suc n) b + m = ap (λ (k : ℕ). depth k b) (sym z) ∙ deeper n m b (is_open b) (is_shut b) in
    rw (z, d) (omega (arith, over l (turn outside b) (depth (suc n) b) m))
over (b ∷ l) quoted n m = omega (arith, over l (turn quoted b) n m)
over (b ∷ l) escaped n m = omega (arith, over l (turn escaped b) n m)

-- a byte that neither opens nor closes anything
pub record Neutral (b : ℕ) : Type 0 where
  pub quote : eqb b 34 ≡ false
  pub opens : is_open b ≡ false
  pub shuts : is_shut b ≡ false

known : (b n : ℕ) → b ≡ n → Neutral n → Neutral b
known b n e h = rw e h

neutral : (n : ℕ) → eqb n 34 ≡ false → is_open n ≡ false → is_shut n ≡ false → Neutral n
neutral n a b c = record { quote = a; opens = b; shuts = c }

ws-neutral : (b : ℕ) → is_ws b ≡ true → Neutral b
unfolding is_ws is_open is_shut
ws-neutral b e = one (or_split (eqb b 32) _ e)
  where
    four : (eqb b 10 ≡ true) ⊎ (eqb b 13 ≡ true) → Neutral b
    four (inl h) = known b 10 (eqb-true b 10 h) (neutral 10 refl refl refl)
    four (inr h) = known b 13 (eqb-true b 13 h) (neutral 13 refl refl refl)

    three : (eqb b 9 ≡ true) ⊎ ((eqb b 10 || eqb b 13) ≡ true) → Neutral b
    three (inl h) = known b 9 (eqb-true b 9 h) (neutral 9 refl refl refl)
    three (inr h) = four (or_split (eqb b 10) (eqb b 13) h)

    one : (eqb b 32 ≡ true) ⊎ ((eqb b 9 || (eqb b 10 || eqb b 13)) ≡ true) → Neutral b
    one (inl h) = known b 32 (eqb-true b 32 h) (neutral 32 refl refl refl)
    one (inr h) = three (or_split (eqb b 9) (eqb b 10 || eqb b 13) h)

neutral-left : (b : ℕ) (l : List ℕ) → Neutral b → left (b ∷ l) outside 1 ≡ suc (left l outside 1)
unfolding left
neutral-left b l h = rw (h.quote, h.opens, h.shuts)

spaces-left : (l : List ℕ) → left l outside 1 ≡ spaces l + left (drop (spaces l) l) outside 1
unfolding spaces left
spaces-left [] = omega arith
spaces-left (b ∷ l) = by (is_ws b) refl (spaces-left l)
  where
    by : (t : Bool) → is_ws b ≡ t → left l outside 1 ≡ spaces l + left (drop (spaces l) l) outside 1
        → left (b ∷ l) outside 1 ≡ cond (is_ws b) (suc (spaces l)) 0 + left (drop (cond (is_ws b) (suc (spaces l)) 0) (b ∷ l)) outside 1
    by true e h = rw e (omega (arith, neutral-left b l (ws-neutral b e), h))
    by false e h = rw e (omega arith)

-- a string, an array or an object
pub data Closed (b : ℕ) : Type 0 where
  string : b ≡ 34 → Closed b
  array : b ≡ 91 → Closed b
  object : b ≡ 123 → Closed b

value-left : (b : ℕ) (l : List ℕ) → Closed b → left (b ∷ l) outside 1 ≡ size (b ∷ l) + left (drop (size (b ∷ l)) (b ∷ l)) outside 1
unfolding left size is_open is_shut
value-left b l (string e) = rw e (omega (arith, over l quoted 0 1))
value-left b l (array e) = rw e (omega (arith, over l outside 1 1))
value-left b l (object e) = rw e (omega (arith, over l outside 1 1))

colon-next : (v : List ℕ) (p : ℕ) → get_or v p 0 ≡ 58 → next v p ≡ p + 1
unfolding next
colon-next v p e = rw (lt-ltb p (length v) (there v p 57 e))

closed-there : (v : List ℕ) (a : ℕ) → Closed (get_or v a 0) → a < length v
closed-there v a (string e) = there v a 33 e
closed-there v a (array e) = there v a 90 e
closed-there v a (object e) = there v a 122 e

shut-left : (l : List ℕ) → left (125 ∷ l) outside 1 ≡ 1
unfolding left is_open is_shut
shut-left l = rw (left-none l)

module _ (v : List ℕ) (o : ℕ) where
  pub open_past : {p q : ℕ} → q ≡ past v p → Open v o p → Open v o q
  unfolding past
  open_past {p} {q} e f = record {
    to-go = f.to-go ∙ rw (e, spaces-left (drop p v), drop-drop (spaces (drop p v)) p v) (omega arith);
  }

  open_behind : {a e : ℕ} → a < length v → Closed (get_or v a 0) → e ≡ behind v a → Open v o a → Open v o e
  unfolding behind
  open_behind {a} {e} h c g f =
      let d = drop-cons v a 0 h in
      let x = value-left (get_or v a 0) (drop (suc a) v) c in
      let y : left (drop a v) outside 1 ≡ size (drop a v) + left (drop (size (drop a v)) (drop a v)) outside 1 = rw d x in
      record { to-go = f.to-go ∙ rw (g, y, drop-drop (size (drop a v)) a v) (omega arith) }

  open_next : {p : ℕ} → p < length v → Neutral (get_or v p 0) → Open v o p → Open v o (p + 1)
  open_next {p} h n f =
      let x : left (drop p v) outside 1 ≡ suc (left (drop (suc p) v) outside 1) = rw (drop-cons v p 0 h) (neutral-left (get_or v p 0) (drop (suc p) v) n) in
      record { to-go = f.to-go ∙ rw (x, add-one) (omega arith) }

  -- behind a comma, or a colon
  pub open_comma : {p : ℕ} → get_or v p 0 ≡ 44 → Open v o p → Open v o (p + 1)
  unfolding is_open is_shut
  open_comma {p} e f = open_next (there v p 43 e) (known (get_or v p 0) 44 e (neutral 44 refl refl refl)) f

  open_colon : {p : ℕ} → get_or v p 0 ≡ 58 → Open v o p → Open v o (next v p)
  unfolding is_open is_shut
  open_colon {p} e f = rw (colon-next v p e) (open_next (there v p 57 e) (known (get_or v p 0) 58 e (neutral 58 refl refl refl)) f)

  -- a member: its name, a colon, and a value that opens with a quote or a bracket
  pub open_member : {p q name value end then : ℕ} → q ≡ past v p → get_or v q 0 ≡ 34 → Row v q name value end then → get_or v (past v name) 0 ≡ 58
      → Closed (get_or v value 0) → Open v o p → Open v o then
  unfolding value_of follows
  open_member {p} {q} {name} {value} {end} {then} e quote row colon closed f =
      let named = open_behind (there v q 33 quote) (string quote) row.named.is (open_past e f) in
      let valued = open_past (row.begins.is ∙ rw (← row.named.is)) (open_colon colon (open_past refl named)) in
      let ended = open_behind (closed-there v value closed) closed (row.ends.is ∙ ap (behind v) (sym row.begins.is)) valued in
      open_past (row.goes.is ∙ rw (← row.ends.is)) ended

  -- its own brace
  pub shut : {p : ℕ} → get_or v p 0 ≡ 125 → Open v o p → p + 1 ≡ behind v o
  shut {p} e f =
      let x : left (drop p v) outside 1 ≡ 1 = rw (drop-cons v p 0 (there v p 124 e), e) (shut-left (drop (suc p) v)) in
      sym (f.to-go ∙ rw x)

  pub opened : get_or v o 0 ≡ 123 → Open v o (o + 1)
  unfolding behind size is_open
  opened e = record { to-go = rw (drop-cons v o 0 (there v o 122 e), e, add-one) (omega arith) }

  plain-parts : (name value : ℕ) → plain v name value ≡ true → (get_or v (past v name) 0 ≡ 58) × Closed (get_or v value 0)
  unfolding plain
  plain-parts name value e =
      let b = get_or v value 0 in
      let a = and_parts (eqb (get_or v (past v name) 0) 58) (eqb b 34 || (eqb b 91 || eqb b 123)) e in
      (eqb-true (get_or v (past v name) 0) 58 a.0, two (or_split (eqb b 34) (eqb b 91 || eqb b 123) a.1))
    where
      three : (eqb (get_or v value 0) 91 ≡ true) ⊎ (eqb (get_or v value 0) 123 ≡ true) → Closed (get_or v value 0)
      three (inl h) = array (eqb-true (get_or v value 0) 91 h)
      three (inr h) = object (eqb-true (get_or v value 0) 123 h)

      two : (eqb (get_or v value 0) 34 ≡ true) ⊎ ((eqb (get_or v value 0) 91 || eqb (get_or v value 0) 123) ≡ true) → Closed (get_or v value 0)
      two (inl h) = string (eqb-true (get_or v value 0) 34 h)
      two (inr h) = three (or_split (eqb (get_or v value 0) 91) (eqb (get_or v value 0) 123) h)

  -- one member on, as the code goes
  pub known_on : {p q name value end then : ℕ} {k k' : Bool} → (k ≡ true → Open v o p) → q ≡ past v p → get_or v q 0 ≡ 34 → Row v q name value end then
      → (k' ≡ true → (k ≡ true) × (plain v name value ≡ true)) → k' ≡ true → Open v o then
  known_on {p} {q} {name} {value} {end} {then} {k} {k'} f e quote row g h =
      let b = plain-parts name value (g h).1 in
      open_member e quote row b.0 b.1 (f (g h).0)

-- what is known of an end, where there is one
pub of_end : {P Q : ℕ → Type 0} (r : Option ℕ) → MatchOption r (Unit {0}) P → ((e : ℕ) → P e → Q e) → MatchOption r (Unit {0}) Q
of_end None h f = tt
of_end (Some e) h f = f e h
