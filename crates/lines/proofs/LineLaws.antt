-- What a line says is decided by its first bytes: 21 of them hold the time and its space, and 32,790 decide the rest. Assumes nothing.
use Rattle.std.proofs.Common.{None, Option, Some}
use Prim.Native.Nat.{ℕ, zero, suc, ◌+◌, ◌-◌, ◌≤◌, ◌<◌}
use Rattle.lines.specs.Program.{line_of, long, said, said_by, timed}
use Rattle.lines.specs.declared.reading.Line.TheVariants.{Bad, Long, Message, Tick}
use Rattle.lines.specs.declared.reading.Line.{Line}
use Rattle.octets.proofs.DecimalLaws.{long as too_many}
use Rattle.octets.proofs.TextLaws.{before-within, same-eq}
use Rattle.octets.specs.Ascii.{ascii}
use Rattle.octets.specs.Decimal.{decimal_in}
use Rattle.octets.specs.Text.{before, stands_at}
use borrow.Author.Tests.{le-ltb, lt-ltb, ltb-true}
use lib.Dec.{eqb, ltb}
use lib.ListN.{drop, length, length-drop, take}
use lib.Seq.{length-take-le, take_all, take-take}
use mathlib.Core.Bool.{Bool, false, true, cond}
use mathlib.Core.List.{List, [], ◌∷◌}
use mathlib.Core.Path.{◌≡◌, ap, refl, sym, ◌∙◌}
use native.Mathlib.Decide.{dec_le, dec_lt}
use native.Mathlib.Omega.{arith}

-- Finding a byte among the first n.

before-short : (b n : ℕ) (s : List ℕ) → before b s < n → before b (take n s) ≡ before b s
unfolding before
before-short b zero s h = absurd (omega arith)
before-short b (suc n) [] h = refl
before-short b (suc n) (x ∷ s) h = go (eqb x b) refl (before-short b n s)
  where
    go : (t : Bool) → eqb x b ≡ t → (before b s < n → before b (take n s) ≡ before b s) → before b (take (suc n) (x ∷ s)) ≡ before b (x ∷ s)
    go true e r = rw e
    go false e r = rw e (ap suc (r (let k : suc (before b s) < suc n = rw e at h in omega arith)))

before-cut : (b n : ℕ) (s : List ℕ) → n ≤ before b s → before b (take n s) ≡ n
unfolding before
before-cut b zero s h = refl
before-cut b (suc n) [] h = absurd (omega arith)
before-cut b (suc n) (x ∷ s) h = go (eqb x b) refl (before-cut b n s)
  where
    go : (t : Bool) → eqb x b ≡ t → (n ≤ before b s → before b (take n s) ≡ n) → before b (take (suc n) (x ∷ s)) ≡ suc n
    go true e r = absurd (let k : suc n ≤ 0 = rw e at h in omega arith)
    go false e r = rw e (ap suc (r (let k : suc n ≤ suc (before b s) = rw e at h in omega arith)))

-- a time is at most 20 bytes long
few : (w : List ℕ) (v : ℕ) → decimal_in w ≡ Some v → length w ≤ 20
few w v e = go (dec_le (length w) 20)
  where
    go : Dec (length w ≤ 20) → length w ≤ 20
    go (yes a) = a
    go (no a) = let l = too_many w (omega arith) in let z : ◌≡◌ {A = ℕ} 0 1 = cc in absurd (omega arith)

-- Each answer of `read`, where n bytes of the first 21 stand before the space.
module _ (s : List ℕ) (n : ℕ) (is : n ≡ before 32 (take 21 s)) where
  pub no_space : length s ≤ n → Bad ≡ line_of s
  unfolding line_of
  no_space h = go (dec_lt (before 32 s) 21)
    where
      go : Dec (before 32 s < 21) → Bad ≡ cond (ltb (before 32 s) (length s)) (timed s (before 32 s) (decimal_in (take (before 32 s) s))) Bad
      go (yes a) = rw (le-ltb (before 32 s) (length s) (omega (arith, before-short 32 21 s a)))
      go (no a) = rw (le-ltb (before 32 s) (length s) (omega (arith, before-cut 32 21 s (omega arith), before-within 32 s)))

  pub no-time : n < length s → decimal_in (take n s) ≡ None → Bad ≡ line_of s
  unfolding line_of timed
  no-time h e = go (dec_lt (before 32 s) 21)
    where
      go : Dec (before 32 s < 21) → Bad ≡ cond (ltb (before 32 s) (length s)) (timed s (before 32 s) (decimal_in (take (before 32 s) s))) Bad
      go (yes a) = let q : n ≡ before 32 s = is ∙ before-short 32 21 s a in rw (← q, lt-ltb n (length s) h, e)
      go (no a) = within (ltb (before 32 s) (length s))
        where
          within : (t : Bool) → Bad ≡ cond t (timed s (before 32 s) (decimal_in (take (before 32 s) s))) Bad
          within false = refl
          within true = rw (← too_many (take (before 32 s) s) (rw (length-take-le (before 32 s) s (before-within 32 s)) (omega arith)))

  pub time-few : (v : ℕ) → n < length s → decimal_in (take n s) ≡ Some v → n ≤ 20
  time-few v h e = rw (length-take-le n s (omega arith)) at (few (take n s) v e)

  pub the_time : (v : ℕ) → n < length s → decimal_in (take n s) ≡ Some v → line_of s ≡ timed s n (Some v)
  unfolding line_of
  the_time v h e = go (dec_lt (before 32 s) 21) (time-few v h e)
    where
      go : Dec (before 32 s < 21) → n ≤ 20 → cond (ltb (before 32 s) (length s)) (timed s (before 32 s) (decimal_in (take (before 32 s) s))) Bad ≡ timed s n (Some v)
      go (yes a) l = let q : n ≡ before 32 s = is ∙ before-short 32 21 s a in rw (← q, lt-ltb n (length s) h, e)
      go (no a) l = absurd (omega (arith, before-cut 32 21 s (omega arith)))

  pub too_long : (v : ℕ) → n < length s → decimal_in (take n s) ≡ Some v → 32768 < length s - (n + 1) → Long n ≡ line_of s
  unfolding timed
  too_long v h e k = sym (the_time v h e ∙ simp (lt-ltb _ _ k))

  pub ticks : (v : ℕ) → n < length s → decimal_in (take n s) ≡ Some v → length s - (n + 1) ≤ 32768 → stands_at s (n + 1) (ascii "tick ") ≡ true → Tick n v ≡ line_of s
  unfolding timed
  ticks v h e k t = sym (the_time v h e ∙ rw (le-ltb _ _ k, t))

  pub speaks : (v : ℕ) → n < length s → decimal_in (take n s) ≡ Some v → length s - (n + 1) ≤ 32768 → stands_at s (n + 1) (ascii "tick ") ≡ false → Message n v ≡ line_of s
  unfolding timed
  speaks v h e k t = sym (the_time v h e ∙ rw (le-ltb _ _ k, t))

-- A line cut to 32,790 bytes or more says what the whole says.

cut-said : (cap : ℕ) → 32790 ≤ cap → (l : List ℕ) → cap < length l → (n : ℕ) → n ≡ before 32 (take 21 l) → (d : Option ℕ) → decimal_in (take n l) ≡ d → said (take cap l) ≡ said l
unfolding said said_by
cut-said cap room l h n is d e = go d e
  where
    small : n ≤ 21
    small = rw is (rw (length-take-le 21 l (omega arith)) at (before-within 32 (take 21 l)))

    size : length (take cap l) ≡ cap
    size = length-take-le cap l (omega arith)

    is' : n ≡ before 32 (take 21 (take cap l))
    is' = rw (take-take 21 cap l (omega arith)) is

    front : take n (take cap l) ≡ take n l
    front = take-take n cap l (omega (arith, small))

    go : (d : Option ℕ) → decimal_in (take n l) ≡ d → said_by (take cap l) (line_of (take cap l)) ≡ said_by l (line_of l)
    go None e = rw (← no-time (take cap l) n is' (omega (arith, small, size)) (rw front e), ← no-time l n is (omega (arith, small)) e)
    go (Some v) e =
        let few = time-few l n is v (omega (arith, small)) e in
        rw (← too_long (take cap l) n is' v (omega (arith, small, size)) (rw front e) (omega (arith, size)), ← too_long l n is v (omega (arith, small)) e (omega arith))
        (ap long front)

pub said-kept : (cap : ℕ) → 32790 ≤ cap → (l : List ℕ) → said (take cap l) ≡ said l
said-kept cap room l = go (dec_le (length l) cap)
  where
    go : Dec (length l ≤ cap) → said (take cap l) ≡ said l
    go (yes a) = ap said (take_all cap l a)
    go (no a) = cut-said cap room l (omega arith) (before 32 (take 21 l)) refl (decimal_in (take (before 32 (take 21 l)) l)) refl

timed-at : (l : List ℕ) (v : ℕ) → ltb (before 32 l) (length l) ≡ true → decimal_in (take (before 32 l) l) ≡ Some v → (before 32 l ≤ 20) × (before 32 l < length l)
timed-at l v h e = (rw (length-take-le (before 32 l) l (before-within 32 l)) at (few (take (before 32 l) l) v e), ltb-true _ _ h)

taken-within : (n : ℕ) (l : List ℕ) → length (take n l) ≤ length l
taken-within zero l = omega arith
taken-within (suc n) [] = omega arith
taken-within (suc n) (x ∷ l) = let h = taken-within n l in omega arith

-- Where the parts of a line stand: the time's digits and its space, and behind them `tick ` where the line is a tick.
pub data Places (l : List ℕ) : Line → Type 0 where
  bad-places : Places l Bad
  long-places : {n : ℕ} → (n ≤ 20) × (n < length l) → Places l (Long n)
  tick-places : {n v : ℕ} → (n ≤ 20) × (n + 6 ≤ length l) → Places l (Tick n v)
  message-places : {n v : ℕ} → (n ≤ 20) × (n < length l) → Places l (Message n v)

ticks-fit : (l : List ℕ) (n : ℕ) → stands_at l (n + 1) (ascii "tick ") ≡ true → n + 6 ≤ length l
unfolding stands_at
ticks-fit l n e =
    let q : take 5 (drop (n + 1) l) ≡ ascii "tick " = same-eq _ _ e in
    let k : length (take 5 (drop (n + 1) l)) ≡ 5 = ap length q in
    omega (arith, taken-within 5 (drop (n + 1) l), length-drop (n + 1) l)

behind : (l : List ℕ) (n v : ℕ) → (n ≤ 20) × (n < length l) → (u w : Bool) → stands_at l (n + 1) (ascii "tick ") ≡ w → Places l (cond u (Long n) (cond w (Tick n v) (Message n v)))
behind l n v h true w e = long-places h
behind l n v h false true e = tick-places (h.0, ticks-fit l n e)
behind l n v h false false e = message-places h

pub places : (l : List ℕ) → Places l (line_of l)
unfolding line_of timed
places l = go (ltb (before 32 l) (length l)) refl (decimal_in (take (before 32 l) l)) refl
  where
    go : (t : Bool) → ltb (before 32 l) (length l) ≡ t → (d : Option ℕ) → decimal_in (take (before 32 l) l) ≡ d → Places l (cond t (timed l (before 32 l) d) Bad)
    go false h d e = bad-places
    go true h None e = bad-places
    go true h (Some v) e = behind l (before 32 l) v (timed-at l v h e) (ltb 32768 (length l - (before 32 l + 1))) (stands_at l (before 32 l + 1) (ascii "tick ")) refl

pub of_long : {l : List ℕ} {n : ℕ} → Places l (Long n) → (n ≤ 20) × (n < length l)
of_long (long-places h) = h

pub of_tick : {l : List ℕ} {n v : ℕ} → Places l (Tick n v) → (n ≤ 20) × (n + 6 ≤ length l)
of_tick (tick-places h) = h

pub of_message : {l : List ℕ} {n v : ℕ} → Places l (Message n v) → (n ≤ 20) × (n < length l)
of_message (message-places h) = h
