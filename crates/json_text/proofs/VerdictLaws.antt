-- What the machine answers under a ceiling is true of the text, in the words of RFC 7159; and one text has one verdict under one ceiling. What begins in the
-- bytes before a place does not depend on those behind it (`prefix`), so the values begun are the same in every text that goes on from there. A text of
-- at most twice the ceiling's bytes has none too many. Assumes nothing.
use mathlib.Core.Path.{◌≡◌, refl, sym, ap, subst, ◌∙◌}
use mathlib.Core.Bool.{Bool, true, false}
use mathlib.Core.List.{List, [], ◌∷◌, ◌++◌, append-nil}
use mathlib.Core.Logic.{⊎_elim}
use Prim.Native.Nat.{ℕ, zero, suc, ◌+◌, ◌-◌, ◌*◌, ◌≤◌, ◌<◌}
use native.Mathlib.Omega.{arith}
use borrow.Author.Tests.{lt-ltb, le-ltb, ltb-true, ltb-false, leb-true, leb-false}
use lib.ListN.{length, take, drop, get_or, length-append, take-append-drop}
use lib.Seq.{length-take-le, take-append-le, take-take}
use lib.Dec.{leb, ltb}
use Rattle.octets.proofs.TestLaws.{either}
use Rattle.json_text.specs.Rfc7159.{JSON-text as JsonText, JSON as Json}
use Rattle.json_text.specs.Values.{count}
use Rattle.json_text.specs.Verdict.{below, before, Few, TooMany, Verdict, Refused, TooDeep}
use Rattle.json_text.specs.inner.Begun.{begins_value, only, begins_at, begins, begun}
use Rattle.json_text.specs.inner.Machine.{Stack, text, Mode, value, Next, live, dead, deep, done, step, walk, answer}
use Rattle.json_text.specs.inner.Tour.{lift, cap, tour, total, visited}
use Rattle.json_text.specs.inner.Machine.{Walked}
use Rattle.json_text.proofs.Agreement.{deeper, take-one}
use Rattle.json_text.proofs.AnswerLaws.{Says, says, says-one, beyond, order}
use Rattle.json_text.proofs.Bound.{bound, agree}
use Rattle.json_text.proofs.Complete.{complete-places, begin-on, begin-none}
use Rattle.json_text.proofs.Raise.{raise, raise-text, Up, lives, dies, ended-up, deeps, up_step}
use Rattle.json_text.proofs.Refusal.{Ends, rest, goes_on, on}
use Rattle.json_text.proofs.Sound.{sound}
use Rattle.json_text.specs.declared.Fault.{Fault}
use Rattle.json_text.specs.declared.Fault.TheVariants.{Bad, Deep, Many}
use Rattle.std.specs.Prelude.{Result, Ok, Err}

-- Those below a place.
below-hit : (p x : ℕ) (l : List ℕ) → x < p → below p (x ∷ l) ≡ x ∷ below p l
below-hit p x l h = simp (lt-ltb x p h)

below-miss : (p x : ℕ) (l : List ℕ) → p ≤ x → below p (x ∷ l) ≡ below p l
below-miss p x l h = simp (le-ltb x p h)

below_all : (p : ℕ) (l : List ℕ) → length (below p l) ≤ length l
below_all p [] = omega arith
below_all p (x ∷ l) =
    ⊎_elim (λ e. omega (arith, ap length (below-hit p x l (ltb-true x p e)), below_all p l))
    (λ e. omega (arith, ap length (below-miss p x l (ltb-false x p e)), below_all p l)) (either (ltb x p))

below_rise : (p q : ℕ) (l : List ℕ) → p ≤ q → length (below p l) ≤ length (below q l)
below_rise p q [] h = omega arith
below_rise p q (x ∷ l) h =
    ⊎_elim (λ e. let u = ltb-true x p e in omega (arith, ap length (below-hit p x l u), ap length (below-hit q x l (omega arith)), below_rise p q l h))
    (λ e. let u = ltb-false x p e in
    ⊎_elim (λ f. omega (arith, ap length (below-miss p x l u), ap length (below-hit q x l (ltb-true x q f)), below_rise p q l h))
    (λ f. omega (arith, ap length (below-miss p x l u), ap length (below-miss q x l (ltb-false x q f)), below_rise p q l h)) (either (ltb x q))) (either (ltb x p))

-- What begins in the bytes before a place does not depend on those behind it.
none-go : (u : List ℕ) (i j : ℕ) (t : Bool) (n : Next) → i ≤ j → ((m : Mode) (k : Stack) → below i (begins u m k (j + 1)) ≡ []) → below i (begins_at t n (begins u) j) ≡ []
none-go u i j true (live m k) h ih = below-miss i j (begins u m k (j + 1)) h ∙ ih m k
none-go u i j false (live m k) h ih = ih m k
none-go u i j t dead h ih = refl
none-go u i j t deep h ih = refl
none-go u i j t done h ih = refl

below_none : (u : List ℕ) (m : Mode) (k : Stack) (i j : ℕ) → i ≤ j → below i (begins u m k j) ≡ []
unfolding begins
below_none [] m k i j h = refl
below_none (b ∷ u) m k i j h = none-go u i j (begins_value m b) (step m k b) h (λ m' k'. below_none u m' k' i (j + 1) (omega arith))

prefix-go : (w u : List ℕ) (i : ℕ) (t : Bool) (n : Next) → ((m : Mode) (k : Stack) → below (i + suc (length w)) (begins (w ++ u) m k (i + 1)) ≡ begins w m k (i + 1))
    → below (i + suc (length w)) (begins_at t n (begins (w ++ u)) i) ≡ begins_at t n (begins w) i
prefix-go w u i true (live m k) ih = below-hit (i + suc (length w)) i (begins (w ++ u) m k (i + 1)) (omega arith) ∙ ap (λ (l : List ℕ). i ∷ l) (ih m k)
prefix-go w u i false (live m k) ih = ih m k
prefix-go w u i t dead ih = refl
prefix-go w u i t deep ih = refl
prefix-go w u i t done ih = refl

prefix : (w u : List ℕ) (m : Mode) (k : Stack) (i : ℕ) → below (i + length w) (begins (w ++ u) m k i) ≡ begins w m k i
unfolding begins
prefix [] u m k i = below_none u m k (i + 0) i (omega arith)
prefix (b ∷ w) u m k i =
    let e : (i + 1) + length w ≡ i + suc (length w) = omega arith in
    prefix-go w u i (begins_value m b) (step m k b) (λ m' k'. ap (λ (p : ℕ). below p (begins (w ++ u) m' k' (i + 1))) (sym e) ∙ prefix w u m' k' (i + 1))

-- With more levels at least as many begin.
up_go : (e : ℕ) (bs : List ℕ) (i : ℕ) (t : Bool) {k : Stack} {n n' : Next} → Up e k n n'
    → ((m : Mode) (j : Stack) → length (begins bs m j (i + 1)) ≤ length (begins bs m (raise e j) (i + 1)))
    → length (begins_at t n (begins bs) i) ≤ length (begins_at t n' (begins bs) i)
up_go e bs i t (lives {m = m} {k = j} {k' = j'} q) ih =
    let r : length (begins bs m (raise e j) (i + 1)) ≡ length (begins bs m j' (i + 1)) = ap (λ (x : Stack). length (begins bs m x (i + 1))) q in
    omega (arith, ih m j, length-append (only t i) (begins bs m j (i + 1)), length-append (only t i) (begins bs m j' (i + 1)))
up_go e bs i t dies ih = omega arith
up_go e bs i t ended-up ih = omega arith
up_go e bs i t (deeps f) ih = omega arith

up_begins : (e : ℕ) (bs : List ℕ) (m : Mode) (k : Stack) (i : ℕ) → length (begins bs m k i) ≤ length (begins bs m (raise e k) i)
unfolding begins
up_begins e [] m k i = omega arith
up_begins e (b ∷ bs) m k i = up_go e bs i (begins_value m b) (up_step e m k b) (λ m' j. up_begins e bs m' j (i + 1))

-- so what begins before p is known from the bytes before p
abbrev all : List ℕ → List ℕ
all s = begins s value (text 8) 0

known : (w u : List ℕ) (p : ℕ) → length w ≡ p → below p (all (w ++ u)) ≡ all w
known w u p e = ap (λ (q : ℕ). below q (all (w ++ u))) (sym (omega arith)) ∙ prefix w u value (text 8) 0

upto : (s : List ℕ) (p : ℕ) → p ≤ length s → below p (all s) ≡ all (take p s)
upto s p h = ap (λ (r : List ℕ). below p (all r)) (sym (take-append-drop p s)) ∙ known (take p s) (drop p s) p (length-take-le p s h)

-- of every text that begins as s does
begun-is : (s more : List ℕ) (p q : ℕ) (x : JsonText 8 (take q s ++ more)) → p ≤ q → q ≤ length s → before p (take q s ++ more) x ≡ length (below p (all s))
begun-is s more p q x h l =
    let a : take p (take q s ++ more) ≡ take p s = take-append-le p (take q s) more (omega (arith, length-take-le q s l)) ∙ take-take p q s h in
    let b : p ≤ length (take q s ++ more) = omega (arith, length-take-le q s l, length-append (take q s) more) in
    ap (λ (r : List ℕ). length (below p r)) (sym (complete-places 8 (take q s ++ more) x))
    ∙ ap length (upto (take q s ++ more) p b ∙ ap all a ∙ sym (upto s p (omega arith)))

-- One answer.
module _ (s : List ℕ) where
  number : (x : JsonText 8 s) → count 8 s x ≡ length (all s)
  number x = sym (agree 8 s x) ∙ ap length (sym (complete-places 8 s x))

  same-bad : (p q : ℕ) → Refused 8 s p → Refused 8 s q → p ≡ q
  same-bad p q a b = let e = says-one s (Err (Bad p)) (Err (Bad q)) a b in cc

  same-deep : (p q : ℕ) → TooDeep 8 s p → TooDeep 8 s q → p ≡ q
  same-deep p q a b = let e = says-one s (Err (Deep p)) (Err (Deep q)) a b in cc

  not-bad-deep : (p q : ℕ) → Refused 8 s p → TooDeep 8 s q → ⊥
  not-bad-deep p q a b = let e = says-one s (Err (Bad p)) (Err (Deep q)) a b in let z : ◌≡◌ {A = ℕ} 0 1 = cc in omega arith

  not-text-deep : (p : ℕ) → JsonText 8 s → TooDeep 8 s p → ⊥
  not-text-deep p x a = let e = says-one s (Ok (length s)) (Err (Deep p)) (x, refl) a in let z : ◌≡◌ {A = ℕ} 0 1 = cc in omega arith

module _ (c : ℕ) (s : List ℕ) where
  many-one : (p : ℕ) → TooMany c s p → length (below (p + 1) (all s)) ≡ c + 1
  many-one p t = sym (begun-is s t.more (p + 1) (p + 1) t.can (omega arith) (omega (arith, t.inside))) ∙ t.one

  many-full : (p : ℕ) → TooMany c s p → length (below p (all s)) ≡ c
  many-full p t = sym (begun-is s t.more p (p + 1) t.can (omega arith) (omega (arith, t.inside))) ∙ t.full

  many-all : (p : ℕ) → TooMany c s p → c < length (all s)
  many-all p t = omega (arith, many-one p t, below_all (p + 1) (all s))

  -- a place before which no value is too many is no further than one
  no-further : (p q : ℕ) → Few c s p → TooMany c s q → p < q + 1
  no-further p q f t = let h : q < p → ⊥ = λ l. f q l t in omega arith

  text-many : (n p : ℕ) → Verdict c s (Ok n) → TooMany c s p → ⊥
  text-many n p (x, (e, l)) t = omega (arith, number s x, many-all p t)

  bad-many : (p q : ℕ) → Refused 8 s p → Few c s p → TooMany c s q → ⊥
  bad-many p q r w t =
      let h = no-further p q w t in
      beyond Json s p (q + 1) h t.more (r.cannot (omega (arith, t.inside))) (8, t.can)

  deep-many : (p q : ℕ) → TooDeep 8 s p → Few c s p → TooMany c s q → ⊥
  deep-many p q r w t =
      let h = no-further p q w t in
      beyond (JsonText 8) s p (q + 1) h t.more r.cannot t.can

  many-less : (p q : ℕ) → TooMany c s p → TooMany c s q → p < q → ⊥
  many-less p q t u h = omega (arith, below_rise (p + 1) q (all s) (omega arith), many-one p t, many-full q u)

  many-same : (p q : ℕ) → TooMany c s p → TooMany c s q → p ≡ q
  many-same p q t u = order p q (many-less p q t u) (many-less q p u t)

  one-count : (n n' : ℕ) → Verdict c s (Ok n) → Verdict c s (Ok n') → n ≡ n'
  one-count n n' (x, (e, l)) (x', (e', l')) = omega (arith, number s x, number s x')

  -- THEOREM: one text has one verdict under one ceiling, kind, count and place: two answers that the contract of `read` allows are equal
  pub read-determined : (g g' : Result ℕ Fault) → Verdict c s g → Verdict c s g' → g ≡ g'
  read-determined (Ok n) (Ok n') a b = ap Ok (one-count n n' a b)
  read-determined (Ok n) (Err (Bad q)) a b = absurd (b.0.none_such (8, a.0))
  read-determined (Ok n) (Err (Deep q)) a b = absurd (not-text-deep s q a.0 b.0)
  read-determined (Ok n) (Err (Many q)) a b = absurd (text-many n q a b)
  read-determined (Err (Bad p)) (Ok n) a b = absurd (a.0.none_such (8, b.0))
  read-determined (Err (Bad p)) (Err (Bad q)) a b = ap (λ (p : ℕ). Err (Bad p)) (same-bad s p q a.0 b.0)
  read-determined (Err (Bad p)) (Err (Deep q)) a b = absurd (not-bad-deep s p q a.0 b.0)
  read-determined (Err (Bad p)) (Err (Many q)) a b = absurd (bad-many p q a.0 a.1 b)
  read-determined (Err (Deep p)) (Ok n) a b = absurd (not-text-deep s p b.0 a.0)
  read-determined (Err (Deep p)) (Err (Bad q)) a b = absurd (not-bad-deep s q p b.0 a.0)
  read-determined (Err (Deep p)) (Err (Deep q)) a b = ap (λ (p : ℕ). Err (Deep p)) (same-deep s p q a.0 b.0)
  read-determined (Err (Deep p)) (Err (Many q)) a b = absurd (deep-many p q a.0 a.1 b)
  read-determined (Err (Many p)) (Ok n) a b = absurd (text-many n p b a)
  read-determined (Err (Many p)) (Err (Bad q)) a b = absurd (bad-many q p b.0 b.1 a)
  read-determined (Err (Many p)) (Err (Deep q)) a b = absurd (deep-many q p b.0 b.1 a)
  read-determined (Err (Many p)) (Err (Many q)) a b = ap (λ (p : ℕ). Err (Many p)) (many-same p q a b)

-- The machine's answer with room for c, where values begin at l.
cap-few : (c : ℕ) (g : Walked) (l : List ℕ) → length l ≤ c → cap c g l ≡ lift g (c - length l)
cap-few c g [] h = let z : c ≡ c - 0 = omega arith in ap (lift g) z
cap-few zero g (p ∷ l) h = absurd (omega arith)
cap-few (suc c) g (p ∷ l) h = let z : c - length l ≡ suc c - suc (length l) = omega arith in cap-few c g l (omega arith) ∙ ap (lift g) z

cap-many : (c : ℕ) (g : Walked) (l : List ℕ) → c < length l → cap c g l ≡ Err (Many (get_or l c 0))
cap-many c g [] h = absurd (omega arith)
cap-many zero g (p ∷ l) h = refl
cap-many (suc c) g (p ∷ l) h = cap-many c g l (omega arith)

-- its answer without a ceiling, on a text of n values
abbrev plainly : Walked → ℕ → Result ℕ Fault
plainly (Ok e) n = Ok n
plainly (Err f) n = Err f

total-lift : (c n : ℕ) (g : Walked) → n ≤ c → total c (lift g (c - n)) ≡ plainly g n
total-lift c n (Ok e) h = let z : c - (c - n) ≡ n = omega arith in ap Ok z
total-lift c n (Err f) h = refl

-- The machine's answer: value number n of those begun: the bytes up to its first go on to a text.
record Nth (bs : List ℕ) (m : Mode) (k : Stack) (i n p : ℕ) : Type 0 where
  front : List ℕ
  it : ℕ
  behind : List ℕ
  split : bs ≡ front ++ (it ∷ behind)
  far : p ≡ i + length front
  more : List ℕ
  can : Ends (walk (front ++ (it ∷ more)) m k i)
  few : length (begins front m k i) ≡ n
  one : length (begins (front ++ (it ∷ [])) m k i) ≡ n + 1

module _ (b : ℕ) (bs : List ℕ) (m m' : Mode) (k k' : Stack) (i : ℕ) (t : Bool) (o : begins_value m b ≡ t) (f : step m k b ≡ live m' k') where
  on-place : (w : List ℕ) → begins (b ∷ w) m k i ≡ only t i ++ begins w m' k' (i + 1)
  on-place w = begin-on b w m k i t (live m' k') o f

  later : (n n' p : ℕ) → length (only t i) + n ≡ n' → Nth bs m' k' (i + 1) n p → Nth (b ∷ bs) m k i n' p
  later n n' p h r =
      record {
        front = b ∷ r.front;
        it = r.it;
        behind = r.behind;
        split = ap (λ (l : List ℕ). b ∷ l) r.split;
        far = omega (arith, r.far);
        more = r.more;
        can = subst Ends (sym (on b (r.front ++ (r.it ∷ r.more)) m k i (live m' k') f)) r.can;
        few = omega (arith, r.few, ap length (on-place r.front), length-append (only t i) (begins r.front m' k' (i + 1)));
        one = omega (
          arith,
          r.one,
          ap length (on-place (r.front ++ (r.it ∷ []))),
          length-append (only t i) (begins (r.front ++ (r.it ∷ [])) m' k' (i + 1)),
        );
      }

  now : t ≡ true → Nth (b ∷ bs) m k i 0 i
  now h =
      record {
        front = [];
        it = b;
        behind = bs;
        split = refl;
        far = omega arith;
        more = rest m' k';
        can = subst Ends (sym (on b (rest m' k') m k i (live m' k') f)) (goes_on m' k' (i + 1));
        few = ap length (begin-none m k i);
        one = ap length (begin-on b [] m k i true (live m' k') (o ∙ h) f ∙ ap (λ (l : List ℕ). i ∷ l) (begin-none m' k' (i + 1)));
      }

module _ (b : ℕ) (bs : List ℕ) (m : Mode) (k : Stack) (i : ℕ)
    (ih : (m' : Mode) (k' : Stack) (n : ℕ) → n < length (begins bs m' k' (i + 1)) → Nth bs m' k' (i + 1) n (get_or (begins bs m' k' (i + 1)) n 0)) where
  nth-go : (t : Bool) (x : Next) (n : ℕ) → begins_value m b ≡ t → step m k b ≡ x → n < length (begins_at t x (begins bs) i)
      → Nth (b ∷ bs) m k i n (get_or (begins_at t x (begins bs) i) n 0)
  nth-go true (live m' k') zero o f h = now b bs m m' k k' i true o f refl
  nth-go true (live m' k') (suc n) o f h = later b bs m m' k k' i true o f n (suc n) (get_or (begins bs m' k' (i + 1)) n 0) (omega arith) (ih m' k' n (omega arith))
  nth-go false (live m' k') n o f h = later b bs m m' k k' i false o f n n (get_or (begins bs m' k' (i + 1)) n 0) (omega arith) (ih m' k' n h)
  nth-go t dead n o f h = absurd (omega arith)
  nth-go t deep n o f h = absurd (omega arith)
  nth-go t done n o f h = absurd (omega arith)

nth : (bs : List ℕ) (m : Mode) (k : Stack) (i n : ℕ) → n < length (begins bs m k i) → Nth bs m k i n (get_or (begins bs m k i) n 0)
unfolding begins
nth [] m k i n h = absurd (omega arith)
nth (b ∷ bs) m k i n h = nth-go b bs m k i (λ m' k' j l. nth bs m' k' (i + 1) j l) (begins_value m b) (step m k b) n refl refl h

module _ (c : ℕ) (s : List ℕ) (h : c < length (all s)) where
  at : Nth s value (text 8) 0 c (get_or (all s) c 0)
  at = nth s value (text 8) 0 c h

  module _ (p : ℕ) (is : p ≡ get_or (all s) c 0) where
    far : length at.front ≡ p
    far = omega (arith, at.far)

    inside : p < length s
    inside = omega (arith, far, ap length at.split, length-append at.front (at.it ∷ at.behind))

    onto : (u : List ℕ) → take (p + 1) s ++ u ≡ at.front ++ (at.it ∷ u)
    onto u = take-one s at.front at.it at.behind u p far at.split

    goes : JsonText 8 (take (p + 1) s ++ at.more)
    goes = sound 8 _ (subst (λ (r : List ℕ). Ends (walk r value (text 8) 0)) (sym (onto at.more)) at.can)

    below_p : below p (all s) ≡ all at.front
    below_p = ap (λ (r : List ℕ). below p (all r)) at.split ∙ known at.front (at.it ∷ at.behind) p far

    below_next : below (p + 1) (all s) ≡ all (at.front ++ (at.it ∷ []))
    below_next = upto s (p + 1) (omega (arith, inside)) ∙ ap all (sym (append-nil (take (p + 1) s)) ∙ onto [])

    too_many : TooMany c s p
    too_many =
        record {
          inside = inside;
          more = at.more;
          can = goes;
          full = begun-is s at.more p (p + 1) goes (omega arith) (omega (arith, inside)) ∙ ap length below_p ∙ at.few;
          one = begun-is s at.more (p + 1) (p + 1) goes (omega arith) (omega (arith, inside)) ∙ ap length below_next ∙ at.one;
        }

module _ (c : ℕ) (s : List ℕ) where
  few : (g : Walked) → Says s g → length (all s) ≤ c → Verdict c s (plainly g (length (all s)))
  few (Ok e) v h = (v.0, (number s v.0, h))
  few (Err (Bad p)) v h = (v, λ q l t. omega (arith, many-all c s q t))
  few (Err (Deep p)) v h = (v, λ q l t. omega (arith, many-all c s q t))
  few (Err (Many p)) v h = absurd v

  tour-cap : tour s 0 value (text 8) c ≡ cap c (answer s) (all s)
  unfolding tour begun
  tour-cap = refl

  -- THEOREM: the machine's answer under a ceiling is a text's verdict
  pub verdict : Verdict c s (visited c s)
  verdict =
      ⊎_elim
      (λ e. let h = leb-true (length (all s)) c e in
      subst (Verdict c s) (sym (ap (total c) (tour-cap ∙ cap-few c (answer s) (all s) h) ∙ total-lift c (length (all s)) (answer s) h)) (few (answer s) (says s) h))
      (λ e. let h = leb-false (length (all s)) c e in
      subst (Verdict c s) (sym (ap (total c) (tour-cap ∙ cap-many c (answer s) (all s) h))) (too_many c s h (get_or (all s) c 0) refl))
      (either (leb (length (all s)) c))

  -- so whoever is told the verdict knows the machine's answer
  pub verdict-answer : (g : Result ℕ Fault) → Verdict c s g → g ≡ visited c s
  verdict-answer g v = read-determined c s g (visited c s) v verdict

  -- THEOREM: every text has one verdict under one ceiling: there is one, and no other
  pub one-verdict : (g : Result ℕ Fault) × (Verdict c s g × ((g' : Result ℕ Fault) → Verdict c s g' → g' ≡ g))
  one-verdict = (visited c s, (verdict, verdict-answer))

  -- a text under a ceiling is one without, and every derivation has its count
  pub text-ends : {n : ℕ} → visited c s ≡ Ok n → answer s ≡ Ok (length s)
  text-ends e = sym (says-one s (Ok (length s)) (answer s) ((subst (Verdict c s) e verdict).0, refl) (says s))

  pub text-counts : {n : ℕ} → visited c s ≡ Ok n → (x : JsonText 8 s) → n ≡ count 8 s x
  text-counts e x = let v = subst (Verdict c s) e verdict in omega (arith, v.1.0, number s v.0, number s x)

  -- what the machine takes to its end without a ceiling, it does under one of half the bytes
  pub ends-within : {e : ℕ} → answer s ≡ Ok e → length s ≤ 2 * c → (n : ℕ) × (visited c s ≡ Ok n)
  ends-within e h =
      let x = (subst (Says s) e (says s)).0 in
      (count 8 s x, sym (verdict-answer (Ok (count 8 s x)) (x, (refl, omega (arith, bound 8 s x)))))

  -- THEOREM: no JSON text of at most twice c bytes, however deep, has a value too many under a ceiling of c
  pub never-many : (p : ℕ) → Json s → length s ≤ 2 * c → TooMany c s p → ⊥
  never-many p (d, x) h t =
      let z : d + 8 ≡ 8 + d = omega arith in
      let y : JsonText (8 + d) s = subst (λ (n : ℕ). JsonText n s) z (deeper d 8 s x) in
      let u : length (begins s value (raise d (text 8)) 0) ≡ length (begins s value (text (8 + d)) 0) = ap (λ (k : Stack). length (begins s value k 0)) (raise-text d 8) in
      omega (arith, many-all c s p t, up_begins d s value (text 8) 0, ap length (complete-places (8 + d) s y), agree (8 + d) s y, bound (8 + d) s y)
