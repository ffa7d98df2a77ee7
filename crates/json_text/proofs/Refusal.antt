-- The place of a refusal: what stands before it can go on to a whole text, and with the byte at it nothing can. Assumes nothing.
use mathlib.Core.Path.{◌≡◌, refl, sym, ap, subst, ◌∙◌}
use mathlib.Core.Bool.{Bool, true, false}
use mathlib.Core.List.{List, [], ◌∷◌, ◌++◌}
use Prim.Native.Nat.{ℕ, zero, suc, ◌+◌}
use native.Mathlib.Omega.{arith}
use borrow.Author.Tests.{eq-eqb}
use lib.ListN.{length}
use Rattle.octets.specs.Class.{is_digit, among}
use Rattle.json_text.specs.inner.Machine.{Stack, alone, text, arr, obj, Role, label, plain, Mode, value, first, name, name₁, colon, after, str, esc, hex, word}
use Rattle.json_text.specs.inner.Machine.{minus, nought, int, dot, frac, exp, sign, power, Next, live, dead, deep, done, is_hex_digit, is_sign, is_esc, due, hexes}
use Rattle.json_text.specs.inner.Machine.{begin, ends, expo, point, step, over, ended, stops, takes, walk}
use Rattle.json_text.specs.Places.{is_ws}
use Rattle.json_text.specs.inner.Machine.{Walked}
use Rattle.json_text.specs.declared.Fault.TheVariants.{Bad}
use Rattle.std.specs.Prelude.{Ok, Err}

-- whether an answer is Ok
abbrev pub Ends : Walked → Type 0
Ends (Ok e) = Unit
Ends (Err f) = ⊥

-- the brackets that close all that is open
closers : Stack → List ℕ
closers (alone d) = []
closers (text d) = []
closers (arr k) = 93 ∷ closers k
closers (obj k) = 125 ∷ closers k

closes : (k : Stack) (i : ℕ) → Ends (walk (closers k) after k i)
unfolding closers walk step ends is_ws stops
closes (alone d) i = tt
closes (text d) i = tt
closes (arr k) i = closes k (i + 1)
closes (obj k) i = closes k (i + 1)

rest-str : Role → Stack → List ℕ
rest-str label k = 34 ∷ 58 ∷ 34 ∷ 34 ∷ closers k
rest-str plain k = 34 ∷ closers k

closes-str : (w : Role) (k : Stack) (i : ℕ) → Ends (walk (rest-str w k) (str w) k i)
unfolding rest-str walk step begin is_ws
closes-str label k i = closes k _
closes-str plain k i = closes k _

rest-hex : Role → Stack → ℕ → List ℕ
rest-hex w k zero = 48 ∷ rest-str w k
rest-hex w k (suc n) = 48 ∷ rest-hex w k n

closes-hex : (w : Role) (k : Stack) (n i : ℕ) → Ends (walk (rest-hex w k n) (hex w n) k i)
unfolding rest-hex walk step is_hex_digit is_digit among hexes
closes-hex w k zero i = closes-str w k _
closes-hex w k (suc n) i = closes-hex w k n _

-- one byte on
pub on : (b : ℕ) (bs : List ℕ) (m : Mode) (k : Stack) (i : ℕ) (n : Next) → step m k b ≡ n → walk (b ∷ bs) m k i ≡ takes n (walk bs) i
unfolding walk
on b bs m k i n e = ap (λ (x : Next). takes x (walk bs) i) e

pub word_on : (x : ℕ) (xs : List ℕ) (k : Stack) → step (word x xs) k x ≡ live (due xs) k
unfolding step
word_on x xs k = simp (eq-eqb x x refl)

closes-due : (xs : List ℕ) (k : Stack) (i : ℕ) → Ends (walk (xs ++ closers k) (due xs) k i)
unfolding due
closes-due [] k i = closes k i
closes-due (x ∷ xs) k i = subst Ends (sym (on x (xs ++ closers k) (word x xs) k i (live (due xs) k) (word_on x xs k))) (closes-due xs k (i + 1))

closes-nought : (k : Stack) (i : ℕ) → Ends (walk (closers k) nought k i)
unfolding closers walk step point expo ends is_ws stops
closes-nought (alone d) i = tt
closes-nought (text d) i = tt
closes-nought (arr k) i = closes k (i + 1)
closes-nought (obj k) i = closes k (i + 1)

closes-int : (k : Stack) (i : ℕ) → Ends (walk (closers k) int k i)
unfolding closers walk step point expo ends is_ws is_digit among stops
closes-int (alone d) i = tt
closes-int (text d) i = tt
closes-int (arr k) i = closes k (i + 1)
closes-int (obj k) i = closes k (i + 1)

closes-frac : (k : Stack) (i : ℕ) → Ends (walk (closers k) frac k i)
unfolding closers walk step point expo ends is_ws is_digit among stops
closes-frac (alone d) i = tt
closes-frac (text d) i = tt
closes-frac (arr k) i = closes k (i + 1)
closes-frac (obj k) i = closes k (i + 1)

closes-power : (k : Stack) (i : ℕ) → Ends (walk (closers k) power k i)
unfolding closers walk step point expo ends is_ws is_digit among stops
closes-power (alone d) i = tt
closes-power (text d) i = tt
closes-power (arr k) i = closes k (i + 1)
closes-power (obj k) i = closes k (i + 1)

-- what takes the machine to the end of a text from anywhere
pub rest : Mode → Stack → List ℕ
rest value k = 34 ∷ 34 ∷ closers k
rest first k = 34 ∷ 34 ∷ closers k
rest name k = 34 ∷ rest-str label k
rest name₁ k = 34 ∷ rest-str label k
rest colon k = 58 ∷ 34 ∷ 34 ∷ closers k
rest after k = closers k
rest (str w) k = rest-str w k
rest (esc w) k = 34 ∷ rest-str w k
rest (hex w n) k = rest-hex w k n
rest (word x xs) k = (x ∷ xs) ++ closers k
rest minus k = 48 ∷ closers k
rest nought k = closers k
rest int k = closers k
rest dot k = 48 ∷ closers k
rest frac k = closers k
rest exp k = 48 ∷ closers k
rest sign k = 48 ∷ closers k
rest power k = closers k

pub goes_on : (m : Mode) (k : Stack) (i : ℕ) → Ends (walk (rest m k) m k i)
unfolding rest walk step begin is_ws is_digit among is_esc is_sign due
goes_on value k i = closes k _
goes_on first k i = closes k _
goes_on name k i = closes-str label k _
goes_on name₁ k i = closes-str label k _
goes_on colon k i = closes k _
goes_on after k i = closes k _
goes_on (str w) k i = closes-str w k _
goes_on (esc w) k i = closes-str w k _
goes_on (hex w n) k i = closes-hex w k n _
goes_on (word x xs) k i = closes-due (x ∷ xs) k i
goes_on minus k i = closes-nought k _
goes_on nought k i = closes-nought k _
goes_on int k i = closes-int k _
goes_on dot k i = closes-frac k _
goes_on frac k i = closes-frac k _
goes_on exp k i = closes-power k _
goes_on sign k i = closes-power k _
goes_on power k i = closes-power k _

-- p is the place: the bytes before it can go on to a whole text, and with the byte at it, if there is one, no bytes can
pub record Place (bs : List ℕ) (m : Mode) (k : Stack) (i p : ℕ) : Type 0 where
  pub before : List ℕ
  pub behind : List ℕ
  pub split : bs ≡ before ++ behind
  pub far : p ≡ i + length before
  pub more : List ℕ
  pub can : Ends (walk (before ++ more) m k i)
  pub cannot : (b : ℕ) (l : List ℕ) → behind ≡ b ∷ l → (u : List ℕ) → walk (before ++ (b ∷ u)) m k i ≡ Err (Bad p)

ended_at : (t : Bool) (i p : ℕ) → ended t i ≡ Err (Bad p) → p ≡ i
ended_at true i p q = cc
ended_at false i p q = cc

stops_at : (m : Mode) (k : Stack) (i p : ℕ) → stops m k i ≡ Err (Bad p) → p ≡ i
unfolding stops
stops_at m (alone d) i p q = ended_at (over m) i p q
stops_at m (text d) i p q = ended_at (over m) i p q
stops_at m (arr k) i p q = cc
stops_at m (obj k) i p q = cc

module _ (b : ℕ) (bs : List ℕ) (m : Mode) (k : Stack) (i p : ℕ) where
  here : step m k b ≡ dead → p ≡ i → Place (b ∷ bs) m k i p
  here e q =
      record {
        before = [];
        behind = b ∷ bs;
        split = refl;
        far = omega arith;
        more = rest m k;
        can = goes_on m k i;
        cannot = λ b' l s u.
            on b' u m k i dead (ap (step m k) (cc) ∙ e)
            ∙ ap (λ (p : ℕ). Err (Bad p)) (sym q);
      }

  later : (m' : Mode) (k' : Stack) → step m k b ≡ live m' k' → Place bs m' k' (i + 1) p → Place (b ∷ bs) m k i p
  later m' k' e r =
      record {
        before = b ∷ r.before;
        behind = r.behind;
        split = ap (λ (l : List ℕ). b ∷ l) r.split;
        far = omega (arith, r.far);
        more = r.more;
        can = subst Ends (sym (on b (r.before ++ r.more) m k i (live m' k') e)) r.can;
        cannot = λ b' l s u.
            on b (r.before ++ (b' ∷ u)) m k i (live m' k') e
            ∙ r.cannot b' l s u;
      }

  next : (n : Next) → step m k b ≡ n → takes n (walk bs) i ≡ Err (Bad p) → ((m' : Mode) (k' : Stack) → walk bs m' k' (i + 1) ≡ Err (Bad p) → Place bs m' k' (i + 1) p)
      → Place (b ∷ bs) m k i p
  next (live m' k') e q ih = later m' k' e (ih m' k' q)
  next dead e q ih = here e (cc)
  next deep e q ih = let z : ◌≡◌ {A = ℕ} 0 1 = cc in absurd (omega arith)
  next done e q ih = let z : ◌≡◌ {A = ℕ} 0 1 = cc in absurd (omega arith)

-- the place of a refusal is the first byte after which no text can go on, or the length
pub placed : (bs : List ℕ) (m : Mode) (k : Stack) (i p : ℕ) → walk bs m k i ≡ Err (Bad p) → Place bs m k i p
unfolding walk
placed [] m k i p e =
    let q = stops_at m k i p e in
    record {
      before = [];
      behind = [];
      split = refl;
      far = omega arith;
      more = rest m k;
      can = goes_on m k i;
      cannot = λ b l s u. let z : ◌≡◌ {A = ℕ} 0 1 = cc in absurd (omega arith);
    }
placed (b ∷ bs) m k i p e = next b bs m k i p (step m k b) refl e (λ m' k' q. placed bs m' k' (i + 1) p q)
