-- What the machine answers on a value by itself decides what it answers wherever the value stands, with as many levels left: its end, and why there is
-- none (`value-around`); and where it begins values by itself it begins them there (`tour-around`, with as much room). Assumes nothing.
use Prim.Native.Nat.{ℕ, zero, suc, ◌+◌, ◌≤◌, ◌<◌}
use Rattle.json_text.proofs.Listing.{at_next}
use Rattle.json_text.proofs.MoveLaws.{stops-place, stops-short, stops-over}
use Rattle.json_text.proofs.OwnBytes.{onto, In, Lifts, on, no, sunk, late, lift-step, run, split}
use Rattle.octets.proofs.TestLaws.{clash}
use Rattle.json_text.specs.inner.Begun.{begins_value, only, begins_at, begins, begun}
use Rattle.json_text.specs.inner.Machine.{Stack, alone, text, arr, obj, levels, Mode, value, first, name, name₁, colon, after, str, esc, hex, word}
use Rattle.json_text.specs.inner.Machine.{minus, nought, int, dot, frac, exp, sign, power, Next, live, step, over}
use Rattle.json_text.specs.inner.Machine.{ended, stops, takes, walk, from, one, onward, place}
use Rattle.json_text.specs.inner.Tour.{cap, tour, resume, lone, spot, room_in}
use Rattle.json_text.specs.inner.Machine.{Walked}
use lib.ListN.{length, drop, length-append, length-drop}
use mathlib.Core.Bool.{Bool, true, false}
use mathlib.Core.List.{List, [], ◌∷◌, ◌++◌, append_assoc}
use mathlib.Core.Path.{◌≡◌, refl, sym, ap, ◌∙◌}
use native.Mathlib.Omega.{arith}
use Rattle.std.specs.Prelude.{Ok, Err}

-- a value that may be over begins none
over-quiet : (m : Mode) (b : ℕ) → over m ≡ true → begins_value m b ≡ false
over-quiet value b o = clash o refl
over-quiet first b o = clash o refl
over-quiet name b o = refl
over-quiet name₁ b o = refl
over-quiet colon b o = refl
over-quiet after b o = refl
over-quiet (str w) b o = refl
over-quiet (esc w) b o = refl
over-quiet (hex w n) b o = refl
over-quiet (word x xs) b o = refl
over-quiet minus b o = refl
over-quiet nought b o = refl
over-quiet int b o = refl
over-quiet dot b o = refl
over-quiet frac b o = refl
over-quiet exp b o = refl
over-quiet sign b o = refl
over-quiet power b o = refl

-- Values: t is the whole text, in which the value stands with k around.
module _ (t : List ℕ) (d : ℕ) (k : Stack) (l : levels k ≡ d) where
  over_by : (m : Mode) (i : ℕ) (x : Bool) → over m ≡ x → drop i t ≡ [] → stops m k i ≡ onward t after k (ended x i)
  unfolding from walk
  over_by m i true o e = rw e (stops-over m after k i o)
  over_by m i false o e = stops-short m k i o

  stops-around : (m : Mode) (s : Stack) (i : ℕ) → In d m s → drop i t ≡ [] → stops m (onto k s) i ≡ onward t after k (stops m s i)
  unfolding stops onto
  stops-around m (alone x) i h e = over_by m i (over m) refl e
  stops-around m (text x) i h e = absurd h
  stops-around m (arr s) i h e = refl
  stops-around m (obj s) i h e = refl

  -- as `walk-around` says of the bytes after it
  abbrev Around : List ℕ → ℕ → Type 0
  Around bs i = (m : Mode) (s : Stack) → In d m s → walk bs m (onto k s) i ≡ onward t after k (walk bs m s i)

  takes-around : (b : ℕ) (bs : List ℕ) (m : Mode) (s : Stack) (i : ℕ) {n n' : Next} → drop i t ≡ b ∷ bs
      → Lifts d k m s b n n' → Around bs (i + 1) → takes n' (walk bs) i ≡ onward t after k (takes n (walk bs) i)
  unfolding from walk step
  takes-around b bs m s i e (on {m = m₁} {s = s₁} f h) ih = rw f (ih m₁ s₁ h)
  takes-around b bs m s i e no ih = refl
  takes-around b bs m s i e (sunk f) ih = rw (f l)
  takes-around b bs m s i e (late o z f) ih = rw (f, e)

  walk-around : (bs : List ℕ) (m : Mode) (s : Stack) (i : ℕ) → In d m s → drop i t ≡ bs → walk bs m (onto k s) i ≡ onward t after k (walk bs m s i)
  unfolding walk
  walk-around [] m s i h e = stops-around m s i h e
  walk-around (b ∷ bs) m s i h e =
      takes-around b bs m s i e (lift-step d k (omega arith) m s h b) (λ m₁ s₁ h₁. walk-around bs m₁ s₁ (i + 1) h₁ (at_next b bs t i e))

  pub value-around : (a : ℕ) → from t a value k ≡ onward t after k (one d t a)
  unfolding from onto
  value-around a = walk-around (drop a t) value (alone d) a (refl, tt) refl

  -- The values that it begins: those by itself, and those behind its end.
  abbrev behind : Walked → List ℕ
  behind (Ok e) = begun t e after k
  behind (Err f) = []

  none-behind : (i : ℕ) (r : Walked) → place r ≡ i → drop i t ≡ [] → behind r ≡ []
  unfolding begun begins
  none-behind i (Ok e) p h = rw (p, h)
  none-behind i (Err f) p h = refl

  abbrev BeginsAround : List ℕ → ℕ → Type 0
  BeginsAround bs i = (m : Mode) (s : Stack) → In d m s → begins bs m (onto k s) i ≡ begins bs m s i ++ behind (walk bs m s i)

  takes-begins : (b : ℕ) (bs : List ℕ) (m : Mode) (s : Stack) (i : ℕ) {n n' : Next} → drop i t ≡ b ∷ bs
      → Lifts d k m s b n n' → BeginsAround bs (i + 1)
      → begins_at (begins_value m b) n' (begins bs) i ≡ begins_at (begins_value m b) n (begins bs) i ++ behind (takes n (walk bs) i)
  unfolding begun begins step
  takes-begins b bs m s i e (on {m = m₁} {s = s₁} f h) ih =
      rw f (ap (λ (l : List ℕ). only (begins_value m b) i ++ l) (ih m₁ s₁ h)
      ∙ sym (append_assoc (only (begins_value m b) i) (begins bs m₁ s₁ (i + 1)) (behind (walk bs m₁ s₁ (i + 1)))))
  takes-begins b bs m s i e no ih = refl
  takes-begins b bs m s i e (sunk f) ih = rw (f l)
  takes-begins b bs m s i e (late o z f) ih = rw (f, over-quiet m b o, e)

  begins-around : (bs : List ℕ) (i : ℕ) → drop i t ≡ bs → BeginsAround bs i
  unfolding begins walk
  begins-around [] i e m s h = sym (none-behind i (stops m s i) (stops-place m s i) e)
  begins-around (b ∷ bs) i e m s h =
      takes-begins b bs m s i e (lift-step d k (omega arith) m s h b) (λ m₁ s₁ h₁. begins-around bs (i + 1) (at_next b bs t i e) m₁ s₁ h₁)

  begun-around : (a : ℕ) → begun t a value k ≡ begun t a value (alone d) ++ behind (one d t a)
  unfolding begun from onto
  begun-around a = begins-around (drop a t) a refl value (alone d) (refl, tt)

  -- with room for n
  cap-on : (n : ℕ) (r : Walked) (l : List ℕ) → cap n (onward t after k r) (l ++ behind r) ≡ resume t after k (cap n r l)
  unfolding tour
  cap-on n (Ok e) [] = refl
  cap-on n (Err f) [] = refl
  cap-on zero r (p ∷ l) = refl
  cap-on (suc n) r (p ∷ l) = cap-on n r l

  pub tour-around : (a n : ℕ) → tour t a value k n ≡ resume t after k (lone d n t a)
  unfolding tour
  tour-around a n =
      ap (λ (r : Walked). cap n r (begun t a value k)) (value-around a) ∙ ap (cap n (onward t after k (one d t a))) (begun-around a)
      ∙ cap-on n (one d t a) (begun t a value (alone d))

-- a value has a byte at least, and ends in the text
some_bytes : (d : ℕ) (v : List ℕ) (m : Mode) → over m ≡ true → run v value (alone d) ≡ live m (alone d) → 0 < length v
unfolding run
some_bytes d [] m o e = let p : value ≡ m = cc in let z : false ≡ true = ap over p ∙ o in let y : ◌≡◌ {A = ℕ} 0 1 = cc in absurd (omega arith)
some_bytes d (b ∷ v) m o e = omega arith

pub one-ends : (d : ℕ) (s : List ℕ) (a e : ℕ) → a ≤ length s → one d s a ≡ Ok e → (a < e) × (e ≤ length s)
unfolding from
one-ends d s a e l h =
    let r = split d (drop a s) a e h in
    let n = some_bytes d r.v r.m' r.fin r.runs in
    let z : length (drop a s) ≡ length r.v + length r.q = ap length r.is ∙ length-append r.v r.q in
    (omega (arith, r.far), omega (arith, r.far, length-drop a s))

-- what ends with room for values ends without a ceiling, and takes room for as many as begin
pub cap-end : (n : ℕ) (r : Walked) (l : List ℕ) (e n' : ℕ) → cap n r l ≡ Ok (e, n') → (r ≡ Ok e) × (n ≡ n' + length l)
cap-end n (Ok w) [] e n' h = let y : n ≡ n' = ap room_in h in (ap Ok (ap spot h), omega arith)
cap-end n (Err f) [] e n' h = let z : ◌≡◌ {A = ℕ} 0 1 = cc in absurd (omega arith)
cap-end zero r (p ∷ l) e n' h = let z : ◌≡◌ {A = ℕ} 0 1 = cc in absurd (omega arith)
cap-end (suc n) r (p ∷ l) e n' h = let z = cap-end n r l e n' h in (z.0, omega (arith, z.1))

pub lone-ends : (d n : ℕ) (s : List ℕ) (a e n' : ℕ) → lone d n s a ≡ Ok (e, n') → one d s a ≡ Ok e
unfolding tour
lone-ends d n s a e n' h = (cap-end n (one d s a) (begun s a value (alone d)) e n' h).0
