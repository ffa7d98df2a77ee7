-- Parts of parts: a part of a value stands in the message where the value does; and the last but one of a list. Assumes nothing.
use Rattle.values.proofs.SpellingLaws.{take_own}
use Prim.Native.Nat.{ℕ, zero, suc, ◌+◌, ◌-◌, ◌≤◌}
use Rattle.frame.proofs.ArrayEdits.{but_last}
use Rattle.json_text.specs.Places.{part, bytes, behind, prev_of}
use borrow.Author.Tests.{leb-true, leb-false}
use lib.Dec.{leb}
use lib.ListN.{length, take, drop, length-take, length-drop}
use lib.Seq.{drop-drop, take_all, take-take, length-take-le}
use mathlib.Core.Bool.{Bool, true, false}
use mathlib.Core.List.{List, [], ◌∷◌, map}
use mathlib.Core.Path.{◌≡◌, refl, sym, ap, ◌∙◌}
use native.Mathlib.Omega.{arith}

-- u is the front of l
record Front (u l : List ℕ) : Type 0 where
  k : ℕ
  is : u ≡ take k l

front-own : (u l : List ℕ) → Front u l → take (length u) l ≡ u
front-own u l f = ap (λ (z : List ℕ). take (length z) l) f.is ∙ take_own f.k l ∙ sym f.is

front-take : (j : ℕ) (u l : List ℕ) → Front u l → Front (take j u) l
front-take j u l f = by (leb j f.k) refl
  where
    short : (k : ℕ) (l : List ℕ) → length (take k l) ≤ k
    short k l = omega (arith, length-take k l)

    by : (b : Bool) → leb j f.k ≡ b → Front (take j u) l
    by true h = record { k = j; is = ap (take j) f.is ∙ take-take j f.k l (leb-true j f.k h) }
    by false h = record { k = f.k; is = take_all j u (omega (arith, ap length f.is, short f.k l, leb-false j f.k h)) ∙ f.is }

drop-take : (b n : ℕ) (l : List ℕ) → drop b (take n l) ≡ take (n - b) (drop b l)
drop-take zero n l = let z : n ≡ n - 0 = omega arith in ap (λ (k : ℕ). take k l) z
drop-take (suc b) zero l = let z : zero - suc b ≡ 0 = omega arith in rw z
drop-take (suc b) (suc n) [] = none (suc n - suc b)
  where
    none : (k : ℕ) → ◌≡◌ {A = List ℕ} [] (take k [])
    none zero = refl
    none (suc k) = refl
drop-take (suc b) (suc n) (x ∷ l) = let z : n - b ≡ suc n - suc b = omega arith in drop-take b n l ∙ ap (λ (k : ℕ). take k (drop b l)) z

front-drop : (b : ℕ) (u l : List ℕ) → Front u l → Front (drop b u) (drop b l)
front-drop b u l f = record { k = f.k - b; is = ap (drop b) f.is ∙ drop-take b f.k l }

front_at : (b a : ℕ) (u s : List ℕ) → Front u (drop a s) → Front (drop b u) (drop (a + b) s)
front_at b a u s f = let g = front-drop b u (drop a s) f in record { k = g.k; is = g.is ∙ ap (take g.k) (drop-drop b a s) }

part-front : (a e b : ℕ) (u s : List ℕ) → Front u (drop a s) → Front (part u b e) (drop (a + b) s)
unfolding part
part-front a e b u s f = front-take (e - b) (drop b u) (drop (a + b) s) (front_at b a u s f)

bytes-front : (s : List ℕ) (q : ℕ) → Front (bytes s q) (drop q s)
unfolding part
bytes-front s q = record { k = behind s q - q; is = refl }

-- a part of a value is a part of the message
pub part-within : (s : List ℕ) (v a e : ℕ) → e ≤ length (bytes s v) → part s (v + a) (v + e) ≡ part (bytes s v) a e
unfolding part
part-within s v a e h =
    let x = bytes s v in
    let f = part-front v e a x s (bytes-front s v) in
    let l : length (take (e - a) (drop a x)) ≡ e - a = length-take-le (e - a) (drop a x) (omega (arith, length-drop a x)) in
    let z : v + e - (v + a) ≡ length (take (e - a) (drop a x)) = omega arith in
    ap (λ (n : ℕ). take n (drop (v + a) s)) z ∙ front-own (take (e - a) (drop a x)) (drop (v + a) s) f

-- the last of these, and the last of all but the last
unfoldable pub last_in : List (List ℕ) → List ℕ
last_in [] = []
last_in (x ∷ []) = x
last_in (x ∷ (y ∷ ys)) = last_in (y ∷ ys)

pub prior-last : (f : ℕ → List ℕ) (es : List ℕ) → 2 ≤ length es → last_in (but_last (map f es)) ≡ f (prev_of es)
unfolding last_in prev_of
prior-last f [] h = absurd (omega arith)
prior-last f (x ∷ []) h = absurd (omega arith)
prior-last f (x ∷ (y ∷ [])) h = refl
prior-last f (x ∷ (y ∷ (z ∷ []))) h = refl
prior-last f (x ∷ (y ∷ (z ∷ (w ∷ ws)))) h = prior-last f (y ∷ (z ∷ (w ∷ ws))) (omega arith)
