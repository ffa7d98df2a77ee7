-- What `positions` shows, part by part: numbers with a sign, pairs, and the pairs of the positions one after the other. Assumes nothing.
use Prim.Native.Nat.{ℕ, zero, suc, ◌+◌, ◌*◌, ◌/◌, ◌≤◌, ◌<◌}
use Rattle.message.specs.Reading.{ample, reading}
use Rattle.message.specs.Refusal.{number, place}
use Rattle.message.specs.declared.facts.Message.{Message}
use Rattle.message.specs.declared.refusals.Refusal.{Refusal}
use Rattle.octets.proofs.Chain.{At, length-splice, more, start}
use Rattle.octets.specs.Ascii.{ascii}
use Rattle.octets.specs.Decimal.{shown, shown_in}
use Rattle.octets.specs.Splice.{splice, written}
use Rattle.positions.specs.Positions.{home_of, positions_of}
use Rattle.positions.specs.declared.objects.Home.{Home}
use Rattle.positions.specs.declared.objects.Position.{Position}
use Rattle.showing.proofs.ShownLaws.{put_two, says}
use Rattle.showing.specs.Located.{home_text, located_text, pair_text, pairs_text, positions_text, signed_shown}
use Rattle.showing.specs.Shown.{unknown}
use Rattle.showing.specs.Words.{hex_bytes, is_bytes}
use Rattle.std.specs.Prelude.{Err, None, Ok, Option, Some, slice_get}
use Rattle.std.proofs.lemmas.Option.{none-some}
use borrow.Author.Tests.{le-ltb, lt-ltb, ltb-true}
use lib.IntN.{ℤ, nat_abs, negsuc, pos}
use lib.ListN.{length, length-append, take, take-append-drop}
use lib.Seq.{take_all}
use lib.Signed.{lt_z}
use mathlib.Core.Bool.{true, false}
use mathlib.Core.List.{List, [], ◌∷◌, ◌++◌, append-nil, append_assoc}
use mathlib.Core.Path.{◌≡◌, ap, refl, subst, sym, ◌∙◌}
use native.Mathlib.Decide.{dec_lt}
use native.Mathlib.Numerals.{add-one}
use native.Mathlib.Omega.{arith}

-- Numbers.

signed-below : (z : ℤ) → lt_z z (pos 0) ≡ true → ascii "-" ++ shown (nat_abs z) ≡ signed_shown z
unfolding signed_shown
signed-below (pos n) h = absurd (let z = ltb-true n 0 h in omega arith)
signed-below (negsuc n) h = rw add-one refl

signed-above : (z : ℤ) → lt_z z (pos 0) ≡ false → shown (nat_abs z) ≡ signed_shown z
unfolding signed_shown
signed-above (pos n) h = refl
signed-above (negsuc n) h = absurd (let z : ◌≡◌ {A = ℕ} 0 1 = cc in omega arith)

tenfold : ℕ → ℕ
tenfold zero = 1
tenfold (suc k) = 10 * tenfold k

few-digits : (n k v : ℕ) → v < tenfold (suc k) → length (shown_in n v) ≤ suc k
unfolding shown_in tenfold
few-digits zero k v h = omega arith
few-digits (suc n) zero v h = rw (lt-ltb v 10 (omega arith)) (omega arith)
few-digits (suc n) (suc k) v h = by (dec_lt v 10) (λ a. few-digits n k (v / 10) (omega arith))
  where
    by : Dec (v < 10) → (10 ≤ v → length (shown_in n (v / 10)) ≤ suc k) → length (shown_in (suc n) v) ≤ suc (suc k)
    by (yes a) f = rw (lt-ltb v 10 a) (omega arith)
    by (no a) f = let g = f (omega arith) in rw (le-ltb v 10 (omega arith), length-append) (omega arith)

-- a number of 32 bits and a sign has at most ten digits
pub ten-digits : (n : ℕ) → n ≤ 2147483648 → length (shown n) ≤ 10
unfolding shown tenfold
ten-digits n h = few-digits 20 9 n (omega arith)

-- w is put into o at a place, r is the place behind it, and it has at most so many bytes
abbrev Put : List ℕ → ℕ → List ℕ → ℕ → ℕ → List ℕ → Type 0
Put o at w most r o' = ((r ≡ at + length w) × (o' ≡ splice o at w)) × (r ≤ at + most)

module _ (o : List ℕ) (at : ℕ) (z : ℤ) {n : ℕ} (is : n ≡ nat_abs z) (small : n ≤ 2147483648) where
  pub put-below : {m r : ℕ} {o' o'' : List ℕ} → at + 11 ≤ length o → lt_z z (pos 0) ≡ true → (m ≡ at + 1) × (o' ≡ splice o at (ascii "-"))
      → (r ≡ m + length (shown n)) × (o'' ≡ splice o' m (shown n))
      → Put o at (signed_shown z) 11 r o''
  put-below h b x y =
      let w = put_two o at (ascii "-") (shown n) (omega arith) x y in
      let e : ascii "-" ++ shown n ≡ signed_shown z = ap (λ (k : ℕ). ascii "-" ++ shown k) is ∙ signed-below z b in
      rw (← e) (w, omega (arith, x.0, y.0, ten-digits n small))

  pub put-above : {r : ℕ} {o' : List ℕ} → lt_z z (pos 0) ≡ false → (r ≡ at + length (shown n)) × (o' ≡ splice o at (shown n)) → Put o at (signed_shown z) 11 r o'
  put-above b x = rw (← signed-above z b, ← is) (x, omega (arith, x.0, ten-digits n small))

put-as : (o : List ℕ) (at most : ℕ) {o' t t' : List ℕ} {r : ℕ} → t ≡ t' → Put o at t most r o' → Put o at t' most r o'
put-as o at most {o'} {t} {t'} {r} e w = subst (λ (x : List ℕ). Put o at x most r o') e w

-- Pairs.

pub put-pair : (o : List ℕ) (at : ℕ) (x y : ℤ) {a b c r : ℕ} {o₁ o₂ o₃ o₄ : List ℕ} → at + 24 ≤ length o → (a ≡ at + 1) × (o₁ ≡ splice o at (ascii " "))
    → Put o₁ a (signed_shown x) 11 b o₂ → (c ≡ b + 1) × (o₃ ≡ splice o₂ b (ascii " ")) → Put o₃ c (signed_shown y) 11 r o₄ → Put o at (pair_text x y) 24 r o₄
unfolding pair_text
put-pair o at x y h e f g i =
    let w₁ = put_two o at (ascii " ") (signed_shown x) (omega arith) e f.0 in
    let w₂ = put_two o at (ascii " " ++ signed_shown x) (ascii " ") (omega (arith, w₁.0, f.1, e.0)) w₁ g in
    let w₃ = put_two o at ((ascii " " ++ signed_shown x) ++ ascii " ") (signed_shown y) (omega (arith, w₂.0, g.0, f.1, e.0)) w₂ i.0 in
    let q : ((ascii " " ++ signed_shown x) ++ ascii " ") ++ signed_shown y ≡ ascii " " ++ (signed_shown x ++ (ascii " " ++ signed_shown y)) = simp append_assoc in
    put-as o at 24 q (w₃, omega (arith, i.1, g.0, f.1, e.0))

splice-none : (o : List ℕ) (at : ℕ) → o ≡ splice o at []
unfolding splice
splice-none o at = let z : at + 0 ≡ at = omega arith in rw z (sym (take-append-drop at o))

pub put-none : (o : List ℕ) (at : ℕ) {x : Option Home} → x ≡ None → Put o at (home_text x) 29 at o
unfolding home_text
put-none o at e = rw e ((omega arith, splice-none o at), omega arith)

pub put-some : (o : List ℕ) (at : ℕ) (h : Home) {x : Option Home} {a r : ℕ} {o₁ o₂ : List ℕ} → x ≡ Some h → at + 29 ≤ length o → (a ≡ at + 5) × (o₁ ≡ splice o at (ascii " home"))
    → Put o₁ a (pair_text h.latitude h.longitude) 24 r o₂ → Put o at (home_text x) 29 r o₂
unfolding home_text
put-some o at h is g e f =
    let w = put_two o at (ascii " home") (pair_text h.latitude h.longitude) (omega arith) e f.0 in
    rw is (w, omega (arith, f.1, e.0))

-- The pairs one after the other.

alike : (p x : Position) → Some p ≡ Some x → p ≡ x
alike p x e = cc

one-behind : (ps : List Position) (k : ℕ) (p : Position) → Some p ≡ slice_get ps k
    → pairs_text (take k ps) ++ pair_text p.latitude p.longitude ≡ pairs_text (take (suc k) ps)
unfolding pairs_text
one-behind [] k p e = absurd (none-some p (sym e))
one-behind (x ∷ ps) zero p e = ap (λ (y : Position). pair_text y.latitude y.longitude) (alike p x e) ∙ sym (append-nil (pair_text x.latitude x.longitude))
one-behind (x ∷ ps) (suc k) p e =
    append_assoc (pair_text x.latitude x.longitude) (pairs_text (take k ps)) (pair_text p.latitude p.longitude)
    ∙ ap (λ (w : List ℕ). pair_text x.latitude x.longitude ++ w) (one-behind ps k p e)

pub one-more-pair : (ps : List Position) (k : ℕ) {p : Position} → Some p ≡ slice_get ps k
    → pairs_text (take k ps) ++ pair_text p.latitude p.longitude ≡ pairs_text (take (k + 1) ps)
one-more-pair ps k {p} e = rw add-one (one-behind ps k p e)

-- none is missing
pub never-none : {A : Type 0} (ps : List Position) (k : ℕ) → k < length ps → None ≡ slice_get ps k → A
never-none [] k h e = absurd (omega arith)
never-none (x ∷ ps) zero h e = absurd (none-some x e)
never-none (x ∷ ps) (suc k) h e = never-none ps k (omega arith) e

pub no-pairs : (o : List ℕ) (ps : List Position) {n : ℕ} {out : List ℕ} → (n ≡ 0 + 2) × (out ≡ splice o 0 (ascii "ok")) → At o (ascii "ok" ++ pairs_text (take 0 ps)) out n
unfolding pairs_text
no-pairs o ps e = more (ascii "ok") (start o) e

module _ {o out out' : List ℕ} {n r : ℕ} (ps : List Position) (k : ℕ) (f : At o (ascii "ok" ++ pairs_text (take k ps)) out n) where
  pub goes-on : {p : Position} → Some p ≡ slice_get ps k → Put out n (pair_text p.latitude p.longitude) 24 r out' → At o (ascii "ok" ++ pairs_text (take (k + 1) ps)) out' r
  goes-on {p} e x =
      let w = more (pair_text p.latitude p.longitude) f x.0 in
      let q : (ascii "ok" ++ pairs_text (take k ps)) ++ pair_text p.latitude p.longitude ≡ ascii "ok" ++ pairs_text (take (k + 1) ps) =
      append_assoc (ascii "ok") (pairs_text (take k ps)) (pair_text p.latitude p.longitude) ∙ ap (λ (t : List ℕ). ascii "ok" ++ t) (one-more-pair ps k e) in
      subst (λ (t : List ℕ). At o t out' r) q w

  pub still-low : (w : List ℕ) → n ≤ 2 + 24 * k → Put out n w 24 r out' → r ≤ 2 + 24 * (k + 1)
  still-low w h x = omega (arith, x.1)

-- The whole.

module _ (o s : List ℕ) (m : Message) where
  pub located-shown : (k : ℕ) {out o₁ o₂ : List ℕ} {n a r : ℕ} → length (positions_of s m) ≤ k → At o (ascii "ok" ++ pairs_text (take k (positions_of s m))) out n
      → Put out n (home_text (home_of s m)) 29 a o₁ → (r ≡ a + 1) × (o₂ ≡ splice o₁ a (ascii "\n"))
      → (r ≡ length (located_text s (Ok m))) × (o₂ ≡ written o (located_text s (Ok m)))
  unfolding located_text
  located-shown k {out = out} {n = n} h f x y =
      let ps = positions_of s m in
      let all : take k ps ≡ ps = take_all k ps h in
      let g : At o (ascii "ok" ++ pairs_text ps) out n = subst (λ (l : List Position). At o (ascii "ok" ++ pairs_text l) out n) all f in
      let w = more (ascii "\n") (more (home_text (home_of s m)) g x.0) y in
      let q : ((ascii "ok" ++ pairs_text ps) ++ home_text (home_of s m)) ++ ascii "\n" ≡ ascii "ok" ++ (pairs_text ps ++ (home_text (home_of s m) ++ ascii "\n")) = simp
      append_assoc in
      says o q (w.place, w.is)

-- there is room for the last byte
pub room-behind : (out w : List ℕ) (n : ℕ) {out' : List ℕ} {r : ℕ} → n + 30 ≤ length out → Put out n w 29 r out' → r + 1 ≤ length out'
room-behind out w n {out'} h x =
    let l : length out' ≡ length out = ap length x.0.1 ∙ length-splice out n w (omega (arith, x.0.0, x.1)) in
    omega (arith, x.1)

pub refused-shown : (o s : List ℕ) (e : Refusal) {n p m k r : ℕ} {a b o' : List ℕ} → n ≡ number e → p ≡ place e → (m ≡ 0 + 3) × (a ≡ splice o 0 (ascii "no "))
    → (k ≡ m + length (shown n ++ ascii " ")) × (b ≡ splice a m (shown n ++ ascii " ")) → (r ≡ k + length (shown p ++ ascii "\n")) × (o' ≡ splice b k (shown p ++ ascii "\n"))
    → (r ≡ length (located_text s (Err e))) × (o' ≡ written o (located_text s (Err e)))
unfolding located_text
refused-shown o s r {n} {p} i j x y z =
    let w = more (shown p ++ ascii "\n") (more (shown n ++ ascii " ") (more (ascii "no ") (start o) x) y) z in
    let e : (([] ++ ascii "no ") ++ (shown n ++ ascii " ")) ++ (shown p ++ ascii "\n") ≡ ascii "no " ++ (shown n ++ (ascii " " ++ (shown p ++ ascii "\n"))) = simp append_assoc in
    rw (← i, ← j) (says o e (w.place, w.is))

pub positions-unknown : (w : List ℕ) → is_bytes w ≡ false → unknown ≡ positions_text w
unfolding positions_text
positions-unknown w e = simp e

pub positions-good : (w : List ℕ) → is_bytes w ≡ true → located_text (hex_bytes w) (reading ample (hex_bytes w)) ≡ positions_text w
unfolding positions_text
positions-good w e = simp e
