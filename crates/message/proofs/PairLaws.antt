-- What is gathered of an object depends on its members as they are read alone, names and values (`spell`), and not on where they stand: whether a
-- known name stands twice (`once_by`, `by-once`), which are there and with what value (`noted-by`). Assumes nothing.
use Rattle.message.proofs.CheckLaws.{pick_none}
use Rattle.octets.proofs.TestLaws.{or-none}
use Prim.Native.Nat.{ℕ, zero, suc, ◌+◌, ◌<◌}
use Rattle.json_text.proofs.PlaceLaws.{past-low, behind-low, next_low}
use Rattle.json_text.specs.Places.{bytes, raw, past, next, behind, value_of, follows, more, member_at, members_from, members, spell}
use Rattle.fields.specs.Known.{empty, has, note, noted, repeated}
use Rattle.values.specs.Value.{word_spelled, number_at}
use borrow.Author.Tests.{eq-eqb, ne_eqb, lt-ltb, eqb-true, eqb-false, ltb-true}
use lib.Dec.{eqb, ltb}
use lib.ListN.{length, get_or, set, replicate, length-set}
use lib.Seq.{get_or-set_same, get_or-set_other}
use mathlib.Core.Bool.{Bool, true, false, ◌&&◌, ◌||◌, cond, or-true}
use mathlib.Core.List.{List, [], ◌∷◌, map}
use mathlib.Core.Path.{◌≡◌, refl, sym, ap, ◌∙◌}
use native.Mathlib.Omega.{arith}

-- a member as it is read
abbrev pub Read : Type 0
Read = List ℕ × List ℕ

-- one of these has number k
unfoldable pub found : List (List ℕ) → ℕ → List Read → Bool
found ns k [] = false
found ns k (p ∷ ps) = eqb (word_spelled ns p.0) k || found ns k ps

-- the value of the first that has it
unfoldable pub value_in : List (List ℕ) → ℕ → List Read → List ℕ
value_in ns k [] = []
value_in ns k (p ∷ ps) = cond (eqb (word_spelled ns p.0) k) p.1 (value_in ns k ps)

-- two of them have one number
unfoldable pub doubled : List (List ℕ) → List Read → Bool
doubled ns [] = false
doubled ns (p ∷ ps) = (ltb 0 (word_spelled ns p.0) && found ns (word_spelled ns p.0) ps) || doubled ns ps

none_or : (a b : Bool) → a ≡ false → b ≡ false → (a || b) ≡ false
none_or a b e f = rw (e, f)

-- every member stands behind the text's first byte
abbrev pub Late : List ℕ → Type 0
Late [] = Unit
Late (q ∷ qs) = (0 < q) × Late qs

late-more : (s : List ℕ) (f : ℕ → List ℕ) (v : ℕ) (b : Bool) → ((p : ℕ) → 0 < p → Late (f p)) → Late (cond b (f (follows s v + 1)) [])
late-more s f v true h = h (follows s v + 1) (omega arith)
late-more s f v false h = tt

late-at : (s : List ℕ) (f : ℕ → List ℕ) (q : ℕ) (b : Bool) → 0 < q → ((p : ℕ) → 0 < p → Late (f p)) → Late (cond b (q ∷ more s f (value_of s q)) [])
unfolding more
late-at s f q true l h = (l, late-more s f (value_of s q) (eqb (get_or s (follows s (value_of s q)) 0) 44) h)
late-at s f q false l h = tt

late-from : (n : ℕ) (s : List ℕ) (a : ℕ) → 0 < a → Late (members_from n s a)
unfolding members_from member_at
late-from zero s a h = tt
late-from (suc n) s a h = late-at s (members_from n s) (past s a) (eqb (get_or s (past s a) 0) 34) (omega (arith, past-low s a)) (λ p g. late-from n s p g)

pub late-members : (s : List ℕ) (o : ℕ) → Late (members s o)
unfolding members
late-members s o = late-from (length s) s (o + 1) (omega arith)

pub value-late : (s : List ℕ) (q : ℕ) → 0 < q → 0 < value_of s q
unfolding value_of
value-late s q h =
    omega (arith, behind-low s q, past-low s (behind s q), next_low s (past s (behind s q)), past-low s (next s (past s (behind s q))))

-- member n of these, counted from 0, has number k
abbrev pub Nth : List (List ℕ) → ℕ → ℕ → List Read → Type 0
Nth ns k n [] = ⊥
Nth ns k zero (p ∷ ps) = word_spelled ns p.0 ≡ k
Nth ns k (suc n) (p ∷ ps) = Nth ns k n ps

pub nth-found : (ns : List (List ℕ)) (k n : ℕ) (ps : List Read) → Nth ns k n ps → found ns k ps ≡ true
unfolding found
nth-found ns k n [] h = absurd h
nth-found ns k zero (p ∷ ps) h = rw (eq-eqb _ k h)
nth-found ns k (suc n) (p ∷ ps) h = rw (nth-found ns k n ps h) (or-true (eqb (word_spelled ns p.0) k))

not_twice : (ns : List (List ℕ)) (k n : ℕ) (p : Read) (ps : List Read) → 0 < k → word_spelled ns p.0 ≡ k → Nth ns k n ps → doubled ns (p ∷ ps) ≡ false → ⊥
unfolding doubled
not_twice ns k n p ps h e f d =
    let g : found ns (word_spelled ns p.0) ps ≡ true = rw e (nth-found ns k n ps f) in
    let w : (ltb 0 (word_spelled ns p.0) && found ns (word_spelled ns p.0) ps) ≡ true = rw (g, lt-ltb 0 (word_spelled ns p.0) (omega arith)) in
    let r = or-none (ltb 0 (word_spelled ns p.0) && found ns (word_spelled ns p.0) ps) (doubled ns ps) d in
    let y : ◌≡◌ {A = Bool} true false = sym w ∙ r.0 in
    let z : ◌≡◌ {A = ℕ} 0 1 = cc in
    omega arith

rest-once : (ns : List (List ℕ)) (p : Read) (ps : List Read) → doubled ns (p ∷ ps) ≡ false → doubled ns ps ≡ false
unfolding doubled
rest-once ns p ps d = (or-none (ltb 0 (word_spelled ns p.0) && found ns (word_spelled ns p.0) ps) (doubled ns ps) d).1

pub nth-one : (ns : List (List ℕ)) (k n n' : ℕ) (ps : List Read) → 0 < k → doubled ns ps ≡ false → Nth ns k n ps → Nth ns k n' ps → n ≡ n'
nth-one ns k n n' [] h d a b = absurd a
nth-one ns k zero zero (p ∷ ps) h d a b = refl
nth-one ns k zero (suc n') (p ∷ ps) h d a b = absurd (not_twice ns k n' p ps h a b d)
nth-one ns k (suc n) zero (p ∷ ps) h d a b = absurd (not_twice ns k n p ps h b a d)
nth-one ns k (suc n) (suc n') (p ∷ ps) h d a b = ap suc (nth-one ns k n n' ps h (rest-once ns p ps d) a b)

-- where a member with number k stands
pub record Where (ns : List (List ℕ)) (s : List ℕ) (k : ℕ) (qs : List ℕ) (at : ℕ) : Type 0 where
  pub n : ℕ
  pub few : n < length qs
  pub nth : Nth ns k n (map (spell s) qs)
  pub is : at ≡ value_of s (get_or qs n 0)

module _ (ns : List (List ℕ)) (few : (x : List ℕ) → word_spelled ns x < 27) (s : List ℕ) where
  num : ℕ → ℕ
  num q = word_spelled ns (raw s q)

  other-by : (t : List ℕ) (q k : ℕ) (b : Bool) → (k ≡ num q → ⊥) → get_or (cond b t (set t (num q) (value_of s q))) k 0 ≡ get_or t k 0
  unfolding num
  other-by t q k true ne = refl
  other-by t q k false ne = get_or-set_other t (word_spelled ns (raw s q)) k (value_of s q) 0 ne

  note-other : (t : List ℕ) (q k : ℕ) → (k ≡ num q → ⊥) → get_or (note ns s t q) k 0 ≡ get_or t k 0
  unfolding note number_at num
  note-other t q k ne = other-by t q k (eqb (word_spelled ns (raw s q)) 0) ne

  note-same : (t : List ℕ) (q : ℕ) → length t ≡ 27 → 0 < num q → get_or (note ns s t q) (num q) 0 ≡ value_of s q
  unfolding note number_at num
  note-same t q l h = rw (ne_eqb (word_spelled ns (raw s q)) 0 (λ e. omega arith)) (get_or-set_same t (word_spelled ns (raw s q)) (value_of s q) 0 (omega (arith, few (raw s q))))

  long-by : (t : List ℕ) (q : ℕ) (b : Bool) → length t ≡ 27 → length (cond b t (set t (num q) (value_of s q))) ≡ 27
  long-by t q true l = l
  long-by t q false l = length-set t (num q) (value_of s q) ∙ l

  note-long : (t : List ℕ) (q : ℕ) → length t ≡ 27 → length (note ns s t q) ≡ 27
  unfolding note number_at num
  note-long t q l = long-by t q (eqb (word_spelled ns (raw s q)) 0) l

  -- t holds nothing that these members name
  abbrev Apart : List ℕ → List Read → Type 0
  Apart t ps = (k : ℕ) → 0 < k → 0 < get_or t k 0 → found ns k ps ≡ false

  found-not : (p : Read) (ps : List Read) (k : ℕ) → found ns k (p ∷ ps) ≡ false → (word_spelled ns p.0 ≡ k → ⊥) × (found ns k ps ≡ false)
  unfolding found
  found-not p ps k e = let r = or-none (eqb (word_spelled ns p.0) k) (found ns k ps) e in (eqb-false (word_spelled ns p.0) k r.0, r.1)

  not_found : (p : Read) (ps : List Read) (k : ℕ) → (word_spelled ns p.0 ≡ k → ⊥) → found ns k ps ≡ false → found ns k (p ∷ ps) ≡ false
  unfolding found
  not_found p ps k ne e = none_or _ _ (ne_eqb (word_spelled ns p.0) k ne) e

  -- has, by its two tests
  has-not : (t : List ℕ) (q : ℕ) → (0 < num q → 0 < get_or t (num q) 0 → ⊥) → has ns s t q ≡ false
  unfolding has number_at num
  has-not t q h = by (ltb 0 (word_spelled ns (raw s q))) (ltb 0 (get_or t (word_spelled ns (raw s q)) 0)) refl refl
    where
      by : (a b : Bool) → ltb 0 (word_spelled ns (raw s q)) ≡ a → ltb 0 (get_or t (word_spelled ns (raw s q)) 0) ≡ b → (a && b) ≡ false
      by true true e f = absurd (h (ltb-true 0 _ e) (ltb-true 0 _ f))
      by true false e f = refl
      by false b e f = refl

  has_so : (t : List ℕ) (q : ℕ) → 0 < num q → 0 < get_or t (num q) 0 → has ns s t q ≡ true
  unfolding has number_at num
  has_so t q h g = rw (lt-ltb 0 _ h, lt-ltb 0 _ g)

  doubled-parts : (p : Read) (ps : List Read) → doubled ns (p ∷ ps) ≡ false → (0 < word_spelled ns p.0 → found ns (word_spelled ns p.0) ps ≡ false) × (doubled ns ps ≡ false)
  unfolding doubled
  doubled-parts p ps e =
      let r = or-none (ltb 0 (word_spelled ns p.0) && found ns (word_spelled ns p.0) ps) (doubled ns ps) e in
      (λ h. rw (lt-ltb 0 (word_spelled ns p.0) h) at r.0, r.1)

  parts-doubled : (p : Read) (ps : List Read) → (0 < word_spelled ns p.0 → found ns (word_spelled ns p.0) ps ≡ false) → doubled ns ps ≡ false → doubled ns (p ∷ ps) ≡ false
  unfolding doubled
  parts-doubled p ps f e = by (ltb 0 (word_spelled ns p.0)) refl
    where
      by : (a : Bool) → ltb 0 (word_spelled ns p.0) ≡ a → ((a && found ns (word_spelled ns p.0) ps) || doubled ns ps) ≡ false
      by true h = rw (f (ltb-true 0 _ h), e)
      by false h = e

  -- what is apart from t and these is apart from t with the first noted and the rest
  apart-on : (t : List ℕ) (q : ℕ) (ps : List Read) → length t ≡ 27 → (0 < num q → found ns (num q) ps ≡ false) → Apart t (spell s q ∷ ps) → Apart (note ns s t q) ps
  apart-on t q ps l f a k h g = by (eqb k (num q)) refl
    where
      by : (b : Bool) → eqb k (num q) ≡ b → found ns k ps ≡ false
      by true e = let z = eqb-true k (num q) e in rw z (f (omega arith))
      by false e = (found-not (spell s q) ps k (a k h (omega (arith, note-other t q k (eqb-false k (num q) e))))).1

  once-from : (t qs : List ℕ) → length t ≡ 27 → doubled ns (map (spell s) qs) ≡ false → Apart t (map (spell s) qs) → repeated ns s t qs ≡ 0
  unfolding repeated num
  once-from t [] l d a = refl
  once-from t (q ∷ qs) l d a =
      let r = doubled-parts (spell s q) (map (spell s) qs) d in
      let z : has ns s t q ≡ false = has-not t q (λ h g. (found-not (spell s q) (map (spell s) qs) (num q) (a (num q) h g)).0 refl) in
      rw z (once-from (note ns s t q) qs (note-long t q l) r.1 (apart-on t q (map (spell s) qs) l r.0 a))

  from-once : (t qs : List ℕ) → length t ≡ 27 → Late qs → repeated ns s t qs ≡ 0 → (doubled ns (map (spell s) qs) ≡ false) × Apart t (map (spell s) qs)
  unfolding repeated found doubled num
  from-once t [] l i e = (refl, λ k h g. refl)
  from-once t (q ∷ qs) l i e =
      let r = pick_none (has ns s t q) q (repeated ns s (note ns s t q) qs) i.0 e in
      let x = from-once (note ns s t q) qs (note-long t q l) i.1 r.1 in
      let first : 0 < num q → found ns (num q) (map (spell s) qs) ≡ false = λ h. x.1 (num q) h (omega (arith, note-same t q l h, value-late s q i.0)) in (
        parts-doubled (spell s q) (map (spell s) qs) first x.0,
        λ k h g. by k h g (eqb k (num q)) refl r.0 x.1,
      )
    where
      by : (k : ℕ) → 0 < k → 0 < get_or t k 0 → (b : Bool) → eqb k (num q) ≡ b → has ns s t q ≡ false → Apart (note ns s t q) (map (spell s) qs)
          → found ns k (map (spell s) (q ∷ qs)) ≡ false
      by k h g true e n a =
          let z = eqb-true k (num q) e in
          let y = has_so t q (omega arith) (omega (arith, ap (λ (j : ℕ). get_or t j 0) z)) in
          absurd (let w : ◌≡◌ {A = Bool} true false = sym y ∙ n in let v : ◌≡◌ {A = ℕ} 0 1 = cc in omega arith)
      by k h g false e n a = not_found (spell s q) (map (spell s) qs) k (λ f. eqb-false k (num q) e (sym f)) (a k h (omega (arith, note-other t q k (eqb-false k (num q) e))))

  -- which are noted
  kept_from : (t qs : List ℕ) (k : ℕ) → found ns k (map (spell s) qs) ≡ false → get_or (noted ns s t qs) k 0 ≡ get_or t k 0
  unfolding noted num
  kept_from t [] k e = refl
  kept_from t (q ∷ qs) k e =
      let r = found-not (spell s q) (map (spell s) qs) k e in
      kept_from (note ns s t q) qs k r.1 ∙ note-other t q k (λ z. r.0 (sym z))

  here-from : (t qs : List ℕ) (k : ℕ) → length t ≡ 27 → Late qs → 0 < k → doubled ns (map (spell s) qs) ≡ false → found ns k (map (spell s) qs) ≡ true
      → (0 < get_or (noted ns s t qs) k 0) × (bytes s (get_or (noted ns s t qs) k 0) ≡ value_in ns k (map (spell s) qs))
  unfolding noted found value_in num
  here-from t [] k l i h d e = absurd (let z : ◌≡◌ {A = ℕ} 0 1 = cc in omega arith)
  here-from t (q ∷ qs) k l i h d e = by (eqb (num q) k) refl (doubled-parts (spell s q) (map (spell s) qs) d) (λ r. here-from (note ns s t q) qs k (note-long t q l) i.1 h r)
    where
      by : (b : Bool) → eqb (num q) k ≡ b → (0 < num q → found ns (num q) (map (spell s) qs) ≡ false) × (doubled ns (map (spell s) qs) ≡ false)
          → ((doubled ns (map (spell s) qs) ≡ false) → found ns k (map (spell s) qs) ≡ true
          → (0 < get_or (noted ns s (note ns s t q) qs) k 0) × (bytes s (get_or (noted ns s (note ns s t q) qs) k 0) ≡ value_in ns k (map (spell s) qs)))
          → (0 < get_or (noted ns s (note ns s t q) qs) k 0)
          × (bytes s (get_or (noted ns s (note ns s t q) qs) k 0) ≡ cond (eqb (num q) k) (bytes s (value_of s q)) (value_in ns k (map (spell s) qs)))
      by true f r c =
          let z = eqb-true (num q) k f in
          let g : get_or (noted ns s (note ns s t q) qs) k 0 ≡ value_of s q = kept_from (note ns s t q) qs k (rw (← z) (r.0 (omega arith)))
          ∙ rw (← z) (note-same t q l (omega arith)) in
          (omega (arith, g, value-late s q i.0), rw (g, f))
      by false f r c = rw f (c r.1 (rw f at e))

  where_from : (t qs : List ℕ) (k : ℕ) → length t ≡ 27 → 0 < k → doubled ns (map (spell s) qs) ≡ false → found ns k (map (spell s) qs) ≡ true
      → Where ns s k qs (get_or (noted ns s t qs) k 0)
  unfolding noted found num
  where_from t [] k l h d e = absurd (let z : ◌≡◌ {A = ℕ} 0 1 = cc in omega arith)
  where_from t (q ∷ qs) k l h d e = by (eqb (num q) k) refl (doubled-parts (spell s q) (map (spell s) qs) d) (λ r. where_from (note ns s t q) qs k (note-long t q l) h r)
    where
      by : (b : Bool) → eqb (num q) k ≡ b → (0 < num q → found ns (num q) (map (spell s) qs) ≡ false) × (doubled ns (map (spell s) qs) ≡ false)
          → ((doubled ns (map (spell s) qs) ≡ false) → found ns k (map (spell s) qs) ≡ true → Where ns s k qs (get_or (noted ns s (note ns s t q) qs) k 0))
          → Where ns s k (q ∷ qs) (get_or (noted ns s (note ns s t q) qs) k 0)
      by true f r c =
          let z = eqb-true (num q) k f in
          let g : get_or (noted ns s (note ns s t q) qs) k 0 ≡ value_of s q = kept_from (note ns s t q) qs k (rw (← z) (r.0 (omega arith)))
          ∙ rw (← z) (note-same t q l (omega arith)) in
          record { n = 0; few = omega arith; nth = z; is = g }
      by false f r c =
          let w = c r.1 (rw f at e) in
          record { n = suc w.n; few = omega (arith, w.few); nth = w.nth; is = w.is }

  -- all of it from the start
  none_yet : (k : ℕ) → get_or empty k 0 ≡ 0
  none_yet k = go 27 k
    where
      go : (n k : ℕ) → ◌≡◌ {A = ℕ} (get_or (replicate n 0) k 0) 0
      go zero k = refl
      go (suc n) zero = refl
      go (suc n) (suc k) = go n k

  pub by-once : (qs : List ℕ) → doubled ns (map (spell s) qs) ≡ false → repeated ns s empty qs ≡ 0
  by-once qs d = once-from empty qs refl d (λ k h g. absurd (omega (arith, none_yet k)))

  pub once_by : (qs : List ℕ) → Late qs → repeated ns s empty qs ≡ 0 → doubled ns (map (spell s) qs) ≡ false
  once_by qs i e = (from-once empty qs refl i e).0

  pub noted-none : (qs : List ℕ) (k : ℕ) → found ns k (map (spell s) qs) ≡ false → get_or (noted ns s empty qs) k 0 ≡ 0
  noted-none qs k e = kept_from empty qs k e ∙ none_yet k

  pub noted-by : (qs : List ℕ) (k : ℕ) → Late qs → 0 < k → doubled ns (map (spell s) qs) ≡ false → found ns k (map (spell s) qs) ≡ true
      → (0 < get_or (noted ns s empty qs) k 0) × (bytes s (get_or (noted ns s empty qs) k 0) ≡ value_in ns k (map (spell s) qs))
  noted-by qs k i h d e = here-from empty qs k refl i h d e

  pub where_is : (qs : List ℕ) (k : ℕ) → 0 < k → doubled ns (map (spell s) qs) ≡ false → 0 < get_or (noted ns s empty qs) k 0 → Where ns s k qs (get_or (noted ns s empty qs) k 0)
  where_is qs k h d g = by (found ns k (map (spell s) qs)) refl
    where
      by : (b : Bool) → found ns k (map (spell s) qs) ≡ b → Where ns s k qs (get_or (noted ns s empty qs) k 0)
      by true e = where_from empty qs k refl h d e
      by false e = absurd (omega (arith, noted-none qs k e))
