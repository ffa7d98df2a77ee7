-- Rows 8 and 9, one field at a time: what is known of a field, and the search for the lowest. Assumes nothing.
use Rattle.std.specs.declared.result.Result.{Result}
use Rattle.std.specs.declared.result.Result.TheVariants.{Ok, Err}
use Prim.Native.Nat.{ℕ, zero, suc, ◌+◌, ◌-◌, ◌≤◌, ◌<◌}
use Rattle.json_text.specs.Places.{bytes}
use Rattle.fields.proofs.LetterLaws.{fault_inside}
use Rattle.values.proofs.SpellingLaws.{bytes-short}
use Rattle.fields.specs.Field.{fault_at, keeps}
use Rattle.fields.specs.inner.Judging.{judged_value}
use Rattle.message.specs.Checks.{Check, asks, lacks, breaks, lowest, missing, eight, nine, checked}
use Rattle.message.specs.inner.Facts.{Fits, placed, nine_from, of_field}
use Rattle.message.specs.Message.{first_setting}
use Rattle.rules.specs.Asks.{is_in, method_asks, tag_asks}
use Rattle.std.specs.Prelude.{Ok, Err}
use Rattle.message.specs.declared.refusals.Refusal.TheVariants.{Missing, Rule}
use Rattle.message.specs.declared.refusals.Refusal.{Refusal}
use Rattle.fields.specs.declared.judging.Setting.{Setting}
use borrow.Author.Tests.{ne_eqb, lt-ltb, le-ltb, ltb-false}
use lib.Dec.{eqb, ltb}
use lib.ListN.{get_or, length}
use mathlib.Core.Bool.{Bool, true, false, not, and-false, and-true, cond}
use mathlib.Core.List.{List}
use mathlib.Core.Path.{◌≡◌, refl, sym, ap, ◌∙◌}
use native.Mathlib.Decide.{ℕ_discrete}
use native.Mathlib.Omega.{arith}

turned : (b : Bool) (x y : Result (Unit {0}) ℕ) → cond b x y ≡ cond (not b) y x
turned true x y = refl
turned false x y = refl

module _ (run : Bool) (k : Setting) (t : List ℕ) (n : ℕ) where
  pub not_lacking : (get_or t n 0 ≡ 0 → ⊥) → false ≡ lacks run k t n
  unfolding lacks
  not_lacking e = rw (ne_eqb (get_or t n 0) 0 e) (sym (and-false (eqb (asks run k n) 1)))

  pub absent : (s : List ℕ) → get_or t n 0 ≡ 0 → Ok tt ≡ of_field s run k t n
  unfolding of_field breaks
  absent s e = rw (e, and-false (ltb 0 (asks run k n)))

  module _ {a : ℕ} (is : a ≡ asks run k n) where
    pub lacking_if : get_or t n 0 ≡ 0 → eqb a 1 ≡ lacks run k t n
    unfolding lacks
    lacking_if e = rw (is, e) (sym (and-true (eqb (asks run k n) 1)))

    module _ (s : List ℕ) where
      pub unlisted : a ≡ 0 → Ok tt ≡ of_field s run k t n
      unfolding of_field breaks
      unlisted e = rw (le-ltb 0 (asks run k n) (omega arith))

      pub present : {x : List ℕ} {r : Result (Unit {0}) ℕ} → (a ≡ 0 → ⊥) → (get_or t n 0 ≡ 0 → ⊥) → x ≡ bytes s (get_or t n 0) → r ≡ judged_value k n x → r ≡ of_field s run k t n
      unfolding of_field breaks judged_value
      present {x} {r} some e f g =
          g ∙ rw (lt-ltb 0 (asks run k n) (omega arith), lt-ltb 0 (get_or t n 0) (omega arith), f)
          (turned (keeps k n (bytes s (get_or t n 0))) (Ok tt) (Err (fault_at k n (bytes s (get_or t n 0)))))

-- a fault inside the value at a is inside the text
pub fault_there : (s : List ℕ) (k : Setting) (n a : ℕ) {v : List ℕ} {p : ℕ} → v ≡ bytes s a → p ≡ fault_at k n v → 0 < p → a + p ≤ length s
fault_there s k n a is e h = omega (arith, e, fault_inside k n (bytes s a), bytes-short s a, ap (fault_at k n) is)

-- The lowest of the numbers from n to 26.

pub pick_none : (t : Bool) (a b : ℕ) → 0 < a → cond t a b ≡ 0 → (t ≡ false) × (b ≡ 0)
pick_none true a b h e = absurd (omega arith)
pick_none false a b h e = (refl, e)

next_one : (f : ℕ → Bool) (a n : ℕ) → a ≤ n → Dec (a ≡ n) → f a ≡ false → (a + 1 ≤ n → f n ≡ false) → f n ≡ false
next_one f a n h (yes e) z g = rw (← e) z
next_one f a n h (no e) z g = g (omega arith)

pub lowest-none : (f : ℕ → Bool) (k a n : ℕ) → 0 < a → lowest f a k ≡ 0 → a ≤ n → n < a + k → f n ≡ false
unfolding lowest
lowest-none f zero a n o e h g = absurd (omega arith)
lowest-none f (suc k) a n o e h g =
    let p = pick_none (f a) a (lowest f (a + 1) k) o e in
    next_one f a n h (ℕ_discrete a n) p.0 (λ l. lowest-none f k (a + 1) n (omega arith) p.1 l (omega arith))

pub none-lowest : (f : ℕ → Bool) (k a : ℕ) → ((n : ℕ) → a ≤ n → n < a + k → f n ≡ false) → lowest f a k ≡ 0
unfolding lowest
none-lowest f zero a h = refl
none-lowest f (suc k) a h = rw (h a (omega arith) (omega arith)) (none-lowest f k (a + 1) (λ n l g. h n (omega arith) (omega arith)))

-- m is one of the k numbers from a on, and f is true of it
abbrev pub Within : (ℕ → Bool) → ℕ → ℕ → ℕ → Type 0
Within f k a m = (a ≤ m) × ((m < a + k) × (f m ≡ true))

pub lowest-within : (f : ℕ → Bool) (k a : ℕ) → 0 < lowest f a k → Within f k a (lowest f a k)
unfolding lowest
lowest-within f zero a h = absurd (omega arith)
lowest-within f (suc k) a h = by (f a) refl h (λ g. lowest-within f k (a + 1) g)
  where
    by : (b : Bool) → f a ≡ b → 0 < cond b a (lowest f (a + 1) k) → (0 < lowest f (a + 1) k → Within f k (a + 1) (lowest f (a + 1) k))
        → Within f (suc k) a (cond b a (lowest f (a + 1) k))
    by true e h g = (omega arith, (omega arith, e))
    by false e h g = let r = g h in (omega (arith, r.0), (omega (arith, r.1.0), r.1.1))

module _ (f : ℕ → Bool) where
  one_less : (n : ℕ) → n < 27 → 27 - n ≡ suc (27 - (n + 1))
  one_less n h = omega arith

  pub found : (n : ℕ) → n < 27 → f n ≡ true → lowest f n (27 - n) ≡ n
  unfolding lowest
  found n h e = rw (one_less n h, e)

  pub higher : (n : ℕ) → n < 27 → f n ≡ false → lowest f n (27 - n) ≡ lowest f (n + 1) (27 - (n + 1))
  unfolding lowest
  higher n h e = rw (one_less n h, e)

  pub none_found : (n : ℕ) → 27 ≤ n → lowest f n (27 - n) ≡ 0
  unfolding lowest
  none_found n h = let z : 27 - n ≡ 0 = omega arith in rw z

-- Row 9 from a field on: it passes, or stops there.

module _ (s : List ℕ) (run : Bool) (k : Setting) (t : List ℕ) (n : ℕ) where
  pub passes : n < 27 → breaks s run k t n ≡ false → nine_from s run k t n ≡ nine_from s run k t (n + 1)
  unfolding nine_from
  passes h e = ap (nine s k t) (higher (breaks s run k t) n h e)

  pub stops : n < 27 → 0 < n → {p r : ℕ} → p ≡ fault_at k n (bytes s (get_or t n 0)) → r ≡ get_or t n 0 + p → breaks s run k t n ≡ true
      → nine_from s run k t n ≡ Err (Rule r)
  unfolding nine_from
  stops h o z w e = ap (nine s k t) (found (breaks s run k t) n h e) ∙ rw (lt-ltb 0 n o, w, z)

  pub over : 27 ≤ n → nine_from s run k t n ≡ Ok tt
  unfolding nine_from
  over h = ap (nine s k t) (none_found (breaks s run k t) n h)

  pub field_fault : {p : ℕ} → Err p ≡ of_field s run k t n → (p ≡ fault_at k n (bytes s (get_or t n 0))) × (breaks s run k t n ≡ true)
  unfolding of_field
  field_fault {p} e = go (breaks s run k t n) e
    where
      go : (b : Bool) → Err p ≡ cond b (Err (fault_at k n (bytes s (get_or t n 0)))) (Ok (tt {0}))
          → (p ≡ fault_at k n (bytes s (get_or t n 0))) × (b ≡ true)
      go true f = (cc, refl)
      go false f = (cc, cc)

  pub field-kept : Ok tt ≡ of_field s run k t n → breaks s run k t n ≡ false
  unfolding of_field
  field-kept e = go (breaks s run k t n) e
    where
      go : (b : Bool) → Ok (tt {0}) ≡ cond b (Err (fault_at k n (bytes s (get_or t n 0)))) (Ok (tt {0})) → b ≡ false
      go true f = cc
      go false f = refl

-- What a rule says of the value at v, and the refusal of it.

pub fits : {A : Type 0} (v : ℕ) (said : Result A ℕ) → ((p : ℕ) → Err p ≡ said → 0 < p → v + p < 0x10000000000000000) → Fits v said
fits v (Ok a) h = tt
fits v (Err p) h = h p refl

pub kept : {A : Type 0} (v : ℕ) (said : Result A ℕ) {a : A} → Ok a ≡ placed v said → Ok a ≡ said
kept v (Ok b) e = cc
kept v (Err p) e = cc

pub unkept : {A : Type 0} (v : ℕ) (said : Result A ℕ) {e : Refusal} → Err e ≡ placed v said → (p : ℕ) × ((Err p ≡ said) × (e ≡ Rule (v + p)))
unkept v (Ok b) e = cc
unkept v (Err p) e = (p, (refl, cc))

-- Row 8 on a run, where the lowest field that is missing is sought from n on.

module _ (run : Bool) (k : Setting) (t : List ℕ) (n : ℕ) (from : missing run k t ≡ lowest (lacks run k t) n (27 - n)) where
  pub missed : 0 < n → n < 27 → lacks run k t n ≡ true → Err (Missing n) ≡ eight (missing run k t)
  missed o h e = let z : missing run k t ≡ n = from ∙ found (lacks run k t) n h e in rw (z, lt-ltb 0 n o)

  pub there : n < 27 → lacks run k t n ≡ false → missing run k t ≡ lowest (lacks run k t) (n + 1) (27 - (n + 1))
  there h e = from ∙ higher (lacks run k t) n h e

  pub all_there : 27 ≤ n → Ok tt ≡ eight (missing run k t)
  all_there h = let z : missing run k t ≡ 0 = from ∙ none_found (lacks run k t) n h in rw z

-- The answers of a run, by row 8's.

module _ (s : List ℕ) (run : Bool) (k : Setting) (t : List ℕ) where
  pub refused : {e : Refusal} → Err e ≡ eight (missing run k t) → Err e ≡ checked s run k t
  unfolding checked
  refused {e} q = by (ltb 0 (missing run k t)) q
    where
      by : (b : Bool) → ◌≡◌ {A = Check} (Err e) (cond b (Err (Missing (missing run k t))) (Ok tt))
          → ◌≡◌ {A = Check} (Err e) (cond b (Err (Missing (missing run k t))) (nine s k t (lowest (breaks s run k t) 1 26)))
      by true p = p
      by false p = absurd (let z : ◌≡◌ {A = ℕ} 0 1 = cc in omega arith)

  pub none-missing : {u : Unit {0}} → Ok u ≡ eight (missing run k t) → (missing run k t ≡ 0) × (checked s run k t ≡ nine_from s run k t 1)
  unfolding checked nine_from
  none-missing {u} q =
      let z = by (ltb 0 (missing run k t)) refl q in
      (z, rw z)
    where
      by : (b : Bool) → ltb 0 (missing run k t) ≡ b → ◌≡◌ {A = Check} (Ok u) (cond b (Err (Missing (missing run k t))) (Ok tt)) → missing run k t ≡ 0
      by true e p = absurd (let z : ◌≡◌ {A = ℕ} 0 1 = cc in omega arith)
      by false e p = let y = ltb-false 0 (missing run k t) e in omega arith

-- No run of a ping, a pong or a method asks for the fields 1 to 3.

few-asked : (m : ℕ) → m < 9 → (method_asks m 1 ≡ 0) × ((method_asks m 2 ≡ 0) × (method_asks m 3 ≡ 0))
unfolding method_asks is_in
few-asked zero h = (refl, (refl, refl))
few-asked (suc zero) h = (refl, (refl, refl))
few-asked (suc (suc zero)) h = (refl, (refl, refl))
few-asked (suc (suc (suc zero))) h = (refl, (refl, refl))
few-asked (suc (suc (suc (suc zero)))) h = (refl, (refl, refl))
few-asked (suc (suc (suc (suc (suc zero))))) h = (refl, (refl, refl))
few-asked (suc (suc (suc (suc (suc (suc zero)))))) h = (refl, (refl, refl))
few-asked (suc (suc (suc (suc (suc (suc (suc zero))))))) h = (refl, (refl, refl))
few-asked (suc (suc (suc (suc (suc (suc (suc (suc zero)))))))) h = (refl, (refl, refl))
few-asked (suc (suc (suc (suc (suc (suc (suc (suc (suc m))))))))) h = absurd (omega arith)

module _ (s t : List ℕ) where
  unasked : (run : Bool) (k : Setting) (n : ℕ) → asks run k n ≡ 0 → breaks s run k t n ≡ false
  unfolding breaks
  unasked run k n e = rw e

  pub later-method : (k : Setting) → k.method < 9 → nine_from s false k t 1 ≡ nine_from s false k t 4
  later-method k h =
      let a = few-asked k.method h in
      passes s false k t 1 (omega arith) (unasked false k 1 a.0)
      ∙ passes s false k t 2 (omega arith) (unasked false k 2 a.1.0)
      ∙ passes s false k t 3 (omega arith) (unasked false k 3 a.1.1)

  pub later-tag : (tag : ℕ) → 2 < tag → tag < 5 → nine_from s true (first_setting tag) t 1 ≡ nine_from s true (first_setting tag) t 4
  unfolding nine_from lowest breaks tag_asks is_in
  later-tag zero h g = absurd (omega arith)
  later-tag (suc zero) h g = absurd (omega arith)
  later-tag (suc (suc zero)) h g = absurd (omega arith)
  later-tag (suc (suc (suc zero))) h g = refl
  later-tag (suc (suc (suc (suc zero)))) h g = refl
  later-tag (suc (suc (suc (suc (suc n))))) h g = absurd (omega arith)
