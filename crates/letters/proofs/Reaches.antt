-- What holds under any rule: there is one bad letter at most, and how the reach of a text is put together letter by letter. A function has to find the
-- reach alone, which does not ask whether the text keeps its rule. Assumes nothing.
use Prim.Native.Nat.{ℕ, suc, zero, max, ◌≤◌, ◌<◌}
use Rattle.letters.specs.BadLetter.{BadLetter, Begins}
use Rattle.octets.proofs.TestLaws.{Either, clash, either, picked}
use borrow.Author.Tests.{leb-false, leb-true}
use lib.Dec.{leb}
use lib.ListN.{drop, length, length-append, length-take, take, take-append-drop}
use lib.Seq.{take-nil, take-take}
use mathlib.Core.Bool.{Bool, true, false, ◌||◌, cond}
use mathlib.Core.List.{List, [], ◌∷◌, ◌++◌, append_assoc}
use mathlib.Core.Logic.{inl, inr}
use mathlib.Core.Path.{◌≡◌, refl, sym, ap, ◌∙◌}
use native.Mathlib.Omega.{arith}

-- the letters before k begin an allowed text; with the letter at k they begin none
pub record Reaches (R : List ℕ → Bool) (t : List ℕ) (k : ℕ) : Type 0 where
  pub inside : k ≤ length t
  pub goes : Begins R (take k t)
  pub ends : k < length t → Begins R (take (suc k) t) → ⊥

module _ {R : List ℕ → Bool} where
  -- what begins an allowed text, its own beginnings begin it too
  begins-take : (t : List ℕ) (j m : ℕ) → j ≤ m → Begins R (take m t) → Begins R (take j t)
  begins-take t j m h b =
      let e : take j t ++ drop j (take m t) ≡ take m t = ap (λ (l : List ℕ). l ++ drop j (take m t)) (sym (take-take j m t h)) ∙ take-append-drop j (take m t) in
      record {
        rest = drop j (take m t) ++ b.rest;
        allowed = ap R (sym (append_assoc (take j t) (drop j (take m t)) b.rest) ∙ ap (λ (l : List ℕ). l ++ b.rest) e) ∙ b.allowed;
      }

  no-further : {t : List ℕ} {k j : ℕ} → Reaches R t k → k < j → j ≤ length t → Begins R (take j t) → ⊥
  no-further {t} {k} {j} a h l b = a.ends (omega arith) (begins-take t (suc k) j h b)

  -- there is one such place at most
  pub one_reach : {t : List ℕ} {k m : ℕ} → Reaches R t k → Reaches R t m → k ≡ m
  one_reach {t} {k} {m} a b = omega (arith, below, above)
    where
      below : k < m → ⊥
      below h = no-further a h b.inside b.goes

      above : m < k → ⊥
      above h = no-further b h a.inside a.goes

  reach_of : {t : List ℕ} {k : ℕ} → BadLetter R t k → Reaches R t k
  reach_of b = record { inside = b.inside; goes = b.before; ends = b.bad }

  -- THE LAW: a text has one bad letter at most
  pub one-bad-letter : {t : List ℕ} {k m : ℕ} → BadLetter R t k → BadLetter R t m → k ≡ m
  one-bad-letter a b = one_reach (reach_of a) (reach_of b)

  -- the reach of a text that breaks the rule is its bad letter
  pub bad : {t : List ℕ} {k : ℕ} → Reaches R t k → R t ≡ false → BadLetter R t k
  bad r e = record { inside = r.inside; before = r.goes; bad = r.ends; short = λ q. e }

  -- no letter, a letter that does not go on
  pub at-end : Begins R [] → Reaches R [] 0
  at-end b = record { inside = omega arith; goes = b; ends = λ h. absurd (omega arith) }

  pub at-letter : {x : ℕ} {t : List ℕ} → Begins R [] → ((u : List ℕ) → R (x ∷ u) ≡ false) → Reaches R (x ∷ t) 0
  at-letter b f = record { inside = omega arith; goes = b; ends = λ h c. clash c.allowed (f c.rest) }

  -- a rule of which another decides at this letter
  pub here : {Q : List ℕ → Bool} {x : ℕ} {t : List ℕ} (k : ℕ) → Begins R [] → ((u : List ℕ) → R (x ∷ u) ≡ Q (x ∷ u)) → Reaches Q (x ∷ t) k → Reaches R (x ∷ t) k
  here zero b f r = record {
    inside = r.inside;
    goes = b;
    ends = λ h c. r.ends h (record { rest = c.rest; allowed = sym (f c.rest) ∙ c.allowed });
  }
  here {Q} {x} {t} (suc k) b f r = record {
    inside = r.inside;
    goes = record { rest = r.goes.rest; allowed = f (take k t ++ r.goes.rest) ∙ r.goes.allowed };
    ends = λ h c. r.ends h (record { rest = c.rest; allowed = sym (f (take (suc k) t ++ c.rest)) ∙ c.allowed });
  }

  -- a letter that nothing allowed begins with, and no letter: nothing is reached
  pub none_here : {x : ℕ} {t : List ℕ} (k : ℕ) → ((u : List ℕ) → R (x ∷ u) ≡ false) → Reaches R (x ∷ t) k → k ≡ 0
  none_here zero f r = refl
  none_here {x} {t} (suc k) f r = clash r.goes.allowed (f (take k t ++ r.goes.rest))

  pub none_left : {k : ℕ} → Reaches R [] k → k ≡ 0
  none_left r = omega (arith, r.inside)

  pub opens : {k : ℕ} → Reaches R [] k → Begins R []
  opens {k} r = rw (take-nil k) at r.goes

  -- where what R allows is shorter than n, the first n letters tell
  pub front_reaches : (n : ℕ) → ((t : List ℕ) → R t ≡ true → length t < n) → {t : List ℕ} {k : ℕ} → Reaches R (take n t) k → Reaches R t k
  front_reaches n f {t} {k} r =
      let l = length-take n t in
      let g = f (take k (take n t) ++ r.goes.rest) r.goes.allowed in
      let q = length-append (take k (take n t)) r.goes.rest in
      let p = length-take k (take n t) in
      let i = r.inside in
      let h : k < n = omega arith in
      record {
        inside = omega arith;
        goes = rw (← take-take k n t (let z : k ≤ n = omega arith in z)) r.goes;
        ends = λ o b. r.ends (omega arith) (rw (take-take (suc k) n t h) b);
      }

-- where nothing is reached, it is the same whether it is asked or not
pub none-either : (b : Bool) {k : ℕ} → k ≡ 0 → cond b k 0 ≡ 0
none-either b e = picked (λ (k : ℕ). k ≡ 0) b e refl

module _ {R Q : List ℕ → Bool} where
  -- a letter that goes on, to what is asked behind it
  pub past-letter : {x : ℕ} {t : List ℕ} {k : ℕ} → ((u : List ℕ) → R (x ∷ u) ≡ Q u) → Reaches Q t k → Reaches R (x ∷ t) (suc k)
  past-letter {x} {t} {k} f r = record {
    inside = omega (arith, r.inside);
    goes = record { rest = r.goes.rest; allowed = f (take k t ++ r.goes.rest) ∙ r.goes.allowed };
    ends = λ h b. r.ends (omega arith) (record { rest = b.rest; allowed = sym (f (take (suc k) t ++ b.rest)) ∙ b.allowed });
  }

  -- a rule may be said in other words
  begins-same : ((u : List ℕ) → R u ≡ Q u) → {p : List ℕ} → Begins Q p → Begins R p
  begins-same f {p} b = record { rest = b.rest; allowed = f (p ++ b.rest) ∙ b.allowed }

pub same_reaches : {R Q : List ℕ → Bool} → ((u : List ℕ) → R u ≡ Q u) → {t : List ℕ} {k : ℕ} → Reaches Q t k → Reaches R t k
same_reaches f r = record { inside = r.inside; goes = begins-same f r.goes; ends = λ h b. r.ends h (begins-same (λ u. sym (f u)) b) }

-- of two rules, one of which is to be kept, the one that goes further decides
abbrev pub either_rule : (R Q : List ℕ → Bool) → List ℕ → Bool
either_rule R Q t = R t || Q t

module _ (R Q : List ℕ → Bool) where
  begins-left : {p : List ℕ} → Begins R p → Begins (either_rule R Q) p
  begins-left b = record { rest = b.rest; allowed = rw b.allowed }

  begins-right : {p : List ℕ} → Begins Q p → Begins (either_rule R Q) p
  begins-right {p} b = record { rest = b.rest; allowed = go (R (p ++ b.rest)) }
    where
      go : (c : Bool) → (c || Q (p ++ b.rest)) ≡ true
      go true = refl
      go false = b.allowed

  begins-neither : {p : List ℕ} → (Begins R p → ⊥) → (Begins Q p → ⊥) → Begins (either_rule R Q) p → ⊥
  begins-neither {p} f g b = go (either (R (p ++ b.rest)))
    where
      go : Either (R (p ++ b.rest)) → ⊥
      go (inl e) = f (record { rest = b.rest; allowed = e })
      go (inr e) = g (record { rest = b.rest; allowed = rw e at b.allowed })

  pub either_reaches : {t : List ℕ} {k m : ℕ} → Reaches R t k → Reaches Q t m → Reaches (either_rule R Q) t (max k m)
  either_reaches {t} {k} {m} a b = go (either (leb m k))
    where
      go : Either (leb m k) → Reaches (either_rule R Q) t (max k m)
      go (inl e) = rw (let h = leb-true m k e in let z : max k m ≡ k = omega arith in z) (record {
        inside = a.inside;
        goes = begins-left a.goes;
        ends = λ h. begins-neither (a.ends h) (no-further {j = suc k} b (let i = leb-true m k e in omega arith) h);
      })
      go (inr e) = rw (let h = leb-false m k e in let z : max k m ≡ m = omega arith in z) (record {
        inside = b.inside;
        goes = begins-right b.goes;
        ends = λ h. begins-neither (no-further {j = suc m} a (let i = leb-false m k e in omega arith) h) (b.ends h);
      })
