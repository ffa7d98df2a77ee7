-- The machine agrees with RFC 7159's grammar: where it comes to the end, and where it refuses. Assumes nothing.
use mathlib.Core.Path.{◌≡◌, refl, sym, ap, subst, ◌∙◌}
use mathlib.Core.List.{List, [], ◌∷◌, ◌++◌}
use mathlib.Core.Logic.{◌↔◌}
use Prim.Native.Nat.{ℕ, suc, ◌+◌, ◌≤◌, ◌<◌}
use native.Mathlib.Omega.{arith}
use native.Mathlib.Numerals.{add-one}
use lib.ListN.{length, take, length-append}
use lib.Seq.{take_at}
use Rattle.json_text.specs.inner.Machine.{text, value, walk, from, answer}
use Rattle.json_text.specs.Rfc7159.{JSON-text as JsonText, JSON as Json}
use Rattle.json_text.specs.Verdict.{Refused}
use Rattle.json_text.specs.inner.Machine.{Walked}
use Rattle.json_text.proofs.Refusal.{Ends, Place, placed}
use Rattle.json_text.proofs.Complete.{complete}
use Rattle.json_text.proofs.Sound.{sound}
use Rattle.json_text.proofs.Raise.{up-text}
use Rattle.json_text.specs.declared.Fault.TheVariants.{Bad}
use Rattle.std.specs.Prelude.{Ok, Err}

-- the answer with d levels
abbrev pub answers : ℕ → List ℕ → Walked
answers d s = walk s value (text d) 0

-- the answer is Ok
pub record Whole (g : Walked) : Type 0 where
  pub e : ℕ
  pub is : g ≡ Ok e

ends-whole : (g : Walked) → Ends g → Whole g
ends-whole (Ok e) h = record { e = e; is = refl }
ends-whole (Err f) h = absurd h

whole-ends : {g : Walked} → Whole g → Ends g
whole-ends w = subst Ends (sym w.is) tt

pub answer-is : (s : List ℕ) → answer s ≡ answers 8 s
unfolding from
answer-is s = refl

-- The answer on s is Ok if and only if s is a JSON-text of RFC 7159, nested at most eight deep.
pub rfc : (s : List ℕ) → Whole (answer s) ↔ JsonText 8 s
rfc s = (λ w. sound 8 s (subst Ends (answer-is s) (whole-ends w)), λ x. ends-whole (answer s) (subst Ends (sym (answer-is s)) (complete 8 s x)))

bad-none : (d : ℕ) (s : List ℕ) (p : ℕ) → answers d s ≡ Err (Bad p) → JsonText d s → ⊥
bad-none d s p e x = subst Ends e (complete d s x)

-- more levels: what was a text is one
pub deeper : (d e : ℕ) (s : List ℕ) → JsonText d s → JsonText (d + e) s
deeper d e s x = let w = ends-whole (answers d s) (complete d s x) in sound (d + e) s (subst Ends (sym (up-text e s d (Ok w.e) tt w.is)) tt)

-- no depth helps where the answer is Bad
bad-json : (d : ℕ) (s : List ℕ) (p : ℕ) → answers d s ≡ Err (Bad p) → Json s → ⊥
bad-json d s p h (e, x) =
    let q : d + e ≡ e + d = omega arith in
    bad-none (d + e) s p (up-text e s d (Err (Bad p)) tt h) (subst (λ (n : ℕ). JsonText n s) (sym q) (deeper e d s x))

take_on : (x : List ℕ) (b : ℕ) (l u : List ℕ) → take (suc (length x)) (x ++ (b ∷ l)) ++ u ≡ x ++ (b ∷ u)
take_on [] b l u = refl
take_on (y ∷ ys) b l u = ap (λ (r : List ℕ). y ∷ r) (take_on ys b l u)

pub take-one : (s x : List ℕ) (b : ℕ) (l u : List ℕ) (n : ℕ) → length x ≡ n → s ≡ x ++ (b ∷ l) → take (n + 1) s ++ u ≡ x ++ (b ∷ u)
take-one s x b l u n e q = rw (add-one, ← e, q) (take_on x b l u)

module _ (d : ℕ) (s : List ℕ) (p : ℕ) (h : answers d s ≡ Err (Bad p)) where
  at : Place s value (text d) 0 p
  at = placed s value (text d) 0 p h

  far : length at.before ≡ p
  far = omega (arith, at.far)

  upto : take p s ≡ at.before
  upto = ap (take p) at.split ∙ take_at at.before at.behind p far

  inside : p ≤ length s
  inside = omega (arith, far, ap length at.split, length-append at.before at.behind)

  cannot-go : (l : List ℕ) → at.behind ≡ l → p < length s → (u : List ℕ) → Json (take (p + 1) s ++ u) → ⊥
  cannot-go [] e i u x = absurd (omega (arith, far, ap length at.split, length-append at.before at.behind, ap length e))
  cannot-go (b ∷ l) e i u x =
      let q = take-one s at.before b l u p far (at.split ∙ ap (λ (r : List ℕ). at.before ++ r) e) in
      bad-json d (at.before ++ (b ∷ u)) p (at.cannot b l e u) (subst Json q x)

  pub refused : Refused d s p
  refused =
      record {
        inside = inside;
        more = at.more;
        can =
            sound d _ (subst (λ (r : List ℕ). Ends (walk (r ++ at.more) value (text d) 0)) (sym upto) at.can);
        cannot = cannot-go at.behind refl;
        none_such = bad-json d s p h;
      }

-- The answer on s is Bad p only where RFC 7159 refuses s at p.
pub rfc-refuses : (s : List ℕ) (p : ℕ) → answer s ≡ Err (Bad p) → Refused 8 s p
rfc-refuses s p h = refused 8 s p (sym (answer-is s) ∙ h)
