-- The place where the machine goes too deep: what stands before it goes on to a text, with the byte at it only to one a level deeper. Assumes nothing.
use mathlib.Core.Path.{◌≡◌, refl, sym, ap, subst, ◌∙◌}
use mathlib.Core.Bool.{Bool, true, false}
use mathlib.Core.List.{List, [], ◌∷◌, ◌++◌}
use Prim.Native.Nat.{ℕ, ◌+◌}
use native.Mathlib.Omega.{arith}
use lib.ListN.{length, take, length-append}
use lib.Seq.{take_at}
use Rattle.json_text.specs.inner.Machine.{Stack, alone, text, arr, obj, Mode, value, Next, live, deep, step, over, ended, stops, takes, walk, answer}
use Rattle.json_text.specs.Rfc7159.{JSON-text as JsonText}
use Rattle.json_text.specs.Verdict.{TooDeep}
use Rattle.json_text.specs.inner.Machine.{Walked}
use Rattle.json_text.proofs.Refusal.{Ends, rest, goes_on, on}
use Rattle.json_text.proofs.Complete.{complete}
use Rattle.json_text.proofs.Sound.{sound}
use Rattle.json_text.proofs.Raise.{raise, IsLive, is_live, up-live, up-deep, raise-text}
use Rattle.json_text.proofs.Opened.{Fits, fits-text, Keeps, keeps, refuses, sinks, keep}
use Rattle.json_text.proofs.Agreement.{answers, answer-is, take-one}
use Rattle.json_text.specs.declared.Fault.TheVariants.{Bad, Deep}
use Rattle.std.specs.Prelude.{Ok, Err}

record At (bs : List ℕ) (m : Mode) (k : Stack) (i p : ℕ) : Type 0 where
  before : List ℕ
  it : ℕ
  behind : List ℕ
  split : bs ≡ before ++ (it ∷ behind)
  far : p ≡ i + length before
  more : List ℕ
  can : Ends (walk (before ++ more) m k i)
  cannot : (u : List ℕ) → walk (before ++ (it ∷ u)) m k i ≡ Err (Deep p)
  deeper : List ℕ
  could : Ends (walk (before ++ (it ∷ deeper)) m (raise 1 k) i)

differ : {A : Type 0} {i p : ℕ} → ◌≡◌ {A = Walked} (Err (Bad i)) (Err (Deep p)) → A
differ e = let z : ◌≡◌ {A = ℕ} 0 1 = cc in absurd (omega arith)

differ-end : {A : Type 0} {i p : ℕ} → ◌≡◌ {A = Walked} (Ok i) (Err (Deep p)) → A
differ-end e = let z : ◌≡◌ {A = ℕ} 0 1 = cc in absurd (omega arith)

ended-not : {A : Type 0} {p : ℕ} (t : Bool) (i : ℕ) → ended t i ≡ Err (Deep p) → A
ended-not true i e = differ-end e
ended-not false i e = differ e

stops-not : {A : Type 0} {p : ℕ} (m : Mode) (k : Stack) (i : ℕ) → stops m k i ≡ Err (Deep p) → A
unfolding stops
stops-not m (alone d) i e = ended-not (over m) i e
stops-not m (text d) i e = ended-not (over m) i e
stops-not m (arr k) i e = differ e
stops-not m (obj k) i e = differ e

-- from a byte that goes on, some bytes go on to the end
record Goes (b : ℕ) (m : Mode) (k : Stack) (i : ℕ) : Type 0 where
  tail : List ℕ
  fine : Ends (walk (b ∷ tail) m k i)

go-live : (b : ℕ) (m : Mode) (k : Stack) (i : ℕ) (n : Next) → step m k b ≡ n → IsLive n → Goes b m k i
go-live b m k i n e (is_live {m = m'} {k = k'}) = record { tail = rest m' k'; fine = subst Ends (sym (on b (rest m' k') m k i (live m' k') e)) (goes_on m' k' (i + 1)) }

module _ (b : ℕ) (bs : List ℕ) (m : Mode) (k : Stack) (i p : ℕ) (f : Fits k) where
  here : step m k b ≡ deep → p ≡ i → At (b ∷ bs) m k i p
  here e q =
      let g = go-live b m (raise 1 k) i (step m (raise 1 k) b) refl (up-deep 1 m k b f (omega arith) e) in
      record {
        before =
            [];
        it = b;
        behind = bs;
        split = refl;
        far = omega arith;
        more = rest m k;
        can = goes_on m k i;
        cannot = λ u. on b u m k i deep e
            ∙ ap (λ (p : ℕ). Err (Deep p)) (sym q);
        deeper = g.tail;
        could = g.fine;
      }

  later : (m' : Mode) (k' : Stack) → step m k b ≡ live m' k' → At bs m' k' (i + 1) p → At (b ∷ bs) m k i p
  later m' k' e r =
      record {
        before = b ∷ r.before;
        it = r.it;
        behind = r.behind;
        split = ap (λ (l : List ℕ). b ∷ l) r.split;
        far = omega (arith, r.far);
        more = r.more;
        can = subst Ends (sym (on b (r.before ++ r.more) m k i (live m' k') e)) r.can;
        cannot = λ u. on b (r.before ++ (r.it ∷ u)) m k i (live m' k') e ∙ r.cannot u;
        deeper = r.deeper;
        could = subst Ends (sym (on b (r.before ++ (r.it ∷ r.deeper)) m (raise 1 k) i (live m' (raise 1 k')) (up-live 1 m m' k k' b e))) r.could;
      }

  next : (n : Next) → step m k b ≡ n → Keeps n → takes n (walk bs) i ≡ Err (Deep p)
      → ((m' : Mode) (k' : Stack) → Fits k' → walk bs m' k' (i + 1) ≡ Err (Deep p) → At bs m' k' (i + 1) p)
      → At (b ∷ bs) m k i p
  next n e (keeps {m = m'} {k = k'} g) q ih = later m' k' e (ih m' k' g q)
  next n e refuses q ih = differ q
  next n e sinks q ih = here e (cc)

finds : (bs : List ℕ) (m : Mode) (k : Stack) (i p : ℕ) → Fits k → walk bs m k i ≡ Err (Deep p) → At bs m k i p
unfolding walk
finds [] m k i p f e = stops-not m k i e
finds (b ∷ bs) m k i p f e = next b bs m k i p f (step m k b) refl (keep k b f m) e (λ m' k' g q. finds bs m' k' (i + 1) p g q)

module _ (d : ℕ) (s : List ℕ) (p : ℕ) (h : answers d s ≡ Err (Deep p)) where
  at : At s value (text d) 0 p
  at = finds s value (text d) 0 p fits-text h

  far : length at.before ≡ p
  far = omega (arith, at.far)

  upto : take p s ≡ at.before
  upto = ap (take p) at.split ∙ take_at at.before (at.it ∷ at.behind) p far

  onto : (u : List ℕ) → take (p + 1) s ++ u ≡ at.before ++ (at.it ∷ u)
  onto u = take-one s at.before at.it at.behind u p far at.split

  could : JsonText (d + 1) (at.before ++ (at.it ∷ at.deeper))
  could = sound (d + 1) _ (subst (λ (k : Stack). Ends (walk (at.before ++ (at.it ∷ at.deeper)) value k 0)) (raise-text (1) d) at.could)

  pub too_deep : TooDeep d s p
  too_deep =
      record {
        inside = omega (arith, far, ap length at.split, length-append at.before (at.it ∷ at.behind));
        more = at.more;
        can = sound d _ (subst (λ (r : List ℕ). Ends (walk (r ++ at.more) value (text d) 0)) (sym upto) at.can);
        cannot = λ u x. subst Ends (at.cannot u) (complete d (at.before ++ (at.it ∷ u)) (subst (JsonText d) (onto u) x));
        deeper = at.deeper;
        could = subst (JsonText (d + 1)) (sym (onto at.deeper)) could;
      }

-- The answer on s is Deep p only where the ninth bracket in one another opens at p.
pub rfc-deep : (s : List ℕ) (p : ℕ) → answer s ≡ Err (Deep p) → TooDeep 8 s p
rfc-deep s p h = too_deep 8 s p (sym (answer-is s) ∙ h)
