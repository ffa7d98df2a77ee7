-- What the machine answers, where no ceiling is asked, is true of the bytes in the words of RFC 7159 (`Says`); and of a text one answer alone is, since past
-- the place that it names nothing goes on. Assumes nothing.
use mathlib.Core.Path.{◌≡◌, refl, sym, ap, subst, ◌∙◌}
use mathlib.Core.Bool.{Bool, true, false}
use mathlib.Core.List.{List, [], ◌∷◌, ◌++◌, append_assoc}
use Prim.Native.Nat.{ℕ, ◌+◌, ◌<◌}
use native.Mathlib.Omega.{arith}
use lib.ListN.{length, take, drop, take-append-drop}
use lib.Seq.{take-take}
use Rattle.json_text.specs.inner.Machine.{Stack, alone, text, arr, obj, Mode, value, Next, live, dead, deep, done, step, over, ended, stops, takes, walk, answer}
use Rattle.json_text.specs.Rfc7159.{Rule, JSON-text as JsonText, JSON as Json}
use Rattle.json_text.specs.Verdict.{Refused, TooDeep}
use Rattle.json_text.specs.inner.Machine.{Walked}
use Rattle.json_text.proofs.Opened.{fits-text, ends_where}
use Rattle.json_text.proofs.Agreement.{answer-is, rfc, rfc-refuses}
use Rattle.json_text.proofs.Depth.{rfc-deep}
use Rattle.json_text.specs.declared.Fault.TheVariants.{Bad, Deep, Many}
use Rattle.std.specs.Prelude.{Ok, Err}

-- what an answer says of s: a text nested at most eight deep, which ends at its length; or refused at a place; or too deep at one
abbrev pub Says : List ℕ → Walked → Type 0
Says s (Ok e) = JsonText 8 s × (e ≡ length s)
Says s (Err (Bad p)) = Refused 8 s p
Says s (Err (Deep p)) = TooDeep 8 s p
Says s (Err (Many p)) = ⊥

-- without a ceiling no value is one too many
abbrev Sole : Walked → Type 0
Sole (Ok e) = Unit
Sole (Err (Bad p)) = Unit
Sole (Err (Deep p)) = Unit
Sole (Err (Many p)) = ⊥

ended-sole : (t : Bool) (i : ℕ) → Sole (ended t i)
ended-sole true i = tt
ended-sole false i = tt

stops-sole : (m : Mode) (k : Stack) (i : ℕ) → Sole (stops m k i)
unfolding stops
stops-sole m (alone d) i = ended-sole (over m) i
stops-sole m (text d) i = ended-sole (over m) i
stops-sole m (arr k) i = tt
stops-sole m (obj k) i = tt

takes-sole : (bs : List ℕ) (i : ℕ) (n : Next) → ((m : Mode) (k : Stack) → Sole (walk bs m k (i + 1))) → Sole (takes n (walk bs) i)
takes-sole bs i (live m k) ih = ih m k
takes-sole bs i dead ih = tt
takes-sole bs i deep ih = tt
takes-sole bs i done ih = tt

sole : (bs : List ℕ) (m : Mode) (k : Stack) (i : ℕ) → Sole (walk bs m k i)
unfolding walk
sole [] m k i = stops-sole m k i
sole (b ∷ bs) m k i = takes-sole bs i (step m k b) (λ m' k'. sole bs m' k' (i + 1))

judged : (s : List ℕ) (g : Walked) → answer s ≡ g → Says s g
judged s (Ok e) h = ((rfc s).0 (record { e = e; is = h }), let q = ends_where s value (text 8) 0 e fits-text (sym (answer-is s) ∙ h) in omega arith)
judged s (Err (Bad p)) h = rfc-refuses s p h
judged s (Err (Deep p)) h = rfc-deep s p h
judged s (Err (Many p)) h = subst Sole (sym (answer-is s) ∙ h) (sole s value (text 8) 0)

pub says : (s : List ℕ) → Says s (answer s)
says s = judged s (answer s) refl

-- where the byte at p stops all, nothing reaches further
module _ (T : Rule) (s : List ℕ) (p q : ℕ) (h : p < q) (more : List ℕ) where
  pub beyond : ((u : List ℕ) → T (take (p + 1) s ++ u) → ⊥) → T (take q s ++ more) → ⊥
  beyond f x =
      let a : take (p + 1) s ++ drop (p + 1) (take q s) ≡ take q s = ap (λ (r : List ℕ). r ++ drop (p + 1) (take q s)) (sym (take-take (p + 1) q s (omega arith)))
      ∙ take-append-drop (p + 1) (take q s) in
      let e : take q s ++ more ≡ take (p + 1) s ++ (drop (p + 1) (take q s) ++ more) = ap (λ (r : List ℕ). r ++ more) (sym a)
      ∙ append_assoc (take (p + 1) s) (drop (p + 1) (take q s)) more in
      f (drop (p + 1) (take q s) ++ more) (subst T e x)

pub order : (p q : ℕ) → (p < q → ⊥) → (q < p → ⊥) → p ≡ q
order p q f g = omega arith

module _ (s : List ℕ) (p q : ℕ) where
  bad-less : Refused 8 s p → Refused 8 s q → p < q → ⊥
  bad-less a b h = beyond Json s p q h b.more (a.cannot (omega (arith, b.inside))) (8, b.can)

  deep-less : TooDeep 8 s p → TooDeep 8 s q → p < q → ⊥
  deep-less a b h = beyond (JsonText 8) s p q h b.more a.cannot b.can

  bad-deep : Refused 8 s p → TooDeep 8 s q → p < q → ⊥
  bad-deep a b h = beyond Json s p q h b.more (a.cannot (omega (arith, b.inside))) (8, b.can)

  deep-bad : Refused 8 s p → TooDeep 8 s q → q < p → ⊥
  deep-bad a b h = beyond (JsonText 8) s q p h a.more b.cannot a.can

  apart : Refused 8 s p → TooDeep 8 s q → ⊥
  apart a b =
      let e : p ≡ q = order p q (bad-deep a b) (deep-bad a b) in
      a.cannot (omega (arith, b.inside)) b.deeper (9, subst (λ (n : ℕ). JsonText 9 (take (n + 1) s ++ b.deeper)) (sym e) b.could)

  deep_none : TooDeep 8 s q → JsonText 8 s → ⊥
  deep_none b x = b.cannot (drop (q + 1) s) (subst (JsonText 8) (sym (take-append-drop (q + 1) s)) x)

-- two true answers are equal, kind and place
pub says-one : (s : List ℕ) (g g' : Walked) → Says s g → Says s g' → g ≡ g'
says-one s (Ok e) (Ok e') a b = ap Ok (a.1 ∙ sym b.1)
says-one s (Ok e) (Err (Bad q)) a b = absurd (b.none_such (8, a.0))
says-one s (Ok e) (Err (Deep q)) a b = absurd (deep_none s q q b a.0)
says-one s (Ok e) (Err (Many q)) a b = absurd b
says-one s (Err (Bad p)) (Ok e) a b = absurd (a.none_such (8, b.0))
says-one s (Err (Bad p)) (Err (Bad q)) a b = ap (λ (p : ℕ). Err (Bad p)) (order p q (bad-less s p q a b) (bad-less s q p b a))
says-one s (Err (Bad p)) (Err (Deep q)) a b = absurd (apart s p q a b)
says-one s (Err (Bad p)) (Err (Many q)) a b = absurd b
says-one s (Err (Deep p)) (Ok e) a b = absurd (deep_none s p p a b.0)
says-one s (Err (Deep p)) (Err (Bad q)) a b = absurd (apart s q p b a)
says-one s (Err (Deep p)) (Err (Deep q)) a b = ap (λ (p : ℕ). Err (Deep p)) (order p q (deep-less s p q a b) (deep-less s q p b a))
says-one s (Err (Deep p)) (Err (Many q)) a b = absurd b
says-one s (Err (Many p)) g a b = absurd a
