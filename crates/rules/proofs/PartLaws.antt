-- What callers may count on: how long a text is that keeps a rule, that the parts of an address keep the rules of their
-- own, and the ranges of the numbers that come out. The idea: a run that is cut out of its text is the same run. Assumes nothing.
use Prim.Native.Nat.{◌+◌, ◌-◌, ◌<◌, ◌≤◌, suc, ℕ}
use mathlib.Core.Bool.{Bool, ◌&&◌, ◌||◌, false, true, cond}
use mathlib.Core.List.{List, ◌∷◌, []}
use mathlib.Core.Path.{◌∙◌, ◌≡◌, ap, refl, sym}
use native.Mathlib.Nat.{zero-add}
use native.Mathlib.Omega.{arith}
use borrow.Author.Tests.{eq-eqb, eqb-true}
use lib.Dec.{eqb}
use lib.ListN.{drop, get_or, length, take}
use lib.Seq.{get_or-drop, get_or-take, length-take-le}
use Rattle.octets.proofs.ClassLaws.{among_in, in_among}
use Rattle.octets.proofs.TestLaws.{and_parts}
use Rattle.octets.specs.Ascii.{ascii}
use Rattle.octets.specs.Class.{among}
use Rattle.octets.specs.Text.{stands_at}
use Rattle.rules.proofs.AddressLaws.{callee-is, caller-is}
use Rattle.rules.specs.Address.{address_of, address_rule, callee_end, callee_rule, caller_end, caller_rule, user_end}
use Rattle.std.specs.Prelude.{None, Some}
use Rattle.rules.specs.Classes.{holds}
use Rattle.rules.specs.Pieces.{piece_end, has_piece, reads, run, run_length, within}
use Rattle.rules.specs.Texts.{call_id_rule, fire_rule, user_rule}
use Rattle.rules.specs.declared.addresses.Address.TheVariants.{Callee, Caller}
use Rattle.rules.specs.declared.classes.Class.{Class}
use Rattle.rules.specs.declared.classes.Class.TheVariants.{Alnum, Fire, Small}

-- a text that is one run is as long as the run may be
pub run_length_lem : (lo hi : ℕ) (k e : Class) (s : List ℕ) → reads (run lo hi k e ∷ []) s 0 ≡ true → (lo ≤ length s) × (length s ≤ hi)
unfolding reads has_piece piece_end within
run_length_lem lo hi k e s h =
    let n = 0 + run_length k (drop 0 s) in
    let p = and_parts (among lo hi (n - 0) && (holds e (get_or s 0 0) && holds e (get_or s (n - 1) 0))) (eqb n (length s)) h in
    let q = and_parts (among lo hi (n - 0)) (holds e (get_or s 0 0) && holds e (get_or s (n - 1) 0)) p.0 in
    let r = among_in lo hi (n - 0) q.0 in
    let w : n ≡ length s = eqb-true n (length s) p.1 in
    (omega arith, omega arith)

pub fire-length : (s : List ℕ) → fire_rule s ≡ true → (2 ≤ length s) × (length s ≤ 15)
unfolding fire_rule
fire-length s h = run_length_lem 2 15 _ _ s h

pub user-length : (s : List ℕ) → user_rule s ≡ true → (1 ≤ length s) × (length s ≤ 15)
unfolding user_rule
user-length s h = run_length_lem 1 15 _ _ s h

pub call_id_length : (s : List ℕ) → call_id_rule s ≡ true → (2 ≤ length s) × (length s ≤ 64)
unfolding call_id_rule
call_id_length s h = run_length_lem 2 64 _ _ s h

-- no more bytes are counted than there are
further-le : (t : Bool) (n m : ℕ) → n ≤ m → cond t (suc n) 0 ≤ suc m
further-le true n m h = omega arith
further-le false n m h = omega arith

pub run-le : (k : Class) (s : List ℕ) → run_length k s ≤ length s
unfolding run_length
run-le k [] = omega arith
run-le k (x ∷ s) = further-le (holds k x) (run_length k s) (length s) (run-le k s)

-- the bytes that are counted are the same bytes once they are cut out
step_cut : (k : Class) (x : ℕ) (s : List ℕ) (t : Bool) → holds k x ≡ t → run_length k (take (run_length k s) s) ≡ run_length k s
    → run_length k (take (cond t (suc (run_length k s)) 0) (x ∷ s)) ≡ cond t (suc (run_length k s)) 0
unfolding run_length
step_cut k x s true e h = rw e (ap suc h)
step_cut k x s false e h = refl

pub run-cut : (k : Class) (s : List ℕ) → run_length k (take (run_length k s) s) ≡ run_length k s
unfolding run_length
run-cut k [] = refl
run-cut k (x ∷ s) = step_cut k x s (holds k x) refl (run-cut k s)

module _ (lo hi : ℕ) (k e : Class) (s : List ℕ) (at end : ℕ) (some : 1 ≤ lo) (q : end ≡ at + run_length k (drop at s)) (h : within lo hi e s at end ≡ true) where
  pub run_in : (lo ≤ end - at) × (end - at ≤ hi)
  unfolding within
  run_in = among_in lo hi (end - at) (and_parts (among lo hi (end - at)) (holds e (get_or s at 0) && holds e (get_or s (end - 1) 0)) h).0

  first_edge : holds e (get_or s at 0) ≡ true
  unfolding within
  first_edge = (and_parts (holds e (get_or s at 0)) (holds e (get_or s (end - 1) 0))
      (and_parts (among lo hi (end - at)) (holds e (get_or s at 0) && holds e (get_or s (end - 1) 0)) h).1).0

  last_edge : holds e (get_or s (end - 1) 0) ≡ true
  unfolding within
  last_edge = (and_parts (holds e (get_or s at 0)) (holds e (get_or s (end - 1) 0))
      (and_parts (among lo hi (end - at)) (holds e (get_or s at 0) && holds e (get_or s (end - 1) 0)) h).1).1

  cut-length : length (take (end - at) (drop at s)) ≡ end - at
  cut-length = length-take-le (end - at) (drop at s) (omega (arith, run-le k (drop at s)))

  cut-first : get_or (take (end - at) (drop at s)) 0 0 ≡ get_or s at 0
  cut-first =
      get_or-take (end - at) (drop at s) 0 0 (omega (arith, run_in)) ∙ get_or-drop at s 0 0
      ∙ ap (λ (i : ℕ). get_or s i 0) (let z : at + 0 ≡ at = omega arith in z)

  cut-last : get_or (take (end - at) (drop at s)) (end - at - 1) 0 ≡ get_or s (end - 1) 0
  cut-last =
      get_or-take (end - at) (drop at s) (end - at - 1) 0 (omega (arith, run_in)) ∙ get_or-drop at s (end - at - 1) 0
      ∙ ap (λ (i : ℕ). get_or s i 0) (let z : at + (end - at - 1) ≡ end - 1 = omega (arith, run_in) in z)

  run-whole : 0 + run_length k (drop 0 (take (end - at) (drop at s))) ≡ end - at
  run-whole =
      let z : end - at ≡ run_length k (drop at s) = omega arith in
      rw z (zero-add _ ∙ run-cut k (drop at s))

  -- a run in the middle of a text is a text of its own
  pub cut-run : reads (run lo hi k e ∷ []) (take (end - at) (drop at s)) 0 ≡ true
  unfolding reads has_piece piece_end within
  cut-run =
      let z : end - at - 0 ≡ end - at = omega arith in
      rw (
        run-whole,
        z,
        cut-length,
        cut-first,
        cut-last,
        first_edge,
        last_edge,
        in_among lo hi (end - at) run_in.0 run_in.1,
        eq-eqb (end - at) (end - at) refl,
      )

-- the parts of a caller's address, and of a callee's
pub record CallerParts (s : List ℕ) (u f : ℕ) : Type 0 where
  pub user : user_rule (take (u - 7) (drop 7 s)) ≡ true
  pub fire : fire_rule (take (f - (u + 1)) (drop (u + 1) s)) ≡ true
  pub starts : 7 < u
  pub goes_on : u + 2 < f
  pub ends : f + 7 ≡ length s

pub record CalleeParts (s : List ℕ) (f : ℕ) : Type 0 where
  pub fire : fire_rule (take (f - 12) (drop 12 s)) ≡ true
  pub goes_on : 13 < f
  pub ends : f + 7 ≡ length s

caller-parts : (s : List ℕ) (u f : ℕ) → u ≡ user_end s → f ≡ caller_end s → caller_rule s ≡ true → CallerParts s u f
unfolding user_end caller_end piece_end user_rule fire_rule
caller-parts s u f p q h =
    let r = sym (caller-is s u f p q) ∙ h in
    let a = within 1 15 Alnum s 7 u in
    let b = stands_at s u (64 ∷ []) in
    let d = within 2 15 Small s (u + 1) f in
    let g = stands_at s f (ascii ".caller") in
    let j = eqb (f + 7) (length s) in
    let x = and_parts a (b && (d && (g && j))) (and_parts (stands_at s 0 (ascii "net119:")) (a && (b && (d && (g && j)))) r).1 in
    let y = and_parts d (g && j) (and_parts b (d && (g && j)) x.1).1 in
    let z = and_parts g j y.1 in
    let w : f ≡ (u + 1) + run_length Fire (drop (u + 1) s) = q ∙ ap (λ (i : ℕ). (i + 1) + run_length Fire (drop (i + 1) s)) (sym p) in
    let m = run_in 1 15 Alnum Alnum s 7 u (omega arith) p x.0 in
    let n = run_in 2 15 Fire Small s (u + 1) f (omega arith) w y.0 in
    record {
      user = cut-run 1 15 Alnum Alnum s 7 u (omega arith) p x.0;
      fire = cut-run 2 15 Fire Small s (u + 1) f (omega arith) w y.0;
      starts = omega arith;
      goes_on = omega arith;
      ends = eqb-true (f + 7) (length s) z.1;
    }

callee-parts : (s : List ℕ) (f : ℕ) → f ≡ callee_end s → callee_rule s ≡ true → CalleeParts s f
unfolding callee_end piece_end fire_rule
callee-parts s f q h =
    let r = sym (callee-is s f q) ∙ h in
    let d = within 2 15 Small s 12 f in
    let g = stands_at s f (ascii ".callee") in
    let j = eqb (f + 7) (length s) in
    let y = and_parts d (g && j) (and_parts (stands_at s 0 (ascii "net119:fire@")) (d && (g && j)) r).1 in
    let z = and_parts g j y.1 in
    let n = run_in 2 15 Fire Small s 12 f (omega arith) q y.0 in
    record {
      fire = cut-run 2 15 Fire Small s 12 f (omega arith) q y.0;
      goes_on = omega arith;
      ends = eqb-true (f + 7) (length s) z.1;
    }

-- what an address that is one says of its parts
module _ (s : List ℕ) where
  as_caller : (t r : Bool) (u f : ℕ) → caller_rule s ≡ t → callee_rule s ≡ r
      → cond (t || r) (Some (cond t (Caller (user_end s) (caller_end s)) (Callee (callee_end s)))) None ≡ Some (Caller u f)
      → CallerParts s u f
  as_caller true r u f h g e =
      let p : u ≡ user_end s = cc in
      let q : f ≡ caller_end s = cc in
      caller-parts s u f p q h
  as_caller false true u f h g e = absurd (let z : ◌≡◌ {A = ℕ} 0 1 = cc in omega arith)
  as_caller false false u f h g e = absurd (let z : ◌≡◌ {A = ℕ} 0 1 = cc in omega arith)

  pub caller_address_parts : (u f : ℕ) → address_of s ≡ Some (Caller u f) → CallerParts s u f
  unfolding address_of address_rule
  caller_address_parts u f e = as_caller (caller_rule s) (callee_rule s) u f refl refl e

  as_callee : (t r : Bool) (f : ℕ) → caller_rule s ≡ t → callee_rule s ≡ r
      → cond (t || r) (Some (cond t (Caller (user_end s) (caller_end s)) (Callee (callee_end s)))) None ≡ Some (Callee f)
      → CalleeParts s f
  as_callee true r f h g e = absurd (let z : ◌≡◌ {A = ℕ} 0 1 = cc in omega arith)
  as_callee false true f h g e =
      let q : f ≡ callee_end s = cc in
      callee-parts s f q g
  as_callee false false f h g e = absurd (let z : ◌≡◌ {A = ℕ} 0 1 = cc in omega arith)

  pub callee_address_parts : (f : ℕ) → address_of s ≡ Some (Callee f) → CalleeParts s f
  unfolding address_of address_rule
  callee_address_parts f e = as_callee (caller_rule s) (callee_rule s) f refl refl e
