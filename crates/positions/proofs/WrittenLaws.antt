-- What has no fault tells what is written: of a location that breaks no rule each coordinate is a written one, and its provider is one of the four. Assumes nothing.
use Prim.Native.Nat.{ℕ, suc, ◌+◌, ◌-◌, ◌≤◌, ◌<◌}
use Prim.Native.String.{String}
use Rattle.coordinates.specs.Coordinate.{coordinate_of}
use Rattle.escapes.specs.Rfc7159.{is_broken, text}
use Rattle.json_text.specs.Places.{behind, bytes, is_open, left, members, outside, part, size}
use Rattle.octets.proofs.TextLaws.{there}
use Rattle.octets.proofs.TestLaws.{and_parts}
use Rattle.octets.specs.Ascii.{ascii}
use Rattle.octets.specs.Text.{same}
use Rattle.particulars.specs.Faults.{Inner, fault_if, faults, is_needed, members_faults, object_faults, provider_in, row_faults, rows_faults, rule_faults}
use Rattle.particulars.specs.Faults.{choices, none_set}
use Rattle.particulars.specs.Fields.{any_call}
use Rattle.particulars.specs.Leaves.{is_blank, keeps, provider_of}
use Rattle.particulars.specs.Members.{repeats, values_of}
use Rattle.particulars.specs.Types.{names_of, required, eased, rows_of}
use Rattle.particulars.specs.declared.types.Call.{Call}
use Rattle.particulars.specs.declared.types.Kind.TheVariants.{CallerInformation, CallerLocation, HomeLocation, LiveLocation, PersonalInformation}
use Rattle.particulars.specs.declared.types.Kind.{Kind}
use Rattle.particulars.specs.declared.types.Leaf.TheVariants.{Coordinate, LiveProvider, Provider}
use Rattle.particulars.specs.declared.types.Leaf.{Leaf}
use Rattle.particulars.specs.declared.types.Rule.TheVariants.{Object, Value}
use Rattle.positions.specs.Objects.{home_at, home_in, millionths, or_end, place_named, value_named, values_at}
use Rattle.positions.specs.declared.objects.Home.{Home}
use Rattle.rules.specs.Pieces.{word_number, word_number_from}
use Rattle.rules.specs.Words.{live_providers, providers}
use Rattle.std.proofs.lemmas.Option.{none-some}
use Rattle.std.specs.Option.{unwrap_or}
use Rattle.std.specs.Prelude.{None, Option, Some, is_some, ℤ, pos}
use Rattle.values.specs.Value.{is_string, one_of, ruled, spelling_of, text_of, word_spelled}
use borrow.Author.Tests.{eq-eqb, eqb-false, eqb-true, ltb-true, ne_eqb}
use lib.Dec.{eqb}
use lib.ListN.{drop, get_or, length}
use lib.Seq.{drop-cons}
use mathlib.Core.Bool.{Bool, true, false, not, ◌&&◌, cond}
use mathlib.Core.List.{List, [], ◌∷◌, ◌++◌}
use mathlib.Core.Path.{◌≡◌, ap, refl, subst, sym, ◌∙◌}
use native.Mathlib.Omega.{arith}

-- Nothing at all.

pub some-left : {A : Type 0} (p : ℕ) (ps : List ℕ) → p ∷ ps ≡ [] → A
some-left p ps e = absurd (let z = ap (λ (l : List ℕ). length l) e in omega arith)

pub both-none : (a b : List ℕ) → a ++ b ≡ [] → (a ≡ []) × (b ≡ [])
both-none [] b e = (refl, e)
both-none (p ∷ a) b e = some-left p (a ++ b) e

no-fault : (b : Bool) (p : ℕ) → fault_if b p ≡ [] → b ≡ false
no-fault true p e = some-left p [] e
no-fault false p e = refl

not-false : (b : Bool) → not b ≡ false → b ≡ true
not-false true e = refl
not-false false e = sym e

-- An object without a fault.

module _ (f : Inner) (call : Call) (t : Kind) (s : List ℕ) (o : ℕ) where
  sound-object : object_faults f call t s o ≡ [] → (get_or s o 0 ≡ 123) × (members_faults f call t s o (values_of t s o) ≡ [])
  unfolding object_faults
  sound-object e = by (eqb (get_or s o 0) 123) refl e
    where
      by : (b : Bool) → eqb (get_or s o 0) 123 ≡ b → cond b (members_faults f call t s o (values_of t s o)) (o ∷ []) ≡ []
          → (get_or s o 0 ≡ 123) × (members_faults f call t s o (values_of t s o) ≡ [])
      by true h g = (eqb-true (get_or s o 0) 123 h, g)
      by false h g = some-left o [] g

  sound-rows : (at : List ℕ) → members_faults f call t s o at ≡ [] → rows_faults f call (provider_in t s at) s o at 1 (rows_of t) ≡ []
  unfolding members_faults
  sound-rows at e = (both-none (fault_if (none_set s (choices at 1 (rows_of t))) o) _ (both-none (repeats (names_of t) s [] (members s o)) _ e).1).1

module _ (f : Inner) (call : Call) (w : ℕ) (s : List ℕ) (o p : ℕ) where
  -- a required value
  sound-value : (n : String) (l : Leaf) → row_faults f call w s o p (required n (Value l)) ≡ [] → (p ≡ 0 → ⊥) × (keeps w l (bytes s p) ≡ true)
  unfolding row_faults rule_faults is_needed
  sound-value n l e = by (eqb p 0) refl e
    where
      by : (b : Bool) → eqb p 0 ≡ b → cond b (o ∷ []) (fault_if (not (keeps w l (bytes s p))) p) ≡ [] → (p ≡ 0 → ⊥) × (keeps w l (bytes s p) ≡ true)
      by true h g = some-left o [] g
      by false h g = (eqb-false p 0 h, not-false (keeps w l (bytes s p)) (no-fault (not (keeps w l (bytes s p))) p g))

  -- a required object
  sound-inner : (n : String) (t : Kind) → row_faults f call w s o p (required n (Object t)) ≡ [] → (p ≡ 0 → ⊥) × (f t p ≡ [])
  unfolding row_faults rule_faults is_needed
  sound-inner n t e = by (eqb p 0) refl e
    where
      by : (b : Bool) → eqb p 0 ≡ b → cond b (o ∷ []) (f t p) ≡ [] → (p ≡ 0 → ⊥) × (f t p ≡ [])
      by true h g = some-left o [] g
      by false h g = (eqb-false p 0 h, g)

  -- one that may be the empty string in training, and is an object
  sound-eased : (n : String) (t : Kind) → row_faults f call w s o p (eased (required n (Object t))) ≡ [] → is_blank (bytes s p) ≡ false → (p ≡ 0 → ⊥) × (f t p ≡ [])
  unfolding row_faults rule_faults is_needed
  sound-eased n t e blank = by (eqb p 0) refl call.training (rw blank at e)
    where
      by : (b : Bool) → eqb p 0 ≡ b → (d : Bool) → cond b (o ∷ []) (cond (d && false) [] (f t p)) ≡ [] → (p ≡ 0 → ⊥) × (f t p ≡ [])
      by true h d g = some-left o [] g
      by false h true g = (eqb-false p 0 h, g)
      by false h false g = (eqb-false p 0 h, g)

  -- it is there
  eased-there : (n : String) (t : Kind) → row_faults f call w s o p (eased (required n (Object t))) ≡ [] → p ≡ 0 → ⊥
  unfolding row_faults is_needed
  eased-there n t e z = some-left o [] (rw z at e)

-- Coordinates and providers.

some-is : (x : Option ℤ) → is_some x ≡ true → x ≡ Some (unwrap_or x (pos 0))
some-is (Some z) e = refl
some-is None e = absurd (let z : ◌≡◌ {A = ℕ} 0 1 = cc in omega arith)

-- w is written as a coordinate within so many degrees, which comes out
pub record Coordinate_at (degrees : ℕ) (w : List ℕ) : Type 0 where
  pub is : coordinate_of degrees w ≡ Some (millionths degrees w)

-- the own bytes of a value that is there
named : (v : List ℕ) (p : ℕ) → (p ≡ 0 → ⊥) → or_end v p ≡ p
unfolding or_end
named v p ne = rw (ne_eqb p 0 ne)

written : (v : List ℕ) (d w p : ℕ) → (p ≡ 0 → ⊥) × (keeps w (Coordinate d) (bytes v p) ≡ true) → Coordinate_at d (bytes v (or_end v p))
unfolding keeps millionths
written v d w p x = rw (named v p x.0) (record { is = some-is (coordinate_of d (bytes v p)) x.1 })

word-low : (ws : List (List ℕ)) (k : ℕ) (x : List ℕ) → 1 ≤ k → word_number_from ws k x < k + length ws
unfolding word_number_from
word-low [] k x h = omega arith
word-low (y ∷ ws) k x h = by (same x y) (word-low ws (k + 1) x (omega arith))
  where
    by : (b : Bool) → word_number_from ws (k + 1) x < k + 1 + length ws → cond b k (word_number_from ws (k + 1) x) < k + suc (length ws)
    by true h = omega arith
    by false h = omega arith

-- one of the four is told
pub record Provider_at (w : List ℕ) : Type 0 where
  pub low : 1 ≤ provider_of w
  pub high : provider_of w ≤ 4

provider-by : (w : List ℕ) → is_string w ≡ true → is_broken (spelling_of w) ≡ false → 1 ≤ word_number providers (text_of w) → Provider_at w
unfolding provider_of word_spelled text_of
provider-by w a b h =
    let z = word-low providers 1 (text (spelling_of w)) (omega arith) in
    let e : provider_of w ≡ word_number providers (text (spelling_of w)) = rw (a, b) refl in
    record { low = omega (arith, e, h); high = omega (arith, e, z) }

ruled-word : (ws : List (List ℕ)) (w : List ℕ) → ruled (one_of ws) w ≡ true
    → (is_string w ≡ true) × ((is_broken (spelling_of w) ≡ false) × (1 ≤ word_number ws (text_of w)))
unfolding ruled one_of
ruled-word ws w e =
    let a = and_parts (is_string w) _ e in
    let b = and_parts (not (is_broken (spelling_of w))) _ a.1 in
    (a.0, (not-true (is_broken (spelling_of w)) b.0, ltb-true 0 (word_number ws (text_of w)) b.1))
  where
    not-true : (b : Bool) → not b ≡ true → b ≡ false
    not-true true e = sym e
    not-true false e = refl

-- the two of a Live-Location have the same numbers
live-word : (x : List ℕ) → 1 ≤ word_number live_providers x → 1 ≤ word_number providers x
unfolding word_number_from
live-word x h = by (same x (ascii "gps")) (same x (ascii "network")) h
  where
    by : (a b : Bool) → 1 ≤ cond a 1 (cond b 2 0) → 1 ≤ cond a 1 (cond b 2 (cond (same x (ascii "preset")) 3 (cond (same x (ascii "map")) 4 0)))
    by true b h = omega arith
    by false true h = omega arith
    by false false h = absurd (omega arith)

told-by : (v : List ℕ) (w p : ℕ) → (p ≡ 0 → ⊥) × (keeps w Provider (bytes v p) ≡ true) → Provider_at (bytes v (or_end v p))
unfolding keeps
told-by v w p x = let r = ruled-word providers (bytes v p) x.1 in rw (named v p x.0) (provider-by (bytes v p) r.0 r.1.0 r.1.1)

live-by : (v : List ℕ) (w p : ℕ) → (p ≡ 0 → ⊥) × (keeps w LiveProvider (bytes v p) ≡ true) → Provider_at (bytes v (or_end v p))
unfolding keeps
live-by v w p x =
    let r = ruled-word live_providers (bytes v p) x.1 in
    rw (named v p x.0) (provider-by (bytes v p) r.0 r.1.0 (live-word (text_of (bytes v p)) r.1.1))

-- THE LAWS: a location of type t, and a home, at o: each coordinate that comes out is the written one, and the provider is one of the four
pub record Written (t : Kind) (v : List ℕ) (o : ℕ) : Type 0 where
  pub opens : get_or v o 0 ≡ 123
  pub latitude : Coordinate_at 90 (value_named t "latitude" v o)
  pub longitude : Coordinate_at 180 (value_named t "longitude" v o)

pub record Located (t : Kind) (v : List ℕ) (o : ℕ) : Type 0 where
  pub written : Written t v o
  pub provider : Provider_at (value_named t "provider" v o)

is-open : (t : Kind) (v : List ℕ) (o : ℕ) → get_or v o 0 ≡ 123 → values_of t v o ≡ values_at t v o
unfolding values_at
is-open t v o e = rw (eq-eqb (get_or v o 0) 123 e)

shown-at : (P : List ℕ → Type 0) (t : Kind) (v : List ℕ) (o k : ℕ) → get_or v o 0 ≡ 123 → P (bytes v (or_end v (get_or (values_of t v o) k 0)))
    → P (bytes v (or_end v (get_or (values_at t v o) k 0)))
shown-at P t v o k e x = subst (λ (l : List ℕ). P (bytes v (or_end v (get_or l k 0)))) (is-open t v o e) x

placed-at : (P : ℕ → Type 0) (t : Kind) (v : List ℕ) (o k : ℕ) → get_or v o 0 ≡ 123 → P (or_end v (get_or (values_of t v o) k 0))
    → P (or_end v (get_or (values_at t v o) k 0))
placed-at P t v o k e x = subst (λ (l : List ℕ). P (or_end v (get_or l k 0))) (is-open t v o e) x

module _ (v : List ℕ) (o : ℕ) where
  pub caller-located : faults 1 any_call CallerLocation v o ≡ [] → Located CallerLocation v o
  unfolding faults rows_faults rows_of place_named word_number_from same
  caller-located e =
      let f : Inner = λ u p. faults 0 any_call u v p in
      let x = sound-object f any_call CallerLocation v o e in
      let at = values_of CallerLocation v o in
      let w = provider_in CallerLocation v at in
      let r = sound-rows f any_call CallerLocation v o at x.1 in
      let r₂ = both-none (row_faults f any_call w v o (get_or at 1 0) _) _ r in
      let r₃ = both-none (row_faults f any_call w v o (get_or at 2 0) _) _ r₂.1 in
      let r₄ = both-none (row_faults f any_call w v o (get_or at 3 0) _) _ r₃.1 in
      let r₅ = both-none (row_faults f any_call w v o (get_or at 4 0) _) _ r₄.1 in
      record {
        written = record {
          opens = x.0;
          latitude = shown-at (Coordinate_at 90) CallerLocation v o 3 x.0
              (written v 90 w (get_or at 3 0) (sound-value f any_call w v o (get_or at 3 0) "latitude" (Coordinate 90) r₄.0));
          longitude = shown-at (Coordinate_at 180) CallerLocation v o 4 x.0
              (written v 180 w (get_or at 4 0) (sound-value f any_call w v o (get_or at 4 0) "longitude" (Coordinate 180) r₅.0));
        };
        provider = shown-at Provider_at CallerLocation v o 2 x.0 (told-by v w (get_or at 2 0) (sound-value f any_call w v o (get_or at 2 0) "provider" Provider r₃.0));
      }

  pub live-located : faults 1 any_call LiveLocation v o ≡ [] → Located LiveLocation v o
  unfolding faults rows_faults rows_of place_named word_number_from same
  live-located e =
      let f : Inner = λ u p. faults 0 any_call u v p in
      let x = sound-object f any_call LiveLocation v o e in
      let at = values_of LiveLocation v o in
      let w = provider_in LiveLocation v at in
      let r = sound-rows f any_call LiveLocation v o at x.1 in
      let r₂ = both-none (row_faults f any_call w v o (get_or at 1 0) _) _ r in
      let r₃ = both-none (row_faults f any_call w v o (get_or at 2 0) _) _ r₂.1 in
      let r₄ = both-none (row_faults f any_call w v o (get_or at 3 0) _) _ r₃.1 in
      record {
        written = record {
          opens = x.0;
          latitude = shown-at (Coordinate_at 90) LiveLocation v o 2 x.0
              (written v 90 w (get_or at 2 0) (sound-value f any_call w v o (get_or at 2 0) "latitude" (Coordinate 90) r₃.0));
          longitude = shown-at (Coordinate_at 180) LiveLocation v o 3 x.0
              (written v 180 w (get_or at 3 0) (sound-value f any_call w v o (get_or at 3 0) "longitude" (Coordinate 180) r₄.0));
        };
        provider = shown-at Provider_at LiveLocation v o 1 x.0 (live-by v w (get_or at 1 0) (sound-value f any_call w v o (get_or at 1 0) "provider" LiveProvider r₂.0));
      }

  pub home-written : (call : Call) → faults 1 call HomeLocation v o ≡ [] → Written HomeLocation v o
  unfolding faults rows_faults rows_of place_named word_number_from same
  home-written call e =
      let f : Inner = λ u p. faults 0 call u v p in
      let x = sound-object f call HomeLocation v o e in
      let at = values_of HomeLocation v o in
      let w = provider_in HomeLocation v at in
      let r = sound-rows f call HomeLocation v o at x.1 in
      let r₂ = both-none (row_faults f call w v o (get_or at 1 0) _) _ r in
      let r₃ = both-none (row_faults f call w v o (get_or at 2 0) _) _ r₂.1 in
      record {
        opens = x.0;
        latitude = shown-at (Coordinate_at 90) HomeLocation v o 1 x.0 (written v 90 w (get_or at 1 0) (sound-value f call w v o (get_or at 1 0) "latitude" (Coordinate 90) r₂.0));
        longitude = shown-at (Coordinate_at 180) HomeLocation v o 2 x.0
            (written v 180 w (get_or at 2 0) (sound-value f call w v o (get_or at 2 0) "longitude" (Coordinate 180) r₃.0));
      }

-- The home in Caller.

-- where an object opens no empty string stands
brace-first : (v : List ℕ) (h : ℕ) → get_or v h 0 ≡ 123 → is_blank (bytes v h) ≡ false
unfolding is_blank part behind size is_open same
brace-first v h e =
    let i = there v h 122 e in
    let d : drop h v ≡ 123 ∷ drop (suc h) v = drop-cons v h 0 i ∙ ap (λ (x : ℕ). x ∷ drop (suc h) v) e in
    let z : h + suc (left (drop (suc h) v) outside 1) - h ≡ suc (left (drop (suc h) v) outside 1) = omega arith in
    rw (d, z) refl

module _ (v : List ℕ) (call : Call) where
  abbrev person : ℕ
  person = place_named CallerInformation "personal-information" v 0

  person-sound : faults 3 call CallerInformation v 0 ≡ [] → faults 2 call PersonalInformation v person ≡ []
  unfolding faults rows_faults rows_of place_named word_number_from same
  person-sound e =
      let f : Inner = λ u p. faults 2 call u v p in
      let x = sound-object f call CallerInformation v 0 e in
      let at = values_of CallerInformation v 0 in
      let w = provider_in CallerInformation v at in
      let r = sound-rows f call CallerInformation v 0 at x.1 in
      let r₂ = both-none (row_faults f call w v 0 (get_or at 1 0) _) _ r in
      let r₃ = both-none (row_faults f call w v 0 (get_or at 2 0) _) _ r₂.1 in
      let r₄ = both-none (row_faults f call w v 0 (get_or at 3 0) _) _ r₃.1 in
      let r₅ = both-none (row_faults f call w v 0 (get_or at 4 0) _) _ r₄.1 in
      let r₆ = both-none (row_faults f call w v 0 (get_or at 5 0) _) _ r₅.1 in
      let y = sound-inner f call w v 0 (get_or at 5 0) "personal-information" PersonalInformation r₆.0 in
      placed-at (λ p. faults 2 call PersonalInformation v p ≡ []) CallerInformation v 0 5 x.0
      (subst (λ (p : ℕ). faults 2 call PersonalInformation v p ≡ []) (sym (named v (get_or at 5 0) y.0)) y.1)

  abbrev home : ℕ
  home = place_named PersonalInformation "location" v person

  home-sound : faults 2 call PersonalInformation v person ≡ [] → get_or v home 0 ≡ 123 → faults 1 call HomeLocation v home ≡ []
  unfolding faults rows_faults rows_of place_named word_number_from same
  home-sound e b =
      let f : Inner = λ u p. faults 1 call u v p in
      let x = sound-object f call PersonalInformation v person e in
      let at = values_of PersonalInformation v person in
      let w = provider_in PersonalInformation v at in
      let r = sound-rows f call PersonalInformation v person at x.1 in
      let r₂ = both-none (row_faults f call w v person (get_or at 1 0) _) _ r in
      let r₃ = both-none (row_faults f call w v person (get_or at 2 0) _) _ r₂.1 in
      let r₄ = both-none (row_faults f call w v person (get_or at 3 0) _) _ r₃.1 in
      let r₅ = both-none (row_faults f call w v person (get_or at 4 0) _) _ r₄.1 in
      let r₆ = both-none (row_faults f call w v person (get_or at 5 0) _) _ r₅.1 in
      let r₇ = both-none (row_faults f call w v person (get_or at 6 0) _) _ r₆.1 in
      let r₈ = both-none (row_faults f call w v person (get_or at 7 0) _) _ r₇.1 in
      let r₉ = both-none (row_faults f call w v person (get_or at 8 0) _) _ r₈.1 in
      let q : home ≡ or_end v (get_or at 8 0) = ap (λ (l : List ℕ). or_end v (get_or l 8 0)) (sym (is-open PersonalInformation v person x.0)) in
      let p = get_or at 8 0 in
      let ne = eased-there f call w v person p "location" HomeLocation r₉.0 in
      let h : home ≡ p = q ∙ named v p ne in
      let y = sound-eased f call w v person p "location" HomeLocation r₉.0 (brace-first v p (ap (λ (i : ℕ). get_or v i 0) (sym h) ∙ b)) in
      subst (λ (i : ℕ). faults 1 call HomeLocation v i ≡ []) (sym h) y.1

-- where the home stands in Caller
abbrev pub home_place : List ℕ → ℕ
home_place v = place_named PersonalInformation "location" v (place_named CallerInformation "personal-information" v 0)

-- THE LAW: the home of a Caller without a fault
pub home-told : (v : List ℕ) (call : Call) → faults 3 call CallerInformation v 0 ≡ [] → {h : Home} → home_in v ≡ Some h → Written HomeLocation v (home_place v)
unfolding home_in home_at
home-told v call e {h} g = by (eqb (get_or v (home_place v) 0) 123) refl _ g
  where
    by : (b : Bool) → eqb (get_or v (home_place v) 0) 123 ≡ b → (x : Home) → cond b (Some x) None ≡ Some h → Written HomeLocation v (home_place v)
    by true z x g = home-written v (home_place v) call (home-sound v call (person-sound v call e) (eqb-true (get_or v (home_place v) 0) 123 z))
    by false z x g = absurd (none-some h g)
