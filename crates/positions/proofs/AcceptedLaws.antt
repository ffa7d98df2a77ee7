-- Of an accepted message every position that comes out is the written one: its fields have kept their rules, so Locations, Caller and a location have no fault.
-- Assumes nothing.
use Prim.Native.Nat.{ℕ, zero, suc, ◌≤◌, ◌<◌}
use Rattle.fields.specs.Field.{body_field, call_of, caller_field, keeps, live_field, locations_field, names_image}
use Rattle.fields.specs.declared.judging.Setting.{Setting}
use Rattle.json_text.specs.Places.{elements}
use Rattle.message.proofs.AcceptedRows.{good-sound, is-kept, is-there, read_taken}
use Rattle.message.specs.Checks.{asks, checked}
use Rattle.message.specs.Message.{message_of, method_of, setting_of, word_at}
use Rattle.message.specs.Placing.{places_of}
use Rattle.message.specs.Reading.{reading}
use Rattle.message.specs.declared.facts.Message.{Message}
use Rattle.octets.proofs.TestLaws.{and_parts}
use Rattle.particulars.specs.Faults.{faults}
use Rattle.particulars.specs.Fields.{any_call, caller_faults, live_faults, locations_faults, locations_from, nearest, provider_at, step_back}
use Rattle.particulars.specs.Lowest.{is_sound}
use Rattle.particulars.specs.declared.types.Kind.TheVariants.{CallerLocation, HomeLocation, LiveLocation}
use Rattle.positions.proofs.MessageLaws.{at-home}
use Rattle.positions.proofs.WrittenLaws.{Located, Written, both-none, caller-located, home-told, home_place, live-located, some-left}
use Rattle.positions.specs.Positions.{field_bytes, field_place, home_of, is_live, is_request}
use Rattle.positions.specs.declared.objects.Home.{Home}
use Rattle.rules.specs.Asks.{is_in, method_asks}
use Rattle.rules.specs.Words.{content_types}
use Rattle.std.proofs.lemmas.Option.{none-some}
use Rattle.std.specs.Prelude.{Ok, Some, slice_get}
use Rattle.values.specs.Value.{is_array}
use borrow.Author.Tests.{eqb-true}
use lib.Dec.{eqb}
use mathlib.Core.Bool.{Bool, true, false, cond}
use mathlib.Core.List.{List, [], ◌∷◌, ◌++◌}
use mathlib.Core.Path.{◌≡◌, ap, refl, subst, sym, ◌∙◌}
use native.Mathlib.Omega.{arith}

none-of : (ps : List ℕ) → is_sound ps ≡ true → ps ≡ []
unfolding is_sound
none-of [] e = refl
none-of (p ∷ ps) e = absurd (let z : ◌≡◌ {A = ℕ} 0 1 = cc in omega arith)

-- A request's field that its method asks for keeps its rule.

module _ (c : ℕ) (s : List ℕ) (m : Message) (e : reading c s ≡ Ok m) (tag : m.tag ≡ 1) where
  -- what the rules see
  abbrev seen : Setting
  seen = setting_of s m.tag (places_of s)

  method-is : seen.method ≡ m.method
  unfolding message_of setting_of places_of
  method-is =
      let x = read_taken c s m e (omega arith) in
      ap (λ (t : List ℕ). method_of s t) x.accepted.places ∙ ap (λ (y : Message). y.method) x.is

  passed : checked s false seen (places_of s) ≡ Ok tt
  unfolding places_of
  passed =
      let x = read_taken c s m e (omega arith) in
      subst (λ (t : List ℕ). checked s false (setting_of s m.tag t) t ≡ Ok tt) (sym x.accepted.places) (x.accepted.more tag)

  field-kept : (n : ℕ) → 1 ≤ n → n < 27 → method_asks m.method n ≡ 1 → keeps seen n (field_bytes s n) ≡ true
  field-kept n l g a =
      let k = good-sound s false seen (places_of s) passed in
      let b : asks false seen n ≡ 1 = ap (λ (x : ℕ). method_asks x n) method-is ∙ a in
      is-kept k n l g (omega (arith, b)) (is-there k n l g b)

invite-parts : (n : ℕ) (m : Message) → is_request n m ≡ true → (m.tag ≡ 1) × (m.method ≡ n)
unfolding is_request
invite-parts n m e = let a = and_parts (eqb m.tag 1) (eqb m.method n) e in (eqb-true m.tag 1 a.0, eqb-true m.method n a.1)

-- Locations.

same-place : {a b : ℕ} → Some a ≡ Some b → a ≡ b
same-place e = cc

each-sound : (v : List ℕ) (w : ℕ) (os : List ℕ) → locations_from v w os ≡ [] → (k : ℕ) (o : ℕ) → slice_get os k ≡ Some o → faults 1 any_call CallerLocation v o ≡ []
unfolding locations_from
each-sound v w [] e k o g = absurd (none-some o g)
each-sound v w (x ∷ os) e zero o g =
    let a = both-none (faults 1 any_call CallerLocation v x ++ step_back v w x) _ e in
    subst (λ (p : ℕ). faults 1 any_call CallerLocation v p ≡ []) (same-place g) (both-none (faults 1 any_call CallerLocation v x) (step_back v w x) a.0).0
each-sound v w (x ∷ os) e (suc k) o g =
    let a = both-none (faults 1 any_call CallerLocation v x ++ step_back v w x) _ e in
    each-sound v (nearest w (provider_at v x)) os a.1 k o g

all-sound : (v : List ℕ) → locations_faults v ≡ [] → (k : ℕ) (o : ℕ) → slice_get (elements v 0) k ≡ Some o → faults 1 any_call CallerLocation v o ≡ []
unfolding locations_faults
all-sound v e = by (is_array v) e
  where
    by : (b : Bool) → cond b (locations_from v 0 (elements v 0)) (0 ∷ []) ≡ [] → (k : ℕ) (o : ℕ) → slice_get (elements v 0) k ≡ Some o
        → faults 1 any_call CallerLocation v o ≡ []
    by true g = each-sound v 0 (elements v 0) g
    by false g = some-left 0 [] g

module _ (c : ℕ) (s : List ℕ) (m : Message) (e : reading c s ≡ Ok m) where
  module _ (invite : is_request 1 m ≡ true) where
    locations-kept : locations_faults (field_bytes s 21) ≡ []
    unfolding keeps locations_field method_asks is_in
    locations-kept =
        let p = invite-parts 1 m invite in
        none-of (locations_faults (field_bytes s 21)) (field-kept c s m e p.0 21 (omega arith) (omega arith) (rw p.1 refl))

    -- THE LAW: each of Locations
    pub locations-written : (k : ℕ) {o : ℕ} → slice_get (elements (field_bytes s 21) 0) k ≡ Some o → Located CallerLocation (field_bytes s 21) o
    locations-written k {o} g = caller-located (field_bytes s 21) o (all-sound (field_bytes s 21) locations-kept k o g)

    caller-kept : caller_faults (call_of (seen c s m e (invite-parts 1 m invite).0)) (field_bytes s 23) ≡ []
    unfolding keeps caller_field method_asks is_in
    caller-kept =
        let p = invite-parts 1 m invite in
        none-of (caller_faults (call_of (seen c s m e p.0)) (field_bytes s 23)) (field-kept c s m e p.0 23 (omega arith) (omega arith) (rw p.1 refl))

    -- THE LAW: the home
    pub home-written : {h : Home} → home_of s m ≡ Some h → Written HomeLocation (field_bytes s 23) (home_place (field_bytes s 23))
    unfolding caller_faults
    home-written {h} g =
        home-told (field_bytes s 23) (call_of (seen c s m e (invite-parts 1 m invite).0)) caller-kept (at-home s m invite ∙ g)

  module _ (live : is_live s m ≡ true) where
    live-parts : (is_request 8 m ≡ true) × (word_at content_types s (field_place s 9) ≡ 5)
    unfolding is_live
    live-parts = let a = and_parts (is_request 8 m) _ live in (a.0, eqb-true (word_at content_types s (field_place s 9)) 5 a.1)

    live-kept : live_faults (field_bytes s 10) ≡ []
    unfolding keeps body_field names_image live_field method_asks is_in setting_of
    live-kept =
        let p = invite-parts 8 m live-parts.0 in
        let k = field-kept c s m e p.0 10 (omega arith) (omega arith) (rw p.1 refl) in
        none-of (live_faults (field_bytes s 10)) (rw live-parts.1 at k)

    -- THE LAW: the Live-Location
    pub live-written : Located LiveLocation (field_bytes s 10) 0
    unfolding live_faults
    live-written = live-located (field_bytes s 10) 0 live-kept
