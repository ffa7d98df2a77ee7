-- What the code hands on while it reads: the facts of the fields that a request or a response must have, each told by its rule on the way through
-- row 9; and where the parts of an address stand. `read`'s contract ties them to `reading`. Assumes nothing.
use Rattle.std.specs.declared.result.Result.{Result}
use Rattle.std.specs.declared.result.Result.TheVariants.{Ok, Err}
use Rattle.std.specs.Prelude.{ℕ, ◌+◌, ◌-◌, ◌<◌, eqb, get_or, Bool, true, false, not, ◌&&◌, cond, List, ◌≡◌, Some, Result, Ok, Err}
use Rattle.fields.specs.Field.{keeps, fault_at}
use Rattle.fields.specs.Trail.{trail_in}
use Rattle.fields.specs.declared.judging.Setting.{Setting}
use Rattle.values.specs.declared.spans.Span.{Span}
use Rattle.json_text.specs.Places.{bytes}
use Rattle.message.specs.Checks.{breaks, lowest, nine}
use Rattle.message.specs.Message.{callee_span, caller_span, code_of, field_text, first_setting, method_of, number_of, user_span}
use Rattle.message.specs.Checks.{Check}
use Rattle.fields.specs.declared.trails.Trail.{Trail}
use Rattle.message.specs.declared.envelopes.Opening.{Opening}
use Rattle.message.specs.declared.checking.Run.{Run}
use Rattle.message.specs.declared.checking.Run.TheVariants as runs
use Rattle.message.specs.declared.refusals.Refusal.TheVariants.{Rule}
use Rattle.message.specs.declared.refusals.Refusal.{Refusal}
use Rattle.message.specs.declared.facts.Facts.{Facts}
use Rattle.message.specs.declared.facts.Parties.{Parties}
use Rattle.rules.specs.Address.{address_of}
use Rattle.rules.specs.declared.addresses.Address.TheVariants as addresses
use Rattle.rules.specs.declared.addresses.Address.{Address}

-- whether a run goes by the tag, and not by the method
abbrev pub by_tag : Run → Bool
by_tag runs.Tag = true
by_tag runs.Method = false

-- row 9 on the fields from n on
unfoldable pub nine_from : List ℕ → Bool → Setting → List ℕ → ℕ → Check
nine_from s run k t n = nine s k t (lowest (breaks s run k t) n (27 - n))

-- what row 9 says of field n
unfoldable pub of_field : List ℕ → Bool → Setting → List ℕ → ℕ → Result (Unit {0}) ℕ
of_field s run k t n = cond (breaks s run k t n) (Err (fault_at k n (bytes s (get_or t n 0)))) (Ok tt)

-- what a rule says of the value at v, its fault by the place in the text: it is in bounds
abbrev pub placed : {A : Type 0} → ℕ → Result A ℕ → Result A Refusal
placed v (Ok a) = Ok a
placed v (Err p) = Err (Rule (v + p))

abbrev pub Fits : {A : Type 0} → ℕ → Result A ℕ → Type 0
Fits v (Ok a) = Unit
Fits v (Err p) = 0 < p → v + p < 0x10000000000000000

-- whether the value of field n breaks its rule
abbrev pub faulty : List ℕ → Setting → List ℕ → ℕ → Bool
faulty s k t n = not (keeps k n (bytes s (get_or t n 0)))

-- the fields 1 to 6 are asked for and there, and 7 in a response; no others are asked for
pub record Asked (s : List ℕ) (tag : ℕ) (t : List ℕ) : Type 0 where
  pub one : breaks s true (first_setting tag) t 1 ≡ faulty s (first_setting tag) t 1
  pub two : breaks s true (first_setting tag) t 2 ≡ faulty s (first_setting tag) t 2
  pub three : breaks s true (first_setting tag) t 3 ≡ faulty s (first_setting tag) t 3
  pub four : breaks s true (first_setting tag) t 4 ≡ faulty s (first_setting tag) t 4
  pub five : breaks s true (first_setting tag) t 5 ≡ faulty s (first_setting tag) t 5
  pub six : breaks s true (first_setting tag) t 6 ≡ faulty s (first_setting tag) t 6
  pub seven : breaks s true (first_setting tag) t 7 ≡ (eqb tag 2 && faulty s (first_setting tag) t 7)
  pub others : nine_from s true (first_setting tag) t 8 ≡ Ok tt

-- what the fields 1 to 3 tell, or which of them breaks its rule
abbrev pub OpeningSays : List ℕ → ℕ → List ℕ → Result Opening Refusal → Type 0
OpeningSays s tag t (Ok o) =
    (nine_from s true (first_setting tag) t 1 ≡ nine_from s true (first_setting tag) t 4)
    × ((o.number ≡ number_of s t) × ((o.method ≡ method_of s t) × ((Some o.to ≡ address_of (field_text s t 2)) × (Some o.from ≡ address_of (field_text s t 3)))))
OpeningSays s tag t (Err e) = nine_from s true (first_setting tag) t 1 ≡ Err e

-- the fields 4 to 6
abbrev pub SentSays : List ℕ → ℕ → List ℕ → Result Trail Refusal → Type 0
SentSays s tag t (Ok trail) =
    (nine_from s true (first_setting tag) t 4 ≡ nine_from s true (first_setting tag) t 7) × (trail ≡ trail_in (bytes s (get_or t 6 0)))
SentSays s tag t (Err e) = nine_from s true (first_setting tag) t 4 ≡ Err e

-- the field 7, of a response
abbrev pub ToldSays : List ℕ → ℕ → List ℕ → Result ℕ Refusal → Type 0
ToldSays s tag t (Ok code) = (nine_from s true (first_setting tag) t 7 ≡ Ok tt) × (code ≡ code_of s tag (get_or t 7 0))
ToldSays s tag t (Err e) = nine_from s true (first_setting tag) t 7 ≡ Err e

-- what they all tell
pub record FactsOf (s : List ℕ) (tag : ℕ) (t : List ℕ) (f : Facts) : Type 0 where
  pub numbered : f.number ≡ number_of s t
  pub methodic : f.method ≡ method_of s t
  pub meant : Some f.to ≡ address_of (field_text s t 2)
  pub sent : Some f.from ≡ address_of (field_text s t 3)
  pub trailed : f.trail ≡ trail_in (bytes s (get_or t 6 0))
  pub coded : f.code ≡ code_of s tag (get_or t 7 0)

abbrev pub EnvelopeSays : List ℕ → ℕ → List ℕ → Result Facts Refusal → Type 0
EnvelopeSays s tag t (Ok f) = (nine_from s true (first_setting tag) t 1 ≡ Ok tt) × FactsOf s tag t f
EnvelopeSays s tag t (Err e) = nine_from s true (first_setting tag) t 1 ≡ Err e

-- the parts of an address stand one behind the other
abbrev pub Placed : Address → Type 0
Placed (addresses.Caller user fire) = user < fire
Placed (addresses.Callee fire) = Unit

-- the two parties: the caller's address is a, spelled at v, and the callee's b, at w
pub record PartiesOf (v : Span) (a : Address) (w : Span) (b : Address) (p : Parties) : Type 0 where
  pub caller : p.calleraddress ≡ v
  pub callee : p.calleeaddress ≡ w
  pub users : p.user ≡ user_span (Some a)
  pub callers : p.callerfire ≡ caller_span (Some a)
  pub callees : p.calleefire ≡ callee_span (Some b)
