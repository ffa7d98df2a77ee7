-- What a walk over an object's members keeps: the places of the known ones up to the first repeat, and where their values end. `all` of `Gathered`, with
-- `over` and `goes_on` of proofs/GatherLaws.antt, ties it to `noted` and `repeated` in Known.antt; and where the object is shut, by the brackets that are open
-- (`shut` of proofs/ClosingLaws.antt). Assumes nothing.
use Prim.Native.Char.{code}
use Rattle.std.specs.Prelude.{ℕ, ◌+◌, ◌<◌, eqb, drop, get_or, replicate, Bool, ◌&&◌, ◌||◌, cond, List, [], ◌∷◌, map, ◌≡◌, MatchOption, None, Option, Some}
use Rattle.fields.specs.Known.{empty, has, note, noted, repeated}
use Rattle.fields.specs.declared.hops.Members.{Members}
use Rattle.fields.specs.declared.hops.Value.{Value}
use Rattle.json_text.specs.Places.{behind, left, members, outside, past}

-- t with the values of these members, up to the first repeat
unfoldable pub noted_once : List (List ℕ) → List ℕ → List ℕ → List ℕ → List ℕ
noted_once ns s t [] = t
noted_once ns s t (q ∷ qs) = cond (has ns s t q) t (noted_once ns s (note ns s t q) qs)

-- what is gathered of the object that opens at o: its first repeat, and the places of its known members up to there; if there is none, of all
pub record Gathered (ns : List (List ℕ)) (s : List ℕ) (o twice : ℕ) (at : List ℕ) : Type 0 where
  pub first : twice ≡ repeated ns s empty (members s o)
  pub places : at ≡ noted_once ns s empty (members s o)
  pub all : twice ≡ 0 → at ≡ noted ns s empty (members s o)

-- where the value at v ends; 0 for none
abbrev pub end_at : List ℕ → ℕ → ℕ
end_at s v = cond (eqb v 0) 0 (behind s v)

-- the ends of the values at these places
unfoldable pub ends_of : List ℕ → List ℕ → List ℕ
ends_of s t = map (end_at s) t

-- e has the ends of values of which t has the places, as far as they are known; 0 stands for one that is not
pub record Ended (s t e : List ℕ) : Type 0 where
  pub ends : (n : ℕ) → 0 < get_or e n 0 → get_or e n 0 ≡ behind s (get_or t n 0)

-- where a value begins; 0 for one that is missing
abbrev pub begin_of : Option Value → ℕ
begin_of None = 0
begin_of (Some x) = x.at

-- a value that is there begins behind the first byte of v, and ends where v says
abbrev pub Found : List ℕ → Option Value → Type 0
Found v o = MatchOption o (Unit {0}) (λ x. (0 < x.at) × (x.end ≡ behind v x.at))

pub record AllFound (v : List ℕ) (m : Members) : Type 0 where
  pub host : Found v m.host
  pub destination : Found v m.destination
  pub organization : Found v m.organization

-- the places of host, destination and organization by number, as `noted` lists them
abbrev pub places_in : Members → List ℕ
places_in m = 0 ∷ (begin_of m.host ∷ (begin_of m.destination ∷ (begin_of m.organization ∷ replicate 23 0)))

-- of the object that opens at o nothing but its own brace is open at p
pub record Open (v : List ℕ) (o p : ℕ) : Type 0 where
  pub to-go : behind v o ≡ p + left (drop p v) outside 1

-- a member has a colon behind its name, and a value that opens with a quote or a bracket
unfoldable pub plain : List ℕ → ℕ → ℕ → Bool
plain v name value =
    eqb (get_or v (past v name) 0) (code ":")
    && (eqb (get_or v value 0) (code "\"") || (eqb (get_or v value 0) (code "[") || eqb (get_or v value 0) (code "{")))
