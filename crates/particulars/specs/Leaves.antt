-- The rules of single values of the particulars (02 §4), each on the value's own bytes. A string is judged by its text (02 §2): lengths are counted in its
-- characters, and a lone surrogate breaks it. Assumes nothing.
use Prim.Native.Char.{code}
use Rattle.coordinates.specs.Coordinate.{coordinate_of}
use Rattle.octets.specs.Ascii.{ascii}
use Rattle.octets.specs.Class.{among, digits_rule}
use Rattle.octets.specs.Text.{same}
use Rattle.particulars.specs.declared.types.Leaf.TheVariants.{Provider, LiveProvider, Sex, Text, Name, Filled, Telephone, Coordinate, Metres, Accuracy, Date, Day, FireId, UserId}
use Rattle.particulars.specs.declared.types.Leaf.{Leaf}
use Rattle.rules.specs.Date.{date_rule, day_rule}
use Rattle.rules.specs.Texts.{fire_rule, points, user_rule}
use Rattle.rules.specs.Words.{live_providers, providers, sexes}
use Rattle.std.specs.Option.{is_some}
use Rattle.std.specs.Prelude.{ℕ, eqb, ltb, get_or, length, Bool, not, ◌&&◌, ◌||◌, cond, List}
use Rattle.values.specs.Value.{is_string, one_of, ruled, spelling_of, word_spelled}

-- lo to hi characters
unfoldable pub text_rule : ℕ → ℕ → List ℕ → Bool
text_rule lo hi t = among lo hi (points t)

-- one character or more
unfoldable pub filled_rule : List ℕ → Bool
filled_rule t = ltb 0 (points t)

-- whole metres: `0`, or digits that begin with no zero
unfoldable pub metres_rule : List ℕ → Bool
metres_rule v = same v (ascii "0") || (not (eqb (get_or v 0 0) (code "0")) && digits_rule 1 (length v) v)

-- the empty string, which nothing else spells
unfoldable pub is_blank : List ℕ → Bool
is_blank v = same v (ascii "\"\"")

-- a provider by its number: 1 gps, 2 network, 3 preset, 4 map; 0 where a value is none of them
unfoldable pub provider_of : List ℕ → ℕ
provider_of v = cond (is_string v) (word_spelled providers (spelling_of v)) 0

-- the number of `preset`
abbrev pub preset : ℕ
preset = 3

-- preset and map: a place that is given, and not measured
unfoldable pub is_given : ℕ → Bool
is_given w = among 3 4 w

-- whole metres; `0` where the provider is preset or map
unfoldable pub accuracy_rule : ℕ → List ℕ → Bool
accuracy_rule w v = metres_rule v && (not (is_given w) || same v (ascii "0"))

-- how many characters a location's name has at least: a preset's is not empty
unfoldable pub least_name : ℕ → ℕ
least_name w = cond (eqb w preset) 1 0

-- whether a value keeps its rule, in an object whose provider has the number w
unfoldable pub keeps : ℕ → Leaf → List ℕ → Bool
keeps w Provider v = ruled (one_of providers) v
keeps w LiveProvider v = ruled (one_of live_providers) v
keeps w Sex v = ruled (one_of sexes) v
keeps w (Text lo hi) v = ruled (text_rule lo hi) v
keeps w (Name hi) v = ruled (text_rule (least_name w) hi) v
keeps w Filled v = ruled filled_rule v
keeps w (Telephone lo) v = ruled (digits_rule lo 15) v
keeps w (Coordinate n) v = is_some (coordinate_of n v)
keeps w Metres v = metres_rule v
keeps w Accuracy v = accuracy_rule w v
keeps w Date v = ruled date_rule v
keeps w Day v = ruled day_rule v
keeps w FireId v = ruled fire_rule v
keeps w UserId v = ruled user_rule v
