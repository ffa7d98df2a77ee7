-- What is told of a string's text on the way to `keeps` of Leaves.antt: the rules of leaves that are words, digits, dates or identifiers, asked of the text
-- (`leaf-kept` of proofs/LeafLaws.antt ties them to it), and how many characters there are (`counted` there). Assumes nothing.
use Rattle.escapes.specs.Rfc7159.{is_broken}
use Rattle.octets.specs.Class.{digits_rule}
use Rattle.particulars.specs.declared.types.Leaf.TheVariants.{Provider, LiveProvider, Sex, Text, Name, Filled, Telephone, Coordinate, Metres, Accuracy, Date, Day, FireId, UserId}
use Rattle.particulars.specs.declared.types.Leaf.{Leaf}
use Rattle.rules.specs.Date.{date_rule, day_rule}
use Rattle.rules.specs.Texts.{fire_rule, points, user_rule}
use Rattle.rules.specs.Words.{live_providers, providers, sexes}
use Rattle.std.specs.Prelude.{ℕ, Bool, false, not, ◌&&◌, cond, List, Option, Some, None}
use Rattle.values.specs.Value.{is_string, one_of, spelling_of, text_of}

unfoldable pub on_text : Leaf → List ℕ → Bool
on_text Provider t = one_of providers t
on_text LiveProvider t = one_of live_providers t
on_text Sex t = one_of sexes t
on_text (Text lo hi) t = false
on_text (Name hi) t = false
on_text Filled t = false
on_text (Telephone lo) t = digits_rule lo 15 t
on_text (Coordinate n) t = false
on_text Metres t = false
on_text Accuracy t = false
on_text Date t = date_rule t
on_text Day t = day_rule t
on_text FireId t = fire_rule t
on_text UserId t = user_rule t

-- how many characters a string's text has; none of a broken text, and of a value that is no string
unfoldable pub characters_in : List ℕ → Option ℕ
characters_in v = cond (is_string v && not (is_broken (spelling_of v))) (Some (points (text_of v))) None
