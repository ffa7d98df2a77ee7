-- The classes of bytes that the rules of 01 Reading name, which the contracts of `src/classes.rt` cite. Assumes nothing.
use Prim.Native.Char.{code}
use Rattle.std.specs.Prelude.{ℕ, Bool, ◌&&◌, ◌||◌, not, eqb}
use Rattle.octets.specs.Class.{among, is_alnum, is_digit, is_lower}
use Rattle.rules.specs.declared.classes.Class.{Class}
use Rattle.rules.specs.declared.classes.Class.TheVariants.{Alnum, Digit, Fire, Graphic, Label, Lower, Name, Small}

-- whether a byte is of a class: a digit; a to z; a to z or a digit; an ASCII letter or a digit;
-- of a Fire-ID, with `_`; of a Call-ID or a host, with `-` and `.`; of an organization, with `-`;
-- of a destination, 21 to 7E hex but quote and backslash
unfoldable pub holds : Class → ℕ → Bool
holds Digit b = is_digit b
holds Lower b = is_lower b
holds Small b = is_lower b || is_digit b
holds Alnum b = is_alnum b
holds Fire b = is_lower b || (is_digit b || eqb b (code "_"))
holds Name b = is_alnum b || (eqb b (code "-") || eqb b (code "."))
holds Label b = is_alnum b || eqb b (code "-")
holds Graphic b = among 33 126 b && (not (eqb b (code "\"")) && not (eqb b (code "\\")))
