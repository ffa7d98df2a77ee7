-- The definitions of `Places` at work on small texts: escapes and brackets in strings, white space, numbers, nesting, an object's members, an array's
-- elements, and bytes that are no JSON. Assumes nothing.
use mathlib.Core.Path.{◌≡◌, refl}
use mathlib.Core.List.{[], ◌∷◌, map}
use Rattle.octets.specs.Ascii.{ascii}
use Rattle.octets.specs.Class.{all}
use Rattle.json_text.specs.Places.{part, spaces, past, is_open, is_shut, is_mark, left, unmarked, size, behind, bytes, closing, raw, next, value_of, follows, more}
use Rattle.json_text.specs.Places.{member_at, members_from, members, elements_from, elements, spell, is_ws}
use Rattle.json_text.specs.inner.Derived.{shorn, bare}

-- a string with an escaped quote, and one that is not closed
escaped-quote : behind (ascii "[\"a\\\"b\", 1]") 1 ≡ 7
unfolding behind size left is_open is_shut is_mark unmarked is_ws
escaped-quote = refl

not-closed : behind (ascii "\"ab\\") 0 ≡ 4
unfolding behind size left is_open is_shut is_mark unmarked is_ws
not-closed = refl

-- brackets in strings do not count
in_strings : behind (ascii "[[\"]\"],{\"}\":1}] ") 0 ≡ 15
unfolding behind size left is_open is_shut is_mark unmarked is_ws
in_strings = refl

-- a number ends before a mark
a-number : behind (ascii "[-1.5e3 ,2]") 1 ≡ 7
unfolding behind size left is_open is_shut is_mark unmarked is_ws
a-number = refl

-- the members of an object, and the elements of an array
two-members : map (spell (ascii "[\"x\",{ \"a\" : 1, \"b\":[\"},\"] }]")) (members (ascii "[\"x\",{ \"a\" : 1, \"b\":[\"},\"] }]") 5) ≡ (ascii "a", ascii "1")
    ∷ (ascii "b", ascii "[\"},\"]") ∷ []
unfolding behind size left is_open is_shut is_mark unmarked is_ws spaces past part closing raw next value_of follows more member_at members_from members
two-members = refl

three-elements : map (bytes (ascii " [ {} ,\"a\", [1,2] ]")) (elements (ascii " [ {} ,\"a\", [1,2] ]") 1) ≡ ascii "{}" ∷ ascii "\"a\"" ∷ ascii "[1,2]" ∷ []
unfolding behind size left is_open is_shut is_mark unmarked is_ws spaces past part follows more elements_from elements
three-elements = refl

none_at_all : elements (ascii "[ ]") 0 ≡ []
unfolding is_ws spaces past elements
none_at_all = refl

-- white space around
without_space : bare (ascii " [1 ] ") ≡ ascii "[1 ]"
unfolding bare shorn spaces is_ws all
without_space = refl
