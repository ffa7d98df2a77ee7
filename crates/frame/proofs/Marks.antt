-- Adding to an array on one text, computed (01 Writing, 'Adding'): a wrong byte in the definition fails here. Assumes nothing.
use Rattle.frame.specs.Edit.{added, stops_of}
use Rattle.json_text.specs.Places.{behind, elements, elements_from, follows, is_open, is_shut, left, more, past, size, spaces, last_of, is_ws}
use Rattle.octets.specs.Ascii.{ascii}
use mathlib.Core.Path.{◌≡◌, refl}

-- a comma and the new element, right after the last
pub adds : added (ascii "[ {} , [2] ]") 0 (ascii "{\"a\":3}") ≡ ascii "[ {} , [2],{\"a\":3} ]"
unfolding added stops_of last_of elements elements_from more follows past spaces behind size left is_open is_shut is_ws
adds = refl
