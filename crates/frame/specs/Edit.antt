-- The edits of an array in a text, as byte edits at the ends of its elements: what the writer's definitions cite (01 Writing: our
-- Via entry), and the laws of proofs/ArrayEdits.antt and proofs/Forwarding.antt speak of. Assumes nothing.
use Rattle.std.specs.Prelude.{ℕ, List, ◌++◌, map, take, drop}
use Rattle.octets.specs.Ascii.{ascii}
use Rattle.json_text.specs.Places.{behind, elements, last_of, prev_of}

-- where the elements of the array at o end
unfoldable pub stops_of : List ℕ → ℕ → List ℕ
stops_of s o = map (behind s) (elements s o)

-- s with x added right behind the last element of the array at o
unfoldable pub added : List ℕ → ℕ → List ℕ → List ℕ
added s o x = take (last_of (stops_of s o)) s ++ ((ascii "," ++ x) ++ drop (last_of (stops_of s o)) s)

-- s with the last element of the array at o taken off, from the end of the last but one to its own end
unfoldable pub removed : List ℕ → ℕ → List ℕ
removed s o = take (prev_of (stops_of s o)) s ++ drop (last_of (stops_of s o)) s
