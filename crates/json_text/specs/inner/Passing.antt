-- What a caller asks who walks an array or an object himself, a string or a member at a time: whether it is JSON there, as the machine says it of a value
-- by itself, and where its parts stand; of a member with room for so many values, and how many are left. Each definition is total, on any bytes and at any
-- place. The contracts of `src/passing.rt` cite these. Inner: by `string-passed`, `string-stuck`, `member-passed` and `member-stuck` in
-- proofs/PassLaws.antt the places are those of `Places` where the machine goes on, and there is none where it stops. Assumes nothing.
use Prim.Native.Char.{code}
use Rattle.std.specs.Prelude.{ℕ, ◌+◌, eqb, get_or, Bool, true, false, ◌||◌, cond, List, Ok, Err, Option, Some, None}
use Rattle.json_text.specs.inner.Machine.{one}
use Rattle.json_text.specs.inner.Tour.{Toured, lone}
use Rattle.json_text.specs.Places.{past}
use Rattle.json_text.specs.declared.passing.Visit.{Visit}
use Rattle.std.specs.Result.{result_ok}

-- whether a reader of values came to its end
abbrev pub is_end : Toured → Bool
is_end (Ok (e, n)) = true
is_end (Err f) = false

-- behind the string that opens at q, if one does. It needs no level.
unfoldable pub passed : List ℕ → ℕ → Option ℕ
passed s q = result_ok (one 0 s q)

-- what may follow a member: a comma or the closing brace
abbrev pub is_next : ℕ → Bool
is_next b = eqb b (code ",") || eqb b (code "}")

-- the member with its name up to e and its value at v, if the value came to its end and is followed as a member's is
abbrev pub followed : List ℕ → ℕ → ℕ → Toured → Option Visit
followed s e v (Ok (w, n)) =
    cond (is_next (get_or s (past s w) 0)) (Some (record { member = record { name = e; value = v; end = w; then = past s w }; room = n })) None
followed s e v (Err f) = None

-- the member with its name up to e, if there is such a name and a colon and a value come behind it
abbrev pub labelled : ℕ → ℕ → List ℕ → Option ℕ → Option Visit
labelled left room s None = None
labelled left room s (Some e) =
    cond (eqb (get_or s (past s e) 0) (code ":")) (followed s e (past s (past s e + 1)) (lone left room s (past s (past s e + 1)))) None

-- the member whose name opens at q, with so many levels left in its object and room for so many values
unfoldable pub passed_member : ℕ → ℕ → List ℕ → ℕ → Option Visit
passed_member left room s q = labelled left room s (passed s q)
