-- To and From (01 Reading, 'Rules'): what the contracts of `src/addresses.rt` cite. Assumes nothing.
use Rattle.std.specs.Prelude.{◌+◌, ℕ, Bool, ◌||◌, cond, List, ◌∷◌, [], Option, Some, None}
use Rattle.octets.specs.Ascii.{ascii}
use Rattle.rules.specs.Pieces.{Piece, piece_end, fixed, reads}
use Rattle.rules.specs.Texts.{fire_id, user_id}
use Rattle.rules.specs.declared.addresses.Address.{Address}
use Rattle.rules.specs.declared.addresses.Address.TheVariants.{Callee, Caller}

-- `net119:USER@FIRE.caller`
abbrev pub caller : List Piece
caller = fixed (ascii "net119:") ∷ user_id ∷ fixed (ascii "@") ∷ fire_id ∷ fixed (ascii ".caller") ∷ []

unfoldable pub caller_rule : List ℕ → Bool
caller_rule s = reads caller s 0

-- `net119:fire@FIRE.callee`
abbrev pub callee : List Piece
callee = fixed (ascii "net119:fire@") ∷ fire_id ∷ fixed (ascii ".callee") ∷ []

unfoldable pub callee_rule : List ℕ → Bool
callee_rule s = reads callee s 0

-- To, From: a caller's address or a callee's
unfoldable pub address_rule : List ℕ → Bool
address_rule t = caller_rule t || callee_rule t

-- where a caller's user ends: it begins at 7, behind `net119:`
unfoldable pub user_end : List ℕ → ℕ
user_end s = piece_end user_id s 7

-- where a caller's Fire-ID ends: it begins one behind the user's end
unfoldable pub caller_end : List ℕ → ℕ
caller_end s = piece_end fire_id s (user_end s + 1)

-- where a callee's Fire-ID ends: it begins at 12, behind `net119:fire@`
unfoldable pub callee_end : List ℕ → ℕ
callee_end s = piece_end fire_id s 12

-- the side of an address that keeps its rule, and where the user and the Fire-ID end
abbrev pub parts_of : List ℕ → Address
parts_of s = cond (caller_rule s) (Caller (user_end s) (caller_end s)) (Callee (callee_end s))

unfoldable pub address_of : List ℕ → Option Address
address_of s = cond (address_rule s) (Some (parts_of s)) None
