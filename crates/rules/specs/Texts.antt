-- The rules of single texts, in the order of 01 Reading, 'Rules': what the contracts of `src/texts.rt` cite. Assumes nothing.
use Rattle.std.specs.Prelude.{suc, ℕ, Bool, ◌&&◌, ◌||◌, cond, not, List, ◌∷◌, [], eqb, leb, length}
use Rattle.octets.specs.Ascii.{ascii}
use Rattle.octets.specs.Class.{all, among}
use Rattle.octets.specs.Text.{stands_at}
use Rattle.rules.specs.Pieces.{Piece, fixed, reads, run}
use Rattle.rules.specs.declared.classes.Class.TheVariants.{Alnum, Fire, Graphic, Label, Lower, Name, Small}

-- a Fire-ID: 2 to 15 of a to z, 0 to 9, `_`, not `_` at either end
abbrev pub fire_id : Piece
fire_id = run 2 15 Fire Small

-- a User-ID: 1 to 15 ASCII letters or digits
abbrev pub user_id : Piece
user_id = run 1 15 Alnum Alnum

-- Fire-ID; also 11 Refer-To and 12 Referred-By
unfoldable pub fire_rule : List ℕ → Bool
fire_rule s = reads (fire_id ∷ []) s 0

-- User-ID
unfoldable pub user_rule : List ℕ → Bool
user_rule s = reads (user_id ∷ []) s 0

-- Call-ID, Session-ID: 2 to 64 of ASCII letters, digits, `-`, `.`, a letter or digit at both ends
abbrev pub call_id : Piece
call_id = run 2 64 Name Alnum

unfoldable pub call_id_rule : List ℕ → Bool
call_id_rule s = reads (call_id ∷ []) s 0

-- Via: host, 1 to 253 letters, digits, `-`, `.`
unfoldable pub host_rule : List ℕ → Bool
host_rule s = reads (run 1 253 Name Name ∷ []) s 0

-- Via: destination, 1 to 64 of bytes 21 to 7E hex but quote and backslash
unfoldable pub destination_rule : List ℕ → Bool
destination_rule s = reads (run 1 64 Graphic Graphic ∷ []) s 0

-- Via: organization, 2 to 10 letters, digits, `-`, not `-` at either end
unfoldable pub organization_rule : List ℕ → Bool
organization_rule s = reads (run 2 10 Label Alnum ∷ []) s 0

-- 25, 26: Fire-ID, then `.callee`
unfoldable pub desk_rule : List ℕ → Bool
desk_rule s = reads (fire_id ∷ fixed (ascii ".callee") ∷ []) s 0

-- Message-ID behind its side: Fire-ID, `-`, one or more letters or digits
abbrev pub message_tail : List Piece
message_tail = fire_id ∷ fixed (ascii "-") ∷ run 1 64 Alnum Alnum ∷ []

-- Message-ID: `caller-` or `callee-`, its tail, 64 at most in all (house)
unfoldable pub message_id_rule : List ℕ → Bool
message_id_rule s =
    leb (length s) 64
    && (reads (fixed (ascii "caller-") ∷ message_tail) s 0 || reads (fixed (ascii "callee-") ∷ message_tail) s 0)

-- Body of an image: it starts `https://`; what follows is free
unfoldable pub image_rule : List ℕ → Bool
image_rule s = stands_at s 0 (ascii "https://")

-- a byte that begins a code point of UTF-8: any but 80 to BF hex
unfoldable pub begins_point : ℕ → Bool
begins_point b = not (among 128 191 b)

-- how many code points a text of UTF-8 has
unfoldable pub points : List ℕ → ℕ
points [] = 0
points (x ∷ xs) = cond (begins_point x) (suc (points xs)) (points xs)

-- a byte that is no line break: U+000A and U+000D are one byte each
unfoldable pub no_break : ℕ → Bool
no_break b = not (eqb b 0x0A || eqb b 0x0D)

-- 13 Refer-Memo: at most 128 code points, none of them a line break (02 §2)
unfoldable pub memo_rule : List ℕ → Bool
memo_rule s = all no_break s && leb (points s) 128

-- 20 Language: two letters a to z
unfoldable pub language_rule : List ℕ → Bool
language_rule s = reads (run 2 2 Lower Lower ∷ []) s 0
