-- CSeq (01 Reading, 'Rules'): what the contracts of `src/sequences.rt` cite. Assumes nothing.
use Rattle.std.specs.Prelude.{◌+◌, ℕ, Bool, cond, List, ◌∷◌, [], drop, Option, Some, None}
use Rattle.octets.specs.Ascii.{ascii}
use Rattle.rules.specs.Names.{methods}
use Rattle.rules.specs.Pieces.{Piece, piece_end, count, fixed, word_number, reads, decimal_at, word}
use Rattle.rules.specs.declared.sequences.Sequence.{Sequence}

-- decimal 1 to 4294967295, no leading zero
abbrev pub sequence_number : Piece
sequence_number = count 4294967295

-- that number, one space, one of the methods
abbrev pub sequence : List Piece
sequence = sequence_number ∷ fixed (ascii " ") ∷ word methods ∷ []

unfoldable pub sequence_rule : List ℕ → Bool
sequence_rule s = reads sequence s 0

-- the place behind the number
unfoldable pub number_end : List ℕ → ℕ
number_end s = piece_end sequence_number s 0

-- the number of a CSeq
unfoldable pub cseq_number : List ℕ → ℕ
cseq_number s = decimal_at (number_end s) s 0

-- the code of its method
unfoldable pub cseq_method : List ℕ → ℕ
cseq_method s = word_number methods (drop (number_end s + 1) s)

-- number and method of a CSeq that keeps its rule
unfoldable pub sequence_of : List ℕ → Option Sequence
sequence_of s = cond (sequence_rule s) (Some (record { number = cseq_number s; method = cseq_method s })) None
