-- What was written stands there, and what is answered where there is room and where there is not. Assumes nothing.
use Prim.Native.Nat.{ℕ, ◌+◌, ◌≤◌, ◌<◌}
use Rattle.answers.specs.declared.Word.TheVariants.{Pass, Repeat, Bye, Timeout, Idle, Freed, None}
use Rattle.answers.specs.declared.Word.{Word}
use Rattle.answers.specs.Answer.{spelling}
use Rattle.lines.specs.Program.{after_writing, no_room, wrote_at}
use Rattle.std.proofs.Common.{Ok, Err}
use Rattle.octets.specs.Splice.{splice, written}
use borrow.Author.Tests.{le-leb, lt-leb}
use lib.ListN.{drop, length, take}
use lib.Seq.{take-append_seam}
use mathlib.Core.List.{List}
use mathlib.Core.Path.{◌≡◌}
use native.Mathlib.Omega.{arith}

-- what was written at the front stands there
pub front-written : (o w : List ℕ) {t : List ℕ} {n : ℕ} → t ≡ written o w → n ≡ length w → take n t ≡ w
unfolding written
front-written o w e k = rw (k, e) (take-append_seam w (drop (length w) o))

pub wrote : (o : List ℕ) (at : ℕ) (w : List ℕ) → at + length w ≤ length o → (Ok (at + length w) ≡ wrote_at o at w) × (splice o at w ≡ after_writing o at w)
unfolding wrote_at after_writing
wrote o at w h = (simp (le-leb _ _ h), simp (le-leb _ _ h))

pub not-wrote : (o : List ℕ) (at : ℕ) (w : List ℕ) → length o < at + length w → (Err no_room ≡ wrote_at o at w) × (o ≡ after_writing o at w)
unfolding wrote_at after_writing
not-wrote o at w h = (simp (lt-leb _ _ h), simp (lt-leb _ _ h))

-- a word has at most seven letters
pub word-length : (w : Word) → length (spelling w) ≤ 7
word-length Pass = omega arith
word-length Repeat = omega arith
word-length Bye = omega arith
word-length Timeout = omega arith
word-length Idle = omega arith
word-length Freed = omega arith
word-length None = omega arith
