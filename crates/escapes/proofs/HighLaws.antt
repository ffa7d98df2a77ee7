-- A broken string's octets are not all ASCII: those of a lone surrogate are not. Assumes nothing.
use Prim.Native.Nat.{ℕ, ◌+◌, ◌/◌}
use Rattle.escapes.proofs.EncodingLaws.{three}
use Rattle.escapes.specs.Encoding.{encoded}
use Rattle.escapes.specs.Rfc7159.{Letter, is_surrogate, own, code, letters, octets_of, is_lone, spelt, lone, text, is_broken}
use Rattle.octets.proofs.ClassLaws.{all_append, among_in}
use Rattle.octets.proofs.TestLaws.{clash, or_split}
use Rattle.octets.specs.Class.{all}
use borrow.Author.Tests.{lt-leb}
use lib.Dec.{leb}
use mathlib.Core.Bool.{Bool, true, false, ◌&&◌, and-false}
use mathlib.Core.List.{List, [], ◌∷◌}
use mathlib.Core.Logic.{◌⊎◌, inl, inr}
use mathlib.Core.Path.{◌≡◌, refl}
use native.Mathlib.Omega.{arith}

abbrev is_ascii : ℕ → Bool
is_ascii b = leb b 0x7F

surrogate_high : (c : ℕ) → is_surrogate c ≡ true → all is_ascii (encoded c) ≡ false
unfolding is_surrogate all
surrogate_high c e =
    let h = among_in 0xD800 0xDFFF c e in
    rw (three c (omega arith) (omega arith), lt-leb (0xE0 + c / 4096) 0x7F (omega arith))

lone-high : (l : Letter) → is_lone l ≡ true → all is_ascii (octets_of l) ≡ false
lone-high (own b) e = clash e refl
lone-high (code c) e = surrogate_high c e

letters-high : (ls : List Letter) → lone ls ≡ true → all is_ascii (spelt ls) ≡ false
unfolding lone spelt
letters-high [] e = clash e refl
letters-high (l ∷ ls) e = rw (all_append is_ascii (octets_of l) (spelt ls)) (go (letters-high ls) (or_split (is_lone l) (lone ls) e))
  where
    go : (lone ls ≡ true → all is_ascii (spelt ls) ≡ false) → (is_lone l ≡ true) ⊎ (lone ls ≡ true) → (all is_ascii (octets_of l) && all is_ascii (spelt ls)) ≡ false
    go r (inl f) = rw (lone-high l f)
    go r (inr f) = rw (r f) (and-false (all is_ascii (octets_of l)))

pub broken-high : (s : List ℕ) → is_broken s ≡ true → all (λ b. leb b 0x7F) (text s) ≡ false
unfolding is_broken text
broken-high s e = letters-high (letters s) e
