-- Strings without a backslash: such a string is its own text. Plain bytes have none, as those of a text that keeps a rule are (`rules`' PlainLaws). And the
-- search for a backslash. Assumes nothing.
use Prim.Native.Nat.{ℕ, suc}
use Rattle.escapes.specs.Rfc7159.{letter_of, took, letters_from, spelt, lone, text, is_broken, spells}
use Rattle.escapes.specs.Text.{escaped}
use Rattle.octets.proofs.TestLaws.{and_parts, or-none}
use Rattle.octets.specs.Class.{all}
use Rattle.octets.specs.Text.{before, here, same}
use Rattle.rules.proofs.PlainLaws.{is_plain, plain_byte}
use borrow.Author.Tests.{lt-ltb, le-leb}
use lib.Dec.{eqb, leb, ltb, leb-suc-suc}
use lib.ListN.{length}
use mathlib.Core.Bool.{Bool, true, false, ◌||◌}
use mathlib.Core.List.{List, [], ◌∷◌, ◌++◌, append-nil}
use mathlib.Core.Path.{◌≡◌, refl, sym, ap, ◌∙◌}
use native.Mathlib.Omega.{arith}

-- Bytes without a backslash in front of any others.

pub plain-front : (a b : List ℕ) → escaped a ≡ false → text (a ++ b) ≡ a ++ text b
unfolding escaped text letters_from letter_of took spelt
plain-front [] b e = refl
plain-front (x ∷ a) b e =
    let p = or-none (eqb x 92) (escaped a) e in
    rw p.0 (ap (λ (l : List ℕ). x ∷ l) (plain-front a b p.1))

plain-front-broken : (a b : List ℕ) → escaped a ≡ false → is_broken (a ++ b) ≡ is_broken b
unfolding escaped is_broken letters_from letter_of took lone
plain-front-broken [] b e = refl
plain-front-broken (x ∷ a) b e =
    let p = or-none (eqb x 92) (escaped a) e in
    rw p.0 (plain-front-broken a b p.1)

-- By themselves.

pub plain-text : (s : List ℕ) → escaped s ≡ false → text s ≡ s
unfolding text spelt letters_from
plain-text s e = ap text (sym (append-nil s)) ∙ plain-front s [] e ∙ append-nil s

pub plain-whole : (s : List ℕ) → escaped s ≡ false → is_broken s ≡ false
unfolding is_broken lone letters_from
plain-whole s e = ap is_broken (sym (append-nil s)) ∙ plain-front-broken s [] e

pub plain-spells : (s w : List ℕ) → escaped s ≡ false → same s w ≡ spells s w
unfolding spells
plain-spells s w e = rw (plain-whole s e, plain-text s e)

-- Plain bytes.

pub plain-unescaped : (s : List ℕ) → all is_plain s ≡ true → escaped s ≡ false
unfolding all escaped
plain-unescaped [] e = refl
plain-unescaped (b ∷ s) e = let p = and_parts (is_plain b) (all is_plain s) e in rw (plain_byte b p.0).slash (plain-unescaped s p.1)

pub plain-ascii : (s : List ℕ) → all is_plain s ≡ true → all (λ b. leb b 0x7F) s ≡ true
unfolding all
plain-ascii [] e = refl
plain-ascii (b ∷ s) e =
    let p = and_parts (is_plain b) (all is_plain s) e in
    rw (le-leb b 0x7F (omega (arith, (plain_byte b p.0).high))) (plain-ascii s p.1)

-- The search.

pub found : (s : List ℕ) → ltb (before 92 s) (length s) ≡ escaped s
unfolding before escaped
found [] = refl
found (b ∷ s) = go (eqb b 92) (leb-suc-suc (suc (before 92 s)) (length s) ∙ found s)
  where
    go : (t : Bool) → ltb (suc (before 92 s)) (suc (length s)) ≡ escaped s → ltb (here t (before 92 s)) (suc (length s)) ≡ (t || escaped s)
    go true e = lt-ltb 0 (suc (length s)) (omega arith)
    go false e = e
