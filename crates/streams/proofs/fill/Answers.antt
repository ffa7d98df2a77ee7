-- What is read into the rest of the buffer stands behind what was read before. Assumes nothing.
use Rattle.std.proofs.Common.{◌≡◌, ℕ, ◌+◌, ◌≤◌, List, ◌++◌, rules, length, take, ap, ◌∙◌, subst, sym, drop, le_refl, drop_at, length-take-le}
use Rattle.std.proofs.KnownBytes.{Consumes-trans}
use Rattle.std.proofs.Math.Seq.{take-add, take-append-le}
use Rattle.std.proofs.lemmas.Slice.{take-put_mid_below}
use Rattle.std.specs.Io.KnownBytes.{Consumes}
use Rattle.streams.proofs.fill.Goals as goal
use borrow.Rule.Slice.PartMut.{post_of, put_mid}

behind : (a k n : ℕ) (xs ys : List ℕ) → a ≤ length xs → n ≤ length ys → take a xs ++ take n ys ≡ take (a + n) (put_mid a k xs ys)
behind a k n xs ys within fits =
    let put = put_mid a k xs ys in
    let after = post_of a k xs in
    let front = take-put_mid_below _ _ _ _ _ (le_refl a) within in
    let rest = ap (take n) (drop_at (take a xs) (ys ++ after) a (length-take-le a xs within)) ∙ take-append-le n ys after fits in
    sym (take-add a n put ∙ ap (λ l. l ++ take n (drop a put)) front ∙ ap (λ l. take a xs ++ l) rest)

pub loop-n-preserved : goal.loop-n-preserved
loop-n-preserved g c =
    let i = c.loop-n.invariant in
    let before = c.loop-n.buf in
    let new = c.read-got.new.buf in
    let k = c.read-got.result.n in
    let fits : k ≤ length new = search rules in
    (search rules, search rules, subst (Consumes _ _) (behind c.loop-n.n _ k before new i.0 fits) (Consumes-trans _ _ _ _ _ i.2 c.read-got.ensures.bytes))
