-- `writing::putting::put_parts` meets its contract: the parts before each make a chain (`At`), once the total is known to fit. Assumes nothing.
use Prim.Native.Nat.{ℕ, ◌+◌, ◌≤◌, ◌<◌}
use Rattle.octets.proofs.Chain.{start, more, room}
use Rattle.std.proofs.Common.{Bor}
use Rattle.std.proofs.lemmas.List.Folds.{length-flat_map-take}
use Rattle.std.proofs.Concat.{flat_map-take_more}
use Rattle.writing.proofs.PutLaws.{too_long, no_room, done}
use Rattle.writing.proofs.putting.put_parts.Goals as goal
use Rattle.writing.specs.Parts.{joined}
use lib.ListN.{length, length-append, get_or, take}
use lib.Seq.{take_all}
use mathlib.Core.List.{List, []}
use mathlib.Core.Path.{◌≡◌, refl, ap, ◌∙◌}
use native.Mathlib.Omega.{arith}

abbrev part_at : List (Bor (List ℕ)) → ℕ → List ℕ
part_at parts i = (get_or parts i (record { ref_ptr = (0, 0); now = [] })).now

fits : (parts : List (Bor (List ℕ))) (i : ℕ) → i < length parts → length (joined (take i parts)) + length (part_at parts i) ≤ length (joined parts)
fits parts i h = length-flat_map-take (λ (p : Bor (List ℕ)). p.now) parts i (record { ref_ptr = (0, 0); now = [] }) h

whole : (parts : List (Bor (List ℕ))) (i n : ℕ) → n ≡ length (joined (take i parts)) → length parts ≤ i → n ≡ length (joined parts)
whole parts i n e h = e ∙ ap (λ (ps : List (Bor (List ℕ))). length (joined ps)) (take_all i parts h)

pub returns-then-total-gt32768 : goal.returns-then-total-gt32768
returns-then-total-gt32768 c =
    let x = c.args in
    too_long x.out.now (joined x.parts.now) (length (joined x.parts.now)) refl
    (omega (arith, c.loop-part.invariant.0, fits x.parts.now c.loop-part.part-index c.loop-part-test.true, c.if-total-gt32768.true))

pub returns-then-out-total : goal.returns-then-out-total
returns-then-out-total c =
    let x = c.args in
    let l = c.loop-part in
    no_room x.out.now (joined x.parts.now) l.total (whole x.parts.now l.part-index l.total l.invariant.0 c.loop-part-test.false) l.invariant.1 c.if-out-total.true

pub loop-part-2-init : goal.loop-part-2-init
loop-part-2-init c = start c.args.out.now

pub put-at-requires : goal.put-at-requires
put-at-requires c =
    let x = c.args in
    let l = c.loop-part in
    let i = c.loop-part-2.part-index in
    let e = whole x.parts.now l.part-index l.total l.invariant.0 c.loop-part-test.false in
    room (part_at x.parts.now i) c.loop-part-2.invariant (rw length-append (omega (arith, fits x.parts.now i c.loop-part-2-test.true, e, c.if-out-total.false)))

pub loop-part-2-preserved : goal.loop-part-2-preserved
loop-part-2-preserved c =
    let x = c.args in
    let i = c.loop-part-2.part-index in
    rw (← flat_map-take_more (λ (p : Bor (List ℕ)). p.now) x.parts.now i (record { ref_ptr = (0, 0); now = [] }) c.loop-part-2-test.true)
    (more (part_at x.parts.now i) c.loop-part-2.invariant c.put-at.ensures)

pub returns : goal.returns
returns c =
    let x = c.args in
    let l = c.loop-part in
    let all = take_all c.loop-part-2.part-index x.parts.now c.loop-part-2-test.false in
    done x.out.now (joined x.parts.now) l.total (whole x.parts.now l.part-index l.total l.invariant.0 c.loop-part-test.false) l.invariant.1 c.if-out-total.false
    (rw all at c.loop-part-2.invariant)
