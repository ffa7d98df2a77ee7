-- What was taken before, and now, is the text's front. Assumes nothing.
use Rattle.std.proofs.Common.{rules, ◌++◌, ◌∙◌, ap, subst, sym, take}
use Rattle.std.proofs.KnownBytes.{Appends-trans}
use Rattle.std.proofs.Math.Seq.{take-add}
use Rattle.std.proofs.lemmas.List.{take_rest}
use Rattle.std.specs.Io.KnownBytes.{Appends}
use Rattle.streams.proofs.write.Goals as goal

pub loop-done-preserved-in-Ok : goal.loop-done-preserved-in-Ok
loop-done-preserved-in-Ok g c =
    let s = c.args.text.now in
    let d = c.loop-done.done in
    let n = c.in-Ok.n in
    let e = take-add d n s ∙ ap (λ r. take d s ++ take n r) (sym (take_rest s d)) in
    (search rules, subst (Appends _ _) (sym e) (Appends-trans _ _ _ _ _ c.loop-done.invariant.1 c.in-Ok.ensures.bytes))
