-- Nothing, or a word and a pair. Assumes nothing.
use Rattle.showing.proofs.LocatedLaws.{put-none, put-some}
use Rattle.showing.proofs.located.put_home.Goals as goal
use Rattle.std.proofs.lemmas.Int.{to_z-of_z}
use borrow.Author.Rules.{rules}
use mir.Syntax.{w32}
use mir.Val.{SFits}

pub returns-in-None : goal.returns-in-None
returns-in-None c = put-none c.args.out.now c.args.at c.in-None.is

pub returns-in-Some : goal.returns-in-Some
returns-in-Some c =
    let h = c.in-Some.h in
    let f : SFits w32 h.latitude = search rules in
    let g : SFits w32 h.longitude = search rules in
    put-some c.args.out.now c.args.at h c.in-Some.is c.requires c.put-pair.ensures
    (rw (to_z-of_z w32 h.latitude f, to_z-of_z w32 h.longitude g) at c.put_pair.ensures)
