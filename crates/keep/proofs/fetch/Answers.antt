-- The open line stays, and what was read stands at the buffer's front. Assumes nothing.
use Rattle.keep.proofs.fetch.Goals as goal
use borrow.Author.Rules.{rules}
use mathlib.Core.Path.{refl}

pub returns : goal.returns
returns c = (refl, refl, search rules, refl, search rules, c.read-g.ensures.counts.1)
