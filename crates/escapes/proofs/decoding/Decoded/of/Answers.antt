-- `escapes::decoding::Decoded::of` meets its contract. Assumes nothing.
use Rattle.escapes.proofs.KeptLaws.{decoded-kept, own-kept}
use Rattle.escapes.proofs.decoding.Decoded.of.Goals as goal
use Rattle.escapes.specs.Rfc7159.{text}
use mathlib.Core.Path.{sym, ◌∙◌}

pub returns-then-is_escaped : goal.returns-then-is_escaped
returns-then-is_escaped g c = decoded-kept g.row.N (text c.args.raw.now) c.decode-count.ensures

pub returns : goal.returns
returns g c = own-kept g.row.N c.args.raw.now _ (sym c.is_escaped.ensures ∙ c.if-is_escaped.false) c.min.ensures c.copy_from_slice.ensures.after
