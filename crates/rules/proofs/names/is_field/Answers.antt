-- `names::is_field` meets its contract: the table's entries are the names. Assumes nothing.
use Prim.Native.Nat.{ℕ}
use Rattle.octets.specs.Text.{same}
use Rattle.rules.proofs.names.is_field.Goals as goal
use Rattle.rules.specs.Names.{field_name, fields}
use Rattle.std.proofs.Common.{Bor}
use Rattle.std.proofs.Math.ListN.{get_or-map}
use Rattle.std.proofs.lemmas.List.{get_or_default}
use mathlib.Core.List.{List, [], ◌∷◌}
use mathlib.Core.Path.{◌∙◌, ap}

pub returns : goal.returns
unfolding field_name
returns c =
    c.same.ensures ∙ ap (same c.args.s.now) (rw (← get_or-map (λ (x : Bor (List ℕ)). x.now)) (get_or_default ([] ∷ fields) c.args.k _ [] c.requires))
