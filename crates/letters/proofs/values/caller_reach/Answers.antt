-- `values::caller_reach` meets its contract, piece by piece. Assumes nothing.
use Prim.Native.Nat.{ℕ, ◌+◌}
use Rattle.letters.proofs.JoinLaws.{fixed-is, run_is}
use Rattle.letters.proofs.values.caller_reach.Goals as goal
use Rattle.letters.specs.inner.Reach.{reach_of, run_letters}
use Rattle.octets.specs.Ascii.{ascii}
use Rattle.rules.specs.Pieces.{Piece, fixed}
use Rattle.rules.specs.Texts.{fire_id, user_id}
use Rattle.rules.specs.declared.classes.Class.TheVariants.{Alnum}
use mathlib.Core.List.{List, [], ◌∷◌}
use mathlib.Core.Path.{ap, ◌∙◌}
use native.Mathlib.Nat.{zero-add}
use native.Mathlib.Omega.{arith}

abbrev desk : List Piece
desk = fire_id ∷ fixed (ascii ".caller") ∷ []

pub returns : goal.returns
unfolding reach_of
returns c =
    let s = c.args.s.now in
    fixed-is (reach_of (user_id ∷ fixed (ascii "@") ∷ desk)) s 0 (ascii "net119:")
    (run_is 1 15 Alnum Alnum (reach_of (fixed (ascii "@") ∷ desk)) (omega arith) s 7
    (ap (λ (k : ℕ). 7 + k) (c.run_letters-user.ensures.0
    ∙ ap (run_letters 15 Alnum Alnum 0) c.rest.ensures.0))
    (fixed-is (reach_of desk) s _ (ascii "@") c.fire_reach-desk.ensures c.fixed_or-at.ensures)
    c.run_or.ensures) c.fixed_or.ensures ∙ zero-add _
