-- `positions::messages::home` meets its contract, by the message's kind. Assumes nothing.
use Rattle.positions.proofs.MessageLaws.{at-home, field-is, homeless}
use Rattle.positions.proofs.messages.home.Goals as goal
use Rattle.positions.specs.Objects.{home_in}
use mathlib.Core.Path.{ap, sym, ◌∙◌}

pub returns-then-not-is_request : goal.returns-then-not-is_request
returns-then-not-is_request c = homeless c.args.s.now c.args.a.now.message (sym c.is_request.ensures ∙ c.if-not-is_request.true)

pub returns : goal.returns
returns c =
    let s = c.args.s.now in
    c.home_in.ensures ∙ ap home_in (field-is s 23 c.requires c.value_part.ensures)
    ∙ at-home s c.args.a.now.message (sym c.is_request.ensures ∙ c.if-not-is_request.false)
