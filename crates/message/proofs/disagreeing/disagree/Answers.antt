-- `message::disagreeing::disagree` meets its contract. By its definition and what the callees ensure. Assumes nothing.
use Rattle.message.proofs.DisagreeLaws.{row_ten}
use Rattle.message.proofs.disagreeing.disagree.Goals as goal

pub returns : goal.returns
returns c =
    row_ten c.args.s.now c.args.k c.args.at.now c.requires.0 c.side_of-from.ensures c.side_of.ensures
    c.sides_disagree-sides.ensures c.request_disagrees-request.ensures c.response_disagrees-response.ensures
