use Rattle.tool_explain.proofs.Refuted.{found_side}
use Rattle.tool_explain.proofs.explain.left_relates.Goals as goal

pub returns : goal.returns
returns c = rw c.is_left.ensures (found_side c.args.problem.now c.args.string.now c.in_ok-finding.finding c.requires c.in_ok-finding.ensures)
