use Rattle.partial_derivs.proofs.ByForm.{action_moves}
use Rattle.partial_derivs.proofs.forms.action_steps.Goals as goal

pub returns-clause-steps : goal.returns-clause-steps
returns-clause-steps c =
    action_moves c.intern.new.self c.args.diagrams.now c.args.action c.constant-guard.result c.in_ok-to.to (record { accepts = c.constant-accepts.result; moves = c.push.new.self })
    c.constant-accepts.ensures.function c.constant-guard.ensures.function c.in_ok-to.ensures.is_id c.in_ok-to.ensures.tree
    (rw c.new-moves.ensures.items at c.in_ok-push.ensures.items)
