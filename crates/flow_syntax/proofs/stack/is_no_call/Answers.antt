use Rattle.flow_syntax.proofs.Taken.{no_call_held, call_held}
use Rattle.flow_syntax.proofs.stack.is_no_call.Goals as goal

pub returns-in-NoCall : goal.returns-in-NoCall
returns-in-NoCall c = no_call_held c.args.value.now c.in-NoCall.is

pub returns-in_default : goal.returns-in_default
returns-in_default c = call_held c.args.value.now c.in_default.not-NoCall
