-- The end of a call, by what is true of its reply.
use Rattle.std.proofs.Common.{Result, Ok, Err, IfOk, inl, inr}
use Rattle.kat_model.specs.declared.tree.NoMemory.{NoMemory}
use Rattle.tool_inputs.specs.declared.reply.Reply.{Reply}
use Rattle.tool_inputs.specs.Steps.{ReplySpec}
use Rattle.kat_c.specs.CallEnds.{CallEnd, Given, GivesReply}

pub given_reply : (IsSo : ReplySpec) (replied : Result Reply NoMemory) (e : CallEnd) → IfOk replied (λ r. IsSo r.status r.output.items) → Given replied e → GivesReply IsSo e
given_reply IsSo (Ok r) e so given = inr (r.status, r.output.items, so, given)
given_reply IsSo (Err stop) e so given = inl given
