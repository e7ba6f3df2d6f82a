-- Outcomes of steps, combined.
use Rattle.std.proofs.Common.{◌≡◌, ℕ, List, Option, Err, Vec, Result, Ok, IfOk, sym, subst}
use Rattle.std.specs.declared.alloc.Global.{Global}
use Rattle.kat_model.specs.declared.tree.NoMemory.{NoMemory as OutOfMemory}
use Rattle.kat_io.specs.Gets.{IsCounted}
use Rattle.kat_io.specs.declared.outside.GetFault.{GetFault}
use Rattle.kat_io.specs.declared.outside.GetFault.TheVariants.{TooLong}
use Rattle.tool_inputs.specs.declared.reply.Reply.{Reply}
use Rattle.tool_inputs.specs.declared.reply.EarlyEnd.{EarlyEnd}
use Rattle.tool_inputs.specs.declared.reply.EarlyEnd.TheVariants.{NoMemory, Replied}
use Rattle.tool_inputs.specs.Steps.{ReplySpec}
use Rattle.tool_inputs.specs.ReplySpecs.{EndsWith, Yields, RepliesWith, settled}

pub EndsWith-weaker : (IsSo IsToo : ReplySpec) → ((status : ℕ) (output : List ℕ) → IsSo status output → IsToo status output) → (stop : EarlyEnd) → EndsWith IsSo stop → EndsWith IsToo stop
EndsWith-weaker IsSo IsToo so NoMemory s = tt
EndsWith-weaker IsSo IsToo so (Replied r) s = so r.status r.output.items s

-- if there is no value to continue with
pub Yields-refused : {T : Type 0} (IsValue : T → Type 0) (IsSo IsToo : ReplySpec) → ((status : ℕ) (output : List ℕ) → IsSo status output → IsToo status output) → (result : Result T EarlyEnd) → Yields (λ x. ⊥) IsSo result → Yields IsValue IsToo result
Yields-refused IsValue IsSo IsToo so (Ok x) s = absurd s
Yields-refused IsValue IsSo IsToo so (Err stop) s = EndsWith-weaker IsSo IsToo so stop s

pub RepliesWith-weaker : (IsSo IsToo : ReplySpec) → ((status : ℕ) (output : List ℕ) → IsSo status output → IsToo status output) → (result : Result Reply EarlyEnd) → RepliesWith IsSo result → RepliesWith IsToo result
RepliesWith-weaker IsSo IsToo so (Ok r) s = so r.status r.output.items s
RepliesWith-weaker IsSo IsToo so (Err stop) s = EndsWith-weaker IsSo IsToo so stop s

-- the reply of a command that ended with a reply, or did not end early
settled_replied : (IsSo IsToo : ReplySpec) → ((status : ℕ) (output : List ℕ) → IsSo status output → IsToo status output) → (ended : Result Reply EarlyEnd) → RepliesWith IsSo ended → IfOk (settled ended) (λ r. IsToo r.status r.output.items)
settled_replied IsSo IsToo so (Ok r) s = so r.status r.output.items s
settled_replied IsSo IsToo so (Err (Replied r)) s = so r.status r.output.items s
settled_replied IsSo IsToo so (Err NoMemory) s = tt

pub into_replied : (IsSo IsToo : ReplySpec) → ((status : ℕ) (output : List ℕ) → IsSo status output → IsToo status output) → (ended : Result Reply EarlyEnd) (result : Result Reply OutOfMemory) → result ≡ settled ended → RepliesWith IsSo ended → IfOk result (λ r. IsToo r.status r.output.items)
into_replied IsSo IsToo so ended result is s = subst (λ x. IfOk x (λ r. IsToo r.status r.output.items)) (sym is) (settled_replied IsSo IsToo so ended s)

-- a get that is refused for its length does not change the count; a get that fails increases it and records the name
pub counted_past : (fault : GetFault) (file : List ℕ) (before now : ℕ) (last next : Option (List ℕ)) → fault ≡ TooLong → IsCounted {T = Vec ℕ Global} (Err fault) file before now last next → now ≡ before
counted_past fault file before now last next e c = let counted : IsCounted {T = Vec ℕ Global} (Err TooLong) file before now last next = rw e at c in counted.0
