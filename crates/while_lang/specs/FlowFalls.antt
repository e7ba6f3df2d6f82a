-- A flow has more statements than each flow nested in it.
use Rattle.std.specs.Prelude.{◌≤◌, List, [], ◌∷◌}
use Rattle.std.proofs.Common.{arith}
use denote.Param.Weighed.{most}
use Rattle.while_lang.specs.Flows.{statements}
use Rattle.while_lang.specs.FlowViews.{flows_tree}
use Rattle.while_lang.specs.declared.flow.Flow.{Flow}
use Rattle.while_lang.specs.declared.flow.Flow.TheVariants.{Skip, Abort, Assert, Act, If, While}
use Rattle.while_lang.specs.declared.flow.Flows.TheDeep.{deep-Flow}

pub flows_fall : (fs : List Flow) → most (λ f. deep-Flow f) fs ≤ statements (flows_tree fs)
flows_fall [] = omega arith
flows_fall (Skip ∷ fs) = omega (arith, flows_fall fs)
flows_fall (Abort ∷ fs) = omega (arith, flows_fall fs)
flows_fall (Assert b ∷ fs) = omega (arith, flows_fall fs)
flows_fall (Act a ∷ fs) = omega (arith, flows_fall fs)
flows_fall (If b f g ∷ fs) = omega (arith, flows_fall fs)
flows_fall (While b f ∷ fs) = omega (arith, flows_fall fs)
