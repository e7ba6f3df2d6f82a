use Rattle.std.proofs.Common.{inl, inr}
use Rattle.std.specs.Prelude.{Vec, length}
use Rattle.std.specs.declared.alloc.Global.{Global}
use Rattle.flow_matches.specs.declared.leaves.Leave.{Leave}
use Rattle.flow_matches.proofs.SideSteps.{none_left, none_right}
use Rattle.flow_matches.proofs.side.number_arrivals.Goals as goal

pub returns : goal.returns
returns c =
    elim c.in-None.ensures.steps [
      | inl none ↦ none_left (λ (v : Vec Leave Global). length v.items) c.loop-block.block-iterator.a.rest.now c.loop-block.block-iterator.b.rest.now c.loop-block.number c.loop-block.targets.items _ none.1.0 c.loop-block.invariant
      | inr none ↦ none_right (λ (v : Vec Leave Global). length v.items) c.loop-block.block-iterator.a.rest.now c.loop-block.block-iterator.b.rest.now c.loop-block.number c.loop-block.targets.items _ none.1.0 c.loop-block.invariant
    ]
