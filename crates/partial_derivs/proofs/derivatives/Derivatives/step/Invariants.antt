use Rattle.std.proofs.Common.{take, map}
use Rattle.kat_model.specs.Steps.{set_out, set_next}
use Rattle.term_nodes.specs.NodeTrees.{tree_at}
use Rattle.partial_derivs.specs.Moves.{Keeps}
use Rattle.partial_derivs.specs.Working.Unions.{IsUnionBy}
use Rattle.partial_derivs.specs.Tables.{AreRight}
use Rattle.partial_derivs.proofs.derivatives.Derivatives.step.Given as goal

-- the union has the steps of the terms so far
abbrev pub invariant-loop-term : goal.invariant-loop-term
invariant-loop-term l = record {
  union : IsUnionBy l.store l.diagrams (set_out (map (tree_at l.initial.store) (take l.term-index l.terms))) (set_next (map (tree_at l.initial.store) (take l.term-index l.terms))) l.whole;
  right : AreRight l.store l.diagrams l.self;
  kept : Keeps l.initial.store l.store l.initial.diagrams l.diagrams;
}
