use Rattle.std.proofs.Common.{◌≡◌, length, map}
use Rattle.cert_checker.specs.NodeTables.{TablesGrow}
use Rattle.cert_checker.specs.Marks.{IsMarked}
use Rattle.cert_checker.specs.Targets.{AreAcceptances, AreSteps, HasNoneElsewhere}
use Rattle.cert_checker.proofs.derivatives.steps.Given as goal

abbrev pub invariant-loop-is_needed : goal.invariant-loop-is_needed
invariant-loop-is_needed l = record {
  count : length l.list.items ≡ l.is_needed-index;
  grows : TablesGrow l.initial.tables l.tables;
  accepting : AreAcceptances l.tables l.accepting;
  steps : AreSteps l.tables l.action (IsMarked l.needed) (map (λ t. t.entries) l.list.items);
  others : HasNoneElsewhere l.needed (map (λ t. t.entries) l.list.items);
}
