use Rattle.test_diagrams.specs.Working.Operations.{weight_of}
use Rattle.test_diagrams.proofs.diagrams.Diagrams.+apply.Given as goal

abbrev pub decreases-apply : goal.decreases-apply
decreases-apply l = weight_of l.operation
