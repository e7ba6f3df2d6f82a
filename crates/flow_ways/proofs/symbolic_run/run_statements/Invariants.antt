use Rattle.std.proofs.Common.{◌≡◌, length, map}
use Rattle.flow_model.specs.Polish.{statement_of}
use Rattle.flow_ways.specs.Ways.{after_statements}
use Rattle.flow_ways.specs.Outcomes.{statements_fit}
use Rattle.flow_ways.specs.CourseTrees.{course_tree, IsGrown}
use Rattle.flow_ways.proofs.symbolic_run.run_statements.Given as goal

-- the course so far, and the statements that are left
abbrev pub invariant-statements : goal.invariant-statements
invariant-statements l =
    record {
      after : after_statements l.sorts (map statement_of l.rest) (course_tree l.symbolic_run) ≡ after_statements l.sorts (map statement_of l.statements) (course_tree l.initial.symbolic_run);
      fits : statements_fit l.sorts l.rest (course_tree l.symbolic_run) ≡ statements_fit l.sorts l.statements (course_tree l.initial.symbolic_run);
      grown : IsGrown (course_tree l.initial.symbolic_run) (course_tree l.symbolic_run);
    }

abbrev pub decreases-statements : goal.decreases-statements
decreases-statements l = length l.rest
