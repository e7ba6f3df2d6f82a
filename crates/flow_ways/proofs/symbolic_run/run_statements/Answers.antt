use Rattle.std.proofs.Common.{map}
use Rattle.flow_model.specs.Polish.{statement_of}
use Rattle.flow_ways.specs.Ways.{after_statements}
use Rattle.flow_ways.specs.Outcomes.{statements_fit}
use Rattle.flow_ways.specs.CourseTrees.{course_tree}
use Rattle.flow_ways.proofs.CourseLists.{still_first}
use Rattle.flow_ways.proofs.Courses.{still_after, still_fits}
use Rattle.flow_ways.proofs.symbolic_run.run_statements.Goals as goal

pub statements-preserved : goal.statements-preserved
statements-preserved c =
    let sorts = c.args.sorts.now in
    let left = c.statements.rest.now in
    let others = c.in-Some.field-0-1.now in
    let first = course_tree c.args.symbolic_run.now in
    let old = course_tree c.statements.symbolic_run in
    let mid = course_tree c.run_statement.new.symbolic_run in
    let before = c.statements.invariant.grown in
    let more = c.in_ok-goes.ensures.grown in
    record {
      after = still_after sorts left others c.in-Some.statement.now old mid c.in_ok-goes.goes (after_statements sorts (map statement_of c.args.statements.now) first) c.in-Some.ensures.cases.0 c.if-not-goes.false c.in_ok-goes.ensures.after c.statements.invariant.after;
      fits = still_fits sorts left others c.in-Some.statement.now old mid c.in_ok-goes.goes (statements_fit sorts c.args.statements.now first) c.in-Some.ensures.cases.0 c.if-not-goes.false c.in_ok-goes.ensures.after c.in_ok-goes.ensures.fits c.statements.invariant.fits;
      grown = (still_first first.facts old.facts mid.facts before.0 more.0, still_first first.tests old.tests mid.tests before.1 more.1);
    }
