use Rattle.std.proofs.Common.{◌<◌, subst}
use Rattle.test_diagrams.proofs.Kept.{KeepsFunctions-itself}
use Rattle.walk_regions.proofs.QueriedTests.{queried_before, queried_now, queried_never}
use Rattle.walk_regions.proofs.querying.queries_first.Goals as goal

pub depends_on-requires-clause-id : goal.depends_on-requires-clause-id
depends_on-requires-clause-id c = c.requires.id

pub depends_on-requires-clause-test : goal.depends_on-requires-clause-test
depends_on-requires-clause-test c = subst (λ n. c.args.test < n) c.requires.tests c.requires.test

pub returns-in_err-queries-clause-kept : goal.returns-in_err-queries-clause-kept
returns-in_err-queries-clause-kept c = c.in_err-queries.ensures.kept

pub returns-then-queried-test-clause-queries : goal.returns-then-queried-test-clause-queries
returns-then-queried-test-clause-queries c = queried_before c.args.diagrams.now c.args.id c.args.queried.now c.args.test c.requires.test c.if-queried-test.true

pub returns-then-queried-test-clause-kept : goal.returns-then-queried-test-clause-kept
returns-then-queried-test-clause-kept c = KeepsFunctions-itself c.args.diagrams.now

pub returns-then-queries-clause-queries : goal.returns-then-queries-clause-queries
returns-then-queries-clause-queries c = queried_now c.depends_on.new.diagrams c.args.id c.args.queried.now c.args.test c.requires.test c.if-queried-test.false c.in_ok-queries.queries

pub returns-then-queries-clause-kept : goal.returns-then-queries-clause-kept
returns-then-queries-clause-kept c = c.in_ok-queries.ensures.kept

pub returns-else-queries-clause-queries : goal.returns-else-queries-clause-queries
returns-else-queries-clause-queries c = queried_never c.depends_on.new.diagrams c.args.id c.args.queried.now c.args.test c.requires.test c.if-queried-test.false c.in_ok-queries.queries c.if-queries.false c.in_ok-queries.ensures.free

pub returns-else-queries-clause-kept : goal.returns-else-queries-clause-kept
returns-else-queries-clause-kept c = c.in_ok-queries.ensures.kept
