use Rattle.std.proofs.Common.{sym, ap, ◌∙◌, subst}
use Rattle.cert_checker.specs.NodeTables.{ArePrimsBelow, tables_of}
use Rattle.cert_checker.proofs.pass.Pass.of.Goals as goal

pub of-requires : goal.of-requires
of-requires c = subst (λ n. ArePrimsBelow n c.args.cert.now.test_nodes) (sym c.tests.ensures.value) c.requires.tests

pub numbers_of-requires : goal.numbers_of-requires
numbers_of-requires c = record {
  problem = c.tests.ensures.within;
  tables = c.in_ok-tables.ensures.tables;
  nodes = c.in_ok-tables.ensures.nodes ∙ ap (λ k. tables_of k c.args.cert.now) c.tests.ensures.value;
}

pub returns-clause-pass : goal.returns-clause-pass
returns-clause-pass c = c.in_ok-parts.ensures c.args.index.now c.requires.index
