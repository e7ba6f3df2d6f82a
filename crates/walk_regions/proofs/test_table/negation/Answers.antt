use Rattle.term_nodes.specs.declared.TestNode.TheVariants.{Not}
use Rattle.walk_regions.proofs.StoredTests.{interned, not_node}
use Rattle.walk_regions.proofs.test_table.negation.Goals as goal

pub returns-clause-test : goal.returns-clause-test
returns-clause-test c =
    interned c.args.store.now c.intern_test.new.self (Not c.args.a) c.intern_test.result _ (λ id is tree n f own. not_node c.args.store.now c.intern_test.new.self n c.args.a id f own is tree) c.intern_test.ensures.tree c.intern_test.ensures.is_id
