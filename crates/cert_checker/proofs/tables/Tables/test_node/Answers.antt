use Rattle.std.proofs.Common.{sym, ap, ◌∙◌}
use Rattle.std.specs.Option.{option_copied}
use Rattle.term_nodes.proofs.TestTrees.{test_tree_at-node}
use Rattle.cert_checker.proofs.tables.Tables.test_node.Goals as goal

pub returns-clause-tree : goal.returns-clause-tree
returns-clause-tree c =
    let node = sym c.get_index.ensures.key ∙ ap option_copied c.unwrap.ensures in
    rw (← c.self.view_is) (test_tree_at-node _ c.self.invariant.rules _ _ node)
