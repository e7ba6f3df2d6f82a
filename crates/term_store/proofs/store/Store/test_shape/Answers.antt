use Rattle.std.proofs.Common.{sym, ap, ◌∙◌}
use Rattle.std.specs.Option.{option_copied}
use Rattle.term_nodes.proofs.TestTrees.{test_tree_at-node}
use Rattle.term_store.proofs.store.Store.test_shape.Goals as goal

pub returns-clause-parts : goal.returns-clause-parts
returns-clause-parts c =
    let node = sym c.get_index.ensures.key ∙ ap option_copied c.unwrap.ensures in
    rw (← c.id.view_is) (c.self.invariant.tests_ordered _ _ node)

pub returns-clause-tree : goal.returns-clause-tree
returns-clause-tree c =
    let node = sym c.get_index.ensures.key ∙ ap option_copied c.unwrap.ensures in
    rw (← c.self.view_is, ← c.id.view_is) (test_tree_at-node _ c.self.invariant _ _ node)
