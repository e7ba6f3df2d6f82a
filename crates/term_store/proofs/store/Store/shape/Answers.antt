use Rattle.std.proofs.Common.{sym, ap, ◌∙◌}
use Rattle.std.specs.Option.{option_copied}
use Rattle.term_nodes.proofs.TermTrees.{tree_at-node}
use Rattle.term_store.proofs.store.Store.shape.Goals as goal

pub returns-clause-parts : goal.returns-clause-parts
returns-clause-parts c =
    let node = sym c.get_index.ensures.key ∙ ap option_copied c.unwrap.ensures in
    rw (← c.self.view_is, ← c.id.view_is) (c.self.invariant.terms_ordered _ _ node)

pub returns-clause-tree : goal.returns-clause-tree
returns-clause-tree c =
    let node = sym c.get_index.ensures.key ∙ ap option_copied c.unwrap.ensures in
    rw (← c.self.view_is, ← c.id.view_is) (tree_at-node _ c.self.invariant _ _ node)
