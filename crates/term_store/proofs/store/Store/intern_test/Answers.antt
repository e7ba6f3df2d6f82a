use Rattle.std.proofs.Common.{rules, arith, subst}
use Rattle.std.proofs.lemmas.Grind.{common_steps}
use Rattle.term_nodes.specs.NodeLists.{AreNodes}
use Rattle.term_nodes.proofs.Insertions.{test_inserted}
use Rattle.term_nodes.proofs.Growing.{AddsTest-grows, test_interned}
use Rattle.term_store.proofs.store.Store.intern_test.Goals as goal

pub invariant_of-self : goal.invariant_of-self
invariant_of-self c =
    let over = rw (← c.self.view_is) at c.requires in
    let insert = c.insert_full in
    test_inserted _ (λ x. search rules) insert.result _ _ c.args.shape c.self.invariant over insert.ensures.unique insert.ensures.keys insert.ensures.err

pub returns-clause-store : goal.returns-clause-store
returns-clause-store c = invariant_of-self c

pub returns-clause-grows : goal.returns-clause-grows
returns-clause-grows c = AddsTest-grows _ _ c.args.shape (subst AreNodes c.self.view_is c.self.invariant) (invariant_of-self c) (grind (arith, common_steps))

pub returns-clause-tree : goal.returns-clause-tree
returns-clause-tree c =
    test_interned c.match-insert_full.result _ _ c.args.shape (returns-clause-grows c) (invariant_of-self c) c.requires (grind (arith, common_steps))
