use Rattle.std.proofs.Common.{ℕ, Ok, rules, arith, subst}
use Rattle.std.proofs.lemmas.Grind.{common_steps}
use Rattle.term_nodes.proofs.Growing.{test_interned}
use Rattle.cert_checker.specs.NodeTables.{AreTables}
use Rattle.cert_checker.proofs.GrowingTables.{test_added, AddsTest-tests}
use Rattle.cert_checker.proofs.tables.Tables.test.Goals as goal

pub invariant_of-self : goal.invariant_of-self
invariant_of-self c =
    let may = rw (← c.self.view_is) at c.requires in
    let insert = c.insert_full in
    test_added _ (λ x. search rules) insert.result _ _ c.args.node c.self.invariant may insert.ensures.unique insert.ensures.keys insert.ensures.err

pub invariant_of-self-2 : goal.invariant_of-self-2
invariant_of-self-2 c =
    let may = rw (← c.self.view_is) at c.requires in
    let insert = c.insert_full in
    test_added _ (λ x. search rules) insert.result _ _ c.args.node c.self.invariant may insert.ensures.unique insert.ensures.keys insert.ensures.err

pub returns-clause-grows : goal.returns-clause-grows
returns-clause-grows c = AddsTest-tests _ _ c.args.node (subst AreTables c.self.view_is c.self.invariant) (invariant_of-self-2 c) (grind (arith, common_steps))

pub returns-clause-tree : goal.returns-clause-tree
returns-clause-tree c =
    test_interned {E = ℕ} (Ok c.in_ok-number.number) _ _ c.args.node (returns-clause-grows c).grows.nodes (invariant_of-self-2 c).rules c.requires.0 (grind (arith, common_steps))
