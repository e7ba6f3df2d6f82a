use Rattle.std.proofs.Common.{refl, sym, ap, ◌∙◌, subst}
use mathlib.Core.Path.{ap₂}
use Rattle.std.proofs.lemmas.Bool.{false≢true}
use Rattle.std.proofs.lemmas.Result.{IfOk-weaker}
use Rattle.kat_model.specs.Trees.{test_tree, complement, meet, join}
use Rattle.term_nodes.specs.NodeLists.{AreNodes}
use Rattle.term_nodes.specs.TreeParts.{HasTestParts}
use Rattle.term_nodes.proofs.Growing.{Grows-itself, Grows-trans}
use Rattle.term_nodes.proofs.TreeParts.{test_has_parts}
use Rattle.term_store.proofs.Found.{test_found, tests_found}
use Rattle.term_store.proofs.store.Store.+of_test.Goals as goal

pub of_test-returns-in_err-shape-clause-found : goal.of_test-returns-in_err-shape-clause-found
of_test-returns-in_err-shape-clause-found t c =
    let refused = c.in_err-shape.ensures in
    λ h. absurd (false≢true (refused.found (test_has_parts _ refused.was_store _ h)).0)

pub of_test-returns-clause-found : goal.of_test-returns-clause-found
of_test-returns-clause-found t c =
    let made = c.in_ok-shape.ensures in
    test_found c.intern_test.result _ _ _ _ _ made.was_store made.store made.parts made.tree (λ h. (made.found h).1) c.intern_test.ensures.found

pub two_tests-returns-in_err-second-clause-found : goal.two_tests-returns-in_err-second-clause-found
two_tests-returns-in_err-second-clause-found t c =
    let first = c.in_ok-first.ensures in
    let second = c.in_err-second.ensures in
    λ both. absurd (false≢true (tests_found _ _ _ _ _ first.grows second.grows first.found second.found both).0)

pub two_tests-returns-in_err-second-clause-grows : goal.two_tests-returns-in_err-second-clause-grows
two_tests-returns-in_err-second-clause-grows t c = Grows-trans _ _ _ c.in_ok-first.ensures.grows c.in_err-second.ensures.grows

pub two_tests-returns-clause-trees : goal.two_tests-returns-clause-trees
two_tests-returns-clause-trees t c =
    let first = c.in_ok-first.ensures in
    let second = c.in_ok-second.ensures in
    (second.grows.test_trees _ first.is_id ∙ first.tree, second.tree)

pub two_tests-returns-clause-are_ids : goal.two_tests-returns-clause-are_ids
two_tests-returns-clause-are_ids t c =
    let first = c.in_ok-first.ensures in
    let second = c.in_ok-second.ensures in
    (second.grows.test_numbers _ first.is_id, second.is_id)

pub two_tests-returns-clause-found : goal.two_tests-returns-clause-found
two_tests-returns-clause-found t c =
    let first = c.in_ok-first.ensures in
    let second = c.in_ok-second.ensures in
    tests_found _ _ _ _ _ first.grows second.grows first.found second.found

pub two_tests-returns-clause-grows : goal.two_tests-returns-clause-grows
two_tests-returns-clause-grows t c = Grows-trans _ _ _ c.in_ok-first.ensures.grows c.in_ok-second.ensures.grows

pub shape_of_test-returns-in-False-clause-tree : goal.shape_of_test-returns-in-False-clause-tree
shape_of_test-returns-in-False-clause-tree t c = sym (ap test_tree c.in-False.is)

pub shape_of_test-returns-in-False-clause-found : goal.shape_of_test-returns-in-False-clause-found
shape_of_test-returns-in-False-clause-found t c = λ h. (refl, refl)

pub shape_of_test-returns-in-False-clause-grows : goal.shape_of_test-returns-in-False-clause-grows
shape_of_test-returns-in-False-clause-grows t c = Grows-itself _

pub shape_of_test-returns-in-False-clause-was_store : goal.shape_of_test-returns-in-False-clause-was_store
shape_of_test-returns-in-False-clause-was_store t c = subst AreNodes c.self.view_is c.self.invariant

pub shape_of_test-returns-in-False-clause-store : goal.shape_of_test-returns-in-False-clause-store
shape_of_test-returns-in-False-clause-store t c = subst AreNodes c.self.view_is c.self.invariant

pub shape_of_test-returns-in-True-clause-tree : goal.shape_of_test-returns-in-True-clause-tree
shape_of_test-returns-in-True-clause-tree t c = sym (ap test_tree c.in-True.is)

pub shape_of_test-returns-in-True-clause-found : goal.shape_of_test-returns-in-True-clause-found
shape_of_test-returns-in-True-clause-found t c = λ h. (refl, refl)

pub shape_of_test-returns-in-True-clause-grows : goal.shape_of_test-returns-in-True-clause-grows
shape_of_test-returns-in-True-clause-grows t c = Grows-itself _

pub shape_of_test-returns-in-True-clause-was_store : goal.shape_of_test-returns-in-True-clause-was_store
shape_of_test-returns-in-True-clause-was_store t c = subst AreNodes c.self.view_is c.self.invariant

pub shape_of_test-returns-in-True-clause-store : goal.shape_of_test-returns-in-True-clause-store
shape_of_test-returns-in-True-clause-store t c = subst AreNodes c.self.view_is c.self.invariant

pub shape_of_test-returns-in-Prim-clause-tree : goal.shape_of_test-returns-in-Prim-clause-tree
shape_of_test-returns-in-Prim-clause-tree t c = sym (ap test_tree c.in-Prim.is)

pub shape_of_test-returns-in-Prim-clause-found : goal.shape_of_test-returns-in-Prim-clause-found
shape_of_test-returns-in-Prim-clause-found t c = λ h. (refl, refl)

pub shape_of_test-returns-in-Prim-clause-grows : goal.shape_of_test-returns-in-Prim-clause-grows
shape_of_test-returns-in-Prim-clause-grows t c = Grows-itself _

pub shape_of_test-returns-in-Prim-clause-was_store : goal.shape_of_test-returns-in-Prim-clause-was_store
shape_of_test-returns-in-Prim-clause-was_store t c = subst AreNodes c.self.view_is c.self.invariant

pub shape_of_test-returns-in-Prim-clause-store : goal.shape_of_test-returns-in-Prim-clause-store
shape_of_test-returns-in-Prim-clause-store t c = subst AreNodes c.self.view_is c.self.invariant

pub shape_of_test-returns-in_err-of_test-in-Not-clause-found : goal.shape_of_test-returns-in_err-of_test-in-Not-clause-found
shape_of_test-returns-in_err-of_test-in-Not-clause-found t c =
    λ h. absurd (false≢true (c.in_err-of_test-in-Not.ensures.found (rw (c.deref.ensures) (subst (HasTestParts c.args.self.now) (ap test_tree c.in-Not.is) h))).0)

pub shape_of_test-returns-in_err-of_test-in-Not-clause-grows : goal.shape_of_test-returns-in_err-of_test-in-Not-clause-grows
shape_of_test-returns-in_err-of_test-in-Not-clause-grows t c = c.in_err-of_test-in-Not.ensures.grows

pub shape_of_test-returns-in_err-of_test-in-Not-clause-was_store : goal.shape_of_test-returns-in_err-of_test-in-Not-clause-was_store
shape_of_test-returns-in_err-of_test-in-Not-clause-was_store t c = subst AreNodes c.self.view_is c.self.invariant

pub shape_of_test-returns-in_err-of_test-in-Not-clause-store : goal.shape_of_test-returns-in_err-of_test-in-Not-clause-store
shape_of_test-returns-in_err-of_test-in-Not-clause-store t c = c.in_err-of_test-in-Not.ensures.store

pub shape_of_test-returns-in_ok-of_test-in-Not-clause-found : goal.shape_of_test-returns-in_ok-of_test-in-Not-clause-found
shape_of_test-returns-in_ok-of_test-in-Not-clause-found t c =
    λ h. c.in_ok-of_test-in-Not.ensures.found (rw (c.deref.ensures) (subst (HasTestParts c.args.self.now) (ap test_tree c.in-Not.is) h))

pub shape_of_test-returns-in_ok-of_test-in-Not-clause-grows : goal.shape_of_test-returns-in_ok-of_test-in-Not-clause-grows
shape_of_test-returns-in_ok-of_test-in-Not-clause-grows t c = c.in_ok-of_test-in-Not.ensures.grows

pub shape_of_test-returns-in_ok-of_test-in-Not-clause-was_store : goal.shape_of_test-returns-in_ok-of_test-in-Not-clause-was_store
shape_of_test-returns-in_ok-of_test-in-Not-clause-was_store t c = subst AreNodes c.self.view_is c.self.invariant

pub shape_of_test-returns-in_ok-of_test-in-Not-clause-store : goal.shape_of_test-returns-in_ok-of_test-in-Not-clause-store
shape_of_test-returns-in_ok-of_test-in-Not-clause-store t c = c.in_ok-of_test-in-Not.ensures.store

pub shape_of_test-returns-in_ok-of_test-in-Not-clause-parts : goal.shape_of_test-returns-in_ok-of_test-in-Not-clause-parts
shape_of_test-returns-in_ok-of_test-in-Not-clause-parts t c = c.in_ok-of_test-in-Not.ensures.is_id

pub shape_of_test-returns-in_ok-of_test-in-Not-clause-tree : goal.shape_of_test-returns-in_ok-of_test-in-Not-clause-tree
shape_of_test-returns-in_ok-of_test-in-Not-clause-tree t c =
    ap complement (c.in_ok-of_test-in-Not.ensures.tree ∙ ap test_tree c.deref.ensures) ∙ sym (ap test_tree c.in-Not.is)

pub shape_of_test-returns-in_err-first-in-And-clause-found : goal.shape_of_test-returns-in_err-first-in-And-clause-found
shape_of_test-returns-in_err-first-in-And-clause-found t c =
    λ h. absurd (false≢true (c.in_err-first-in-And.ensures.found (rw (c.deref-in-And.ensures, c.deref-in-And-2.ensures) (subst (HasTestParts c.args.self.now) (ap test_tree c.in-And.is) h))).0)

pub shape_of_test-returns-in_err-first-in-And-clause-grows : goal.shape_of_test-returns-in_err-first-in-And-clause-grows
shape_of_test-returns-in_err-first-in-And-clause-grows t c = c.in_err-first-in-And.ensures.grows

pub shape_of_test-returns-in_err-first-in-And-clause-was_store : goal.shape_of_test-returns-in_err-first-in-And-clause-was_store
shape_of_test-returns-in_err-first-in-And-clause-was_store t c = subst AreNodes c.self.view_is c.self.invariant

pub shape_of_test-returns-in_err-first-in-And-clause-store : goal.shape_of_test-returns-in_err-first-in-And-clause-store
shape_of_test-returns-in_err-first-in-And-clause-store t c = c.in_err-first-in-And.ensures.store

pub shape_of_test-returns-in_ok-first-in-And-clause-found : goal.shape_of_test-returns-in_ok-first-in-And-clause-found
shape_of_test-returns-in_ok-first-in-And-clause-found t c =
    λ h. c.in_ok-first-in-And.ensures.found (rw (c.deref-in-And.ensures, c.deref-in-And-2.ensures) (subst (HasTestParts c.args.self.now) (ap test_tree c.in-And.is) h))

pub shape_of_test-returns-in_ok-first-in-And-clause-grows : goal.shape_of_test-returns-in_ok-first-in-And-clause-grows
shape_of_test-returns-in_ok-first-in-And-clause-grows t c = c.in_ok-first-in-And.ensures.grows

pub shape_of_test-returns-in_ok-first-in-And-clause-was_store : goal.shape_of_test-returns-in_ok-first-in-And-clause-was_store
shape_of_test-returns-in_ok-first-in-And-clause-was_store t c = subst AreNodes c.self.view_is c.self.invariant

pub shape_of_test-returns-in_ok-first-in-And-clause-store : goal.shape_of_test-returns-in_ok-first-in-And-clause-store
shape_of_test-returns-in_ok-first-in-And-clause-store t c = c.in_ok-first-in-And.ensures.store

pub shape_of_test-returns-in_ok-first-in-And-clause-parts : goal.shape_of_test-returns-in_ok-first-in-And-clause-parts
shape_of_test-returns-in_ok-first-in-And-clause-parts t c = c.in_ok-first-in-And.ensures.are_ids

pub shape_of_test-returns-in_ok-first-in-And-clause-tree : goal.shape_of_test-returns-in_ok-first-in-And-clause-tree
shape_of_test-returns-in_ok-first-in-And-clause-tree t c =
    ap₂ meet (c.in_ok-first-in-And.ensures.trees.0 ∙ ap test_tree c.deref-in-And.ensures) (c.in_ok-first-in-And.ensures.trees.1 ∙ ap test_tree c.deref-in-And-2.ensures) ∙ sym (ap test_tree c.in-And.is)

pub shape_of_test-returns-in_err-first-in-Or-clause-found : goal.shape_of_test-returns-in_err-first-in-Or-clause-found
shape_of_test-returns-in_err-first-in-Or-clause-found t c =
    λ h. absurd (false≢true (c.in_err-first-in-Or.ensures.found (rw (c.deref-in-Or.ensures, c.deref-in-Or-2.ensures) (subst (HasTestParts c.args.self.now) (ap test_tree c.in-Or.is) h))).0)

pub shape_of_test-returns-in_err-first-in-Or-clause-grows : goal.shape_of_test-returns-in_err-first-in-Or-clause-grows
shape_of_test-returns-in_err-first-in-Or-clause-grows t c = c.in_err-first-in-Or.ensures.grows

pub shape_of_test-returns-in_err-first-in-Or-clause-was_store : goal.shape_of_test-returns-in_err-first-in-Or-clause-was_store
shape_of_test-returns-in_err-first-in-Or-clause-was_store t c = subst AreNodes c.self.view_is c.self.invariant

pub shape_of_test-returns-in_err-first-in-Or-clause-store : goal.shape_of_test-returns-in_err-first-in-Or-clause-store
shape_of_test-returns-in_err-first-in-Or-clause-store t c = c.in_err-first-in-Or.ensures.store

pub shape_of_test-returns-in_ok-first-in-Or-clause-found : goal.shape_of_test-returns-in_ok-first-in-Or-clause-found
shape_of_test-returns-in_ok-first-in-Or-clause-found t c =
    λ h. c.in_ok-first-in-Or.ensures.found (rw (c.deref-in-Or.ensures, c.deref-in-Or-2.ensures) (subst (HasTestParts c.args.self.now) (ap test_tree c.in-Or.is) h))

pub shape_of_test-returns-in_ok-first-in-Or-clause-grows : goal.shape_of_test-returns-in_ok-first-in-Or-clause-grows
shape_of_test-returns-in_ok-first-in-Or-clause-grows t c = c.in_ok-first-in-Or.ensures.grows

pub shape_of_test-returns-in_ok-first-in-Or-clause-was_store : goal.shape_of_test-returns-in_ok-first-in-Or-clause-was_store
shape_of_test-returns-in_ok-first-in-Or-clause-was_store t c = subst AreNodes c.self.view_is c.self.invariant

pub shape_of_test-returns-in_ok-first-in-Or-clause-store : goal.shape_of_test-returns-in_ok-first-in-Or-clause-store
shape_of_test-returns-in_ok-first-in-Or-clause-store t c = c.in_ok-first-in-Or.ensures.store

pub shape_of_test-returns-in_ok-first-in-Or-clause-parts : goal.shape_of_test-returns-in_ok-first-in-Or-clause-parts
shape_of_test-returns-in_ok-first-in-Or-clause-parts t c = c.in_ok-first-in-Or.ensures.are_ids

pub shape_of_test-returns-in_ok-first-in-Or-clause-tree : goal.shape_of_test-returns-in_ok-first-in-Or-clause-tree
shape_of_test-returns-in_ok-first-in-Or-clause-tree t c =
    ap₂ join (c.in_ok-first-in-Or.ensures.trees.0 ∙ ap test_tree c.deref-in-Or.ensures) (c.in_ok-first-in-Or.ensures.trees.1 ∙ ap test_tree c.deref-in-Or-2.ensures) ∙ sym (ap test_tree c.in-Or.is)

pub of_test-returns-in_err-shape-clause-grows : goal.of_test-returns-in_err-shape-clause-grows
of_test-returns-in_err-shape-clause-grows t c = c.in_err-shape.ensures.grows

pub of_test-returns-in_err-shape-clause-store : goal.of_test-returns-in_err-shape-clause-store
of_test-returns-in_err-shape-clause-store t c = c.in_err-shape.ensures.store

pub of_test-intern_test-requires : goal.of_test-intern_test-requires
of_test-intern_test-requires t c = c.in_ok-shape.ensures.parts

pub of_test-returns-clause-tree : goal.of_test-returns-clause-tree
of_test-returns-clause-tree t c =
    IfOk-weaker c.intern_test.result _ _ (λ id made. made ∙ c.in_ok-shape.ensures.tree) c.intern_test.ensures.tree

pub of_test-returns-clause-is_id : goal.of_test-returns-clause-is_id
of_test-returns-clause-is_id t c = c.intern_test.ensures.is_id

pub of_test-returns-clause-grows : goal.of_test-returns-clause-grows
of_test-returns-clause-grows t c = Grows-trans _ _ _ c.in_ok-shape.ensures.grows c.intern_test.ensures.grows

pub of_test-returns-clause-store : goal.of_test-returns-clause-store
of_test-returns-clause-store t c = c.intern_test.ensures.store

pub two_tests-returns-in_err-first-clause-found : goal.two_tests-returns-in_err-first-clause-found
two_tests-returns-in_err-first-clause-found t c = λ both. absurd (false≢true (c.in_err-first.ensures.found both.0).0)

pub two_tests-returns-in_err-first-clause-grows : goal.two_tests-returns-in_err-first-clause-grows
two_tests-returns-in_err-first-clause-grows t c = c.in_err-first.ensures.grows

pub two_tests-returns-in_err-first-clause-store : goal.two_tests-returns-in_err-first-clause-store
two_tests-returns-in_err-first-clause-store t c = c.in_err-first.ensures.store

pub two_tests-returns-in_err-second-clause-store : goal.two_tests-returns-in_err-second-clause-store
two_tests-returns-in_err-second-clause-store t c = c.in_err-second.ensures.store

pub two_tests-returns-clause-store : goal.two_tests-returns-clause-store
two_tests-returns-clause-store t c = c.in_ok-second.ensures.store
