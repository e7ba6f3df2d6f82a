use Rattle.std.proofs.Common.{refl, sym, ap, ◌∙◌, subst}
use mathlib.Core.Path.{ap₂}
use Rattle.std.proofs.lemmas.Bool.{false≢true}
use Rattle.std.proofs.lemmas.Result.{IfOk-weaker}
use Rattle.kat_model.specs.Trees.{kat_tree, test, sum, product, star}
use Rattle.term_nodes.specs.NodeLists.{AreNodes}
use Rattle.term_nodes.specs.TreeParts.{HasParts}
use Rattle.term_nodes.proofs.Growing.{Grows-itself, Grows-trans}
use Rattle.term_nodes.proofs.TreeParts.{has_parts}
use Rattle.term_store.proofs.Found.{found, trees_found}
use Rattle.term_store.proofs.store.Store.+of_tree.Goals as goal

pub of_tree-returns-in_err-shape-clause-found : goal.of_tree-returns-in_err-shape-clause-found
of_tree-returns-in_err-shape-clause-found t c =
    let refused = c.in_err-shape.ensures in
    λ h. absurd (false≢true (refused.found (has_parts _ refused.was_store _ h)).0)

pub of_tree-returns-clause-found : goal.of_tree-returns-clause-found
of_tree-returns-clause-found t c =
    let made = c.in_ok-shape.ensures in
    found c.intern.result _ _ _ _ _ made.was_store made.store made.parts made.tree (λ h. (made.found h).1) c.intern.ensures.found

pub two_trees-returns-in_err-second-clause-found : goal.two_trees-returns-in_err-second-clause-found
two_trees-returns-in_err-second-clause-found t c =
    let first = c.in_ok-first.ensures in
    let second = c.in_err-second.ensures in
    λ both. absurd (false≢true (trees_found _ _ _ _ _ first.grows second.grows first.found second.found both).0)

pub two_trees-returns-in_err-second-clause-grows : goal.two_trees-returns-in_err-second-clause-grows
two_trees-returns-in_err-second-clause-grows t c = Grows-trans _ _ _ c.in_ok-first.ensures.grows c.in_err-second.ensures.grows

pub two_trees-returns-clause-trees : goal.two_trees-returns-clause-trees
two_trees-returns-clause-trees t c =
    let first = c.in_ok-first.ensures in
    let second = c.in_ok-second.ensures in
    (second.grows.trees _ first.is_id ∙ first.tree, second.tree)

pub two_trees-returns-clause-are_ids : goal.two_trees-returns-clause-are_ids
two_trees-returns-clause-are_ids t c =
    let first = c.in_ok-first.ensures in
    let second = c.in_ok-second.ensures in
    (second.grows.term_numbers _ first.is_id, second.is_id)

pub two_trees-returns-clause-found : goal.two_trees-returns-clause-found
two_trees-returns-clause-found t c =
    let first = c.in_ok-first.ensures in
    let second = c.in_ok-second.ensures in
    trees_found _ _ _ _ _ first.grows second.grows first.found second.found

pub two_trees-returns-clause-grows : goal.two_trees-returns-clause-grows
two_trees-returns-clause-grows t c = Grows-trans _ _ _ c.in_ok-first.ensures.grows c.in_ok-second.ensures.grows

pub shape_of_tree-returns-in-Zero-clause-tree : goal.shape_of_tree-returns-in-Zero-clause-tree
shape_of_tree-returns-in-Zero-clause-tree t c = sym (ap kat_tree c.in-Zero.is)

pub shape_of_tree-returns-in-Zero-clause-found : goal.shape_of_tree-returns-in-Zero-clause-found
shape_of_tree-returns-in-Zero-clause-found t c = λ h. (refl, refl)

pub shape_of_tree-returns-in-Zero-clause-grows : goal.shape_of_tree-returns-in-Zero-clause-grows
shape_of_tree-returns-in-Zero-clause-grows t c = Grows-itself _

pub shape_of_tree-returns-in-Zero-clause-was_store : goal.shape_of_tree-returns-in-Zero-clause-was_store
shape_of_tree-returns-in-Zero-clause-was_store t c = subst AreNodes c.self.view_is c.self.invariant

pub shape_of_tree-returns-in-Zero-clause-store : goal.shape_of_tree-returns-in-Zero-clause-store
shape_of_tree-returns-in-Zero-clause-store t c = subst AreNodes c.self.view_is c.self.invariant

pub shape_of_tree-returns-in-One-clause-tree : goal.shape_of_tree-returns-in-One-clause-tree
shape_of_tree-returns-in-One-clause-tree t c = sym (ap kat_tree c.in-One.is)

pub shape_of_tree-returns-in-One-clause-found : goal.shape_of_tree-returns-in-One-clause-found
shape_of_tree-returns-in-One-clause-found t c = λ h. (refl, refl)

pub shape_of_tree-returns-in-One-clause-grows : goal.shape_of_tree-returns-in-One-clause-grows
shape_of_tree-returns-in-One-clause-grows t c = Grows-itself _

pub shape_of_tree-returns-in-One-clause-was_store : goal.shape_of_tree-returns-in-One-clause-was_store
shape_of_tree-returns-in-One-clause-was_store t c = subst AreNodes c.self.view_is c.self.invariant

pub shape_of_tree-returns-in-One-clause-store : goal.shape_of_tree-returns-in-One-clause-store
shape_of_tree-returns-in-One-clause-store t c = subst AreNodes c.self.view_is c.self.invariant

pub shape_of_tree-returns-in-Act-clause-tree : goal.shape_of_tree-returns-in-Act-clause-tree
shape_of_tree-returns-in-Act-clause-tree t c = sym (ap kat_tree c.in-Act.is)

pub shape_of_tree-returns-in-Act-clause-found : goal.shape_of_tree-returns-in-Act-clause-found
shape_of_tree-returns-in-Act-clause-found t c = λ h. (refl, refl)

pub shape_of_tree-returns-in-Act-clause-grows : goal.shape_of_tree-returns-in-Act-clause-grows
shape_of_tree-returns-in-Act-clause-grows t c = Grows-itself _

pub shape_of_tree-returns-in-Act-clause-was_store : goal.shape_of_tree-returns-in-Act-clause-was_store
shape_of_tree-returns-in-Act-clause-was_store t c = subst AreNodes c.self.view_is c.self.invariant

pub shape_of_tree-returns-in-Act-clause-store : goal.shape_of_tree-returns-in-Act-clause-store
shape_of_tree-returns-in-Act-clause-store t c = subst AreNodes c.self.view_is c.self.invariant

pub shape_of_tree-returns-in_err-of_test-in-Test-clause-found : goal.shape_of_tree-returns-in_err-of_test-in-Test-clause-found
shape_of_tree-returns-in_err-of_test-in-Test-clause-found t c =
    λ h. absurd (false≢true (c.in_err-of_test-in-Test.ensures.found (subst (HasParts c.args.self.now) (ap kat_tree c.in-Test.is) h)).0)

pub shape_of_tree-returns-in_err-of_test-in-Test-clause-grows : goal.shape_of_tree-returns-in_err-of_test-in-Test-clause-grows
shape_of_tree-returns-in_err-of_test-in-Test-clause-grows t c = c.in_err-of_test-in-Test.ensures.grows

pub shape_of_tree-returns-in_err-of_test-in-Test-clause-was_store : goal.shape_of_tree-returns-in_err-of_test-in-Test-clause-was_store
shape_of_tree-returns-in_err-of_test-in-Test-clause-was_store t c = subst AreNodes c.self.view_is c.self.invariant

pub shape_of_tree-returns-in_err-of_test-in-Test-clause-store : goal.shape_of_tree-returns-in_err-of_test-in-Test-clause-store
shape_of_tree-returns-in_err-of_test-in-Test-clause-store t c = c.in_err-of_test-in-Test.ensures.store

pub shape_of_tree-returns-in_ok-of_test-in-Test-clause-found : goal.shape_of_tree-returns-in_ok-of_test-in-Test-clause-found
shape_of_tree-returns-in_ok-of_test-in-Test-clause-found t c =
    λ h. c.in_ok-of_test-in-Test.ensures.found (subst (HasParts c.args.self.now) (ap kat_tree c.in-Test.is) h)

pub shape_of_tree-returns-in_ok-of_test-in-Test-clause-grows : goal.shape_of_tree-returns-in_ok-of_test-in-Test-clause-grows
shape_of_tree-returns-in_ok-of_test-in-Test-clause-grows t c = c.in_ok-of_test-in-Test.ensures.grows

pub shape_of_tree-returns-in_ok-of_test-in-Test-clause-was_store : goal.shape_of_tree-returns-in_ok-of_test-in-Test-clause-was_store
shape_of_tree-returns-in_ok-of_test-in-Test-clause-was_store t c = subst AreNodes c.self.view_is c.self.invariant

pub shape_of_tree-returns-in_ok-of_test-in-Test-clause-store : goal.shape_of_tree-returns-in_ok-of_test-in-Test-clause-store
shape_of_tree-returns-in_ok-of_test-in-Test-clause-store t c = c.in_ok-of_test-in-Test.ensures.store

pub shape_of_tree-returns-in_ok-of_test-in-Test-clause-parts : goal.shape_of_tree-returns-in_ok-of_test-in-Test-clause-parts
shape_of_tree-returns-in_ok-of_test-in-Test-clause-parts t c = c.in_ok-of_test-in-Test.ensures.is_id

pub shape_of_tree-returns-in_ok-of_test-in-Test-clause-tree : goal.shape_of_tree-returns-in_ok-of_test-in-Test-clause-tree
shape_of_tree-returns-in_ok-of_test-in-Test-clause-tree t c = ap test c.in_ok-of_test-in-Test.ensures.tree ∙ sym (ap kat_tree c.in-Test.is)

pub shape_of_tree-returns-in_err-first-in-Sum-clause-found : goal.shape_of_tree-returns-in_err-first-in-Sum-clause-found
shape_of_tree-returns-in_err-first-in-Sum-clause-found t c =
    λ h. absurd (false≢true (c.in_err-first-in-Sum.ensures.found (rw (c.deref.ensures, c.deref-in-Sum.ensures) (subst (HasParts c.args.self.now) (ap kat_tree c.in-Sum.is) h))).0)

pub shape_of_tree-returns-in_err-first-in-Sum-clause-grows : goal.shape_of_tree-returns-in_err-first-in-Sum-clause-grows
shape_of_tree-returns-in_err-first-in-Sum-clause-grows t c = c.in_err-first-in-Sum.ensures.grows

pub shape_of_tree-returns-in_err-first-in-Sum-clause-was_store : goal.shape_of_tree-returns-in_err-first-in-Sum-clause-was_store
shape_of_tree-returns-in_err-first-in-Sum-clause-was_store t c = subst AreNodes c.self.view_is c.self.invariant

pub shape_of_tree-returns-in_err-first-in-Sum-clause-store : goal.shape_of_tree-returns-in_err-first-in-Sum-clause-store
shape_of_tree-returns-in_err-first-in-Sum-clause-store t c = c.in_err-first-in-Sum.ensures.store

pub shape_of_tree-returns-in_ok-first-in-Sum-clause-found : goal.shape_of_tree-returns-in_ok-first-in-Sum-clause-found
shape_of_tree-returns-in_ok-first-in-Sum-clause-found t c =
    λ h. c.in_ok-first-in-Sum.ensures.found (rw (c.deref.ensures, c.deref-in-Sum.ensures) (subst (HasParts c.args.self.now) (ap kat_tree c.in-Sum.is) h))

pub shape_of_tree-returns-in_ok-first-in-Sum-clause-grows : goal.shape_of_tree-returns-in_ok-first-in-Sum-clause-grows
shape_of_tree-returns-in_ok-first-in-Sum-clause-grows t c = c.in_ok-first-in-Sum.ensures.grows

pub shape_of_tree-returns-in_ok-first-in-Sum-clause-was_store : goal.shape_of_tree-returns-in_ok-first-in-Sum-clause-was_store
shape_of_tree-returns-in_ok-first-in-Sum-clause-was_store t c = subst AreNodes c.self.view_is c.self.invariant

pub shape_of_tree-returns-in_ok-first-in-Sum-clause-store : goal.shape_of_tree-returns-in_ok-first-in-Sum-clause-store
shape_of_tree-returns-in_ok-first-in-Sum-clause-store t c = c.in_ok-first-in-Sum.ensures.store

pub shape_of_tree-returns-in_ok-first-in-Sum-clause-parts : goal.shape_of_tree-returns-in_ok-first-in-Sum-clause-parts
shape_of_tree-returns-in_ok-first-in-Sum-clause-parts t c = c.in_ok-first-in-Sum.ensures.are_ids

pub shape_of_tree-returns-in_ok-first-in-Sum-clause-tree : goal.shape_of_tree-returns-in_ok-first-in-Sum-clause-tree
shape_of_tree-returns-in_ok-first-in-Sum-clause-tree t c =
    ap₂ sum (c.in_ok-first-in-Sum.ensures.trees.0 ∙ ap kat_tree c.deref.ensures) (c.in_ok-first-in-Sum.ensures.trees.1 ∙ ap kat_tree c.deref-in-Sum.ensures) ∙ sym (ap kat_tree c.in-Sum.is)

pub shape_of_tree-returns-in_err-first-in-Seq-clause-found : goal.shape_of_tree-returns-in_err-first-in-Seq-clause-found
shape_of_tree-returns-in_err-first-in-Seq-clause-found t c =
    λ h. absurd (false≢true (c.in_err-first-in-Seq.ensures.found (rw (c.deref-in-Seq.ensures, c.deref-in-Seq-2.ensures) (subst (HasParts c.args.self.now) (ap kat_tree c.in-Seq.is) h))).0)

pub shape_of_tree-returns-in_err-first-in-Seq-clause-grows : goal.shape_of_tree-returns-in_err-first-in-Seq-clause-grows
shape_of_tree-returns-in_err-first-in-Seq-clause-grows t c = c.in_err-first-in-Seq.ensures.grows

pub shape_of_tree-returns-in_err-first-in-Seq-clause-was_store : goal.shape_of_tree-returns-in_err-first-in-Seq-clause-was_store
shape_of_tree-returns-in_err-first-in-Seq-clause-was_store t c = subst AreNodes c.self.view_is c.self.invariant

pub shape_of_tree-returns-in_err-first-in-Seq-clause-store : goal.shape_of_tree-returns-in_err-first-in-Seq-clause-store
shape_of_tree-returns-in_err-first-in-Seq-clause-store t c = c.in_err-first-in-Seq.ensures.store

pub shape_of_tree-returns-in_ok-first-in-Seq-clause-found : goal.shape_of_tree-returns-in_ok-first-in-Seq-clause-found
shape_of_tree-returns-in_ok-first-in-Seq-clause-found t c =
    λ h. c.in_ok-first-in-Seq.ensures.found (rw (c.deref-in-Seq.ensures, c.deref-in-Seq-2.ensures) (subst (HasParts c.args.self.now) (ap kat_tree c.in-Seq.is) h))

pub shape_of_tree-returns-in_ok-first-in-Seq-clause-grows : goal.shape_of_tree-returns-in_ok-first-in-Seq-clause-grows
shape_of_tree-returns-in_ok-first-in-Seq-clause-grows t c = c.in_ok-first-in-Seq.ensures.grows

pub shape_of_tree-returns-in_ok-first-in-Seq-clause-was_store : goal.shape_of_tree-returns-in_ok-first-in-Seq-clause-was_store
shape_of_tree-returns-in_ok-first-in-Seq-clause-was_store t c = subst AreNodes c.self.view_is c.self.invariant

pub shape_of_tree-returns-in_ok-first-in-Seq-clause-store : goal.shape_of_tree-returns-in_ok-first-in-Seq-clause-store
shape_of_tree-returns-in_ok-first-in-Seq-clause-store t c = c.in_ok-first-in-Seq.ensures.store

pub shape_of_tree-returns-in_ok-first-in-Seq-clause-parts : goal.shape_of_tree-returns-in_ok-first-in-Seq-clause-parts
shape_of_tree-returns-in_ok-first-in-Seq-clause-parts t c = c.in_ok-first-in-Seq.ensures.are_ids

pub shape_of_tree-returns-in_ok-first-in-Seq-clause-tree : goal.shape_of_tree-returns-in_ok-first-in-Seq-clause-tree
shape_of_tree-returns-in_ok-first-in-Seq-clause-tree t c =
    ap₂ product (c.in_ok-first-in-Seq.ensures.trees.0 ∙ ap kat_tree c.deref-in-Seq.ensures) (c.in_ok-first-in-Seq.ensures.trees.1 ∙ ap kat_tree c.deref-in-Seq-2.ensures) ∙ sym (ap kat_tree c.in-Seq.is)

pub shape_of_tree-returns-in_err-of_tree-in-Star-clause-found : goal.shape_of_tree-returns-in_err-of_tree-in-Star-clause-found
shape_of_tree-returns-in_err-of_tree-in-Star-clause-found t c =
    λ h. absurd (false≢true (c.in_err-of_tree-in-Star.ensures.found (rw (c.deref-in-Star.ensures) (subst (HasParts c.args.self.now) (ap kat_tree c.in-Star.is) h))).0)

pub shape_of_tree-returns-in_err-of_tree-in-Star-clause-grows : goal.shape_of_tree-returns-in_err-of_tree-in-Star-clause-grows
shape_of_tree-returns-in_err-of_tree-in-Star-clause-grows t c = c.in_err-of_tree-in-Star.ensures.grows

pub shape_of_tree-returns-in_err-of_tree-in-Star-clause-was_store : goal.shape_of_tree-returns-in_err-of_tree-in-Star-clause-was_store
shape_of_tree-returns-in_err-of_tree-in-Star-clause-was_store t c = subst AreNodes c.self.view_is c.self.invariant

pub shape_of_tree-returns-in_err-of_tree-in-Star-clause-store : goal.shape_of_tree-returns-in_err-of_tree-in-Star-clause-store
shape_of_tree-returns-in_err-of_tree-in-Star-clause-store t c = c.in_err-of_tree-in-Star.ensures.store

pub shape_of_tree-returns-in_ok-of_tree-in-Star-clause-found : goal.shape_of_tree-returns-in_ok-of_tree-in-Star-clause-found
shape_of_tree-returns-in_ok-of_tree-in-Star-clause-found t c =
    λ h. c.in_ok-of_tree-in-Star.ensures.found (rw (c.deref-in-Star.ensures) (subst (HasParts c.args.self.now) (ap kat_tree c.in-Star.is) h))

pub shape_of_tree-returns-in_ok-of_tree-in-Star-clause-grows : goal.shape_of_tree-returns-in_ok-of_tree-in-Star-clause-grows
shape_of_tree-returns-in_ok-of_tree-in-Star-clause-grows t c = c.in_ok-of_tree-in-Star.ensures.grows

pub shape_of_tree-returns-in_ok-of_tree-in-Star-clause-was_store : goal.shape_of_tree-returns-in_ok-of_tree-in-Star-clause-was_store
shape_of_tree-returns-in_ok-of_tree-in-Star-clause-was_store t c = subst AreNodes c.self.view_is c.self.invariant

pub shape_of_tree-returns-in_ok-of_tree-in-Star-clause-store : goal.shape_of_tree-returns-in_ok-of_tree-in-Star-clause-store
shape_of_tree-returns-in_ok-of_tree-in-Star-clause-store t c = c.in_ok-of_tree-in-Star.ensures.store

pub shape_of_tree-returns-in_ok-of_tree-in-Star-clause-parts : goal.shape_of_tree-returns-in_ok-of_tree-in-Star-clause-parts
shape_of_tree-returns-in_ok-of_tree-in-Star-clause-parts t c = c.in_ok-of_tree-in-Star.ensures.is_id

pub shape_of_tree-returns-in_ok-of_tree-in-Star-clause-tree : goal.shape_of_tree-returns-in_ok-of_tree-in-Star-clause-tree
shape_of_tree-returns-in_ok-of_tree-in-Star-clause-tree t c =
    ap star (c.in_ok-of_tree-in-Star.ensures.tree ∙ ap kat_tree c.deref-in-Star.ensures) ∙ sym (ap kat_tree c.in-Star.is)

pub of_tree-returns-in_err-shape-clause-grows : goal.of_tree-returns-in_err-shape-clause-grows
of_tree-returns-in_err-shape-clause-grows t c = c.in_err-shape.ensures.grows

pub of_tree-returns-in_err-shape-clause-store : goal.of_tree-returns-in_err-shape-clause-store
of_tree-returns-in_err-shape-clause-store t c = c.in_err-shape.ensures.store

pub of_tree-intern-requires : goal.of_tree-intern-requires
of_tree-intern-requires t c = c.in_ok-shape.ensures.parts

pub of_tree-returns-clause-tree : goal.of_tree-returns-clause-tree
of_tree-returns-clause-tree t c = IfOk-weaker c.intern.result _ _ (λ id made. made ∙ c.in_ok-shape.ensures.tree) c.intern.ensures.tree

pub of_tree-returns-clause-is_id : goal.of_tree-returns-clause-is_id
of_tree-returns-clause-is_id t c = c.intern.ensures.is_id

pub of_tree-returns-clause-grows : goal.of_tree-returns-clause-grows
of_tree-returns-clause-grows t c = Grows-trans _ _ _ c.in_ok-shape.ensures.grows c.intern.ensures.grows

pub of_tree-returns-clause-store : goal.of_tree-returns-clause-store
of_tree-returns-clause-store t c = c.intern.ensures.store

pub two_trees-returns-in_err-first-clause-found : goal.two_trees-returns-in_err-first-clause-found
two_trees-returns-in_err-first-clause-found t c = λ both. absurd (false≢true (c.in_err-first.ensures.found both.0).0)

pub two_trees-returns-in_err-first-clause-grows : goal.two_trees-returns-in_err-first-clause-grows
two_trees-returns-in_err-first-clause-grows t c = c.in_err-first.ensures.grows

pub two_trees-returns-in_err-first-clause-store : goal.two_trees-returns-in_err-first-clause-store
two_trees-returns-in_err-first-clause-store t c = c.in_err-first.ensures.store

pub two_trees-returns-in_err-second-clause-store : goal.two_trees-returns-in_err-second-clause-store
two_trees-returns-in_err-second-clause-store t c = c.in_err-second.ensures.store

pub two_trees-returns-clause-store : goal.two_trees-returns-clause-store
two_trees-returns-clause-store t c = c.in_ok-second.ensures.store
