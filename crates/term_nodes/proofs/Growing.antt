-- Growing lists of nodes: older numbers keep their trees.
use Rattle.std.proofs.Common.{◌≡◌, ℕ, [], ◌∷◌, refl, sym, ap, subst, ◌∙◌, append-nil, inl, inr, length, Result, Ok, Err, IfOk, Some, slice_get}
use Rattle.term_nodes.specs.declared.TestNode.{TestNode}
use Rattle.term_nodes.specs.declared.TermNode.{TermNode}
use Rattle.term_nodes.specs.Nodes.{IsTestOver, IsOver}
use Rattle.term_nodes.specs.NodeLists.{NodeParts, AreNodes}
use Rattle.term_nodes.specs.NodeTrees.{test_tree_at, tree_at, test_tree_in, tree_in}
use Rattle.term_nodes.specs.Growth.{IsPrefix, Grows, AddsTest, AddsTerm}
use Rattle.term_nodes.proofs.Prefixes.{IsPrefix-itself, IsPrefix-trans, IsPrefix-within}
use Rattle.term_nodes.proofs.TestTrees.{test_tree_at-node, test_tree_at-kept, test_tree_in-kept}
use Rattle.term_nodes.proofs.TermTrees.{tree_at-node, tree_at-kept, tree_in-kept}

pub Grows-itself : (nodes : NodeParts) → Grows nodes nodes
Grows-itself nodes = record {
  tests = IsPrefix-itself nodes.tests;
  terms = IsPrefix-itself nodes.terms;
  sound = λ is. is;
  test_numbers = λ i h. h;
  term_numbers = λ i h. h;
  test_trees = λ i h. refl;
  trees = λ i h. refl;
}

pub Grows-trans : (a b c : NodeParts) → Grows a b → Grows b c → Grows a c
Grows-trans a b c first second = record {
  tests = IsPrefix-trans a.tests b.tests c.tests first.tests second.tests;
  terms = IsPrefix-trans a.terms b.terms c.terms first.terms second.terms;
  sound = λ is. second.sound (first.sound is);
  test_numbers = λ i h. second.test_numbers i (first.test_numbers i h);
  term_numbers = λ i h. second.term_numbers i (first.term_numbers i h);
  test_trees = λ i h. second.test_trees i (first.test_numbers i h) ∙ first.test_trees i h;
  trees = λ i h. second.trees i (first.term_numbers i h) ∙ first.trees i h;
}

-- it suffices that the old nodes are a prefix
prefixes_grow : (old new : NodeParts) → AreNodes old → AreNodes new → IsPrefix old.tests new.tests → IsPrefix old.terms new.terms → Grows old new
prefixes_grow old new is becomes tests terms = record {
  tests = tests;
  terms = terms;
  sound = λ was. becomes;
  test_numbers = λ i h. IsPrefix-within old.tests new.tests i tests h;
  term_numbers = λ i h. IsPrefix-within old.terms new.terms i terms h;
  test_trees = test_tree_at-kept old new tests;
  trees = tree_at-kept old new is tests terms;
}

pub AddsTest-grows : (old new : NodeParts) (node : TestNode ℕ) → AreNodes old → AreNodes new → AddsTest old new node → Grows old new
AddsTest-grows old new node is becomes adds =
    elim adds [
      | inl same ↦ subst (Grows old) (sym same) (Grows-itself old)
      | inr more ↦ prefixes_grow old new is becomes (node ∷ [], ap (λ s. s.tests) more) ([], ap (λ s. s.terms) more ∙ sym (append-nil old.terms))
    ]

pub AddsTerm-grows : (old new : NodeParts) (node : TermNode ℕ ℕ) → AreNodes old → AreNodes new → AddsTerm old new node → Grows old new
AddsTerm-grows old new node is becomes adds =
    elim adds [
      | inl same ↦ subst (Grows old) (sym same) (Grows-itself old)
      | inr more ↦ prefixes_grow old new is becomes ([], ap (λ s. s.tests) more ∙ sym (append-nil old.tests)) (node ∷ [], ap (λ s. s.terms) more)
    ]

-- the number that a call returns for a node has the tree of the node
pub test_interned : {E : Type 0} (r : Result ℕ E) (old new : NodeParts) (node : TestNode ℕ) → Grows old new → AreNodes new → IsTestOver (length old.tests) node
    → IfOk r (λ i. slice_get new.tests i ≡ Some node) → IfOk r (λ i. test_tree_at new i ≡ test_tree_in old node)
test_interned (Ok i) old new node kept is over p = test_tree_at-node new is i node p ∙ test_tree_in-kept old new kept.test_trees node over
test_interned (Err d) old new node kept is over none = tt

pub interned : {E : Type 0} (r : Result ℕ E) (old new : NodeParts) (node : TermNode ℕ ℕ) → Grows old new → AreNodes new → IsOver (length old.tests) (length old.terms) node
    → IfOk r (λ i. slice_get new.terms i ≡ Some node) → IfOk r (λ i. tree_at new i ≡ tree_in old node)
interned (Ok i) old new node kept is over p = tree_at-node new is i node p ∙ tree_in-kept old new kept.test_trees kept.trees node over
interned (Err d) old new node kept is over none = tt
