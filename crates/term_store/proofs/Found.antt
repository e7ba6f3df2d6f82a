-- If some id has a tree, interning the tree part by part finds it.
use Rattle.std.proofs.Common.{◌≡◌, ℕ, Contains, sym, subst, ◌∙◌, length, Result, IsOk}
use Rattle.kat_model.specs.Trees.{TestTree, Term}
use Rattle.term_nodes.specs.declared.TestNode.{TestNode}
use Rattle.term_nodes.specs.declared.TestNode.TheVariants.{Prim}
use Rattle.term_nodes.specs.declared.TermNode.{TermNode}
use Rattle.term_nodes.specs.Nodes.{IsTestOver, IsOver}
use Rattle.term_nodes.specs.NodeLists.{NodeParts, AreNodes}
use Rattle.term_nodes.specs.NodeTrees.{test_tree_in, tree_in, HasTestTree, HasTree}
use Rattle.term_nodes.specs.TreeParts.{HasTestParts, HasParts}
use Rattle.term_nodes.specs.Growth.{Grows}
use Rattle.term_nodes.proofs.TestTrees.{test_node_represents}
use Rattle.term_nodes.proofs.TermTrees.{node_represents}
use Rattle.term_nodes.proofs.TreeParts.{test_has_parts, has_parts}

-- if the parts of a tree that some id has are found, its node is found too
pub test_found : {E : Type 0} (r : Result ℕ E) (old last new : NodeParts) (shape : TestNode ℕ) (b : TestTree) → AreNodes old → AreNodes last → IsTestOver (length last.tests) shape → test_tree_in last shape ≡ b
    → (HasTestParts old b → last ≡ old) → (Contains last.tests shape → IsOk r × (new ≡ last)) → HasTestTree old b → IsOk r × (new ≡ old)
test_found r old last new shape b was is over same parts node h =
    let kept = parts (test_has_parts old was b h) in
    let represents = test_node_represents last is shape over (subst (HasTestTree last) (sym same) (subst (λ s. HasTestTree s b) (sym kept) h)) in
    let found = node represents in
    (found.0, found.1 ∙ kept)

pub found : {E : Type 0} (r : Result ℕ E) (old last new : NodeParts) (shape : TermNode ℕ ℕ) (e : Term) → AreNodes old → AreNodes last → IsOver (length last.tests) (length last.terms) shape → tree_in last shape ≡ e
    → (HasParts old e → last ≡ old) → (Contains last.terms shape → IsOk r × (new ≡ last)) → HasTree old e → IsOk r × (new ≡ old)
found r old last new shape e was is over same parts node h =
    let kept = parts (has_parts old was e h) in
    let represents = node_represents last is shape over (subst (HasTree last) (sym same) (subst (λ s. HasTree s e) (sym kept) h)) in
    let found = node represents in
    (found.0, found.1 ∙ kept)

-- if interning the first of two trees and then the second finds both, the list of nodes is unchanged
pub tests_found : {P Q : Type 0} (old mid new : NodeParts) (b c : TestTree) → Grows old mid → Grows mid new
    → (HasTestTree old b → P × (mid ≡ old)) → (HasTestTree mid c → Q × (new ≡ mid)) → HasTestTree old b × HasTestTree old c → Q × (new ≡ old)
tests_found old mid new b c early late first second both =
    let kept = (first both.0).1 in
    let found = second (subst (λ s. HasTestTree s c) (sym kept) both.1) in
    (found.0, found.1 ∙ kept)

pub trees_found : {P Q : Type 0} (old mid new : NodeParts) (e f : Term) → Grows old mid → Grows mid new
    → (HasTree old e → P × (mid ≡ old)) → (HasTree mid f → Q × (new ≡ mid)) → HasTree old e × HasTree old f → Q × (new ≡ old)
trees_found old mid new e f early late first second both =
    let kept = (first both.0).1 in
    let found = second (subst (λ s. HasTree s f) (sym kept) both.1) in
    (found.0, found.1 ∙ kept)
