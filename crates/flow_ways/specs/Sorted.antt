-- Graphs in which each expression has the sort that its place requires.
use Rattle.std.specs.Prelude.{◌≡◌, ℕ, List, [], ◌∷◌, Some, slice_get, false}
use Rattle.flow_model.specs.declared.sort.Sort.{Sort}
use Rattle.flow_model.specs.Expressions.{ExprTree}
use Rattle.flow_model.specs.Graphs.{StatementTree, assign, claim, JumpTree, goto, branch, return, abort, Block, Graph}
use Rattle.flow_forms.specs.Expressions.{sort_of, IsSorted}
use Rattle.flow_ways.specs.Conditions.{IsSortedCond}

abbrev pub AreSorted : List Sort → List ExprTree → Type 0
AreSorted sorts [] = Unit {0}
AreSorted sorts (e ∷ es) = IsSorted sorts false e × AreSorted sorts es

-- each variable gets an expression of its sort
abbrev pub AreAssigned : List Sort → List ℕ → List ExprTree → Type 0
AreAssigned sorts [] [] = Unit {0}
AreAssigned sorts (k ∷ ks) (e ∷ es) = (slice_get sorts k ≡ Some (sort_of sorts e)) × IsSorted sorts false e × AreAssigned sorts ks es
AreAssigned sorts ks es = ⊥

abbrev pub AreSortedStatements : List Sort → List StatementTree → Type 0
AreSortedStatements sorts [] = Unit {0}
AreSortedStatements sorts (assign targets es ∷ rest) = AreAssigned sorts targets es × AreSortedStatements sorts rest
AreSortedStatements sorts (claim b ∷ rest) = IsSortedCond sorts b × AreSortedStatements sorts rest

abbrev pub IsSortedJump : List Sort → JumpTree → Type 0
IsSortedJump sorts (goto k) = Unit {0}
IsSortedJump sorts (branch b k l) = IsSortedCond sorts b
IsSortedJump sorts (return es) = AreSorted sorts es
IsSortedJump sorts abort = Unit {0}

abbrev pub IsSortedBlock : List Sort → Block → Type 0
IsSortedBlock sorts block = AreSortedStatements sorts block.statements × IsSortedJump sorts block.jump

abbrev pub IsSortedGraph : List Sort → Graph → Type 0
IsSortedGraph sorts [] = Unit {0}
IsSortedGraph sorts (block ∷ blocks) = IsSortedBlock sorts block × IsSortedGraph sorts blocks
