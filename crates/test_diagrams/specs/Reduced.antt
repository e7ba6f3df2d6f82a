-- Collections of diagrams that are reduced and ordered (Bryant 1986).
use Rattle.std.specs.Prelude.{◌≡◌, ◌≢◌, ◌<◌, ℕ, false, true, Option, None, Some, slice_get}
use Rattle.kat_model.specs.Members.{HasNoDoubles}
use Rattle.test_diagrams.specs.declared.diagrams.Node.{Node}
use Rattle.test_diagrams.specs.declared.diagrams.Node.TheVariants.{Constant, Branch}
use Rattle.test_diagrams.specs.Functions.{DiagramsParts}

abbrev pub level_at : ℕ → Option Node → ℕ
level_at tests None = tests
level_at tests (Some (Constant value)) = tests
level_at tests (Some (Branch test low high)) = test

-- the test of the node, or the number of tests if the node is a constant
abbrev pub level_of : DiagramsParts → ℕ → ℕ
level_of d id = level_at d.tests (slice_get d.nodes id)

-- the branch has two different parts, which are earlier nodes and test only later tests
pub record IsBranch (d : DiagramsParts) (id test low high : ℕ) : Type 0 where
  pub in_range : test < d.tests
  pub low_earlier : low < id
  pub high_earlier : high < id
  pub low_below : test < level_of d low
  pub high_below : test < level_of d high
  pub different : low ≢ high

-- the first two ids are the constants, all branches are well formed, and no node occurs twice
pub record IsReduced (d : DiagramsParts) : Type 0 where
  pub never : slice_get d.nodes 0 ≡ Some (Constant false)
  pub always : slice_get d.nodes 1 ≡ Some (Constant true)
  pub branches : (id test low high : ℕ) → slice_get d.nodes id ≡ Some (Branch test low high) → IsBranch d id test low high
  pub once : HasNoDoubles d.nodes
