-- The tests that some diagram has asked, which means that the diagram depends on them.
use Rattle.std.specs.Prelude.{◌≡◌, ◌<◌, ℕ, Bool, true, false, List, [], ◌∷◌, length, take, slice_index_or, IsTrue}
use Rattle.kat_model.specs.Members.{Has}
use Rattle.kat_model.specs.Steps.{set_out}
use Rattle.term_nodes.specs.NodeLists.{NodeParts}
use Rattle.term_nodes.specs.NodeTrees.{tree_at}
use Rattle.test_diagrams.specs.Functions.{DiagramsParts, IsDiagramOf, IsIndependent}
use Rattle.partial_derivs.specs.declared.moves.Guarded.{Guarded}
use Rattle.walk_regions.specs.declared.bars.Bar.{Bar}
use Rattle.walk_regions.specs.Bars.{AreBars}

-- no diagram has asked the test yet
abbrev pub IsUnaskedTest : List Bool → ℕ → Type 0
IsUnaskedTest queried t = slice_index_or queried t true ≡ false

-- The diagram is checked for the test. The answer is yes only if no diagram asked the test before; a test that is still
-- unasked is one on which the diagram does not depend.
pub record Poses (d : DiagramsParts) (id : ℕ) (old new : List Bool) (test : ℕ) (answer : Bool) : Type 0 where
  pub still : (t : ℕ) → IsUnaskedTest new t → IsUnaskedTest old t
  pub free : IsUnaskedTest new test → IsIndependent d id test
  pub fresh : IsTrue answer → IsUnaskedTest old test

-- of the tests below n, the diagram is the first to ask these
pub record AreFreshTests (d : DiagramsParts) (id : ℕ) (old new : List Bool) (n : ℕ) (tests : List ℕ) : Type 0 where
  pub still : (t : ℕ) → IsUnaskedTest new t → IsUnaskedTest old t
  pub free : (t : ℕ) → t < n → IsUnaskedTest new t → IsIndependent d id t
  pub first : (t : ℕ) → Has tests t → IsUnaskedTest old t

-- The bar starts at the atoms of the move's guard, and ends at the atoms that the target of the move accepts.
pub record IsBarOf (store : NodeParts) (d : DiagramsParts) (m : Guarded) (r : Bar) : Type 0 where
  pub from : r.from ≡ m.guard
  pub to : IsDiagramOf d r.to (set_out (tree_at store m.to ∷ []))

-- the bars are those of the moves by the action
pub record AreBarsOf (store : NodeParts) (d : DiagramsParts) (moves : List Guarded) (act : ℕ) (bars : List Bar) : Type 0 where
  pub there : (m : Guarded) → Has moves m → m.act ≡ act → (r : Bar) × Has bars r × IsBarOf store d m r
  pub back : (r : Bar) → Has bars r → (m : Guarded) × Has moves m × (m.act ≡ act) × IsBarOf store d m r

-- The bars are those of the first n moves, and the tests that they ask are flagged.
pub record AreBarsSoFar (store : NodeParts) (d : DiagramsParts) (moves : List Guarded) (n : ℕ) (bars : List Bar) (queried : List Bool) : Type 0 where
  pub there : (m : Guarded) → Has (take n moves) m → (r : Bar) × Has bars r × IsBarOf store d m r
  pub back : (r : Bar) → Has bars r → (m : Guarded) × Has moves m × IsBarOf store d m r
  pub sound : AreBars d bars
  pub tests : length queried ≡ d.tests
  pub unasked : (t : ℕ) → IsUnaskedTest queried t → (r : Bar) → Has bars r → IsIndependent d r.from t
