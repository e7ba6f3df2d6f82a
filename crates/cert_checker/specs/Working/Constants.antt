-- Nodes of tests whose values follow from the node alone.
use Rattle.std.specs.Prelude.{ℕ, Bool, false, not, ◌==◌}
use Rattle.term_nodes.specs.declared.TestNode.{TestNode}
use Rattle.term_nodes.specs.declared.TestNode.TheVariants.{False, True, Prim, Not}

-- whether the node is the test that is always `on`
abbrev pub is_constant : Bool → TestNode ℕ → Bool
is_constant on False = not on
is_constant on True = on
is_constant on _ = false

-- whether the node is the negation of the test k
abbrev pub negates : ℕ → TestNode ℕ → Bool
negates k (Not i) = i == k
negates k _ = false
