-- The value of an id follows from its node.
use Rattle.std.proofs.Common.{◌≡◌, ℕ, ◌<◌, List, Bool, true, false, if◌then◌else◌, Some, slice_get, get_or, ◌∙◌}
use Rattle.kat_model.specs.Steps.{Atom}
use Rattle.kat_model.proofs.ValuesInOrder.{course_of_values-at}
use Rattle.test_diagrams.specs.declared.diagrams.Node.TheVariants.{Constant, Branch}
use Rattle.test_diagrams.specs.Functions.{DiagramsParts, node_value, value_of}

module _ (d : DiagramsParts) where
  pub value_of-constant : (id : ℕ) (value : Bool) (atom : Atom) → slice_get d.nodes id ≡ Some (Constant value) → value_of d id atom ≡ value
  value_of-constant id value atom e = (course_of_values-at (node_value atom) false d.nodes id (Constant value) e).here

  -- the value of a branch is that of the part that the atom selects
  pub value_of-branch : (id test low high : ℕ) (atom : Atom) → slice_get d.nodes id ≡ Some (Branch test low high) → low < id → high < id
      → value_of d id atom ≡ (if get_or atom test false then value_of d high atom else value_of d low atom)
  value_of-branch id test low high atom e l h =
      let f = course_of_values-at (node_value atom) false d.nodes id (Branch test low high) e in
      f.here ∙ by f.front (get_or atom test false) (f.before low l) (f.before high h)
    where
      by : (front : List Bool) (b : Bool) → get_or front low false ≡ value_of d low atom → get_or front high false ≡ value_of d high atom
          → get_or front (if b then high else low) false ≡ (if b then value_of d high atom else value_of d low atom)
      by front true a b = b
      by front false a b = a
