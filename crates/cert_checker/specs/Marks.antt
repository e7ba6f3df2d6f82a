-- Marks of terms, one for each of the first terms of the tables.
use Rattle.std.specs.Prelude.{◌≡◌, ◌⊎◌, ℕ, Bool, true, List, Some, slice_get}
use Rattle.kat_model.specs.Members.{Has}
use Rattle.term_nodes.specs.declared.TermNode.{TermNode}
use Rattle.term_nodes.specs.Nodes.{term_parts}
use Rattle.cert_checker.specs.NodeTables.{TableParts}

-- the number is marked
abbrev pub IsMarked : List Bool → ℕ → Type 0
IsMarked marks k = slice_get marks k ≡ Some true

-- the second number is a part of the term with the first number
abbrev pub IsPart : TableParts → ℕ → ℕ → Type 0
IsPart t k j = (node : TermNode ℕ ℕ) × (slice_get t.terms k ≡ Some node) × Has (term_parts node) j

-- the parts of marked terms are marked
abbrev pub AreClosed : TableParts → List Bool → Type 0
AreClosed t marks = (k j : ℕ) → IsMarked marks k → IsPart t k j → IsMarked marks j

-- the least closed marks that contain the old ones: each new mark is a part of a marked term
pub record IsClosure (t : TableParts) (old new : List Bool) : Type 0 where
  pub kept : (k : ℕ) → IsMarked old k → IsMarked new k
  pub closed : AreClosed t new
  pub least : (j : ℕ) → IsMarked new j → IsMarked old j ⊎ ((k : ℕ) × IsMarked new k × IsPart t k j)
