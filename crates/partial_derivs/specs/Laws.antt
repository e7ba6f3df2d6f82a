-- The law of tables of derivatives.
use Rattle.term_nodes.specs.NodeLists.{NodeParts}
use Rattle.term_nodes.specs.Growth.{Grows}
use Rattle.test_diagrams.specs.Functions.{DiagramsParts, KeepsFunctions}
use Rattle.partial_derivs.specs.declared.derivatives.Derivatives.{Derivatives}
use Rattle.partial_derivs.specs.Tables.{AreRight}

-- the table stays correct if old ids keep their trees and functions
abbrev pub StaysRight : Derivatives → Type 0
StaysRight table = (s t : NodeParts) (c d : DiagramsParts) → Grows s t → KeepsFunctions c d → AreRight s c table → AreRight t d table
