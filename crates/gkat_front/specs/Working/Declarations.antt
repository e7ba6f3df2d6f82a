-- The declaration of a name, by its kind.
use Rattle.std.specs.Prelude.{ℕ, List, Result}
use Rattle.text_parser.specs.declared.fault.TextFault.{TextFault}
use Rattle.gkat_front.specs.declared.item_reading.GkatDeclared.{GkatDeclared}
use Rattle.gkat_front.specs.declared.item_reading.GkatDeclared.TheVariants.{Test, Action}
use Rattle.gkat_front.specs.FileActions.{FileActions}

abbrev pub declare_by : {S V : Type 0} → FileActions S V → GkatDeclared → S → ℕ → List ℕ → Result S TextFault
declare_by g Test s at name = g.declare_test s at name
declare_by g Action s at name = g.declare_action s at name
