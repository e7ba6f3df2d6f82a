-- Equations and bounds of the program.
use Rattle.flow_forms.specs.Forms.{form_tree}
use Rattle.flow_forms.specs.Comparisons.{EquationTree, PartTree, BoundTree}
use Rattle.flow_forms.specs.declared.equation.Equation.{Equation}
use Rattle.flow_forms.specs.declared.equation.Part.{Part}
use Rattle.flow_forms.specs.declared.bound.Bound.{Bound}

abbrev pub equation_tree : Equation → EquationTree
equation_tree e = record { width = e.width; form = form_tree e.form }

abbrev pub part_tree : Part → PartTree
part_tree p = record { times = p.times; signed = p.signed; from = p.from; form = form_tree p.form }

abbrev pub bound_tree : Bound → BoundTree
bound_tree b = record { width = b.width; form = form_tree b.form; number = b.number }
