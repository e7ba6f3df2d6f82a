-- Forms over cells as trees, without the boxes of the program.
use Rattle.std.specs.Prelude.{ℕ, ◌+◌, Bool}
use Rattle.kat_model.specs.declared.expression.Width.{Width}
use Rattle.flow_model.specs.declared.sort.Sort.{Sort}
use Rattle.flow_forms.specs.declared.form.FlowForm.{FlowForm}
use Rattle.flow_forms.specs.declared.form.FlowForm.TheVariants.{Constant, Term', One, Factor', Variable, Applied', Converted', NoArguments, Argument'}

-- The form of a number is a sum: a constant, or a term before a sum. A term is a coefficient and a product: one, or a
-- cell before a product. A cell is a variable, by its number, a function, by its number and the sort of its result,
-- applied to arguments, or a conversion of a form from one width to another. The form of an opaque value is a cell.
-- Arguments are none, or a form and its sort before other arguments.
pub data FlowFormTree : Type 0 where
  constant : (c : ℕ) → FlowFormTree
  term : (coefficient : ℕ) (product rest : FlowFormTree) → FlowFormTree
  one : FlowFormTree
  factor : (cell rest : FlowFormTree) → FlowFormTree
  variable : (k : ℕ) → FlowFormTree
  applied : (f : ℕ) (result : Sort) (args : FlowFormTree) → FlowFormTree
  converted : (signed : Bool) (from to : Width) (form : FlowFormTree) → FlowFormTree
  no_arguments : FlowFormTree
  argument : (sort : Sort) (form rest : FlowFormTree) → FlowFormTree

-- the tree of a form of the program
abbrev pub form_tree : FlowForm → FlowFormTree
form_tree (Constant c) = constant c
form_tree (Term' t x p y rest) = term t (form_tree p) (form_tree rest)
form_tree One = one
form_tree (Factor' x c y rest) = factor (form_tree c) (form_tree rest)
form_tree (Variable k) = variable k
form_tree (Applied' f result x args) = applied f result (form_tree args)
form_tree (Converted' signed from to x f) = converted signed from to (form_tree f)
form_tree NoArguments = no_arguments
form_tree (Argument' sort x f y rest) = argument sort (form_tree f) (form_tree rest)

-- the sum that is one cell
abbrev pub cell_form : FlowFormTree → FlowFormTree
cell_form c = term 1 (factor c one) (constant 0)

-- the number of nodes of a form: one for each constant and each cell, those in cells included
abbrev pub form_nodes : FlowFormTree → ℕ
form_nodes (constant c) = 1
form_nodes (term t p rest) = form_nodes p + form_nodes rest
form_nodes one = 0
form_nodes (factor c rest) = form_nodes c + form_nodes rest
form_nodes (variable k) = 1
form_nodes (applied f result args) = form_nodes args + 1
form_nodes (converted signed from to f) = form_nodes f + 1
form_nodes no_arguments = 0
form_nodes (argument sort f rest) = form_nodes f + form_nodes rest
