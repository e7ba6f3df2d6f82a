-- The actions of the program.
use Rattle.std.specs.Prelude.{Option, option_map}
use Rattle.flow_forms.specs.declared.form.FlowForm.{FlowForm}
use Rattle.flow_forms.specs.Forms.{FlowFormTree, form_tree}

-- what a variable is set to, if it is set
abbrev pub set_tree : Option FlowForm → Option FlowFormTree
set_tree o = option_map form_tree o
