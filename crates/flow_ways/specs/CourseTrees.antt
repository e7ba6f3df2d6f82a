-- The courses of the program.
use Rattle.std.specs.Prelude.{◌≡◌, Bool, List, [], ◌∷◌, length, map, take, Option, Some, None, if◌then◌else◌}
use Rattle.flow_forms.specs.Forms.{FlowFormTree, form_tree}
use Rattle.flow_ways.specs.CondTrees.{cond_tree, known_fact}
use Rattle.flow_ways.specs.Ways.{SymbolicRun}
use Rattle.flow_ways.specs.declared.symbolic_run.SymbolicRun.{SymbolicRun as ACourse}
use Rattle.flow_ways.specs.declared.form_list.FormList.{FormList}
use Rattle.flow_ways.specs.declared.form_list.FormList.TheVariants.{Empty, Listed'}

abbrev pub course_tree : ACourse → SymbolicRun
course_tree c =
    record { forms = map form_tree c.forms.items; facts = map known_fact c.facts.items; tests = map cond_tree c.tests.items }

-- the forms of a list of the program
abbrev pub list_forms : FormList → List FlowFormTree
list_forms Empty = []
list_forms (Listed' f x rest) = form_tree f.value ∷ list_forms rest

-- the course, if it goes on
abbrev pub if_goes : Bool → SymbolicRun → Option SymbolicRun
if_goes goes symbolic_run = if goes then Some symbolic_run else None

-- the facts and tests of a course begin with those that were there before
abbrev pub IsGrown : SymbolicRun → SymbolicRun → Type 0
IsGrown old new =
    (take (length old.facts) new.facts ≡ old.facts) × (take (length old.tests) new.tests ≡ old.tests)
