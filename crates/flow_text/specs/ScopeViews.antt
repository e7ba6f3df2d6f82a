-- The program's scopes as definitions see them.
use Rattle.std.specs.Prelude.{List, map, String, string_bytes}
use Rattle.std.specs.Ordering.{nat_cmp}
use Rattle.std.specs.Cmp.Lexicographic.{slice_cmp}
use Rattle.std.specs.FinMap.{FinMap, from_entries}
use Rattle.std.specs.declared.alloc.Global.{Global}
use Rattle.flow_text.specs.declared.meaning.Meaning.{Meaning}
use Rattle.flow_text.specs.declared.names.Names.{Names}
use Rattle.flow_text.specs.declared.scope.Function.{Function}
use Rattle.flow_text.specs.declared.scope.Scope.{Scope}
use Rattle.flow_text.specs.declared.visible_names.VisibleNames.{VisibleNames}
use Rattle.flow_text.specs.Scopes.{FunctionParts, function_parts, ScopeParts}

abbrev pub meanings_of : List (String Global × Meaning) → FinMap (slice_cmp nat_cmp) Meaning
meanings_of entries = from_entries (map (λ e. (string_bytes e.0, e.1)) entries)

unfoldable pub names_of : Names → FinMap (slice_cmp nat_cmp) Meaning
names_of n = meanings_of n.meanings.entries

abbrev pub function_of : Function → FunctionParts
function_of f = function_parts f.result_sort f.parameters.items

abbrev pub functions_of : List Function → List FunctionParts
functions_of fs = map function_of fs

abbrev pub scope_parts : Scope → ScopeParts
scope_parts s = record { meanings = names_of s.names; sorts = s.sorts; functions = functions_of s.functions.items; variables = s.variables.items; graphs = s.graphs }

abbrev pub sight_parts : VisibleNames → ScopeParts
sight_parts s = record { meanings = names_of s.scope.now.names; sorts = s.sorts; functions = functions_of s.functions.now; variables = s.variables.now; graphs = s.graphs }
