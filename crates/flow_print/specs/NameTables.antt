-- The names with which comments are written.
use Rattle.std.specs.Prelude.{ℕ, List, ◌++◌, codes, map, slice_get, Option, Some, None, String, string_bytes}
use Rattle.std.specs.Fmt.{decimal}
use Rattle.std.specs.declared.alloc.Global.{Global}
use Rattle.kat_model.specs.declared.expression.Width.{Width}
use Rattle.kat_model.specs.declared.expression.Width.TheVariants.{W64}
use Rattle.flow_model.specs.declared.sort.Sort.{Sort}
use Rattle.flow_model.specs.declared.sort.Sort.TheVariants.{Number, Opaque}

-- the names of variables and functions, and the sorts of variables, by their numbers
pub record NameTable : Type 0 where
  pub variables : List (List ℕ)
  pub sorts : List Sort
  pub functions : List (List ℕ)

-- the names of the program
abbrev pub names_of : List (String Global) → List Sort → List (String Global) → NameTable
names_of variables sorts functions = record { variables = map string_bytes variables; sorts = sorts; functions = map string_bytes functions }

-- the name, or a word and a number if there is none
abbrev pub name_or : List ℕ → ℕ → Option (List ℕ) → List ℕ
name_or word k None = word ++ decimal k
name_or word k (Some name) = name

abbrev pub variable_text : NameTable → ℕ → List ℕ
variable_text names k = name_or (codes "variable") k (slice_get names.variables k)

abbrev pub function_text : NameTable → ℕ → List ℕ
function_text names k = name_or (codes "function") k (slice_get names.functions k)

-- the width of the numbers of a sort; that of an opaque sort has no meaning
abbrev pub sort_width : Sort → Width
sort_width (Number w) = w
sort_width (Opaque k) = W64

abbrev pub width_or : Option Sort → Width
width_or None = W64
width_or (Some sort) = sort_width sort

abbrev pub variable_width : NameTable → ℕ → Width
variable_width names k = width_or (slice_get names.sorts k)
