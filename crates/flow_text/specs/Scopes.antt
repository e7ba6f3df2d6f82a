-- What the names of a flow file mean, and declarations.
use Rattle.std.specs.Prelude.{ℕ, ◌+◌, List, [], ◌∷◌, ◌++◌, length, take, Bool, true, false, nat_lt, if◌then◌else◌, Option, Some, None, Result, Ok, Err, codes}
use Rattle.std.specs.Str.{bytes_eq}
use Rattle.std.specs.Ordering.{nat_cmp}
use Rattle.std.specs.Cmp.Lexicographic.{slice_cmp}
use Rattle.std.specs.FinMap.{FinMap, empty, get, insert}
use Rattle.kat_model.specs.declared.expression.Width.{Width}
use Rattle.kat_model.specs.declared.expression.Width.TheVariants.{W8, W16, W32, W64}
use Rattle.text_parser.specs.declared.fault.TextFault.{TextFault}
use Rattle.text_parser.specs.declared.fault.TextFault.TheVariants as fault
use Rattle.text_parser.specs.TokenParts.{TokenParts, place_of, bytes_of}
use Rattle.text_parser.specs.Parsed.{◌>>=◌}
use Rattle.flow_model.specs.declared.sort.Sort.{Sort}
use Rattle.flow_model.specs.contracts.sort.SortPartialEq.TheImpl.{ghosts as relation}
use Rattle.flow_model.specs.declared.sort.Sort.TheVariants.{Number, Opaque}
use Rattle.flow_text.specs.declared.limits.TheConstants.{MAX_SORTS, MAX_FUNCTIONS, MAX_PARAMETERS, MAX_VARIABLES}
use Rattle.flow_text.specs.declared.meaning.Meaning.{Meaning}
use Rattle.flow_text.specs.declared.meaning.Meaning.TheVariants.{SortName, Function, Variable, GraphName}

-- the sorts of the result and of the parameters of a function
pub data FunctionParts : Type 0 where
  function_parts : (result : Sort) → (parameters : List Sort) → FunctionParts

-- The meanings of the names declared so far. Sorts, functions, variables and graphs are numbered in the order of their
-- declarations; `sorts` and `graphs` are how many sorts and graphs there are.
pub record ScopeParts : Type 0 where
  pub meanings : FinMap (slice_cmp nat_cmp) Meaning
  pub sorts : ℕ
  pub functions : List FunctionParts
  pub variables : List Sort
  pub graphs : ℕ

abbrev pub no_names : ScopeParts
no_names = record { meanings = empty; sorts = 0; functions = []; variables = []; graphs = 0 }

abbrev pub meaning : ScopeParts → TokenParts → Option Meaning
meaning scope t = get scope.meanings (bytes_of t)

-- `limit` is the number of names of a kind that may be declared, of which there are `count` already
abbrev pub may_declare : Option Meaning → ℕ → ℕ → TokenParts → Result (Unit {0}) TextFault
may_declare (Some m) count limit t = Err (fault.DoubleName (place_of t))
may_declare None count limit t = if nat_lt count limit then Ok tt else Err (fault.TooMany (place_of t))

-- declares a name of each kind
abbrev pub with_sort : ScopeParts → TokenParts → Result ScopeParts TextFault
with_sort s t = may_declare (meaning s t) s.sorts MAX_SORTS t
    >>= λ u. Ok (record { meanings = insert s.meanings (bytes_of t) (SortName s.sorts); sorts = s.sorts + 1; functions = s.functions; variables = s.variables; graphs = s.graphs })

abbrev pub may_have_function : ScopeParts → TokenParts → Result (Unit {0}) TextFault
may_have_function s t = may_declare (meaning s t) (length s.functions) MAX_FUNCTIONS t

abbrev pub with_function : ScopeParts → TokenParts → Sort → List Sort → ScopeParts
with_function s t result parameters =
    record { meanings = insert s.meanings (bytes_of t) (Function (length s.functions)); sorts = s.sorts; functions = s.functions ++ function_parts result parameters ∷ []; variables = s.variables; graphs = s.graphs }

abbrev pub with_variable : ScopeParts → Sort → TokenParts → Result ScopeParts TextFault
with_variable s sort t = may_declare (meaning s t) (length s.variables) MAX_VARIABLES t
    >>= λ u. Ok (record { meanings = insert s.meanings (bytes_of t) (Variable (length s.variables)); sorts = s.sorts; functions = s.functions; variables = s.variables ++ sort ∷ []; graphs = s.graphs })

-- the number of graphs has no limit of its own
abbrev pub may_have_graph : ScopeParts → TokenParts → Result (Unit {0}) TextFault
may_have_graph s t = may_declare (meaning s t) 0 1 t

-- declares the name of graph `k`, and then that there are `k + 1` graphs
abbrev pub with_graph_name : ScopeParts → TokenParts → ℕ → ScopeParts
with_graph_name s t k =
    record { meanings = insert s.meanings (bytes_of t) (GraphName k); sorts = s.sorts; functions = s.functions; variables = s.variables; graphs = s.graphs }

abbrev pub with_graph : ScopeParts → TokenParts → ℕ → ScopeParts
with_graph s t k = record { meanings = insert s.meanings (bytes_of t) (GraphName k); sorts = s.sorts; functions = s.functions; variables = s.variables; graphs = k + 1 }

-- ---- the scope of a graph

-- numbers of sorts, functions, variables and graphs
pub data Counts : Type 0 where
  counts : (sorts functions variables graphs : ℕ) → Counts

abbrev pub counts_of : ScopeParts → Counts
counts_of s = counts s.sorts (length s.functions) (length s.variables) s.graphs

-- the scope when there were that many declarations; names that were declared later are still in its table
abbrev pub scope_before : ScopeParts → Counts → ScopeParts
scope_before s (counts i m n j) = record { meanings = s.meanings; sorts = i; functions = take m s.functions; variables = take n s.variables; graphs = j }

-- whether what a name means is declared
abbrev pub is_declared : ScopeParts → Meaning → Bool
is_declared s (SortName k) = nat_lt k s.sorts
is_declared s (Function k) = nat_lt k (length s.functions)
is_declared s (Variable k) = nat_lt k (length s.variables)
is_declared s (GraphName k) = nat_lt k s.graphs

abbrev pub if_declared : ScopeParts → Option Meaning → Option Meaning
if_declared s None = None
if_declared s (Some m) = if is_declared s m then Some m else None

-- what a token of a graph means as a name
abbrev pub meaning_in : ScopeParts → TokenParts → Option Meaning
meaning_in s t = if_declared s (meaning s t)

-- ---- declarations

-- each name of a list
abbrev pub sorts_declared : ScopeParts → List TokenParts → Result ScopeParts TextFault
sorts_declared s [] = Ok s
sorts_declared s (t ∷ ts) = with_sort s t >>= λ u. sorts_declared u ts

abbrev pub variables_declared : ScopeParts → Sort → List TokenParts → Result ScopeParts TextFault
variables_declared s sort [] = Ok s
variables_declared s sort (t ∷ ts) = with_variable s sort t >>= λ u. variables_declared u sort ts

-- the width that a word names, if it does, and whether it names a signed one
abbrev pub width_named : List ℕ → Option (Bool × Width)
width_named text =
    if bytes_eq text (codes "u8") then Some (false, W8)
    else if bytes_eq text (codes "u16") then Some (false, W16)
    else if bytes_eq text (codes "u32") then Some (false, W32)
    else if bytes_eq text (codes "u64") then Some (false, W64)
    else if bytes_eq text (codes "s8") then Some (true, W8)
    else if bytes_eq text (codes "s16") then Some (true, W16)
    else if bytes_eq text (codes "s32") then Some (true, W32)
    else if bytes_eq text (codes "s64") then Some (true, W64)
    else None

abbrev pub sort_fault : {X : Type 0} → TokenParts → Result X TextFault
sort_fault t = Err (fault.Sort (place_of t))

abbrev pub unknown : {X : Type 0} → TokenParts → Result X TextFault
unknown t = Err (fault.UnknownName (place_of t))

-- the sort that a name means
abbrev pub sort_meant : TokenParts → Option Meaning → Result Sort TextFault
sort_meant t None = unknown t
sort_meant t (Some (SortName k)) = Ok (Opaque k)
sort_meant t (Some other) = sort_fault t

abbrev pub sort_or_width : ScopeParts → TokenParts → Option (Bool × Width) → Result Sort TextFault
sort_or_width s t None = sort_meant t (meaning s t)
sort_or_width s t (Some x) = Ok (Number x.1)

-- the sort that a token of a declaration names
abbrev pub sort_named : ScopeParts → TokenParts → Result Sort TextFault
sort_named s t = sort_or_width s t (width_named (bytes_of t))

abbrev pub few_parameters : TokenParts → ℕ → Sort → Result Sort TextFault
few_parameters t count sort = if nat_lt count MAX_PARAMETERS then Ok sort else Err (fault.TooMany (place_of t))

-- the sort of a parameter after `count` others
abbrev pub next_parameter : ScopeParts → TokenParts → ℕ → Result Sort TextFault
next_parameter s t count = sort_named s t >>= few_parameters t count

-- the sorts of the parameters before, and of others
abbrev pub parameters_after : ScopeParts → List Sort → List TokenParts → Result (List Sort) TextFault
parameters_after s before [] = Ok before
parameters_after s before (t ∷ ts) = next_parameter s t (length before) >>= λ x. parameters_after s (before ++ x ∷ []) ts

abbrev pub same_sort : Sort → Sort → Bool
same_sort x y = relation.eq x y
