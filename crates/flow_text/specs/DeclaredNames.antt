-- The names of the variables and of the functions that items declare, in the order of their declarations.
use Rattle.std.specs.Prelude.{ℕ, List, [], ◌∷◌, ◌++◌, map}
use Rattle.text_parser.specs.TokenParts.{bytes_of}
use Rattle.flow_syntax.specs.Syntax.{ItemSyntax, sorts, function, variables, graph, rounds, split, equal, matching}

abbrev pub variables_in : ItemSyntax → List (List ℕ)
variables_in (sorts word names) = []
variables_in (function word result name parameters) = []
variables_in (variables word sort names) = map bytes_of names
variables_in (graph word name blocks) = []
variables_in (rounds word number) = []
variables_in (split word) = []
variables_in (equal word before after) = []
variables_in (matching word m) = []

abbrev pub functions_in : ItemSyntax → List (List ℕ)
functions_in (sorts word names) = []
functions_in (function word result name parameters) = bytes_of name ∷ []
functions_in (variables word sort names) = []
functions_in (graph word name blocks) = []
functions_in (rounds word number) = []
functions_in (split word) = []
functions_in (equal word before after) = []
functions_in (matching word m) = []

-- variable k is that of the k-th name
abbrev pub variable_names : List ItemSyntax → List (List ℕ)
variable_names [] = []
variable_names (x ∷ xs) = variables_in x ++ variable_names xs

-- function k is that of the k-th name
abbrev pub function_names : List ItemSyntax → List (List ℕ)
function_names [] = []
function_names (x ∷ xs) = functions_in x ++ function_names xs
