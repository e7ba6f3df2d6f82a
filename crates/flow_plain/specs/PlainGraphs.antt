-- The plainest text of two flow graphs, such as `var u64 x0; graph before { block b0 { x0 := (x0 + 1); return x0; } } graph
-- after { block b0 { return (x0 + 1); } } equal before, after;`, with each item and each block on a line of its own. Names
-- are a letter and a number, and each operation has parentheses.
use Rattle.std.specs.Prelude.{ℕ, zero, suc, ◌+◌, List, [], ◌∷◌, ◌++◌, map, flat_map, codes, Bool, true, false, Option, Some, None}
use Rattle.std.specs.Fmt.{decimal}
use Rattle.kat_model.specs.declared.expression.Rel.{Rel}
use Rattle.kat_model.specs.declared.expression.Rel.TheVariants.{Eq, Ne, Lt, Le, Gt, Ge}
use Rattle.kat_model.specs.declared.expression.Width.{Width}
use Rattle.kat_model.specs.declared.expression.Width.TheVariants.{W8, W16, W32, W64}
use Rattle.text_print.specs.Printing.{relation_text}
use Rattle.flow_model.specs.declared.sort.Sort.{Sort}
use Rattle.flow_model.specs.declared.sort.Sort.TheVariants.{Number, Opaque}
use Rattle.flow_model.specs.Expressions.{ExprTree, number, variable, plus, minus, times, converted, applied, no_arguments, argument}
use Rattle.flow_model.specs.Conditions.{CondTree, always, never, compared, compared_signed, negation, both, either}
use Rattle.flow_model.specs.Graphs.{StatementTree, assign, claim, JumpTree, goto, branch, return, abort, Block, Graph, Pair}
use Rattle.flow_text.specs.Scopes.{FunctionParts, function_parts}

-- What a text says besides the variables and the graphs: how many opaque sorts there are, the functions, the rounds if they
-- are given, and whether paths are split. The last two are for the question that is printed; they do not change what the
-- graphs are.
pub record Declared : Type 0 where
  pub sorts : ℕ
  pub functions : List FunctionParts
  pub rounds : Option ℕ
  pub splits : Bool

-- ---- names

abbrev pub digits_of : Width → List ℕ
digits_of W8 = codes "8"
digits_of W16 = codes "16"
digits_of W32 = codes "32"
digits_of W64 = codes "64"

-- u8, u16, u32, u64, and o0, o1, .. for the opaque sorts
abbrev pub sort_text : Sort → List ℕ
sort_text (Number w) = codes "u" ++ digits_of w
sort_text (Opaque k) = codes "o" ++ decimal k

-- likewise s8, s16, s32, s64 for a conversion that extends the sign
abbrev pub conversion_text : Bool → Width → List ℕ
conversion_text false w = codes "u" ++ digits_of w
conversion_text true w = codes "s" ++ digits_of w

-- x0, x1, .., f0, f1, .. and b0, b1, ..
abbrev pub variable_name : ℕ → List ℕ
variable_name k = codes "x" ++ decimal k

abbrev pub function_name : ℕ → List ℕ
function_name k = codes "f" ++ decimal k

abbrev pub block_name : ℕ → List ℕ
block_name k = codes "b" ++ decimal k

-- ---- expressions and conditions

-- texts with a comma before each, and with commas between them
abbrev pub more_listed : List (List ℕ) → List ℕ
more_listed texts = flat_map (λ x. codes ", " ++ x) texts

abbrev pub listed : List (List ℕ) → List ℕ
listed [] = []
listed (x ∷ xs) = x ++ more_listed xs

-- the comma before further arguments, if there are any
abbrev pub comma_before : ExprTree → List ℕ
comma_before no_arguments = []
comma_before _ = codes ", "

-- each operation in parentheses
abbrev pub expression_text : ExprTree → List ℕ
expression_text (number w n) = decimal n
expression_text (variable k) = variable_name k
expression_text (plus w e f) = codes "(" ++ expression_text e ++ codes " + " ++ expression_text f ++ codes ")"
expression_text (minus w e f) = codes "(" ++ expression_text e ++ codes " - " ++ expression_text f ++ codes ")"
expression_text (times w e f) = codes "(" ++ expression_text e ++ codes " * " ++ expression_text f ++ codes ")"
expression_text (converted signed from to e) = conversion_text signed to ++ codes "(" ++ expression_text e ++ codes ")"
expression_text (applied f result args) = function_name f ++ codes "(" ++ expression_text args ++ codes ")"
expression_text no_arguments = []
expression_text (argument e rest) = expression_text e ++ comma_before rest ++ expression_text rest

-- a comparison as two's complement; equality has no word, since it is `==`
abbrev pub signed_text : Rel → List ℕ
signed_text Eq = []
signed_text Ne = []
signed_text Lt = codes "slt"
signed_text Le = codes "sle"
signed_text Gt = codes "sgt"
signed_text Ge = codes "sge"

abbrev pub condition_text : CondTree → List ℕ
condition_text always = codes "true"
condition_text never = codes "false"
condition_text (compared rel e f) = codes "(" ++ expression_text e ++ codes " " ++ relation_text rel ++ codes " " ++ expression_text f ++ codes ")"
condition_text (compared_signed rel w e f) = signed_text rel ++ codes "(" ++ expression_text e ++ codes ", " ++ expression_text f ++ codes ")"
condition_text (negation b) = codes "!" ++ condition_text b
condition_text (both b c) = codes "(" ++ condition_text b ++ codes " && " ++ condition_text c ++ codes ")"
condition_text (either b c) = codes "(" ++ condition_text b ++ codes " || " ++ condition_text c ++ codes ")"

-- ---- graphs

abbrev pub statement_text : StatementTree → List ℕ
statement_text (assign targets es) = listed (map variable_name targets) ++ codes " := " ++ listed (map expression_text es) ++ codes "; "
statement_text (claim b) = codes "assert " ++ condition_text b ++ codes "; "

abbrev pub results_text : List ExprTree → List ℕ
results_text [] = codes "return; "
results_text (e ∷ es) = codes "return " ++ listed (map expression_text (e ∷ es)) ++ codes "; "

abbrev pub jump_text : JumpTree → List ℕ
jump_text (goto k) = codes "goto " ++ block_name k ++ codes "; "
jump_text (branch b k l) = codes "if " ++ condition_text b ++ codes " goto " ++ block_name k ++ codes " else " ++ block_name l ++ codes "; "
jump_text (return es) = results_text es
jump_text abort = codes "abort; "

abbrev pub cut_text : Bool → List ℕ
cut_text true = codes "cut "
cut_text false = []

-- block `k` of a graph
abbrev pub block_text : ℕ → Block → List ℕ
block_text k b =
    codes "  " ++ cut_text b.is_cut ++ codes "block " ++ block_name k ++ codes " { " ++ flat_map statement_text b.statements ++ jump_text b.jump
    ++ codes "}\n"

-- blocks from number `k` on
abbrev pub blocks_text : ℕ → Graph → List ℕ
blocks_text k [] = []
blocks_text k (b ∷ bs) = block_text k b ++ blocks_text (k + 1) bs

abbrev pub graph_text : List ℕ → Graph → List ℕ
graph_text name g = codes "graph " ++ name ++ codes " {\n" ++ blocks_text 0 g ++ codes "}\n"

-- ---- declarations

abbrev pub function_text : ℕ → FunctionParts → List ℕ
function_text k (function_parts result parameters) =
    codes "fun " ++ sort_text result ++ codes " " ++ function_name k ++ codes "(" ++ listed (map sort_text parameters) ++ codes ");\n"

-- `n` sorts, functions and variables from number `k` on
abbrev pub sorts_text : ℕ → ℕ → List ℕ
sorts_text k zero = []
sorts_text k (suc n) = codes "sort " ++ sort_text (Opaque k) ++ codes ";\n" ++ sorts_text (k + 1) n

abbrev pub functions_text : ℕ → List FunctionParts → List ℕ
functions_text k [] = []
functions_text k (f ∷ fs) = function_text k f ++ functions_text (k + 1) fs

abbrev pub variables_text : ℕ → List Sort → List ℕ
variables_text k [] = []
variables_text k (s ∷ ss) = codes "var " ++ sort_text s ++ codes " " ++ variable_name k ++ codes ";\n" ++ variables_text (k + 1) ss

abbrev pub rounds_text : Option ℕ → List ℕ
rounds_text None = []
rounds_text (Some n) = codes "rounds " ++ decimal n ++ codes ";\n"

abbrev pub split_text : Bool → List ℕ
split_text true = codes "split;\n"
split_text false = []

-- the plainest text of two graphs: declarations, both graphs and the goal
abbrev pub graphs_text : Declared → Pair → List ℕ
graphs_text d p =
    sorts_text 0 d.sorts ++ functions_text 0 d.functions ++ variables_text 0 p.sorts ++ graph_text (codes "before") p.before
    ++ graph_text (codes "after") p.after
    ++ rounds_text d.rounds
    ++ split_text d.splits
    ++ codes "equal before, after;\n"
