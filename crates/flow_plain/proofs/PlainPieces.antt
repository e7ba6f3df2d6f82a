-- The pieces of a plain text, and what they spell.
use Rattle.std.specs.Prelude.{ℕ, zero, suc, ◌+◌, List, [], ◌∷◌, ◌++◌, length, map, codes, Bool, true, false, Option, Some, None}
use Rattle.std.specs.Fmt.{decimal}
use Rattle.text_parser.specs.declared.token.Kind.TheVariants.{Name, Number, Symbol}
use Rattle.text_parser.specs.TokenParts.{TokenParts, token_parts}
use Rattle.text_parser.specs.Pieces.{Piece, word, numeral, symbol, gap}
use Rattle.text_print.specs.Printing.{relation_text}
use Rattle.flow_model.specs.declared.sort.Sort.{Sort}
use Rattle.flow_model.specs.Expressions.{ExprTree, number, variable, plus, minus, times, converted, applied, no_arguments, argument}
use Rattle.flow_model.specs.declared.sort.Sort.TheVariants.{Opaque}
use Rattle.flow_model.specs.Graphs.{StatementTree, assign, claim, JumpTree, goto, branch, return, abort, Block, Graph, Pair}
use Rattle.flow_model.specs.Conditions.{CondTree, always, never, compared, compared_signed, negation, both, either}
use Rattle.flow_syntax.specs.Syntax as syntax
use Rattle.flow_syntax.specs.Syntax.{ExprSyntax, CondSyntax}
use Rattle.flow_syntax.specs.Actions.{first_name}
use Rattle.flow_text.specs.Scopes.{FunctionParts, function_parts}
use Rattle.flow_plain.specs.PlainGraphs.{Declared, sort_text, conversion_text, variable_name, function_name, block_name, signed_text}

-- ---- expressions

abbrev pub comma_pieces : ExprTree → List Piece → List Piece
comma_pieces no_arguments ps = ps
comma_pieces _ ps = symbol (codes ",") ∷ gap 32 ∷ ps

-- two phrases in parentheses with an operator between them
abbrev pub spaced_pieces : List ℕ → (List Piece → List Piece) → (List Piece → List Piece) → List Piece → List Piece
spaced_pieces between left right ps = symbol (codes "(") ∷ left (gap 32 ∷ symbol between ∷ gap 32 ∷ right (symbol (codes ")") ∷ ps))

abbrev pub expr_pieces : ExprTree → List Piece → List Piece
expr_pieces (number w n) ps = numeral (decimal n) ∷ ps
expr_pieces (variable k) ps = word (variable_name k) ∷ ps
expr_pieces (plus w e f) ps = spaced_pieces (codes "+") (expr_pieces e) (expr_pieces f) ps
expr_pieces (minus w e f) ps = spaced_pieces (codes "-") (expr_pieces e) (expr_pieces f) ps
expr_pieces (times w e f) ps = spaced_pieces (codes "*") (expr_pieces e) (expr_pieces f) ps
expr_pieces (converted signed from to e) ps = word (conversion_text signed to) ∷ symbol (codes "(") ∷ expr_pieces e (symbol (codes ")") ∷ ps)
expr_pieces (applied f result args) ps = word (function_name f) ∷ symbol (codes "(") ∷ expr_pieces args (symbol (codes ")") ∷ ps)
expr_pieces no_arguments ps = ps
expr_pieces (argument e rest) ps = expr_pieces e (comma_pieces rest (expr_pieces rest ps))

-- the place after an expression at a place
abbrev pub comma_end : ExprTree → ℕ → ℕ
comma_end no_arguments at = at
comma_end _ at = at + 1 + 1

abbrev pub expr_end : ExprTree → ℕ → ℕ
expr_end (number w n) at = at + length (decimal n)
expr_end (variable k) at = at + length (variable_name k)
expr_end (plus w e f) at = expr_end f (expr_end e (at + 1) + 1 + 1 + 1) + 1
expr_end (minus w e f) at = expr_end f (expr_end e (at + 1) + 1 + 1 + 1) + 1
expr_end (times w e f) at = expr_end f (expr_end e (at + 1) + 1 + 1 + 1) + 1
expr_end (converted signed from to e) at = expr_end e (at + length (conversion_text signed to) + 1) + 1
expr_end (applied f result args) at = expr_end args (at + length (function_name f) + 1) + 1
expr_end no_arguments at = at
expr_end (argument e rest) at = expr_end rest (comma_end rest (expr_end e at))

abbrev pub arguments_count : ExprTree → ℕ
arguments_count (argument e rest) = suc (arguments_count rest)
arguments_count _ = 0

abbrev pub operation_syntax : ℕ → List ℕ → ExprSyntax → ExprSyntax → ExprSyntax
operation_syntax at text e f = syntax.operation (token_parts Symbol at text) ∷ (e ++ f)

-- the nodes that are read of an expression at a place; arguments one after the other
abbrev pub expr_syntax : ExprTree → ℕ → ExprSyntax
expr_syntax (number w n) at = syntax.numeral (token_parts Number at (decimal n)) ∷ []
expr_syntax (variable k) at = syntax.named (token_parts Name at (variable_name k)) ∷ []
expr_syntax (plus w e f) at = operation_syntax (expr_end e (at + 1) + 1) (codes "+") (expr_syntax e (at + 1)) (expr_syntax f (expr_end e (at + 1) + 1 + 1 + 1))
expr_syntax (minus w e f) at = operation_syntax (expr_end e (at + 1) + 1) (codes "-") (expr_syntax e (at + 1)) (expr_syntax f (expr_end e (at + 1) + 1 + 1 + 1))
expr_syntax (times w e f) at = operation_syntax (expr_end e (at + 1) + 1) (codes "*") (expr_syntax e (at + 1)) (expr_syntax f (expr_end e (at + 1) + 1 + 1 + 1))
expr_syntax (converted signed from to e) at =
    syntax.converted (token_parts Name at (conversion_text signed to)) (first_name (expr_syntax e (at + length (conversion_text signed to) + 1)))
    ∷ expr_syntax e (at + length (conversion_text signed to) + 1)
expr_syntax (applied f result args) at = syntax.called (token_parts Name at (function_name f)) (arguments_count args) ∷ expr_syntax args (at + length (function_name f) + 1)
expr_syntax no_arguments at = []
expr_syntax (argument e rest) at = expr_syntax e at ++ expr_syntax rest (comma_end rest (expr_end e at))

-- each argument
abbrev pub arguments_syntax : ExprTree → ℕ → List ExprSyntax
arguments_syntax (argument e rest) at = expr_syntax e at ∷ arguments_syntax rest (comma_end rest (expr_end e at))
arguments_syntax _ at = []

-- ---- conditions

abbrev pub cond_pieces : CondTree → List Piece → List Piece
cond_pieces always ps = word (codes "true") ∷ ps
cond_pieces never ps = word (codes "false") ∷ ps
cond_pieces (compared rel e f) ps = spaced_pieces (relation_text rel) (expr_pieces e) (expr_pieces f) ps
cond_pieces (compared_signed rel w e f) ps = word (signed_text rel) ∷ symbol (codes "(") ∷ expr_pieces e (symbol (codes ",") ∷ gap 32 ∷ expr_pieces f (symbol (codes ")") ∷ ps))
cond_pieces (negation b) ps = symbol (codes "!") ∷ cond_pieces b ps
cond_pieces (both b c) ps = spaced_pieces (codes "&&") (cond_pieces b) (cond_pieces c) ps
cond_pieces (either b c) ps = spaced_pieces (codes "||") (cond_pieces b) (cond_pieces c) ps

abbrev pub cond_end : CondTree → ℕ → ℕ
cond_end always at = at + 4
cond_end never at = at + 5
cond_end (compared rel e f) at = expr_end f (expr_end e (at + 1) + 1 + length (relation_text rel) + 1) + 1
cond_end (compared_signed rel w e f) at = expr_end f (expr_end e (at + length (signed_text rel) + 1) + 1 + 1) + 1
cond_end (negation b) at = cond_end b (at + 1)
cond_end (both b c) at = cond_end c (cond_end b (at + 1) + 1 + 2 + 1) + 1
cond_end (either b c) at = cond_end c (cond_end b (at + 1) + 1 + 2 + 1) + 1

abbrev pub cond_syntax : CondTree → ℕ → CondSyntax
cond_syntax always at = syntax.always ∷ []
cond_syntax never at = syntax.never ∷ []
cond_syntax (compared rel e f) at = syntax.compared (token_parts Symbol (expr_end e (at + 1) + 1) (relation_text rel)) (expr_syntax e (at + 1)) (expr_syntax f (expr_end e (at + 1) + 1 + length (relation_text rel) + 1)) ∷ []
cond_syntax (compared_signed rel w e f) at =
    syntax.compared_signed (token_parts Name at (signed_text rel)) (expr_syntax e (at + length (signed_text rel) + 1)) (expr_syntax f (expr_end e (at + length (signed_text rel) + 1) + 1 + 1)) ∷ []
cond_syntax (negation b) at = syntax.negation ∷ cond_syntax b (at + 1)
cond_syntax (both b c) at = syntax.both ∷ (cond_syntax b (at + 1) ++ cond_syntax c (cond_end b (at + 1) + 1 + 2 + 1))
cond_syntax (either b c) at = syntax.either ∷ (cond_syntax b (at + 1) ++ cond_syntax c (cond_end b (at + 1) + 1 + 2 + 1))

-- ---- lists

-- names with a comma before each
abbrev pub more_names : List (List ℕ) → List Piece → List Piece
more_names [] ps = ps
more_names (x ∷ xs) ps = symbol (codes ",") ∷ gap 32 ∷ word x ∷ more_names xs ps

abbrev pub more_names_end : List (List ℕ) → ℕ → ℕ
more_names_end [] at = at
more_names_end (x ∷ xs) at = more_names_end xs (at + 1 + 1 + length x)

abbrev pub more_names_syntax : List (List ℕ) → ℕ → List TokenParts
more_names_syntax [] at = []
more_names_syntax (x ∷ xs) at = token_parts Name (at + 1 + 1) x ∷ more_names_syntax xs (at + 1 + 1 + length x)

-- expressions with a comma before each
abbrev pub more_exprs : List ExprTree → List Piece → List Piece
more_exprs [] ps = ps
more_exprs (e ∷ es) ps = symbol (codes ",") ∷ gap 32 ∷ expr_pieces e (more_exprs es ps)

abbrev pub more_exprs_end : List ExprTree → ℕ → ℕ
more_exprs_end [] at = at
more_exprs_end (e ∷ es) at = more_exprs_end es (expr_end e (at + 1 + 1))

abbrev pub more_exprs_syntax : List ExprTree → ℕ → List ExprSyntax
more_exprs_syntax [] at = []
more_exprs_syntax (e ∷ es) at = expr_syntax e (at + 1 + 1) ∷ more_exprs_syntax es (expr_end e (at + 1 + 1))

-- ---- statements

-- an assignment of a first expression and others to a first variable and others
abbrev pub assign_pieces : ℕ → List ℕ → ExprTree → List ExprTree → List Piece → List Piece
assign_pieces k ks e es ps =
    word (variable_name k) ∷ more_names (map variable_name ks) (gap 32 ∷ symbol (codes ":=") ∷ gap 32 ∷ expr_pieces e (more_exprs es (symbol (codes ";") ∷ gap 32 ∷ ps)))

-- the place of `:=`, of the first expression and of the semicolon
abbrev pub becomes_place : ℕ → List ℕ → ℕ → ℕ
becomes_place k ks at = more_names_end (map variable_name ks) (at + length (variable_name k)) + 1

abbrev pub value_place : ℕ → List ℕ → ℕ → ℕ
value_place k ks at = becomes_place k ks at + 2 + 1

abbrev pub assign_stop : ℕ → List ℕ → ExprTree → List ExprTree → ℕ → ℕ
assign_stop k ks e es at = more_exprs_end es (expr_end e (value_place k ks at))

abbrev pub assign_syntax : ℕ → List ℕ → ExprTree → List ExprTree → ℕ → syntax.StatementSyntax
assign_syntax k ks e es at =
    syntax.assign (token_parts Name at (variable_name k) ∷ more_names_syntax (map variable_name ks) (at + length (variable_name k))) (token_parts Symbol (becomes_place k ks at) (codes ":="))
    (expr_syntax e (value_place k ks at) ∷ more_exprs_syntax es (expr_end e (value_place k ks at)))

-- an assignment without a variable or an expression has no text
abbrev pub statement_pieces : StatementTree → List Piece → List Piece
statement_pieces (assign [] es) ps = ps
statement_pieces (assign (k ∷ ks) []) ps = ps
statement_pieces (assign (k ∷ ks) (e ∷ es)) ps = assign_pieces k ks e es ps
statement_pieces (claim b) ps = word (codes "assert") ∷ gap 32 ∷ cond_pieces b (symbol (codes ";") ∷ gap 32 ∷ ps)

abbrev pub statement_end : StatementTree → ℕ → ℕ
statement_end (assign [] es) at = at
statement_end (assign (k ∷ ks) []) at = at
statement_end (assign (k ∷ ks) (e ∷ es)) at = assign_stop k ks e es at + 1 + 1
statement_end (claim b) at = cond_end b (at + 6 + 1) + 1 + 1

abbrev pub statement_syntax : StatementTree → ℕ → syntax.StatementSyntax
statement_syntax (assign [] es) at = syntax.claim []
statement_syntax (assign (k ∷ ks) []) at = syntax.claim []
statement_syntax (assign (k ∷ ks) (e ∷ es)) at = assign_syntax k ks e es at
statement_syntax (claim b) at = syntax.claim (cond_syntax b (at + 6 + 1))

abbrev pub statements_pieces : List StatementTree → List Piece → List Piece
statements_pieces [] ps = ps
statements_pieces (x ∷ xs) ps = statement_pieces x (statements_pieces xs ps)

abbrev pub statements_end : List StatementTree → ℕ → ℕ
statements_end [] at = at
statements_end (x ∷ xs) at = statements_end xs (statement_end x at)

abbrev pub statements_syntax : List StatementTree → ℕ → List syntax.StatementSyntax
statements_syntax [] at = []
statements_syntax (x ∷ xs) at = statement_syntax x at ∷ statements_syntax xs (statement_end x at)

-- ---- jumps

abbrev pub jump_pieces : JumpTree → List Piece → List Piece
jump_pieces (goto k) ps = word (codes "goto") ∷ gap 32 ∷ word (block_name k) ∷ symbol (codes ";") ∷ gap 32 ∷ ps
jump_pieces (branch b k l) ps =
    word (codes "if") ∷ gap 32 ∷ cond_pieces b (gap 32 ∷ word (codes "goto") ∷ gap 32 ∷ word (block_name k) ∷ gap 32 ∷ word (codes "else") ∷ gap 32 ∷ word (block_name l) ∷ symbol (codes ";") ∷ gap 32 ∷ ps)
jump_pieces (return []) ps = word (codes "return") ∷ symbol (codes ";") ∷ gap 32 ∷ ps
jump_pieces (return (e ∷ es)) ps = word (codes "return") ∷ gap 32 ∷ expr_pieces e (more_exprs es (symbol (codes ";") ∷ gap 32 ∷ ps))
jump_pieces abort ps = word (codes "abort") ∷ symbol (codes ";") ∷ gap 32 ∷ ps

abbrev pub first_target : CondTree → ℕ → ℕ
first_target b at = cond_end b (at + 2 + 1) + 1 + 4 + 1

abbrev pub other_target : CondTree → ℕ → ℕ → ℕ
other_target b k at = first_target b at + length (block_name k) + 1 + 4 + 1

abbrev pub jump_end : JumpTree → ℕ → ℕ
jump_end (goto k) at = at + 4 + 1 + length (block_name k) + 1 + 1
jump_end (branch b k l) at = other_target b k at + length (block_name l) + 1 + 1
jump_end (return []) at = at + 6 + 1 + 1
jump_end (return (e ∷ es)) at = more_exprs_end es (expr_end e (at + 6 + 1)) + 1 + 1
jump_end abort at = at + 5 + 1 + 1

abbrev pub results_syntax : List ExprTree → ℕ → List ExprSyntax
results_syntax [] at = []
results_syntax (e ∷ es) at = expr_syntax e (at + 6 + 1) ∷ more_exprs_syntax es (expr_end e (at + 6 + 1))

abbrev pub jump_syntax : JumpTree → ℕ → syntax.JumpSyntax
jump_syntax (goto k) at = syntax.goto (token_parts Name (at + 4 + 1) (block_name k))
jump_syntax (branch b k l) at = syntax.branch (cond_syntax b (at + 2 + 1)) (token_parts Name (first_target b at) (block_name k)) (token_parts Name (other_target b k at) (block_name l))
jump_syntax (return es) at = syntax.return (token_parts Name at (codes "return")) (results_syntax es at)
jump_syntax abort at = syntax.abort

-- ---- blocks

abbrev pub cut_pieces : Bool → List Piece → List Piece
cut_pieces true ps = word (codes "cut") ∷ gap 32 ∷ ps
cut_pieces false ps = ps

abbrev pub cut_end : Bool → ℕ → ℕ
cut_end true at = at + 3 + 1
cut_end false at = at

abbrev pub block_pieces : ℕ → Block → List Piece → List Piece
block_pieces k b ps =
    gap 32 ∷ gap 32 ∷ cut_pieces b.is_cut (word (codes "block") ∷ gap 32 ∷ word (block_name k) ∷ gap 32 ∷ symbol (codes "{") ∷ gap 32 ∷ statements_pieces b.statements (jump_pieces b.jump (symbol (codes "}") ∷ gap 10 ∷ ps)))

-- the place of the name of a block, and of its statements
abbrev pub name_place : Block → ℕ → ℕ
name_place b at = cut_end b.is_cut (at + 1 + 1) + 5 + 1

abbrev pub body_place : ℕ → Block → ℕ → ℕ
body_place k b at = name_place b at + length (block_name k) + 1 + 1 + 1

abbrev pub block_end : ℕ → Block → ℕ → ℕ
block_end k b at = jump_end b.jump (statements_end b.statements (body_place k b at)) + 1 + 1

abbrev pub block_syntax : ℕ → Block → ℕ → syntax.BlockSyntax
block_syntax k b at = syntax.a_block b.is_cut (token_parts Name (name_place b at) (block_name k)) (statements_syntax b.statements (body_place k b at)) (jump_syntax b.jump (statements_end b.statements (body_place k b at)))

abbrev pub blocks_pieces : ℕ → Graph → List Piece → List Piece
blocks_pieces k [] ps = ps
blocks_pieces k (b ∷ bs) ps = block_pieces k b (blocks_pieces (k + 1) bs ps)

abbrev pub blocks_end : ℕ → Graph → ℕ → ℕ
blocks_end k [] at = at
blocks_end k (b ∷ bs) at = blocks_end (k + 1) bs (block_end k b at)

abbrev pub blocks_syntax : ℕ → Graph → ℕ → List syntax.BlockSyntax
blocks_syntax k [] at = []
blocks_syntax k (b ∷ bs) at = block_syntax k b at ∷ blocks_syntax (k + 1) bs (block_end k b at)

-- ---- items

abbrev pub graph_pieces : List ℕ → Graph → List Piece → List Piece
graph_pieces name g ps = word (codes "graph") ∷ gap 32 ∷ word name ∷ gap 32 ∷ symbol (codes "{") ∷ gap 10 ∷ blocks_pieces 0 g (symbol (codes "}") ∷ gap 10 ∷ ps)

abbrev pub graph_begin : List ℕ → ℕ → ℕ
graph_begin name at = at + 5 + 1 + length name + 1 + 1 + 1

abbrev pub graph_end : List ℕ → Graph → ℕ → ℕ
graph_end name g at = blocks_end 0 g (graph_begin name at) + 1 + 1

abbrev pub graph_syntax : List ℕ → Graph → ℕ → syntax.ItemSyntax
graph_syntax name g at = syntax.graph (token_parts Name at (codes "graph")) (token_parts Name (at + 5 + 1) name) (blocks_syntax 0 g (graph_begin name at))

abbrev pub sorts_pieces : ℕ → ℕ → List Piece → List Piece
sorts_pieces k zero ps = ps
sorts_pieces k (suc n) ps = word (codes "sort") ∷ gap 32 ∷ word (sort_text (Opaque k)) ∷ symbol (codes ";") ∷ gap 10 ∷ sorts_pieces (k + 1) n ps

abbrev pub sort_end : ℕ → ℕ → ℕ
sort_end k at = at + 4 + 1 + length (sort_text (Opaque k)) + 1 + 1

abbrev pub sort_syntax : ℕ → ℕ → syntax.ItemSyntax
sort_syntax k at = syntax.sorts (token_parts Name at (codes "sort")) (token_parts Name (at + 4 + 1) (sort_text (Opaque k)) ∷ [])

-- the parameters of a function, to the parenthesis
abbrev pub parameters_pieces : List Sort → List Piece → List Piece
parameters_pieces [] ps = symbol (codes ")") ∷ ps
parameters_pieces (s ∷ ss) ps = word (sort_text s) ∷ more_names (map sort_text ss) (symbol (codes ")") ∷ ps)

abbrev pub parameters_stop : List Sort → ℕ → ℕ
parameters_stop [] at = at
parameters_stop (s ∷ ss) at = more_names_end (map sort_text ss) (at + length (sort_text s))

abbrev pub parameters_syntax : List Sort → ℕ → List TokenParts
parameters_syntax [] at = []
parameters_syntax (s ∷ ss) at = token_parts Name at (sort_text s) ∷ more_names_syntax (map sort_text ss) (at + length (sort_text s))

abbrev pub function_place : Sort → ℕ → ℕ
function_place result at = at + 3 + 1 + length (sort_text result) + 1

abbrev pub parameters_place : ℕ → Sort → ℕ → ℕ
parameters_place k result at = function_place result at + length (function_name k) + 1

abbrev pub function_pieces : ℕ → FunctionParts → List Piece → List Piece
function_pieces k (function_parts result parameters) ps =
    word (codes "fun") ∷ gap 32 ∷ word (sort_text result) ∷ gap 32 ∷ word (function_name k) ∷ symbol (codes "(") ∷ parameters_pieces parameters (symbol (codes ";") ∷ gap 10 ∷ ps)

abbrev pub function_end : ℕ → FunctionParts → ℕ → ℕ
function_end k (function_parts result parameters) at = parameters_stop parameters (parameters_place k result at) + 1 + 1 + 1

abbrev pub function_syntax : ℕ → FunctionParts → ℕ → syntax.ItemSyntax
function_syntax k (function_parts result parameters) at =
    syntax.function (token_parts Name at (codes "fun")) (token_parts Name (at + 3 + 1) (sort_text result)) (token_parts Name (function_place result at) (function_name k))
    (parameters_syntax parameters (parameters_place k result at))

abbrev pub functions_pieces : ℕ → List FunctionParts → List Piece → List Piece
functions_pieces k [] ps = ps
functions_pieces k (f ∷ fs) ps = function_pieces k f (functions_pieces (k + 1) fs ps)

abbrev pub variable_end : ℕ → Sort → ℕ → ℕ
variable_end k s at = at + 3 + 1 + length (sort_text s) + 1 + length (variable_name k) + 1 + 1

abbrev pub variable_syntax : ℕ → Sort → ℕ → syntax.ItemSyntax
variable_syntax k s at = syntax.variables (token_parts Name at (codes "var")) (token_parts Name (at + 3 + 1) (sort_text s)) (token_parts Name (at + 3 + 1 + length (sort_text s) + 1) (variable_name k) ∷ [])

abbrev pub variables_pieces : ℕ → List Sort → List Piece → List Piece
variables_pieces k [] ps = ps
variables_pieces k (s ∷ ss) ps = word (codes "var") ∷ gap 32 ∷ word (sort_text s) ∷ gap 32 ∷ word (variable_name k) ∷ symbol (codes ";") ∷ gap 10 ∷ variables_pieces (k + 1) ss ps

abbrev pub goal_pieces : List Piece
goal_pieces = word (codes "equal") ∷ gap 32 ∷ word (codes "before") ∷ symbol (codes ",") ∷ gap 32 ∷ word (codes "after") ∷ symbol (codes ";") ∷ gap 10 ∷ []

abbrev pub goal_syntax : ℕ → syntax.ItemSyntax
goal_syntax at = syntax.equal (token_parts Name at (codes "equal")) (token_parts Name (at + 5 + 1) (codes "before")) (token_parts Name (at + 5 + 1 + 6 + 1 + 1) (codes "after"))

-- the goal, after the rounds if they are given, and after `split` if paths are split
abbrev pub split_pieces : Bool → List Piece → List Piece
split_pieces true ps = word (codes "split") ∷ symbol (codes ";") ∷ gap 10 ∷ ps
split_pieces false ps = ps

abbrev pub split_syntax : Bool → ℕ → List syntax.ItemSyntax
split_syntax true at = syntax.split (token_parts Name at (codes "split")) ∷ goal_syntax (at + 5 + 1 + 1) ∷ []
split_syntax false at = goal_syntax at ∷ []

abbrev pub rounds_pieces : Option ℕ → List Piece → List Piece
rounds_pieces (Some n) ps = word (codes "rounds") ∷ gap 32 ∷ numeral (decimal n) ∷ symbol (codes ";") ∷ gap 10 ∷ ps
rounds_pieces None ps = ps

abbrev pub rounds_syntax : Bool → Option ℕ → ℕ → List syntax.ItemSyntax
rounds_syntax splits (Some n) at = syntax.rounds (token_parts Name at (codes "rounds")) (token_parts Number (at + 6 + 1) (decimal n)) ∷ split_syntax splits (at + 6 + 1 + length (decimal n) + 1 + 1)
rounds_syntax splits None at = split_syntax splits at

abbrev pub ending_pieces : Declared → List Piece
ending_pieces d = rounds_pieces d.rounds (split_pieces d.splits goal_pieces)

abbrev pub ending_syntax : Declared → ℕ → List syntax.ItemSyntax
ending_syntax d at = rounds_syntax d.splits d.rounds at

-- the graphs and the goal
abbrev pub asked_pieces : Declared → Graph → Graph → List Piece
asked_pieces d g h = graph_pieces (codes "before") g (graph_pieces (codes "after") h (ending_pieces d))

abbrev pub asked_syntax : Declared → Graph → Graph → ℕ → List syntax.ItemSyntax
asked_syntax d g h at =
    graph_syntax (codes "before") g at ∷ graph_syntax (codes "after") h (graph_end (codes "before") g at)
    ∷ ending_syntax d (graph_end (codes "after") h (graph_end (codes "before") g at))

-- `n` sorts from number `k` on, functions and variables, and then others
abbrev pub variables_syntax : (ℕ → List syntax.ItemSyntax) → ℕ → List Sort → ℕ → List syntax.ItemSyntax
variables_syntax next k [] at = next at
variables_syntax next k (s ∷ ss) at = variable_syntax k s at ∷ variables_syntax next (k + 1) ss (variable_end k s at)

abbrev pub functions_syntax : (ℕ → List syntax.ItemSyntax) → ℕ → List FunctionParts → ℕ → List syntax.ItemSyntax
functions_syntax next k [] at = next at
functions_syntax next k (f ∷ fs) at = function_syntax k f at ∷ functions_syntax next (k + 1) fs (function_end k f at)

abbrev pub sorts_syntax : (ℕ → List syntax.ItemSyntax) → ℕ → ℕ → ℕ → List syntax.ItemSyntax
sorts_syntax next k zero at = next at
sorts_syntax next k (suc n) at = sort_syntax k at ∷ sorts_syntax next (k + 1) n (sort_end k at)

abbrev pub graphs_pieces : Declared → Pair → List Piece
graphs_pieces d p = sorts_pieces 0 d.sorts (functions_pieces 0 d.functions (variables_pieces 0 p.sorts (asked_pieces d p.before p.after)))

abbrev pub graphs_syntax : Declared → Pair → List syntax.ItemSyntax
graphs_syntax d p = sorts_syntax (functions_syntax (variables_syntax (asked_syntax d p.before p.after) 0 p.sorts) 0 d.functions) 0 d.sorts 0
