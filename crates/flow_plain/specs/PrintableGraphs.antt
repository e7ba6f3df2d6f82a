-- Which graphs have a plainest text that is read as these graphs: those whose expressions have the sorts that the text
-- shows, within the limits of a flow file. A text gives a number no sort of its own: it has that of its place. So the sort
-- of each comparison, of the operand of each conversion and of each result must be that of the first name or conversion in
-- it, or u64 where it has neither.
use Rattle.std.specs.Prelude.{◌≡◌, ◌≢◌, ◌≤◌, ◌<◌, ◌+◌, ◌⊎◌, ℕ, List, [], ◌∷◌, length, map, slice_get, max, Option, Some, None}
use Rattle.kat_model.specs.declared.expression.Rel.{Rel}
use Rattle.kat_model.specs.declared.expression.Rel.TheVariants.{Eq, Ne}
use Rattle.kat_model.specs.declared.limits.TheConstants.{MAX_TEXT_BYTES, MAX_EXPR_NODES, MAX_TERM_NODES, MAX_TEXT_NODES, MAX_OPEN, MAX_ROUNDS}
use Rattle.kat_model.specs.Members.{HasNoDoubles}
use Rattle.kat_model.specs.Stores.{modulus}
use Rattle.flow_model.specs.declared.sort.Sort.{Sort}
use Rattle.flow_model.specs.declared.sort.Sort.TheVariants.{Number, Opaque}
use Rattle.flow_model.specs.Expressions.{ExprTree, number, variable, plus, minus, times, converted, applied, no_arguments, argument}
use Rattle.flow_model.specs.Conditions.{CondTree, always, never, compared, compared_signed, negation, both, either}
use Rattle.flow_model.specs.Graphs.{StatementTree, assign, claim, JumpTree, goto, branch, return, abort, Graph, Pair}
use Rattle.flow_text.specs.Scopes.{FunctionParts, function_parts}
use Rattle.flow_text.specs.Resolving.{sort_or_u64}
use Rattle.flow_text.specs.Checking.{first_sort, ResultSorts, known_sorts}
use Rattle.flow_text.specs.declared.limits.TheConstants.{MAX_SORTS, MAX_FUNCTIONS, MAX_PARAMETERS, MAX_VARIABLES, MAX_BLOCKS}
use Rattle.flow_plain.specs.PlainGraphs.{Declared, graphs_text}

-- ---- sizes

-- the nodes of an expression
abbrev pub expression_size : ExprTree → ℕ
expression_size (number w n) = 1
expression_size (variable k) = 1
expression_size (plus w e f) = 1 + (expression_size e + expression_size f)
expression_size (minus w e f) = 1 + (expression_size e + expression_size f)
expression_size (times w e f) = 1 + (expression_size e + expression_size f)
expression_size (converted signed from to e) = 1 + expression_size e
expression_size (applied f result args) = 1 + expression_size args
expression_size no_arguments = 0
expression_size (argument e rest) = expression_size e + expression_size rest

abbrev pub expressions_size : List ExprTree → ℕ
expressions_size [] = 0
expressions_size (e ∷ es) = expression_size e + expressions_size es

abbrev pub condition_size : CondTree → ℕ
condition_size always = 1
condition_size never = 1
condition_size (compared rel e f) = 1 + (expression_size e + expression_size f)
condition_size (compared_signed rel w e f) = 1 + (expression_size e + expression_size f)
condition_size (negation b) = 1 + condition_size b
condition_size (both b c) = 1 + (condition_size b + condition_size c)
condition_size (either b c) = 1 + (condition_size b + condition_size c)

abbrev pub statement_size : StatementTree → ℕ
statement_size (assign targets es) = length targets + expressions_size es
statement_size (claim b) = 1 + condition_size b

abbrev pub statements_size : List StatementTree → ℕ
statements_size [] = 0
statements_size (x ∷ xs) = statement_size x + statements_size xs

abbrev pub jump_size : JumpTree → ℕ
jump_size (goto k) = 1
jump_size (branch b k l) = 1 + condition_size b
jump_size (return es) = 1 + expressions_size es
jump_size abort = 1

abbrev pub graph_size : Graph → ℕ
graph_size [] = 0
graph_size (b ∷ bs) = 1 + (statements_size b.statements + jump_size b.jump) + graph_size bs

-- the largest number of constructs that are open at one place of an expression, and of a condition
abbrev pub expression_levels : ExprTree → ℕ
expression_levels (number w n) = 0
expression_levels (variable k) = 0
expression_levels (plus w e f) = 1 + max (expression_levels e) (expression_levels f)
expression_levels (minus w e f) = 1 + max (expression_levels e) (expression_levels f)
expression_levels (times w e f) = 1 + max (expression_levels e) (expression_levels f)
expression_levels (converted signed from to e) = 1 + expression_levels e
expression_levels (applied f result args) = 1 + expression_levels args
expression_levels no_arguments = 0
expression_levels (argument e rest) = max (expression_levels e) (expression_levels rest)

abbrev pub condition_levels : CondTree → ℕ
condition_levels always = 0
condition_levels never = 0
condition_levels (compared rel e f) = 1 + max (expression_levels e) (expression_levels f)
condition_levels (compared_signed rel w e f) = 1 + max (expression_levels e) (expression_levels f)
condition_levels (negation b) = 1 + condition_levels b
condition_levels (both b c) = 1 + max (condition_levels b) (condition_levels c)
condition_levels (either b c) = 1 + max (condition_levels b) (condition_levels c)

-- ---- expressions

-- what a place takes: an expression of a sort, or arguments of some sorts
pub data Wanted : Type 0 where
  one_of : (s : Sort) → Wanted
  all_of : (ss : List Sort) → Wanted

-- The sort of the first name or conversion that is in no argument and under no conversion. Here and below `sorts` are those
-- of the variables.
abbrev pub shown_sort : List Sort → ExprTree → Option Sort
shown_sort sorts (number w n) = None
shown_sort sorts (variable k) = slice_get sorts k
shown_sort sorts (plus w e f) = first_sort (shown_sort sorts e) (shown_sort sorts f)
shown_sort sorts (minus w e f) = first_sort (shown_sort sorts e) (shown_sort sorts f)
shown_sort sorts (times w e f) = first_sort (shown_sort sorts e) (shown_sort sorts f)
shown_sort sorts (converted signed from to e) = Some (Number to)
shown_sort sorts (applied f result args) = Some result
shown_sort sorts no_arguments = None
shown_sort sorts (argument e rest) = None

-- the expression has the sort of its place, or the arguments have theirs, and so have their parts; numbers are in range,
-- and the names are declared
abbrev pub HasSorts : Declared → List Sort → Wanted → ExprTree → Type 0
HasSorts d sorts w (number v n) = (w ≡ one_of (Number v)) × (n < modulus v)
HasSorts d sorts w (variable k) = (s : Sort) × (w ≡ one_of s) × (slice_get sorts k ≡ Some s)
HasSorts d sorts w (plus v e f) = (w ≡ one_of (Number v)) × HasSorts d sorts w e × HasSorts d sorts w f
HasSorts d sorts w (minus v e f) = (w ≡ one_of (Number v)) × HasSorts d sorts w e × HasSorts d sorts w f
HasSorts d sorts w (times v e f) = (w ≡ one_of (Number v)) × HasSorts d sorts w e × HasSorts d sorts w f
HasSorts d sorts w (converted signed from to e) = (w ≡ one_of (Number to)) × HasSorts d sorts (one_of (Number from)) e × (sort_or_u64 (shown_sort sorts e) ≡ Number from)
HasSorts d sorts w (applied f result args) = (ps : List Sort) × (w ≡ one_of result) × (slice_get d.functions f ≡ Some (function_parts result ps)) × HasSorts d sorts (all_of ps) args
HasSorts d sorts w no_arguments = w ≡ all_of []
HasSorts d sorts w (argument e rest) = (s : Sort) × (ss : List Sort) × (w ≡ all_of (s ∷ ss)) × HasSorts d sorts (one_of s) e × HasSorts d sorts (all_of ss) rest

-- an expression of a sort, within the limits of an expression; its graph and its block are open around it
pub record IsPlainExpr (d : Declared) (sorts : List Sort) (s : Sort) (e : ExprTree) : Type 0 where
  pub sorted : HasSorts d sorts (one_of s) e
  pub small : expression_size e ≤ MAX_EXPR_NODES
  pub shallow : 2 + expression_levels e ≤ MAX_OPEN

-- ---- conditions

-- opaque values are compared for equality only
abbrev pub MayCompare : Sort → Rel → Type 0
MayCompare (Number w) rel = Unit {0}
MayCompare (Opaque k) rel = (rel ≡ Eq) ⊎ (rel ≡ Ne)

-- the sort of both sides of a comparison
abbrev pub sides_sort : List Sort → ExprTree → ExprTree → Sort
sides_sort sorts e f = sort_or_u64 (first_sort (shown_sort sorts e) (shown_sort sorts f))

-- both sides of a comparison have the sort, which is the one that they show, and a limited size
abbrev pub AreSides : Declared → List Sort → Sort → ExprTree → ExprTree → Type 0
AreSides d sorts s e f = (sides_sort sorts e f ≡ s) × HasSorts d sorts (one_of s) e × HasSorts d sorts (one_of s) f × (expression_size e ≤ MAX_EXPR_NODES) × (expression_size f ≤ MAX_EXPR_NODES)

-- each comparison has such sides, and its relation is one of their sort
abbrev pub HasSides : Declared → List Sort → CondTree → Type 0
HasSides d sorts always = Unit {0}
HasSides d sorts never = Unit {0}
HasSides d sorts (compared rel e f) = (s : Sort) × AreSides d sorts s e f × MayCompare s rel
HasSides d sorts (compared_signed rel w e f) = AreSides d sorts (Number w) e f × (rel ≢ Eq) × (rel ≢ Ne)
HasSides d sorts (negation b) = HasSides d sorts b
HasSides d sorts (both b c) = HasSides d sorts b × HasSides d sorts c
HasSides d sorts (either b c) = HasSides d sorts b × HasSides d sorts c

-- a condition, with the graph and the block open around it
pub record IsPlainCond (d : Declared) (sorts : List Sort) (b : CondTree) : Type 0 where
  pub sorted : HasSides d sorts b
  pub shallow : 2 + condition_levels b ≤ MAX_OPEN

-- ---- statements and jumps

-- each variable gets an expression of its sort
abbrev pub AreAssigned : Declared → List Sort → List ℕ → List ExprTree → Type 0
AreAssigned d sorts [] [] = Unit {0}
AreAssigned d sorts [] (e ∷ es) = ⊥
AreAssigned d sorts (k ∷ ks) [] = ⊥
AreAssigned d sorts (k ∷ ks) (e ∷ es) = (s : Sort) × (slice_get sorts k ≡ Some s) × IsPlainExpr d sorts s e × AreAssigned d sorts ks es

-- an assignment sets some variables, none of them twice
abbrev pub IsPlainStatement : Declared → List Sort → StatementTree → Type 0
IsPlainStatement d sorts (assign targets es) = (targets ≢ []) × HasNoDoubles targets × AreAssigned d sorts targets es
IsPlainStatement d sorts (claim b) = IsPlainCond d sorts b

-- an expression for each result
abbrev pub AreResults : Declared → List Sort → List Sort → List ExprTree → Type 0
AreResults d sorts [] [] = Unit {0}
AreResults d sorts [] (e ∷ es) = ⊥
AreResults d sorts (s ∷ ss) [] = ⊥
AreResults d sorts (s ∷ ss) (e ∷ es) = IsPlainExpr d sorts s e × AreResults d sorts ss es

-- a jump of a graph of `n` blocks that returns values of these sorts
abbrev pub IsPlainJump : Declared → List Sort → ℕ → List Sort → JumpTree → Type 0
IsPlainJump d sorts n results (goto k) = k < n
IsPlainJump d sorts n results (branch b k l) = IsPlainCond d sorts b × (k < n) × (l < n)
IsPlainJump d sorts n results (return es) = AreResults d sorts results es
IsPlainJump d sorts n results abort = Unit {0}

-- ---- the sorts of results

-- for each place the sort that was shown before, or that which the expression there shows
abbrev pub shown_with : List Sort → List (Option Sort) → List ExprTree → List (Option Sort)
shown_with sorts [] es = []
shown_with sorts (s ∷ ss) [] = s ∷ shown_with sorts ss []
shown_with sorts (s ∷ ss) (e ∷ es) = first_sort s (shown_sort sorts e) ∷ shown_with sorts ss es

-- the sorts so far, with what the `return`s of a jump and of blocks show
abbrev pub with_return : List Sort → ResultSorts → List ExprTree → ResultSorts
with_return sorts None es = Some (map (shown_sort sorts) es)
with_return sorts (Some ss) es = Some (shown_with sorts ss es)

abbrev pub with_jump : List Sort → ResultSorts → JumpTree → ResultSorts
with_jump sorts ss (goto k) = ss
with_jump sorts ss (branch b k l) = ss
with_jump sorts ss (return es) = with_return sorts ss es
with_jump sorts ss abort = ss

abbrev pub with_blocks : List Sort → ResultSorts → Graph → ResultSorts
with_blocks sorts ss [] = ss
with_blocks sorts ss (b ∷ bs) = with_blocks sorts (with_jump sorts ss b.jump) bs

-- the sorts of the results of two graphs, which both return
abbrev pub results_of : List Sort → Graph → Graph → List Sort
results_of sorts g h = known_sorts (with_blocks sorts (with_blocks sorts None g) h)

-- ---- graphs

abbrev pub AreStatements : Declared → List Sort → List StatementTree → Type 0
AreStatements d sorts [] = Unit {0}
AreStatements d sorts (x ∷ xs) = IsPlainStatement d sorts x × AreStatements d sorts xs

abbrev pub AreBlocks : Declared → List Sort → ℕ → List Sort → Graph → Type 0
AreBlocks d sorts n results [] = Unit {0}
AreBlocks d sorts n results (b ∷ bs) = AreStatements d sorts b.statements × IsPlainJump d sorts n results b.jump × AreBlocks d sorts n results bs

-- a graph of at least one block that returns values of these sorts
pub record IsPlainGraph (d : Declared) (sorts results : List Sort) (g : Graph) : Type 0 where
  pub some : g ≢ []
  pub few : length g ≤ MAX_BLOCKS
  pub small : graph_size g ≤ MAX_TERM_NODES
  pub blocks : AreBlocks d sorts (length g) results g

-- ---- declarations

-- the sort is a number sort or one of the first `n` opaque sorts
abbrev pub IsDeclared : ℕ → Sort → Type 0
IsDeclared n (Number w) = Unit {0}
IsDeclared n (Opaque k) = k < n

abbrev pub AreDeclared : ℕ → List Sort → Type 0
AreDeclared n [] = Unit {0}
AreDeclared n (s ∷ ss) = IsDeclared n s × AreDeclared n ss

abbrev pub AreFunctions : ℕ → List FunctionParts → Type 0
AreFunctions n [] = Unit {0}
AreFunctions n (function_parts result parameters ∷ fs) =
    IsDeclared n result × AreDeclared n parameters × (length parameters ≤ MAX_PARAMETERS) × AreFunctions n fs

abbrev pub AreFew : Option ℕ → Type 0
AreFew None = Unit {0}
AreFew (Some n) = n ≤ MAX_ROUNDS

-- two graphs over the same variables that have a plainest text, with these declarations
pub record ArePlainGraphs (d : Declared) (p : Pair) : Type 0 where
  pub short : length (graphs_text d p) ≤ MAX_TEXT_BYTES
  pub sorts : d.sorts ≤ MAX_SORTS
  pub functions : AreFunctions d.sorts d.functions
  pub few_functions : length d.functions ≤ MAX_FUNCTIONS
  pub rounds : AreFew d.rounds
  pub variables : AreDeclared d.sorts p.sorts
  pub few_variables : length p.sorts ≤ MAX_VARIABLES
  pub before : IsPlainGraph d p.sorts (results_of p.sorts p.before p.after) p.before
  pub after : IsPlainGraph d p.sorts (results_of p.sorts p.before p.after) p.after
  pub small : graph_size p.before + graph_size p.after ≤ MAX_TEXT_NODES
