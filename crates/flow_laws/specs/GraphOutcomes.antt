-- All ways from a place of a graph, with those that abort: the ways, how many there are, and whether no form on them is
-- too large. As `all_ways`, over trees.
use Rattle.std.specs.Prelude.{ℕ, zero, suc, Bool, true, ◌&&◌, List, [], ◌∷◌, length, map, Option, Some, None, slice_get, if◌then◌else◌}
use Rattle.flow_model.specs.declared.sort.Sort.{Sort}
use Rattle.flow_model.specs.Expressions.{ExprTree}
use Rattle.flow_model.specs.Conditions.{CondTree, always, never, compared, compared_signed, negation, both, either}
use Rattle.flow_model.specs.Graphs.{StatementTree, assign, claim, JumpTree, goto, branch, return, abort, Block, Graph}
use Rattle.flow_forms.specs.Forms.{FlowFormTree}
use Rattle.flow_forms.specs.Comparisons.{compared_signed as compared_as_signed}
use Rattle.flow_forms.specs.Expressions.{sort_of, form_of}
use Rattle.flow_forms.specs.Evaluation.{expr_fits, all_fit}
use Rattle.flow_ways.specs.Conditions.{compared_values}
use Rattle.flow_ways.specs.CondForms.{literal_is_small}
use Rattle.flow_ways.specs.Ways.{SymbolicRun, at_return, Way, condition_on, after_statements, first_course}
use Rattle.flow_ways.specs.Outcomes.{Outcome, no_way, aborted, one_way, if_fits, outcome_if, after_statement, fits_if, branch_outcome, placed_way}

-- whether no form of a condition is too large
abbrev pub cond_fits : List Sort → List FlowFormTree → CondTree → Bool
cond_fits sorts env always = true
cond_fits sorts env never = true
cond_fits sorts env (compared rel e f) =
    expr_fits sorts env e
    && (expr_fits sorts env f && literal_is_small (compared_values (sort_of sorts e) rel (form_of sorts env e) (form_of sorts env f)))
cond_fits sorts env (compared_signed rel w e f) =
    expr_fits sorts env e
    && (expr_fits sorts env f && literal_is_small (compared_as_signed w rel (form_of sorts env e) (form_of sorts env f)))
cond_fits sorts env (negation b) = cond_fits sorts env b
cond_fits sorts env (both b c) = cond_fits sorts env b && cond_fits sorts env c
cond_fits sorts env (either b c) = cond_fits sorts env b && cond_fits sorts env c

abbrev pub tree_fits : List Sort → StatementTree → SymbolicRun → Bool
tree_fits sorts (assign targets es) symbolic_run = all_fit sorts symbolic_run.forms es
tree_fits sorts (claim b) symbolic_run = cond_fits sorts symbolic_run.forms b

abbrev pub trees_fit : List Sort → List StatementTree → SymbolicRun → Bool
trees_fit sorts [] symbolic_run = true
trees_fit sorts (s ∷ rest) symbolic_run = tree_fits sorts s symbolic_run && fits_if (after_statement sorts s symbolic_run) (trees_fit sorts rest)

-- a way that ends with results
abbrev pub result_way : List Sort → List ExprTree → SymbolicRun → Way
result_way sorts es symbolic_run = record { tests = symbolic_run.tests; end = at_return (map (λ e. (sort_of sorts e, form_of sorts symbolic_run.forms e)) es) }

-- the ways from the jump of a block; `go` continues at a block
abbrev pub jump_tree_outcome : List Sort → (ℕ → SymbolicRun → Outcome) → JumpTree → SymbolicRun → Outcome
jump_tree_outcome sorts go (goto k) symbolic_run = go k symbolic_run
jump_tree_outcome sorts go (branch b k l) symbolic_run =
    if_fits (cond_fits sorts symbolic_run.forms b) (branch_outcome symbolic_run (condition_on sorts symbolic_run b) (go k) (go l))
jump_tree_outcome sorts go (return es) symbolic_run = if_fits (all_fit sorts symbolic_run.forms es) (one_way (result_way sorts es symbolic_run))
jump_tree_outcome sorts go abort symbolic_run = aborted

abbrev pub block_tree_outcome : List Sort → (ℕ → SymbolicRun → Outcome) → Option Block → SymbolicRun → Outcome
block_tree_outcome sorts go None symbolic_run = no_way
block_tree_outcome sorts go (Some block) symbolic_run =
    if_fits (trees_fit sorts block.statements symbolic_run) (outcome_if (after_statements sorts block.statements symbolic_run) (jump_tree_outcome sorts go block.jump))

-- the ways from the beginning of block k over at most n blocks
abbrev pub graph_outcome_from : Graph → List Sort → (ℕ → Bool) → ℕ → ℕ → SymbolicRun → Outcome
graph_outcome_from g sorts is_place zero k symbolic_run = no_way
graph_outcome_from g sorts is_place (suc n) k symbolic_run =
    block_tree_outcome sorts (λ l next. if is_place l then one_way (placed_way l next) else graph_outcome_from g sorts is_place n l next) (slice_get g k) symbolic_run

-- all ways from a place
abbrev pub graph_outcome : Graph → List Sort → (ℕ → Bool) → ℕ → Outcome
graph_outcome g sorts is_place k = graph_outcome_from g sorts is_place (length g) k (first_course sorts)
