-- All ways from a place, with those that abort: the ways, how many there are, and whether no form on them is too large.
use Rattle.std.specs.Prelude.{ℕ, zero, suc, ◌+◌, Bool, true, ◌&&◌, List, [], ◌∷◌, ◌++◌, length, map, Option, Some, None, slice_get, if◌then◌else◌, Vec}
use Rattle.std.specs.declared.alloc.Global.{Global}
use Rattle.flow_model.specs.declared.sort.Sort.{Sort}
use Rattle.flow_model.specs.declared.graph.ExprNode.{ExprNode}
use Rattle.flow_model.specs.declared.graph.Statement.{Statement}
use Rattle.flow_model.specs.declared.graph.Statement.TheVariants.{Assign, Claim}
use Rattle.flow_model.specs.declared.graph.Jump.{Jump}
use Rattle.flow_model.specs.declared.graph.Jump.TheVariants.{Goto, Branch, Return, Abort}
use Rattle.flow_model.specs.declared.graph.Block.{Block as ABlock}
use Rattle.flow_model.specs.Graphs.{StatementTree, assign, claim}
use Rattle.flow_model.specs.Polish.{exprs_of, cond_of, values_of, statement_of}
use Rattle.flow_forms.specs.Forms.{FlowFormTree}
use Rattle.flow_forms.specs.Expressions.{sort_of, form_of}
use Rattle.flow_forms.specs.Evaluation.{all_fit}
use Rattle.flow_ways.specs.Conditions.{FlowCondTree, opposite_cond}
use Rattle.flow_ways.specs.CondForms.{cond_nodes_fit}
use Rattle.flow_ways.specs.Ways.{SymbolicRun, at_place, at_return, Way, with_test, with_forms, condition_on, after_statements, first_course}

pub record Outcome : Type 0 where
  pub ways : List Way
  pub count : ℕ
  pub fits : Bool

abbrev pub no_way : Outcome
no_way = record { ways = []; count = 0; fits = true }

-- a way that aborts
abbrev pub aborted : Outcome
aborted = record { ways = []; count = 1; fits = true }

abbrev pub one_way : Way → Outcome
one_way way = record { ways = way ∷ []; count = 1; fits = true }

abbrev pub together : Outcome → Outcome → Outcome
together o p = record { ways = o.ways ++ p.ways; count = o.count + p.count; fits = o.fits && p.fits }

-- the outcome, where forms are met first that may be too large
abbrev pub if_fits : Bool → Outcome → Outcome
if_fits fits o = record { ways = o.ways; count = o.count; fits = fits && o.fits }

abbrev pub outcome_if : Option SymbolicRun → (SymbolicRun → Outcome) → Outcome
outcome_if None go = no_way
outcome_if (Some symbolic_run) go = go symbolic_run

-- whether no form of some expressions is too large
abbrev pub values_fit : List Sort → List FlowFormTree → List (Vec ExprNode Global) → Bool
values_fit sorts env [] = true
values_fit sorts env (e ∷ es) = all_fit sorts env (exprs_of e.items) && values_fit sorts env es

abbrev pub statement_fits : List Sort → Statement → SymbolicRun → Bool
statement_fits sorts (Assign targets es) symbolic_run = values_fit sorts symbolic_run.forms es.items
statement_fits sorts (Claim b) symbolic_run = cond_nodes_fit sorts symbolic_run.forms b.items

-- the course after one statement, or `None` if it is an assertion that is known not to hold
abbrev pub after_statement : List Sort → StatementTree → SymbolicRun → Option SymbolicRun
after_statement sorts (assign targets es) symbolic_run =
    Some (record symbolic_run { forms = with_forms symbolic_run.forms targets (map (form_of sorts symbolic_run.forms) es) })
after_statement sorts (claim b) symbolic_run = with_test symbolic_run (condition_on sorts symbolic_run b)

abbrev pub fits_if : Option SymbolicRun → (SymbolicRun → Bool) → Bool
fits_if None go = true
fits_if (Some symbolic_run) go = go symbolic_run

abbrev pub statements_fit : List Sort → List Statement → SymbolicRun → Bool
statements_fit sorts [] symbolic_run = true
statements_fit sorts (s ∷ rest) symbolic_run =
    statement_fits sorts s symbolic_run && fits_if (after_statement sorts (statement_of s) symbolic_run) (statements_fit sorts rest)

-- the ways from a branch on a condition
abbrev pub branch_outcome : SymbolicRun → FlowCondTree → (SymbolicRun → Outcome) → (SymbolicRun → Outcome) → Outcome
branch_outcome symbolic_run b go other =
    together (outcome_if (with_test symbolic_run b) go) (outcome_if (with_test symbolic_run (opposite_cond b)) other)

-- a way that ends with results
abbrev pub returned_way : List Sort → List (Vec ExprNode Global) → SymbolicRun → Way
returned_way sorts es symbolic_run =
    record { tests = symbolic_run.tests; end = at_return (map (λ e. (sort_of sorts e, form_of sorts symbolic_run.forms e)) (values_of es)) }

-- a way that ends at a place
abbrev pub placed_way : ℕ → SymbolicRun → Way
placed_way k symbolic_run = record { tests = symbolic_run.tests; end = at_place k symbolic_run.forms }

-- the ways from the jump of a block; `go` goes on at a block
abbrev pub jump_outcome : List Sort → (ℕ → SymbolicRun → Outcome) → Jump → SymbolicRun → Outcome
jump_outcome sorts go (Goto k) symbolic_run = go k symbolic_run
jump_outcome sorts go (Branch b k l) symbolic_run =
    if_fits (cond_nodes_fit sorts symbolic_run.forms b.items) (branch_outcome symbolic_run (condition_on sorts symbolic_run (cond_of b.items)) (go k) (go l))
jump_outcome sorts go (Return es) symbolic_run =
    if_fits (values_fit sorts symbolic_run.forms es.items) (one_way (returned_way sorts es.items symbolic_run))
jump_outcome sorts go Abort symbolic_run = aborted

abbrev pub block_outcome : List Sort → (ℕ → SymbolicRun → Outcome) → Option ABlock → SymbolicRun → Outcome
block_outcome sorts go None symbolic_run = no_way
block_outcome sorts go (Some block) symbolic_run =
    if_fits (statements_fit sorts block.statements.items symbolic_run) (outcome_if (after_statements sorts (map statement_of block.statements.items) symbolic_run) (jump_outcome sorts go block.jump))

-- the ways from the beginning of block k of at most n blocks; `is_place` is true of the places
abbrev pub outcome_from : List ABlock → List Sort → (ℕ → Bool) → ℕ → ℕ → SymbolicRun → Outcome
outcome_from blocks sorts is_place zero k symbolic_run = no_way
outcome_from blocks sorts is_place (suc n) k symbolic_run =
    block_outcome sorts (λ l next. if is_place l then one_way (placed_way l next) else outcome_from blocks sorts is_place n l next) (slice_get blocks k) symbolic_run

-- how a way goes on at the target of a jump
abbrev pub target_outcome : List ABlock → List Sort → (ℕ → Bool) → ℕ → ℕ → SymbolicRun → Outcome
target_outcome blocks sorts is_place n k symbolic_run =
    if is_place k then one_way (placed_way k symbolic_run) else outcome_from blocks sorts is_place n k symbolic_run

-- all ways from a place
abbrev pub all_ways : List ABlock → List Sort → (ℕ → Bool) → ℕ → Outcome
all_ways blocks sorts is_place k = outcome_from blocks sorts is_place (length blocks) k (first_course sorts)
