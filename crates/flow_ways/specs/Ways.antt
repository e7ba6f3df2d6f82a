-- Ways: runs with forms in place of values from a place of a graph to the next place or to the end.
use Rattle.std.specs.Prelude.{◌≡◌, ℕ, zero, suc, Bool, true, false, List, [], ◌∷◌, ◌++◌, length, map, set, Option, Some, None, slice_get, if◌then◌else◌}
use Rattle.flow_model.specs.declared.sort.Sort.{Sort}
use Rattle.flow_model.specs.Sorts.{State}
use Rattle.flow_model.specs.Conditions.{CondTree}
use Rattle.flow_model.specs.Graphs.{StatementTree, assign, claim, JumpTree, goto, branch, return, abort, Block, Graph}
use Rattle.flow_model.specs.Interpretations.{Interpretation}
use Rattle.flow_forms.specs.Forms.{FlowFormTree, variable}
use Rattle.flow_forms.specs.Values.{form_value}
use Rattle.flow_forms.specs.Expressions.{sort_of, form_of, form_of_cell}
use Rattle.flow_ways.specs.Conditions.{FlowCondTree, constantly, cond_holds, opposite_cond, Fact, simplified, facts_of, cond_form}

-- a run with forms: the forms of the variables, what is known of comparisons, and the tests so far
pub record SymbolicRun : Type 0 where
  pub forms : List FlowFormTree
  pub facts : List Fact
  pub tests : List FlowCondTree

-- a way ends at a place, with the forms of the variables, or with results, each with its sort
pub data WayEnd : Type 0 where
  at_place : (block : ℕ) (forms : List FlowFormTree) → WayEnd
  at_return : (results : List (Sort × FlowFormTree)) → WayEnd

-- a way: its tests in order, and its end
pub record Way : Type 0 where
  pub tests : List FlowCondTree
  pub end : WayEnd

-- the course with an additional test
abbrev pub with_queried : SymbolicRun → FlowCondTree → SymbolicRun
with_queried symbolic_run b = record { forms = symbolic_run.forms; facts = symbolic_run.facts ++ facts_of b true; tests = symbolic_run.tests ++ b ∷ [] }

-- the course on which a condition holds, or `None` if it is known not to hold
abbrev pub with_test : SymbolicRun → FlowCondTree → Option SymbolicRun
with_test symbolic_run (constantly true) = Some symbolic_run
with_test symbolic_run (constantly false) = None
with_test symbolic_run b = Some (with_queried symbolic_run b)

abbrev pub and_then : Option SymbolicRun → (SymbolicRun → Option SymbolicRun) → Option SymbolicRun
and_then None go = None
and_then (Some symbolic_run) go = go symbolic_run

-- forms with some set, first to last
abbrev pub with_forms : List FlowFormTree → List ℕ → List FlowFormTree → List FlowFormTree
with_forms env (k ∷ ks) (f ∷ fs) = with_forms (set env k f) ks fs
with_forms env ks fs = env

-- a condition over the forms of the course, with what is known left out
abbrev pub condition_on : List Sort → SymbolicRun → CondTree → FlowCondTree
condition_on sorts symbolic_run b = simplified symbolic_run.facts (cond_form sorts symbolic_run.forms b)

-- the course after the statements of a block, or `None` if an assertion is known not to hold
abbrev pub after_statements : List Sort → List StatementTree → SymbolicRun → Option SymbolicRun
after_statements sorts [] symbolic_run = Some symbolic_run
after_statements sorts (assign targets es ∷ rest) symbolic_run =
    after_statements sorts rest (record symbolic_run { forms = with_forms symbolic_run.forms targets (map (form_of sorts symbolic_run.forms) es) })
after_statements sorts (claim b ∷ rest) symbolic_run =
    and_then (with_test symbolic_run (condition_on sorts symbolic_run b)) (after_statements sorts rest)

abbrev pub ways_if : Option SymbolicRun → (SymbolicRun → List Way) → List Way
ways_if None go = []
ways_if (Some symbolic_run) go = go symbolic_run

-- the ways from a branch on a condition: those on which it holds before those on which it does not
abbrev pub branch_ways : SymbolicRun → FlowCondTree → (SymbolicRun → List Way) → (SymbolicRun → List Way) → List Way
branch_ways symbolic_run b go other = ways_if (with_test symbolic_run b) go ++ ways_if (with_test symbolic_run (opposite_cond b)) other

-- the ways from the jump of a block; `go` goes on at a block
abbrev pub jump_ways : List Sort → (ℕ → SymbolicRun → List Way) → JumpTree → SymbolicRun → List Way
jump_ways sorts go (goto k) symbolic_run = go k symbolic_run
jump_ways sorts go (branch b k l) symbolic_run = branch_ways symbolic_run (condition_on sorts symbolic_run b) (go k) (go l)
jump_ways sorts go (return es) symbolic_run = record { tests = symbolic_run.tests; end = at_return (map (λ e. (sort_of sorts e, form_of sorts symbolic_run.forms e)) es) } ∷ []
jump_ways sorts go abort symbolic_run = []

abbrev pub block_ways : List Sort → (ℕ → SymbolicRun → List Way) → Option Block → SymbolicRun → List Way
block_ways sorts go None symbolic_run = []
block_ways sorts go (Some block) symbolic_run = ways_if (after_statements sorts block.statements symbolic_run) (jump_ways sorts go block.jump)

-- the ways from the beginning of block k of at most n blocks; `is_place` is true of the places
abbrev pub ways_from : Graph → List Sort → (ℕ → Bool) → ℕ → ℕ → SymbolicRun → List Way
ways_from g sorts is_place zero k symbolic_run = []
ways_from g sorts is_place (suc n) k symbolic_run =
    block_ways sorts (λ l next. if is_place l then record { tests = next.tests; end = at_place l next.forms } ∷ [] else ways_from g sorts is_place n l next) (slice_get g k) symbolic_run

-- each variable stands for itself
abbrev pub own_forms_from : ℕ → List Sort → List FlowFormTree
own_forms_from k [] = []
own_forms_from k (sort ∷ sorts) = form_of_cell sort (variable k) ∷ own_forms_from (suc k) sorts

abbrev pub first_course : List Sort → SymbolicRun
first_course sorts = record { forms = own_forms_from 0 sorts; facts = []; tests = [] }

-- the ways from a place
abbrev pub ways : Graph → List Sort → (ℕ → Bool) → ℕ → List Way
ways g sorts is_place k = ways_from g sorts is_place (length g) k (first_course sorts)

-- the state whose variables have the values of forms in the state `s`
abbrev pub state_of : Interpretation → State → List Sort → List FlowFormTree → State
state_of I s (sort ∷ sorts) (f ∷ fs) = form_value I s sort f ∷ state_of I s sorts fs
state_of I s sorts fs = []

-- each test of a way holds
abbrev pub AllHold : Interpretation → State → List FlowCondTree → Type 0
AllHold I s [] = Unit {0}
AllHold I s (b ∷ bs) = (cond_holds I s b ≡ true) × AllHold I s bs
