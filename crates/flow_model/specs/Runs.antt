-- Runs of graphs from block to block.
use Rattle.std.specs.Prelude.{◌≡◌, ℕ, zero, suc, List, [], ◌∷◌, map, set, if◌then◌else◌, Option, Some, None, slice_get}
use Rattle.flow_model.specs.Sorts.{State}
use Rattle.flow_model.specs.Graphs.{StatementTree, assign, claim, JumpTree, goto, branch, return, abort, Block, Graph}
use Rattle.flow_model.specs.Interpretations.{Interpretation, value, holds}

-- the state with variables set, first to last, to values that are known already
abbrev pub with_values : State → List ℕ → List ℕ → State
with_values s (k ∷ ks) (n ∷ ns) = with_values (set s k n) ks ns
with_values s ks ns = s

-- the state after the statements, or `None` if an assertion fails; an assignment sets all its variables from the state
-- before it
abbrev pub after_statements : Interpretation → State → List StatementTree → Option State
after_statements I s [] = Some s
after_statements I s (assign targets es ∷ rest) = after_statements I (with_values s targets (map (value I s) es)) rest
after_statements I s (claim b ∷ rest) = if holds I s b then after_statements I s rest else None

-- how a run ends: with a list of values, at an `abort`, a failed assertion or a block that there is not, or not within
-- the number of blocks
pub data End : Type 0 where
  returned : (values : List ℕ) → End
  stuck : End
  unfinished : End

-- the end of a run that is in state `s` at the jump; `run_on` runs from a block
abbrev pub jumped : Interpretation → (ℕ → State → End) → JumpTree → State → End
jumped I run_on (goto k) s = run_on k s
jumped I run_on (branch b k l) s = run_on (if holds I s b then k else l) s
jumped I run_on (return es) s = returned (map (value I s) es)
jumped I run_on abort s = stuck

abbrev pub jumped_after : Interpretation → (ℕ → State → End) → JumpTree → Option State → End
jumped_after I run_on jump None = stuck
jumped_after I run_on jump (Some s) = jumped I run_on jump s

abbrev pub through : Interpretation → (ℕ → State → End) → State → Option Block → End
through I run_on s None = stuck
through I run_on s (Some block) = jumped_after I run_on block.jump (after_statements I s block.statements)

-- the end of the run from block `k` in state `s` if it goes through at most `n` blocks
abbrev pub run_from : Interpretation → Graph → ℕ → ℕ → State → End
run_from I g zero k s = unfinished
run_from I g (suc n) k s = through I (run_from I g n) s (slice_get g k)

-- the run of the graph from state `s` ends with `return` and these values
abbrev pub Returns : Interpretation → Graph → State → List ℕ → Type 0
Returns I g s vs = (n : ℕ) × (run_from I g n 0 s ≡ returned vs)

-- the run gets stuck
abbrev pub Sticks : Interpretation → Graph → State → Type 0
Sticks I g s = (n : ℕ) × (run_from I g n 0 s ≡ stuck)
