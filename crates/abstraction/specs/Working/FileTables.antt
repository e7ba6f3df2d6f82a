-- The tables of a file, and the problem over them, as results of functions.
use Rattle.std.specs.Prelude.{◌≡◌, ◌≤◌, ◌<◌, ◌+◌, List, length, map, None, Result, Ok, Err, Vec}
use Rattle.std.specs.declared.alloc.Global.{Global}
use Rattle.kat_model.specs.declared.limits.TheConstants.{MAX_TESTS, MAX_ACTIONS, MAX_TERM_NODES}
use Rattle.kat_model.specs.Problems.{problem_size, problem_fault}
use Rattle.linear_forms.specs.declared.comparison.Atomic.{Atomic}
use Rattle.goal_forms.specs.Sides.{SideTrees}
use Rattle.while_lang.specs.Files.{FileParts}
use Rattle.abstraction.specs.declared.fault.AbstractFault.{AbstractFault}
use Rattle.abstraction.specs.declared.fault.AbstractFault.TheVariants.{NoMemory, TooManyTests, TooManyActions, ProblemTooLarge}
use Rattle.abstraction.specs.Comparisons.{Assignment}
use Rattle.abstraction.specs.Tables.{Tables, first_comparisons, file_assignments}
use Rattle.abstraction.specs.Rounds.{tables_of}
use Rattle.abstraction.specs.Facts.{Hypothesis}
use Rattle.abstraction.specs.Abstracts.{AbstractParts, test_rows_of, action_rows_of, IsAbstraction}

-- the comparisons of the goal, or the fault that there are too many
abbrev pub IsTestTable : FileParts → Result (Vec Atomic Global) AbstractFault → Type 0
IsTestTable f (Ok v) = (v.items ≡ first_comparisons f) × (f.tests + length v.items ≤ MAX_TESTS)
IsTestTable f (Err NoMemory) = Unit {0}
IsTestTable f (Err TooManyTests) = MAX_TESTS < f.tests + length (first_comparisons f)
IsTestTable f (Err TooManyActions) = ⊥
IsTestTable f (Err ProblemTooLarge) = ⊥

-- the assignments of the goal, or the fault that there are too many
abbrev pub IsActionTable : FileParts → Result (Vec Assignment Global) AbstractFault → Type 0
IsActionTable f (Ok v) = (v.items ≡ file_assignments f) × (f.actions + length v.items ≤ MAX_ACTIONS)
IsActionTable f (Err NoMemory) = Unit {0}
IsActionTable f (Err TooManyTests) = ⊥
IsActionTable f (Err TooManyActions) = MAX_ACTIONS < f.actions + length (file_assignments f)
IsActionTable f (Err ProblemTooLarge) = ⊥

-- the tables, whose rows are within the limits, or the reason why there is no abstraction
abbrev pub IsTables : FileParts → Result Tables AbstractFault → Type 0
IsTables f (Ok t) = (t ≡ tables_of f) × (f.tests + length (first_comparisons f) ≤ MAX_TESTS) × (f.actions + length (file_assignments f) ≤ MAX_ACTIONS)
IsTables f (Err fault) = IsAbstraction f (Err fault)

-- the abstraction of these tables, sides and hypotheses
abbrev pub parts_with : Tables → SideTrees → List Hypothesis → AbstractParts
parts_with t s hyps = record {
  problem = record {
    tests = t.tests + length t.comparisons;
    actions = t.actions + length t.assignments;
    hyps = map (λ h. h.term) hyps;
    left = s.left;
    right = s.right;
  };
  actions = action_rows_of t;
  tests = test_rows_of t;
  rules = map (λ h. h.rule) hyps;
  width = t.width;
}

-- the problem is within the limits, or it has a fault
abbrev pub IsWithinLimits : AbstractParts → Result AbstractParts AbstractFault → Type 0
IsWithinLimits a (Ok b) = (b ≡ a) × (problem_size a.problem ≤ MAX_TERM_NODES)
IsWithinLimits a (Err NoMemory) = Unit {0}
IsWithinLimits a (Err TooManyTests) = ⊥
IsWithinLimits a (Err TooManyActions) = ⊥
IsWithinLimits a (Err ProblemTooLarge) = problem_fault a.problem ≡ None → ⊥
