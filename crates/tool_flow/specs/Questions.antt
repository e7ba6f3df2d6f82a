-- The question of two flow graphs, and why it has no problem.
use Rattle.std.specs.Prelude.{◌≡◌, ◌⊎◌, ℕ, List, map}
use Rattle.flow_model.specs.declared.sort.Sort.{Sort}
use Rattle.flow_model.specs.Graphs.{Graph}
use Rattle.flow_text.specs.Checking.{FlowFileParts, pair_of}
use Rattle.flow_ways.specs.Outcomes.{Outcome}
use Rattle.flow_laws.specs.GraphOutcomes.{graph_outcome}
use Rattle.flow_places.specs.Places.{is_place}
use Rattle.flow_problem.specs.FlowFacts.{FlowRule, flow_hypotheses}
use Rattle.flow_problem.specs.Points.{FlowProblem}
use Rattle.flow_problem.specs.FlowProblems.{FlowQuestion}
use Rattle.flow_problem.specs.PlacedProblems.{IsFlowProblem}
use Rattle.flow_print.specs.NameTables.{NameTable}
use Rattle.flow_print.specs.FlowTexts.{flow_text, IsFlowPrintable}
use Rattle.flow_abstraction.specs.declared.fault.FlowFault.{FlowFault}
use Rattle.flow_abstraction.specs.declared.fault.FlowFault.TheVariants.{ProblemTooLarge}
use Rattle.flow_abstraction.specs.PosedQuestion.{IsRefusedBy}
use Rattle.tool_flow.specs.FlowFaults.{flow_fault_line}

-- whether both graphs that the goal of a file names always return the same
abbrev pub question_of : FlowFileParts → FlowQuestion
question_of f = record { pair = pair_of f; rounds = f.rounds; splits = f.splits }

-- the ways from a place of a graph, with those that abort
abbrev pub ways_at : List Sort → Graph → ℕ → Outcome
ways_at sorts g k = graph_outcome g sorts (is_place g) k

-- the reason of each refusal of a question; several may hold
abbrev pub IsRefused : FlowQuestion → FlowFault → Type 0
IsRefused q fault = IsRefusedBy (ways_at q.pair.sorts q.pair.before) (ways_at q.pair.sorts q.pair.after) q fault

-- ---- the problem of a file

-- the names of a file
abbrev pub names_of : FlowFileParts → NameTable
names_of f = record { variables = f.variable_names; sorts = f.sorts; functions = f.function_names }

-- the reason for each hypothesis of a problem
abbrev pub rules_of : FlowFileParts → FlowProblem → List FlowRule
rules_of f p = map (λ h. h.rule) (flow_hypotheses f.sorts p.tests p.actions)

-- the text of the problem of a file
abbrev pub problem_text : FlowFileParts → FlowProblem → List ℕ
problem_text f p = flow_text (names_of f) (rules_of f p) p

abbrev pub IsPrintable : FlowFileParts → FlowProblem → Type 0
IsPrintable f p = IsFlowPrintable (names_of f) (rules_of f p) p

-- the question of the file has this problem: nothing refuses it, and the text of the problem is within the limits of a
-- problem file
pub record HasFlowProblem (f : FlowFileParts) (p : FlowProblem) : Type 0 where
  pub problem : IsFlowProblem (question_of f) p
  pub unrefused : (fault : FlowFault) → IsRefused (question_of f) fault → ⊥
  pub printable : IsPrintable f p

-- the text of the problem of the file is not within the limits of a problem file
pub record IsUnprintable (f : FlowFileParts) : Type 0 where
  pub parts : FlowProblem
  pub problem : IsFlowProblem (question_of f) parts
  pub unprintable : IsPrintable f parts → ⊥

-- the question of the file is refused for this reason
abbrev pub HasReason : FlowFileParts → FlowFault → Type 0
HasReason f fault = IsRefused (question_of f) fault ⊎ ((fault ≡ ProblemTooLarge) × IsUnprintable f)

-- the file has no problem; the line gives the reason
pub record HasNoFlowProblem (f : FlowFileParts) (line : List ℕ) : Type 0 where
  pub fault : FlowFault
  pub reason : HasReason f fault
  pub printed : line ≡ flow_fault_line fault
