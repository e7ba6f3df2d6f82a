-- Results for a loop from earlier turns of the loops around it, which later turns may use.
use Rattle.std.specs.Prelude.{◌≡◌, ℕ, suc, List, [], ◌∷◌, ◌++◌, length, drop, IsTrue}
use Rattle.kat_model.specs.Trees.{TestTree, Term, one, test, product, star}
use Rattle.kat_model.specs.Problems.{ProblemParts}
use Rattle.kat_model.specs.Steps.{Atom}
use Rattle.while_lang.specs.Flows.{FlowTree, FlowStmt, empty, skip_then, abort_then, assert_then, act_then, branch_then, loop_then, skip, abort, assert, act, branch, loop}
use Rattle.while_lang.specs.FlowViews.{flows_tree}
use Rattle.while_lang.specs.Encoding.{encoded}
use Rattle.while_lang.specs.declared.flow.Flow.{Flow}
use Rattle.outline_rules.specs.StepFunctions.{StepDiagramsParts, IsStepId}
use Rattle.hoare_outlines.specs.declared.finding.FoundLoop.{FoundLoop}
use Rattle.hoare_outlines.specs.declared.finding.Finder.{Finder}
use Rattle.hoare_outlines.specs.Working.AtomSets.{AtomSet, IsSetId, IsAllowedSet}
use Rattle.hoare_outlines.specs.Working.Reached.{Reached}

-- a turn of a loop
abbrev pub turn_term : TestTree → FlowTree → Term
turn_term b f = product (test b) (encoded f)

-- a set that contains the entry of a loop, and is reached from it along turns
pub record IsGrown (q : ProblemParts) (turn : Term) (entry set : AtomSet) : Type 0 where
  pub holds : (atom : Atom) → IsTrue (entry atom) → IsTrue (set atom)
  pub allowed : IsAllowedSet q set
  pub reached : Reached q (star turn) entry set

-- the id is such a set, whatever set of allowed atoms the id `entry` is
abbrev pub GrowsFrom : ProblemParts → Term → StepDiagramsParts → ℕ → StepDiagramsParts → ℕ → Type 0
GrowsFrom q turn old entry new id = (X : AtomSet) → IsSetId old entry X → IsAllowedSet q X → (I : AtomSet) × IsSetId new id I × IsGrown q turn X I

-- the result for a loop
pub record IsFoundLoop (q : ProblemParts) (d : StepDiagramsParts) (turn : Term) (found : FoundLoop) : Type 0 where
  pub entry : AtomSet
  pub is_entry : IsSetId d found.entry entry
  pub invariant : AtomSet
  pub is_invariant : IsSetId d found.invariant invariant
  pub grown : IsGrown q turn entry invariant

abbrev pub HasLoopIds : StepDiagramsParts → FoundLoop → Type 0
HasLoopIds d found = IsStepId d found.entry × IsStepId d found.invariant

-- the results for the loops by their places, given the turn of each place
abbrev pub AreFoundLoops : ProblemParts → StepDiagramsParts → (ℕ → Term) → List (ℕ × FoundLoop) → Type 0
AreFoundLoops q d turns [] = Unit {0}
AreFoundLoops q d turns (entry ∷ loops) = IsFoundLoop q d (turns entry.0) entry.1 × AreFoundLoops q d turns loops

-- ---- the turns of the loops of a program, by the places of their invariants; at other places, the term is 1

-- the turns at the places of a list of statements, except its first place
abbrev pub flow_turns : FlowTree → List Term
flow_turns empty = []
flow_turns (skip_then rest) = one ∷ flow_turns rest
flow_turns (abort_then rest) = one ∷ flow_turns rest
flow_turns (assert_then b rest) = one ∷ flow_turns rest
flow_turns (act_then a rest) = one ∷ flow_turns rest
flow_turns (branch_then b f g rest) = (one ∷ (flow_turns f ++ one ∷ flow_turns g)) ++ one ∷ flow_turns rest
flow_turns (loop_then b f rest) = (turn_term b f ∷ one ∷ flow_turns f) ++ one ∷ flow_turns rest

-- the turns at the places within a statement
abbrev pub stmt_turns : FlowStmt → List Term
stmt_turns skip = []
stmt_turns abort = []
stmt_turns (assert b) = []
stmt_turns (act a) = []
stmt_turns (branch b f g) = one ∷ (flow_turns f ++ one ∷ flow_turns g)
stmt_turns (loop b f) = turn_term b f ∷ one ∷ flow_turns f

-- the terms are the turns of the places from n on
abbrev pub AreTurnsFrom : (ℕ → Term) → ℕ → List Term → Type 0
AreTurnsFrom turns n [] = Unit {0}
AreTurnsFrom turns n (e ∷ es) = (turns n ≡ e) × AreTurnsFrom turns (suc n) es

-- the stored results for loops fit a program whose next places have these turns
abbrev pub KnowsLoops : ProblemParts → List Term → Finder → Type 0
KnowsLoops q es f = (turns : ℕ → Term) × AreTurnsFrom turns (length f.notes.items) es × AreFoundLoops q f.diagrams turns f.loops.entries

-- the stored results still fit each such program
abbrev pub KeepsLoops : ProblemParts → List Term → Finder → Finder → Type 0
KeepsLoops q es old new = (turns : ℕ → Term) → AreTurnsFrom turns (length old.notes.items) es → AreFoundLoops q old.diagrams turns old.loops.entries → AreFoundLoops q new.diagrams turns new.loops.entries

-- the statements before place i are done, in a program whose next places have the turns of all statements
pub record LoopsSoFar (q : ProblemParts) (items : List Flow) (i : ℕ) (entry f : Finder) : Type 0 where
  pub left : (turns : ℕ → Term) → AreTurnsFrom turns (length entry.notes.items) (flow_turns (flows_tree items)) → AreTurnsFrom turns (length f.notes.items) (flow_turns (flows_tree (drop i items)))
  pub loops : KeepsLoops q (flow_turns (flows_tree items)) entry f
