-- Sets whose atoms are all reached along a program.
use Rattle.std.specs.Prelude.{◌≡◌, ◌<◌, length, List, IsTrue}
use Rattle.kat_model.specs.Trees.{Term, zero, one, test, act}
use Rattle.kat_model.specs.Problems.{ProblemParts, IsTestInRange}
use Rattle.kat_model.specs.Steps.{Atom}
use Rattle.kat_model.specs.Relations.{Frame, RelatesIn, RelateInTurn}
use Rattle.goal_forms.specs.TestTerms.{IsAllowed, IsRuledOut}
use Rattle.while_lang.specs.Flows.{FlowTree, FlowStmt, empty, skip_then, abort_then, assert_then, act_then, branch_then, loop_then, skip, abort, assert, act as act_stmt, branch, loop}
use Rattle.while_lang.specs.Encoding.{branch_term, loop_term, encoded}
use Rattle.hoare_outlines.specs.Working.AtomSets.{AtomSet}

-- the allowed atoms, and the steps between them that no hypothesis rules out, as a Kripke frame
abbrev pub atom_frame : ProblemParts → Frame Atom
atom_frame q =
    record {
      IsState = λ atom. (length atom ≡ q.tests) × IsAllowed q.hyps atom;
      atom = λ atom. atom;
      Acts = λ a before after. (a < q.actions) × (IsRuledOut q.hyps a before after → ⊥);
    }

-- each atom of the second set is reached along the term from an atom of the first
abbrev pub Reached : ProblemParts → Term → AtomSet → AtomSet → Type 0
Reached q e X Y = (to : Atom) → length to ≡ q.tests → IsTrue (Y to) → (from : Atom) × (atom_frame q).IsState from × IsTrue (X from) × RelatesIn (atom_frame q) e from to

-- each atom of the second set is reached along the terms in sequence from an atom of the first
abbrev pub ReachedInTurn : ProblemParts → List Term → AtomSet → AtomSet → Type 0
ReachedInTurn q es X Y = (to : Atom) → length to ≡ q.tests → IsTrue (Y to) → (from : Atom) × (atom_frame q).IsState from × IsTrue (X from) × RelateInTurn (atom_frame q) es from to

-- the term of a statement
abbrev pub stmt_term : FlowStmt → Term
stmt_term skip = one
stmt_term abort = zero
stmt_term (assert b) = test b
stmt_term (act_stmt a) = act a
stmt_term (branch b f g) = branch_term b (encoded f) (encoded g)
stmt_term (loop b f) = loop_term b (encoded f)

-- the tests and actions of a program are those of the problem
abbrev pub IsFlowInRange : ProblemParts → FlowTree → Type 0
IsFlowInRange q empty = Unit {0}
IsFlowInRange q (skip_then rest) = IsFlowInRange q rest
IsFlowInRange q (abort_then rest) = IsFlowInRange q rest
IsFlowInRange q (assert_then b rest) = IsTestInRange q.tests b × IsFlowInRange q rest
IsFlowInRange q (act_then a rest) = (a < q.actions) × IsFlowInRange q rest
IsFlowInRange q (branch_then b f g rest) = IsTestInRange q.tests b × IsFlowInRange q f × IsFlowInRange q g × IsFlowInRange q rest
IsFlowInRange q (loop_then b f rest) = IsTestInRange q.tests b × IsFlowInRange q f × IsFlowInRange q rest

abbrev pub IsStmtInRange : ProblemParts → FlowStmt → Type 0
IsStmtInRange q skip = Unit {0}
IsStmtInRange q abort = Unit {0}
IsStmtInRange q (assert b) = IsTestInRange q.tests b
IsStmtInRange q (act_stmt a) = a < q.actions
IsStmtInRange q (branch b f g) = IsTestInRange q.tests b × IsFlowInRange q f × IsFlowInRange q g
IsStmtInRange q (loop b f) = IsTestInRange q.tests b × IsFlowInRange q f
