-- The result of the finder for a list of statements, extended by one statement at a time.
use Rattle.std.proofs.Common.{◌≡◌, ℕ, zero, suc, ◌+◌, ◌<◌, ◌≤◌, List, [], ◌∷◌, ◌++◌, length, drop, get_or, refl, sym, ap, ◌∙◌, subst, append_assoc, append-nil, add-one, arith}
use Rattle.std.proofs.Math.Seq.{drop-cons}
use denote.Param.Weighed.{most, at_most}
use Rattle.kat_model.specs.Problems.{ProblemParts}
use Rattle.while_lang.specs.Flows.{FlowTree, FlowStmt, empty, with_stmt, skip, abort, assert, act, branch, loop, statements}
use Rattle.while_lang.specs.FlowFalls.{flows_fall}
use Rattle.while_lang.specs.declared.flow.Flows.TheDeep.{deep-Flow}
use Rattle.while_lang.specs.FlowViews.{flow_stmt, flows_tree}
use Rattle.while_lang.specs.declared.flow.Flow.{Flow}
use Rattle.outline_rules.specs.StepFunctions.{KeepsSteps}
use Rattle.outline_rules.proofs.StepSets.{KeepsSteps-itself, KeepsSteps-trans}
use Rattle.hoare_outlines.specs.declared.finding.Finder.{Finder}
use Rattle.hoare_outlines.specs.Working.AtomSets.{AtomSet, IsSetId, IsAllowedSet}
use Rattle.hoare_outlines.specs.Working.Reached.{IsFlowInRange, IsStmtInRange}
use Rattle.hoare_outlines.specs.Working.Found.{FlowFound, FindsStmt, FlowSoFar}
use Rattle.hoare_outlines.proofs.Findings.{flow_none, flow_then}

-- the remaining statements, of which one is the first
pub first_left : (items : List Flow) (i : ℕ) (s : Flow) → i < length items → s ≡ get_or items i s → flows_tree (drop i items) ≡ with_stmt (flow_stmt s) (flows_tree (drop (i + 1) items))
first_left items i s lt is =
    let cut : drop i items ≡ s ∷ drop (i + 1) items = rw (add-one, drop-cons items i s lt) (ap (λ (x : Flow). x ∷ drop (suc i) items) (sym is)) in
    ap flows_tree cut

none_left : (items : List Flow) (i : ℕ) → length items ≤ i → flows_tree (drop i items) ≡ empty
none_left items i le = let none : drop i items ≡ [] = past items i le in ap flows_tree none
  where
    past : (xs : List Flow) (k : ℕ) → length xs ≤ k → drop k xs ≡ []
    past [] zero l = refl
    past [] (suc k) l = refl
    past (x ∷ xs) zero l = absurd (omega (arith, l))
    past (x ∷ xs) (suc k) l = past xs k (omega (arith, l))

-- the depth of a statement of a program is at most the number of statements of the program
pub stmt_below : (items own : List Flow) (whole : FlowTree) (i : ℕ) (s : Flow) → items ≡ own → flows_tree own ≡ whole → i < length items → s ≡ get_or items i s → deep-Flow s ≤ statements whole
stmt_below items own whole i s read view lt is =
    let one : deep-Flow (get_or items i s) ≤ most (λ (f : Flow). deep-Flow f) items = at_most (λ (f : Flow). deep-Flow f) items i s lt in
    let all : most (λ (f : Flow). deep-Flow f) items ≤ statements (flows_tree items) = flows_fall items in
    let count : statements (flows_tree items) ≡ statements whole = ap (λ (fs : List Flow). statements (flows_tree fs)) read ∙ ap statements view in
    let here : deep-Flow s ≡ deep-Flow (get_or items i s) = ap (λ (f : Flow). deep-Flow f) is in
    omega (arith, one, all, count, here)

-- ---- ranges

-- a program with a first statement is in range: the statement and the others are
with_stmt_range : (q : ProblemParts) (s : FlowStmt) (rest : FlowTree) → IsFlowInRange q (with_stmt s rest) → IsStmtInRange q s × IsFlowInRange q rest
with_stmt_range q skip rest h = (tt, h)
with_stmt_range q abort rest h = (tt, h)
with_stmt_range q (assert b) rest h = h
with_stmt_range q (act a) rest h = h
with_stmt_range q (branch b f g) rest h = ((h.0, h.1, h.2), h.3)
with_stmt_range q (loop b f) rest h = ((h.0, h.1), h.2)

pub first_range : (q : ProblemParts) (items : List Flow) (i : ℕ) (s : Flow) → i < length items → s ≡ get_or items i s → IsFlowInRange q (flows_tree (drop i items)) → IsStmtInRange q (flow_stmt s) × IsFlowInRange q (flows_tree (drop (i + 1) items))
first_range q items i s lt is h = with_stmt_range q (flow_stmt s) (flows_tree (drop (i + 1) items)) (subst (IsFlowInRange q) (first_left items i s lt is) h)

-- ---- results so far

module _ (q : ProblemParts) (items : List Flow) (entry : List ℕ) where
  pub flow_start : (f : Finder) (X : AtomSet) (set : ℕ) → f.notes.items ≡ entry → IsSetId f.diagrams set X → IsAllowedSet q X → FlowSoFar q items 0 entry f X set
  flow_start f X set notes is allowed =
      record { ids = []; notes = notes ∙ sym (append-nil entry); here = X; is_here = is; allowed = allowed; whole = λ d kept more last found. found }

  pub flow_step : (f g h : Finder) (X : AtomSet) (i reached next : ℕ) (s : Flow) → i < length items → s ≡ get_or items i s → FlowSoFar q items i entry f X reached → FindsStmt q (flow_stmt s) f reached g next → KeepsSteps f.diagrams g.diagrams
      → h.notes.items ≡ g.notes.items ++ next ∷ [] → h.diagrams ≡ g.diagrams → FlowSoFar q items (i + 1) entry h X next
  flow_step f g h X i reached next s lt is so_far finds kept pushed same =
      let stmt = finds so_far.here so_far.is_here so_far.allowed in
      record {
        ids = so_far.ids ++ (stmt.0 ++ next ∷ []);
        notes = pushed ∙ ap (λ l. l ++ next ∷ []) (stmt.1 ∙ ap (λ l. l ++ stmt.0) so_far.notes) ∙ regroup entry so_far.ids stmt.0 (next ∷ []);
        here = stmt.2.end;
        is_here = subst (λ d. IsSetId d next stmt.2.end) (sym same) stmt.2.is_end;
        allowed = stmt.2.allowed;
        whole = λ d later more last found.
            let from_g : KeepsSteps g.diagrams d = subst (λ e. KeepsSteps e d) same later in
            let joined = flow_then q (flow_stmt s) (flows_tree (drop (i + 1) items)) g.diagrams d so_far.here stmt.0 more next last from_g stmt.2 found in
            let whole = so_far.whole d (KeepsSteps-trans f.diagrams g.diagrams d kept from_g) (stmt.0 ++ next ∷ more) last (subst (λ (t : FlowTree). FlowFound q t d so_far.here (stmt.0 ++ next ∷ more) last) (sym (first_left items i s lt is)) joined) in
            subst (λ (l : List ℕ). FlowFound q (flows_tree items) d X l last) (seam so_far.ids stmt.0 next more) whole;
      }
    where
      regroup : (a b c e : List ℕ) → ((a ++ b) ++ c) ++ e ≡ a ++ (b ++ (c ++ e))
      regroup a b c e = simp append_assoc

      seam : (a b : List ℕ) (n : ℕ) (m : List ℕ) → a ++ (b ++ n ∷ m) ≡ (a ++ (b ++ n ∷ [])) ++ m
      seam a b n m = simp append_assoc

  pub flow_end : (f : Finder) (X : AtomSet) (i reached : ℕ) → length items ≤ i → FlowSoFar q items i entry f X reached → (ids : List ℕ) × (f.notes.items ≡ entry ++ ids) × FlowFound q (flows_tree items) f.diagrams X ids reached
  flow_end f X i reached le so_far =
      let last = flow_none q f.diagrams so_far.here reached so_far.is_here so_far.allowed in
      let none = subst (λ (t : FlowTree). FlowFound q t f.diagrams so_far.here [] reached) (sym (none_left items i le)) last in
      let whole = so_far.whole f.diagrams (KeepsSteps-itself f.diagrams) [] reached none in
      (so_far.ids, so_far.notes, subst (λ (l : List ℕ). FlowFound q (flows_tree items) f.diagrams X l reached) (append-nil so_far.ids) whole)
