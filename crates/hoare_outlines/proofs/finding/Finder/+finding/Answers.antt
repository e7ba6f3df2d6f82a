use Rattle.std.proofs.Common.{◌≡◌, ◌∙◌, ◌++◌, ◌∷◌, [], ℕ, List, ◌&&◌, ◌||◌, false, length, refl, sym, ap, subst, arith, rules, append_assoc, append-nil}
use Rattle.std.proofs.lemmas.Bool.{false≢true}
use Rattle.std.proofs.lemmas.Result.{IfOk-weaker}
use Rattle.kat_model.specs.Trees.{test_tree}
use Rattle.kat_model.specs.Problems.{IsTestInRange}
use Rattle.kat_model.specs.Steps.{truth}
use Rattle.while_lang.specs.Flows.{FlowTree, loop}
use Rattle.while_lang.specs.FlowViews.{flow_stmt, flows_tree}
use Rattle.while_lang.specs.declared.flow.Flow.{Flow}
use Rattle.outline_rules.specs.StepFunctions.{StepDiagramsParts, AreStepDiagrams, IsStepId, KeepsSteps}
use Rattle.outline_rules.proofs.StepSets.{KeepsSteps-itself, KeepsSteps-trans, IsStepId-kept}
use Rattle.hoare_outlines.specs.declared.finding.Finder.{Finder}
use Rattle.hoare_outlines.specs.Working.AtomSets.{AtomSet, IsSetId}
use Rattle.hoare_outlines.specs.Working.Reached.{IsFlowInRange, IsStmtInRange}
use Rattle.hoare_outlines.specs.Working.Found.{FlowFound}
use Rattle.hoare_outlines.specs.Working.FoundLoops.{turn_term, stmt_turns, flow_turns, AreFoundLoops, KnowsLoops, KeepsLoops}
use Rattle.hoare_outlines.proofs.SetIds.{set_kept}
use Rattle.hoare_outlines.proofs.SetParts.{union_set}
use Rattle.hoare_outlines.proofs.Findings.{part_allowed, union_allowed}
use Rattle.hoare_outlines.proofs.FlowSteps.{flow_start, flow_step, flow_end, first_range, stmt_below}
use Rattle.hoare_outlines.proofs.StmtFinds.{skip_finds, abort_finds, assert_finds, branch_finds, loop_finds, finds_allowed, flow_allowed, part_has, rest_has, has_kept}
use Rattle.hoare_outlines.proofs.LoopPlaces.{stmt_longer, flow_longer}
use Rattle.hoare_outlines.proofs.KeptLoops.{loops_later, earlier_loop_ids, loops_start, stmt_known, loops_step, first_noted, first_keeps, first_known, second_known, branch_keeps, earlier_known, body_known, turn_keeps, loop_is_found}
use Rattle.hoare_outlines.proofs.LoopTurns.{noted_again, finds_later, loop_grown, loop_smaller, loop_notes}
use Rattle.hoare_outlines.proofs.FinderStates.{finder_kept, noted_kept, finder_noted}
use Rattle.hoare_outlines.proofs.finding.Finder.+finding.Goals as goal

-- ---- lists of statements

pub after_flow-loop-stmt-init : goal.after_flow-loop-stmt-init
after_flow-loop-stmt-init t c =
    let q = c.args.problem.now in
    let items = c.deref-stmt-items.result.now in
    let new = c.push_note.new.self in
    let tree : flows_tree items ≡ c.args.flow.now = ap flows_tree c.deref-stmt-items.ensures.value ∙ c.flow.view_is in
    record {
      finder = finder_noted q c.args.self.now new c.push_note.ensures.diagrams c.push_note.ensures.allowed c.requires.finder;
      kept = KeepsSteps-itself new.diagrams;
      in_range = subst (IsFlowInRange q) (sym tree) c.requires.in_range;
      found = λ X is allowed. flow_start q items new.notes.items new X c.args.set refl is allowed;
      loops = loops_start q items new;
    }

pub after_flow-after_stmt-requires : goal.after_flow-after_stmt-requires
after_flow-after_stmt-requires t c =
    let q = c.args.problem.now in
    let items = c.deref-stmt-items.result.now in
    let old = c.args.self.now in
    let new = c.push_note.new.self in
    let tree : flows_tree items ≡ c.args.flow.now = ap flows_tree c.deref-stmt-items.ensures.value ∙ c.flow.view_is in
    let has = c.requires.set in
    let is = set_kept old.diagrams new.diagrams (noted_kept old new c.push_note.ensures.diagrams) c.args.set has.0 has.1 in
    let so_far = c.loop-stmt.invariant.found has.0 is has.2 in
    let range = first_range q items c.loop-stmt.stmt-index c.stmt-item.result c.loop-stmt-test.true c.stmt-item.is c.loop-stmt.invariant.in_range in
    let below = stmt_below items c.flow.inside.list.items c.args.flow.now c.loop-stmt.stmt-index c.stmt-item.result c.deref-stmt-items.ensures.value c.flow.view_is c.loop-stmt-test.true c.stmt-item.is in
    let known = first_noted q (flow_turns c.args.flow.now) old new c.args.set c.in_ok-push_note.ensures.notes c.push_note.ensures.diagrams c.push_note.ensures.loops c.requires.loops in
    let own = subst (λ (e : FlowTree). KnowsLoops q (flow_turns e) new) (sym tree) known in
    let loops = stmt_known q items new c.loop-stmt.self c.loop-stmt.stmt-index c.stmt-item.result c.loop-stmt-test.true c.stmt-item.is c.loop-stmt.invariant.loops own in
    (omega (arith, c.decreases, below), (c.requires.simple, (c.loop-stmt.invariant.finder, (range.0, ((so_far.here, so_far.is_here, so_far.allowed), loops)))))

pub after_flow-loop-stmt-preserved : goal.after_flow-loop-stmt-preserved
after_flow-loop-stmt-preserved t c =
    let q = c.args.problem.now in
    let items = c.deref-stmt-items.result.now in
    let old = c.push_note.new.self in
    let f = c.loop-stmt.self in
    let g = c.after_stmt.new.self in
    let h = c.push_note-in-loop-stmt.new.self in
    let more = c.push_note-in-loop-stmt.ensures in
    let has = c.requires.set in
    let is = set_kept c.args.self.now.diagrams old.diagrams (noted_kept c.args.self.now old c.push_note.ensures.diagrams) c.args.set has.0 has.1 in
    let so_far = c.loop-stmt.invariant.found has.0 is has.2 in
    let longer = stmt_longer q (flow_stmt c.stmt-item.result) f g c.loop-stmt.reached c.in_ok-reached.reached (so_far.here, so_far.is_here, so_far.allowed) c.in_ok-reached.ensures.found in
    record {
      finder = finder_noted q g h more.diagrams more.allowed c.in_ok-reached.ensures.finder;
      kept = KeepsSteps-trans old.diagrams f.diagrams h.diagrams c.loop-stmt.invariant.kept (KeepsSteps-trans f.diagrams g.diagrams h.diagrams c.in_ok-reached.ensures.kept (noted_kept g h more.diagrams));
      in_range = (first_range q items c.loop-stmt.stmt-index c.stmt-item.result c.loop-stmt-test.true c.stmt-item.is c.loop-stmt.invariant.in_range).1;
      found = λ X is allowed.
          flow_step q items old.notes.items f g h X c.loop-stmt.stmt-index c.loop-stmt.reached c.in_ok-reached.reached c.stmt-item.result c.loop-stmt-test.true c.stmt-item.is (c.loop-stmt.invariant.found X is allowed)
          c.in_ok-reached.ensures.found c.in_ok-reached.ensures.kept c.in_ok-push_note-2.ensures.notes more.diagrams;
      loops = loops_step q items old f g h c.loop-stmt.stmt-index c.in_ok-reached.reached c.stmt-item.result c.loop-stmt-test.true c.stmt-item.is c.loop-stmt.invariant.loops c.in_ok-reached.ensures.loops longer c.in_ok-push_note-2.ensures.notes more.diagrams more.loops;
    }

pub after_flow-returns-clause-found : goal.after_flow-returns-clause-found
after_flow-returns-clause-found t c X is allowed =
    let q = c.args.problem.now in
    let items = c.deref-stmt-items.result.now in
    let old = c.args.self.now in
    let new = c.push_note.new.self in
    let f = c.loop-stmt.self in
    let tree : flows_tree items ≡ c.args.flow.now = ap flows_tree c.deref-stmt-items.ensures.value ∙ c.flow.view_is in
    let own = set_kept old.diagrams new.diagrams (noted_kept old new c.push_note.ensures.diagrams) c.args.set X is in
    let r = flow_end q items new.notes.items f X c.loop-stmt.stmt-index c.loop-stmt.reached c.loop-stmt-test.false (c.loop-stmt.invariant.found X own allowed) in (
      r.0,
      r.1 ∙ ap (λ (l : List ℕ). l ++ r.0) c.in_ok-push_note.ensures.notes ∙ append_assoc old.notes.items (c.args.set ∷ []) r.0,
      subst (λ (e : FlowTree). FlowFound q e f.diagrams X r.0 c.loop-stmt.reached) tree r.2,
    )

pub after_flow-returns-clause-set : goal.after_flow-returns-clause-set
after_flow-returns-clause-set t c = flow_allowed c.args.problem.now c.args.flow.now c.args.self.now c.loop-stmt.self c.args.set c.loop-stmt.reached c.requires.set (after_flow-returns-clause-found t c)

pub after_flow-returns-clause-finder : goal.after_flow-returns-clause-finder
after_flow-returns-clause-finder t c = c.loop-stmt.invariant.finder

pub after_flow-returns-clause-kept : goal.after_flow-returns-clause-kept
after_flow-returns-clause-kept t c =
    KeepsSteps-trans c.args.self.now.diagrams c.push_note.new.self.diagrams c.loop-stmt.self.diagrams (noted_kept c.args.self.now c.push_note.new.self c.push_note.ensures.diagrams) c.loop-stmt.invariant.kept

pub after_flow-returns-clause-loops : goal.after_flow-returns-clause-loops
after_flow-returns-clause-loops t c =
    let q = c.args.problem.now in
    let new = c.push_note.new.self in
    let tree : flows_tree c.deref-stmt-items.result.now ≡ c.args.flow.now = ap flows_tree c.deref-stmt-items.ensures.value ∙ c.flow.view_is in
    let keeps = subst (λ (e : FlowTree). KeepsLoops q (flow_turns e) new c.loop-stmt.self) tree c.loop-stmt.invariant.loops.loops in
    first_keeps q (flow_turns c.args.flow.now) c.args.self.now new c.loop-stmt.self c.args.set c.in_ok-push_note.ensures.notes c.push_note.ensures.diagrams c.push_note.ensures.loops keeps

-- ---- loops

pub after_loop-first_invariant-requires-clause-earlier : goal.after_loop-first_invariant-requires-clause-earlier
after_loop-first_invariant-requires-clause-earlier t c =
    let q = c.args.problem.now in
    let b = test_tree c.args.guard.now in
    let body = c.args.body.now in
    let old = c.args.self.now in
    let count : c.len-place.result ≡ length old.notes.items = omega (arith, c.len-place.ensures, old.notes.ok.0) in
    earlier_loop_ids q old.diagrams (turn_term b body) c.earlier_loop-earlier.result (earlier_known q b body old c.len-place.result c.earlier_loop-earlier.result count c.earlier_loop-earlier.ensures c.requires.loops)

pub after_loop-grows-init : goal.after_loop-grows-init
after_loop-grows-init t c =
    let q = c.args.problem.now in
    let b = test_tree c.args.guard.now in
    let body = c.args.body.now in
    let old = c.args.self.now in
    let n1 : Finder = record { diagrams = c.first_invariant.new.diagrams; allowed = old.allowed; notes = old.notes; loops = old.loops } in
    let kept = c.in_ok-invariant.ensures.kept in
    let count : c.len-place.result ≡ length old.notes.items = omega (arith, c.len-place.ensures, old.notes.ok.0) in
    record {
      finder = finder_kept q old n1 refl kept c.in_ok-invariant.ensures.sound c.requires.finder;
      kept = kept;
      notes = ([], sym (append-nil old.notes.items));
      grown = c.in_ok-invariant.ensures.starts q (turn_term b body) c.requires.finder.tests (earlier_known q b body old c.len-place.result c.earlier_loop-earlier.result count c.earlier_loop-earlier.ensures c.requires.loops);
      loops = λ turns at are. loops_later q old n1 turns kept refl are;
    }

pub after_loop-parts_by-requires-clause-id : goal.after_loop-parts_by-requires-clause-id
after_loop-parts_by-requires-clause-id t c =
    let g = c.grows.invariant.grown c.requires.set.0 c.requires.set.1 c.requires.set.2 in
    subst (λ (d : StepDiagramsParts). IsStepId d c.grows.invariant') (sym c.push_note.ensures.diagrams) g.1.in_range

pub after_loop-parts_by-requires-clause-in_range : goal.after_loop-parts_by-requires-clause-in_range
after_loop-parts_by-requires-clause-in_range t c =
    subst (λ n. IsTestInRange n (test_tree c.args.guard.now)) (sym (ap (λ (d : StepDiagramsParts). d.tests) c.push_note.ensures.diagrams ∙ c.grows.invariant.finder.tests)) c.requires.in_range.0

pub after_loop-after_flow-requires : goal.after_loop-after_flow-requires
after_loop-after_flow-requires t c =
    let q = c.args.problem.now in
    let b = test_tree c.args.guard.now in
    let body = c.args.body.now in
    let entry = c.args.self.now in
    let mid = c.grows.self in
    let push = c.push_note.new.self in
    let new = c.parts_by.new.diagrams in
    let kept = subst (λ (d : StepDiagramsParts). KeepsSteps d new) c.push_note.ensures.diagrams c.in_ok-parts.ensures.kept in
    let n2 : Finder = record { diagrams = new; allowed = push.allowed; notes = push.notes; loops = push.loops } in
    let g = c.grows.invariant.grown c.requires.set.0 c.requires.set.1 c.requires.set.2 in
    let own = subst (λ (d : StepDiagramsParts). IsSetId d c.grows.invariant' g.0) (sym c.push_note.ensures.diagrams) g.1 in
    let count : c.len-place.result ≡ length entry.notes.items = omega (arith, c.len-place.ensures, entry.notes.ok.0) in
    let noted = noted_again entry.notes.items c.grows.invariant.notes.0 mid.notes.items c.truncate.new.self.items push.notes.items c.len-place.result c.grows.invariant' count c.grows.invariant.notes.1 c.truncate.ensures.items c.in_ok-push_note.ensures.notes in (
      search rules,
      (
        c.requires.simple,
        (
          finder_kept q mid n2 c.push_note.ensures.allowed kept c.in_ok-parts.ensures.sound c.grows.invariant.finder,
          (
            c.requires.in_range.1,
            (
              ((λ atom. g.0 atom && truth b atom), c.in_ok-parts.ensures.holds g.0 own, part_allowed q g.0 (truth b) g.2.allowed),
              body_known q b body entry mid n2 c.grows.invariant' c.grows.invariant.loops kept c.push_note.ensures.loops noted c.requires.loops,
            ),
          ),
        ),
      ),
    )

pub after_loop-entails-requires-clause-second : goal.after_loop-entails-requires-clause-second
after_loop-entails-requires-clause-second t c =
    let new = c.parts_by.new.diagrams in
    let kept = subst (λ (d : StepDiagramsParts). KeepsSteps d new) c.push_note.ensures.diagrams c.in_ok-parts.ensures.kept in
    let g = c.grows.invariant.grown c.requires.set.0 c.requires.set.1 c.requires.set.2 in
    IsStepId-kept new c.after_flow.new.self.diagrams c.in_ok-again.ensures.kept c.grows.invariant' (IsStepId-kept c.grows.self.diagrams new kept c.grows.invariant' g.1.in_range)

pub after_loop-returns-then-branch-clause-found : goal.after_loop-returns-then-branch-clause-found
after_loop-returns-then-branch-clause-found t c =
    let q = c.args.problem.now in
    let b = test_tree c.args.guard.now in
    let body = c.args.body.now in
    let entry = c.args.self.now in
    let mid = c.grows.self.diagrams in
    let push = c.push_note.new.self in
    let new = c.parts_by.new.diagrams in
    let n2 : Finder = record { diagrams = new; allowed = push.allowed; notes = push.notes; loops = push.loops } in
    let n3 = c.after_flow.new.self in
    let n5 = c.keep_loop.new.self in
    let later = subst (λ (d : StepDiagramsParts). KeepsSteps n3.diagrams d) (sym c.keep_loop.ensures.diagrams) c.in_ok-entails.ensures.kept in
    let same = c.push_note.ensures.diagrams in
    let kept = subst (λ (d : StepDiagramsParts). KeepsSteps d new) same c.in_ok-parts.ensures.kept in
    let count : c.len-place.result ≡ length entry.notes.items = omega (arith, c.len-place.ensures, entry.notes.ok.0) in
    let noted = noted_again entry.notes.items c.grows.invariant.notes.0 c.grows.self.notes.items c.truncate.new.self.items push.notes.items c.len-place.result c.grows.invariant' count c.grows.invariant.notes.1 c.truncate.ensures.items c.in_ok-push_note.ensures.notes in
    finds_later q (loop b body) entry n3 n5 c.args.set c.in_ok-parts.parts.fails later c.keep_loop.ensures.notes
    (loop_finds q b body entry n2 n3 mid c.args.set c.grows.invariant' c.in_ok-parts.parts.holds c.in_ok-parts.parts.fails c.in_ok-again.again c.in_ok-again.ensures.finder.tests c.grows.invariant.grown
    (λ X is. c.in_ok-parts.ensures.holds X (subst (λ (d : StepDiagramsParts). IsSetId d c.grows.invariant' X) (sym same) is))
    (λ X is. c.in_ok-parts.ensures.fails X (subst (λ (d : StepDiagramsParts). IsSetId d c.grows.invariant' X) (sym same) is))
    kept c.in_ok-again.ensures.kept noted c.in_ok-again.ensures.found (c.in_ok-entails.ensures.entails.0 c.if-branch.true))

pub after_loop-returns-then-branch-clause-set : goal.after_loop-returns-then-branch-clause-set
after_loop-returns-then-branch-clause-set t c =
    finds_allowed c.args.problem.now (loop (test_tree c.args.guard.now) c.args.body.now) c.args.self.now c.keep_loop.new.self c.args.set c.in_ok-parts.parts.fails c.requires.set (after_loop-returns-then-branch-clause-found t c)

pub after_loop-returns-then-branch-clause-finder : goal.after_loop-returns-then-branch-clause-finder
after_loop-returns-then-branch-clause-finder t c =
    let n3 = c.after_flow.new.self in
    let same = c.keep_loop.ensures.diagrams in
    let later = subst (λ (d : StepDiagramsParts). KeepsSteps n3.diagrams d) (sym same) c.in_ok-entails.ensures.kept in
    finder_kept c.args.problem.now n3 c.keep_loop.new.self c.keep_loop.ensures.allowed later (subst AreStepDiagrams (sym same) c.in_ok-entails.ensures.sound) c.in_ok-again.ensures.finder

pub after_loop-returns-then-branch-clause-kept : goal.after_loop-returns-then-branch-clause-kept
after_loop-returns-then-branch-clause-kept t c =
    let mid = c.grows.self.diagrams in
    let new = c.parts_by.new.diagrams in
    let n3 = c.after_flow.new.self in
    let last = c.keep_loop.new.self.diagrams in
    let later = subst (λ (d : StepDiagramsParts). KeepsSteps n3.diagrams d) (sym c.keep_loop.ensures.diagrams) c.in_ok-entails.ensures.kept in
    let kept = subst (λ (d : StepDiagramsParts). KeepsSteps d new) c.push_note.ensures.diagrams c.in_ok-parts.ensures.kept in
    KeepsSteps-trans c.args.self.now.diagrams mid last c.grows.invariant.kept (KeepsSteps-trans mid new last kept (KeepsSteps-trans new n3.diagrams last c.in_ok-again.ensures.kept later))

pub after_loop-returns-then-branch-clause-loops : goal.after_loop-returns-then-branch-clause-loops
after_loop-returns-then-branch-clause-loops t c turns at are =
    let q = c.args.problem.now in
    let b = test_tree c.args.guard.now in
    let body = c.args.body.now in
    let entry = c.args.self.now in
    let mid = c.grows.self in
    let push = c.push_note.new.self in
    let new = c.parts_by.new.diagrams in
    let n2 : Finder = record { diagrams = new; allowed = push.allowed; notes = push.notes; loops = push.loops } in
    let n3 = c.after_flow.new.self in
    let d4 = c.entails.new.self in
    let n4 : Finder = record { diagrams = d4; allowed = n3.allowed; notes = n3.notes; loops = n3.loops } in
    let n5 = c.keep_loop.new.self in
    let kept = subst (λ (d : StepDiagramsParts). KeepsSteps d new) c.push_note.ensures.diagrams c.in_ok-parts.ensures.kept in
    let later = KeepsSteps-trans mid.diagrams new d4 kept (KeepsSteps-trans new n3.diagrams d4 c.in_ok-again.ensures.kept c.in_ok-entails.ensures.kept) in
    let all = KeepsSteps-trans entry.diagrams mid.diagrams d4 c.grows.invariant.kept later in
    let count : c.len-place.result ≡ length entry.notes.items = omega (arith, c.len-place.ensures, entry.notes.ok.0) in
    let noted = noted_again entry.notes.items c.grows.invariant.notes.0 mid.notes.items c.truncate.new.self.items push.notes.items c.len-place.result c.grows.invariant' count c.grows.invariant.notes.1 c.truncate.ensures.items c.in_ok-push_note.ensures.notes in
    let found = loop_is_found q b body entry mid.diagrams d4 c.args.set c.grows.invariant' c.len-place.result turns all later count c.requires.set c.grows.invariant.grown at in
    let others = turn_keeps q b body entry mid n2 c.grows.invariant' c.grows.invariant.loops kept c.push_note.ensures.loops noted n3 n4 c.in_ok-again.ensures.loops c.in_ok-entails.ensures.kept refl turns at are in
    subst (λ (d : StepDiagramsParts). AreFoundLoops q d turns n5.loops.entries) (sym c.keep_loop.ensures.diagrams) (c.in_ok-keep_loop.ensures.loops q d4 turns others found)

pub after_loop-or-requires-clause-left : goal.after_loop-or-requires-clause-left
after_loop-or-requires-clause-left t c =
    let new = c.parts_by.new.diagrams in
    let kept = subst (λ (d : StepDiagramsParts). KeepsSteps d new) c.push_note.ensures.diagrams c.in_ok-parts.ensures.kept in
    let g = c.grows.invariant.grown c.requires.set.0 c.requires.set.1 c.requires.set.2 in
    let here = IsStepId-kept new c.after_flow.new.self.diagrams c.in_ok-again.ensures.kept c.grows.invariant' (IsStepId-kept c.grows.self.diagrams new kept c.grows.invariant' g.1.in_range) in
    IsStepId-kept c.after_flow.new.self.diagrams c.entails.new.self c.in_ok-entails.ensures.kept c.grows.invariant' here

pub after_loop-or-requires-clause-right : goal.after_loop-or-requires-clause-right
after_loop-or-requires-clause-right t c = IsStepId-kept c.after_flow.new.self.diagrams c.entails.new.self c.in_ok-entails.ensures.kept c.in_ok-again.again c.in_ok-again.ensures.set.1.in_range

pub after_loop-grows-smaller : goal.after_loop-grows-smaller
after_loop-grows-smaller t c =
    let push = c.push_note.new.self in
    let new = c.parts_by.new.diagrams in
    let n2 : Finder = record { diagrams = new; allowed = push.allowed; notes = push.notes; loops = push.loops } in
    let kept = subst (λ (d : StepDiagramsParts). KeepsSteps d new) c.push_note.ensures.diagrams c.in_ok-parts.ensures.kept in
    loop_smaller c.args.problem.now (test_tree c.args.guard.now) c.args.body.now c.args.self.now n2 c.after_flow.new.self c.grows.self.diagrams c.entails.new.self c.or.new.self c.args.set c.grows.invariant' c.in_ok-parts.parts.holds c.in_ok-again.again c.in_ok-invariant-2.invariant c.grows.invariant.grown
    (λ X is. c.in_ok-parts.ensures.holds X (subst (λ (d : StepDiagramsParts). IsSetId d c.grows.invariant' X) (sym c.push_note.ensures.diagrams) is))
    kept c.in_ok-again.ensures.kept c.in_ok-entails.ensures.kept c.in_ok-invariant-2.ensures.kept c.in_ok-again.ensures.found c.in_ok-invariant-2.ensures.function c.requires.set
    (λ en. let yes = c.in_ok-entails.ensures.entails.1 en in let no = c.if-branch.false in cc)

pub after_loop-grows-preserved : goal.after_loop-grows-preserved
after_loop-grows-preserved t c =
    let q = c.args.problem.now in
    let b = test_tree c.args.guard.now in
    let body = c.args.body.now in
    let entry = c.args.self.now in
    let mid = c.grows.self.diagrams in
    let push = c.push_note.new.self in
    let new = c.parts_by.new.diagrams in
    let n2 : Finder = record { diagrams = new; allowed = push.allowed; notes = push.notes; loops = push.loops } in
    let n3 = c.after_flow.new.self in
    let n5 : Finder = record { diagrams = c.or.new.self; allowed = n3.allowed; notes = n3.notes; loops = n3.loops } in
    let kept = subst (λ (d : StepDiagramsParts). KeepsSteps d new) c.push_note.ensures.diagrams c.in_ok-parts.ensures.kept in
    let last = KeepsSteps-trans n3.diagrams c.entails.new.self c.or.new.self c.in_ok-entails.ensures.kept c.in_ok-invariant-2.ensures.kept in
    let count : c.len-place.result ≡ length entry.notes.items = omega (arith, c.len-place.ensures, entry.notes.ok.0) in
    let noted = noted_again entry.notes.items c.grows.invariant.notes.0 c.grows.self.notes.items c.truncate.new.self.items push.notes.items c.len-place.result c.grows.invariant' count c.grows.invariant.notes.1 c.truncate.ensures.items c.in_ok-push_note.ensures.notes in
    let enters = λ (X : AtomSet) (is : IsSetId mid c.grows.invariant' X). c.in_ok-parts.ensures.holds X (subst (λ (d : StepDiagramsParts). IsSetId d c.grows.invariant' X) (sym c.push_note.ensures.diagrams) is) in
    record {
      finder = finder_kept q n3 n5 refl last c.in_ok-invariant-2.ensures.sound c.in_ok-again.ensures.finder;
      kept = KeepsSteps-trans entry.diagrams mid n5.diagrams c.grows.invariant.kept (KeepsSteps-trans mid new n5.diagrams kept (KeepsSteps-trans new n3.diagrams n5.diagrams c.in_ok-again.ensures.kept last));
      notes = loop_notes q b body entry n2 n3 mid c.entails.new.self c.or.new.self c.args.set c.grows.invariant' c.in_ok-parts.parts.holds c.in_ok-again.again c.in_ok-invariant-2.invariant c.grows.invariant.grown enters kept c.in_ok-again.ensures.kept c.in_ok-entails.ensures.kept
          c.in_ok-invariant-2.ensures.kept c.in_ok-again.ensures.found c.in_ok-invariant-2.ensures.function c.requires.set noted;
      grown = loop_grown q b body entry n2 n3 mid c.entails.new.self c.or.new.self c.args.set c.grows.invariant' c.in_ok-parts.parts.holds c.in_ok-again.again c.in_ok-invariant-2.invariant c.grows.invariant.grown enters kept c.in_ok-again.ensures.kept c.in_ok-entails.ensures.kept
          c.in_ok-invariant-2.ensures.kept c.in_ok-again.ensures.found c.in_ok-invariant-2.ensures.function;
      loops = turn_keeps q b body entry c.grows.self n2 c.grows.invariant' c.grows.invariant.loops kept c.push_note.ensures.loops noted n3 n5 c.in_ok-again.ensures.loops last refl;
    }

-- ---- statements

pub after_stmt-after_flow-requires : goal.after_stmt-after_flow-requires
after_stmt-after_flow-requires t c =
    let q = c.args.problem.now in
    let old = c.args.self.now in
    let b = test_tree c.in-If.b in
    let parts = c.in_ok-parts-in-If.parts in
    let kept = c.in_ok-parts-in-If.ensures.kept in
    let n1 : Finder = record { diagrams = c.parts_by-in-If.new.diagrams; allowed = old.allowed; notes = old.notes; loops = old.loops } in
    let known = subst (λ (s : Flow). KnowsLoops q (stmt_turns (flow_stmt s)) old) c.in-If.is c.requires.loops in
    let range = subst (λ (s : Flow). IsStmtInRange q (flow_stmt s)) c.in-If.is c.requires.in_range in (
      search rules,
      (
        c.requires.simple,
        (
          finder_kept q old n1 refl kept c.in_ok-parts-in-If.ensures.sound c.requires.finder,
          (range.1, (part_has q old.diagrams n1.diagrams c.args.set parts.holds b c.requires.set c.in_ok-parts-in-If.ensures.holds, first_known q b c.in-If.f c.in-If.g old n1 refl kept refl known)),
        ),
      ),
    )

pub after_stmt-after_flow-requires-in-If : goal.after_stmt-after_flow-requires-in-If
after_stmt-after_flow-requires-in-If t c =
    let q = c.args.problem.now in
    let old = c.args.self.now in
    let b = test_tree c.in-If.b in
    let f = c.in-If.f in
    let parts = c.in_ok-parts-in-If.parts in
    let new = c.parts_by-in-If.new.diagrams in
    let n1 : Finder = record { diagrams = new; allowed = old.allowed; notes = old.notes; loops = old.loops } in
    let n2 = c.after_flow.new.self in
    let has = part_has q old.diagrams new c.args.set parts.holds b c.requires.set c.in_ok-parts-in-If.ensures.holds in
    let longer = flow_longer q f n1 n2 parts.holds c.in_ok-first-in-If.first has c.in_ok-first-in-If.ensures.found in
    let known = subst (λ (s : Flow). KnowsLoops q (stmt_turns (flow_stmt s)) old) c.in-If.is c.requires.loops in
    let range = subst (λ (s : Flow). IsStmtInRange q (flow_stmt s)) c.in-If.is c.requires.in_range in (
      search rules,
      (
        c.requires.simple,
        (
          c.in_ok-first-in-If.ensures.finder,
          (
            range.2,
            (
              has_kept q new n2.diagrams parts.fails c.in_ok-first-in-If.ensures.kept (rest_has q old.diagrams new c.args.set parts.fails b c.requires.set c.in_ok-parts-in-If.ensures.fails),
              second_known q b f c.in-If.g old n1 n2 refl c.in_ok-parts-in-If.ensures.kept refl c.in_ok-first-in-If.ensures.loops longer known,
            ),
          ),
        ),
      ),
    )

pub after_stmt-returns-in-Skip-clause-found : goal.after_stmt-returns-in-Skip-clause-found
after_stmt-returns-in-Skip-clause-found t c = rw c.in-Skip.is (skip_finds c.args.problem.now c.args.self.now c.args.set)

pub after_stmt-returns-in-Abort-clause-found : goal.after_stmt-returns-in-Abort-clause-found
after_stmt-returns-in-Abort-clause-found t c = rw c.in-Abort.is (abort_finds c.args.problem.now c.args.self.now c.args.set c.constant.result c.constant.ensures.function)

pub after_stmt-returns-in-Abort-clause-set : goal.after_stmt-returns-in-Abort-clause-set
after_stmt-returns-in-Abort-clause-set t c = ((λ atom. false), c.constant.ensures.function, (λ atom wide h. absurd (false≢true h)))

pub after_stmt-returns-in_ok-parts-in-Assert-clause-found : goal.after_stmt-returns-in_ok-parts-in-Assert-clause-found
after_stmt-returns-in_ok-parts-in-Assert-clause-found t c =
    let old = c.args.self.now in
    let n1 : Finder = record { diagrams = c.parts_by.new.diagrams; allowed = old.allowed; notes = old.notes; loops = old.loops } in
    rw c.in-Assert.is (assert_finds c.args.problem.now old c.args.set n1 (test_tree c.in-Assert.b) c.in_ok-parts-in-Assert.parts.holds refl c.in_ok-parts-in-Assert.ensures.holds)

pub after_stmt-returns-in_ok-parts-in-Assert-clause-set : goal.after_stmt-returns-in_ok-parts-in-Assert-clause-set
after_stmt-returns-in_ok-parts-in-Assert-clause-set t c =
    part_has c.args.problem.now c.args.self.now.diagrams c.parts_by.new.diagrams c.args.set c.in_ok-parts-in-Assert.parts.holds (test_tree c.in-Assert.b) c.requires.set c.in_ok-parts-in-Assert.ensures.holds

pub after_stmt-returns-in-Act-clause-set : goal.after_stmt-returns-in-Act-clause-set
after_stmt-returns-in-Act-clause-set t c =
    let has = c.requires.set in
    IfOk-weaker c.after_action.result _ _ (λ last found. let r = found has.0 has.1 has.2 in (r.end, r.is_end, r.allowed)) c.after_action.ensures.found

pub after_stmt-returns-in_ok-second-in-If-clause-found : goal.after_stmt-returns-in_ok-second-in-If-clause-found
after_stmt-returns-in_ok-second-in-If-clause-found t c =
    let old = c.args.self.now in
    let n1 : Finder = record { diagrams = c.parts_by-in-If.new.diagrams; allowed = old.allowed; notes = old.notes; loops = old.loops } in
    let n2 = c.after_flow.new.self in
    let n3 = c.after_flow-in-If.new.self in
    let n4 : Finder = record { diagrams = c.or.new.self; allowed = n3.allowed; notes = n3.notes; loops = n3.loops } in
    let parts = c.in_ok-parts-in-If.parts in
    rw c.in-If.is
    (IfOk-weaker c.or.result _ _
    (λ after is_after.
    branch_finds c.args.problem.now old c.args.set n1 n2 n3 n4 (test_tree c.in-If.b) c.in-If.f c.in-If.g parts.holds parts.fails c.in_ok-first-in-If.first c.in_ok-second-in-If.second after refl refl
    c.in_ok-parts-in-If.ensures.holds c.in_ok-parts-in-If.ensures.fails c.in_ok-first-in-If.ensures.kept c.in_ok-second-in-If.ensures.kept c.or.ensures.kept c.in_ok-first-in-If.ensures.found c.in_ok-second-in-If.ensures.found is_after)
    c.or.ensures.function)

pub after_stmt-returns-in_ok-second-in-If-clause-set : goal.after_stmt-returns-in_ok-second-in-If-clause-set
after_stmt-returns-in_ok-second-in-If-clause-set t c =
    let q = c.args.problem.now in
    let n2 = c.after_flow.new.self in
    let n3 = c.after_flow-in-If.new.self in
    let first = c.in_ok-first-in-If.first in
    let second = c.in_ok-second-in-If.second in
    let p = c.in_ok-first-in-If.ensures.set in
    let r = c.in_ok-second-in-If.ensures.set in
    IfOk-weaker c.or.result _ _
    (λ after is_after. (
      (λ atom. p.0 atom || r.0 atom),
      union_set n3.diagrams c.or.new.self first second after p.0 r.0 c.or.ensures.kept (set_kept n2.diagrams n3.diagrams c.in_ok-second-in-If.ensures.kept first p.0 p.1) r.1 is_after,
      union_allowed q p.0 r.0 p.2 r.2,
    ))
    c.or.ensures.function

pub after_stmt-returns-in_ok-second-in-If-clause-finder : goal.after_stmt-returns-in_ok-second-in-If-clause-finder
after_stmt-returns-in_ok-second-in-If-clause-finder t c =
    let n3 = c.after_flow-in-If.new.self in
    let n4 : Finder = record { diagrams = c.or.new.self; allowed = n3.allowed; notes = n3.notes; loops = n3.loops } in
    IfOk-weaker c.or.result _ _ (λ after is_after. finder_kept c.args.problem.now n3 n4 refl c.or.ensures.kept c.or.ensures.sound c.in_ok-second-in-If.ensures.finder) c.or.ensures.function

pub after_stmt-returns-in_ok-second-in-If-clause-kept : goal.after_stmt-returns-in_ok-second-in-If-clause-kept
after_stmt-returns-in_ok-second-in-If-clause-kept t c =
    let old = c.args.self.now.diagrams in
    let n1 = c.parts_by-in-If.new.diagrams in
    let n2 = c.after_flow.new.self.diagrams in
    let n3 = c.after_flow-in-If.new.self.diagrams in
    let later = KeepsSteps-trans n2 n3 c.or.new.self c.in_ok-second-in-If.ensures.kept c.or.ensures.kept in
    let whole = KeepsSteps-trans old n1 c.or.new.self c.in_ok-parts-in-If.ensures.kept (KeepsSteps-trans n1 n2 c.or.new.self c.in_ok-first-in-If.ensures.kept later) in
    IfOk-weaker c.or.result _ _ (λ after is_after. whole) c.or.ensures.function

pub after_stmt-returns-in_ok-parts-in-Assert-clause-loops : goal.after_stmt-returns-in_ok-parts-in-Assert-clause-loops
after_stmt-returns-in_ok-parts-in-Assert-clause-loops t c turns at are =
    let old = c.args.self.now in
    let n1 : Finder = record { diagrams = c.parts_by.new.diagrams; allowed = old.allowed; notes = old.notes; loops = old.loops } in
    loops_later c.args.problem.now old n1 turns c.in_ok-parts-in-Assert.ensures.kept refl are

pub after_stmt-returns-in-Act-clause-loops : goal.after_stmt-returns-in-Act-clause-loops
after_stmt-returns-in-Act-clause-loops t c =
    let q = c.args.problem.now in
    let old = c.args.self.now in
    let n1 : Finder = record { diagrams = c.after_action.new.diagrams; allowed = old.allowed; notes = old.notes; loops = old.loops } in
    IfOk-weaker c.after_action.result _ _ (λ last found turns at are. loops_later q old n1 turns c.after_action.ensures.kept refl are) c.after_action.ensures.found

pub after_stmt-returns-in_ok-second-in-If-clause-loops : goal.after_stmt-returns-in_ok-second-in-If-clause-loops
after_stmt-returns-in_ok-second-in-If-clause-loops t c =
    let q = c.args.problem.now in
    let old = c.args.self.now in
    let b = test_tree c.in-If.b in
    let f = c.in-If.f in
    let parts = c.in_ok-parts-in-If.parts in
    let new = c.parts_by-in-If.new.diagrams in
    let n1 : Finder = record { diagrams = new; allowed = old.allowed; notes = old.notes; loops = old.loops } in
    let n2 = c.after_flow.new.self in
    let n3 = c.after_flow-in-If.new.self in
    let n4 : Finder = record { diagrams = c.or.new.self; allowed = n3.allowed; notes = n3.notes; loops = n3.loops } in
    let has = part_has q old.diagrams new c.args.set parts.holds b c.requires.set c.in_ok-parts-in-If.ensures.holds in
    let longer = flow_longer q f n1 n2 parts.holds c.in_ok-first-in-If.first has c.in_ok-first-in-If.ensures.found in
    let keeps = branch_keeps q b f c.in-If.g old n1 n2 refl c.in_ok-parts-in-If.ensures.kept refl c.in_ok-first-in-If.ensures.loops longer n3 n4 c.in_ok-second-in-If.ensures.loops c.or.ensures.kept refl in
    rw c.in-If.is (IfOk-weaker c.or.result _ _ (λ after is_after. keeps) c.or.ensures.function)
