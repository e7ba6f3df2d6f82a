use Rattle.std.proofs.Common.{◌≡◌, ◌∙◌, ◌++◌, ◌∷◌, ℕ, List, sym, ap, subst}
use Rattle.kat_model.specs.Trees.{one, test_tree}
use Rattle.kat_model.specs.Steps.{Atom, truth}
use Rattle.outline_rules.proofs.StepSets.{KeepsSteps-trans, IsStepDiagram-kept}
use Rattle.goal_forms.specs.HypothesisForms.{allows}
use Rattle.outline_rules.specs.Tasks.{task_parts}
use Rattle.outline_rules.proofs.Soundness.{follows_same}
use Rattle.outline_rules.proofs.TaskRanges.{task_in_range}
use Rattle.hoare_outlines.specs.declared.finding.Finder.{Finder}
use Rattle.hoare_outlines.specs.Working.FoundLoops.{flow_turns}
use Rattle.hoare_outlines.specs.Working.Noted.{AreSets, NotesSets}
use Rattle.hoare_outlines.proofs.Findings.{found_kept}
use Rattle.hoare_outlines.proofs.FlowRanges.{flow_in_range}
use Rattle.hoare_outlines.proofs.Outlines.{start_set, start_allowed, same_entails, entails_kept, outline_follows}
use Rattle.hoare_outlines.proofs.SetIds.{set_kept, each_set}
use Rattle.hoare_outlines.proofs.KeptLoops.{no_loops}
use Rattle.hoare_outlines.proofs.finding.outline_by.Goals as goal

pub after_flow-requires-clause-in_range : goal.after_flow-requires-clause-in_range
after_flow-requires-clause-in_range c =
    let q = c.args.problem.now in
    let t = task_parts c.args.task.now in
    flow_in_range q t.flow (task_in_range q t c.requires.within c.requires.triple).flow

pub after_flow-requires-clause-set : goal.after_flow-requires-clause-set
after_flow-requires-clause-set c =
    let q = c.args.problem.now in
    let pre = test_tree c.args.task.now.pre in
    let all = c.requires.finder.allowed in
    (start_set q pre, c.in_ok-start.ensures.holds (allows q.hyps) all, start_allowed q pre)

pub after_flow-requires-clause-loops : goal.after_flow-requires-clause-loops
after_flow-requires-clause-loops c =
    let t = task_parts c.args.task.now in
    let found = c.args.finder.now in
    let f : Finder = record { diagrams = c.parts_by.new.diagrams; allowed = found.allowed; notes = found.notes; loops = found.loops } in
    no_loops c.args.problem.now (one ∷ flow_turns t.flow) f c.requires.empty c.requires.no_loops

pub returns-then-not-branch : goal.returns-then-not-branch
returns-then-not-branch c same =
    let q = c.args.problem.now in
    let t = task_parts c.args.task.now in
    let all = c.requires.finder.allowed in
    let found = c.in_ok-last.ensures.found (start_set q t.pre) (c.in_ok-start.ensures.holds (allows q.hyps) all) (start_allowed q t.pre) in
    let d = c.of_test.new.self in
    let here = found_kept q t.flow c.after_flow.new.self.diagrams d (start_set q t.pre) found.0 c.in_ok-last.last c.in_ok-post.ensures.kept found.2 in
    let entails = same_entails q t c.requires.triple c.requires.simple same d found.0 c.in_ok-last.last c.in_ok-post.post (c.in_ok-post.ensures.kept.tests ∙ c.in_ok-last.ensures.finder.tests) here c.in_ok-post.ensures.function in
    let yes = c.in_ok-entails.ensures.entails.1 entails in
    let no = c.if-not-branch.true in
    cc

pub notes_of_sets-requires : goal.notes_of_sets-requires
notes_of_sets-requires c =
    let q = c.args.problem.now in
    let t = task_parts c.args.task.now in
    let all = c.requires.finder.allowed in
    let start = c.in_ok-start.ensures.holds (allows q.hyps) all in
    let found = c.in_ok-last.ensures.found (start_set q t.pre) start (start_allowed q t.pre) in
    let first = c.parts_by.new.diagrams in
    let old = c.after_flow.new.self.diagrams in
    let d = c.entails.new.self in
    let kept = KeepsSteps-trans old c.of_test.new.self d c.in_ok-post.ensures.kept c.in_ok-entails.ensures.kept in
    let here = found_kept q t.flow old d (start_set q t.pre) found.0 c.in_ok-last.last kept found.2 in
    let start_here = set_kept first d (KeepsSteps-trans first old d c.in_ok-last.ensures.kept kept) c.in_ok-start.start.holds (start_set q t.pre) start in
    let same : c.deref.result.now ≡ c.in_ok-start.start.holds ∷ found.0 = c.deref.ensures.value ∙ found.1 ∙ ap (λ (l : List ℕ). l ++ c.in_ok-start.start.holds ∷ found.0) c.requires.empty in
    record { sets = subst (λ (l : List ℕ). AreSets d l) (sym same) (each_set d (c.in_ok-start.start.holds ∷ found.0) (start_set q t.pre ∷ here.sets) (start_here, here.are_sets)) }

pub returns : goal.returns
returns c =
    let q = c.args.problem.now in
    let t = task_parts c.args.task.now in
    let all = c.requires.finder.allowed in
    let start = c.in_ok-start.ensures.holds (allows q.hyps) all in
    let found = c.in_ok-last.ensures.found (start_set q t.pre) start (start_allowed q t.pre) in
    let first = c.parts_by.new.diagrams in
    let old = c.after_flow.new.self.diagrams in
    let mid = c.of_test.new.self in
    let d = c.entails.new.self in
    let last = c.in_ok-last.last in
    let kept = KeepsSteps-trans old mid d c.in_ok-post.ensures.kept c.in_ok-entails.ensures.kept in
    let here = found_kept q t.flow old d (start_set q t.pre) found.0 last kept found.2 in
    let start_here = set_kept first d (KeepsSteps-trans first old d c.in_ok-last.ensures.kept kept) c.in_ok-start.start.holds (start_set q t.pre) start in
    let same : c.deref.result.now ≡ c.in_ok-start.start.holds ∷ found.0 = c.deref.ensures.value ∙ found.1 ∙ ap (λ (l : List ℕ). l ++ c.in_ok-start.start.holds ∷ found.0) c.requires.empty in
    let tests = c.in_ok-entails.ensures.kept.tests ∙ c.in_ok-post.ensures.kept.tests ∙ c.in_ok-last.ensures.finder.tests in
    let post = IsStepDiagram-kept mid d c.in_ok-entails.ensures.kept c.in_ok-post.post (λ (x y : Atom). truth t.post x) c.in_ok-post.ensures.function in
    let last_id = (set_kept old mid c.in_ok-post.ensures.kept last found.2.end found.2.is_end).in_range in
    let entails = entails_kept mid d last c.in_ok-post.post c.in_ok-entails.ensures.kept last_id c.in_ok-post.ensures.function.in_range (c.in_ok-entails.ensures.entails.0 c.if-not-branch.false) in
    let notes = subst (λ (l : List ℕ). NotesSets d l c.in_ok-notes.notes) same c.in_ok-notes.ensures.notes in
    let follows = outline_follows q t d found.0 c.in_ok-start.start.holds last c.in_ok-post.post c.in_ok-notes.notes tests start_here here post entails notes in
    (follows_same q t c.in_ok-notes.notes c.requires.triple follows, follows)
