use Rattle.std.proofs.Common.{◌∙◌, length, map, sym, ap, subst}
use Rattle.while_lang.specs.FlowViews.{flows_tree}
use Rattle.outline_rules.specs.declared.task.Task.{Task}
use Rattle.outline_rules.specs.NoteLists.{note_holds}
use Rattle.outline_rules.specs.Tasks.{task_parts}
use Rattle.outline_rules.specs.Reasons.{IsOutOfRange}
use Rattle.outline_rules.specs.Working.Checks.{condition_of}
use Rattle.outline_rules.proofs.TaskRanges.{task_in_range, checks_in_range}
use Rattle.outline_rules.proofs.CheckedNotes.{tests_known, places_counted, all_checked, all_conditions, least_given, none_given}
use Rattle.outline_rules.proofs.checking.check_notes.Goals as goal

pub least_unmet-requires-clause-in_range : goal.least_unmet-requires-clause-in_range
least_unmet-requires-clause-in_range c =
    let q = c.args.problem.now in
    let t = task_parts c.args.task.now in
    let same = ap flows_tree c.deref.ensures.value ∙ ap (λ (task : Task). task.flow) c.task.view_is in
    checks_in_range q t c.deref-2.result.now (task_in_range q t c.tests.ensures.within c.requires.triple)
    (all_checked t.flow (flows_tree c.deref.result.now) c.new-checks.result.items _ c.deref-2.result.now c.new-checks.ensures.items same c.in_ok-last.ensures.checks c.deref-2.ensures.value)

pub returns-in-Some : goal.returns-in-Some
returns-in-Some c =
    subst (λ n. IsOutOfRange n c.args.notes.now.nodes c.in-Some.node) c.tests.ensures.value
    (subst (λ nodes. IsOutOfRange c.tests.result nodes c.in-Some.node) c.nodes.ensures.value c.in-Some.ensures.least)

pub returns-then-notes-count : goal.returns-then-notes-count
returns-then-notes-count c =
    let t = task_parts c.args.task.now in
    let same = ap flows_tree c.deref.ensures.value ∙ ap (λ (task : Task). task.flow) c.task.view_is in (
      tests_known c.tests.result c.args.problem.now.tests c.nodes.result.now c.args.notes.now.nodes c.tests.ensures.value c.nodes.ensures.value c.in_default.ensures.none,
      places_counted t.flow (flows_tree c.deref.result.now) c.in_ok-last.last c.in_ok-count.count same c.in_ok-last.ensures.place c.in_ok-count.ensures,
      λ e. c.if-notes-count.true (ap length c.notes.ensures.value ∙ e),
    )

pub returns-in-None : goal.returns-in-None
returns-in-None c =
    let q = c.args.problem.now in
    let t = task_parts c.args.task.now in
    let tree = flows_tree c.deref.result.now in
    let same = ap flows_tree c.deref.ensures.value ∙ ap (λ (task : Task). task.flow) c.task.view_is in
    let checks = all_checked t.flow tree c.new-checks.result.items _ c.deref-2.result.now c.new-checks.ensures.items same c.in_ok-last.ensures.checks c.deref-2.ensures.value in
    let all = all_conditions t tree c.in_ok-last.last (map condition_of c.deref-2.result.now) same c.in_ok-last.ensures.place checks in
    record {
      tests = tests_known c.tests.result q.tests c.nodes.result.now c.args.notes.now.nodes c.tests.ensures.value c.nodes.ensures.value c.in_default.ensures.none;
      count = ap length (sym c.notes.ensures.value) ∙ c.if-notes-count.false ∙ places_counted t.flow tree c.in_ok-last.last c.in_ok-count.count same c.in_ok-last.ensures.place c.in_ok-count.ensures;
      met = none_given q (note_holds c.args.notes.now) _ _ c.in_ok-least_unmet.field-0 all c.in_ok-least_unmet.ensures c.in-None.is;
    }

pub returns : goal.returns
returns c =
    let q = c.args.problem.now in
    let t = task_parts c.args.task.now in
    let tree = flows_tree c.deref.result.now in
    let same = ap flows_tree c.deref.ensures.value ∙ ap (λ (task : Task). task.flow) c.task.view_is in
    let checks = all_checked t.flow tree c.new-checks.result.items _ c.deref-2.result.now c.new-checks.ensures.items same c.in_ok-last.ensures.checks c.deref-2.ensures.value in
    let all = all_conditions t tree c.in_ok-last.last (map condition_of c.deref-2.result.now) same c.in_ok-last.ensures.place checks in (
      tests_known c.tests.result q.tests c.nodes.result.now c.args.notes.now.nodes c.tests.ensures.value c.nodes.ensures.value c.in_default.ensures.none,
      ap length (sym c.notes.ensures.value) ∙ c.if-notes-count.false ∙ places_counted t.flow tree c.in_ok-last.last c.in_ok-count.count same c.in_ok-last.ensures.place c.in_ok-count.ensures,
      least_given q (note_holds c.args.notes.now) _ _ c.in_ok-least_unmet.field-0 all c.in_ok-least_unmet.ensures c.in-Some-2.target c.in-Some-2.is,
    )
