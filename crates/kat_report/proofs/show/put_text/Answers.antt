use Rattle.std.proofs.Common.{◌≡◌, ◌++◌, sym, ap}
use Rattle.std.proofs.lemmas.Result.{on_ok_weaker}
use Rattle.text_print.specs.Printing.{name_of}
use Rattle.problem_file.specs.Questions.{goal_text}
use Rattle.abstraction.specs.Abstracts.{AbstractParts}
use Rattle.kat_model.specs.Trees.{kat_tree}
use Rattle.kat_report.proofs.WrittenParts.{shown_written}
use Rattle.kat_report.proofs.show.put_text.Goals as goal

pub returns : goal.returns
returns c =
    let p = c.args.shown.now.problem in
    let whole = λ (written : c.put_goal.new.out.items ≡ c.put_hyps.new.out.items ++ goal_text (name_of c.args.plain.now) (kat_tree c.left.result.now) (kat_tree c.right.result.now)). shown_written c.file.inside.scope c.args.plain.now c.shown.inside.problem c.deref.result.now c.deref-2.result.now c.deref-3.result.now
    p.tests p.actions c.tests.result c.actions.result (kat_tree c.left.result.now) (kat_tree c.right.result.now)
    c.args.out.now.items c.put_test_comments.new.out.items c.put_tests.new.out.items c.put_action_comments.new.out.items c.put_actions.new.out.items c.put_hyps.new.out.items c.put_goal.new.out.items
    c.left.ensures.within c.requires.plain (ap (λ (z : AbstractParts). z.problem.tests) (sym c.shown.view_is)) (ap (λ (z : AbstractParts). z.problem.actions) (sym c.shown.view_is)) c.tests.ensures.value c.actions.ensures.value c.left.ensures.value c.right.ensures.value
    c.requires.empty c.in_ok-put_test_comments.ensures c.in_ok-put_tests.ensures c.in_ok-put_action_comments.ensures c.in_ok-put_actions.ensures c.in_ok-put_hyps.ensures written in
    rw (← c.file.view_is, ← c.shown.view_is, ← c.deref.ensures.value, ← c.deref-2.ensures.value, ← c.deref-3.ensures.value) (on_ok_weaker c.put_goal.result whole c.put_goal.ensures)
