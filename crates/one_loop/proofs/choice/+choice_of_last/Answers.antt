use Rattle.std.proofs.Common.{◌+◌, ◌/◌, ◌<◌, ◌∙◌, ap, arith}
use Rattle.std.proofs.lemmas.Result.{IfOk-weaker}
use Rattle.while_lang.specs.ProgramViews.{list_tree}
use Rattle.std.specs.Vec.{vec_len}
use Rattle.while_lang.specs.Programs.{empty, branch_then}
use Rattle.one_loop.specs.Working.Blocks.{IsHalf, is_below}
use Rattle.one_loop.proofs.Choices.{none_chosen, one_chosen, two_chosen}
use Rattle.one_loop.proofs.choice.+choice_of_last.Goals as goal

pub returns-then-count-eq0-clause-choice : goal.returns-then-count-eq0-clause-choice
returns-then-count-eq0-clause-choice t c =
    none_chosen c.args.counter c.args.blocks.now.items _ c.args.count _ c.args.blocks.now.ok.0 c.if-count-eq0.true (ap list_tree c.new-list.ensures.items)

pub returns-in-Some-clause-choice : goal.returns-in-Some-clause-choice
returns-in-Some-clause-choice t c =
    one_chosen c.args.counter c.args.blocks.now.items c.pop.new.self.items _ c.args.count c.in-Some.block c.args.blocks.now.ok.0 c.if-count-eq1.true c.in-Some.ensures.items

pub returns-clause-choice : goal.returns-clause-choice
returns-clause-choice t c =
    let half = c.args.count / 2 in
    let rest = c.choice_of_last.new.blocks in
    let less : half < c.args.count = omega arith in
    let halves : IsHalf half c.args.count = (omega arith, omega arith, omega arith) in
    IfOk-weaker c.one_stmt.result _ _
    (λ p e.
    two_chosen c.args.counter c.args.blocks.now.items rest.items (vec_len c.args.blocks.now) (vec_len rest) c.args.count half c.in_ok-first.first c.in_ok-second.second p
    c.args.blocks.now.ok.0 rest.ok.0 c.requires less halves c.in_ok-second.ensures.left c.in_ok-second.ensures.choice c.in_ok-first.ensures.choice
    (e ∙ ap (λ n. branch_then (is_below c.args.counter (n + 1)) c.in_ok-first.first c.in_ok-second.second empty) c.len.ensures))
    c.one_stmt.ensures
