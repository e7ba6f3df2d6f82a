use Rattle.std.proofs.Common.{◌≡◌, ◌≢◌, ◌-◌, suc, sym, ◌∙◌, arith}
use Rattle.std.proofs.lemmas.Result.{IfOk-weaker}
use Rattle.bench_problems.specs.Generator.{drawn_program}
use Rattle.bench_problems.proofs.DrawnPrograms.{drawn_program-none, drawn_more, drawn_by-other}
use Rattle.bench_problems.proofs.generator.+programs.Goals as goal

pub draw_program-returns-then-levels-eq0 : goal.draw_program-returns-then-levels-eq0
draw_program-returns-then-levels-eq0 t c =
    IfOk-weaker c.draw_action.result _ _ (λ f e. e ∙ sym (drawn_program-none c.args.levels c.args.draws.now.state c.if-levels-eq0.true)) c.draw_action.ensures

pub draw_program-returns-in-0 : goal.draw_program-returns-in-0
draw_program-returns-in-0 t c =
    let d = c.args.levels in
    let less : d ≡ suc (d - 1) = omega arith in
    IfOk-weaker c.draw_action-in-0.result _ _
    (λ f e. drawn_more d (d - 1) c.args.draws.now.state 0 c.draw.new.self.state _ less (sym c.in-0.is ∙ c.draw.ensures.number) c.draw.ensures.state e)
    c.draw_action-in-0.ensures

pub draw_program-returns-in-1 : goal.draw_program-returns-in-1
draw_program-returns-in-1 t c =
    let d = c.args.levels in
    let less : d ≡ suc (d - 1) = omega arith in
    IfOk-weaker c.draw_both.result _ _
    (λ f e. drawn_more d (d - 1) c.args.draws.now.state 1 c.draw.new.self.state _ less (sym c.in-1.is ∙ c.draw.ensures.number) c.draw.ensures.state e)
    c.draw_both.ensures

pub draw_program-returns-in-2 : goal.draw_program-returns-in-2
draw_program-returns-in-2 t c =
    let d = c.args.levels in
    let less : d ≡ suc (d - 1) = omega arith in
    IfOk-weaker c.draw_branch.result _ _
    (λ f e. drawn_more d (d - 1) c.args.draws.now.state 2 c.draw.new.self.state _ less (sym c.in-2.is ∙ c.draw.ensures.number) c.draw.ensures.state e)
    c.draw_branch.ensures

pub draw_program-returns-in_default : goal.draw_program-returns-in_default
draw_program-returns-in_default t c =
    let d = c.args.levels in
    let n = c.draw.result in
    let less : d ≡ suc (d - 1) = omega arith in
    let first : n ≢ 0 = omega arith in
    let second : n ≢ 1 = omega arith in
    let third : n ≢ 2 = omega arith in
    IfOk-weaker c.draw_loop.result _ _
    (λ f e. drawn_more d (d - 1) c.args.draws.now.state n c.draw.new.self.state _ less c.draw.ensures.number c.draw.ensures.state
    (e ∙ sym (drawn_by-other (drawn_program (d - 1)) n c.draw.new.self.state first second third)))
    c.draw_loop.ensures
