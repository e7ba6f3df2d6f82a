use Rattle.std.proofs.Common.{◌≡◌, ◌∷◌, ◌∙◌, IfOk, map, sym, ap, subst, arith}
use Rattle.std.proofs.lemmas.Result.{IfOk-weaker}
use Rattle.kat_model.specs.Expressions.{cond_tree}
use Rattle.while_lang.specs.Programs.{ProgTree, empty, with_stmt, loop}
use Rattle.while_lang.specs.ProgramViews.{stmt_tree, list_tree}
use Rattle.while_lang.specs.declared.prog.Stmt.{Stmt}
use Rattle.optimiser_steps.specs.Working.Found.{FindsLeast}
use Rattle.optimiser_steps.proofs.Alternatives.{one_of_five}
use Rattle.optimiser_steps.proofs.LeastSteps.{unnested_at, none_unnested}
use Rattle.optimiser_steps.proofs.MadeSteps.{one_listed, not_nested}
use Rattle.optimiser_steps.proofs.loop_steps.loop_step.Goals as goal

pub returns-in-If : goal.returns-in-If
returns-in-If c =
    let view : list_tree c.as_slice.result.now ≡ c.args.body.now = ap list_tree c.as_slice.ensures.value ∙ c.body.view_is in
    let body = one_listed c.as_slice.result.now c.inner-item.result c.args.body.now view (omega arith) c.inner-item.is in
    let inner = ap (λ (s : Stmt). with_stmt (stmt_tree s) empty) (sym c.in-If.is) ∙ body in
    subst (λ (p : ProgTree). IfOk c.if_inside.result (FindsLeast c.args.file.now (loop (cond_tree c.args.guard.now) p ∷ map stmt_tree c.args.rest.now) 11 13)) inner c.if_inside.ensures

pub returns-in-Skip : goal.returns-in-Skip
returns-in-Skip c =
    let body = c.args.body.now in
    let view : list_tree c.as_slice.result.now ≡ body = ap list_tree c.as_slice.ensures.value ∙ c.body.view_is in
    let s = c.inner-item.result in
    let one = one_listed c.as_slice.result.now s body view (omega arith) c.inner-item.is in
    none_unnested c.args.file.now (map stmt_tree c.args.rest.now) (cond_tree c.args.guard.now) body
    (one_of_five c.in-Skip.is (λ e. unnested_at s _ body one e (λ n. n)) (λ e. unnested_at s _ body one e (λ n. n)) (λ w. unnested_at s _ body one w.1 (λ n. n)) (λ w. unnested_at s _ body one w.1 (λ n. n)) (λ w. unnested_at s _ body one w.2 (λ n. n)))

pub returns-in-While : goal.returns-in-While
returns-in-While c =
    let view : list_tree c.as_slice.result.now ≡ c.args.body.now = ap list_tree c.as_slice.ensures.value ∙ c.body.view_is in
    let body = one_listed c.as_slice.result.now c.inner-item.result c.args.body.now view (omega arith) c.inner-item.is in
    let inner = ap (λ (s : Stmt). with_stmt (stmt_tree s) empty) (sym c.in-While.is) ∙ body in
    IfOk-weaker c.loop_inside.result _ _
    (λ r found. subst (λ (p : ProgTree). FindsLeast c.args.file.now (loop (cond_tree c.args.guard.now) p ∷ map stmt_tree c.args.rest.now) 11 13 r) inner (found c.args.file.now))
    c.loop_inside.ensures

pub returns-in-empty : goal.returns-in-empty
returns-in-empty c =
    let view : list_tree c.as_slice.result.now ≡ c.args.body.now = ap list_tree c.as_slice.ensures.value ∙ c.body.view_is in
    none_unnested c.args.file.now (map stmt_tree c.args.rest.now) (cond_tree c.args.guard.now) c.args.body.now (not_nested c.as_slice.result.now c.args.body.now view (λ one. omega (arith, one)))

pub returns-in-len2-up : goal.returns-in-len2-up
returns-in-len2-up c =
    let view : list_tree c.as_slice.result.now ≡ c.args.body.now = ap list_tree c.as_slice.ensures.value ∙ c.body.view_is in
    none_unnested c.args.file.now (map stmt_tree c.args.rest.now) (cond_tree c.args.guard.now) c.args.body.now (not_nested c.as_slice.result.now c.args.body.now view (λ one. omega (arith, one)))
