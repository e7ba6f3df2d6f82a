use Rattle.std.proofs.Common.{◌≡◌, ◌<◌, ◌+◌, ℕ, Option, IfOk, sym, ap, ◌∙◌, subst, arith}
use Rattle.std.specs.Option.{option_map}
use Rattle.cert_checker.specs.Cases.{undecided}
use Rattle.cert_checker.specs.Passes.{PassParts}
use Rattle.cert_checker.specs.Working.Places.{IsFirstOf, place_reason, turn_number}
use Rattle.cert_checker.proofs.PosedQuestions.{narrow}
use Rattle.cert_checker.proofs.Passes.{pass_kept, passes_trans}
use Rattle.cert_checker.proofs.places.first_failure.Goals as goal

pub new-requires : goal.new-requires
new-requires c =
    let narrow_there = narrow c.args.pass.now c.requires.pass in
    omega (arith, narrow_there, c.width-width.ensures, ap (λ (z : PassParts). z.tables.width) c.pass.view_is)

pub failure_in-requires-clause-pass : goal.failure_in-requires-clause-pass
failure_in-requires-clause-pass c = pass_kept c.args.pass.now c.action_pass.new.self c.action_pass.ensures.grows c.requires.pass

pub failure_in-requires-clause-action_pass : goal.failure_in-requires-clause-action_pass
failure_in-requires-clause-action_pass c = c.in_ok-action_pass.ensures.action_pass

pub failure_in-requires-clause-action : goal.failure_in-requires-clause-action
failure_in-requires-clause-action c =
    let p = c.args.pass.now in
    subst (λ (z : PassParts). turn_number c.in_ok-action_pass.action_pass.action < z.problem.actions + 1) (sym c.action_pass.ensures.grows.same)
    (subst (λ (o : Option ℕ). turn_number o < p.problem.actions + 1) (sym c.in_ok-action_pass.ensures.action) c.requires.action)

pub failure_in-requires-clause-undecided : goal.failure_in-requires-clause-undecided
failure_in-requires-clause-undecided c =
    let new = c.action_pass.new.self in
    let width : c.width-width.result ≡ new.tables.width = c.width-width.ensures ∙ ap (λ (z : PassParts). z.tables.width) c.pass.view_is ∙ sym c.action_pass.ensures.grows.tables.width in
    c.in_ok-case.ensures ∙ ap (λ n. undecided (n + n)) width

pub returns-clause-first : goal.returns-clause-first
returns-clause-first c =
    let new = c.action_pass.new.self in
    subst (λ (z : PassParts). IfOk c.failure_in.result (λ o. IsFirstOf z.problem z.cert (λ n. n ≡ turn_number c.args.action) (option_map (place_reason z.cert.style) o))) c.action_pass.ensures.grows.same
    (subst (λ (a : Option ℕ). IfOk c.failure_in.result (λ o. IsFirstOf new.problem new.cert (λ n. n ≡ turn_number a) (option_map (place_reason new.cert.style) o))) c.in_ok-action_pass.ensures.action c.failure_in.ensures.first)

pub returns-clause-grows : goal.returns-clause-grows
returns-clause-grows c = passes_trans c.args.pass.now c.action_pass.new.self c.failure_in.new.pass c.action_pass.ensures.grows c.failure_in.ensures.grows

pub returns-in_err-case-clause-grows : goal.returns-in_err-case-clause-grows
returns-in_err-case-clause-grows c = c.action_pass.ensures.grows
