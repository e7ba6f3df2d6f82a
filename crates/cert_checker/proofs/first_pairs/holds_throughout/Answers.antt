use Rattle.std.proofs.Common.{◌≡◌, ◌↔◌, length, sym, ◌∙◌, subst}
use Rattle.std.specs.Bool.{IsTrue}
use Rattle.std.proofs.lemmas.Result.{IfOk-weaker}
use Rattle.kat_model.specs.Steps.{Atom}
use Rattle.kat_model.specs.AllowedMoves.{IsAllowedAtom}
use Rattle.cert_checker.specs.NodeTables.{holds_at}
use Rattle.cert_checker.proofs.TargetSets.{test_within, holds_kept}
use Rattle.cert_checker.specs.Roots.{counted_short}
use Rattle.cert_checker.specs.Passes.{PassParts}
use Rattle.cert_checker.proofs.Passes.{pass_kept, passes_trans}
use Rattle.cert_checker.proofs.first_pairs.holds_throughout.Goals as goal

pub holds_in-requires : goal.holds_in-requires
holds_in-requires c =
    let p = c.args.pass.now in
    let new = c.action_pass.new.self in
    let grows = c.action_pass.ensures.grows in
    record {
      pass = pass_kept p new grows c.requires.pass;
      action_pass = c.in_ok-action_pass.ensures.action_pass;
      outputs = c.in_ok-action_pass.ensures.action;
      is_test = test_within p.tables new.tables grows.tables.was grows.tables c.args.test c.requires.is_test;
    }

pub returns-clause-holds : goal.returns-clause-holds
returns-clause-holds c =
    let p = c.args.pass.now in
    let new = c.action_pass.new.self in
    let grows = c.action_pass.ensures.grows in
    let kept = λ (atom : Atom). holds_kept p.tables new.tables grows.tables.was grows.tables c.args.test atom c.requires.is_test in
    IfOk-weaker c.holds_in.result _ _
    (λ b h.
    let given = subst (λ (z : PassParts). IsTrue b ↔ ((atom : Atom) → length atom ≡ z.problem.tests → IsAllowedAtom (counted_short z.cert.style z.problem) atom → IsTrue (holds_at new.tables c.args.test atom))) grows.same h in
    ((λ e atom l allowed. sym (kept atom) ∙ given.0 e atom l allowed), (λ all. given.1 (λ atom l allowed. kept atom ∙ all atom l allowed))))
    c.holds_in.ensures.holds

pub returns-clause-grows : goal.returns-clause-grows
returns-clause-grows c = passes_trans c.args.pass.now c.action_pass.new.self c.holds_in.new.pass c.action_pass.ensures.grows c.holds_in.ensures.grows
