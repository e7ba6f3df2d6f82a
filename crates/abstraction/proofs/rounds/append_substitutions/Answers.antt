use Rattle.std.proofs.Common.{◌∙◌, refl}
use Rattle.std.specs.List.{flat_map}
use Rattle.kat_model.specs.Stores.{modulus}
use Rattle.linear_forms.specs.Comparisons.{substituted}
use Rattle.abstraction.specs.Comparisons.{atomics}
use Rattle.abstraction.proofs.AppendedRows.{appended_all, substitutions_go_on}
use Rattle.abstraction.proofs.rounds.append_substitutions.Goals as goal

pub loop-assigned-preserved : goal.loop-assigned-preserved
loop-assigned-preserved c =
    substitutions_go_on c.args.most (modulus c.args.width) c.args.assignments.now c.args.assignments.now c.args.fresh.now c.loop-assigned.assigned-index c.assigned-item.result
    c.loop-assigned-test.true c.assigned-item.is c.loop-assigned.rows.items c.append_all_substituted.new.rows.items c.in_ok-append_all_substituted.ensures
    ∙ c.loop-assigned.invariant

pub loop-assigned-init : goal.loop-assigned-init
loop-assigned-init c = refl

pub returns : goal.returns
returns c =
    appended_all c.args.most (λ a. flat_map (λ phi. atomics (substituted (modulus c.args.width) a.var a.form phi)) c.args.fresh.now) c.args.assignments.now
    c.loop-assigned.assigned-index c.loop-assigned-test.false c.loop-assigned.rows.items _ c.loop-assigned.invariant
