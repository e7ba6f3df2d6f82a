use Rattle.std.proofs.Common.{◌∙◌, refl}
use Rattle.kat_model.specs.Stores.{modulus}
use Rattle.linear_forms.specs.Comparisons.{substituted}
use Rattle.abstraction.specs.Comparisons.{atomics}
use Rattle.abstraction.proofs.AppendedRows.{appended_all, appended_more}
use Rattle.abstraction.proofs.rounds.append_all_substituted.Goals as goal

pub loop-atomic-preserved : goal.loop-atomic-preserved
loop-atomic-preserved c =
    appended_more c.args.most (λ phi. atomics (substituted (modulus c.args.width) c.args.assigned.now.var c.args.assigned.now.form phi)) c.args.fresh.now
    c.loop-atomic.atomic-index c.atomic-item.result c.loop-atomic-test.true c.atomic-item.is c.loop-atomic.rows.items c.append_substituted.new.rows.items
    c.in_ok-append_substituted.ensures
    ∙ c.loop-atomic.invariant

pub loop-atomic-init : goal.loop-atomic-init
loop-atomic-init c = refl

pub returns : goal.returns
returns c =
    appended_all c.args.most (λ phi. atomics (substituted (modulus c.args.width) c.args.assigned.now.var c.args.assigned.now.form phi)) c.args.fresh.now
    c.loop-atomic.atomic-index c.loop-atomic-test.false c.loop-atomic.rows.items _ c.loop-atomic.invariant
