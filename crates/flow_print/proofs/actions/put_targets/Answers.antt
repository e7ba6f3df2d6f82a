use Rattle.std.proofs.Common.{refl}
use Rattle.flow_ways.specs.ActionTrees.{set_tree}
use Rattle.flow_print.specs.NameTables.{names_of}
use Rattle.flow_print.specs.ActionTexts.{target_text, targets_text}
use Rattle.flow_print.proofs.WrittenLists.{all_written, set_written}
use Rattle.flow_print.proofs.actions.put_targets.Goals as goal

pub loop-number-preserved : goal.loop-number-preserved
loop-number-preserved c =
    let names = names_of c.args.names.now.variables.now c.args.names.now.sorts.now c.args.names.now.functions.now in
    set_written (target_text names) (targets_text names) (λ k first o os. refl) c.args.forms.now c.loop-number.number c.index-forms-number.result c.loop-number.first c.stays_first-first.result c.loop-number.out.items c.put_target.new.out.items _
    c.loop-number-test.true c.index-forms-number.is c.stays_first-first.ensures c.in_ok-put_target.ensures c.loop-number.invariant

pub returns : goal.returns
returns c =
    let names = names_of c.args.names.now.variables.now c.args.names.now.sorts.now c.args.names.now.functions.now in
    all_written set_tree (targets_text names c.loop-number.number c.loop-number.first) refl c.args.forms.now c.loop-number.number c.loop-number.out.items _ c.loop-number-test.false c.loop-number.invariant
