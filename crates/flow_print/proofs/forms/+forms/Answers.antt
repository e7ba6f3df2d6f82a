use Rattle.std.proofs.Common.{ap}
use Rattle.std.proofs.lemmas.Result.{on_ok_weaker}
use Rattle.flow_forms.specs.Forms.{form_tree}
use Rattle.flow_print.specs.NameTables.{names_of}
use Rattle.flow_print.proofs.WrittenForms.{term_written, factor_written, argument_written, converted_written}
use Rattle.flow_print.proofs.forms.+forms.Goals as goal

pub put_form-returns-in_ok-put_form-in-Term : goal.put_form-returns-in_ok-put_form-in-Term
put_form-returns-in_ok-put_form-in-Term t c =
    let names = names_of c.args.names.now.variables.now c.args.names.now.sorts.now c.args.names.now.functions.now in
    on_ok_weaker c.put_form-in-Term.result
    (term_written names c.args.width c.args.first (form_tree c.args.form.now) (form_tree c.deref.result.now) (form_tree c.in-Term.product.value) (form_tree c.deref-in-Term.result.now) (form_tree c.in-Term.rest.value) (ap form_tree c.deref.ensures) c.args.out.now.items c.put_coefficient.new.out.items c.put_form.new.out.items c.put_form-in-Term.new.out.items
    (ap form_tree c.deref-in-Term.ensures) c.in-Term.times (ap form_tree c.in-Term.is) c.in_ok-put_coefficient-in-Term.ensures c.in_ok-put_form-in-Term.ensures)
    c.put_form-in-Term.ensures

pub put_form-returns-in_ok-put_form-in-Factor : goal.put_form-returns-in_ok-put_form-in-Factor
put_form-returns-in_ok-put_form-in-Factor t c =
    let names = names_of c.args.names.now.variables.now c.args.names.now.sorts.now c.args.names.now.functions.now in
    on_ok_weaker c.put_form-in-Factor-2.result
    (factor_written names c.args.width c.args.first (form_tree c.args.form.now) (form_tree c.deref-in-Factor.result.now) (form_tree c.in-Factor.cell.value) (form_tree c.deref-in-Factor-2.result.now) (form_tree c.in-Factor.rest.value) (ap form_tree c.deref-in-Factor.ensures) c.args.out.now.items c.put_star.new.out.items c.put_form-in-Factor.new.out.items c.put_form-in-Factor-2.new.out.items
    (ap form_tree c.deref-in-Factor-2.ensures) (ap form_tree c.in-Factor.is) c.in_ok-put_star-in-Factor.ensures c.in_ok-put_form-in-Factor.ensures)
    c.put_form-in-Factor-2.ensures

pub put_form-returns-in_ok-put_form-in-Argument : goal.put_form-returns-in_ok-put_form-in-Argument
put_form-returns-in_ok-put_form-in-Argument t c =
    let names = names_of c.args.names.now.variables.now c.args.names.now.sorts.now c.args.names.now.functions.now in
    on_ok_weaker c.put_form-in-Argument-2.result
    (argument_written names c.args.width c.args.first (form_tree c.args.form.now) (form_tree c.deref-in-Argument.result.now) (form_tree c.in-Argument.argument.value) (form_tree c.deref-in-Argument-2.result.now) (form_tree c.in-Argument.rest.value) (ap form_tree c.deref-in-Argument.ensures) c.args.out.now.items c.put_comma.new.out.items c.put_form-in-Argument.new.out.items c.put_form-in-Argument-2.new.out.items
    (ap form_tree c.deref-in-Argument-2.ensures) c.in-Argument.sort c.sort_width.result c.sort_width.ensures (ap form_tree c.in-Argument.is) c.in_ok-put_comma-in-Argument.ensures c.in_ok-put_form-in-Argument.ensures)
    c.put_form-in-Argument-2.ensures

pub put_form-returns-in_ok-put_form-in-Converted : goal.put_form-returns-in_ok-put_form-in-Converted
put_form-returns-in_ok-put_form-in-Converted t c =
    let names = names_of c.args.names.now.variables.now c.args.names.now.sorts.now c.args.names.now.functions.now in
    on_ok_weaker c.put.result
    (converted_written names c.args.width c.args.first (form_tree c.args.form.now) (form_tree c.deref-in-Converted.result.now) (form_tree c.in-Converted.operand.value) (form_tree c.deref-in-Converted.result.now) (form_tree c.in-Converted.operand.value) (ap form_tree c.deref-in-Converted.ensures) c.args.out.now.items c.put_conversion.new.out.items c.put_form-in-Converted.new.out.items c.put.new.out.items
    c.in-Converted.signed c.in-Converted.from c.in-Converted.to (ap form_tree c.in-Converted.is) c.in_ok-put_conversion-in-Converted.ensures c.in_ok-put_form-in-Converted.ensures)
    c.put.ensures
