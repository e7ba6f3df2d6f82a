use Rattle.std.proofs.Common.{◌<◌, arith}
use Rattle.kat_model.specs.Stores.{modulus}
use Rattle.while_lang.specs.Programs.{statements}
use Rattle.linear_forms.proofs.StoredValues.{modulus_above_one}
use Rattle.one_loop.proofs.WholeForms.{one_form}
use Rattle.one_loop.proofs.FormSizes.{small_form}
use Rattle.one_loop.proofs.form.one_loop.Goals as goal

pub returns-in_ok-point_loop-in-Some-clause-form : goal.returns-in_ok-point_loop-in-Some-clause-form
returns-in_ok-point_loop-in-Some-clause-form c =
    let fits : statements c.args.prog.now < modulus c.args.width = omega (arith, modulus_above_one c.args.width, c.in-Some.ensures.1, c.greatest.ensures, c.if-count-greatest.true) in
    one_form c.args.width c.args.prog.now c.in_ok-point_loop-in-Some.field-0 c.args.vars c.requires.concrete c.requires.variables fits c.in_ok-point_loop-in-Some.ensures

pub returns-in_ok-point_loop-in-Some-clause-small : goal.returns-in_ok-point_loop-in-Some-clause-small
returns-in_ok-point_loop-in-Some-clause-small c = small_form c.args.vars c.args.prog.now c.in_ok-point_loop-in-Some.field-0 c.in_ok-point_loop-in-Some.ensures
