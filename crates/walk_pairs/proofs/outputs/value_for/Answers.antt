use Rattle.std.proofs.Common.{sym, ◌∙◌}
use Rattle.std.proofs.lemmas.Bool.{eqb-true, eqb-false}
use Rattle.walk_pairs.proofs.TrueAtoms.{other_value, this_value}
use Rattle.walk_pairs.proofs.outputs.value_for.Goals as goal

pub returns-then-eq-clause-value : goal.returns-then-eq-clause-value
returns-then-eq-clause-value c =
    other_value c.args.diagrams.now c.fix.new.self c.args.id c.in_ok-part.part c.constant.result c.args.test c.args.wish c.in_ok-part.ensures.kept.tests c.in_ok-part.ensures.function c.constant.ensures.function
    (eqb-true c.in_ok-part.part c.constant.result (sym c.eq.ensures ∙ c.if-eq.true)) c.requires.somewhere

pub returns-clause-value : goal.returns-clause-value
returns-clause-value c =
    this_value c.args.diagrams.now c.fix.new.self c.args.id c.in_ok-part.part c.constant.result c.args.test c.args.wish c.in_ok-part.ensures.kept.tests c.in_ok-part.ensures.function c.constant.ensures.function
    c.in_ok-part.ensures.reduced (eqb-false c.in_ok-part.part c.constant.result (sym c.eq.ensures ∙ c.if-eq.false))
