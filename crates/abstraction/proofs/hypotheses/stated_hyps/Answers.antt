use Rattle.std.proofs.Common.{◌∙◌, ap, map}
use Rattle.std.proofs.lemmas.List.{take_all}
use Rattle.kat_model.specs.Trees.{kat_tree}
use Rattle.abstraction.specs.Derived.{stated_from}
use Rattle.abstraction.proofs.NumberedRows.{stated_from-more}
use Rattle.abstraction.proofs.hypotheses.stated_hyps.Goals as goal

pub loop-k-preserved : goal.loop-k-preserved
loop-k-preserved c =
    rw (c.in_ok-push_hyp.ensures, c.loop-k.invariant)
    (stated_from-more c.args.terms.now c.loop-k.k c.index-terms-k.result _ c.loop-k-test.true c.index-terms-k.is c.in_ok-copy.ensures)

pub loop-k-init : goal.loop-k-init
loop-k-init c = c.new-hyps.ensures.items

pub returns : goal.returns
returns c = c.loop-k.invariant ∙ ap (λ l. stated_from 0 (map kat_tree l)) (take_all c.loop-k.k c.args.terms.now c.loop-k-test.false)
