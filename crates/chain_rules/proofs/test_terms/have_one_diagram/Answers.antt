use Rattle.kat_model.specs.Trees.{kat_tree}
use Rattle.kat_model.specs.Steps.{out}
use Rattle.std.proofs.Common.{◌∙◌}
use Rattle.test_diagrams.proofs.Kept.{IsDiagramOf-kept}
use Rattle.chain_rules.proofs.CheckedChains.{equal_ids, ids_compared}
use Rattle.chain_rules.proofs.test_terms.have_one_diagram.Goals as goal

pub returns : goal.returns
returns c =
    let d = c.diagram_of-2.new.diagrams in
    let e = kat_tree c.args.left.now in
    let f = kat_tree c.args.right.now in
    let i = c.in_ok-first.first in
    let j = c.in_ok-second.second in
    let of_e = IsDiagramOf-kept c.diagram_of.new.diagrams d c.diagram_of-2.ensures.kept i (out e) c.in_ok-first.ensures.function in
    ids_compared i j c.eq.result c.eq.ensures
    (equal_ids c.args.diagrams.now.tests d i j e f (c.diagram_of-2.ensures.kept.tests ∙ c.diagram_of.ensures.kept.tests) c.diagram_of-2.ensures.reduced of_e c.in_ok-second.ensures.function c.requires.is_left c.requires.is_right)
