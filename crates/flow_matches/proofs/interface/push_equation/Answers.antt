use Rattle.std.proofs.Common.{ap, ◌∙◌, refl}
use Rattle.std.proofs.lemmas.Bool.{and_from}
use Rattle.std.proofs.lemmas.Result.{on_ok_weaker}
use Rattle.kat_model.specs.declared.expression.Rel.TheVariants.{Eq}
use Rattle.flow_model.specs.declared.graph.CondNode.TheVariants.{Both, Compared}
use Rattle.flow_model.specs.WholeGraphs.{is_whole_expr, has_whole_sides}
use Rattle.flow_matches.proofs.WholeParts.{all_pushed}
use Rattle.flow_matches.proofs.interface.push_equation.Goals as goal

pub returns-clause-whole : goal.returns-clause-whole
returns-clause-whole c =
    on_ok_weaker c.append-2.result
    (λ added expression sides.
    all_pushed has_whole_sides c.append.new.list.items c.append-2.new.list.items (Compared Eq c.in_ok-left.left c.in_ok-right.right) added
    (all_pushed has_whole_sides c.args.nodes.now.items c.append.new.list.items Both c.in_ok-append.ensures sides refl)
    (and_from (is_whole_expr c.in_ok-left.left.items) (is_whole_expr c.in_ok-right.right.items) c.in_ok-left.ensures.whole (ap is_whole_expr c.in_ok-right.ensures ∙ expression)))
    c.append-2.ensures
