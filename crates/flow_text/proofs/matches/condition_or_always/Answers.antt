use Rattle.std.proofs.Common.{List, Result, Ok, sym, ap, subst, ◌∙◌}
use Rattle.std.specs.Prelude.{Vec}
use Rattle.std.specs.declared.alloc.Global.{Global}
use Rattle.text_parser.specs.declared.fault.TextFault.{TextFault}
use Rattle.text_parser.specs.Parsed.{Makes}
use Rattle.flow_model.specs.declared.graph.CondNode.{CondNode}
use Rattle.flow_model.specs.Conditions.{CondTree}
use Rattle.flow_text.specs.Trees.{cond_of}
use Rattle.flow_text.specs.ScopeViews.{sight_parts}
use Rattle.flow_text.proofs.MatchSteps.{no_condition, some_condition}
use Rattle.flow_text.proofs.matches.condition_or_always.Goals as goal

pub returns-then-is_empty : goal.returns-then-is_empty
returns-then-is_empty c =
    no_condition (sight_parts c.args.visible_names.now) c.args.cond.now (sym c.is_empty.ensures ∙ c.if-is_empty.true)
    ∙ ap (λ (ns : List CondNode). let r : Result CondTree TextFault = Ok (cond_of ns) in r) (sym c.in_ok-always.ensures)

pub returns : goal.returns
returns c =
    subst (λ (m : Result CondTree TextFault). Makes (Unit {0}) (λ (v : Vec CondNode Global). cond_of v.items) c.resolve_cond.result m)
    (sym (some_condition (sight_parts c.args.visible_names.now) c.args.cond.now (sym c.is_empty.ensures ∙ c.if-is_empty.false))) c.resolve_cond.ensures
