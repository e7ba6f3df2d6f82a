use Rattle.std.proofs.Common.{[], map, string_bytes, sym, ◌∙◌}
use Rattle.flow_syntax.specs.SyntaxViews.{items_syntax}
use Rattle.flow_syntax.proofs.Stacked.{items_none}
use Rattle.flow_text.proofs.LastTaken.{kept, ended}
use Rattle.flow_text.proofs.NameSteps.{with_variables, variables_step, none_more}
use Rattle.flow_text.proofs.declared_names.variable_names.Goals as goal

pub items-preserved : goal.items-preserved
items-preserved c =
    let before = c.in-Some.field-0-1.now in
    let now = c.push_variables.new.names.items in
    kept with_variables items_syntax c.items.names.items now c.items.rest.now before c.in-Some.item.now (with_variables [] (items_syntax c.args.items.now)) c.in-Some.ensures.cases.0
    (variables_step c.items.names.items now before c.in-Some.item.now c.in_ok-push_variables.ensures) c.items.invariant

pub returns : goal.returns
returns c =
    none_more (map string_bytes c.items.names.items)
    ∙ sym (ended with_variables items_syntax c.items.names.items c.items.rest.now (with_variables [] (items_syntax c.args.items.now)) c.in_default.ensures.cases items_none c.items.invariant)
