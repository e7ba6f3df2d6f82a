use Rattle.std.proofs.Common.{map, string_bytes, sym, ◌∙◌}
use Rattle.flow_syntax.specs.SyntaxViews.{tokens_syntax}
use Rattle.flow_syntax.proofs.Stacked.{tokens_none}
use Rattle.flow_text.proofs.LastTaken.{kept, ended}
use Rattle.flow_text.proofs.NameSteps.{with_names, name_step, none_more}
use Rattle.flow_text.proofs.declared_names.push_names.Goals as goal

pub tokens-preserved : goal.tokens-preserved
tokens-preserved c =
    let before = c.in-Some.field-0-1.now in
    let now = c.push_name.new.names.items in
    kept with_names tokens_syntax c.tokens.names.items now c.tokens.rest.now before c.in-Some.token.now (with_names c.args.names.now.items (tokens_syntax c.args.tokens.now)) c.in-Some.ensures.cases.0
    (name_step c.tokens.names.items now before c.in-Some.token.now c.in_ok-push_name.ensures) c.tokens.invariant

pub returns : goal.returns
returns c =
    none_more (map string_bytes c.tokens.names.items)
    ∙ sym (ended with_names tokens_syntax c.tokens.names.items c.tokens.rest.now (with_names c.args.names.now.items (tokens_syntax c.args.tokens.now)) c.in_default.ensures.cases tokens_none c.tokens.invariant)
