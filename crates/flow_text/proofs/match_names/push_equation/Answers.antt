use Rattle.std.proofs.Common.{true, append_assoc}
use Rattle.text_parser.specs.TokenParts.{parts_of_token}
use Rattle.flow_syntax.specs.SyntaxViews.{expr_syntax}
use Rattle.flow_text.specs.MatchNames.{names_of_token, names_of_expression}
use Rattle.flow_text.specs.MatchViews.{names_parts}
use Rattle.flow_text.specs.ScopeViews.{sight_parts}
use Rattle.flow_text.proofs.match_names.push_equation.Goals as goal

pub returns : goal.returns
returns c =
    let s = sight_parts c.args.visible.now in
    let target = names_of_token s c.args.part true (parts_of_token c.args.equation.now.variable) in
    let names = names_of_expression s c.args.part (expr_syntax c.args.equation.now.value.items) in
    let joined = append_assoc (names_parts c.args.names.now.items) target names in
    cc (c.in_ok-push_token.ensures, c.in_ok-push_expression.ensures, c.deref.ensures.value)
