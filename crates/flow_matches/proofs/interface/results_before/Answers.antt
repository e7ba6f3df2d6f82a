use Rattle.std.proofs.Common.{◌≡◌, ◌+◌, ◌∷◌, [], ◌++◌, ap, ◌∙◌, filter, map, arith}
use mathlib.Core.Path.{ap₂}
use Rattle.std.specs.Prelude.{Vec}
use Rattle.std.specs.declared.alloc.Global.{Global}
use Rattle.flow_model.specs.declared.graph.ExprNode.{ExprNode}
use Rattle.flow_model.specs.Expressions.{variable}
use Rattle.flow_model.specs.Polish.{values_of}
use Rattle.flow_model.specs.WholeGraphs.{is_whole_expr, are_whole_exprs}
use Rattle.flow_model.specs.WholeMatches.{are_whole_equations}
use Rattle.flow_model.specs.Matches.{Equation, equation_of, match_of}
use Rattle.flow_pieces.specs.PieceGraphs.{has_block, mark, exit_mark, shared_variables}
use Rattle.flow_matches.specs.Working.ExitViews.{exit_with}
use Rattle.flow_matches.proofs.PushedLists.{four_parts}
use Rattle.flow_matches.proofs.WholeParts.{all_pushed, forth_whole}
use Rattle.flow_matches.proofs.interface.results_before.Goals as goal

pub returns-clause-trees : goal.returns-clause-trees
returns-clause-trees c =
    let own = c.args.own.now in
    let exit = c.args.exit.now in
    let first = values_of c.append.new.list.items in
    let second = values_of c.push_shared.new.values.items in
    let third = values_of c.push_live_expressions.new.values.items in
    let sum : c.args.place + 3 ≡ 3 + c.args.place = omega arith in
    four_parts first second third (values_of c.push_variables.new.values.items) (exit_mark c.args.place)
    (map variable (shared_variables (exit_with (match_of own) exit)))
    (map (λ (q : Equation). q.expression) (filter (λ (q : Equation). has_block exit.live.items q.variable) (map equation_of own.forth.items)))
    (map (λ (q : Equation). variable q.variable) (map equation_of own.back.items))
    (ap values_of c.in_ok-append.ensures ∙ ap (λ l. values_of (l ++ c.in_ok-mark.field-0 ∷ [])) c.new-values.ensures.items ∙ ap (λ e. e ∷ []) (c.in_ok-mark.ensures.tree ∙ ap mark sum))
    c.in_ok-push_shared.ensures.trees
    (c.in_ok-push_live_expressions.ensures.trees
    ∙ ap₂ (λ es ks. second ++ map (λ (q : Equation). q.expression) (filter (λ (q : Equation). has_block ks q.variable) (map equation_of es))) c.deref.ensures.value c.deref-2.ensures.value)
    (c.in_ok-push_variables.ensures.trees ∙ ap (λ es. third ++ map (λ (q : Equation). variable q.variable) (map equation_of es)) c.deref-3.ensures.value)

pub returns-clause-whole : goal.returns-clause-whole
returns-clause-whole c = λ own.
    let first = all_pushed (λ (e : Vec ExprNode Global). is_whole_expr e.items) c.new-values.result.items c.append.new.list.items c.in_ok-mark.field-0 c.in_ok-append.ensures (ap are_whole_exprs c.new-values.ensures.items) c.in_ok-mark.ensures.whole in
    c.in_ok-push_variables.ensures.whole (c.in_ok-push_live_expressions.ensures.whole (ap are_whole_equations c.deref.ensures.value ∙ forth_whole c.args.own.now own) (c.in_ok-push_shared.ensures.whole first))
