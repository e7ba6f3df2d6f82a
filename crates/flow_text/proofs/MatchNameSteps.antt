-- The names of a match, with those of another node, equation or part.
use Rattle.std.proofs.Common.{◌≡◌, List, [], ◌∷◌, ◌++◌, ap, ◌∙◌, append_assoc}
use Rattle.flow_syntax.specs.declared.written.Node.{Node}
use Rattle.flow_syntax.specs.declared.written.CondNode.{CondNode}
use Rattle.flow_syntax.specs.declared.written.Equation.{Equation}
use Rattle.flow_syntax.specs.Syntax.{ExprSyntax, CondSyntax, EquationSyntax}
use Rattle.flow_syntax.specs.SyntaxViews.{node_syntax, expr_syntax, cond_node_syntax, cond_syntax, equation_syntax, equations_syntax}
use Rattle.flow_syntax.proofs.Stacked.{expr_push, cond_push, equations_push}
use Rattle.flow_text.specs.declared.match_names.MatchPart.{MatchPart}
use Rattle.flow_text.specs.declared.match_names.MatchName.{MatchName as AMatchName}
use Rattle.flow_text.specs.Matches.{MatchName}
use Rattle.flow_text.specs.MatchNames.{names_of_node, names_of_expression, names_of_equation, names_of_equations, names_of_cond_node, names_of_condition}
use Rattle.flow_text.specs.MatchViews.{names_parts}
use Rattle.flow_text.specs.Scopes.{ScopeParts}
use Rattle.flow_text.proofs.NameSteps.{moved_over}

-- names so far and those of nodes, of equations and of nodes of a condition
abbrev pub with_nodes : ScopeParts → MatchPart → List AMatchName → ExprSyntax → List MatchName
with_nodes s part made ns = names_parts made ++ names_of_expression s part ns

abbrev pub with_equations : ScopeParts → MatchPart → List AMatchName → List EquationSyntax → List MatchName
with_equations s part made qs = names_parts made ++ names_of_equations s part qs

abbrev pub with_cond_nodes : ScopeParts → List AMatchName → CondSyntax → List MatchName
with_cond_nodes s made ns = names_parts made ++ names_of_condition s ns

pub node_step : (s : ScopeParts) (part : MatchPart) (made now : List AMatchName) (before : List Node) (n : Node) → names_parts now ≡ names_parts made ++ names_of_node s part (node_syntax n) → with_nodes s part made (expr_syntax (before ++ n ∷ [])) ≡ with_nodes s part now (expr_syntax before)
node_step s part made now before n e =
    ap (with_nodes s part made) (expr_push before n)
    ∙ moved_over (names_parts now) (names_parts made) (names_of_node s part (node_syntax n)) (names_of_expression s part (expr_syntax before)) e

pub equation_step : (s : ScopeParts) (part : MatchPart) (made now : List AMatchName) (before : List Equation) (q : Equation) → names_parts now ≡ names_parts made ++ names_of_equation s part (equation_syntax q) → with_equations s part made (equations_syntax (before ++ q ∷ [])) ≡ with_equations s part now (equations_syntax before)
equation_step s part made now before q e =
    ap (with_equations s part made) (equations_push before q)
    ∙ moved_over (names_parts now) (names_parts made) (names_of_equation s part (equation_syntax q)) (names_of_equations s part (equations_syntax before)) e

pub cond_node_step : (s : ScopeParts) (made now : List AMatchName) (before : List CondNode) (n : CondNode) → names_parts now ≡ names_parts made ++ names_of_cond_node s (cond_node_syntax n) → with_cond_nodes s made (cond_syntax (before ++ n ∷ [])) ≡ with_cond_nodes s now (cond_syntax before)
cond_node_step s made now before n e =
    ap (with_cond_nodes s made) (cond_push before n)
    ∙ moved_over (names_parts now) (names_parts made) (names_of_cond_node s (cond_node_syntax n)) (names_of_condition s (cond_syntax before)) e

-- names added in two steps
pub both_added : {X : Type 0} (made middle now x y : List X) → middle ≡ made ++ x → now ≡ middle ++ y → now ≡ made ++ (x ++ y)
both_added made middle now x y e f = f ∙ ap (λ l. l ++ y) e ∙ append_assoc made x y

-- names added to none
pub none_before : (none : List AMatchName) (names : List MatchName) → none ≡ [] → (names_parts none ++ names) ≡ names
none_before none names e = ap (λ l. names_parts l ++ names) e
