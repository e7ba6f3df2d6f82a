-- What a function adds to the names of a match, and the names in values of the program.
use Rattle.std.specs.Prelude.{◌≡◌, List, ◌++◌, Bool, Option, Result, OnOk, Vec}
use Rattle.std.specs.declared.alloc.Global.{Global}
use Rattle.kat_model.specs.declared.tree.NoMemory.{NoMemory}
use Rattle.text_parser.specs.declared.token.Token.{Token}
use Rattle.text_parser.specs.TokenParts.{parts_of_token}
use Rattle.flow_syntax.specs.declared.written.Node.{Node}
use Rattle.flow_syntax.specs.declared.written.CondNode.{CondNode}
use Rattle.flow_syntax.specs.declared.written.Equation.{Equation}
use Rattle.flow_syntax.specs.declared.written.BlockMatch.{BlockMatch}
use Rattle.flow_syntax.specs.SyntaxViews.{node_syntax, expr_syntax, cond_node_syntax, cond_syntax, equation_syntax, equations_syntax, block_match_syntax}
use Rattle.flow_text.specs.declared.meaning.Meaning.{Meaning}
use Rattle.flow_text.specs.declared.match_names.MatchPart.{MatchPart}
use Rattle.flow_text.specs.declared.match_names.MatchPart.TheVariants.{If}
use Rattle.flow_text.specs.declared.match_names.MatchName.{MatchName as AMatchName}
use Rattle.flow_text.specs.declared.visible_names.VisibleNames.{VisibleNames}
use Rattle.flow_text.specs.Matches.{MatchName}
use Rattle.flow_text.specs.MatchNames.{names_meant, names_of_token, names_of_node, names_of_expression, names_of_equation, names_of_equations, names_of_cond_node, names_of_condition, names_of_match}
use Rattle.flow_text.specs.MatchViews.{names_parts}
use Rattle.flow_text.specs.ScopeViews.{sight_parts}

abbrev pub AddsNames : Result (Unit {0}) NoMemory → Vec AMatchName Global → Vec AMatchName Global → List MatchName → Type 0
AddsNames result old new names = OnOk result (names_parts new.items ≡ names_parts old.items ++ names)

abbrev pub meant_names : MatchPart → Bool → Token → Option Meaning → List MatchName
meant_names part is_set t meaning = names_meant part is_set (parts_of_token t) meaning

abbrev pub token_names : VisibleNames → MatchPart → Bool → Token → List MatchName
token_names visible part is_set t = names_of_token (sight_parts visible) part is_set (parts_of_token t)

abbrev pub node_names : VisibleNames → MatchPart → Node → List MatchName
node_names visible part n = names_of_node (sight_parts visible) part (node_syntax n)

abbrev pub expression_names : VisibleNames → MatchPart → List Node → List MatchName
expression_names visible part ns = names_of_expression (sight_parts visible) part (expr_syntax ns)

abbrev pub equation_names : VisibleNames → MatchPart → Equation → List MatchName
equation_names visible part q = names_of_equation (sight_parts visible) part (equation_syntax q)

abbrev pub equations_names : VisibleNames → MatchPart → List Equation → List MatchName
equations_names visible part qs = names_of_equations (sight_parts visible) part (equations_syntax qs)

abbrev pub names_of_sides : VisibleNames → List Node → List Node → List MatchName
names_of_sides visible left right = expression_names visible If left ++ expression_names visible If right

abbrev pub cond_node_names : VisibleNames → CondNode → List MatchName
cond_node_names visible n = names_of_cond_node (sight_parts visible) (cond_node_syntax n)

abbrev pub condition_names : VisibleNames → List CondNode → List MatchName
condition_names visible ns = names_of_condition (sight_parts visible) (cond_syntax ns)

abbrev pub match_names : VisibleNames → BlockMatch → List MatchName
match_names visible m = names_of_match (sight_parts visible) (block_match_syntax m)
