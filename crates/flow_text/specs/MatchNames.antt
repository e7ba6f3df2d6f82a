-- The variables that a match names, in the order of the text.
use Rattle.std.specs.Prelude.{List, [], ◌∷◌, ◌++◌, Bool, true, false, Option, Some}
use Rattle.text_parser.specs.TokenParts.{TokenParts, place_of}
use Rattle.flow_syntax.specs.Syntax.{NodeSyntax, named, ExprSyntax, CondNodeSyntax, compared, compared_signed, CondSyntax, EquationSyntax, equation, BlockMatchSyntax}
use Rattle.flow_text.specs.declared.meaning.Meaning.{Meaning}
use Rattle.flow_text.specs.declared.meaning.Meaning.TheVariants.{Variable}
use Rattle.flow_text.specs.declared.match_names.MatchPart.{MatchPart}
use Rattle.flow_text.specs.declared.match_names.MatchPart.TheVariants.{Where, Back, Keeping, If}
use Rattle.flow_text.specs.Matches.{MatchName}
use Rattle.flow_text.specs.Scopes.{ScopeParts, meaning_in}

-- a name with this meaning: only those of variables are listed
abbrev pub names_meant : MatchPart → Bool → TokenParts → Option Meaning → List MatchName
names_meant part is_set t (Some (Variable k)) = record { variable = k; part = part; is_set = is_set; at = place_of t } ∷ []
names_meant part is_set t other = []

abbrev pub names_of_token : ScopeParts → MatchPart → Bool → TokenParts → List MatchName
names_of_token s part is_set t = names_meant part is_set t (meaning_in s t)

abbrev pub names_of_node : ScopeParts → MatchPart → NodeSyntax → List MatchName
names_of_node s part (named t) = names_of_token s part false t
names_of_node s part other = []

abbrev pub names_of_expression : ScopeParts → MatchPart → ExprSyntax → List MatchName
names_of_expression s part [] = []
names_of_expression s part (n ∷ ns) = names_of_node s part n ++ names_of_expression s part ns

-- an equation sets its variable and reads those in its expression
abbrev pub names_of_equation : ScopeParts → MatchPart → EquationSyntax → List MatchName
names_of_equation s part (equation y e) = names_of_token s part true y ++ names_of_expression s part e

abbrev pub names_of_equations : ScopeParts → MatchPart → List EquationSyntax → List MatchName
names_of_equations s part [] = []
names_of_equations s part (q ∷ qs) = names_of_equation s part q ++ names_of_equations s part qs

abbrev pub names_of_cond_node : ScopeParts → CondNodeSyntax → List MatchName
names_of_cond_node s (compared relation e f) = names_of_expression s If e ++ names_of_expression s If f
names_of_cond_node s (compared_signed word e f) = names_of_expression s If e ++ names_of_expression s If f
names_of_cond_node s other = []

abbrev pub names_of_condition : ScopeParts → CondSyntax → List MatchName
names_of_condition s [] = []
names_of_condition s (n ∷ ns) = names_of_cond_node s n ++ names_of_condition s ns

abbrev pub names_of_match : ScopeParts → BlockMatchSyntax → List MatchName
names_of_match s m =
    ((names_of_equations s Where m.forth ++ names_of_equations s Back m.back) ++ names_of_equations s Keeping m.keeping)
    ++ names_of_condition s m.condition
