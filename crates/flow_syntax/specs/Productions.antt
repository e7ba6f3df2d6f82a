-- The grammar of flow files: for each phrase its productions, each with its action, in the order in which they are tried.
use Rattle.std.specs.Prelude.{ℕ, List, [], ◌∷◌, ◌++◌, map, Option, Some, None, slice_get}
use Rattle.flow_syntax.specs.declared.rule.TheConstants.{NUMBER, OPEN_ROUND, CLOSE_ROUND}
use Rattle.flow_syntax.specs.declared.rule.Part.TheVariants.{Token, Opening, Closing, Phrase}
use Rattle.flow_syntax.specs.declared.rule.Start.TheVariants.{Take, Open, Group, Otherwise}
use Rattle.flow_syntax.specs.Rules.{RuleParts, rule_parts}
use Rattle.flow_syntax.specs.Values.{Actions}
use Rattle.flow_syntax.specs.declared.phrase.TheConstants.{FILE, NAMES, MORE_NAMES, SORT_NAME, PARAMETERS, MORE_SORTS, FIRST_BLOCK, MORE_BLOCKS, BODY, RESULTS, CONDITION, MORE_CONJUNCTIONS, CONJUNCTION, MORE_LITERALS, LITERAL, RELATION, CONTINUES, EXPRESSION, MORE_SUMMANDS, PRODUCT, MORE_FACTORS, FACTOR, CALL, ARGUMENTS, MORE_EXPRESSIONS, MATCHED, WHERE_EQUATIONS, BACK_EQUATIONS, KEEPING_EQUATIONS, EQUATIONS, MORE_EQUATIONS, MATCH_CONDITION, MATCH_ROUNDS, MATCH_SPLIT}
use Rattle.flow_syntax.specs.declared.terminal.TheConstants.{ABORT, ALL_NAMES, AND, ASSERT, BACK, BANG, BECOMES, BLOCK, COMMA, CURLY_CLOSE, CURLY_OPEN, CUT, ELSE, EQ, EQUAL, FALSE, FUN, GE, GOTO, GRAPH, GT, IF, KEEPING, LE, LT, MATCH, MINUS, NAME, NE, OR, PLUS, RETURN, ROUNDS, S16, S32, S64, S8, SEMICOLON, SGE, SGT, SLE, SLT, SORT, SPLIT, STAR, TRUE, U16, U32, U64, U8, VAR, WHERE}
use Rattle.flow_syntax.specs.declared.action.Action.{Action}
use Rattle.flow_syntax.specs.declared.action.Action.TheVariants.{Names, Exprs, Conds, Bodies, Matches, Items}
use Rattle.flow_syntax.specs.declared.action.NameAction.TheVariants.{Keep, NoTokens, OneToken, NextToken, NoParameters, SomeParameters}
use Rattle.flow_syntax.specs.declared.action.ExprAction.TheVariants.{NoExprs, NextExpr, EndedAtOnce, EndedList, NoOperations, NextOperation, Join, Numeral, NameOrCall, CallNothing, CallList, Convert, EnclosedExpr}
use Rattle.flow_syntax.specs.declared.action.CondAction.TheVariants.{NoConds, NextAny, NextAll, Any, All, TrueCond, FalseCond, Negate, EnclosedCond, Compare, CompareSigned}
use Rattle.flow_syntax.specs.declared.action.BodyAction.TheVariants.{Assigning, Asserting, Going, Branching, Returning, Aborting, CutBlock, PlainBlock, NoBlocks, NextCutBlock, NextPlainBlock}
use Rattle.flow_syntax.specs.declared.action.MatchAction.TheVariants.{NoEquations, NextEquation, FirstEquation, GivenEquations, GivenCondition, GivenNumber, GivenWord, MatchNames, MatchBlocks}
use Rattle.flow_syntax.specs.declared.action.ItemAction.TheVariants.{NoItems, SortsItem, FunctionItem, VariablesItem, GraphItem, RoundsItem, SplitItem, EqualItem, MatchItem}
use Rattle.flow_syntax.specs.Actions.{ValueSyntax, token, done}

-- a production: its rule and its action
abbrev pub Production : Type 0
Production = RuleParts × Action

abbrev pub file_rules : List Production
file_rules =
    (rule_parts FILE (Take SORT) (Phrase NAMES ∷ Token SEMICOLON ∷ Phrase FILE ∷ []), Items SortsItem) ∷
    (rule_parts FILE (Take FUN) (Phrase SORT_NAME ∷ Token NAME ∷ Opening OPEN_ROUND ∷ Phrase PARAMETERS ∷ Closing ∷ Token SEMICOLON ∷ Phrase FILE ∷ []), Items FunctionItem) ∷
    (rule_parts FILE (Take VAR) (Phrase SORT_NAME ∷ Phrase NAMES ∷ Token SEMICOLON ∷ Phrase FILE ∷ []), Items VariablesItem) ∷
    (rule_parts FILE (Take GRAPH) (Token NAME ∷ Opening CURLY_OPEN ∷ Phrase FIRST_BLOCK ∷ Phrase MORE_BLOCKS ∷ Token CURLY_CLOSE ∷ Closing ∷ Phrase FILE ∷ []), Items GraphItem) ∷
    (rule_parts FILE (Take ROUNDS) (Token NUMBER ∷ Token SEMICOLON ∷ Phrase FILE ∷ []), Items RoundsItem) ∷
    (rule_parts FILE (Take SPLIT) (Token SEMICOLON ∷ Phrase FILE ∷ []), Items SplitItem) ∷
    (rule_parts FILE (Take EQUAL) (Token NAME ∷ Token COMMA ∷ Token NAME ∷ Token SEMICOLON ∷ Phrase FILE ∷ []), Items EqualItem) ∷
    (rule_parts FILE (Take MATCH) (Phrase MATCHED ∷ Phrase FILE ∷ []), Items MatchItem) ∷
    (rule_parts FILE Otherwise ([]), Items NoItems) ∷ []

abbrev pub names_rules : List Production
names_rules =
    (rule_parts NAMES (Take NAME) (Phrase MORE_NAMES ∷ []), Names OneToken) ∷ []

abbrev pub more_names_rules : List Production
more_names_rules =
    (rule_parts MORE_NAMES (Take COMMA) (Token NAME ∷ Phrase MORE_NAMES ∷ []), Names NextToken) ∷
    (rule_parts MORE_NAMES Otherwise ([]), Names NoTokens) ∷ []

abbrev pub sort_name_rules : List Production
sort_name_rules =
    (rule_parts SORT_NAME (Take U8) ([]), Names Keep) ∷
    (rule_parts SORT_NAME (Take U16) ([]), Names Keep) ∷
    (rule_parts SORT_NAME (Take U32) ([]), Names Keep) ∷
    (rule_parts SORT_NAME (Take U64) ([]), Names Keep) ∷
    (rule_parts SORT_NAME (Take NAME) ([]), Names Keep) ∷ []

abbrev pub parameters_rules : List Production
parameters_rules =
    (rule_parts PARAMETERS (Take CLOSE_ROUND) ([]), Names NoParameters) ∷
    (rule_parts PARAMETERS Otherwise (Phrase SORT_NAME ∷ Phrase MORE_SORTS ∷ Token CLOSE_ROUND ∷ []), Names SomeParameters) ∷ []

abbrev pub more_sorts_rules : List Production
more_sorts_rules =
    (rule_parts MORE_SORTS (Take COMMA) (Phrase SORT_NAME ∷ Phrase MORE_SORTS ∷ []), Names NextToken) ∷
    (rule_parts MORE_SORTS Otherwise ([]), Names NoTokens) ∷ []

abbrev pub first_block_rules : List Production
first_block_rules =
    (rule_parts FIRST_BLOCK (Take CUT) (Token BLOCK ∷ Token NAME ∷ Opening CURLY_OPEN ∷ Phrase BODY ∷ Token CURLY_CLOSE ∷ Closing ∷ []), Bodies CutBlock) ∷
    (rule_parts FIRST_BLOCK (Take BLOCK) (Token NAME ∷ Opening CURLY_OPEN ∷ Phrase BODY ∷ Token CURLY_CLOSE ∷ Closing ∷ []), Bodies PlainBlock) ∷ []

abbrev pub more_blocks_rules : List Production
more_blocks_rules =
    (rule_parts MORE_BLOCKS (Take CUT) (Token BLOCK ∷ Token NAME ∷ Opening CURLY_OPEN ∷ Phrase BODY ∷ Token CURLY_CLOSE ∷ Closing ∷ Phrase MORE_BLOCKS ∷ []), Bodies NextCutBlock) ∷
    (rule_parts MORE_BLOCKS (Take BLOCK) (Token NAME ∷ Opening CURLY_OPEN ∷ Phrase BODY ∷ Token CURLY_CLOSE ∷ Closing ∷ Phrase MORE_BLOCKS ∷ []), Bodies NextPlainBlock) ∷
    (rule_parts MORE_BLOCKS Otherwise ([]), Bodies NoBlocks) ∷ []

abbrev pub body_rules : List Production
body_rules =
    (rule_parts BODY (Take NAME) (Phrase MORE_NAMES ∷ Token BECOMES ∷ Phrase EXPRESSION ∷ Phrase MORE_EXPRESSIONS ∷ Token SEMICOLON ∷ Phrase BODY ∷ []), Bodies Assigning) ∷
    (rule_parts BODY (Take ASSERT) (Phrase CONDITION ∷ Token SEMICOLON ∷ Phrase BODY ∷ []), Bodies Asserting) ∷
    (rule_parts BODY (Take GOTO) (Token NAME ∷ Token SEMICOLON ∷ []), Bodies Going) ∷
    (rule_parts BODY (Take IF) (Phrase CONDITION ∷ Token GOTO ∷ Token NAME ∷ Token ELSE ∷ Token NAME ∷ Token SEMICOLON ∷ []), Bodies Branching) ∷
    (rule_parts BODY (Take RETURN) (Phrase RESULTS ∷ []), Bodies Returning) ∷
    (rule_parts BODY (Take ABORT) (Token SEMICOLON ∷ []), Bodies Aborting) ∷ []

abbrev pub results_rules : List Production
results_rules =
    (rule_parts RESULTS (Take SEMICOLON) ([]), Exprs EndedAtOnce) ∷
    (rule_parts RESULTS Otherwise (Phrase EXPRESSION ∷ Phrase MORE_EXPRESSIONS ∷ Token SEMICOLON ∷ []), Exprs EndedList) ∷ []

abbrev pub condition_rules : List Production
condition_rules =
    (rule_parts CONDITION Otherwise (Phrase CONJUNCTION ∷ Phrase MORE_CONJUNCTIONS ∷ []), Conds Any) ∷ []

abbrev pub more_conjunctions_rules : List Production
more_conjunctions_rules =
    (rule_parts MORE_CONJUNCTIONS (Take OR) (Phrase CONJUNCTION ∷ Phrase MORE_CONJUNCTIONS ∷ []), Conds NextAny) ∷
    (rule_parts MORE_CONJUNCTIONS Otherwise ([]), Conds NoConds) ∷ []

abbrev pub conjunction_rules : List Production
conjunction_rules =
    (rule_parts CONJUNCTION Otherwise (Phrase LITERAL ∷ Phrase MORE_LITERALS ∷ []), Conds All) ∷ []

abbrev pub more_literals_rules : List Production
more_literals_rules =
    (rule_parts MORE_LITERALS (Take AND) (Phrase LITERAL ∷ Phrase MORE_LITERALS ∷ []), Conds NextAll) ∷
    (rule_parts MORE_LITERALS Otherwise ([]), Conds NoConds) ∷ []

abbrev pub signed_comparison_rule : ℕ → RuleParts
signed_comparison_rule word = rule_parts LITERAL (Take word) (Opening OPEN_ROUND ∷ Phrase EXPRESSION ∷ Token COMMA ∷ Phrase EXPRESSION ∷ Token CLOSE_ROUND ∷ Closing ∷ [])

abbrev pub literal_rules : List Production
literal_rules =
    (rule_parts LITERAL (Open BANG) (Phrase LITERAL ∷ Closing ∷ []), Conds Negate) ∷
    (rule_parts LITERAL (Take TRUE) ([]), Conds TrueCond) ∷
    (rule_parts LITERAL (Take FALSE) ([]), Conds FalseCond) ∷
    (rule_parts LITERAL (Group CONTINUES) (Phrase CONDITION ∷ Token CLOSE_ROUND ∷ Closing ∷ []), Conds EnclosedCond) ∷
    (signed_comparison_rule SLT, Conds CompareSigned) ∷
    (signed_comparison_rule SLE, Conds CompareSigned) ∷
    (signed_comparison_rule SGT, Conds CompareSigned) ∷
    (signed_comparison_rule SGE, Conds CompareSigned) ∷
    (rule_parts LITERAL Otherwise (Phrase EXPRESSION ∷ Phrase RELATION ∷ Phrase EXPRESSION ∷ []), Conds Compare) ∷ []

abbrev pub relation_rules : List Production
relation_rules =
    (rule_parts RELATION (Take EQ) ([]), Names Keep) ∷
    (rule_parts RELATION (Take NE) ([]), Names Keep) ∷
    (rule_parts RELATION (Take LT) ([]), Names Keep) ∷
    (rule_parts RELATION (Take LE) ([]), Names Keep) ∷
    (rule_parts RELATION (Take GT) ([]), Names Keep) ∷
    (rule_parts RELATION (Take GE) ([]), Names Keep) ∷ []

abbrev pub continues_rules : List Production
continues_rules =
    (rule_parts CONTINUES (Take PLUS) ([]), Names Keep) ∷
    (rule_parts CONTINUES (Take MINUS) ([]), Names Keep) ∷
    (rule_parts CONTINUES (Take STAR) ([]), Names Keep) ∷
    (rule_parts CONTINUES (Take EQ) ([]), Names Keep) ∷
    (rule_parts CONTINUES (Take NE) ([]), Names Keep) ∷
    (rule_parts CONTINUES (Take LT) ([]), Names Keep) ∷
    (rule_parts CONTINUES (Take LE) ([]), Names Keep) ∷
    (rule_parts CONTINUES (Take GT) ([]), Names Keep) ∷
    (rule_parts CONTINUES (Take GE) ([]), Names Keep) ∷ []

abbrev pub expression_rules : List Production
expression_rules =
    (rule_parts EXPRESSION Otherwise (Phrase PRODUCT ∷ Phrase MORE_SUMMANDS ∷ []), Exprs Join) ∷ []

abbrev pub more_summands_rules : List Production
more_summands_rules =
    (rule_parts MORE_SUMMANDS (Take PLUS) (Phrase PRODUCT ∷ Phrase MORE_SUMMANDS ∷ []), Exprs NextOperation) ∷
    (rule_parts MORE_SUMMANDS (Take MINUS) (Phrase PRODUCT ∷ Phrase MORE_SUMMANDS ∷ []), Exprs NextOperation) ∷
    (rule_parts MORE_SUMMANDS Otherwise ([]), Exprs NoOperations) ∷ []

abbrev pub product_rules : List Production
product_rules =
    (rule_parts PRODUCT Otherwise (Phrase FACTOR ∷ Phrase MORE_FACTORS ∷ []), Exprs Join) ∷ []

abbrev pub more_factors_rules : List Production
more_factors_rules =
    (rule_parts MORE_FACTORS (Take STAR) (Phrase FACTOR ∷ Phrase MORE_FACTORS ∷ []), Exprs NextOperation) ∷
    (rule_parts MORE_FACTORS Otherwise ([]), Exprs NoOperations) ∷ []

abbrev pub conversion_rule : ℕ → RuleParts
conversion_rule word = rule_parts FACTOR (Take word) (Opening OPEN_ROUND ∷ Phrase EXPRESSION ∷ Token CLOSE_ROUND ∷ Closing ∷ [])

abbrev pub factor_rules : List Production
factor_rules =
    (rule_parts FACTOR (Take NUMBER) ([]), Exprs Numeral) ∷
    (rule_parts FACTOR (Take NAME) (Phrase CALL ∷ []), Exprs NameOrCall) ∷
    (conversion_rule U8, Exprs Convert) ∷
    (conversion_rule U16, Exprs Convert) ∷
    (conversion_rule U32, Exprs Convert) ∷
    (conversion_rule U64, Exprs Convert) ∷
    (conversion_rule S8, Exprs Convert) ∷
    (conversion_rule S16, Exprs Convert) ∷
    (conversion_rule S32, Exprs Convert) ∷
    (conversion_rule S64, Exprs Convert) ∷
    (rule_parts FACTOR (Open OPEN_ROUND) (Phrase EXPRESSION ∷ Token CLOSE_ROUND ∷ Closing ∷ []), Exprs EnclosedExpr) ∷ []

abbrev pub call_rules : List Production
call_rules =
    (rule_parts CALL (Open OPEN_ROUND) (Phrase ARGUMENTS ∷ Closing ∷ []), Exprs CallList) ∷
    (rule_parts CALL Otherwise ([]), Exprs CallNothing) ∷ []

abbrev pub arguments_rules : List Production
arguments_rules =
    (rule_parts ARGUMENTS (Take CLOSE_ROUND) ([]), Exprs EndedAtOnce) ∷
    (rule_parts ARGUMENTS Otherwise (Phrase EXPRESSION ∷ Phrase MORE_EXPRESSIONS ∷ Token CLOSE_ROUND ∷ []), Exprs EndedList) ∷ []

abbrev pub more_expressions_rules : List Production
more_expressions_rules =
    (rule_parts MORE_EXPRESSIONS (Take COMMA) (Phrase EXPRESSION ∷ Phrase MORE_EXPRESSIONS ∷ []), Exprs NextExpr) ∷
    (rule_parts MORE_EXPRESSIONS Otherwise ([]), Exprs NoExprs) ∷ []

abbrev pub matched_rules : List Production
matched_rules =
    (rule_parts MATCHED (Take ALL_NAMES) (Token SEMICOLON ∷ []), Matches MatchNames) ∷
    (rule_parts MATCHED (Take NAME) (Token COMMA ∷ Token NAME ∷ Phrase WHERE_EQUATIONS ∷ Phrase BACK_EQUATIONS ∷ Phrase KEEPING_EQUATIONS ∷ Phrase MATCH_CONDITION ∷ Phrase MATCH_ROUNDS ∷ Phrase MATCH_SPLIT ∷ Token SEMICOLON ∷ []), Matches MatchBlocks) ∷ []

-- the equations after a word, or none
abbrev pub given_equations_rules : ℕ → ℕ → List Production
given_equations_rules phrase word =
    (rule_parts phrase (Take word) (Phrase EQUATIONS ∷ []), Matches GivenEquations) ∷
    (rule_parts phrase Otherwise ([]), Matches NoEquations) ∷ []

abbrev pub equations_rules : List Production
equations_rules =
    (rule_parts EQUATIONS (Take NAME) (Token BECOMES ∷ Phrase EXPRESSION ∷ Phrase MORE_EQUATIONS ∷ []), Matches FirstEquation) ∷ []

abbrev pub more_equations_rules : List Production
more_equations_rules =
    (rule_parts MORE_EQUATIONS (Take COMMA) (Token NAME ∷ Token BECOMES ∷ Phrase EXPRESSION ∷ Phrase MORE_EQUATIONS ∷ []), Matches NextEquation) ∷
    (rule_parts MORE_EQUATIONS Otherwise ([]), Matches NoEquations) ∷ []

abbrev pub match_condition_rules : List Production
match_condition_rules =
    (rule_parts MATCH_CONDITION (Take IF) (Phrase CONDITION ∷ []), Matches GivenCondition) ∷
    (rule_parts MATCH_CONDITION Otherwise ([]), Conds NoConds) ∷ []

abbrev pub match_rounds_rules : List Production
match_rounds_rules =
    (rule_parts MATCH_ROUNDS (Take ROUNDS) (Token NUMBER ∷ []), Matches GivenNumber) ∷
    (rule_parts MATCH_ROUNDS Otherwise ([]), Names NoTokens) ∷ []

abbrev pub match_split_rules : List Production
match_split_rules =
    (rule_parts MATCH_SPLIT (Take SPLIT) ([]), Matches GivenWord) ∷
    (rule_parts MATCH_SPLIT Otherwise ([]), Names NoTokens) ∷ []

unfoldable pub productions : List Production
productions =
    file_rules
    ++ names_rules
    ++ more_names_rules
    ++ sort_name_rules
    ++ parameters_rules
    ++ more_sorts_rules
    ++ first_block_rules
    ++ more_blocks_rules
    ++ body_rules
    ++ results_rules
    ++ condition_rules
    ++ more_conjunctions_rules
    ++ conjunction_rules
    ++ more_literals_rules
    ++ literal_rules
    ++ relation_rules
    ++ continues_rules
    ++ expression_rules
    ++ more_summands_rules
    ++ product_rules
    ++ more_factors_rules
    ++ factor_rules
    ++ call_rules
    ++ arguments_rules
    ++ more_expressions_rules
    ++ matched_rules
    ++ given_equations_rules WHERE_EQUATIONS WHERE
    ++ given_equations_rules BACK_EQUATIONS BACK
    ++ given_equations_rules KEEPING_EQUATIONS KEEPING
    ++ equations_rules
    ++ more_equations_rules
    ++ match_condition_rules
    ++ match_rounds_rules
    ++ match_split_rules

abbrev pub rules_of : List Production → List RuleParts
rules_of ps = map (λ p. p.0) ps

-- the rules, in order
unfoldable pub rules : List RuleParts
rules =
    rules_of file_rules
    ++ rules_of names_rules
    ++ rules_of more_names_rules
    ++ rules_of sort_name_rules
    ++ rules_of parameters_rules
    ++ rules_of more_sorts_rules
    ++ rules_of first_block_rules
    ++ rules_of more_blocks_rules
    ++ rules_of body_rules
    ++ rules_of results_rules
    ++ rules_of condition_rules
    ++ rules_of more_conjunctions_rules
    ++ rules_of conjunction_rules
    ++ rules_of more_literals_rules
    ++ rules_of literal_rules
    ++ rules_of relation_rules
    ++ rules_of continues_rules
    ++ rules_of expression_rules
    ++ rules_of more_summands_rules
    ++ rules_of product_rules
    ++ rules_of more_factors_rules
    ++ rules_of factor_rules
    ++ rules_of call_rules
    ++ rules_of arguments_rules
    ++ rules_of more_expressions_rules
    ++ rules_of matched_rules
    ++ rules_of (given_equations_rules WHERE_EQUATIONS WHERE)
    ++ rules_of (given_equations_rules BACK_EQUATIONS BACK)
    ++ rules_of (given_equations_rules KEEPING_EQUATIONS KEEPING)
    ++ rules_of equations_rules
    ++ rules_of more_equations_rules
    ++ rules_of match_condition_rules
    ++ rules_of match_rounds_rules
    ++ rules_of match_split_rules

-- weights of the phrases, phrase 0 first, by which each reading ends
unfoldable pub weights : List ℕ
weights = 1 ∷ 1 ∷ 1 ∷ 1 ∷ 4 ∷ 1 ∷ 1 ∷ 1 ∷ 1 ∷ 8 ∷ 16 ∷ 1 ∷ 14 ∷ 1 ∷ 12 ∷ 1 ∷ 1 ∷ 5 ∷ 1 ∷ 3 ∷ 1 ∷ 1 ∷ 1 ∷ 8 ∷ 1 ∷ 1 ∷ 1 ∷ 1 ∷ 1 ∷ 1 ∷ 1 ∷ 1 ∷ 1 ∷ 1 ∷ []

-- the action of each rule, in order
unfoldable pub listed_actions : List Action
listed_actions = map (λ p. p.1) productions

abbrev pub act : Option Action → List ValueSyntax → List ValueSyntax
act None vs = vs
act (Some a) vs = done a vs

-- the value of a token is the token, and a rule has the action of its production
abbrev pub actions : Actions ValueSyntax
actions = record { leaf = token; apply = λ k. act (slice_get listed_actions k) }
