-- The rules by which plain texts are read.
use Rattle.std.specs.Prelude.{◌≡◌, ℕ, List, [], ◌∷◌, ◌++◌, true, false, nat_eq, refl}
use Rattle.flow_syntax.specs.declared.rule.TheConstants.{NUMBER, WIDE_NUMBER, OPEN_ROUND, CLOSE_ROUND}
use Rattle.flow_syntax.specs.declared.rule.Part.TheVariants.{Token, Opening, Closing, Phrase}
use Rattle.flow_syntax.specs.declared.rule.Start.TheVariants.{Take, Open, Otherwise}
use Rattle.flow_syntax.specs.declared.phrase.TheConstants.{FILE, NAMES, MORE_NAMES, SORT_NAME, PARAMETERS, MORE_SORTS, FIRST_BLOCK, MORE_BLOCKS, BODY, RESULTS, CONDITION, MORE_CONJUNCTIONS, CONJUNCTION, MORE_LITERALS, LITERAL, RELATION, EXPRESSION, MORE_SUMMANDS, PRODUCT, MORE_FACTORS, FACTOR, CALL, ARGUMENTS, MORE_EXPRESSIONS}
use Rattle.flow_syntax.specs.declared.terminal.TheConstants.{ABORT, AND, ASSERT, BANG, BECOMES, BLOCK, COMMA, CURLY_CLOSE, CURLY_OPEN, CUT, ELSE, EQ, EQUAL, FALSE, FUN, GE, GOTO, GRAPH, GT, IF, LE, LT, MINUS, NAME, NE, OR, PLUS, RETURN, ROUNDS, S16, S32, S64, S8, SEMICOLON, SGE, SGT, SLE, SLT, SORT, SPLIT, STAR, TRUE, U16, U32, U64, U8, VAR}
use Rattle.flow_syntax.specs.Syntax.{a_block, abort, always, assign, both, branch, claim, compared, compared_signed, converted, either, equal, function, goto, graph, negation, never, numeral, return, rounds, sorts, split, variables}
use Rattle.flow_syntax.specs.Actions.{ValueSyntax, blocks, blocks_in, body, call_of, cond, cond_in, expr, expr_in, exprs, exprs_in, fifth, first, first_name, fourth, items, items_in, joined, jump_in, linked, no_call, operands_in, operations, operators_in, past_five, past_four, past_seven, past_six, past_three, past_two, rest, second, seventh, sixth, statements_in, third, token_in, tokens, tokens_in}
use Rattle.flow_syntax.specs.Productions.{rules, productions, listed_actions}
use Rattle.flow_plain.proofs.Steps.{IsRule, IsOnlyRule}

-- ---- what the rules make of the values of their parts

abbrev pub by_keep : List ValueSyntax → List ValueSyntax
by_keep vs = vs

abbrev pub by_no_tokens : List ValueSyntax → List ValueSyntax
by_no_tokens vs = tokens [] ∷ vs

abbrev pub by_one_token : List ValueSyntax → List ValueSyntax
by_one_token vs = tokens (token_in (first vs) ∷ tokens_in (second vs)) ∷ past_two vs

abbrev pub by_next_token : List ValueSyntax → List ValueSyntax
by_next_token vs = tokens (token_in (second vs) ∷ tokens_in (third vs)) ∷ past_three vs

abbrev pub by_no_parameters : List ValueSyntax → List ValueSyntax
by_no_parameters vs = tokens [] ∷ rest vs

abbrev pub by_some_parameters : List ValueSyntax → List ValueSyntax
by_some_parameters vs = tokens (token_in (first vs) ∷ tokens_in (second vs)) ∷ past_three vs

abbrev pub by_no_exprs : List ValueSyntax → List ValueSyntax
by_no_exprs vs = exprs [] ∷ vs

abbrev pub by_next_expr : List ValueSyntax → List ValueSyntax
by_next_expr vs = exprs (expr_in (second vs) ∷ exprs_in (third vs)) ∷ past_three vs

abbrev pub by_ended_at_once : List ValueSyntax → List ValueSyntax
by_ended_at_once vs = exprs [] ∷ rest vs

abbrev pub by_ended_list : List ValueSyntax → List ValueSyntax
by_ended_list vs = exprs (expr_in (first vs) ∷ exprs_in (second vs)) ∷ past_three vs

abbrev pub by_no_operations : List ValueSyntax → List ValueSyntax
by_no_operations vs = operations [] [] ∷ vs

abbrev pub by_next_operation : List ValueSyntax → List ValueSyntax
by_next_operation vs = operations (token_in (first vs) ∷ operators_in (third vs)) (expr_in (second vs) ++ operands_in (third vs)) ∷ past_three vs

abbrev pub by_join : List ValueSyntax → List ValueSyntax
by_join vs = expr (joined (operators_in (second vs)) (expr_in (first vs) ++ operands_in (second vs))) ∷ past_two vs

abbrev pub by_numeral : List ValueSyntax → List ValueSyntax
by_numeral vs = expr (numeral (token_in (first vs)) ∷ []) ∷ rest vs

abbrev pub by_name_or_call : List ValueSyntax → List ValueSyntax
by_name_or_call vs = expr (call_of (token_in (first vs)) (second vs)) ∷ past_two vs

abbrev pub by_call_nothing : List ValueSyntax → List ValueSyntax
by_call_nothing vs = no_call ∷ vs

abbrev pub by_call_list : List ValueSyntax → List ValueSyntax
by_call_list vs = exprs (exprs_in (second vs)) ∷ past_two vs

abbrev pub by_convert : List ValueSyntax → List ValueSyntax
by_convert vs = expr (converted (token_in (first vs)) (first_name (expr_in (third vs))) ∷ expr_in (third vs)) ∷ past_four vs

abbrev pub by_enclosed_expr : List ValueSyntax → List ValueSyntax
by_enclosed_expr vs = expr (expr_in (second vs)) ∷ past_three vs

abbrev pub by_no_conds : List ValueSyntax → List ValueSyntax
by_no_conds vs = cond [] ∷ vs

abbrev pub by_next_any : List ValueSyntax → List ValueSyntax
by_next_any vs = cond (linked either (cond_in (second vs)) (cond_in (third vs))) ∷ past_three vs

abbrev pub by_next_all : List ValueSyntax → List ValueSyntax
by_next_all vs = cond (linked both (cond_in (second vs)) (cond_in (third vs))) ∷ past_three vs

abbrev pub by_any : List ValueSyntax → List ValueSyntax
by_any vs = cond (linked either (cond_in (first vs)) (cond_in (second vs))) ∷ past_two vs

abbrev pub by_all : List ValueSyntax → List ValueSyntax
by_all vs = cond (linked both (cond_in (first vs)) (cond_in (second vs))) ∷ past_two vs

abbrev pub by_true_cond : List ValueSyntax → List ValueSyntax
by_true_cond vs = cond (always ∷ []) ∷ rest vs

abbrev pub by_false_cond : List ValueSyntax → List ValueSyntax
by_false_cond vs = cond (never ∷ []) ∷ rest vs

abbrev pub by_negate : List ValueSyntax → List ValueSyntax
by_negate vs = cond (negation ∷ cond_in (second vs)) ∷ past_two vs

abbrev pub by_enclosed_cond : List ValueSyntax → List ValueSyntax
by_enclosed_cond vs = cond (cond_in (second vs)) ∷ past_three vs

abbrev pub by_compare : List ValueSyntax → List ValueSyntax
by_compare vs = cond (compared (token_in (second vs)) (expr_in (first vs)) (expr_in (third vs)) ∷ []) ∷ past_three vs

abbrev pub by_compare_signed : List ValueSyntax → List ValueSyntax
by_compare_signed vs = cond (compared_signed (token_in (first vs)) (expr_in (third vs)) (expr_in (fifth vs)) ∷ []) ∷ past_six vs

abbrev pub by_assigning : List ValueSyntax → List ValueSyntax
by_assigning vs = body (assign (token_in (first vs) ∷ tokens_in (second vs)) (token_in (third vs)) (expr_in (fourth vs) ∷ exprs_in (fifth vs)) ∷ statements_in (seventh vs)) (jump_in (seventh vs)) ∷ past_seven vs

abbrev pub by_asserting : List ValueSyntax → List ValueSyntax
by_asserting vs = body (claim (cond_in (second vs)) ∷ statements_in (fourth vs)) (jump_in (fourth vs)) ∷ past_four vs

abbrev pub by_going : List ValueSyntax → List ValueSyntax
by_going vs = body [] (goto (token_in (second vs))) ∷ past_three vs

abbrev pub by_branching : List ValueSyntax → List ValueSyntax
by_branching vs = body [] (branch (cond_in (second vs)) (token_in (fourth vs)) (token_in (sixth vs))) ∷ past_seven vs

abbrev pub by_returning : List ValueSyntax → List ValueSyntax
by_returning vs = body [] (return (token_in (first vs)) (exprs_in (second vs))) ∷ past_two vs

abbrev pub by_aborting : List ValueSyntax → List ValueSyntax
by_aborting vs = body [] abort ∷ past_two vs

abbrev pub by_cut_block : List ValueSyntax → List ValueSyntax
by_cut_block vs = blocks (a_block true (token_in (third vs)) (statements_in (fifth vs)) (jump_in (fifth vs)) ∷ []) ∷ past_six vs

abbrev pub by_plain_block : List ValueSyntax → List ValueSyntax
by_plain_block vs = blocks (a_block false (token_in (second vs)) (statements_in (fourth vs)) (jump_in (fourth vs)) ∷ []) ∷ past_five vs

abbrev pub by_no_blocks : List ValueSyntax → List ValueSyntax
by_no_blocks vs = blocks [] ∷ vs

abbrev pub by_next_cut_block : List ValueSyntax → List ValueSyntax
by_next_cut_block vs = blocks (a_block true (token_in (third vs)) (statements_in (fifth vs)) (jump_in (fifth vs)) ∷ blocks_in (seventh vs)) ∷ past_seven vs

abbrev pub by_next_plain_block : List ValueSyntax → List ValueSyntax
by_next_plain_block vs = blocks (a_block false (token_in (second vs)) (statements_in (fourth vs)) (jump_in (fourth vs)) ∷ blocks_in (sixth vs)) ∷ past_six vs

abbrev pub by_sorts_item : List ValueSyntax → List ValueSyntax
by_sorts_item vs = items (sorts (token_in (first vs)) (tokens_in (second vs)) ∷ items_in (fourth vs)) ∷ past_four vs

abbrev pub by_function_item : List ValueSyntax → List ValueSyntax
by_function_item vs = items (function (token_in (first vs)) (token_in (second vs)) (token_in (third vs)) (tokens_in (fifth vs)) ∷ items_in (seventh vs)) ∷ past_seven vs

abbrev pub by_variables_item : List ValueSyntax → List ValueSyntax
by_variables_item vs = items (variables (token_in (first vs)) (token_in (second vs)) (tokens_in (third vs)) ∷ items_in (fifth vs)) ∷ past_five vs

abbrev pub by_graph_item : List ValueSyntax → List ValueSyntax
by_graph_item vs = items (graph (token_in (first vs)) (token_in (second vs)) (blocks_in (fourth vs) ++ blocks_in (fifth vs)) ∷ items_in (seventh vs)) ∷ past_seven vs

abbrev pub by_rounds_item : List ValueSyntax → List ValueSyntax
by_rounds_item vs = items (rounds (token_in (first vs)) (token_in (second vs)) ∷ items_in (fourth vs)) ∷ past_four vs

abbrev pub by_split_item : List ValueSyntax → List ValueSyntax
by_split_item vs = items (split (token_in (first vs)) ∷ items_in (third vs)) ∷ past_three vs

abbrev pub by_equal_item : List ValueSyntax → List ValueSyntax
by_equal_item vs = items (equal (token_in (first vs)) (token_in (second vs)) (token_in (fourth vs)) ∷ items_in (sixth vs)) ∷ past_six vs

abbrev pub by_no_items : List ValueSyntax → List ValueSyntax
by_no_items vs = items [] ∷ vs

-- ---- items

pub sort_rule : IsRule FILE SORT 0 (Take SORT) (Phrase NAMES ∷ Token SEMICOLON ∷ Phrase FILE ∷ []) by_sorts_item
unfolding rules productions listed_actions
sort_rule = record { chosen = λ m ms. refl; makes = λ vs. refl }

pub function_rule : IsRule FILE FUN 1 (Take FUN) (Phrase SORT_NAME ∷ Token NAME ∷ Opening OPEN_ROUND ∷ Phrase PARAMETERS ∷ Closing ∷ Token SEMICOLON ∷ Phrase FILE ∷ []) by_function_item
unfolding rules productions listed_actions
function_rule = record { chosen = λ m ms. refl; makes = λ vs. refl }

pub variable_rule : IsRule FILE VAR 2 (Take VAR) (Phrase SORT_NAME ∷ Phrase NAMES ∷ Token SEMICOLON ∷ Phrase FILE ∷ []) by_variables_item
unfolding rules productions listed_actions
variable_rule = record { chosen = λ m ms. refl; makes = λ vs. refl }

pub graph_rule : IsRule FILE GRAPH 3 (Take GRAPH) (Token NAME ∷ Opening CURLY_OPEN ∷ Phrase FIRST_BLOCK ∷ Phrase MORE_BLOCKS ∷ Token CURLY_CLOSE ∷ Closing ∷ Phrase FILE ∷ []) by_graph_item
unfolding rules productions listed_actions
graph_rule = record { chosen = λ m ms. refl; makes = λ vs. refl }

pub rounds_rule : IsRule FILE ROUNDS 4 (Take ROUNDS) (Token NUMBER ∷ Token SEMICOLON ∷ Phrase FILE ∷ []) by_rounds_item
unfolding rules productions listed_actions
rounds_rule = record { chosen = λ m ms. refl; makes = λ vs. refl }

pub split_rule : IsRule FILE SPLIT 5 (Take SPLIT) (Token SEMICOLON ∷ Phrase FILE ∷ []) by_split_item
unfolding rules productions listed_actions
split_rule = record { chosen = λ m ms. refl; makes = λ vs. refl }

pub equal_rule : IsRule FILE EQUAL 6 (Take EQUAL) (Token NAME ∷ Token COMMA ∷ Token NAME ∷ Token SEMICOLON ∷ Phrase FILE ∷ []) by_equal_item
unfolding rules productions listed_actions
equal_rule = record { chosen = λ m ms. refl; makes = λ vs. refl }

pub names_rule : IsRule NAMES NAME 9 (Take NAME) (Phrase MORE_NAMES ∷ []) by_one_token
unfolding rules productions listed_actions
names_rule = record { chosen = λ m ms. refl; makes = λ vs. refl }

pub more_names_rule : IsRule MORE_NAMES COMMA 10 (Take COMMA) (Token NAME ∷ Phrase MORE_NAMES ∷ []) by_next_token
unfolding rules productions listed_actions
more_names_rule = record { chosen = λ m ms. refl; makes = λ vs. refl }

pub no_names_rule : IsRule MORE_NAMES SEMICOLON 11 Otherwise ([]) by_no_tokens
unfolding rules productions listed_actions
no_names_rule = record { chosen = λ m ms. refl; makes = λ vs. refl }

pub no_targets_rule : IsRule MORE_NAMES BECOMES 11 Otherwise ([]) by_no_tokens
unfolding rules productions listed_actions
no_targets_rule = record { chosen = λ m ms. refl; makes = λ vs. refl }

pub sort_u8_rule : IsRule SORT_NAME U8 12 (Take U8) ([]) by_keep
unfolding rules productions listed_actions
sort_u8_rule = record { chosen = λ m ms. refl; makes = λ vs. refl }

pub sort_u16_rule : IsRule SORT_NAME U16 13 (Take U16) ([]) by_keep
unfolding rules productions listed_actions
sort_u16_rule = record { chosen = λ m ms. refl; makes = λ vs. refl }

pub sort_u32_rule : IsRule SORT_NAME U32 14 (Take U32) ([]) by_keep
unfolding rules productions listed_actions
sort_u32_rule = record { chosen = λ m ms. refl; makes = λ vs. refl }

pub sort_u64_rule : IsRule SORT_NAME U64 15 (Take U64) ([]) by_keep
unfolding rules productions listed_actions
sort_u64_rule = record { chosen = λ m ms. refl; makes = λ vs. refl }

pub sort_name_rule : IsRule SORT_NAME NAME 16 (Take NAME) ([]) by_keep
unfolding rules productions listed_actions
sort_name_rule = record { chosen = λ m ms. refl; makes = λ vs. refl }

pub no_parameters_rule : IsRule PARAMETERS CLOSE_ROUND 17 (Take CLOSE_ROUND) ([]) by_no_parameters
unfolding rules productions listed_actions
no_parameters_rule = record { chosen = λ m ms. refl; makes = λ vs. refl }

pub parameters_rule : (x : ℕ) → nat_eq x WIDE_NUMBER ≡ false → nat_eq x CLOSE_ROUND ≡ false → IsRule PARAMETERS x 18 Otherwise (Phrase SORT_NAME ∷ Phrase MORE_SORTS ∷ Token CLOSE_ROUND ∷ []) by_some_parameters
unfolding rules productions listed_actions
parameters_rule x e0 e1 = record { chosen = λ m ms. rw (e0, e1) refl; makes = λ vs. refl }

pub more_sorts_rule : IsRule MORE_SORTS COMMA 19 (Take COMMA) (Phrase SORT_NAME ∷ Phrase MORE_SORTS ∷ []) by_next_token
unfolding rules productions listed_actions
more_sorts_rule = record { chosen = λ m ms. refl; makes = λ vs. refl }

pub no_sorts_rule : IsRule MORE_SORTS CLOSE_ROUND 20 Otherwise ([]) by_no_tokens
unfolding rules productions listed_actions
no_sorts_rule = record { chosen = λ m ms. refl; makes = λ vs. refl }

-- ---- blocks

pub cut_rule : IsRule FIRST_BLOCK CUT 21 (Take CUT) (Token BLOCK ∷ Token NAME ∷ Opening CURLY_OPEN ∷ Phrase BODY ∷ Token CURLY_CLOSE ∷ Closing ∷ []) by_cut_block
unfolding rules productions listed_actions
cut_rule = record { chosen = λ m ms. refl; makes = λ vs. refl }

pub block_rule : IsRule FIRST_BLOCK BLOCK 22 (Take BLOCK) (Token NAME ∷ Opening CURLY_OPEN ∷ Phrase BODY ∷ Token CURLY_CLOSE ∷ Closing ∷ []) by_plain_block
unfolding rules productions listed_actions
block_rule = record { chosen = λ m ms. refl; makes = λ vs. refl }

pub next_cut_rule : IsRule MORE_BLOCKS CUT 23 (Take CUT) (Token BLOCK ∷ Token NAME ∷ Opening CURLY_OPEN ∷ Phrase BODY ∷ Token CURLY_CLOSE ∷ Closing ∷ Phrase MORE_BLOCKS ∷ []) by_next_cut_block
unfolding rules productions listed_actions
next_cut_rule = record { chosen = λ m ms. refl; makes = λ vs. refl }

pub next_block_rule : IsRule MORE_BLOCKS BLOCK 24 (Take BLOCK) (Token NAME ∷ Opening CURLY_OPEN ∷ Phrase BODY ∷ Token CURLY_CLOSE ∷ Closing ∷ Phrase MORE_BLOCKS ∷ []) by_next_plain_block
unfolding rules productions listed_actions
next_block_rule = record { chosen = λ m ms. refl; makes = λ vs. refl }

pub no_blocks_rule : IsRule MORE_BLOCKS CURLY_CLOSE 25 Otherwise ([]) by_no_blocks
unfolding rules productions listed_actions
no_blocks_rule = record { chosen = λ m ms. refl; makes = λ vs. refl }

pub assign_rule : IsRule BODY NAME 26 (Take NAME) (Phrase MORE_NAMES ∷ Token BECOMES ∷ Phrase EXPRESSION ∷ Phrase MORE_EXPRESSIONS ∷ Token SEMICOLON ∷ Phrase BODY ∷ []) by_assigning
unfolding rules productions listed_actions
assign_rule = record { chosen = λ m ms. refl; makes = λ vs. refl }

pub assert_rule : IsRule BODY ASSERT 27 (Take ASSERT) (Phrase CONDITION ∷ Token SEMICOLON ∷ Phrase BODY ∷ []) by_asserting
unfolding rules productions listed_actions
assert_rule = record { chosen = λ m ms. refl; makes = λ vs. refl }

pub goto_rule : IsRule BODY GOTO 28 (Take GOTO) (Token NAME ∷ Token SEMICOLON ∷ []) by_going
unfolding rules productions listed_actions
goto_rule = record { chosen = λ m ms. refl; makes = λ vs. refl }

pub if_rule : IsRule BODY IF 29 (Take IF) (Phrase CONDITION ∷ Token GOTO ∷ Token NAME ∷ Token ELSE ∷ Token NAME ∷ Token SEMICOLON ∷ []) by_branching
unfolding rules productions listed_actions
if_rule = record { chosen = λ m ms. refl; makes = λ vs. refl }

pub return_rule : IsRule BODY RETURN 30 (Take RETURN) (Phrase RESULTS ∷ []) by_returning
unfolding rules productions listed_actions
return_rule = record { chosen = λ m ms. refl; makes = λ vs. refl }

pub abort_rule : IsRule BODY ABORT 31 (Take ABORT) (Token SEMICOLON ∷ []) by_aborting
unfolding rules productions listed_actions
abort_rule = record { chosen = λ m ms. refl; makes = λ vs. refl }

pub no_results_rule : IsRule RESULTS SEMICOLON 32 (Take SEMICOLON) ([]) by_ended_at_once
unfolding rules productions listed_actions
no_results_rule = record { chosen = λ m ms. refl; makes = λ vs. refl }

pub results_rule : (x : ℕ) → nat_eq x WIDE_NUMBER ≡ false → nat_eq x SEMICOLON ≡ false → IsRule RESULTS x 33 Otherwise (Phrase EXPRESSION ∷ Phrase MORE_EXPRESSIONS ∷ Token SEMICOLON ∷ []) by_ended_list
unfolding rules productions listed_actions
results_rule x e0 e1 = record { chosen = λ m ms. rw (e0, e1) refl; makes = λ vs. refl }

-- ---- conditions

pub condition_rule : IsOnlyRule CONDITION 34 (Phrase CONJUNCTION ∷ Phrase MORE_CONJUNCTIONS ∷ []) by_any
unfolding rules productions listed_actions
condition_rule = record { chosen = λ ms. refl; makes = λ vs. refl }

pub or_rule : IsRule MORE_CONJUNCTIONS OR 35 (Take OR) (Phrase CONJUNCTION ∷ Phrase MORE_CONJUNCTIONS ∷ []) by_next_any
unfolding rules productions listed_actions
or_rule = record { chosen = λ m ms. refl; makes = λ vs. refl }

pub no_or_rule : (x : ℕ) → nat_eq x WIDE_NUMBER ≡ false → nat_eq x OR ≡ false → IsRule MORE_CONJUNCTIONS x 36 Otherwise ([]) by_no_conds
unfolding rules productions listed_actions
no_or_rule x e0 e1 = record { chosen = λ m ms. rw (e0, e1) refl; makes = λ vs. refl }

pub conjunction_rule : IsOnlyRule CONJUNCTION 37 (Phrase LITERAL ∷ Phrase MORE_LITERALS ∷ []) by_all
unfolding rules productions listed_actions
conjunction_rule = record { chosen = λ ms. refl; makes = λ vs. refl }

pub and_rule : IsRule MORE_LITERALS AND 38 (Take AND) (Phrase LITERAL ∷ Phrase MORE_LITERALS ∷ []) by_next_all
unfolding rules productions listed_actions
and_rule = record { chosen = λ m ms. refl; makes = λ vs. refl }

pub no_and_rule : (x : ℕ) → nat_eq x WIDE_NUMBER ≡ false → nat_eq x AND ≡ false → IsRule MORE_LITERALS x 39 Otherwise ([]) by_no_conds
unfolding rules productions listed_actions
no_and_rule x e0 e1 = record { chosen = λ m ms. rw (e0, e1) refl; makes = λ vs. refl }

pub bang_rule : IsRule LITERAL BANG 40 (Open BANG) (Phrase LITERAL ∷ Closing ∷ []) by_negate
unfolding rules productions listed_actions
bang_rule = record { chosen = λ m ms. refl; makes = λ vs. refl }

pub true_rule : IsRule LITERAL TRUE 41 (Take TRUE) ([]) by_true_cond
unfolding rules productions listed_actions
true_rule = record { chosen = λ m ms. refl; makes = λ vs. refl }

pub false_rule : IsRule LITERAL FALSE 42 (Take FALSE) ([]) by_false_cond
unfolding rules productions listed_actions
false_rule = record { chosen = λ m ms. refl; makes = λ vs. refl }

pub slt_rule : IsRule LITERAL SLT 44 (Take SLT) (Opening OPEN_ROUND ∷ Phrase EXPRESSION ∷ Token COMMA ∷ Phrase EXPRESSION ∷ Token CLOSE_ROUND ∷ Closing ∷ []) by_compare_signed
unfolding rules productions listed_actions
slt_rule = record { chosen = λ m ms. refl; makes = λ vs. refl }

pub sle_rule : IsRule LITERAL SLE 45 (Take SLE) (Opening OPEN_ROUND ∷ Phrase EXPRESSION ∷ Token COMMA ∷ Phrase EXPRESSION ∷ Token CLOSE_ROUND ∷ Closing ∷ []) by_compare_signed
unfolding rules productions listed_actions
sle_rule = record { chosen = λ m ms. refl; makes = λ vs. refl }

pub sgt_rule : IsRule LITERAL SGT 46 (Take SGT) (Opening OPEN_ROUND ∷ Phrase EXPRESSION ∷ Token COMMA ∷ Phrase EXPRESSION ∷ Token CLOSE_ROUND ∷ Closing ∷ []) by_compare_signed
unfolding rules productions listed_actions
sgt_rule = record { chosen = λ m ms. refl; makes = λ vs. refl }

pub sge_rule : IsRule LITERAL SGE 47 (Take SGE) (Opening OPEN_ROUND ∷ Phrase EXPRESSION ∷ Token COMMA ∷ Phrase EXPRESSION ∷ Token CLOSE_ROUND ∷ Closing ∷ []) by_compare_signed
unfolding rules productions listed_actions
sge_rule = record { chosen = λ m ms. refl; makes = λ vs. refl }

pub compare_number_rule : IsRule LITERAL NUMBER 48 Otherwise (Phrase EXPRESSION ∷ Phrase RELATION ∷ Phrase EXPRESSION ∷ []) by_compare
unfolding rules productions listed_actions
compare_number_rule = record { chosen = λ m ms. refl; makes = λ vs. refl }

pub compare_name_rule : IsRule LITERAL NAME 48 Otherwise (Phrase EXPRESSION ∷ Phrase RELATION ∷ Phrase EXPRESSION ∷ []) by_compare
unfolding rules productions listed_actions
compare_name_rule = record { chosen = λ m ms. refl; makes = λ vs. refl }

pub compare_u8_rule : IsRule LITERAL U8 48 Otherwise (Phrase EXPRESSION ∷ Phrase RELATION ∷ Phrase EXPRESSION ∷ []) by_compare
unfolding rules productions listed_actions
compare_u8_rule = record { chosen = λ m ms. refl; makes = λ vs. refl }

pub compare_u16_rule : IsRule LITERAL U16 48 Otherwise (Phrase EXPRESSION ∷ Phrase RELATION ∷ Phrase EXPRESSION ∷ []) by_compare
unfolding rules productions listed_actions
compare_u16_rule = record { chosen = λ m ms. refl; makes = λ vs. refl }

pub compare_u32_rule : IsRule LITERAL U32 48 Otherwise (Phrase EXPRESSION ∷ Phrase RELATION ∷ Phrase EXPRESSION ∷ []) by_compare
unfolding rules productions listed_actions
compare_u32_rule = record { chosen = λ m ms. refl; makes = λ vs. refl }

pub compare_u64_rule : IsRule LITERAL U64 48 Otherwise (Phrase EXPRESSION ∷ Phrase RELATION ∷ Phrase EXPRESSION ∷ []) by_compare
unfolding rules productions listed_actions
compare_u64_rule = record { chosen = λ m ms. refl; makes = λ vs. refl }

pub compare_s8_rule : IsRule LITERAL S8 48 Otherwise (Phrase EXPRESSION ∷ Phrase RELATION ∷ Phrase EXPRESSION ∷ []) by_compare
unfolding rules productions listed_actions
compare_s8_rule = record { chosen = λ m ms. refl; makes = λ vs. refl }

pub compare_s16_rule : IsRule LITERAL S16 48 Otherwise (Phrase EXPRESSION ∷ Phrase RELATION ∷ Phrase EXPRESSION ∷ []) by_compare
unfolding rules productions listed_actions
compare_s16_rule = record { chosen = λ m ms. refl; makes = λ vs. refl }

pub compare_s32_rule : IsRule LITERAL S32 48 Otherwise (Phrase EXPRESSION ∷ Phrase RELATION ∷ Phrase EXPRESSION ∷ []) by_compare
unfolding rules productions listed_actions
compare_s32_rule = record { chosen = λ m ms. refl; makes = λ vs. refl }

pub compare_s64_rule : IsRule LITERAL S64 48 Otherwise (Phrase EXPRESSION ∷ Phrase RELATION ∷ Phrase EXPRESSION ∷ []) by_compare
unfolding rules productions listed_actions
compare_s64_rule = record { chosen = λ m ms. refl; makes = λ vs. refl }

pub eq_rule : IsRule RELATION EQ 49 (Take EQ) ([]) by_keep
unfolding rules productions listed_actions
eq_rule = record { chosen = λ m ms. refl; makes = λ vs. refl }

pub ne_rule : IsRule RELATION NE 50 (Take NE) ([]) by_keep
unfolding rules productions listed_actions
ne_rule = record { chosen = λ m ms. refl; makes = λ vs. refl }

pub lt_rule : IsRule RELATION LT 51 (Take LT) ([]) by_keep
unfolding rules productions listed_actions
lt_rule = record { chosen = λ m ms. refl; makes = λ vs. refl }

pub le_rule : IsRule RELATION LE 52 (Take LE) ([]) by_keep
unfolding rules productions listed_actions
le_rule = record { chosen = λ m ms. refl; makes = λ vs. refl }

pub gt_rule : IsRule RELATION GT 53 (Take GT) ([]) by_keep
unfolding rules productions listed_actions
gt_rule = record { chosen = λ m ms. refl; makes = λ vs. refl }

pub ge_rule : IsRule RELATION GE 54 (Take GE) ([]) by_keep
unfolding rules productions listed_actions
ge_rule = record { chosen = λ m ms. refl; makes = λ vs. refl }

-- ---- expressions

pub expression_rule : IsOnlyRule EXPRESSION 64 (Phrase PRODUCT ∷ Phrase MORE_SUMMANDS ∷ []) by_join
unfolding rules productions listed_actions
expression_rule = record { chosen = λ ms. refl; makes = λ vs. refl }

pub plus_rule : IsRule MORE_SUMMANDS PLUS 65 (Take PLUS) (Phrase PRODUCT ∷ Phrase MORE_SUMMANDS ∷ []) by_next_operation
unfolding rules productions listed_actions
plus_rule = record { chosen = λ m ms. refl; makes = λ vs. refl }

pub minus_rule : IsRule MORE_SUMMANDS MINUS 66 (Take MINUS) (Phrase PRODUCT ∷ Phrase MORE_SUMMANDS ∷ []) by_next_operation
unfolding rules productions listed_actions
minus_rule = record { chosen = λ m ms. refl; makes = λ vs. refl }

pub no_summands_rule : (x : ℕ) → nat_eq x WIDE_NUMBER ≡ false → nat_eq x PLUS ≡ false → nat_eq x MINUS ≡ false → IsRule MORE_SUMMANDS x 67 Otherwise ([]) by_no_operations
unfolding rules productions listed_actions
no_summands_rule x e0 e1 e2 = record { chosen = λ m ms. rw (e0, e1, e2) refl; makes = λ vs. refl }

pub product_rule : IsOnlyRule PRODUCT 68 (Phrase FACTOR ∷ Phrase MORE_FACTORS ∷ []) by_join
unfolding rules productions listed_actions
product_rule = record { chosen = λ ms. refl; makes = λ vs. refl }

pub times_rule : IsRule MORE_FACTORS STAR 69 (Take STAR) (Phrase FACTOR ∷ Phrase MORE_FACTORS ∷ []) by_next_operation
unfolding rules productions listed_actions
times_rule = record { chosen = λ m ms. refl; makes = λ vs. refl }

pub no_factors_rule : (x : ℕ) → nat_eq x WIDE_NUMBER ≡ false → nat_eq x STAR ≡ false → IsRule MORE_FACTORS x 70 Otherwise ([]) by_no_operations
unfolding rules productions listed_actions
no_factors_rule x e0 e1 = record { chosen = λ m ms. rw (e0, e1) refl; makes = λ vs. refl }

pub number_rule : IsRule FACTOR NUMBER 71 (Take NUMBER) ([]) by_numeral
unfolding rules productions listed_actions
number_rule = record { chosen = λ m ms. refl; makes = λ vs. refl }

pub name_rule : IsRule FACTOR NAME 72 (Take NAME) (Phrase CALL ∷ []) by_name_or_call
unfolding rules productions listed_actions
name_rule = record { chosen = λ m ms. refl; makes = λ vs. refl }

pub u8_rule : IsRule FACTOR U8 73 (Take U8) (Opening OPEN_ROUND ∷ Phrase EXPRESSION ∷ Token CLOSE_ROUND ∷ Closing ∷ []) by_convert
unfolding rules productions listed_actions
u8_rule = record { chosen = λ m ms. refl; makes = λ vs. refl }

pub u16_rule : IsRule FACTOR U16 74 (Take U16) (Opening OPEN_ROUND ∷ Phrase EXPRESSION ∷ Token CLOSE_ROUND ∷ Closing ∷ []) by_convert
unfolding rules productions listed_actions
u16_rule = record { chosen = λ m ms. refl; makes = λ vs. refl }

pub u32_rule : IsRule FACTOR U32 75 (Take U32) (Opening OPEN_ROUND ∷ Phrase EXPRESSION ∷ Token CLOSE_ROUND ∷ Closing ∷ []) by_convert
unfolding rules productions listed_actions
u32_rule = record { chosen = λ m ms. refl; makes = λ vs. refl }

pub u64_rule : IsRule FACTOR U64 76 (Take U64) (Opening OPEN_ROUND ∷ Phrase EXPRESSION ∷ Token CLOSE_ROUND ∷ Closing ∷ []) by_convert
unfolding rules productions listed_actions
u64_rule = record { chosen = λ m ms. refl; makes = λ vs. refl }

pub s8_rule : IsRule FACTOR S8 77 (Take S8) (Opening OPEN_ROUND ∷ Phrase EXPRESSION ∷ Token CLOSE_ROUND ∷ Closing ∷ []) by_convert
unfolding rules productions listed_actions
s8_rule = record { chosen = λ m ms. refl; makes = λ vs. refl }

pub s16_rule : IsRule FACTOR S16 78 (Take S16) (Opening OPEN_ROUND ∷ Phrase EXPRESSION ∷ Token CLOSE_ROUND ∷ Closing ∷ []) by_convert
unfolding rules productions listed_actions
s16_rule = record { chosen = λ m ms. refl; makes = λ vs. refl }

pub s32_rule : IsRule FACTOR S32 79 (Take S32) (Opening OPEN_ROUND ∷ Phrase EXPRESSION ∷ Token CLOSE_ROUND ∷ Closing ∷ []) by_convert
unfolding rules productions listed_actions
s32_rule = record { chosen = λ m ms. refl; makes = λ vs. refl }

pub s64_rule : IsRule FACTOR S64 80 (Take S64) (Opening OPEN_ROUND ∷ Phrase EXPRESSION ∷ Token CLOSE_ROUND ∷ Closing ∷ []) by_convert
unfolding rules productions listed_actions
s64_rule = record { chosen = λ m ms. refl; makes = λ vs. refl }

pub enclosed_rule : IsRule FACTOR OPEN_ROUND 81 (Open OPEN_ROUND) (Phrase EXPRESSION ∷ Token CLOSE_ROUND ∷ Closing ∷ []) by_enclosed_expr
unfolding rules productions listed_actions
enclosed_rule = record { chosen = λ m ms. refl; makes = λ vs. refl }

pub call_rule : IsRule CALL OPEN_ROUND 82 (Open OPEN_ROUND) (Phrase ARGUMENTS ∷ Closing ∷ []) by_call_list
unfolding rules productions listed_actions
call_rule = record { chosen = λ m ms. refl; makes = λ vs. refl }

pub no_call_rule : (x : ℕ) → nat_eq x WIDE_NUMBER ≡ false → nat_eq x OPEN_ROUND ≡ false → IsRule CALL x 83 Otherwise ([]) by_call_nothing
unfolding rules productions listed_actions
no_call_rule x e0 e1 = record { chosen = λ m ms. rw (e0, e1) refl; makes = λ vs. refl }

pub no_arguments_rule : IsRule ARGUMENTS CLOSE_ROUND 84 (Take CLOSE_ROUND) ([]) by_ended_at_once
unfolding rules productions listed_actions
no_arguments_rule = record { chosen = λ m ms. refl; makes = λ vs. refl }

pub arguments_rule : (x : ℕ) → nat_eq x WIDE_NUMBER ≡ false → nat_eq x CLOSE_ROUND ≡ false → IsRule ARGUMENTS x 85 Otherwise (Phrase EXPRESSION ∷ Phrase MORE_EXPRESSIONS ∷ Token CLOSE_ROUND ∷ []) by_ended_list
unfolding rules productions listed_actions
arguments_rule x e0 e1 = record { chosen = λ m ms. rw (e0, e1) refl; makes = λ vs. refl }

pub more_expressions_rule : IsRule MORE_EXPRESSIONS COMMA 86 (Take COMMA) (Phrase EXPRESSION ∷ Phrase MORE_EXPRESSIONS ∷ []) by_next_expr
unfolding rules productions listed_actions
more_expressions_rule = record { chosen = λ m ms. refl; makes = λ vs. refl }

pub no_expressions_rule : (x : ℕ) → nat_eq x WIDE_NUMBER ≡ false → nat_eq x COMMA ≡ false → IsRule MORE_EXPRESSIONS x 87 Otherwise ([]) by_no_exprs
unfolding rules productions listed_actions
no_expressions_rule x e0 e1 = record { chosen = λ m ms. rw (e0, e1) refl; makes = λ vs. refl }
