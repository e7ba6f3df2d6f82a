-- What each production makes of the values of its parts, the first part first.
use Rattle.std.specs.Prelude.{Bool, true, false, ℕ, List, [], ◌∷◌, ◌++◌, length, Option, Some, None}
use Rattle.text_parser.specs.declared.token.Kind.TheVariants as kind
use Rattle.text_parser.specs.TokenParts.{TokenParts, token_parts}
use Rattle.flow_syntax.specs.declared.action.Action.{Action}
use Rattle.flow_syntax.specs.declared.action.Action.TheVariants.{Names, Exprs, Conds, Bodies, Matches, Items}
use Rattle.flow_syntax.specs.declared.action.NameAction.{NameAction}
use Rattle.flow_syntax.specs.declared.action.NameAction.TheVariants.{Keep, NoTokens, OneToken, NextToken, NoParameters, SomeParameters}
use Rattle.flow_syntax.specs.declared.action.ExprAction.{ExprAction}
use Rattle.flow_syntax.specs.declared.action.ExprAction.TheVariants.{NoExprs, NextExpr, EndedAtOnce, EndedList, NoOperations, NextOperation, Join, Numeral, NameOrCall, CallNothing, CallList, Convert, EnclosedExpr}
use Rattle.flow_syntax.specs.declared.action.CondAction.{CondAction}
use Rattle.flow_syntax.specs.declared.action.CondAction.TheVariants.{NoConds, NextAny, NextAll, Any, All, TrueCond, FalseCond, Negate, EnclosedCond, Compare, CompareSigned}
use Rattle.flow_syntax.specs.declared.action.BodyAction.{BodyAction}
use Rattle.flow_syntax.specs.declared.action.BodyAction.TheVariants.{Assigning, Asserting, Going, Branching, Returning, Aborting, CutBlock, PlainBlock, NoBlocks, NextCutBlock, NextPlainBlock}
use Rattle.flow_syntax.specs.declared.action.MatchAction.{MatchAction}
use Rattle.flow_syntax.specs.declared.action.MatchAction.TheVariants.{NoEquations, NextEquation, FirstEquation, GivenEquations, GivenCondition, GivenNumber, GivenWord, MatchNames, MatchBlocks}
use Rattle.flow_syntax.specs.declared.action.ItemAction.{ItemAction}
use Rattle.flow_syntax.specs.declared.action.ItemAction.TheVariants.{NoItems, SortsItem, FunctionItem, VariablesItem, GraphItem, RoundsItem, SplitItem, EqualItem, MatchItem}
use Rattle.flow_syntax.specs.Syntax.{FirstSyntax, no_name, a_name, a_conversion, NodeSyntax, numeral, named, called, converted, operation, ExprSyntax, CondNodeSyntax, always, never, compared, compared_signed, negation, both, either, CondSyntax, StatementSyntax, assign, claim, JumpSyntax, goto, branch, return, abort, BlockSyntax, a_block, EquationSyntax, equation, MatchSyntax, same_names, two_blocks, ItemSyntax, sorts, function, variables, graph, rounds, split, equal, matching}

-- The value of a part. `operations` are operators and their second operands, joined, that follow a first operand. An
-- empty condition is the end of a list of them.
pub data ValueSyntax : Type 0 where
  token : (t : TokenParts) → ValueSyntax
  tokens : (ts : List TokenParts) → ValueSyntax
  expr : (e : ExprSyntax) → ValueSyntax
  exprs : (es : List ExprSyntax) → ValueSyntax
  operations : (operators : List TokenParts) → (operands : ExprSyntax) → ValueSyntax
  no_call : ValueSyntax
  cond : (b : CondSyntax) → ValueSyntax
  body : (statements : List StatementSyntax) → (jump : JumpSyntax) → ValueSyntax
  blocks : (bs : List BlockSyntax) → ValueSyntax
  equations : (qs : List EquationSyntax) → ValueSyntax
  a_match : (m : MatchSyntax) → ValueSyntax
  items : (is : List ItemSyntax) → ValueSyntax

-- ---- the values of the parts, which are at the front of the stack

abbrev pub first : List ValueSyntax → ValueSyntax
first [] = no_call
first (v ∷ vs) = v

abbrev pub rest : List ValueSyntax → List ValueSyntax
rest [] = []
rest (v ∷ vs) = vs

abbrev pub second : List ValueSyntax → ValueSyntax
second vs = first (rest vs)

abbrev pub third : List ValueSyntax → ValueSyntax
third vs = first (rest (rest vs))

abbrev pub fourth : List ValueSyntax → ValueSyntax
fourth vs = first (rest (rest (rest vs)))

abbrev pub fifth : List ValueSyntax → ValueSyntax
fifth vs = first (rest (rest (rest (rest vs))))

abbrev pub sixth : List ValueSyntax → ValueSyntax
sixth vs = first (rest (rest (rest (rest (rest vs)))))

abbrev pub seventh : List ValueSyntax → ValueSyntax
seventh vs = first (rest (rest (rest (rest (rest (rest vs))))))

abbrev pub eighth : List ValueSyntax → ValueSyntax
eighth vs = first (rest (rest (rest (rest (rest (rest (rest vs)))))))

abbrev pub ninth : List ValueSyntax → ValueSyntax
ninth vs = first (rest (rest (rest (rest (rest (rest (rest (rest vs))))))))

abbrev pub past_two : List ValueSyntax → List ValueSyntax
past_two vs = rest (rest vs)

abbrev pub past_three : List ValueSyntax → List ValueSyntax
past_three vs = rest (rest (rest vs))

abbrev pub past_four : List ValueSyntax → List ValueSyntax
past_four vs = rest (rest (rest (rest vs)))

abbrev pub past_five : List ValueSyntax → List ValueSyntax
past_five vs = rest (rest (rest (rest (rest vs))))

abbrev pub past_six : List ValueSyntax → List ValueSyntax
past_six vs = rest (rest (rest (rest (rest (rest vs)))))

abbrev pub past_seven : List ValueSyntax → List ValueSyntax
past_seven vs = rest (rest (rest (rest (rest (rest (rest vs))))))

abbrev pub past_ten : List ValueSyntax → List ValueSyntax
past_ten vs = rest (rest (rest (rest (rest (rest (rest (rest (rest (rest vs)))))))))

-- ---- what a value holds; the parts of a production always have the values that its action takes

abbrev pub no_token : TokenParts
no_token = token_parts kind.Name 0 []

abbrev pub token_in : ValueSyntax → TokenParts
token_in (token t) = t
token_in other = no_token

abbrev pub tokens_in : ValueSyntax → List TokenParts
tokens_in (tokens ts) = ts
tokens_in other = []

abbrev pub expr_in : ValueSyntax → ExprSyntax
expr_in (expr e) = e
expr_in other = []

abbrev pub exprs_in : ValueSyntax → List ExprSyntax
exprs_in (exprs es) = es
exprs_in other = []

abbrev pub operators_in : ValueSyntax → List TokenParts
operators_in (operations os es) = os
operators_in other = []

abbrev pub operands_in : ValueSyntax → ExprSyntax
operands_in (operations os es) = es
operands_in other = []

abbrev pub cond_in : ValueSyntax → CondSyntax
cond_in (cond b) = b
cond_in other = []

abbrev pub statements_in : ValueSyntax → List StatementSyntax
statements_in (body statements jump) = statements
statements_in other = []

abbrev pub jump_in : ValueSyntax → JumpSyntax
jump_in (body statements jump) = jump
jump_in other = abort

abbrev pub blocks_in : ValueSyntax → List BlockSyntax
blocks_in (blocks bs) = bs
blocks_in other = []

abbrev pub equations_in : ValueSyntax → List EquationSyntax
equations_in (equations qs) = qs
equations_in other = []

abbrev pub match_in : ValueSyntax → MatchSyntax
match_in (a_match m) = m
match_in other = same_names

abbrev pub items_in : ValueSyntax → List ItemSyntax
items_in (items is) = is
items_in other = []

-- ---- expressions and conditions

-- operations grouped to the left: `e o e1 p e2` is `p o e e1 e2` in Polish notation
abbrev pub joined : List TokenParts → ExprSyntax → ExprSyntax
joined [] e = e
joined (o ∷ os) e = joined os (operation o ∷ e)

abbrev pub all_nodes : List ExprSyntax → ExprSyntax
all_nodes [] = []
all_nodes (e ∷ es) = e ++ all_nodes es

abbrev pub is_no_call : ValueSyntax → Bool
is_no_call no_call = true
is_no_call v = false

-- a name, or a call with a number of arguments
abbrev pub call_node : TokenParts → Bool → ℕ → NodeSyntax
call_node t true count = named t
call_node t false count = called t count

-- a name, or its call with arguments
abbrev pub call_of : TokenParts → ValueSyntax → ExprSyntax
call_of t v = call_node t (is_no_call v) (length (exprs_in v)) ∷ all_nodes (exprs_in v)

-- the first name or conversion that a node is, if it is one
abbrev pub name_of : NodeSyntax → FirstSyntax
name_of (numeral t) = no_name
name_of (named t) = a_name t
name_of (called t n) = a_name t
name_of (converted word first) = a_conversion word
name_of (operation o) = no_name

-- the first of two, if there is one
abbrev pub first_of : FirstSyntax → FirstSyntax → FirstSyntax
first_of no_name y = y
first_of (a_name t) y = a_name t
first_of (a_conversion word) y = a_conversion word

abbrev pub first_name : ExprSyntax → FirstSyntax
first_name [] = no_name
first_name (n ∷ ns) = first_of (name_of n) (first_name ns)

-- a condition and those after it, joined by a node; an empty condition is none
abbrev pub linked : CondNodeSyntax → CondSyntax → CondSyntax → CondSyntax
linked node b [] = b
linked node b (n ∷ ns) = node ∷ b ++ (n ∷ ns)

-- the first token of a list, if there is one
abbrev pub given_token : List TokenParts → Option TokenParts
given_token [] = None
given_token (t ∷ ts) = Some t

abbrev pub is_given : Option TokenParts → Bool
is_given None = false
is_given (Some t) = true

-- ---- what an action makes of the stack

abbrev pub names_done : NameAction → List ValueSyntax → List ValueSyntax
names_done Keep vs = vs
names_done NoTokens vs = tokens [] ∷ vs
names_done OneToken vs = tokens (token_in (first vs) ∷ tokens_in (second vs)) ∷ past_two vs
names_done NextToken vs = tokens (token_in (second vs) ∷ tokens_in (third vs)) ∷ past_three vs
names_done NoParameters vs = tokens [] ∷ rest vs
names_done SomeParameters vs = tokens (token_in (first vs) ∷ tokens_in (second vs)) ∷ past_three vs

abbrev pub exprs_done : ExprAction → List ValueSyntax → List ValueSyntax
exprs_done NoExprs vs = exprs [] ∷ vs
exprs_done NextExpr vs = exprs (expr_in (second vs) ∷ exprs_in (third vs)) ∷ past_three vs
exprs_done EndedAtOnce vs = exprs [] ∷ rest vs
exprs_done EndedList vs = exprs (expr_in (first vs) ∷ exprs_in (second vs)) ∷ past_three vs
exprs_done NoOperations vs = operations [] [] ∷ vs
exprs_done NextOperation vs = operations (token_in (first vs) ∷ operators_in (third vs)) (expr_in (second vs) ++ operands_in (third vs)) ∷ past_three vs
exprs_done Join vs = expr (joined (operators_in (second vs)) (expr_in (first vs) ++ operands_in (second vs))) ∷ past_two vs
exprs_done Numeral vs = expr (numeral (token_in (first vs)) ∷ []) ∷ rest vs
exprs_done NameOrCall vs = expr (call_of (token_in (first vs)) (second vs)) ∷ past_two vs
exprs_done CallNothing vs = no_call ∷ vs
exprs_done CallList vs = exprs (exprs_in (second vs)) ∷ past_two vs
exprs_done Convert vs = expr (converted (token_in (first vs)) (first_name (expr_in (third vs))) ∷ expr_in (third vs)) ∷ past_four vs
exprs_done EnclosedExpr vs = expr (expr_in (second vs)) ∷ past_three vs

abbrev pub conds_done : CondAction → List ValueSyntax → List ValueSyntax
conds_done NoConds vs = cond [] ∷ vs
conds_done NextAny vs = cond (linked either (cond_in (second vs)) (cond_in (third vs))) ∷ past_three vs
conds_done NextAll vs = cond (linked both (cond_in (second vs)) (cond_in (third vs))) ∷ past_three vs
conds_done Any vs = cond (linked either (cond_in (first vs)) (cond_in (second vs))) ∷ past_two vs
conds_done All vs = cond (linked both (cond_in (first vs)) (cond_in (second vs))) ∷ past_two vs
conds_done TrueCond vs = cond (always ∷ []) ∷ rest vs
conds_done FalseCond vs = cond (never ∷ []) ∷ rest vs
conds_done Negate vs = cond (negation ∷ cond_in (second vs)) ∷ past_two vs
conds_done EnclosedCond vs = cond (cond_in (second vs)) ∷ past_three vs
conds_done Compare vs = cond (compared (token_in (second vs)) (expr_in (first vs)) (expr_in (third vs)) ∷ []) ∷ past_three vs
conds_done CompareSigned vs = cond (compared_signed (token_in (first vs)) (expr_in (third vs)) (expr_in (fifth vs)) ∷ []) ∷ past_six vs

abbrev pub bodies_done : BodyAction → List ValueSyntax → List ValueSyntax
bodies_done Assigning vs =
    body (assign (token_in (first vs) ∷ tokens_in (second vs)) (token_in (third vs)) (expr_in (fourth vs) ∷ exprs_in (fifth vs)) ∷ statements_in (seventh vs)) (jump_in (seventh vs))
    ∷ past_seven vs
bodies_done Asserting vs = body (claim (cond_in (second vs)) ∷ statements_in (fourth vs)) (jump_in (fourth vs)) ∷ past_four vs
bodies_done Going vs = body [] (goto (token_in (second vs))) ∷ past_three vs
bodies_done Branching vs = body [] (branch (cond_in (second vs)) (token_in (fourth vs)) (token_in (sixth vs))) ∷ past_seven vs
bodies_done Returning vs = body [] (return (token_in (first vs)) (exprs_in (second vs))) ∷ past_two vs
bodies_done Aborting vs = body [] abort ∷ past_two vs
bodies_done CutBlock vs = blocks (a_block true (token_in (third vs)) (statements_in (fifth vs)) (jump_in (fifth vs)) ∷ []) ∷ past_six vs
bodies_done PlainBlock vs = blocks (a_block false (token_in (second vs)) (statements_in (fourth vs)) (jump_in (fourth vs)) ∷ []) ∷ past_five vs
bodies_done NoBlocks vs = blocks [] ∷ vs
bodies_done NextCutBlock vs =
    blocks (a_block true (token_in (third vs)) (statements_in (fifth vs)) (jump_in (fifth vs)) ∷ blocks_in (seventh vs)) ∷ past_seven vs
bodies_done NextPlainBlock vs =
    blocks (a_block false (token_in (second vs)) (statements_in (fourth vs)) (jump_in (fourth vs)) ∷ blocks_in (sixth vs)) ∷ past_six vs

abbrev pub matches_done : MatchAction → List ValueSyntax → List ValueSyntax
matches_done NoEquations vs = equations [] ∷ vs
matches_done NextEquation vs = equations (equation (token_in (second vs)) (expr_in (fourth vs)) ∷ equations_in (fifth vs)) ∷ past_five vs
matches_done FirstEquation vs = equations (equation (token_in (first vs)) (expr_in (third vs)) ∷ equations_in (fourth vs)) ∷ past_four vs
matches_done GivenEquations vs = equations (equations_in (second vs)) ∷ past_two vs
matches_done GivenCondition vs = cond (cond_in (second vs)) ∷ past_two vs
matches_done GivenNumber vs = tokens (token_in (second vs) ∷ []) ∷ past_two vs
matches_done GivenWord vs = tokens (token_in (first vs) ∷ []) ∷ rest vs
matches_done MatchNames vs = a_match same_names ∷ past_two vs
matches_done MatchBlocks vs =
    a_match (two_blocks (record { before = token_in (first vs); after = token_in (third vs); forth = equations_in (fourth vs); back = equations_in (fifth vs); keeping = equations_in (sixth vs); condition = cond_in (seventh vs); rounds = given_token (tokens_in (eighth vs)); splits = is_given (given_token (tokens_in (ninth vs))) }))
    ∷ past_ten vs

abbrev pub items_done : ItemAction → List ValueSyntax → List ValueSyntax
items_done NoItems vs = items [] ∷ vs
items_done SortsItem vs = items (sorts (token_in (first vs)) (tokens_in (second vs)) ∷ items_in (fourth vs)) ∷ past_four vs
items_done FunctionItem vs =
    items (function (token_in (first vs)) (token_in (second vs)) (token_in (third vs)) (tokens_in (fifth vs)) ∷ items_in (seventh vs)) ∷ past_seven vs
items_done VariablesItem vs = items (variables (token_in (first vs)) (token_in (second vs)) (tokens_in (third vs)) ∷ items_in (fifth vs)) ∷ past_five vs
items_done GraphItem vs =
    items (graph (token_in (first vs)) (token_in (second vs)) (blocks_in (fourth vs) ++ blocks_in (fifth vs)) ∷ items_in (seventh vs)) ∷ past_seven vs
items_done RoundsItem vs = items (rounds (token_in (first vs)) (token_in (second vs)) ∷ items_in (fourth vs)) ∷ past_four vs
items_done SplitItem vs = items (split (token_in (first vs)) ∷ items_in (third vs)) ∷ past_three vs
items_done EqualItem vs = items (equal (token_in (first vs)) (token_in (second vs)) (token_in (fourth vs)) ∷ items_in (sixth vs)) ∷ past_six vs
items_done MatchItem vs = items (matching (token_in (first vs)) (match_in (second vs)) ∷ items_in (third vs)) ∷ past_three vs

abbrev pub done : Action → List ValueSyntax → List ValueSyntax
done (Names a) vs = names_done a vs
done (Exprs a) vs = exprs_done a vs
done (Conds a) vs = conds_done a vs
done (Bodies a) vs = bodies_done a vs
done (Matches a) vs = matches_done a vs
done (Items a) vs = items_done a vs
