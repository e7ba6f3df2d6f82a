-- Lists and stacks with another member at the end, which is the first of what they spell.
use Rattle.std.proofs.Common.{◌≡◌, List, [], ◌∷◌, ◌++◌, refl}
use Rattle.std.specs.Prelude.{Vec}
use Rattle.std.specs.declared.alloc.Global.{Global}
use Rattle.text_parser.specs.declared.token.Token.{Token}
use Rattle.text_parser.specs.TokenParts.{parts_of_token}
use Rattle.flow_syntax.specs.declared.written.Node.{Node}
use Rattle.flow_syntax.specs.declared.written.CondNode.{CondNode}
use Rattle.flow_syntax.specs.declared.written.Statement.{Statement}
use Rattle.flow_syntax.specs.declared.written.Jump.{Jump}
use Rattle.flow_syntax.specs.declared.written.Block.{Block}
use Rattle.flow_syntax.specs.declared.written.Equation.{Equation}
use Rattle.flow_syntax.specs.declared.written.Match.{Match}
use Rattle.flow_syntax.specs.declared.written.Item.{Item}
use Rattle.flow_syntax.specs.declared.value.Value.{Value}
use Rattle.flow_syntax.specs.declared.value.Value.TheVariants as value
use Rattle.flow_syntax.specs.Actions.{token, tokens, expr, exprs, operations, no_call, cond, body, blocks, equations, a_match, items}
use Rattle.flow_syntax.specs.SyntaxViews.{tokens_syntax, node_syntax, expr_syntax, exprs_syntax, cond_node_syntax, cond_syntax, statement_syntax, statements_syntax, jump_syntax, block_syntax, blocks_syntax, equation_syntax, equations_syntax, match_syntax, item_syntax, items_syntax, value_syntax, stack_syntax}
use Rattle.flow_syntax.proofs.Reversed.{reversed_append}

pub stack_push : (vs : List Value) (v : Value) → stack_syntax (vs ++ v ∷ []) ≡ value_syntax v ∷ stack_syntax vs
unfolding stack_syntax
stack_push vs v = reversed_append value_syntax vs (v ∷ [])

pub stack_none : stack_syntax [] ≡ []
unfolding stack_syntax
stack_none = refl

pub tokens_push : (xs : List Token) (x : Token) → tokens_syntax (xs ++ x ∷ []) ≡ parts_of_token x ∷ tokens_syntax xs
unfolding tokens_syntax
tokens_push xs x = reversed_append parts_of_token xs (x ∷ [])

pub tokens_none : tokens_syntax [] ≡ []
unfolding tokens_syntax
tokens_none = refl

pub expr_push : (xs : List Node) (x : Node) → expr_syntax (xs ++ x ∷ []) ≡ node_syntax x ∷ expr_syntax xs
unfolding expr_syntax
expr_push xs x = reversed_append node_syntax xs (x ∷ [])

pub expr_none : expr_syntax [] ≡ []
unfolding expr_syntax
expr_none = refl

pub exprs_push : (xs : List (Vec Node Global)) (x : Vec Node Global) → exprs_syntax (xs ++ x ∷ []) ≡ expr_syntax x.items ∷ exprs_syntax xs
unfolding exprs_syntax
exprs_push xs x = reversed_append (λ (e : Vec Node Global). expr_syntax e.items) xs (x ∷ [])

pub exprs_none : exprs_syntax [] ≡ []
unfolding exprs_syntax
exprs_none = refl

pub cond_push : (xs : List CondNode) (x : CondNode) → cond_syntax (xs ++ x ∷ []) ≡ cond_node_syntax x ∷ cond_syntax xs
unfolding cond_syntax
cond_push xs x = reversed_append cond_node_syntax xs (x ∷ [])

pub cond_none : cond_syntax [] ≡ []
unfolding cond_syntax
cond_none = refl

pub statements_push : (xs : List Statement) (x : Statement) → statements_syntax (xs ++ x ∷ []) ≡ statement_syntax x ∷ statements_syntax xs
unfolding statements_syntax
statements_push xs x = reversed_append statement_syntax xs (x ∷ [])

pub statements_none : statements_syntax [] ≡ []
unfolding statements_syntax
statements_none = refl

pub blocks_push : (xs : List Block) (x : Block) → blocks_syntax (xs ++ x ∷ []) ≡ block_syntax x ∷ blocks_syntax xs
unfolding blocks_syntax
blocks_push xs x = reversed_append block_syntax xs (x ∷ [])

pub blocks_none : blocks_syntax [] ≡ []
unfolding blocks_syntax
blocks_none = refl

pub equations_push : (xs : List Equation) (x : Equation) → equations_syntax (xs ++ x ∷ []) ≡ equation_syntax x ∷ equations_syntax xs
unfolding equations_syntax
equations_push xs x = reversed_append equation_syntax xs (x ∷ [])

pub equations_none : equations_syntax [] ≡ []
unfolding equations_syntax
equations_none = refl

pub items_push : (xs : List Item) (x : Item) → items_syntax (xs ++ x ∷ []) ≡ item_syntax x ∷ items_syntax xs
unfolding items_syntax
items_push xs x = reversed_append item_syntax xs (x ∷ [])

pub items_none : items_syntax [] ≡ []
unfolding items_syntax
items_none = refl

-- ---- what values spell

pub token_value : (t : Token) → value_syntax (value.Token t) ≡ token (parts_of_token t)
unfolding value_syntax
token_value t = refl

pub no_call_value : value_syntax value.NoCall ≡ no_call
unfolding value_syntax
no_call_value = refl

pub tokens_value : (x : Vec Token Global) → value_syntax (value.Tokens x) ≡ tokens (tokens_syntax x.items)
unfolding value_syntax
tokens_value x = refl

pub expr_value : (x : Vec Node Global) → value_syntax (value.Expr x) ≡ expr (expr_syntax x.items)
unfolding value_syntax
expr_value x = refl

pub exprs_value : (x : Vec (Vec Node Global) Global) → value_syntax (value.Exprs x) ≡ exprs (exprs_syntax x.items)
unfolding value_syntax
exprs_value x = refl

pub cond_value : (x : Vec CondNode Global) → value_syntax (value.Cond x) ≡ cond (cond_syntax x.items)
unfolding value_syntax
cond_value x = refl

pub blocks_value : (x : Vec Block Global) → value_syntax (value.Blocks x) ≡ blocks (blocks_syntax x.items)
unfolding value_syntax
blocks_value x = refl

pub equations_value : (x : Vec Equation Global) → value_syntax (value.Equations x) ≡ equations (equations_syntax x.items)
unfolding value_syntax
equations_value x = refl

pub match_value : (m : Match) → value_syntax (value.Match m) ≡ a_match (match_syntax m)
unfolding value_syntax
match_value m = refl

pub items_value : (x : Vec Item Global) → value_syntax (value.Items x) ≡ items (items_syntax x.items)
unfolding value_syntax
items_value x = refl

pub operations_value : (x : Vec Token Global) (y : Vec Node Global) → value_syntax (value.Operations x y) ≡ operations (tokens_syntax x.items) (expr_syntax y.items)
unfolding value_syntax
operations_value x y = refl

pub body_value : (x : Vec Statement Global) (y : Jump) → value_syntax (value.Body x y) ≡ body (statements_syntax x.items) (jump_syntax y)
unfolding value_syntax
body_value x y = refl

pub ruleset pushes = (stack_push, stack_none, tokens_push, tokens_none, expr_push, expr_none, exprs_push, exprs_none, cond_push, cond_none, statements_push, statements_none, blocks_push, blocks_none, equations_push, equations_none, items_push, items_none, token_value, no_call_value, tokens_value, expr_value, exprs_value, operations_value, cond_value, body_value, blocks_value, equations_value, match_value, items_value)
