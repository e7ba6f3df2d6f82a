-- What a value holds, or does not.
use Rattle.std.proofs.Common.{◌≡◌, true, false, [], refl, sym, ap}
use Rattle.std.specs.Prelude.{Vec}
use Rattle.std.specs.declared.alloc.Global.{Global}
use Rattle.text_parser.specs.declared.token.Token.{Token}
use Rattle.text_parser.specs.TokenParts.{parts_of_token}
use Rattle.flow_syntax.specs.declared.written.Node.{Node}
use Rattle.flow_syntax.specs.declared.written.CondNode.{CondNode}
use Rattle.flow_syntax.specs.declared.written.Statement.{Statement}
use Rattle.flow_syntax.specs.declared.written.Jump.{Jump}
use Rattle.flow_syntax.specs.declared.written.Block.{Block}
use Rattle.flow_syntax.specs.declared.written.Equation.{Equation}
use Rattle.flow_syntax.specs.declared.written.Match.{Match}
use Rattle.flow_syntax.specs.declared.written.Item.{Item}
use Rattle.flow_syntax.specs.declared.value.Value.{Value}
use Rattle.flow_syntax.specs.declared.value.Value.TheVariants as value
use Rattle.flow_syntax.specs.Syntax.{abort, same_names}
use Rattle.flow_syntax.specs.Actions.{is_no_call, no_token, token_in, tokens_in, expr_in, exprs_in, operators_in, operands_in, cond_in, statements_in, jump_in, blocks_in, equations_in, match_in, items_in}
use Rattle.flow_syntax.specs.SyntaxViews.{tokens_syntax, expr_syntax, exprs_syntax, cond_syntax, statements_syntax, jump_syntax, blocks_syntax, equations_syntax, match_syntax, items_syntax, value_syntax}

pub token_held : (v : Value) (t : Token) → v ≡ value.Token t → parts_of_token t ≡ token_in (value_syntax v)
unfolding value_syntax
token_held v t e = ap (λ u. token_in (value_syntax u)) (sym e)

pub no_token_held : (v : Value) → ((t : Token) → v ≡ value.Token t → ⊥) → no_token ≡ token_in (value_syntax v)
unfolding value_syntax
no_token_held (value.Token t) h = absurd (h t refl)
no_token_held v h = refl

pub tokens_held : (v : Value) (x : Vec Token Global) → v ≡ value.Tokens x → tokens_syntax x.items ≡ tokens_in (value_syntax v)
unfolding value_syntax
tokens_held v x e = ap (λ u. tokens_in (value_syntax u)) (sym e)

pub no_tokens_held : (v : Value) → ((x : Vec Token Global) → v ≡ value.Tokens x → ⊥) → [] ≡ tokens_in (value_syntax v)
unfolding value_syntax
no_tokens_held (value.Tokens x) h = absurd (h x refl)
no_tokens_held v h = refl

pub expr_held : (v : Value) (x : Vec Node Global) → v ≡ value.Expr x → expr_syntax x.items ≡ expr_in (value_syntax v)
unfolding value_syntax
expr_held v x e = ap (λ u. expr_in (value_syntax u)) (sym e)

pub no_expr_held : (v : Value) → ((x : Vec Node Global) → v ≡ value.Expr x → ⊥) → [] ≡ expr_in (value_syntax v)
unfolding value_syntax
no_expr_held (value.Expr x) h = absurd (h x refl)
no_expr_held v h = refl

pub exprs_held : (v : Value) (x : Vec (Vec Node Global) Global) → v ≡ value.Exprs x → exprs_syntax x.items ≡ exprs_in (value_syntax v)
unfolding value_syntax
exprs_held v x e = ap (λ u. exprs_in (value_syntax u)) (sym e)

pub no_exprs_held : (v : Value) → ((x : Vec (Vec Node Global) Global) → v ≡ value.Exprs x → ⊥) → [] ≡ exprs_in (value_syntax v)
unfolding value_syntax
no_exprs_held (value.Exprs x) h = absurd (h x refl)
no_exprs_held v h = refl

pub cond_held : (v : Value) (x : Vec CondNode Global) → v ≡ value.Cond x → cond_syntax x.items ≡ cond_in (value_syntax v)
unfolding value_syntax
cond_held v x e = ap (λ u. cond_in (value_syntax u)) (sym e)

pub no_cond_held : (v : Value) → ((x : Vec CondNode Global) → v ≡ value.Cond x → ⊥) → [] ≡ cond_in (value_syntax v)
unfolding value_syntax
no_cond_held (value.Cond x) h = absurd (h x refl)
no_cond_held v h = refl

pub blocks_held : (v : Value) (x : Vec Block Global) → v ≡ value.Blocks x → blocks_syntax x.items ≡ blocks_in (value_syntax v)
unfolding value_syntax
blocks_held v x e = ap (λ u. blocks_in (value_syntax u)) (sym e)

pub no_blocks_held : (v : Value) → ((x : Vec Block Global) → v ≡ value.Blocks x → ⊥) → [] ≡ blocks_in (value_syntax v)
unfolding value_syntax
no_blocks_held (value.Blocks x) h = absurd (h x refl)
no_blocks_held v h = refl

pub equations_held : (v : Value) (x : Vec Equation Global) → v ≡ value.Equations x → equations_syntax x.items ≡ equations_in (value_syntax v)
unfolding value_syntax
equations_held v x e = ap (λ u. equations_in (value_syntax u)) (sym e)

pub no_equations_held : (v : Value) → ((x : Vec Equation Global) → v ≡ value.Equations x → ⊥) → [] ≡ equations_in (value_syntax v)
unfolding value_syntax
no_equations_held (value.Equations x) h = absurd (h x refl)
no_equations_held v h = refl

pub match_held : (v : Value) (m : Match) → v ≡ value.Match m → match_syntax m ≡ match_in (value_syntax v)
unfolding value_syntax
match_held v m e = ap (λ u. match_in (value_syntax u)) (sym e)

pub no_match_held : (v : Value) → ((m : Match) → v ≡ value.Match m → ⊥) → same_names ≡ match_in (value_syntax v)
unfolding value_syntax
no_match_held (value.Match m) h = absurd (h m refl)
no_match_held v h = refl

pub items_held : (v : Value) (x : Vec Item Global) → v ≡ value.Items x → items_syntax x.items ≡ items_in (value_syntax v)
unfolding value_syntax
items_held v x e = ap (λ u. items_in (value_syntax u)) (sym e)

pub no_items_held : (v : Value) → ((x : Vec Item Global) → v ≡ value.Items x → ⊥) → [] ≡ items_in (value_syntax v)
unfolding value_syntax
no_items_held (value.Items x) h = absurd (h x refl)
no_items_held v h = refl

pub operators_held : (v : Value) (x : Vec Token Global) (y : Vec Node Global) → v ≡ value.Operations x y → tokens_syntax x.items ≡ operators_in (value_syntax v)
unfolding value_syntax
operators_held v x y e = ap (λ u. operators_in (value_syntax u)) (sym e)

pub operands_held : (v : Value) (x : Vec Token Global) (y : Vec Node Global) → v ≡ value.Operations x y → expr_syntax y.items ≡ operands_in (value_syntax v)
unfolding value_syntax
operands_held v x y e = ap (λ u. operands_in (value_syntax u)) (sym e)

pub no_operators_held : (v : Value) → ((x : Vec Token Global) (y : Vec Node Global) → v ≡ value.Operations x y → ⊥) → [] ≡ operators_in (value_syntax v)
unfolding value_syntax
no_operators_held (value.Operations x y) h = absurd (h x y refl)
no_operators_held v h = refl

pub no_operands_held : (v : Value) → ((x : Vec Token Global) (y : Vec Node Global) → v ≡ value.Operations x y → ⊥) → [] ≡ operands_in (value_syntax v)
unfolding value_syntax
no_operands_held (value.Operations x y) h = absurd (h x y refl)
no_operands_held v h = refl

pub statements_held : (v : Value) (x : Vec Statement Global) (y : Jump) → v ≡ value.Body x y → statements_syntax x.items ≡ statements_in (value_syntax v)
unfolding value_syntax
statements_held v x y e = ap (λ u. statements_in (value_syntax u)) (sym e)

pub jump_held : (v : Value) (x : Vec Statement Global) (y : Jump) → v ≡ value.Body x y → jump_syntax y ≡ jump_in (value_syntax v)
unfolding value_syntax
jump_held v x y e = ap (λ u. jump_in (value_syntax u)) (sym e)

pub no_statements_held : (v : Value) → ((x : Vec Statement Global) (y : Jump) → v ≡ value.Body x y → ⊥) → [] ≡ statements_in (value_syntax v)
unfolding value_syntax
no_statements_held (value.Body x y) h = absurd (h x y refl)
no_statements_held v h = refl

pub no_jump_held : (v : Value) → ((x : Vec Statement Global) (y : Jump) → v ≡ value.Body x y → ⊥) → abort ≡ jump_in (value_syntax v)
unfolding value_syntax
no_jump_held (value.Body x y) h = absurd (h x y refl)
no_jump_held v h = refl

pub no_call_held : (v : Value) → v ≡ value.NoCall → true ≡ is_no_call (value_syntax v)
unfolding value_syntax
no_call_held v e = ap (λ u. is_no_call (value_syntax u)) (sym e)

pub call_held : (v : Value) → (v ≡ value.NoCall → ⊥) → false ≡ is_no_call (value_syntax v)
unfolding value_syntax
call_held value.NoCall h = absurd (h refl)
call_held v h = refl
