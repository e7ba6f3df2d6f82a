-- The last members of lists that are from the last member to the first.
use Rattle.std.proofs.Common.{◌≡◌, ◌<◌, ℕ, ◌+◌, List, ◌∷◌, length, take, get_or, sym, ap, ◌∙◌}
use Rattle.std.specs.Prelude.{Vec}
use Rattle.std.specs.declared.alloc.Global.{Global}
use Rattle.std.proofs.lemmas.List.{take_more, length-map, length-reverse}
use Rattle.text_parser.specs.declared.token.Token.{Token}
use Rattle.flow_syntax.specs.declared.written.Node.{Node}
use Rattle.flow_syntax.specs.declared.written.CondNode.{CondNode}
use Rattle.flow_syntax.specs.declared.written.Statement.{Statement}
use Rattle.flow_syntax.specs.declared.written.Block.{Block}
use Rattle.flow_syntax.specs.declared.written.Equation.{Equation}
use Rattle.flow_syntax.specs.SyntaxViews.{tokens_syntax, expr_syntax, exprs_syntax, cond_node_syntax, cond_syntax, statement_syntax, statements_syntax, block_syntax, blocks_syntax, equation_syntax, equations_syntax}
use Rattle.flow_syntax.proofs.Stacked.{exprs_push, cond_push, statements_push, blocks_push, equations_push}

pub exprs_more : (es : List (Vec Node Global)) (i : ℕ) (e : Vec Node Global) → i < length es → e ≡ get_or es i e → exprs_syntax (take (i + 1) es) ≡ expr_syntax e.items ∷ exprs_syntax (take i es)
exprs_more es i e lt is =
    ap exprs_syntax (take_more es i e lt) ∙ exprs_push (take i es) (get_or es i e) ∙ ap (λ (x : Vec Node Global). expr_syntax x.items ∷ exprs_syntax (take i es)) (sym is)

pub conds_more : (ns : List CondNode) (i : ℕ) (n : CondNode) → i < length ns → n ≡ get_or ns i n → cond_syntax (take (i + 1) ns) ≡ cond_node_syntax n ∷ cond_syntax (take i ns)
conds_more ns i n lt is =
    ap cond_syntax (take_more ns i n lt) ∙ cond_push (take i ns) (get_or ns i n) ∙ ap (λ x. cond_node_syntax x ∷ cond_syntax (take i ns)) (sym is)

pub statements_more : (ss : List Statement) (i : ℕ) (x : Statement) → i < length ss → x ≡ get_or ss i x → statements_syntax (take (i + 1) ss) ≡ statement_syntax x ∷ statements_syntax (take i ss)
statements_more ss i x lt is =
    ap statements_syntax (take_more ss i x lt) ∙ statements_push (take i ss) (get_or ss i x) ∙ ap (λ y. statement_syntax y ∷ statements_syntax (take i ss)) (sym is)

pub blocks_more : (bs : List Block) (i : ℕ) (b : Block) → i < length bs → b ≡ get_or bs i b → blocks_syntax (take (i + 1) bs) ≡ block_syntax b ∷ blocks_syntax (take i bs)
blocks_more bs i b lt is =
    ap blocks_syntax (take_more bs i b lt) ∙ blocks_push (take i bs) (get_or bs i b) ∙ ap (λ c. block_syntax c ∷ blocks_syntax (take i bs)) (sym is)

pub equations_more : (qs : List Equation) (i : ℕ) (q : Equation) → i < length qs → q ≡ get_or qs i q → equations_syntax (take (i + 1) qs) ≡ equation_syntax q ∷ equations_syntax (take i qs)
equations_more qs i q lt is =
    ap equations_syntax (take_more qs i q lt) ∙ equations_push (take i qs) (get_or qs i q) ∙ ap (λ r. equation_syntax r ∷ equations_syntax (take i qs)) (sym is)

pub expr_length : (ns : List Node) → length (expr_syntax ns) ≡ length ns
unfolding expr_syntax
expr_length ns = length-map _ _ ∙ length-reverse ns

pub names_length : (ts : List Token) → length (tokens_syntax ts) ≡ length ts
unfolding tokens_syntax
names_length ts = length-map _ _ ∙ length-reverse ts

pub ruleset more = (exprs_more, conds_more, statements_more, blocks_more, equations_more)

pub ruleset lengths = (expr_length, names_length)
