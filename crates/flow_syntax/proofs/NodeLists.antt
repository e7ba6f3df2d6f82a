-- Lists of nodes, with another node or expression.
use Rattle.std.proofs.Common.{◌≡◌, ◌<◌, ◌==◌, ℕ, ◌+◌, List, [], ◌∷◌, ◌++◌, length, take, get_or, true, refl, sym, ap, ◌∙◌, arith}
use Rattle.std.specs.Prelude.{Vec}
use Rattle.std.specs.declared.alloc.Global.{Global}
use Rattle.std.proofs.lemmas.Bool.Decides.{nat_tests}
use Rattle.std.proofs.lemmas.List.{append-nil, nil_from_length, take_more, length-map, length-reverse}
use Rattle.text_parser.specs.declared.token.Token.{Token}
use Rattle.flow_syntax.specs.declared.written.CondNode.{CondNode}
use Rattle.flow_syntax.specs.declared.written.Node.{Node}
use Rattle.flow_syntax.specs.declared.written.Node.TheVariants as node
use Rattle.flow_syntax.specs.Syntax.{CondNodeSyntax, CondSyntax}
use Rattle.flow_syntax.specs.Actions.{joined, all_nodes, name_of, first_of, first_name, linked}
use Rattle.flow_syntax.specs.SyntaxViews.{tokens_syntax, node_syntax, expr_syntax, exprs_syntax, cond_syntax}
use Rattle.flow_syntax.proofs.Stacked.{tokens_push, expr_push, expr_none, exprs_push, cond_none}

pub joined_more : (os : List Token) (o : Token) (ns : List Node) → joined (tokens_syntax (os ++ o ∷ [])) (expr_syntax ns) ≡ joined (tokens_syntax os) (expr_syntax (ns ++ node.Operation o ∷ []))
joined_more os o ns = ap (λ ts. joined ts (expr_syntax ns)) (tokens_push os o) ∙ ap (joined (tokens_syntax os)) (sym (expr_push ns (node.Operation o)))

pub exprs_length : (es : List (Vec Node Global)) → length (exprs_syntax es) ≡ length es
unfolding exprs_syntax
exprs_length es = length-map _ _ ∙ length-reverse es

pub all_more : (es : List (Vec Node Global)) (i : ℕ) (e : Vec Node Global) → i < length es → e ≡ get_or es i e → all_nodes (exprs_syntax (take (i + 1) es)) ≡ expr_syntax e.items ++ all_nodes (exprs_syntax (take i es))
all_more es i e lt is =
    ap (λ l. all_nodes (exprs_syntax l)) (take_more es i e lt) ∙ ap all_nodes (exprs_push (take i es) (get_or es i e))
    ∙ ap (λ (x : Vec Node Global). expr_syntax x.items ++ all_nodes (exprs_syntax (take i es))) (sym is)

-- the first name of one more of the last nodes
pub name_at : (ns : List Node) (k : ℕ) (d : Node) → k < length ns → first_name (expr_syntax (take (k + 1) ns)) ≡ first_of (name_of (node_syntax (get_or ns k d))) (first_name (expr_syntax (take k ns)))
name_at ns k d lt = ap (λ l. first_name (expr_syntax l)) (take_more ns k d lt) ∙ ap first_name (expr_push (take k ns) (get_or ns k d))

pub none_from : (n : ℕ) → true ≡ (n == 0) → n ≡ 0
none_from n e = grind (arith, nat_tests)

-- nothing after an expression or a condition
pub before_none : (xs ys : List Node) → length ys ≡ 0 → expr_syntax xs ≡ expr_syntax xs ++ expr_syntax ys
before_none xs ys e = rw (nil_from_length ys e, expr_none) (sym (append-nil (expr_syntax xs)))

pub linked_none : (n : CondNodeSyntax) (b : CondSyntax) (ys : List CondNode) → length ys ≡ 0 → b ≡ linked n b (cond_syntax ys)
linked_none n b ys e = rw (nil_from_length ys e, cond_none) refl
