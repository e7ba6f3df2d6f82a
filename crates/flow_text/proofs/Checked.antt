-- Targets, expressions and statements checked, one more.
use Rattle.std.proofs.Common.{◌≡◌, ◌<◌, ◌≤◌, ℕ, ◌+◌, ◌-◌, List, [], ◌∷◌, ◌++◌, length, take, drop, get_or, Result, Ok, Err, refl, sym, ap, ◌∙◌, map}
use Rattle.std.specs.Prelude.{Vec}
use Rattle.std.specs.declared.alloc.Global.{Global}
use Rattle.std.proofs.lemmas.List.{map-append, length-map, length-reverse, drop_more, drop_all}
use Rattle.text_parser.specs.declared.fault.TextFault.{TextFault}
use Rattle.text_parser.specs.declared.token.Token.{Token}
use Rattle.text_parser.specs.TokenParts.{parts_of_token}
use Rattle.text_parser.specs.Parsed.{◌>>=◌}
use Rattle.flow_model.specs.declared.sort.Sort.{Sort}
use Rattle.flow_model.specs.declared.graph.ExprNode.{ExprNode}
use Rattle.flow_model.specs.declared.graph.Statement.{Statement as Checked}
use Rattle.flow_model.specs.Expressions.{ExprTree}
use Rattle.flow_model.specs.Graphs.{StatementTree}
use Rattle.flow_text.specs.Trees as trees
use Rattle.flow_text.specs.Trees.{expr_of, values_of}
use Rattle.flow_syntax.specs.declared.written.Node.{Node}
use Rattle.flow_syntax.specs.declared.written.Statement.{Statement}
use Rattle.flow_text.specs.Scopes.{ScopeParts}
use Rattle.flow_syntax.specs.SyntaxViews.{tokens_syntax, expr_syntax, exprs_syntax, statement_syntax, statements_syntax}
use Rattle.flow_text.specs.Resolving.{expression_of}
use Rattle.flow_text.specs.Checking.{next_target, targets_after, expressions_after, statement_of, statements_after}
use Rattle.flow_syntax.proofs.Stacked.{tokens_push, exprs_push, exprs_none, statements_push}
use Rattle.flow_text.proofs.LastTaken.{before_last, nothing_left}

pub tokens_length : (ts : List Token) → length (tokens_syntax ts) ≡ length ts
unfolding tokens_syntax
tokens_length ts = length-map _ _ ∙ length-reverse ts

-- ---- targets

target_first : (s : ScopeParts) (made : List (ℕ × Sort)) (before : List Token) (t : Token) → targets_after s made (tokens_syntax (before ++ t ∷ [])) ≡ (next_target s made (parts_of_token t) >>= λ x. targets_after s (made ++ x ∷ []) (tokens_syntax before))
target_first s made before t = ap (targets_after s made) (tokens_push before t)

pub target_made : (s : ScopeParts) (made : List (ℕ × Sort)) (before : List Token) (t : Token) (x : ℕ × Sort) → Ok x ≡ next_target s made (parts_of_token t) → targets_after s made (tokens_syntax (before ++ t ∷ [])) ≡ targets_after s (made ++ x ∷ []) (tokens_syntax before)
target_made s made before t x e = target_first s made before t ∙ ap (λ (m : Result (ℕ × Sort) TextFault). m >>= λ y. targets_after s (made ++ y ∷ []) (tokens_syntax before)) (sym e)

pub target_refused : (s : ScopeParts) (made : List (ℕ × Sort)) (before : List Token) (t : Token) (fault : TextFault) → Err fault ≡ next_target s made (parts_of_token t) → targets_after s made (tokens_syntax (before ++ t ∷ [])) ≡ Err fault
target_refused s made before t fault e = target_first s made before t ∙ ap (λ (m : Result (ℕ × Sort) TextFault). m >>= λ y. targets_after s (made ++ y ∷ []) (tokens_syntax before)) (sym e)

pub ruleset targets = (target_made, target_refused)

-- ---- expressions

expression_first : (s : ScopeParts) (made : List ExprTree) (sort : Sort) (sorts : List Sort) (before : List (Vec Node Global)) (e : Vec Node Global) → expressions_after s made (sort ∷ sorts) (exprs_syntax (before ++ e ∷ [])) ≡ (expression_of s sort (expr_syntax e.items) >>= λ x. expressions_after s (made ++ x ∷ []) sorts (exprs_syntax before))
expression_first s made sort sorts before e = ap (expressions_after s made (sort ∷ sorts)) (exprs_push before e)

pub expression_made : (s : ScopeParts) (made : List (Vec ExprNode Global)) (sort : Sort) (sorts : List Sort) (before : List (Vec Node Global)) (e : Vec Node Global) (x : Vec ExprNode Global) → expression_of s sort (expr_syntax e.items) ≡ Ok (expr_of x.items) → expressions_after s (values_of made) (sort ∷ sorts) (exprs_syntax (before ++ e ∷ [])) ≡ expressions_after s (values_of (made ++ x ∷ [])) sorts (exprs_syntax before)
expression_made s made sort sorts before e x is =
    expression_first s (values_of made) sort sorts before e ∙ ap (λ (m : Result ExprTree TextFault). m >>= λ y. expressions_after s (values_of made ++ y ∷ []) sorts (exprs_syntax before)) is
    ∙ ap (λ vs. expressions_after s vs sorts (exprs_syntax before)) (sym (map-append (λ (v : Vec ExprNode Global). expr_of v.items) made (x ∷ [])))

pub expression_refused : (s : ScopeParts) (made : List ExprTree) (sort : Sort) (sorts : List Sort) (before : List (Vec Node Global)) (e : Vec Node Global) (fault : TextFault) → expression_of s sort (expr_syntax e.items) ≡ Err fault → expressions_after s made (sort ∷ sorts) (exprs_syntax (before ++ e ∷ [])) ≡ Err fault
expression_refused s made sort sorts before e fault is =
    expression_first s made sort sorts before e ∙ ap (λ (m : Result ExprTree TextFault). m >>= λ y. expressions_after s (made ++ y ∷ []) sorts (exprs_syntax before)) is

pub no_expression : (s : ScopeParts) (made : List ExprTree) (sorts : List Sort) → expressions_after s made sorts [] ≡ Ok made
no_expression s made [] = refl
no_expression s made (sort ∷ sorts) = refl

-- ---- a turn of the loop, at sort `i`

pub expression_turn : (s : ScopeParts) (made : List (Vec ExprNode Global)) (sorts : List Sort) (i : ℕ) (d : Sort) (rest before : List (Vec Node Global)) (e : Vec Node Global) (x : Vec ExprNode Global) (whole : Result (List ExprTree) TextFault) → i < length sorts → rest ≡ before ++ e ∷ [] → expression_of s (get_or sorts i d) (expr_syntax e.items) ≡ Ok (expr_of x.items) → expressions_after s (values_of made) (drop i sorts) (exprs_syntax rest) ≡ whole → expressions_after s (values_of (made ++ x ∷ [])) (drop (i + 1) sorts) (exprs_syntax (take (length rest - 1) rest)) ≡ whole
expression_turn s made sorts i d rest before e x whole lt is given invariant =
    ap (λ l. expressions_after s (values_of (made ++ x ∷ [])) (drop (i + 1) sorts) (exprs_syntax l)) (before_last rest before e is)
    ∙ sym (expression_made s made (get_or sorts i d) (drop (i + 1) sorts) before e x given)
    ∙ sym (ap (λ l. expressions_after s (values_of made) l (exprs_syntax (before ++ e ∷ []))) (drop_more sorts i d lt))
    ∙ sym (ap (λ l. expressions_after s (values_of made) (drop i sorts) (exprs_syntax l)) is) ∙ invariant

pub expression_fault : (s : ScopeParts) (made : List ExprTree) (sorts : List Sort) (i : ℕ) (d : Sort) (rest before : List (Vec Node Global)) (e : Vec Node Global) (fault : TextFault) (whole : Result (List ExprTree) TextFault) → i < length sorts → rest ≡ before ++ e ∷ [] → expressions_after s made (drop i sorts) (exprs_syntax rest) ≡ whole → expression_of s (get_or sorts i d) (expr_syntax e.items) ≡ Err fault → whole ≡ Err fault
expression_fault s made sorts i d rest before e fault whole lt is invariant given =
    sym invariant ∙ ap (λ l. expressions_after s made (drop i sorts) (exprs_syntax l)) is
    ∙ ap (λ l. expressions_after s made l (exprs_syntax (before ++ e ∷ []))) (drop_more sorts i d lt)
    ∙ expression_refused s made (get_or sorts i d) (drop (i + 1) sorts) before e fault given

pub no_more : (s : ScopeParts) (made : List ExprTree) (sorts : List Sort) (rest : List (Vec Node Global)) (whole : Result (List ExprTree) TextFault) → length rest ≡ 0 → expressions_after s made sorts (exprs_syntax rest) ≡ whole → whole ≡ Ok made
no_more s made sorts rest whole none invariant =
    sym invariant ∙ ap (λ l. expressions_after s made sorts (exprs_syntax l)) (nothing_left rest none) ∙ ap (expressions_after s made sorts) exprs_none ∙ no_expression s made sorts

pub no_sort : (s : ScopeParts) (made : List ExprTree) (sorts : List Sort) (i : ℕ) (rest : List (Vec Node Global)) (whole : Result (List ExprTree) TextFault) → length sorts ≤ i → expressions_after s made (drop i sorts) (exprs_syntax rest) ≡ whole → whole ≡ Ok made
no_sort s made sorts i rest whole past invariant = sym invariant ∙ ap (λ l. expressions_after s made l (exprs_syntax rest)) (drop_all i sorts past)

pub ruleset expressions = (expression_made, expression_refused, no_expression)

-- ---- statements

statement_first : (s : ScopeParts) (made : List StatementTree) (before : List Statement) (x : Statement) → statements_after s made (statements_syntax (before ++ x ∷ [])) ≡ (statement_of s (statement_syntax x) >>= λ y. statements_after s (made ++ y ∷ []) (statements_syntax before))
statement_first s made before x = ap (statements_after s made) (statements_push before x)

pub statement_made : (s : ScopeParts) (made : List Checked) (before : List Statement) (x : Statement) (y : Checked) → statement_of s (statement_syntax x) ≡ Ok (trees.statement_of y) → statements_after s (map trees.statement_of made) (statements_syntax (before ++ x ∷ [])) ≡ statements_after s (map trees.statement_of (made ++ y ∷ [])) (statements_syntax before)
statement_made s made before x y e =
    statement_first s (map trees.statement_of made) before x ∙ ap (λ (m : Result StatementTree TextFault). m >>= λ z. statements_after s (map trees.statement_of made ++ z ∷ []) (statements_syntax before)) e
    ∙ ap (λ vs. statements_after s vs (statements_syntax before)) (sym (map-append trees.statement_of made (y ∷ [])))

pub statement_refused : (s : ScopeParts) (made : List StatementTree) (before : List Statement) (x : Statement) (fault : TextFault) → statement_of s (statement_syntax x) ≡ Err fault → statements_after s made (statements_syntax (before ++ x ∷ [])) ≡ Err fault
statement_refused s made before x fault e = statement_first s made before x ∙ ap (λ (m : Result StatementTree TextFault). m >>= λ z. statements_after s (made ++ z ∷ []) (statements_syntax before)) e

pub ruleset statements = (statement_made, statement_refused)
