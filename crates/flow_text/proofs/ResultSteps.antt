-- Sorts of results, with another `return`, place or graph.
use Rattle.std.proofs.Common.{◌≡◌, ◌<◌, ◌≤◌, ℕ, ◌+◌, ◌-◌, List, [], ◌∷◌, ◌++◌, length, take, drop, get_or, set, map, Option, Some, None, refl, sym, ap, ◌∙◌, arith}
use Rattle.std.specs.Prelude.{Vec}
use Rattle.std.specs.declared.alloc.Global.{Global}
use Rattle.std.proofs.lemmas.List.{append-nil, append_assoc, drop_more, drop_all, take_all, take-append-drop, take_more_set, drop-set-lt}
use Rattle.flow_model.specs.declared.sort.Sort.{Sort}
use Rattle.flow_text.specs.declared.known.WrittenGraph.{WrittenGraph}
use Rattle.flow_syntax.specs.declared.written.Node.{Node}
use Rattle.flow_syntax.specs.declared.written.Block.{Block}
use Rattle.flow_syntax.specs.Actions.{first_name}
use Rattle.flow_syntax.specs.Syntax.{ExprSyntax}
use Rattle.flow_text.specs.Scopes.{ScopeParts}
use Rattle.flow_syntax.specs.SyntaxViews.{expr_syntax, exprs_syntax, block_syntax, blocks_syntax}
use Rattle.flow_text.specs.KnownViews.{graph_syntax}
use Rattle.flow_text.specs.Resolving.{sort_of_first}
use Rattle.flow_text.specs.Checking.{ResultSorts, first_sort, first_sorts, named_sorts, with_results, with_all_results, with_named, shared_results}
use Rattle.flow_syntax.proofs.Stacked.{exprs_push, exprs_none, blocks_push}
use Rattle.flow_text.proofs.LastTaken.{before_last, nothing_left}

pub results_more : (s : ScopeParts) (xs now : ResultSorts) (before : List Block) (b : Block) → now ≡ with_results s xs (block_syntax b) → with_all_results s xs (blocks_syntax (before ++ b ∷ [])) ≡ with_all_results s now (blocks_syntax before)
results_more s xs now before b is = ap (with_all_results s xs) (blocks_push before b) ∙ ap (λ y. with_all_results s y (blocks_syntax before)) (sym is)

-- ---- the sorts of one `return`

pub named_more : (s : ScopeParts) (made : List (Option Sort)) (before : List (Vec Node Global)) (e : Vec Node Global) (x : Option Sort) → x ≡ sort_of_first s (first_name (expr_syntax e.items)) → made ++ named_sorts s (exprs_syntax (before ++ e ∷ [])) ≡ (made ++ x ∷ []) ++ named_sorts s (exprs_syntax before)
named_more s made before e x is =
    ap (λ l. made ++ named_sorts s l) (exprs_push before e) ∙ ap (λ y. made ++ y ∷ named_sorts s (exprs_syntax before)) (sym is)
    ∙ sym (append_assoc made (x ∷ []) (named_sorts s (exprs_syntax before)))

-- place `i` is given a sort
pub sort_set : (s : ScopeParts) (sorts : List (Option Sort)) (i : ℕ) (d y : Option Sort) (rest before : List (Vec Node Global)) (e : Vec Node Global) (whole : List (Option Sort)) → i < length sorts → rest ≡ before ++ e ∷ [] → y ≡ first_sort (get_or sorts i d) (sort_of_first s (first_name (expr_syntax e.items))) → take i sorts ++ first_sorts s (drop i sorts) (exprs_syntax rest) ≡ whole → take (i + 1) (set sorts i y) ++ first_sorts s (drop (i + 1) (set sorts i y)) (exprs_syntax (take (length rest - 1) rest)) ≡ whole
sort_set s sorts i d y rest before e whole lt is given invariant =
    ap (λ l. l ++ first_sorts s (drop (i + 1) (set sorts i y)) (exprs_syntax (take (length rest - 1) rest))) (take_more_set sorts i y lt)
    ∙ append_assoc (take i sorts) (y ∷ []) (first_sorts s (drop (i + 1) (set sorts i y)) (exprs_syntax (take (length rest - 1) rest)))
    ∙ ap (λ l. take i sorts ++ y ∷ first_sorts s l (exprs_syntax (take (length rest - 1) rest))) (drop-set-lt (i + 1) sorts i y (omega arith))
    ∙ ap (λ l. take i sorts ++ y ∷ first_sorts s (drop (i + 1) sorts) (exprs_syntax l)) (before_last rest before e is)
    ∙ ap (λ z. take i sorts ++ z ∷ first_sorts s (drop (i + 1) sorts) (exprs_syntax before)) given
    ∙ sym (ap (λ es. take i sorts ++ first_sorts s (get_or sorts i d ∷ drop (i + 1) sorts) es) (exprs_push before e))
    ∙ sym (ap (λ l. take i sorts ++ first_sorts s l (exprs_syntax (before ++ e ∷ []))) (drop_more sorts i d lt))
    ∙ sym (ap (λ l. take i sorts ++ first_sorts s (drop i sorts) (exprs_syntax l)) is) ∙ invariant

no_more_sorts : (s : ScopeParts) (sorts : List (Option Sort)) → first_sorts s sorts [] ≡ sorts
no_more_sorts s [] = refl
no_more_sorts s (None ∷ xs) = ap (λ l. None ∷ l) (no_more_sorts s xs)
no_more_sorts s (Some y ∷ xs) = ap (λ l. Some y ∷ l) (no_more_sorts s xs)

-- no expression is left for place `i`
pub no_expression : (s : ScopeParts) (sorts : List (Option Sort)) (i : ℕ) (rest : List (Vec Node Global)) (whole : List (Option Sort)) → length rest ≡ 0 → take i sorts ++ first_sorts s (drop i sorts) (exprs_syntax rest) ≡ whole → sorts ≡ whole
no_expression s sorts i rest whole none invariant =
    sym (take-append-drop i sorts) ∙ sym (ap (λ l. take i sorts ++ l) (no_more_sorts s (drop i sorts))) ∙ sym (ap (λ es. take i sorts ++ first_sorts s (drop i sorts) es) exprs_none)
    ∙ sym (ap (λ l. take i sorts ++ first_sorts s (drop i sorts) (exprs_syntax l)) (nothing_left rest none)) ∙ invariant

-- no place is left
pub no_place : (s : ScopeParts) (sorts : List (Option Sort)) (i : ℕ) (es : List ExprSyntax) (whole : List (Option Sort)) → length sorts ≤ i → take i sorts ++ first_sorts s (drop i sorts) es ≡ whole → sorts ≡ whole
no_place s sorts i es whole past invariant =
    sym (append-nil sorts) ∙ sym (ap (λ l. l ++ []) (take_all i sorts past)) ∙ sym (ap (λ l. take i sorts ++ first_sorts s l es) (drop_all i sorts past)) ∙ invariant

-- ---- the sorts of both graphs of the goal

pub shared_more : (s : ScopeParts) (goal : ℕ × ℕ) (xs now : ResultSorts) (gs : List WrittenGraph) (i : ℕ) (g : WrittenGraph) (whole : ResultSorts) → i < length gs → g ≡ get_or gs i g → now ≡ with_named s goal xs i (graph_syntax g) → shared_results s goal xs i (map graph_syntax (drop i gs)) ≡ whole → shared_results s goal now (i + 1) (map graph_syntax (drop (i + 1) gs)) ≡ whole
shared_more s goal xs now gs i g whole lt is given invariant =
    ap (λ y. shared_results s goal y (i + 1) (map graph_syntax (drop (i + 1) gs))) given
    ∙ ap (λ h. shared_results s goal (with_named s goal xs i (graph_syntax h)) (i + 1) (map graph_syntax (drop (i + 1) gs))) is
    ∙ sym (ap (λ l. shared_results s goal xs i (map graph_syntax l)) (drop_more gs i g lt)) ∙ invariant

pub shared_all : (s : ScopeParts) (goal : ℕ × ℕ) (xs : ResultSorts) (gs : List WrittenGraph) (i : ℕ) (whole : ResultSorts) → length gs ≤ i → shared_results s goal xs i (map graph_syntax (drop i gs)) ≡ whole → xs ≡ whole
shared_all s goal xs gs i whole past invariant = sym (ap (λ l. shared_results s goal xs i (map graph_syntax l)) (drop_all i gs past)) ∙ invariant

pub ruleset results = (results_more)
