-- The sizes of what a plain text spells are those of its graphs, and so are the sorts of the results.
use Rattle.std.proofs.Common.{◌≡◌, ◌≤◌, ◌+◌, ◌^◌, ℕ, suc, List, [], ◌∷◌, ◌++◌, length, map, true, Option, Some, None, refl, ap, ◌∙◌, length-append, arith}
use Rattle.std.proofs.lemmas.Bool.{le-ltb, and_from, and_parts, not_from_false}
use Rattle.std.proofs.lemmas.List.{length-map}
use Rattle.kat_model.specs.declared.limits.TheConstants.{MAX_EXPR_NODES, MAX_TERM_NODES, MAX_TEXT_NODES}
use Rattle.text_print.specs.Printing.{relation_text}
use Rattle.flow_model.specs.declared.sort.Sort.{Sort}
use Rattle.flow_model.specs.Expressions.{ExprTree, number, variable, plus, minus, times, converted, applied, no_arguments, argument}
use Rattle.flow_model.specs.Conditions.{CondTree, always, never, compared, compared_signed, negation, both, either}
use Rattle.flow_model.specs.Graphs.{StatementTree, assign, claim, JumpTree, goto, branch, return, abort, Graph}
use Rattle.flow_syntax.specs.Syntax.{ExprSyntax, CondSyntax}
use Rattle.flow_syntax.specs.Actions.{first_name}
use Rattle.flow_syntax.specs.Sizes.{total, all_pass, expr_nodes, is_short, cond_node_nodes, cond_node_short, statement_nodes, statement_short, jump_nodes, jump_short, block_nodes, block_short, nodes_with}
use Rattle.flow_text.specs.Scopes.{ScopeParts}
use Rattle.flow_text.specs.Resolving.{sort_of_first}
use Rattle.flow_text.specs.Checking as checking
use Rattle.flow_text.specs.Checking.{first_sort, first_sorts, named_sorts, with_all_results}
use Rattle.flow_plain.specs.PlainGraphs.{Declared, conversion_text, variable_name, function_name, signed_text}
use Rattle.flow_plain.specs.PrintableGraphs.{expression_size, expressions_size, condition_size, statement_size, statements_size, jump_size, graph_size, shown_sort, IsPlainExpr, HasSides, AreAssigned, AreResults, IsPlainStatement, IsPlainJump, AreStatements, AreBlocks, IsPlainGraph, shown_with, with_return, with_jump, with_blocks}
use Rattle.flow_plain.proofs.PlainPieces.{comma_end, expr_end, expr_syntax, cond_end, cond_syntax, more_names_syntax, more_exprs_syntax, value_place, statement_end, statement_syntax, statements_end, statements_syntax, results_syntax, jump_syntax, body_place, block_end, blocks_syntax}
use Rattle.flow_plain.proofs.ResolvedExprs.{IsScope, shown_is, shows}

-- ---- sizes

two_sized : (x y : ExprSyntax) (n m : ℕ) → length x ≡ n → length y ≡ m → suc (length (x ++ y)) ≡ 1 + (n + m)
two_sized x y n m e f = let both = length-append x y in omega (arith, both, e, f)

expr_sized : (e : ExprTree) (at : ℕ) → length (expr_syntax e at) ≡ expression_size e
expr_sized (number w n) at = refl
expr_sized (variable k) at = refl
expr_sized (plus w e f) at = two_sized (expr_syntax e (at + 1)) (expr_syntax f (expr_end e (at + 1) + 1 + 1 + 1)) (expression_size e) (expression_size f) (expr_sized e (at + 1)) (expr_sized f (expr_end e (at + 1) + 1 + 1 + 1))
expr_sized (minus w e f) at = two_sized (expr_syntax e (at + 1)) (expr_syntax f (expr_end e (at + 1) + 1 + 1 + 1)) (expression_size e) (expression_size f) (expr_sized e (at + 1)) (expr_sized f (expr_end e (at + 1) + 1 + 1 + 1))
expr_sized (times w e f) at = two_sized (expr_syntax e (at + 1)) (expr_syntax f (expr_end e (at + 1) + 1 + 1 + 1)) (expression_size e) (expression_size f) (expr_sized e (at + 1)) (expr_sized f (expr_end e (at + 1) + 1 + 1 + 1))
expr_sized (converted signed from to e) at = let h = expr_sized e (at + length (conversion_text signed to) + 1) in omega (arith, h)
expr_sized (applied f result args) at = let h = expr_sized args (at + length (function_name f) + 1) in omega (arith, h)
expr_sized no_arguments at = refl
expr_sized (argument e rest) at =
    length-append (expr_syntax e at) (expr_syntax rest (comma_end rest (expr_end e at))) ∙ ap (λ (n : ℕ). n + length (expr_syntax rest (comma_end rest (expr_end e at)))) (expr_sized e at)
    ∙ ap (λ (n : ℕ). expression_size e + n) (expr_sized rest (comma_end rest (expr_end e at)))

short_is : (e : ExprTree) (at : ℕ) → expression_size e ≤ MAX_EXPR_NODES → is_short (expr_syntax e at) ≡ true
short_is e at small = let size = expr_sized e at in not_from_false _ (le-ltb MAX_EXPR_NODES (length (expr_syntax e at)) (omega (arith, size, small)))

exprs_sized : (es : List ExprTree) (at : ℕ) → total expr_nodes (more_exprs_syntax es at) ≡ expressions_size es
exprs_sized [] at = refl
exprs_sized (e ∷ es) at = let first = expr_sized e (at + 1 + 1) in let more = exprs_sized es (expr_end e (at + 1 + 1)) in omega (arith, first, more)

total_joined : (x y : CondSyntax) → total cond_node_nodes (x ++ y) ≡ total cond_node_nodes x + total cond_node_nodes y
total_joined [] y = omega arith
total_joined (n ∷ ns) y = let more = total_joined ns y in omega (arith, more)

two_conds : (x y : CondSyntax) (n m : ℕ) → total cond_node_nodes x ≡ n → total cond_node_nodes y ≡ m → 1 + total cond_node_nodes (x ++ y) ≡ 1 + (n + m)
two_conds x y n m e f = let both = total_joined x y in omega (arith, both, e, f)

sides_sized : (e f : ExprTree) (at next : ℕ) → 1 + (length (expr_syntax e at) + length (expr_syntax f next)) + 0 ≡ 1 + (expression_size e + expression_size f)
sides_sized e f at next = let left = expr_sized e at in let right = expr_sized f next in omega (arith, left, right)

cond_sized : (b : CondTree) (at : ℕ) → total cond_node_nodes (cond_syntax b at) ≡ condition_size b
cond_sized always at = refl
cond_sized never at = refl
cond_sized (compared rel e f) at = sides_sized e f (at + 1) (expr_end e (at + 1) + 1 + length (relation_text rel) + 1)
cond_sized (compared_signed rel w e f) at = sides_sized e f (at + length (signed_text rel) + 1) (expr_end e (at + length (signed_text rel) + 1) + 1 + 1)
cond_sized (negation b) at = ap (λ (n : ℕ). 1 + n) (cond_sized b (at + 1))
cond_sized (both b c) at = two_conds (cond_syntax b (at + 1)) (cond_syntax c (cond_end b (at + 1) + 1 + 2 + 1)) (condition_size b) (condition_size c) (cond_sized b (at + 1)) (cond_sized c (cond_end b (at + 1) + 1 + 2 + 1))
cond_sized (either b c) at = two_conds (cond_syntax b (at + 1)) (cond_syntax c (cond_end b (at + 1) + 1 + 2 + 1)) (condition_size b) (condition_size c) (cond_sized b (at + 1)) (cond_sized c (cond_end b (at + 1) + 1 + 2 + 1))

all_joined : (x y : CondSyntax) → all_pass cond_node_short x ≡ true → all_pass cond_node_short y ≡ true → all_pass cond_node_short (x ++ y) ≡ true
all_joined [] y e f = f
all_joined (n ∷ ns) y e f = let parts = and_parts (cond_node_short n) (all_pass cond_node_short ns) e in and_from _ _ parts.0 (all_joined ns y parts.1 f)

names_many : (xs : List (List ℕ)) (at : ℕ) → length (more_names_syntax xs at) ≡ length xs
names_many [] at = refl
names_many (x ∷ xs) at = ap suc (names_many xs (at + 1 + 1 + length x))

module _ (d : Declared) (sorts : List Sort) where
  cond_short : (b : CondTree) (at : ℕ) → HasSides d sorts b → all_pass cond_node_short (cond_syntax b at) ≡ true
  cond_short always at h = refl
  cond_short never at h = refl
  cond_short (compared rel e f) at h = and_from _ _ (and_from _ _ (short_is e (at + 1) h.1.3) (short_is f (expr_end e (at + 1) + 1 + length (relation_text rel) + 1) h.1.4)) refl
  cond_short (compared_signed rel w e f) at h = and_from _ _ (and_from _ _ (short_is e (at + length (signed_text rel) + 1) h.0.3) (short_is f (expr_end e (at + length (signed_text rel) + 1) + 1 + 1) h.0.4)) refl
  cond_short (negation b) at h = cond_short b (at + 1) h
  cond_short (both b c) at h = all_joined (cond_syntax b (at + 1)) (cond_syntax c (cond_end b (at + 1) + 1 + 2 + 1)) (cond_short b (at + 1) h.0) (cond_short c (cond_end b (at + 1) + 1 + 2 + 1) h.1)
  cond_short (either b c) at h = all_joined (cond_syntax b (at + 1)) (cond_syntax c (cond_end b (at + 1) + 1 + 2 + 1)) (cond_short b (at + 1) h.0) (cond_short c (cond_end b (at + 1) + 1 + 2 + 1) h.1)

  results_short : (ss : List Sort) (es : List ExprTree) (at : ℕ) → AreResults d sorts ss es → all_pass is_short (more_exprs_syntax es at) ≡ true
  results_short [] [] at h = refl
  results_short [] (e ∷ es) at h = absurd h
  results_short (s ∷ ss) [] at h = absurd h
  results_short (s ∷ ss) (e ∷ es) at h = and_from _ _ (short_is e (at + 1 + 1) h.0.small) (results_short ss es (expr_end e (at + 1 + 1)) h.1)

  assigned_short : (ks : List ℕ) (es : List ExprTree) (at : ℕ) → AreAssigned d sorts ks es → all_pass is_short (more_exprs_syntax es at) ≡ true
  assigned_short [] [] at h = refl
  assigned_short [] (e ∷ es) at h = absurd h
  assigned_short (k ∷ ks) [] at h = absurd h
  assigned_short (k ∷ ks) (e ∷ es) at h = and_from _ _ (short_is e (at + 1 + 1) h.2.small) (assigned_short ks es (expr_end e (at + 1 + 1)) h.3)

  statement_sized : (x : StatementTree) (at : ℕ) → IsPlainStatement d sorts x → (statement_nodes (statement_syntax x at) ≡ statement_size x) × (statement_short (statement_syntax x at) ≡ true)
  statement_sized (assign [] es) at h = absurd (h.0 refl)
  statement_sized (assign (k ∷ ks) []) at h = absurd h.2
  statement_sized (assign (k ∷ ks) (e ∷ es)) at h =
      let place = value_place k ks at in
      let names = names_many (map variable_name ks) (at + length (variable_name k)) ∙ length-map ks variable_name in
      let first = expr_sized e place in
      let more = exprs_sized es (expr_end e place) in
      (omega (arith, names, first, more), and_from _ _ (short_is e place h.2.2.small) (assigned_short ks es (expr_end e place) h.2.3))
  statement_sized (claim b) at h = (ap (λ (n : ℕ). 1 + n) (cond_sized b (at + 6 + 1)), cond_short b (at + 6 + 1) h.sorted)

  statements_sized : (xs : List StatementTree) (at : ℕ) → AreStatements d sorts xs → (total statement_nodes (statements_syntax xs at) ≡ statements_size xs) × (all_pass statement_short (statements_syntax xs at) ≡ true)
  statements_sized [] at h = (refl, refl)
  statements_sized (x ∷ xs) at h =
      let first = statement_sized x at h.0 in
      let more = statements_sized xs (statement_end x at) h.1 in
      (ap (λ (n : ℕ). n + total statement_nodes (statements_syntax xs (statement_end x at))) first.0 ∙ ap (λ (n : ℕ). statement_size x + n) more.0, and_from _ _ first.1 more.1)

  jump_sized : (n : ℕ) (results : List Sort) (j : JumpTree) (at : ℕ) → IsPlainJump d sorts n results j → (jump_nodes (jump_syntax j at) ≡ jump_size j) × (jump_short (jump_syntax j at) ≡ true)
  jump_sized n results (goto k) at h = (refl, refl)
  jump_sized n results (branch b k l) at h = (ap (λ (m : ℕ). 1 + m) (cond_sized b (at + 2 + 1)), cond_short b (at + 2 + 1) h.0.sorted)
  jump_sized n results (return []) at h = (refl, refl)
  jump_sized n [] (return (e ∷ es)) at h = absurd h
  jump_sized n (s ∷ ss) (return (e ∷ es)) at h =
      let first = expr_sized e (at + 6 + 1) in
      let more = exprs_sized es (expr_end e (at + 6 + 1)) in
      (omega (arith, first, more), and_from _ _ (short_is e (at + 6 + 1) h.0.small) (results_short ss es (expr_end e (at + 6 + 1)) h.1))
  jump_sized n results abort at h = (refl, refl)

  blocks_sized : (n : ℕ) (results : List Sort) (k : ℕ) (bs : Graph) (at : ℕ) → AreBlocks d sorts n results bs → (total block_nodes (blocks_syntax k bs at) ≡ graph_size bs) × (all_pass block_short (blocks_syntax k bs at) ≡ true)
  blocks_sized n results k [] at h = (refl, refl)
  blocks_sized n results k (b ∷ bs) at h =
      let inside = statements_sized b.statements (body_place k b at) h.0 in
      let last = jump_sized n results b.jump (statements_end b.statements (body_place k b at)) h.1 in
      let more = blocks_sized n results (k + 1) bs (block_end k b at) h.2 in (
        ap (λ (m : ℕ). 1 + (m + jump_nodes (jump_syntax b.jump (statements_end b.statements (body_place k b at)))) + total block_nodes (blocks_syntax (k + 1) bs (block_end k b at))) inside.0
            ∙ ap (λ (m : ℕ). 1 + (statements_size b.statements + m) + total block_nodes (blocks_syntax (k + 1) bs (block_end k b at))) last.0
            ∙ ap (λ (m : ℕ). 1 + (statements_size b.statements + jump_size b.jump) + m) more.0,
        and_from _ _ (and_from _ _ inside.1 last.1) more.1,
      )

  -- a graph within the limits is counted
  pub graph_counted : (results : List Sort) (g : Graph) (m at : ℕ) → IsPlainGraph d sorts results g → m + graph_size g ≤ MAX_TEXT_NODES → nodes_with m (blocks_syntax 0 g at) ≡ Some (m + graph_size g)
  graph_counted results g m at plain room =
      let sized = blocks_sized (length g) results 0 g at plain.blocks in
      let small = plain.small in
      rw (sized.1, sized.0, le-ltb MAX_TERM_NODES (graph_size g) small, le-ltb MAX_TEXT_NODES (m + graph_size g) room) refl

  -- ---- the sorts of results

  module _ (few : length sorts ≤ 2 ^ 64) (small : length d.functions ≤ 2 ^ 64) (s : ScopeParts) (scope : IsScope d sorts s) where
    result_shown : (e : ExprTree) (sort : Sort) (at : ℕ) → IsPlainExpr d sorts sort e → sort_of_first s (first_name (expr_syntax e at)) ≡ shown_sort sorts e
    result_shown e sort at h = shown_is d sorts few small s scope (first_name (expr_syntax e at)) (shown_sort sorts e) (shows d sorts few small s scope e sort at h.sorted)

    named_shown : (ss : List Sort) (es : List ExprTree) (at : ℕ) → AreResults d sorts ss es → named_sorts s (more_exprs_syntax es at) ≡ map (shown_sort sorts) es
    named_shown [] [] at h = refl
    named_shown [] (e ∷ es) at h = absurd h
    named_shown (sort ∷ ss) [] at h = absurd h
    named_shown (sort ∷ ss) (e ∷ es) at h = rw (result_shown e sort (at + 1 + 1) h.0) (ap (λ l. shown_sort sorts e ∷ l) (named_shown ss es (expr_end e (at + 1 + 1)) h.1))

    no_more : (x : Option Sort) → first_sort x None ≡ x
    no_more None = refl
    no_more (Some sort) = refl

    none_first : (xs : List (Option Sort)) → first_sorts s xs [] ≡ shown_with sorts xs []
    none_first [] = refl
    none_first (x ∷ xs) = rw (no_more x) (ap (λ l. x ∷ l) (none_first xs))

    more_first : (xs : List (Option Sort)) (ss : List Sort) (es : List ExprTree) (at : ℕ) → AreResults d sorts ss es → first_sorts s xs (more_exprs_syntax es at) ≡ shown_with sorts xs es
    more_first [] ss es at h = refl
    more_first (x ∷ xs) [] [] at h = none_first (x ∷ xs)
    more_first (x ∷ xs) [] (e ∷ es) at h = absurd h
    more_first (x ∷ xs) (sort ∷ ss) [] at h = absurd h
    more_first (x ∷ xs) (sort ∷ ss) (e ∷ es) at h =
        rw (result_shown e sort (at + 1 + 1) h.0) (ap (λ l. first_sort x (shown_sort sorts e) ∷ l) (more_first xs ss es (expr_end e (at + 1 + 1)) h.1))

    return_shown : (o : Option (List (Option Sort))) (ss : List Sort) (es : List ExprTree) (at : ℕ) → AreResults d sorts ss es → checking.with_return s o (results_syntax es at) ≡ with_return sorts o es
    return_shown None [] [] at h = refl
    return_shown (Some xs) [] [] at h = ap Some (none_first xs)
    return_shown o [] (e ∷ es) at h = absurd h
    return_shown o (sort ∷ ss) [] at h = absurd h
    return_shown None (sort ∷ ss) (e ∷ es) at h = rw (result_shown e sort (at + 6 + 1) h.0) (ap (λ l. Some (shown_sort sorts e ∷ l)) (named_shown ss es (expr_end e (at + 6 + 1)) h.1))
    return_shown (Some []) (sort ∷ ss) (e ∷ es) at h = refl
    return_shown (Some (x ∷ xs)) (sort ∷ ss) (e ∷ es) at h =
        rw (result_shown e sort (at + 6 + 1) h.0) (ap (λ l. Some (first_sort x (shown_sort sorts e) ∷ l)) (more_first xs ss es (expr_end e (at + 6 + 1)) h.1))

    jump_shown : (o : Option (List (Option Sort))) (n : ℕ) (results : List Sort) (j : JumpTree) (at : ℕ) → IsPlainJump d sorts n results j → checking.with_jump s o (jump_syntax j at) ≡ with_jump sorts o j
    jump_shown o n results (goto k) at h = refl
    jump_shown o n results (branch b k l) at h = refl
    jump_shown o n results (return es) at h = return_shown o results es at h
    jump_shown o n results abort at h = refl

    pub blocks_shown : (o : Option (List (Option Sort))) (n : ℕ) (results : List Sort) (k : ℕ) (bs : Graph) (at : ℕ) → AreBlocks d sorts n results bs → with_all_results s o (blocks_syntax k bs at) ≡ with_blocks sorts o bs
    blocks_shown o n results k [] at h = refl
    blocks_shown o n results k (b ∷ bs) at h =
        ap (λ p. with_all_results s p (blocks_syntax (k + 1) bs (block_end k b at))) (jump_shown o n results b.jump (statements_end b.statements (body_place k b at)) h.1)
        ∙ blocks_shown (with_jump sorts o b.jump) n results (k + 1) bs (block_end k b at) h.2
