-- Graphs of a plain text are resolved to themselves.
use Rattle.std.proofs.Common.{◌≡◌, ◌≤◌, ◌<◌, ◌+◌, ◌^◌, ◌⊎◌, ℕ, suc, List, [], ◌∷◌, ◌++◌, length, map, true, false, nat_eq, Option, Some, None, Ok, slice_get, refl, sym, ap, ◌∙◌, subst, inl, inr, append_assoc, length-append, arith}
use Rattle.std.proofs.lemmas.List.{append-nil}
use Rattle.std.proofs.lemmas.Bool.{lt-ltb, eq-eqb, ne_eqb, false_from_ne_true, cases_eq, or_parts}
use Rattle.std.proofs.lemmas.Option.{slice_get_within}
use Rattle.std.proofs.lemmas.Fmt.{decimal_injective}
use Rattle.std.proofs.lemmas.Slice.Eq.{bytes_eq-Decides}
use Rattle.std.specs.Prelude.{codes}
use Rattle.std.specs.Fmt.{decimal}
use Rattle.std.specs.Str.{bytes_eq}
use Rattle.kat_model.specs.Members.{Has, HasNoDoubles}
use Rattle.text_parser.specs.declared.token.Kind.TheVariants.{Name}
use Rattle.text_parser.specs.TokenParts.{token_parts}
use Rattle.flow_model.specs.declared.sort.Sort.{Sort}
use Rattle.flow_model.specs.Expressions.{ExprTree}
use Rattle.flow_model.specs.Graphs.{StatementTree, assign, claim, JumpTree, goto, branch, return, abort, Block, Graph}
use Rattle.flow_text.specs.declared.limits.TheConstants.{MAX_BLOCKS}
use Rattle.flow_text.specs.Scopes.{ScopeParts}
use Rattle.flow_text.specs.Checking.{found, is_set, targets_after, next_target, expressions_after, expressions_of, firsts, seconds, statement_of, statements_after, block_names, jump_of, returned, next_block, blocks_after, graph_of}
use Rattle.flow_plain.specs.PlainGraphs.{Declared, variable_name, block_name}
use Rattle.flow_plain.specs.PrintableGraphs.{AreAssigned, AreResults, IsPlainStatement, IsPlainJump, AreStatements, AreBlocks}
use Rattle.flow_plain.proofs.PlainPieces.{expr_end, expr_syntax, more_names_syntax, more_exprs_syntax, value_place, statement_end, statement_syntax, statements_end, statements_syntax, results_syntax, jump_syntax, body_place, block_end, block_syntax, blocks_syntax}
use Rattle.flow_plain.proofs.ResolvedExprs.{IsScope, expression_resolved}
use Rattle.flow_plain.proofs.ResolvedConds.{condition_resolved}

-- ---- names of blocks

names_apart : (j k : ℕ) → j < 2 ^ 64 → k < 2 ^ 64 → (j ≡ k → ⊥) → bytes_eq (block_name j) (block_name k) ≡ false
names_apart j k low few other = false_from_ne_true _ (λ t. other (decimal_injective j k low few ((bytes_eq-Decides (decimal j) (decimal k)).0 t)))

same_name : (text : List ℕ) → bytes_eq text text ≡ true
same_name text = (bytes_eq-Decides text text).1 refl

-- block `j` is found by its name among blocks from number `k` on
block_found : (bs : Graph) (j k at : ℕ) → k ≤ j → j < k + length bs → k + length bs ≤ 2 ^ 64 → found (block_names k (blocks_syntax k bs at)) (block_name j) ≡ Some j
block_found [] j k at above below low = absurd (omega (arith, above, below))
block_found (b ∷ bs) j k at above below low = by_case (block_found bs j (k + 1) (block_end k b at)) (cases_eq k j) where
  by_case : (k + 1 ≤ j → j < k + 1 + length bs → k + 1 + length bs ≤ 2 ^ 64 → found (block_names (k + 1) (blocks_syntax (k + 1) bs (block_end k b at))) (block_name j) ≡ Some j) → (k ≡ j) ⊎ (k ≡ j → ⊥) → found (block_names k (blocks_syntax k (b ∷ bs) at)) (block_name j) ≡ Some j
  by_case more (inl same) = subst (λ (i : ℕ). found (block_names k (blocks_syntax k (b ∷ bs) at)) (block_name i) ≡ Some i) same (rw (same_name (block_name k)) refl)
  by_case more (inr other) = rw (names_apart k j (omega (arith, above, below, low)) (omega (arith, below, low)) other) (more (omega (arith, above, other)) (omega (arith, below)) (omega (arith, low)))

-- ---- blocks that lack results: without the sorts of results a `return` has none

abbrev pub filled_jump : Option (List Sort) → JumpTree → JumpTree
filled_jump None (return es) = return []
filled_jump None (goto k) = goto k
filled_jump None (branch b k l) = branch b k l
filled_jump None abort = abort
filled_jump (Some results) j = j

abbrev pub filled : Option (List Sort) → Block → Block
filled o b = record { is_cut = b.is_cut; statements = b.statements; jump = filled_jump o b.jump }

abbrev pub AreSorts : List Sort → Option (List Sort) → Type 0
AreSorts results None = Unit {0}
AreSorts results (Some ss) = ss ≡ results

pub all_filled : (results : List Sort) (g : Graph) → map (filled (Some results)) g ≡ g
all_filled results [] = refl
all_filled results (b ∷ bs) = ap (λ (l : Graph). b ∷ l) (all_filled results bs)

module _ (d : Declared) (sorts : List Sort) (few : length sorts ≤ 2 ^ 64) (small : length d.functions ≤ 2 ^ 64) (s : ScopeParts) (scope : IsScope d sorts s) where
  -- ---- expressions one after the other

  more_resolved : (ss : List Sort) (es before : List ExprTree) (at : ℕ) → AreResults d sorts ss es → expressions_after s before ss (more_exprs_syntax es at) ≡ Ok (before ++ es)
  more_resolved [] [] before at h = ap Ok (sym (append-nil before))
  more_resolved [] (e ∷ es) before at h = absurd h
  more_resolved (sort ∷ ss) [] before at h = absurd h
  more_resolved (sort ∷ ss) (e ∷ es) before at h =
      rw (expression_resolved d sorts few small s scope e sort (at + 1 + 1) h.0.sorted) (more_resolved ss es (before ++ e ∷ []) (expr_end e (at + 1 + 1)) h.1 ∙ ap Ok (append_assoc before (e ∷ []) es))

  all_resolved : (sort : Sort) (ss : List Sort) (e : ExprTree) (es : List ExprTree) (at : ℕ) → AreResults d sorts (sort ∷ ss) (e ∷ es) → expressions_of s (sort ∷ ss) (expr_syntax e at ∷ more_exprs_syntax es (expr_end e at)) ≡ Ok (e ∷ es)
  all_resolved sort ss e es at h = rw (expression_resolved d sorts few small s scope e sort at h.0.sorted) (more_resolved ss es (e ∷ []) (expr_end e at) h.1)

  same_count : (ss : List Sort) (es : List ExprTree) (at : ℕ) → AreResults d sorts ss es → length ss ≡ length (more_exprs_syntax es at)
  same_count [] [] at h = refl
  same_count [] (e ∷ es) at h = absurd h
  same_count (sort ∷ ss) [] at h = absurd h
  same_count (sort ∷ ss) (e ∷ es) at h = ap suc (same_count ss es (expr_end e (at + 1 + 1)) h.1)

  -- ---- assignments

  abbrev Targets : Type 0
  Targets = List (ℕ × Sort)

  is_set_more : (before : Targets) (x : ℕ × Sort) (k : ℕ) → is_set before k ≡ false → (x.0 ≡ k → ⊥) → is_set (before ++ x ∷ []) k ≡ false
  is_set_more [] x k new other = rw (ne_eqb x.0 k other) refl
  is_set_more (y ∷ ys) x k new other =
      let parts = or_parts (nat_eq y.0 k) (is_set ys k) new in rw parts.0 (is_set_more ys x k parts.1 other)

  target_found : (before : Targets) (k at : ℕ) (sort : Sort) → slice_get sorts k ≡ Some sort → is_set before k ≡ false → next_target s before (token_parts Name at (variable_name k)) ≡ Ok (k, sort)
  target_found before k at sort e new =
      let known : slice_get s.variables k ≡ Some sort = ap (λ l. slice_get l k) scope.variables ∙ e in
      rw (scope.variable_meant k at (slice_get_within sorts k sort e), known, new) refl

  abbrev target_pairs : (ks : List ℕ) (es : List ExprTree) → AreAssigned d sorts ks es → Targets
  target_pairs [] [] h = []
  target_pairs [] (e ∷ es) h = absurd h
  target_pairs (k ∷ ks) [] h = absurd h
  target_pairs (k ∷ ks) (e ∷ es) h = (k, h.0) ∷ target_pairs ks es h.3

  pairs_first : (ks : List ℕ) (es : List ExprTree) (h : AreAssigned d sorts ks es) → firsts (target_pairs ks es h) ≡ ks
  pairs_first [] [] h = refl
  pairs_first [] (e ∷ es) h = absurd h
  pairs_first (k ∷ ks) [] h = absurd h
  pairs_first (k ∷ ks) (e ∷ es) h = ap (λ (l : List ℕ). k ∷ l) (pairs_first ks es h.3)

  pairs_sorted : (ks : List ℕ) (es : List ExprTree) (h : AreAssigned d sorts ks es) → AreResults d sorts (seconds (target_pairs ks es h)) es
  pairs_sorted [] [] h = tt
  pairs_sorted [] (e ∷ es) h = absurd h
  pairs_sorted (k ∷ ks) [] h = absurd h
  pairs_sorted (k ∷ ks) (e ∷ es) h = (h.2, pairs_sorted ks es h.3)

  pairs_many : (ks : List ℕ) (es : List ExprTree) (at place : ℕ) → AreAssigned d sorts ks es → length (more_names_syntax (map variable_name ks) at) ≡ length (more_exprs_syntax es place)
  pairs_many [] [] at place h = refl
  pairs_many [] (e ∷ es) at place h = absurd h
  pairs_many (k ∷ ks) [] at place h = absurd h
  pairs_many (k ∷ ks) (e ∷ es) at place h = ap suc (pairs_many ks es (at + 1 + 1 + length (variable_name k)) (expr_end e (place + 1 + 1)) h.3)

  targets_resolved : (ks : List ℕ) (es : List ExprTree) (h : AreAssigned d sorts ks es) (before : Targets) (at : ℕ) → HasNoDoubles ks → ((k : ℕ) → Has ks k → is_set before k ≡ false) → targets_after s before (more_names_syntax (map variable_name ks) at) ≡ Ok (before ++ target_pairs ks es h)
  targets_resolved [] [] h before at apart new = ap Ok (sym (append-nil before))
  targets_resolved [] (e ∷ es) h before at apart new = absurd h
  targets_resolved (k ∷ ks) [] h before at apart new = absurd h
  targets_resolved (k ∷ ks) (e ∷ es) h before at apart new =
      rw (target_found before k (at + 1 + 1) h.0 h.1 (new k (inl refl)))
      (targets_resolved ks es h.3 (before ++ (k, h.0) ∷ []) (at + 1 + 1 + length (variable_name k)) apart.1 (λ j i. is_set_more before (k, h.0) j (new j (inr i)) (λ e. apart.0 (subst (Has ks) (sym e) i)))
      ∙ ap Ok (append_assoc before ((k, h.0) ∷ []) (target_pairs ks es h.3)))

  assign_resolved : (k : ℕ) (ks : List ℕ) (e : ExprTree) (es : List ExprTree) (at : ℕ) → HasNoDoubles (k ∷ ks) → AreAssigned d sorts (k ∷ ks) (e ∷ es) → statement_of s (statement_syntax (assign (k ∷ ks) (e ∷ es)) at) ≡ Ok (assign (k ∷ ks) (e ∷ es))
  assign_resolved k ks e es at apart h =
      let pairs = target_pairs ks es h.3 in
      let place = at + length (variable_name k) in
      let value = value_place k ks at in
      rw (target_found [] k at h.0 h.1 refl, targets_resolved ks es h.3 ((k, h.0) ∷ []) place apart.1 (λ j i. is_set_more [] (k, h.0) j refl (λ e. apart.0 (subst (Has ks) (sym e) i))), eq-eqb _ _ (ap suc (pairs_many ks es place (expr_end e value) h.3)), all_resolved h.0 (seconds pairs) e es value (h.2, pairs_sorted ks es h.3))
      (ap (λ (l : List ℕ). Ok (assign (k ∷ l) (e ∷ es))) (pairs_first ks es h.3))

  statement_resolved : (x : StatementTree) (at : ℕ) → IsPlainStatement d sorts x → statement_of s (statement_syntax x at) ≡ Ok x
  statement_resolved (assign [] es) at h = absurd (h.0 refl)
  statement_resolved (assign (k ∷ ks) []) at h = absurd h.2
  statement_resolved (assign (k ∷ ks) (e ∷ es)) at h = assign_resolved k ks e es at h.1 h.2
  statement_resolved (claim b) at h = rw (condition_resolved d sorts few small s scope b (at + 6 + 1) h.sorted) refl

  statements_resolved : (xs before : List StatementTree) (at : ℕ) → AreStatements d sorts xs → statements_after s before (statements_syntax xs at) ≡ Ok (before ++ xs)
  statements_resolved [] before at h = ap Ok (sym (append-nil before))
  statements_resolved (x ∷ xs) before at h = rw (statement_resolved x at h.0) (statements_resolved xs (before ++ x ∷ []) (statement_end x at) h.1 ∙ ap Ok (append_assoc before (x ∷ []) xs))

  -- ---- jumps and blocks

  results_resolved : (results : List Sort) (es : List ExprTree) (at : ℕ) → AreResults d sorts results es → returned s (Some results) (token_parts Name at (codes "return")) (results_syntax es at) ≡ Ok (return es)
  results_resolved [] [] at h = refl
  results_resolved [] (e ∷ es) at h = absurd h
  results_resolved (sort ∷ ss) [] at h = absurd h
  results_resolved (sort ∷ ss) (e ∷ es) at h = rw (eq-eqb _ _ (ap suc (same_count ss es (expr_end e (at + 6 + 1)) h.1)), all_resolved sort ss e es (at + 6 + 1) h) refl

  module _ (n : ℕ) (results : List Sort) (find : List ℕ → Option ℕ) (finds : (k : ℕ) → k < n → find (block_name k) ≡ Some k) where
    jump_resolved : (o : Option (List Sort)) (j : JumpTree) (at : ℕ) → AreSorts results o → IsPlainJump d sorts n results j → jump_of s o find (jump_syntax j at) ≡ Ok (filled_jump o j)
    jump_resolved None (goto k) at are h = rw (finds k h) refl
    jump_resolved (Some ss) (goto k) at are h = rw (finds k h) refl
    jump_resolved None (branch b k l) at are h = rw (condition_resolved d sorts few small s scope b (at + 2 + 1) h.0.sorted, finds k h.1, finds l h.2) refl
    jump_resolved (Some ss) (branch b k l) at are h = rw (condition_resolved d sorts few small s scope b (at + 2 + 1) h.0.sorted, finds k h.1, finds l h.2) refl
    jump_resolved None (return es) at are h = refl
    jump_resolved (Some ss) (return es) at are h = rw are (results_resolved results es at h)
    jump_resolved None abort at are h = refl
    jump_resolved (Some ss) abort at are h = refl

    block_resolved : (o : Option (List Sort)) (k : ℕ) (b : Block) (at : ℕ) → AreSorts results o → k < n → k < MAX_BLOCKS → AreStatements d sorts b.statements → IsPlainJump d sorts n results b.jump → next_block s o find k (block_syntax k b at) ≡ Ok (filled o b)
    block_resolved o k b at are inside low statements jump =
        rw (finds k inside, eq-eqb k k refl, lt-ltb k MAX_BLOCKS low, statements_resolved b.statements [] (body_place k b at) statements, jump_resolved o b.jump (statements_end b.statements (body_place k b at)) are jump) refl

    blocks_resolved : (o : Option (List Sort)) (bs before : Graph) (k at : ℕ) → AreSorts results o → length before ≡ k → k + length bs ≤ n → n ≤ MAX_BLOCKS → AreBlocks d sorts n results bs → blocks_after s o find before (blocks_syntax k bs at) ≡ Ok (before ++ map (filled o) bs)
    blocks_resolved o [] before k at are count inside low h = ap Ok (sym (append-nil before))
    blocks_resolved o (b ∷ bs) before k at are count inside low h =
        let longer : length (before ++ filled o b ∷ []) ≡ k + 1 = length-append before (filled o b ∷ []) ∙ ap (λ (i : ℕ). i + 1) count in
        rw (count, block_resolved o k b at are (omega (arith, inside)) (omega (arith, inside, low)) h.0 h.1)
        (blocks_resolved o bs (before ++ filled o b ∷ []) (k + 1) (block_end k b at) are longer (omega (arith, inside)) low h.2 ∙ ap Ok (append_assoc before (filled o b ∷ []) (map (filled o) bs)))

  -- a graph is resolved to itself, but for the results where their sorts are not known yet
  pub graph_resolved : (o : Option (List Sort)) (results : List Sort) (g : Graph) (at : ℕ) → AreSorts results o → length g ≤ MAX_BLOCKS → AreBlocks d sorts (length g) results g → graph_of s o (blocks_syntax 0 g at) ≡ Ok (map (filled o) g)
  graph_resolved o results g at are low h =
      blocks_resolved (length g) results (found (block_names 0 (blocks_syntax 0 g at))) (λ k inside. block_found g k 0 at (omega arith) (omega (arith, inside)) (omega (arith, low))) o g [] 0 at are refl (omega arith) low h
