-- Tables that rounds extend.
use Rattle.std.proofs.Common.{◌≡◌, ℕ, zero, suc, ◌-◌, ◌<◌, ◌≤◌, Bool, true, false, cond, not, ◌&&◌, ◌||◌, nat_lt, List, [], ◌∷◌, ◌++◌, length, map, refl, sym, ap, ◌∙◌, arith}
use Rattle.std.specs.List.{list_any, flat_map}
use Rattle.std.proofs.lemmas.List.{length-append, length-map, map_push}
use Rattle.std.proofs.lemmas.Bool.{lt-ltb, le-ltb}
use Rattle.kat_model.specs.declared.limits.TheConstants.{MAX_TESTS}
use Rattle.flow_model.specs.declared.sort.Sort.{Sort}
use Rattle.flow_forms.specs.declared.comparison.FlowComparison.{FlowComparison}
use Rattle.flow_forms.specs.Comparisons.{FlowComparisonTree, comparison_tree, is_same_comparison}
use Rattle.flow_problem.specs.Edges.{FlowActionTree}
use Rattle.flow_problem.specs.FlowRounds.{comparisons_before, with_comparison, with_comparisons, flow_round, flow_rounds}

-- ---- one comparison after another

with_comparisons-append : (table cs ds : List FlowComparisonTree) → with_comparisons table (cs ++ ds) ≡ with_comparisons (with_comparisons table cs) ds
with_comparisons-append table [] ds = refl
with_comparisons-append table (c ∷ cs) ds = with_comparisons-append (with_comparison table c) cs ds

pub table_then : (old mid new cs ds : List FlowComparisonTree) → mid ≡ with_comparisons old cs → new ≡ with_comparisons mid ds → new ≡ with_comparisons old (cs ++ ds)
table_then old mid new cs ds e f = f ∙ ap (λ t. with_comparisons t ds) e ∙ sym (with_comparisons-append old cs ds)

-- a table that is full, or has the comparison
and_false : (b : Bool) → (b && false) ≡ false
and_false true = refl
and_false false = refl

full : (table : List FlowComparisonTree) (c : FlowComparisonTree) → MAX_TESTS ≤ length table → with_comparison table c ≡ table
full table c h = rw (le-ltb (length table) MAX_TESTS h, and_false (not (list_any (is_same_comparison c) table))) refl

all_full : (table cs : List FlowComparisonTree) → MAX_TESTS ≤ length table → with_comparisons table cs ≡ table
all_full table [] h = refl
all_full table (c ∷ cs) h = rw (full table c h) (all_full table cs h)

pub full_table : (xs : List FlowComparison) (c : FlowComparisonTree) → MAX_TESTS ≤ length xs → map comparison_tree xs ≡ with_comparison (map comparison_tree xs) c
full_table xs c h = sym (full (map comparison_tree xs) c (omega (arith, length-map xs comparison_tree)))

pub full_tables : (xs : List FlowComparison) (cs : List FlowComparisonTree) → MAX_TESTS ≤ length xs → map comparison_tree xs ≡ with_comparisons (map comparison_tree xs) cs
full_tables xs cs h = sym (all_full (map comparison_tree xs) cs (omega (arith, length-map xs comparison_tree)))

any_mapped : (c : FlowComparisonTree) (xs : List FlowComparison) → list_any (λ x. is_same_comparison c (comparison_tree x)) xs ≡ list_any (is_same_comparison c) (map comparison_tree xs)
any_mapped c [] = refl
any_mapped c (x ∷ xs) = ap (λ b. is_same_comparison c (comparison_tree x) || b) (any_mapped c xs)

pub row_there : (xs : List FlowComparison) (c : FlowComparison) → list_any (λ x. is_same_comparison (comparison_tree c) (comparison_tree x)) xs ≡ true → map comparison_tree xs ≡ with_comparison (map comparison_tree xs) (comparison_tree c)
row_there xs c h = let there = sym (any_mapped (comparison_tree c) xs) ∙ h in rw (there) refl

pub row_added : (xs : List FlowComparison) (c : FlowComparison) → list_any (λ x. is_same_comparison (comparison_tree c) (comparison_tree x)) xs ≡ false → length xs < MAX_TESTS →
    map comparison_tree (xs ++ c ∷ []) ≡ with_comparison (map comparison_tree xs) (comparison_tree c)
row_added xs c h lt =
    let there = sym (any_mapped (comparison_tree c) xs) ∙ h in
    let short : length (map comparison_tree xs) < MAX_TESTS = omega (arith, length-map xs comparison_tree) in
    map_push comparison_tree xs c ∙ sym (rw (there, lt-ltb (length (map comparison_tree xs)) MAX_TESTS short) refl)

-- ---- rounds

one_grows : (b : Bool) (table : List FlowComparisonTree) (c : FlowComparisonTree) → length table ≤ length (cond b (table ++ c ∷ []) table)
one_grows true table c = omega (arith, length-append table (c ∷ []))
one_grows false table c = omega arith

grows : (table cs : List FlowComparisonTree) → length table ≤ length (with_comparisons table cs)
grows table [] = omega arith
grows table (c ∷ cs) =
    let first = one_grows (not (list_any (is_same_comparison c) table) && nat_lt (length table) MAX_TESTS) table c in
    let rest = grows (with_comparison table c) cs in omega (arith, first, rest)

-- a table of the same length is the same
unchanged : (table cs : List FlowComparisonTree) → length (with_comparisons table cs) ≡ length table → with_comparisons table cs ≡ table
unchanged table [] h = refl
unchanged table (c ∷ cs) h = by_test (not (list_any (is_same_comparison c) table) && nat_lt (length table) MAX_TESTS) refl (λ next. unchanged next cs) (grows (with_comparison table c) cs)
  where
    by_test : (b : Bool) → b ≡ (not (list_any (is_same_comparison c) table) && nat_lt (length table) MAX_TESTS) → ((next : List FlowComparisonTree) → length (with_comparisons next cs) ≡ length next → with_comparisons next cs ≡ next)
        → length (with_comparison table c) ≤ length (with_comparisons (with_comparison table c) cs) → with_comparisons (with_comparison table c) cs ≡ table
    by_test true e rest more =
        let next : with_comparison table c ≡ table ++ c ∷ [] = rw (← e) refl in
        absurd (omega (arith, h, more, ap length next, length-append table (c ∷ [])))
    by_test false e rest more =
        let next : with_comparison table c ≡ table = rw (← e) refl in
        let same : length (with_comparisons (with_comparison table c) cs) ≡ length (with_comparison table c) = h ∙ sym (ap length next) in
        rest (with_comparison table c) same ∙ next

module _ (sorts : List Sort) (actions : List FlowActionTree) where
  pub no_rounds : (n : ℕ) (table : List FlowComparisonTree) → n ≡ 0 → table ≡ flow_rounds n sorts actions table
  no_rounds n table e = ap (λ k. flow_rounds k sorts actions table) (sym e)

  stays : (n : ℕ) (table : List FlowComparisonTree) → flow_round sorts actions table ≡ table → flow_rounds n sorts actions table ≡ table
  stays zero table h = refl
  stays (suc n) table h = ap (flow_rounds n sorts actions) h ∙ stays n table h

  -- a round that adds nothing is the last
  pub rounds_stop : (n : ℕ) (table new : List FlowComparison) → map comparison_tree new ≡ flow_round sorts actions (map comparison_tree table) → length new ≡ length table →
      map comparison_tree new ≡ flow_rounds n sorts actions (map comparison_tree table)
  rounds_stop n table new e h =
      let first = map comparison_tree table in
      let same : length (flow_round sorts actions first) ≡ length first = sym (ap length e) ∙ length-map new comparison_tree ∙ h ∙ sym (length-map table comparison_tree) in
      let last : flow_round sorts actions first ≡ first = unchanged first (flat_map (comparisons_before sorts first) actions) same in
      e ∙ last ∙ sym (stays n first last)

  pub rounds_go_on : (n : ℕ) (table mid new : List FlowComparisonTree) → 0 < n → mid ≡ flow_round sorts actions table → new ≡ flow_rounds (n - 1) sorts actions mid → new ≡ flow_rounds n sorts actions table
  rounds_go_on zero table mid new h e f = absurd (omega arith)
  rounds_go_on (suc n) table mid new h e f =
      let k : suc n - 1 ≡ n = omega arith in
      f ∙ ap (λ i. flow_rounds i sorts actions mid) k ∙ ap (flow_rounds n sorts actions) e
