-- What is met in graphs is in the tables of a problem.
use Rattle.std.proofs.Common.{◌≡◌, ℕ, zero, suc, ◌+◌, inl, inr, Bool, true, false, not, ◌&&◌, nat_lt, List, [], ◌∷◌, ◌++◌, length, flat_map, slice_get, Some, if◌then◌else◌, refl, ◌∙◌, ap, subst, arith}
use Rattle.std.specs.List.{list_any, enumerate_from}
use Rattle.kat_model.specs.Members.{Has, IsSubset}
use Rattle.kat_model.specs.declared.limits.TheConstants.{MAX_TESTS}
use Rattle.kat_model.proofs.Lists.{has_left}
use Rattle.flow_model.specs.declared.sort.Sort.{Sort}
use Rattle.flow_forms.specs.Comparisons.{FlowComparisonTree, is_same_comparison}
use Rattle.flow_problem.specs.Edges.{FlowActionTree, Edge, is_idle}
use Rattle.flow_problem.specs.EdgeTerms.{edge_actions}
use Rattle.flow_problem.specs.FlowRounds.{comparisons_before, with_comparison, with_comparisons, flow_round, flow_rounds}

-- ---- rounds keep what is in the table

comparison_kept : (table : List FlowComparisonTree) (c x : FlowComparisonTree) → Has table x → Has (with_comparison table c) x
comparison_kept table c x h = go (not (list_any (is_same_comparison c) table) && nat_lt (length table) MAX_TESTS)
  where
    go : (b : Bool) → Has (if b then table ++ c ∷ [] else table) x
    go true = has_left table (c ∷ []) x h
    go false = h

comparisons_kept : (table cs : List FlowComparisonTree) → IsSubset table (with_comparisons table cs)
comparisons_kept table [] x h = h
comparisons_kept table (c ∷ cs) x h = comparisons_kept (with_comparison table c) cs x (comparison_kept table c x h)

pub rounds_keep : (n : ℕ) (sorts : List Sort) (actions : List FlowActionTree) (table : List FlowComparisonTree) → IsSubset table (flow_rounds n sorts actions table)
rounds_keep zero sorts actions table x h = h
rounds_keep (suc n) sorts actions table x h =
    rounds_keep n sorts actions (flow_round sorts actions table) x (comparisons_kept table (flat_map (comparisons_before sorts table) actions) x h)

-- ---- the edges of a graph

pub action_met : (e : Edge) → is_idle e.action ≡ false → Has (edge_actions e) e.action
action_met e h = rw (h) (inl refl)

-- ---- numbered rows

record IsNumbered {X : Type 0} (n : ℕ) (xs : List X) (row : ℕ × X) : Type 0 where
  place : ℕ
  number : row.0 ≡ n + place
  there : slice_get xs place ≡ Some row.1

numbered : {X : Type 0} (n : ℕ) (xs : List X) (row : ℕ × X) → Has (enumerate_from n xs) row → IsNumbered n xs row
numbered n [] row h = absurd h
numbered n (x ∷ xs) row (inl e) = subst (IsNumbered n (x ∷ xs)) e (record { place = 0; number = omega arith; there = refl })
numbered n (x ∷ xs) row (inr h) =
    let r = numbered (n + 1) xs row h in
    record { place = suc r.place; number = r.number ∙ omega arith; there = r.there }

pub row_there : {X : Type 0} (xs : List X) (row : ℕ × X) → Has (enumerate_from 0 xs) row → slice_get xs row.0 ≡ Some row.1
row_there xs row h =
    let r = numbered 0 xs row h in
    ap (slice_get xs) (r.number ∙ omega arith) ∙ r.there
