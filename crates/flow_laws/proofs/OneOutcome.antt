-- The ways of a whole graph are those of its trees.
use Rattle.std.proofs.Common.{◌≡◌, ℕ, zero, suc, Bool, true, List, [], ◌∷◌, length, map, Option, Some, None, slice_get, if◌then◌else◌, refl, sym, ◌∙◌, ap}
use mathlib.Core.Path.{ap₂}
use Rattle.std.specs.List.{list_all}
use Rattle.std.proofs.lemmas.List.{length-map}
use Rattle.flow_model.specs.declared.sort.Sort.{Sort}
use Rattle.flow_model.specs.declared.graph.Jump.{Jump}
use Rattle.flow_model.specs.declared.graph.Jump.TheVariants.{Goto, Branch, Return, Abort}
use Rattle.flow_model.specs.declared.graph.Block.{Block as ABlock}
use Rattle.flow_model.specs.Polish.{cond_of, values_of, statement_of, jump_of, block_of, graph_of}
use Rattle.flow_ways.specs.Conditions.{FlowCondTree, opposite_cond}
use Rattle.flow_ways.specs.Ways.{SymbolicRun, with_test, condition_on, after_statements, first_course}
use Rattle.flow_ways.specs.Outcomes.{Outcome, together, if_fits, outcome_if, one_way, placed_way, branch_outcome, jump_outcome, block_outcome, outcome_from}
use Rattle.flow_model.specs.WholeGraphs.{is_whole_statement, is_whole_jump, is_whole_block, are_whole_blocks}
use Rattle.flow_laws.specs.GraphOutcomes.{result_way, jump_tree_outcome, block_tree_outcome, graph_outcome_from}
use Rattle.flow_laws.specs.Laws.{WholeOutcomes}
use Rattle.flow_laws.proofs.TreeFits.{both_true, values_whole, cond_whole, statements_whole}

-- both continue alike
abbrev SameWays : (ℕ → SymbolicRun → Outcome) → (ℕ → SymbolicRun → Outcome) → Type 0
SameWays go other = (k : ℕ) (c : SymbolicRun) → go k c ≡ other k c

same_if : (o : Option SymbolicRun) (f g : SymbolicRun → Outcome) → ((c : SymbolicRun) → f c ≡ g c) → outcome_if o f ≡ outcome_if o g
same_if None f g same = refl
same_if (Some c) f g same = same c

module _ (sorts : List Sort) (go other : ℕ → SymbolicRun → Outcome) (same : SameWays go other) where
  same_branch : (c : SymbolicRun) (b : FlowCondTree) (k l : ℕ) → branch_outcome c b (go k) (go l) ≡ branch_outcome c b (other k) (other l)
  same_branch c b k l =
      ap₂ together (same_if (with_test c b) (go k) (other k) (same k)) (same_if (with_test c (opposite_cond b)) (go l) (other l) (same l))

  jump_whole : (j : Jump) (c : SymbolicRun) → is_whole_jump j ≡ true → jump_outcome sorts go j c ≡ jump_tree_outcome sorts other (jump_of j) c
  jump_whole (Goto k) c h = same k c
  jump_whole (Branch b k l) c h = ap₂ if_fits (cond_whole sorts c.forms b.items h) (same_branch c (condition_on sorts c (cond_of b.items)) k l)
  jump_whole (Return es) c h = ap (λ fits. if_fits fits (one_way (result_way sorts (values_of es.items) c))) (values_whole sorts c.forms es.items h)
  jump_whole Abort c h = refl

  block_whole : (block : ABlock) (c : SymbolicRun) → is_whole_block block ≡ true → block_outcome sorts go (Some block) c ≡ block_tree_outcome sorts other (Some (block_of block)) c
  block_whole block c h =
      let parts = both_true (list_all is_whole_statement block.statements.items) (is_whole_jump block.jump) h in
      ap₂ if_fits (statements_whole sorts block.statements.items c parts.0)
      (same_if (after_statements sorts (map statement_of block.statements.items) c) (jump_outcome sorts go block.jump) (jump_tree_outcome sorts other (jump_of block.jump)) (λ d. jump_whole block.jump d parts.1))

  at_whole : (blocks : List ABlock) (k : ℕ) (c : SymbolicRun) → are_whole_blocks blocks ≡ true → block_outcome sorts go (slice_get blocks k) c ≡ block_tree_outcome sorts other (slice_get (graph_of blocks) k) c
  at_whole [] k c h = refl
  at_whole (block ∷ blocks) zero c h = block_whole block c (both_true (is_whole_block block) (are_whole_blocks blocks) h).0
  at_whole (block ∷ blocks) (suc k) c h = at_whole blocks k c (both_true (is_whole_block block) (are_whole_blocks blocks) h).1

module _ (blocks : List ABlock) (whole : are_whole_blocks blocks ≡ true) (sorts : List Sort) (is_place : ℕ → Bool) where
  same_target : (goes : Bool) (l : ℕ) (c : SymbolicRun) (o p : Outcome) → o ≡ p → (if goes then one_way (placed_way l c) else o) ≡ (if goes then one_way (placed_way l c) else p)
  same_target goes l c o p e = ap (λ x. if goes then one_way (placed_way l c) else x) e

  from_whole : (n k : ℕ) (c : SymbolicRun) → outcome_from blocks sorts is_place n k c ≡ graph_outcome_from (graph_of blocks) sorts is_place n k c
  from_whole zero k c = refl
  from_whole (suc n) k c =
      at_whole sorts
      (λ l next. if is_place l then one_way (placed_way l next) else outcome_from blocks sorts is_place n l next)
      (λ l next. if is_place l then one_way (placed_way l next) else graph_outcome_from (graph_of blocks) sorts is_place n l next)
      (λ l next. same_target (is_place l) l next (outcome_from blocks sorts is_place n l next) (graph_outcome_from (graph_of blocks) sorts is_place n l next) (from_whole n l next))
      blocks k c whole

pub whole_outcomes : WholeOutcomes
whole_outcomes blocks whole sorts is_place k =
    from_whole blocks whole sorts is_place (length blocks) k (first_course sorts)
    ∙ ap (λ n. graph_outcome_from (graph_of blocks) sorts is_place n k (first_course sorts)) (sym (length-map blocks block_of))
