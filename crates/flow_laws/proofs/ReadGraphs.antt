-- A graph of a file that is sorted is whole, and its trees are the first trees of its nodes.
use Rattle.std.proofs.Common.{◌≡◌, ℕ, Bool, true, false, ◌&&◌, nat_eq, List, [], ◌∷◌, length, map, refl, ◌∙◌, ap, subst}
use Rattle.std.specs.Prelude.{Vec}
use Rattle.std.specs.List.{list_all}
use Rattle.std.specs.declared.alloc.Global.{Global}
use mathlib.Core.Path.{ap₂}
use Rattle.flow_model.specs.declared.sort.Sort.{Sort}
use Rattle.flow_model.specs.declared.graph.ExprNode.{ExprNode}
use Rattle.flow_model.specs.declared.graph.CondNode.{CondNode}
use Rattle.flow_model.specs.declared.graph.CondNode.TheVariants.{Always, Never, Compared, ComparedSigned, Negation, Both, Either}
use Rattle.flow_model.specs.declared.graph.Statement.{Statement}
use Rattle.flow_model.specs.declared.graph.Statement.TheVariants.{Assign, Claim}
use Rattle.flow_model.specs.declared.graph.Jump.{Jump}
use Rattle.flow_model.specs.declared.graph.Jump.TheVariants.{Goto, Branch, Return, Abort}
use Rattle.flow_model.specs.declared.graph.Block.{Block as ABlock}
use Rattle.flow_model.specs.Expressions.{ExprTree}
use Rattle.flow_model.specs.Conditions.{CondTree, compared, compared_signed}
use Rattle.flow_model.specs.Graphs.{StatementTree, assign, claim, JumpTree, branch, return, Block}
use Rattle.flow_model.specs.Polish.{first_expr, exprs_of, expr_of, first_cond, other_conds, CondPart, a_condition, a_negation, a_conjunction, a_disjunction, conds_of, cond_part, cond_of, values_of, statement_of, jump_of, block_of, graph_of}
use Rattle.flow_forms.specs.Expressions.{IsSorted}
use Rattle.flow_ways.specs.Conditions.{IsSortedCond}
use Rattle.flow_ways.specs.Sorted.{AreSorted, AreAssigned, AreSortedStatements, IsSortedJump, IsSortedBlock, IsSortedGraph}
use Rattle.flow_text.specs.Trees as read
use Rattle.flow_text.specs.Trees.{only_expr, only_cond}
use Rattle.flow_laws.proofs.SortedGraphs.{IsPart, AreParts, AreConds}
use Rattle.flow_model.specs.WholeGraphs.{is_whole_expr, are_whole_exprs, has_whole_sides, is_whole_cond, is_whole_statement, is_whole_jump, is_whole_block, are_whole_blocks}

pub both : (a b : Bool) → a ≡ true → b ≡ true → (a && b) ≡ true
both a b g h = rw (g, h) refl

module _ (sorts : List Sort) where
  -- ---- expressions

  one_expr : (es : List ExprTree) → IsSorted sorts false (only_expr es) → (nat_eq (length es) 1 ≡ true) × (only_expr es ≡ first_expr es)
  one_expr [] h = absurd h
  one_expr (e ∷ []) h = (refl, refl)
  one_expr (e ∷ f ∷ es) h = absurd h

  pub expr_whole : (ns : List ExprNode) → IsSorted sorts false (read.expr_of ns) → (is_whole_expr ns ≡ true) × (read.expr_of ns ≡ expr_of ns)
  expr_whole ns h = one_expr (exprs_of ns) h

  values_whole : (es : List (Vec ExprNode Global)) → AreSorted sorts (read.values_of es) → (are_whole_exprs es ≡ true) × (read.values_of es ≡ values_of es)
  values_whole [] h = (refl, refl)
  values_whole (e ∷ es) h =
      let one = expr_whole e.items h.0 in
      let more = values_whole es h.1 in
      (both (is_whole_expr e.items) (are_whole_exprs es) one.0 more.0, ap₂ (λ (x : ExprTree) (xs : List ExprTree). x ∷ xs) one.1 more.1)

  assigned_sorted : (ks : List ℕ) (es : List ExprTree) → AreAssigned sorts ks es → AreSorted sorts es
  assigned_sorted [] [] h = tt
  assigned_sorted (k ∷ ks) (e ∷ es) h = (h.1, assigned_sorted ks es h.2)
  assigned_sorted ks es h = absurd h

  -- ---- conditions

  one_cond : (bs : List CondTree) → IsSortedCond sorts (only_cond bs) → (nat_eq (length bs) 1 ≡ true) × (only_cond bs ≡ first_cond bs) × AreConds sorts bs
  one_cond [] h = absurd h.0
  one_cond (b ∷ []) h = (refl, refl, (h, tt))
  one_cond (b ∷ c ∷ bs) h = absurd h.0

  with_first : (bs : List CondTree) → IsSortedCond sorts (first_cond bs) → AreConds sorts (other_conds bs) → AreConds sorts bs
  with_first [] h k = tt
  with_first (b ∷ bs) h k = (h, k)

  parts_sorted : (ps : List CondPart) → AreConds sorts (conds_of ps) → AreParts sorts ps
  parts_sorted [] h = tt
  parts_sorted (a_condition b ∷ ps) h = (h.0, parts_sorted ps h.1)
  parts_sorted (a_negation ∷ ps) h = (tt, parts_sorted ps (with_first (conds_of ps) h.0 h.1))
  parts_sorted (a_conjunction ∷ ps) h = (tt, parts_sorted ps (with_first (conds_of ps) h.0.0 (with_first (other_conds (conds_of ps)) h.0.1 h.1)))
  parts_sorted (a_disjunction ∷ ps) h = (tt, parts_sorted ps (with_first (conds_of ps) h.0.0 (with_first (other_conds (conds_of ps)) h.0.1 h.1)))

  node_whole : (n : CondNode) → IsPart sorts (read.cond_part n) → (has_whole_sides n ≡ true) × (read.cond_part n ≡ cond_part n)
  node_whole Always h = (refl, refl)
  node_whole Never h = (refl, refl)
  node_whole (Compared rel e f) h =
      let left = expr_whole e.items h.0 in
      let right = expr_whole f.items h.1 in
      (both (is_whole_expr e.items) (is_whole_expr f.items) left.0 right.0, ap₂ (λ (x y : ExprTree). a_condition (compared rel x y)) left.1 right.1)
  node_whole (ComparedSigned rel w e f) h =
      let left = expr_whole e.items h.0 in
      let right = expr_whole f.items h.1 in
      (both (is_whole_expr e.items) (is_whole_expr f.items) left.0 right.0, ap₂ (λ (x y : ExprTree). a_condition (compared_signed rel w x y)) left.1 right.1)
  node_whole Negation h = (refl, refl)
  node_whole Both h = (refl, refl)
  node_whole Either h = (refl, refl)

  nodes_whole : (ns : List CondNode) → AreParts sorts (map read.cond_part ns) → (list_all has_whole_sides ns ≡ true) × (map read.cond_part ns ≡ map cond_part ns)
  nodes_whole [] h = (refl, refl)
  nodes_whole (n ∷ ns) h =
      let one = node_whole n h.0 in
      let more = nodes_whole ns h.1 in
      (both (has_whole_sides n) (list_all has_whole_sides ns) one.0 more.0, ap₂ (λ (x : CondPart) (xs : List CondPart). x ∷ xs) one.1 more.1)

  pub cond_whole : (ns : List CondNode) → IsSortedCond sorts (read.cond_of ns) → (is_whole_cond ns ≡ true) × (read.cond_of ns ≡ cond_of ns)
  cond_whole ns h =
      let one = one_cond (conds_of (map read.cond_part ns)) h in
      let nodes = nodes_whole ns (parts_sorted (map read.cond_part ns) one.2) in
      let counted : nat_eq (length (conds_of (map cond_part ns))) 1 ≡ true = subst (λ (ps : List CondPart). nat_eq (length (conds_of ps)) 1 ≡ true) nodes.1 one.0 in
      (both (nat_eq (length (conds_of (map cond_part ns))) 1) (list_all has_whole_sides ns) counted nodes.0, one.1 ∙ ap (λ (ps : List CondPart). first_cond (conds_of ps)) nodes.1)

  -- ---- statements, jumps and blocks

  statements_whole : (ss : List Statement) → AreSortedStatements sorts (map read.statement_of ss) → (list_all is_whole_statement ss ≡ true) × (map read.statement_of ss ≡ map statement_of ss)
  statements_whole [] h = (refl, refl)
  statements_whole (Assign targets es ∷ ss) h =
      let one = values_whole es.items (assigned_sorted targets.items (read.values_of es.items) h.0) in
      let more = statements_whole ss h.1 in
      (both (are_whole_exprs es.items) (list_all is_whole_statement ss) one.0 more.0, ap₂ (λ (vs : List ExprTree) (xs : List StatementTree). assign targets.items vs ∷ xs) one.1 more.1)
  statements_whole (Claim b ∷ ss) h =
      let one = cond_whole b.items h.0 in
      let more = statements_whole ss h.1 in
      (both (is_whole_cond b.items) (list_all is_whole_statement ss) one.0 more.0, ap₂ (λ (c : CondTree) (xs : List StatementTree). claim c ∷ xs) one.1 more.1)

  jump_whole : (j : Jump) → IsSortedJump sorts (read.jump_of j) → (is_whole_jump j ≡ true) × (read.jump_of j ≡ jump_of j)
  jump_whole (Goto k) h = (refl, refl)
  jump_whole (Branch b k l) h = let one = cond_whole b.items h in (one.0, ap (λ (c : CondTree). branch c k l) one.1)
  jump_whole (Return es) h = let all = values_whole es.items h in (all.0, ap (λ (vs : List ExprTree). return vs) all.1)
  jump_whole Abort h = (refl, refl)

  block_whole : (b : ABlock) → IsSortedBlock sorts (read.block_of b) → (is_whole_block b ≡ true) × (read.block_of b ≡ block_of b)
  block_whole b h =
      let statements = statements_whole b.statements.items h.0 in
      let jump = jump_whole b.jump h.1 in (
        both (list_all is_whole_statement b.statements.items) (is_whole_jump b.jump) statements.0 jump.0,
        ap₂ (λ (xs : List StatementTree) (j : JumpTree). let x : Block = record { is_cut = b.is_cut; statements = xs; jump = j } in x) statements.1 jump.1,
      )

  pub graph_whole : (bs : List ABlock) → IsSortedGraph sorts (read.graph_of bs) → (are_whole_blocks bs ≡ true) × (read.graph_of bs ≡ graph_of bs)
  graph_whole [] h = (refl, refl)
  graph_whole (b ∷ bs) h =
      let one = block_whole b h.0 in
      let more = graph_whole bs h.1 in
      (both (is_whole_block b) (are_whole_blocks bs) one.0 more.0, ap₂ (λ (x : Block) (xs : List Block). x ∷ xs) one.1 more.1)
