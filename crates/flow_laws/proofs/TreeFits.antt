-- Whether no form is too large: of whole expressions, conditions and statements in Polish notation, and of their trees.
use Rattle.std.proofs.Common.{◌≡◌, Bool, true, false, ◌&&◌, nat_eq, List, [], ◌∷◌, length, map, Option, Some, None, refl, sym, ◌∙◌, ap, arith}
use Rattle.std.specs.Prelude.{Vec}
use Rattle.std.specs.List.{list_all}
use Rattle.std.specs.declared.alloc.Global.{Global}
use mathlib.Core.Path.{ap₂}
use Rattle.std.proofs.lemmas.Bool.{eqb-true}
use Rattle.flow_model.specs.declared.sort.Sort.{Sort}
use Rattle.flow_model.specs.declared.graph.ExprNode.{ExprNode}
use Rattle.flow_model.specs.declared.graph.CondNode.{CondNode}
use Rattle.flow_model.specs.declared.graph.CondNode.TheVariants.{Always, Never, Compared, ComparedSigned, Negation, Both, Either}
use Rattle.flow_model.specs.declared.graph.Statement.{Statement}
use Rattle.flow_model.specs.declared.graph.Statement.TheVariants.{Assign, Claim}
use Rattle.flow_model.specs.Expressions.{ExprTree}
use Rattle.flow_model.specs.Conditions.{CondTree}
use Rattle.flow_model.specs.Polish.{first_expr, exprs_of, expr_of, first_cond, other_conds, cond_part, conds_of, cond_of, values_of, statement_of}
use Rattle.flow_forms.specs.Forms.{FlowFormTree}
use Rattle.flow_forms.specs.Comparisons.{compared_signed}
use Rattle.flow_forms.specs.Expressions.{sort_of, form_of}
use Rattle.flow_forms.specs.Evaluation.{expr_fits, all_fit}
use Rattle.flow_ways.specs.Conditions.{compared_values}
use Rattle.flow_ways.specs.CondForms.{literal_is_small, cond_node_fits, cond_nodes_fit}
use Rattle.flow_ways.specs.Ways.{SymbolicRun}
use Rattle.flow_ways.specs.Outcomes.{values_fit, statement_fits, after_statement, fits_if, statements_fit}
use Rattle.flow_model.specs.WholeGraphs.{is_whole_expr, are_whole_exprs, has_whole_sides, is_whole_cond, is_whole_statement}
use Rattle.flow_laws.specs.GraphOutcomes.{cond_fits, tree_fits, trees_fit}

-- ---- Booleans

pub both_true : (a b : Bool) → (a && b) ≡ true → (a ≡ true) × (b ≡ true)
both_true true b h = (refl, h)
both_true false b h = absurd cc

and_true : (a : Bool) → (a && true) ≡ a
and_true true = refl
and_true false = refl

and_swap : (a b : Bool) → (a && b) ≡ (b && a)
and_swap true true = refl
and_swap true false = refl
and_swap false true = refl
and_swap false false = refl

and_assoc : (a b c : Bool) → ((a && b) && c) ≡ (a && (b && c))
and_assoc true b c = refl
and_assoc false b c = refl

-- ---- one tree

one_expr : (es : List ExprTree) → nat_eq (length es) 1 ≡ true → es ≡ first_expr es ∷ []
one_expr [] h = absurd cc
one_expr (e ∷ []) h = refl
one_expr (e ∷ f ∷ es) h = let is = eqb-true (length (e ∷ f ∷ es)) 1 h in absurd (omega (arith, is))

one_cond : (bs : List CondTree) → nat_eq (length bs) 1 ≡ true → bs ≡ first_cond bs ∷ []
one_cond [] h = absurd cc
one_cond (b ∷ []) h = refl
one_cond (b ∷ c ∷ bs) h = let is = eqb-true (length (b ∷ c ∷ bs)) 1 h in absurd (omega (arith, is))

module _ (sorts : List Sort) (env : List FlowFormTree) where
  expr_whole : (ns : List ExprNode) → is_whole_expr ns ≡ true → all_fit sorts env (exprs_of ns) ≡ expr_fits sorts env (expr_of ns)
  expr_whole ns h = ap (all_fit sorts env) (one_expr (exprs_of ns) h) ∙ and_true (expr_fits sorts env (expr_of ns))

  pub values_whole : (es : List (Vec ExprNode Global)) → are_whole_exprs es ≡ true → values_fit sorts env es ≡ all_fit sorts env (values_of es)
  values_whole [] h = refl
  values_whole (e ∷ es) h =
      let parts = both_true (is_whole_expr e.items) (are_whole_exprs es) h in
      ap₂ (λ a b. a && b) (expr_whole e.items parts.0) (values_whole es parts.1)

  -- ---- conditions

  abbrev conds_fit : List CondTree → Bool
  conds_fit [] = true
  conds_fit (b ∷ bs) = cond_fits sorts env b && conds_fit bs

  first_fits : (bs : List CondTree) → (cond_fits sorts env (first_cond bs) && conds_fit (other_conds bs)) ≡ conds_fit bs
  first_fits [] = refl
  first_fits (b ∷ bs) = refl

  two_fit : (bs : List CondTree) → ((cond_fits sorts env (first_cond bs) && cond_fits sorts env (first_cond (other_conds bs))) && conds_fit (other_conds (other_conds bs))) ≡ conds_fit bs
  two_fit bs =
      and_assoc (cond_fits sorts env (first_cond bs)) (cond_fits sorts env (first_cond (other_conds bs))) (conds_fit (other_conds (other_conds bs)))
      ∙ ap (λ b. cond_fits sorts env (first_cond bs) && b) (first_fits (other_conds bs))
      ∙ first_fits bs

  -- a comparison of two expressions, by whether its literal is small
  sides_whole : (e f : List ExprNode) (small : Bool) → (is_whole_expr e && is_whole_expr f) ≡ true →
      (all_fit sorts env (exprs_of e) && (all_fit sorts env (exprs_of f) && small)) ≡ (expr_fits sorts env (expr_of e) && (expr_fits sorts env (expr_of f) && small))
  sides_whole e f small h =
      let parts = both_true (is_whole_expr e) (is_whole_expr f) h in
      ap₂ (λ a b. a && (b && small)) (expr_whole e parts.0) (expr_whole f parts.1)

  -- a node before conditions that fit
  swapped : (a b c : Bool) → a ≡ b → (c && a) ≡ (b && c)
  swapped a b c h = ap (λ x. c && x) h ∙ and_swap c b

  node_whole : (n : CondNode) (ns : List CondNode) → has_whole_sides n ≡ true → cond_nodes_fit sorts env ns ≡ conds_fit (conds_of (map cond_part ns)) →
      cond_nodes_fit sorts env (n ∷ ns) ≡ conds_fit (conds_of (map cond_part (n ∷ ns)))
  node_whole Always ns h rest = and_true (cond_nodes_fit sorts env ns) ∙ rest
  node_whole Never ns h rest = and_true (cond_nodes_fit sorts env ns) ∙ rest
  node_whole (Compared rel e f) ns h rest =
      let small = literal_is_small (compared_values (sort_of sorts (expr_of e.items)) rel (form_of sorts env (expr_of e.items)) (form_of sorts env (expr_of f.items))) in
      swapped (cond_node_fits sorts env (Compared rel e f)) (expr_fits sorts env (expr_of e.items) && (expr_fits sorts env (expr_of f.items) && small)) (cond_nodes_fit sorts env ns) (sides_whole e.items f.items small h)
      ∙ ap (λ b. (expr_fits sorts env (expr_of e.items) && (expr_fits sorts env (expr_of f.items) && small)) && b) rest
  node_whole (ComparedSigned rel w e f) ns h rest =
      let small = literal_is_small (compared_signed w rel (form_of sorts env (expr_of e.items)) (form_of sorts env (expr_of f.items))) in
      swapped (cond_node_fits sorts env (ComparedSigned rel w e f)) (expr_fits sorts env (expr_of e.items) && (expr_fits sorts env (expr_of f.items) && small)) (cond_nodes_fit sorts env ns) (sides_whole e.items f.items small h)
      ∙ ap (λ b. (expr_fits sorts env (expr_of e.items) && (expr_fits sorts env (expr_of f.items) && small)) && b) rest
  node_whole Negation ns h rest = and_true (cond_nodes_fit sorts env ns) ∙ rest ∙ sym (first_fits (conds_of (map cond_part ns)))
  node_whole Both ns h rest = and_true (cond_nodes_fit sorts env ns) ∙ rest ∙ sym (two_fit (conds_of (map cond_part ns)))
  node_whole Either ns h rest = and_true (cond_nodes_fit sorts env ns) ∙ rest ∙ sym (two_fit (conds_of (map cond_part ns)))

  nodes_whole : (ns : List CondNode) → list_all has_whole_sides ns ≡ true → cond_nodes_fit sorts env ns ≡ conds_fit (conds_of (map cond_part ns))
  nodes_whole [] h = refl
  nodes_whole (n ∷ ns) h =
      let parts = both_true (has_whole_sides n) (list_all has_whole_sides ns) h in
      node_whole n ns parts.0 (nodes_whole ns parts.1)

  pub cond_whole : (ns : List CondNode) → is_whole_cond ns ≡ true → cond_nodes_fit sorts env ns ≡ cond_fits sorts env (cond_of ns)
  cond_whole ns h =
      let parts = both_true (nat_eq (length (conds_of (map cond_part ns))) 1) (list_all has_whole_sides ns) h in
      nodes_whole ns parts.1 ∙ ap conds_fit (one_cond (conds_of (map cond_part ns)) parts.0) ∙ and_true (cond_fits sorts env (cond_of ns))

-- ---- statements

module _ (sorts : List Sort) where
  statement_whole : (s : Statement) (symbolic_run : SymbolicRun) → is_whole_statement s ≡ true → statement_fits sorts s symbolic_run ≡ tree_fits sorts (statement_of s) symbolic_run
  statement_whole (Assign targets es) symbolic_run h = values_whole sorts symbolic_run.forms es.items h
  statement_whole (Claim b) symbolic_run h = cond_whole sorts symbolic_run.forms b.items h

  same_fits : (o : Option SymbolicRun) (f g : SymbolicRun → Bool) → ((c : SymbolicRun) → f c ≡ g c) → fits_if o f ≡ fits_if o g
  same_fits None f g same = refl
  same_fits (Some c) f g same = same c

  pub statements_whole : (ss : List Statement) (symbolic_run : SymbolicRun) → list_all is_whole_statement ss ≡ true → statements_fit sorts ss symbolic_run ≡ trees_fit sorts (map statement_of ss) symbolic_run
  statements_whole [] symbolic_run h = refl
  statements_whole (s ∷ ss) symbolic_run h =
      let parts = both_true (is_whole_statement s) (list_all is_whole_statement ss) h in
      ap₂ (λ a b. a && b) (statement_whole s symbolic_run parts.0)
      (same_fits (after_statement sorts (statement_of s) symbolic_run) (statements_fit sorts ss) (trees_fit sorts (map statement_of ss)) (λ c. statements_whole ss c parts.1))
