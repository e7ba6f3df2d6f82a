-- Conditions in Polish notation become conditions of forms from the last node to the first, over a stack.
use Rattle.std.specs.Prelude.{Bool, true, ◌&&◌, List, [], ◌∷◌}
use Rattle.kat_model.specs.declared.expression.Rel.{Rel}
use Rattle.kat_model.specs.declared.expression.Width.{Width}
use Rattle.flow_model.specs.declared.sort.Sort.{Sort}
use Rattle.flow_model.specs.declared.graph.ExprNode.{ExprNode}
use Rattle.flow_model.specs.declared.graph.CondNode.{CondNode}
use Rattle.flow_model.specs.declared.graph.CondNode.TheVariants.{Compared, ComparedSigned}
use Rattle.flow_model.specs.Polish.{CondPart, a_condition, a_negation, a_conjunction, a_disjunction, expr_of, exprs_of}
use Rattle.flow_forms.specs.Forms.{FlowFormTree}
use Rattle.flow_forms.specs.Sizes.{is_small}
use Rattle.flow_forms.specs.Comparisons.{FlowComparisonTree, zero_form, less_form, same_form, FlowLiteralTree, decided, holding, failing, compared_signed}
use Rattle.flow_forms.specs.Expressions.{sort_of, form_of}
use Rattle.flow_forms.specs.Evaluation.{all_fit}
use Rattle.flow_ways.specs.Conditions.{FlowCondTree, constantly, opposite_cond, both_conds, either_cond, compared_values, cond_form}
use Rattle.flow_ways.specs.CondTrees.{cond_tree}
use Rattle.flow_ways.specs.declared.cond_form.CondStack.{CondStack}
use Rattle.flow_ways.specs.declared.cond_form.CondStack.TheVariants.{Empty, Pushed'}

-- whether the forms of a comparison are within the limit of nodes
abbrev pub comparison_is_small : FlowComparisonTree → Bool
comparison_is_small (zero_form w f) = is_small f
comparison_is_small (less_form w f g) = is_small f && is_small g
comparison_is_small (same_form f g) = is_small f && is_small g

abbrev pub literal_is_small : FlowLiteralTree → Bool
literal_is_small (decided b) = true
literal_is_small (holding c) = comparison_is_small c
literal_is_small (failing c) = comparison_is_small c

-- whether no form of a comparison of two expressions is too large
abbrev pub compared_fit : List Sort → List FlowFormTree → Rel → List ExprNode → List ExprNode → Bool
compared_fit sorts env rel e f =
    all_fit sorts env (exprs_of e)
    && (all_fit sorts env (exprs_of f)
    && literal_is_small (compared_values (sort_of sorts (expr_of e)) rel (form_of sorts env (expr_of e)) (form_of sorts env (expr_of f))))

abbrev pub signed_fit : List Sort → List FlowFormTree → Rel → Width → List ExprNode → List ExprNode → Bool
signed_fit sorts env rel w e f =
    all_fit sorts env (exprs_of e)
    && (all_fit sorts env (exprs_of f)
    && literal_is_small (compared_signed w rel (form_of sorts env (expr_of e)) (form_of sorts env (expr_of f))))

-- whether no form of a node is too large
abbrev pub cond_node_fits : List Sort → List FlowFormTree → CondNode → Bool
cond_node_fits sorts env (Compared rel e f) = compared_fit sorts env rel e.items f.items
cond_node_fits sorts env (ComparedSigned rel w e f) = signed_fit sorts env rel w e.items f.items
cond_node_fits sorts env _ = true

abbrev pub cond_nodes_fit : List Sort → List FlowFormTree → List CondNode → Bool
cond_nodes_fit sorts env [] = true
cond_nodes_fit sorts env (n ∷ ns) = cond_nodes_fit sorts env ns && cond_node_fits sorts env n

abbrev pub top_cond : List FlowCondTree → FlowCondTree
top_cond [] = constantly true
top_cond (b ∷ bs) = b

abbrev pub below : List FlowCondTree → List FlowCondTree
below [] = []
below (b ∷ bs) = bs

-- a node over the conditions of its operands, which are the first of the stack
abbrev pub part_form : List Sort → List FlowFormTree → CondPart → List FlowCondTree → List FlowCondTree
part_form sorts env (a_condition b) st = cond_form sorts env b ∷ st
part_form sorts env a_negation st = opposite_cond (top_cond st) ∷ below st
part_form sorts env a_conjunction st = both_conds (top_cond st) (top_cond (below st)) ∷ below (below st)
part_form sorts env a_disjunction st = either_cond (top_cond st) (top_cond (below st)) ∷ below (below st)

-- the stack of the program
abbrev pub stack_conds : CondStack → List FlowCondTree
stack_conds Empty = []
stack_conds (Pushed' b y rest) = cond_tree b.value ∷ stack_conds rest
