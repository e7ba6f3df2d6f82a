-- The conditions of nodes over a stack are those of the conditions.
use Rattle.std.proofs.Common.{◌≡◌, Bool, true, false, ◌&&◌, ◌+◌, ◌-◌, List, [], ◌∷◌, ◌++◌, length, map, take, refl, sym, ap, ◌∙◌, arith, length-append}
use mathlib.Core.Path.{ap₂}
use Rattle.std.proofs.lemmas.List.{nil_from_length, take_at}
use Rattle.flow_model.specs.declared.sort.Sort.{Sort}
use Rattle.flow_model.specs.declared.graph.CondNode.{CondNode}
use Rattle.flow_model.specs.Conditions.{CondTree}
use Rattle.flow_model.specs.Polish.{cond_part, conds_of, CondPart, a_condition, a_negation, a_conjunction, a_disjunction, with_part, first_cond}
use Rattle.flow_forms.specs.Forms.{FlowFormTree}
use Rattle.flow_ways.specs.Conditions.{FlowCondTree, cond_form}
use Rattle.flow_ways.specs.CondForms.{top_cond, part_form, cond_node_fits, cond_nodes_fit}

pub forms_with_part : (sorts : List Sort) (env : List FlowFormTree) (p : CondPart) (bs : List CondTree) → map (cond_form sorts env) (with_part p bs) ≡ part_form sorts env p (map (cond_form sorts env) bs)
forms_with_part sorts env (a_condition b) bs = refl
forms_with_part sorts env a_negation [] = refl
forms_with_part sorts env a_negation (b ∷ bs) = refl
forms_with_part sorts env a_conjunction [] = refl
forms_with_part sorts env a_conjunction (b ∷ []) = refl
forms_with_part sorts env a_conjunction (b ∷ (c ∷ bs)) = refl
forms_with_part sorts env a_disjunction [] = refl
forms_with_part sorts env a_disjunction (b ∷ []) = refl
forms_with_part sorts env a_disjunction (b ∷ (c ∷ bs)) = refl

pub top_cond_is : (sorts : List Sort) (env : List FlowFormTree) (bs : List CondTree) → top_cond (map (cond_form sorts env) bs) ≡ cond_form sorts env (first_cond bs)
top_cond_is sorts env [] = refl
top_cond_is sorts env (b ∷ bs) = refl

pub no_second : (b : Bool) → (b && false) ≡ false
no_second true = refl
no_second false = refl

-- the stack after nodes, from the last one to the first
abbrev pub conds_over : List Sort → List FlowFormTree → List CondNode → List FlowCondTree → List FlowCondTree
conds_over sorts env [] st = st
conds_over sorts env (n ∷ ns) st = part_form sorts env (cond_part n) (conds_over sorts env ns st)

pub over_all : (sorts : List Sort) (env : List FlowFormTree) (ns : List CondNode) → conds_over sorts env ns [] ≡ map (cond_form sorts env) (conds_of (map cond_part ns))
over_all sorts env [] = refl
over_all sorts env (n ∷ ns) =
    ap (part_form sorts env (cond_part n)) (over_all sorts env ns) ∙ sym (forms_with_part sorts env (cond_part n) (conds_of (map cond_part ns)))

pub over_last : (sorts : List Sort) (env : List FlowFormTree) (ns : List CondNode) (n : CondNode) (st : List FlowCondTree) → conds_over sorts env (ns ++ n ∷ []) st ≡ conds_over sorts env ns (part_form sorts env (cond_part n) st)
over_last sorts env [] n st = refl
over_last sorts env (m ∷ ms) n st = ap (part_form sorts env (cond_part m)) (over_last sorts env ms n st)

without_last : (left before : List CondNode) (n : CondNode) → left ≡ before ++ n ∷ [] → take (length left - 1) left ≡ before
without_last left before n is =
    let long : length left ≡ length before + 1 = ap length is ∙ length-append before (n ∷ []) in
    ap (take (length left - 1)) is ∙ take_at before (n ∷ []) (length left - 1) (omega (arith, long))

and_last : (a b c : Bool) → ((a && b) && c) ≡ (a && (b && c))
and_last true b c = refl
and_last false b c = refl

pub fits_last : (sorts : List Sort) (env : List FlowFormTree) (ns : List CondNode) (n : CondNode) → cond_nodes_fit sorts env (ns ++ n ∷ []) ≡ (cond_node_fits sorts env n && cond_nodes_fit sorts env ns)
fits_last sorts env [] n = sym (and_true' (cond_node_fits sorts env n))
  where
    and_true' : (b : Bool) → (b && true) ≡ b
    and_true' true = refl
    and_true' false = refl
fits_last sorts env (m ∷ ms) n =
    ap (λ b. b && cond_node_fits sorts env m) (fits_last sorts env ms n) ∙ and_last (cond_node_fits sorts env n) (cond_nodes_fit sorts env ms) (cond_node_fits sorts env m)

-- the last of the nodes that are left

pub over_rest : (sorts : List Sort) (env : List FlowFormTree) (left before : List CondNode) (n : CondNode) (st next all : List FlowCondTree) → left ≡ before ++ n ∷ [] → next ≡ part_form sorts env (cond_part n) st → conds_over sorts env left st ≡ all → conds_over sorts env (take (length left - 1) left) next ≡ all
over_rest sorts env left before n st next all is made so_far =
    ap₂ (conds_over sorts env) (without_last left before n is) made
    ∙ sym (over_last sorts env before n st)
    ∙ ap (λ ns. conds_over sorts env ns st) (sym is)
    ∙ so_far

pub fits_rest : (sorts : List Sort) (env : List FlowFormTree) (left before : List CondNode) (n : CondNode) (all : Bool) → left ≡ before ++ n ∷ [] → cond_node_fits sorts env n ≡ true → cond_nodes_fit sorts env left ≡ all → cond_nodes_fit sorts env (take (length left - 1) left) ≡ all
fits_rest sorts env left before n all is h so_far =
    ap (cond_nodes_fit sorts env) (without_last left before n is)
    ∙ sym (fits_last sorts env before n ∙ ap (λ b. b && cond_nodes_fit sorts env before) h)
    ∙ ap (cond_nodes_fit sorts env) (sym is)
    ∙ so_far

pub unfit_last : (sorts : List Sort) (env : List FlowFormTree) (left before : List CondNode) (n : CondNode) (all : Bool) → left ≡ before ++ n ∷ [] → cond_node_fits sorts env n ≡ false → cond_nodes_fit sorts env left ≡ all → all ≡ false
unfit_last sorts env left before n all is h so_far =
    sym so_far ∙ ap (cond_nodes_fit sorts env) is ∙ fits_last sorts env before n ∙ ap (λ b. b && cond_nodes_fit sorts env before) h

-- no node is left

pub over_none : (sorts : List Sort) (env : List FlowFormTree) (left : List CondNode) (st all : List FlowCondTree) → length left ≡ 0 → conds_over sorts env left st ≡ all → st ≡ all
over_none sorts env left st all e so_far = sym (ap (λ ns. conds_over sorts env ns st) (nil_from_length left e)) ∙ so_far

pub fits_none : (sorts : List Sort) (env : List FlowFormTree) (left : List CondNode) (all : Bool) → length left ≡ 0 → cond_nodes_fit sorts env left ≡ all → all ≡ true
fits_none sorts env left all e so_far = sym so_far ∙ ap (cond_nodes_fit sorts env) (nil_from_length left e)
