-- Conditions of forms: Boolean combinations of comparisons, with what is known left out.
use Rattle.std.specs.Prelude.{◌≡◌, Bool, true, false, not, ◌&&◌, ◌||◌, List, [], ◌∷◌, ◌++◌, Option, Some, None, if◌then◌else◌}
use Rattle.flow_model.specs.declared.sort.Sort.{Sort}
use Rattle.flow_model.specs.declared.sort.Sort.TheVariants.{Number, Opaque}
use Rattle.flow_model.specs.Sorts.{State}
use Rattle.flow_model.specs.Interpretations.{Interpretation}
use Rattle.flow_model.specs.Conditions as cond
use Rattle.flow_model.specs.Conditions.{CondTree}
use Rattle.kat_model.specs.declared.expression.Rel.{Rel}
use Rattle.kat_model.specs.declared.expression.Rel.TheVariants.{Eq, Ne}
use Rattle.flow_forms.specs.Forms.{FlowFormTree}
use Rattle.flow_forms.specs.Comparisons.{FlowComparisonTree, FlowLiteralTree, decided, holding, failing, comparison_holds, opposite, same_literal, compared_numbers, compared_signed, is_same_comparison}
use Rattle.flow_forms.specs.Expressions.{sort_of, IsSorted, form_of}

-- a truth value, a comparison, or a negation, conjunction or disjunction; truth values are only whole conditions
pub data FlowCondTree : Type 0 where
  constantly : (b : Bool) → FlowCondTree
  atom : (c : FlowComparisonTree) → FlowCondTree
  negation : (b : FlowCondTree) → FlowCondTree
  both : (b c : FlowCondTree) → FlowCondTree
  either : (b c : FlowCondTree) → FlowCondTree

-- whether a condition holds in a state
abbrev pub cond_holds : Interpretation → State → FlowCondTree → Bool
cond_holds I s (constantly b) = b
cond_holds I s (atom c) = comparison_holds I s c
cond_holds I s (negation b) = not (cond_holds I s b)
cond_holds I s (both b c) = cond_holds I s b && cond_holds I s c
cond_holds I s (either b c) = cond_holds I s b || cond_holds I s c

abbrev pub of_literal : FlowLiteralTree → FlowCondTree
of_literal (decided b) = constantly b
of_literal (holding c) = atom c
of_literal (failing c) = negation (atom c)

-- the opposite, with truth values decided
abbrev pub opposite_cond : FlowCondTree → FlowCondTree
opposite_cond (constantly b) = constantly (not b)
opposite_cond (negation b) = b
opposite_cond b = negation b

abbrev pub is_true : FlowCondTree → Bool
is_true (constantly b) = b
is_true b = false

abbrev pub is_false : FlowCondTree → Bool
is_false (constantly b) = not b
is_false b = false

abbrev pub both_conds : FlowCondTree → FlowCondTree → FlowCondTree
both_conds b c =
    if is_true b then c
    else if is_false b then constantly false
    else if is_true c then b
    else if is_false c then constantly false
    else both b c

abbrev pub either_cond : FlowCondTree → FlowCondTree → FlowCondTree
either_cond b c =
    if is_false b then c
    else if is_true b then constantly true
    else if is_false c then b
    else if is_true c then constantly true
    else either b c

-- a comparison with its truth value
abbrev pub Fact : Type 0
Fact = FlowComparisonTree × Bool

-- what the first fact of a comparison says, if there is one
abbrev pub value_known : List Fact → FlowComparisonTree → Option Bool
value_known [] c = None
value_known (f ∷ fs) c = if is_same_comparison f.0 c then Some f.1 else value_known fs c

abbrev pub known_or : FlowComparisonTree → Option Bool → FlowCondTree
known_or c None = atom c
known_or c (Some b) = constantly b

-- a condition with the comparisons that are known decided
abbrev pub simplified : List Fact → FlowCondTree → FlowCondTree
simplified fs (constantly b) = constantly b
simplified fs (atom c) = known_or c (value_known fs c)
simplified fs (negation b) = opposite_cond (simplified fs b)
simplified fs (both b c) = both_conds (simplified fs b) (simplified fs c)
simplified fs (either b c) = either_cond (simplified fs b) (simplified fs c)

-- the facts that follow from the truth value of a condition without further cases
abbrev pub facts_of : FlowCondTree → Bool → List Fact
facts_of (constantly b) v = []
facts_of (atom c) v = (c, v) ∷ []
facts_of (negation b) v = facts_of b (not v)
facts_of (both b c) true = facts_of b true ++ facts_of c true
facts_of (both b c) false = []
facts_of (either b c) true = []
facts_of (either b c) false = facts_of b false ++ facts_of c false

-- the comparison of two opaque values, which are only compared for equality
abbrev pub compared_opaque : Rel → FlowFormTree → FlowFormTree → FlowLiteralTree
compared_opaque Eq f g = same_literal f g
compared_opaque Ne f g = opposite (same_literal f g)
compared_opaque rel f g = decided false

abbrev pub compared_values : Sort → Rel → FlowFormTree → FlowFormTree → FlowLiteralTree
compared_values (Number w) rel f g = compared_numbers w rel f g
compared_values (Opaque k) rel f g = compared_opaque rel f g

-- the form of a condition, with the sorts and the forms of the variables
abbrev pub cond_form : List Sort → List FlowFormTree → CondTree → FlowCondTree
cond_form sorts env cond.always = constantly true
cond_form sorts env cond.never = constantly false
cond_form sorts env (cond.compared rel e f) = of_literal (compared_values (sort_of sorts e) rel (form_of sorts env e) (form_of sorts env f))
cond_form sorts env (cond.compared_signed rel w e f) = of_literal (compared_signed w rel (form_of sorts env e) (form_of sorts env f))
cond_form sorts env (cond.negation b) = opposite_cond (cond_form sorts env b)
cond_form sorts env (cond.both b c) = both_conds (cond_form sorts env b) (cond_form sorts env c)
cond_form sorts env (cond.either b c) = either_cond (cond_form sorts env b) (cond_form sorts env c)

-- how values of a sort may be compared: opaque ones only for equality
abbrev pub MayCompare : Sort → Rel → Type 0
MayCompare (Number w) rel = Unit {0}
MayCompare (Opaque k) Eq = Unit {0}
MayCompare (Opaque k) Ne = Unit {0}
MayCompare (Opaque k) rel = ⊥

-- each operand of the condition has the sort that its place requires
abbrev pub IsSortedCond : List Sort → CondTree → Type 0
IsSortedCond sorts cond.always = Unit {0}
IsSortedCond sorts cond.never = Unit {0}
IsSortedCond sorts (cond.compared rel e f) = IsSorted sorts false e × IsSorted sorts false f × (sort_of sorts f ≡ sort_of sorts e) × MayCompare (sort_of sorts e) rel
IsSortedCond sorts (cond.compared_signed rel w e f) = IsSorted sorts false e × IsSorted sorts false f × (sort_of sorts e ≡ Number w) × (sort_of sorts f ≡ Number w)
IsSortedCond sorts (cond.negation b) = IsSortedCond sorts b
IsSortedCond sorts (cond.both b c) = IsSortedCond sorts b × IsSortedCond sorts c
IsSortedCond sorts (cond.either b c) = IsSortedCond sorts b × IsSortedCond sorts c
