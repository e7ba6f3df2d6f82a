-- The form of a condition holds exactly when the condition does.
use Rattle.std.proofs.Common.{◌≡◌, ℕ, Bool, true, false, not, ◌&&◌, ◌||◌, List, [], ◌∷◌, ◌++◌, Option, Some, None, if◌then◌else◌, refl, sym, ◌∙◌, ap}
use mathlib.Core.Path.{ap₂}
use Rattle.std.proofs.lemmas.Bool.{and_parts}
use Rattle.kat_model.specs.Stores.{compares}
use Rattle.kat_model.specs.declared.expression.Rel.{Rel}
use Rattle.kat_model.specs.declared.expression.Rel.TheVariants.{Eq, Ne, Lt, Le, Gt, Ge}
use Rattle.flow_model.specs.declared.sort.Sort.{Sort}
use Rattle.flow_model.specs.declared.sort.Sort.TheVariants.{Number, Opaque}
use Rattle.flow_model.specs.Sorts.{State}
use Rattle.flow_model.specs.Interpretations.{Interpretation, holds, biased}
use Rattle.flow_model.specs.Conditions.{CondTree}
use Rattle.flow_model.specs.Conditions as cond
use Rattle.flow_forms.specs.Forms.{FlowFormTree}
use Rattle.flow_forms.specs.Values.{polynomial, form_value}
use Rattle.flow_forms.specs.Comparisons.{FlowComparisonTree, FlowLiteralTree, decided, holding, failing, comparison_holds, literal_holds, same_literal, compared_signed, is_same_comparison}
use Rattle.flow_forms.specs.Expressions.{sort_of, form_of, HasForms}
use Rattle.flow_forms.proofs.ComparisonValues.{holds-opposite, holds-same_literal, holds-compared_numbers, holds-compared_signed}
use Rattle.flow_forms.proofs.ExpressionValues.{kept}
use Rattle.flow_forms.proofs.SameComparisons.{one_comparison}
use Rattle.flow_ways.specs.Conditions.{FlowCondTree, constantly, atom, negation, both, either, cond_holds, of_literal, opposite_cond, is_true, is_false, both_conds, either_cond, Fact, value_known, known_or, simplified, facts_of, compared_opaque, compared_values, cond_form, MayCompare, IsSortedCond}

not_not : (b : Bool) → not (not b) ≡ b
not_not true = refl
not_not false = refl

and_true : (b : Bool) → b ≡ (b && true)
and_true true = refl
and_true false = refl

and_false : (b : Bool) → false ≡ (b && false)
and_false true = refl
and_false false = refl

or_true : (b : Bool) → true ≡ (b || true)
or_true true = refl
or_true false = refl

or_false : (b : Bool) → b ≡ (b || false)
or_false true = refl
or_false false = refl

pub holds-of_literal : (I : Interpretation) (s : State) (l : FlowLiteralTree) → cond_holds I s (of_literal l) ≡ literal_holds I s l
holds-of_literal I s (decided b) = refl
holds-of_literal I s (holding c) = refl
holds-of_literal I s (failing c) = refl

pub holds-opposite_cond : (I : Interpretation) (s : State) (b : FlowCondTree) → cond_holds I s (opposite_cond b) ≡ not (cond_holds I s b)
holds-opposite_cond I s (constantly b) = refl
holds-opposite_cond I s (negation b) = sym (not_not (cond_holds I s b))
holds-opposite_cond I s b = refl

true_holds : (I : Interpretation) (s : State) (b : FlowCondTree) → is_true b ≡ true → cond_holds I s b ≡ true
true_holds I s (constantly b) e = e
true_holds I s _ e = absurd cc

false_holds : (I : Interpretation) (s : State) (b : FlowCondTree) → is_false b ≡ true → cond_holds I s b ≡ false
false_holds I s (constantly true) e = absurd cc
false_holds I s (constantly false) e = refl
false_holds I s _ e = absurd cc

pub holds-both_conds : (I : Interpretation) (s : State) (b c : FlowCondTree) → cond_holds I s (both_conds b c) ≡ (cond_holds I s b && cond_holds I s c)
holds-both_conds I s b c =
    by_tests (is_true b) (is_false b) (is_true c) (is_false c) (true_holds I s b) (false_holds I s b) (true_holds I s c) (false_holds I s c)
  where
    by_tests : (p q r o : Bool) → (p ≡ true → cond_holds I s b ≡ true) → (q ≡ true → cond_holds I s b ≡ false) → (r ≡ true → cond_holds I s c ≡ true) → (o ≡ true → cond_holds I s c ≡ false) →
        cond_holds I s (if p then c else if q then constantly false else if r then b else if o then constantly false else both b c) ≡ (cond_holds I s b && cond_holds I s c)
    by_tests true q r o f g h k = sym (ap (λ x. x && cond_holds I s c) (f refl))
    by_tests false true r o f g h k = sym (ap (λ x. x && cond_holds I s c) (g refl))
    by_tests false false true o f g h k = and_true (cond_holds I s b) ∙ ap (λ x. cond_holds I s b && x) (sym (h refl))
    by_tests false false false true f g h k = and_false (cond_holds I s b) ∙ ap (λ x. cond_holds I s b && x) (sym (k refl))
    by_tests false false false false f g h k = refl

pub holds-either_cond : (I : Interpretation) (s : State) (b c : FlowCondTree) → cond_holds I s (either_cond b c) ≡ (cond_holds I s b || cond_holds I s c)
holds-either_cond I s b c =
    by_tests (is_false b) (is_true b) (is_false c) (is_true c) (false_holds I s b) (true_holds I s b) (false_holds I s c) (true_holds I s c)
  where
    by_tests : (p q r o : Bool) → (p ≡ true → cond_holds I s b ≡ false) → (q ≡ true → cond_holds I s b ≡ true) → (r ≡ true → cond_holds I s c ≡ false) → (o ≡ true → cond_holds I s c ≡ true) →
        cond_holds I s (if p then c else if q then constantly true else if r then b else if o then constantly true else either b c) ≡ (cond_holds I s b || cond_holds I s c)
    by_tests true q r o f g h k = sym (ap (λ x. x || cond_holds I s c) (f refl))
    by_tests false true r o f g h k = sym (ap (λ x. x || cond_holds I s c) (g refl))
    by_tests false false true o f g h k = or_false (cond_holds I s b) ∙ ap (λ x. cond_holds I s b || x) (sym (h refl))
    by_tests false false false true f g h k = or_true (cond_holds I s b) ∙ ap (λ x. cond_holds I s b || x) (sym (k refl))
    by_tests false false false false f g h k = refl

-- each fact holds
abbrev pub FactsHold : Interpretation → State → List Fact → Type 0
FactsHold I s [] = Unit {0}
FactsHold I s (f ∷ fs) = (comparison_holds I s f.0 ≡ f.1) × FactsHold I s fs

pub FactsHold-append : (I : Interpretation) (s : State) (fs gs : List Fact) → FactsHold I s fs → FactsHold I s gs → FactsHold I s (fs ++ gs)
FactsHold-append I s [] gs h k = k
FactsHold-append I s (f ∷ fs) gs h k = (h.0, FactsHold-append I s fs gs h.1 k)

pub known_holds : (I : Interpretation) (s : State) (fs : List Fact) (c : FlowComparisonTree) (v : Bool) → FactsHold I s fs → value_known fs c ≡ Some v → comparison_holds I s c ≡ v
known_holds I s [] c v h e = absurd cc
known_holds I s (f ∷ fs) c v h e =
    by_test (is_same_comparison f.0 c) (one_comparison f.0 c) (λ q. known_holds I s fs c v h.1 q) e
  where
    by_test : (b : Bool) → (b ≡ true → f.0 ≡ c) → (value_known fs c ≡ Some v → comparison_holds I s c ≡ v) → (if b then Some f.1 else value_known fs c) ≡ Some v → comparison_holds I s c ≡ v
    by_test true p later q = let same : f.1 ≡ v = cc in ap (comparison_holds I s) (sym (p refl)) ∙ h.0 ∙ same
    by_test false p later q = later q

holds-known_or : (I : Interpretation) (s : State) (c : FlowComparisonTree) (o : Option Bool) → ((v : Bool) → o ≡ Some v → comparison_holds I s c ≡ v) → cond_holds I s (known_or c o) ≡ comparison_holds I s c
holds-known_or I s c None h = refl
holds-known_or I s c (Some v) h = sym (h v refl)

pub holds-simplified : (I : Interpretation) (s : State) (fs : List Fact) (b : FlowCondTree) → FactsHold I s fs → cond_holds I s (simplified fs b) ≡ cond_holds I s b
holds-simplified I s fs (constantly b) h = refl
holds-simplified I s fs (atom c) h = holds-known_or I s c (value_known fs c) (λ v e. known_holds I s fs c v h e)
holds-simplified I s fs (negation b) h = holds-opposite_cond I s (simplified fs b) ∙ ap not (holds-simplified I s fs b h)
holds-simplified I s fs (both b c) h =
    holds-both_conds I s (simplified fs b) (simplified fs c) ∙ ap₂ (λ x y. x && y) (holds-simplified I s fs b h) (holds-simplified I s fs c h)
holds-simplified I s fs (either b c) h =
    holds-either_cond I s (simplified fs b) (simplified fs c) ∙ ap₂ (λ x y. x || y) (holds-simplified I s fs b h) (holds-simplified I s fs c h)

turned_not : (a v : Bool) → not a ≡ v → a ≡ not v
turned_not true v e = ap not e
turned_not false v e = ap not e

or_none : (a b : Bool) → (a || b) ≡ false → (a ≡ false) × (b ≡ false)
or_none true b e = absurd cc
or_none false b e = (refl, e)

-- the facts of the truth value that a condition has
pub facts_hold : (I : Interpretation) (s : State) (b : FlowCondTree) (v : Bool) → cond_holds I s b ≡ v → FactsHold I s (facts_of b v)
facts_hold I s (constantly b) v e = tt
facts_hold I s (atom c) v e = (e, tt)
facts_hold I s (negation b) v e = facts_hold I s b (not v) (turned_not (cond_holds I s b) v e)
facts_hold I s (both b c) true e =
    let h = and_parts (cond_holds I s b) (cond_holds I s c) e in
    FactsHold-append I s (facts_of b true) (facts_of c true) (facts_hold I s b true h.0) (facts_hold I s c true h.1)
facts_hold I s (both b c) false e = tt
facts_hold I s (either b c) true e = tt
facts_hold I s (either b c) false e =
    let h = or_none (cond_holds I s b) (cond_holds I s c) e in
    FactsHold-append I s (facts_of b false) (facts_of c false) (facts_hold I s b false h.0) (facts_hold I s c false h.1)

holds-compared_opaque : (I : Interpretation) (s : State) (k : ℕ) (rel : Rel) (f g : FlowFormTree) → MayCompare (Opaque k) rel → literal_holds I s (compared_opaque rel f g) ≡ compares rel (polynomial I s f) (polynomial I s g)
holds-compared_opaque I s k Eq f g o = holds-same_literal I s f g
holds-compared_opaque I s k Ne f g o = holds-opposite I s (same_literal f g) ∙ ap not (holds-same_literal I s f g)
holds-compared_opaque I s k Lt f g o = absurd o
holds-compared_opaque I s k Le f g o = absurd o
holds-compared_opaque I s k Gt f g o = absurd o
holds-compared_opaque I s k Ge f g o = absurd o

holds-compared_values : (I : Interpretation) (s : State) (sort : Sort) (rel : Rel) (f g : FlowFormTree) → MayCompare sort rel → literal_holds I s (compared_values sort rel f g) ≡ compares rel (form_value I s sort f) (form_value I s sort g)
holds-compared_values I s (Number w) rel f g o = holds-compared_numbers I s w rel f g
holds-compared_values I s (Opaque k) rel f g o = holds-compared_opaque I s k rel f g o

pub holds-cond_form : (I : Interpretation) (s : State) (sorts : List Sort) (env : List FlowFormTree) (t : State) → HasForms I s sorts env t → (b : CondTree) → IsSortedCond sorts b → cond_holds I s (cond_form sorts env b) ≡ holds I t b
holds-cond_form I s sorts env t h cond.always o = refl
holds-cond_form I s sorts env t h cond.never o = refl
holds-cond_form I s sorts env t h (cond.compared rel e f) (a, b, p, q) =
    holds-of_literal I s (compared_values (sort_of sorts e) rel (form_of sorts env e) (form_of sorts env f))
    ∙ holds-compared_values I s (sort_of sorts e) rel (form_of sorts env e) (form_of sorts env f) q
    ∙ sym (ap₂ (λ x y. compares rel x y)
    (kept I s sorts env t h false e a)
    (kept I s sorts env t h false f b ∙ ap (λ sort. form_value I s sort (form_of sorts env f)) p))
holds-cond_form I s sorts env t h (cond.compared_signed rel w e f) (a, b, p, q) =
    holds-of_literal I s (compared_signed w rel (form_of sorts env e) (form_of sorts env f))
    ∙ holds-compared_signed I s w rel (form_of sorts env e) (form_of sorts env f)
    ∙ sym (ap₂ (λ x y. compares rel (biased w x) (biased w y))
    (kept I s sorts env t h false e a ∙ ap (λ sort. form_value I s sort (form_of sorts env e)) p)
    (kept I s sorts env t h false f b ∙ ap (λ sort. form_value I s sort (form_of sorts env f)) q))
holds-cond_form I s sorts env t h (cond.negation b) o =
    holds-opposite_cond I s (cond_form sorts env b) ∙ ap not (holds-cond_form I s sorts env t h b o)
holds-cond_form I s sorts env t h (cond.both b c) o =
    holds-both_conds I s (cond_form sorts env b) (cond_form sorts env c)
    ∙ ap₂ (λ x y. x && y) (holds-cond_form I s sorts env t h b o.0) (holds-cond_form I s sorts env t h c o.1)
holds-cond_form I s sorts env t h (cond.either b c) o =
    holds-either_cond I s (cond_form sorts env b) (cond_form sorts env c)
    ∙ ap₂ (λ x y. x || y) (holds-cond_form I s sorts env t h b o.0) (holds-cond_form I s sorts env t h c o.1)
