-- Facts of literals by the arcs of the literals.
use Rattle.std.proofs.Common.{◌≡◌, ℕ, Bool, true, false, not, List, [], ◌∷◌, sym, ap, ◌∙◌}
use mathlib.Core.Path.{ap₂}
use Rattle.kat_model.specs.Trees.{TestTree, Term, test, product}
use Rattle.flow_problem.specs.FlowFacts.{FlowRule, by_intervals, FlowHypothesis, fact_where, none_of_three, Arc, have_common, is_least, literal_arc, literal_test, two_arc_fact, three_arc_fact}
use Rattle.flow_abstraction.specs.CappedLists.{capped}

module _ (n : ℕ) (old : List FlowHypothesis) (rule : FlowRule) where
  none_made : (b : Bool) (e : Term) → b ≡ false → old ≡ capped n old (fact_where b rule e)
  none_made b e h = ap (λ t. capped n old (fact_where t rule e)) (sym h)

  one_made : (b : Bool) (d e : Term) (new : List FlowHypothesis) → b ≡ true → d ≡ e → new ≡ capped n old (record { rule = rule; term = d } ∷ []) → new ≡ capped n old (fact_where b rule e)
  one_made b d e new h same made =
      made ∙ ap (λ x. capped n old (fact_where true rule x)) same ∙ ap (λ t. capped n old (fact_where t rule e)) (sym h)

module _ (n m i j : ℕ) (a b x y : Arc) (p q r : Bool) (old : List FlowHypothesis) where
  common_is : x ≡ literal_arc m a p → y ≡ literal_arc m b q → r ≡ have_common m (x ∷ y ∷ []) → have_common m (literal_arc m a p ∷ literal_arc m b q ∷ []) ≡ r
  common_is ex ey er = ap₂ (λ u v. have_common m (u ∷ v ∷ [])) (sym ex) (sym ey) ∙ sym er

  pub two_meet : x ≡ literal_arc m a p → y ≡ literal_arc m b q → r ≡ have_common m (x ∷ y ∷ []) → r ≡ true → old ≡ capped n old (two_arc_fact m i j a b p q)
  two_meet ex ey er t =
      none_made n old (by_intervals (i ∷ j ∷ [])) (not (have_common m (literal_arc m a p ∷ literal_arc m b q ∷ [])))
      (product (test (literal_test i p)) (test (literal_test j q))) (ap not (common_is ex ey er ∙ t))

  pub two_apart : (left right : TestTree) (e : Term) (new : List FlowHypothesis) → x ≡ literal_arc m a p → y ≡ literal_arc m b q → r ≡ have_common m (x ∷ y ∷ []) → r ≡ false →
      left ≡ literal_test i p → right ≡ literal_test j q → e ≡ product (test left) (test right) →
      new ≡ capped n old (record { rule = by_intervals (i ∷ j ∷ []); term = e } ∷ []) → new ≡ capped n old (two_arc_fact m i j a b p q)
  two_apart left right e new ex ey er f el eg ee en =
      one_made n old (by_intervals (i ∷ j ∷ [])) (not (have_common m (literal_arc m a p ∷ literal_arc m b q ∷ [])))
      e (product (test (literal_test i p)) (test (literal_test j q))) new (ap not (common_is ex ey er ∙ f))
      (ee ∙ ap₂ (λ u v. product (test u) (test v)) el eg) en

module _ (n m i j k : ℕ) (a b c x y z : Arc) (p q s r : Bool) (old : List FlowHypothesis) where
  least_is : x ≡ literal_arc m a p → y ≡ literal_arc m b q → z ≡ literal_arc m c s → r ≡ is_least m x y z → is_least m (literal_arc m a p) (literal_arc m b q) (literal_arc m c s) ≡ r
  least_is ex ey ez er =
      ap (λ u. is_least m u (literal_arc m b q) (literal_arc m c s)) (sym ex) ∙ ap (λ v. is_least m x v (literal_arc m c s)) (sym ey) ∙ ap (λ w. is_least m x y w) (sym ez) ∙ sym er

  pub three_meet : x ≡ literal_arc m a p → y ≡ literal_arc m b q → z ≡ literal_arc m c s → r ≡ is_least m x y z → r ≡ false → old ≡ capped n old (three_arc_fact m i j k a b c p q s)
  three_meet ex ey ez er f =
      none_made n old (by_intervals (i ∷ j ∷ k ∷ [])) (is_least m (literal_arc m a p) (literal_arc m b q) (literal_arc m c s))
      (none_of_three (literal_test i p) (literal_test j q) (literal_test k s)) (least_is ex ey ez er ∙ f)

  pub three_apart : (left middle right : TestTree) (e : Term) (new : List FlowHypothesis) → x ≡ literal_arc m a p → y ≡ literal_arc m b q → z ≡ literal_arc m c s → r ≡ is_least m x y z → r ≡ true →
      left ≡ literal_test i p → middle ≡ literal_test j q → right ≡ literal_test k s → e ≡ none_of_three left middle right →
      new ≡ capped n old (record { rule = by_intervals (i ∷ j ∷ k ∷ []); term = e } ∷ []) → new ≡ capped n old (three_arc_fact m i j k a b c p q s)
  three_apart left middle right e new ex ey ez er t el em eg ee en =
      one_made n old (by_intervals (i ∷ j ∷ k ∷ [])) (is_least m (literal_arc m a p) (literal_arc m b q) (literal_arc m c s))
      e (none_of_three (literal_test i p) (literal_test j q) (literal_test k s)) new (least_is ex ey ez er ∙ t)
      (ee ∙ ap (λ u. none_of_three u middle right) el ∙ ap (λ v. none_of_three (literal_test i p) v right) em ∙ ap (λ w. none_of_three (literal_test i p) (literal_test j q) w) eg) en
