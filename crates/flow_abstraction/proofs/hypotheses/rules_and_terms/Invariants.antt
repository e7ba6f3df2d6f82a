use Rattle.std.proofs.Common.{◌≡◌, ◌++◌, map}
use Rattle.kat_model.specs.Trees.{kat_tree}
use Rattle.flow_abstraction.specs.HypothesisViews.{flow_rule, flow_hypothesis}
use Rattle.flow_abstraction.proofs.hypotheses.rules_and_terms.Given as goal

-- the rules and terms so far, and the remaining ones
abbrev pub invariant-loop-hypothesis : goal.invariant-loop-hypothesis
invariant-loop-hypothesis l =
    record {
      rules : map flow_rule l.rules.items ++ map (λ h. h.rule) (map flow_hypothesis l.hypothesis-iterator.rest.items) ≡ map (λ h. h.rule) (map flow_hypothesis l.fn.list.items);
      terms : map kat_tree l.terms.items ++ map (λ h. h.term) (map flow_hypothesis l.hypothesis-iterator.rest.items) ≡ map (λ h. h.term) (map flow_hypothesis l.fn.list.items);
    }
