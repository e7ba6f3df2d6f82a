use Rattle.std.proofs.Common.{◌≡◌, List, ◌∷◌, ◌++◌, [], map, sym, ap, ◌∙◌, append_assoc}
use Rattle.kat_model.specs.Trees.{Term, kat_tree}
use Rattle.flow_problem.specs.FlowFacts.{FlowHypothesis, FlowRule}
use Rattle.flow_abstraction.specs.HypothesisViews.{flow_rule, flow_hypothesis}
use Rattle.flow_abstraction.proofs.hypotheses.rules_and_terms.Goals as goal

-- the next member goes to the end of what was made
next_moved : {X : Type 0} (old new rest all : List X) (x : X) → old ++ x ∷ rest ≡ all → new ≡ old ++ x ∷ [] → new ++ rest ≡ all
next_moved old new rest all x whole made = ap (λ ys. ys ++ rest) made ∙ append_assoc old (x ∷ []) rest ∙ whole

pub loop-hypothesis-preserved : goal.loop-hypothesis-preserved
loop-hypothesis-preserved c =
    let rule : FlowHypothesis → FlowRule = λ h. h.rule in
    let term : FlowHypothesis → Term = λ h. h.term in
    let rules = map flow_rule c.loop-hypothesis.rules.items in
    let terms = map kat_tree c.loop-hypothesis.terms.items in
    let rest = map flow_hypothesis c.next.new.self.rest.items in
    let all = map flow_hypothesis c.args.list.items in
    let next = flow_hypothesis c.in-Some.hypothesis in
    record {
      rules = next_moved rules (map flow_rule c.push_parts.new.rules.items) (map rule rest) (map rule all) next.rule
          (ap (λ hs. rules ++ map rule (map flow_hypothesis hs)) (sym c.in-Some.ensures.steps.0) ∙ c.loop-hypothesis.invariant.rules) c.in_ok-push_parts.ensures.rule;
      terms = next_moved terms (map kat_tree c.push_parts.new.terms.items) (map term rest) (map term all) next.term
          (ap (λ hs. terms ++ map term (map flow_hypothesis hs)) (sym c.in-Some.ensures.steps.0) ∙ c.loop-hypothesis.invariant.terms) c.in_ok-push_parts.ensures.term;
    }
