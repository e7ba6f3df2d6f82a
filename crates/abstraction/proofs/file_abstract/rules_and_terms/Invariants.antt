use Rattle.std.proofs.Common.{◌≡◌, ◌++◌, List, map}
use Rattle.kat_model.specs.Trees.{Term, kat_tree}
use Rattle.abstraction.specs.declared.rule.Rule.{Rule}
use Rattle.abstraction.specs.Facts.{Hypothesis}
use Rattle.abstraction.proofs.file_abstract.rules_and_terms.Given as goal

abbrev rules_of : List Hypothesis → List Rule
rules_of hs = map (λ h. h.rule) hs

abbrev terms_of : List Hypothesis → List Term
terms_of hs = map (λ h. h.term) hs

-- the rules and terms so far, and the remaining ones
abbrev pub invariant-loop-hyp : goal.invariant-loop-hyp
invariant-loop-hyp l =
    (l.rules.items ++ rules_of l.hyp-iterator.rest.items ≡ rules_of l.fn.hyps.items) × (map kat_tree l.terms.items ++ terms_of l.hyp-iterator.rest.items ≡ terms_of l.fn.hyps.items)
