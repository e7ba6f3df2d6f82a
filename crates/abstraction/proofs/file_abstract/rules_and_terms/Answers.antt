use Rattle.std.proofs.Common.{◌∙◌, map, refl, sym}
use Rattle.kat_model.specs.Trees.{Term, kat_tree}
use Rattle.abstraction.specs.declared.rule.Rule.{Rule}
use Rattle.abstraction.specs.Facts.{Hypothesis}
use Rattle.abstraction.proofs.MovedRows.{moved, moved_all}
use Rattle.abstraction.proofs.file_abstract.rules_and_terms.Goals as goal

abbrev rule_of : Hypothesis → Rule
rule_of h = h.rule

abbrev term_of : Hypothesis → Term
term_of h = h.term

pub loop-hyp-init : goal.loop-hyp-init
loop-hyp-init c = rw (c.new-rules.ensures.items, c.new-terms.ensures.items, c.into_iter-hyp-iterator.ensures.into_iter_gives.0) (refl, refl)

pub loop-hyp-preserved : goal.loop-hyp-preserved
loop-hyp-preserved c =
    let rest = c.loop-hyp.hyp-iterator.rest.items in
    let step = c.in-Some.ensures.steps.0 in
    let next = c.next.new.self.rest.items in (
      moved rule_of c.loop-hyp.rules.items rest _ c.loop-hyp.invariant.0 c.push_parts.new.rules.items next c.in-Some.hyp _ c.in_ok-push_parts.ensures.rule refl step,
      moved term_of (map kat_tree c.loop-hyp.terms.items) rest _ c.loop-hyp.invariant.1 (map kat_tree c.push_parts.new.terms.items) next c.in-Some.hyp _ c.in_ok-push_parts.ensures.term refl step,
    )

pub returns-clause-rules : goal.returns-clause-rules
returns-clause-rules c =
    let rest = c.loop-hyp.hyp-iterator.rest in
    moved_all rule_of c.loop-hyp.rules.items rest.items _ c.loop-hyp.invariant.0 (sym rest.ok.0 ∙ c.in-None.ensures.steps.0)

pub returns-clause-terms : goal.returns-clause-terms
returns-clause-terms c =
    let rest = c.loop-hyp.hyp-iterator.rest in
    moved_all term_of (map kat_tree c.loop-hyp.terms.items) rest.items _ c.loop-hyp.invariant.1 (sym rest.ok.0 ∙ c.in-None.ensures.steps.0)
