-- The tests and actions of a program are in range if its terms are.
use Rattle.std.proofs.Common.{inl, inr, refl, List, ◌∷◌}
use Rattle.kat_model.specs.Trees.{Term, one, zero, test, act}
use Rattle.kat_model.specs.Members.{Has}
use Rattle.kat_model.specs.Problems.{ProblemParts, IsInRange}
use Rattle.while_lang.specs.Flows.{FlowTree, empty, skip_then, abort_then, assert_then, act_then, branch_then, loop_then}
use Rattle.while_lang.specs.Encoding.{branch_term, loop_term, stmt_terms, encoded}
use Rattle.outline_rules.proofs.ConditionRanges.{product_parts}
use Rattle.hoare_outlines.specs.Working.Reached.{IsFlowInRange}

module _ (q : ProblemParts) where
  abbrev TermsInRange : List Term → Type 0
  TermsInRange es = (e : Term) → Has es e → IsInRange q.tests q.actions e

  later : (e : Term) (es : List Term) → TermsInRange (e ∷ es) → TermsInRange es
  later e es each x h = each x (inr h)

  pub flow_in_range : (f : FlowTree) → TermsInRange (stmt_terms f) → IsFlowInRange q f
  flow_in_range empty each = tt
  flow_in_range (skip_then rest) each = flow_in_range rest (later one (stmt_terms rest) each)
  flow_in_range (abort_then rest) each = flow_in_range rest (later zero (stmt_terms rest) each)
  flow_in_range (assert_then b rest) each = (each (test b) (inl refl), flow_in_range rest (later (test b) (stmt_terms rest) each))
  flow_in_range (act_then a rest) each = (each (act a) (inl refl), flow_in_range rest (later (act a) (stmt_terms rest) each))
  flow_in_range (branch_then b f g rest) each =
      let whole : Term = branch_term b (encoded f) (encoded g) in
      let r = each whole (inl refl) in (
        r.0.0,
        flow_in_range f (product_parts q.tests q.actions (stmt_terms f) r.0.1),
        flow_in_range g (product_parts q.tests q.actions (stmt_terms g) r.1.1),
        flow_in_range rest (later whole (stmt_terms rest) each),
      )
  flow_in_range (loop_then b f rest) each =
      let whole : Term = loop_term b (encoded f) in
      let r = each whole (inl refl) in (
        r.0.0,
        flow_in_range f (product_parts q.tests q.actions (stmt_terms f) r.0.1),
        flow_in_range rest (later whole (stmt_terms rest) each),
      )
