-- Evidence of either walk decides the problem, and the store has ids of its terms.
use Rattle.std.proofs.Common.{inl, inr, length, refl}
use Rattle.std.specs.Bool.{IsTrue}
use Rattle.kat_model.specs.Trees.{Term}
use Rattle.kat_model.specs.Members.{Has}
use Rattle.kat_model.specs.Problems.{ProblemParts}
use Rattle.term_nodes.specs.NodeLists.{NodeParts}
use Rattle.term_nodes.specs.NodeTrees.{HasTree}
use Rattle.certificate.specs.declared.evidence.Evidence.{Evidence}
use Rattle.certificate.specs.declared.evidence.Evidence.TheVariants.{Equal, Different}
use Rattle.certificate.specs.Accepted.{set_pairs}
use Rattle.certificate.specs.Decisions.{IsDecision, has_short, node_terms}
use Rattle.walk_under.specs.Decisions.{IsDecisionUnder}
use Rattle.walk_up_to.specs.Decisions.{IsDecisionUpTo}
use Rattle.walk_up_to.specs.StoredSides.{HasSides}
use Rattle.bisim_worklist.specs.StoredTerms.{HasIdsOf}
use Rattle.bisim_worklist.specs.Working.Limits.{limit_of}
use Rattle.bisim_worklist.proofs.PairLimits.{few_where_limited}

pub up_to_decides : (q : ProblemParts) (e : Evidence) → IsDecisionUpTo q (limit_of q) e → IsDecision q e
up_to_decides q (Equal c) d = (d.0, inl (record { concise = d.1; few = few_where_limited q (limit_of q) (length (set_pairs c)) refl d.2 }))
up_to_decides q (Different x) d = d

pub under_decides : (q : ProblemParts) → IsTrue (has_short q) → (e : Evidence) → IsDecisionUnder q e → IsDecision q e
under_decides q short (Equal c) d = (d.0, inr (record { concise = d.1; short = short }))
under_decides q short (Different x) d = d

pub has_ids : (q : ProblemParts) (store : NodeParts) → HasSides store q → (e : Evidence) → ((t : Term) → Has (node_terms e) t → HasTree store t) → HasIdsOf store q e
has_ids q store sides e nodes = record { left = sides.left; right = sides.right; nodes = nodes }
