use Rattle.std.proofs.Common.{◌≡◌, ◌++◌, map, drop}
use Rattle.std.specs.List.{filter}
use Rattle.kat_model.specs.Members.{Has}
use Rattle.kat_model.specs.Trees.{kat_tree}
use Rattle.kat_model.specs.Degrees.{is_short}
use Rattle.term_nodes.specs.NodeTrees.{tree_at}
use Rattle.term_nodes.specs.Growth.{Grows}
use Rattle.partial_derivs.specs.Moves.{IsTermOf}
use Rattle.walk_under.specs.declared.counting.ShortHyp.{ShortHyp}
use Rattle.walk_under.proofs.counting.short_hyps.Given as goal

-- the short hypotheses so far and those among the rest are all short hypotheses
abbrev pub invariant-loop-hyp : goal.invariant-loop-hyp
invariant-loop-hyp l = record {
  kept : Grows l.initial.store l.store;
  trees : map (λ (h : ShortHyp). kat_tree h.hyp) l.shorts.items ++ filter is_short (map kat_tree (drop l.hyp-index l.hyp-items)) ≡ filter is_short (map kat_tree l.hyp-items);
  terms : (h : ShortHyp) → Has l.shorts.items h → IsTermOf l.store l.problem.tests h.term × (tree_at l.store h.term ≡ kat_tree h.hyp);
}
