use Rattle.std.proofs.Common.{◌≡◌, ◌∙◌, ◌+◌, ◌∷◌, ◌++◌, [], ℕ, List, take, Some, slice_get, sym, ap, subst}
use Rattle.std.proofs.lemmas.List.{take_more}
use Rattle.std.proofs.lemmas.Option.{slice_get-get_or}
use Rattle.kat_model.proofs.Places.{has_at}
use Rattle.outline_rules.proofs.StepSets.{KeepsSteps-trans}
use Rattle.hoare_outlines.specs.Working.Noted.{AreNodesFor}
use Rattle.hoare_outlines.proofs.SetIds.{set_kept}
use Rattle.hoare_outlines.proofs.Dependences.{depends_all}
use Rattle.hoare_outlines.proofs.NodesFor.{nodes_for_later, nodes_for_more}
use Rattle.hoare_outlines.proofs.noting.nodes_for.Goals as goal

pub node_from-requires-clause-set : goal.node_from-requires-clause-set
node_from-requires-clause-set c =
    let sets = c.args.sets.now in
    let id = c.set-item.result in
    let at : slice_get sets c.loop-set.set-index ≡ Some id = slice_get-get_or sets c.loop-set.set-index id c.loop-set-test.true ∙ ap (λ k. Some k) (sym c.set-item.is) in
    let r = c.requires.sets id (has_at sets c.loop-set.set-index id at) in
    record { set = r.0; is_set = set_kept c.args.diagrams.now c.loop-set.diagrams c.loop-set.invariant.kept id r.0 r.1; depends = depends_all c.loop-set.diagrams.tests r.0 }

pub loop-set-preserved : goal.loop-set-preserved
loop-set-preserved c =
    let sets = c.args.sets.now in
    let i = c.loop-set.set-index in
    let id = c.set-item.result in
    let new = c.node_from.new.diagrams in
    let keys = c.node_from.new.self.nodes.keys in
    let more : take (i + 1) sets ≡ take i sets ++ id ∷ [] = take_more sets i id c.loop-set-test.true ∙ ap (λ k. take i sets ++ k ∷ []) (sym c.set-item.is) in
    let later = nodes_for_later c.loop-set.diagrams new c.loop-set.writer.nodes.keys keys (take i sets) c.loop-set.notes.items c.in_ok-node.ensures.kept c.in_ok-node.ensures.adds c.loop-set.invariant.nodes in
    let all = nodes_for_more new keys (take i sets) c.loop-set.notes.items id c.in_ok-node.node later c.in_ok-node.ensures.node in
    record {
      nodes = subst (λ (l : List ℕ). AreNodesFor new keys (take (i + 1) sets) l) (sym c.in_ok-push.ensures.items) (subst (λ (l : List ℕ). AreNodesFor new keys l (c.loop-set.notes.items ++ c.in_ok-node.node ∷ [])) (sym more) all);
      writer = c.in_ok-node.ensures.writer;
      kept = KeepsSteps-trans c.args.diagrams.now c.loop-set.diagrams new c.loop-set.invariant.kept c.in_ok-node.ensures.kept;
    }
