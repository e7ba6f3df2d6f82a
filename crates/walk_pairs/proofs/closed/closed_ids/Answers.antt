use Rattle.std.proofs.Common.{◌∙◌, IfSome, subst}
use Rattle.term_nodes.specs.NodeLists.{IsTerm}
use Rattle.term_nodes.proofs.Growing.{Grows-trans}
use Rattle.walk_pairs.proofs.closed.closed_ids.Goals as goal

pub returns-in_err-universal-clause-kept : goal.returns-in_err-universal-clause-kept
returns-in_err-universal-clause-kept c =
    Grows-trans c.args.store.now c.of_tree.new.self c.universal_id.new.store c.in_ok-left.ensures.grows
    (Grows-trans c.of_tree.new.self c.of_tree-2.new.self c.universal_id.new.store c.in_ok-right.ensures.grows c.in_err-universal.ensures.kept)

pub returns-clause-kept : goal.returns-clause-kept
returns-clause-kept c =
    Grows-trans c.args.store.now c.of_tree.new.self c.universal_id.new.store c.in_ok-left.ensures.grows
    (Grows-trans c.of_tree.new.self c.of_tree-2.new.self c.universal_id.new.store c.in_ok-right.ensures.grows c.in_ok-universal.ensures.kept)

pub returns-clause-ids : goal.returns-clause-ids
returns-clause-ids c =
    let store = c.universal_id.new.store in
    let left = c.in_ok-left.left in
    let right = c.in_ok-right.right in
    let left_there = c.in_ok-right.ensures.grows.term_numbers left c.in_ok-left.ensures.is_id in
    record {
      left_id = c.in_ok-universal.ensures.kept.term_numbers left left_there;
      left = c.in_ok-universal.ensures.kept.trees left left_there ∙ c.in_ok-right.ensures.grows.trees left c.in_ok-left.ensures.is_id ∙ c.in_ok-left.ensures.tree;
      right_id = c.in_ok-universal.ensures.kept.term_numbers right c.in_ok-right.ensures.is_id;
      right = c.in_ok-universal.ensures.kept.trees right c.in_ok-right.ensures.is_id ∙ c.in_ok-right.ensures.tree;
      universal_id = λ u e. subst (λ o. IfSome o (IsTerm store)) e c.in_ok-universal.ensures.is_id;
      universal = c.in_ok-universal.ensures.tree;
    }

pub returns-in_err-left-clause-kept : goal.returns-in_err-left-clause-kept
returns-in_err-left-clause-kept c = c.in_err-left.ensures.grows

pub returns-in_err-left-clause-store : goal.returns-in_err-left-clause-store
returns-in_err-left-clause-store c = c.in_err-left.ensures.store

pub returns-in_err-right-clause-kept : goal.returns-in_err-right-clause-kept
returns-in_err-right-clause-kept c = Grows-trans c.args.store.now c.of_tree.new.self c.of_tree-2.new.self c.in_ok-left.ensures.grows c.in_err-right.ensures.grows

pub returns-in_err-right-clause-store : goal.returns-in_err-right-clause-store
returns-in_err-right-clause-store c = c.in_err-right.ensures.store

pub returns-in_err-universal-clause-store : goal.returns-in_err-universal-clause-store
returns-in_err-universal-clause-store c = c.in_err-universal.ensures.refused

pub returns-clause-store : goal.returns-clause-store
returns-clause-store c = c.count-2.ensures.store
