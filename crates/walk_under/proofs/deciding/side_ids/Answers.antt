use Rattle.std.proofs.Common.{◌≡◌, List, IfOk, sym, ap, ◌∙◌, subst}
use Rattle.kat_model.specs.Trees.{Term}
use Rattle.kat_model.specs.Closed.{Closed, closed}
use Rattle.kat_model.specs.Degrees.{long_hyps, with_hyps}
use Rattle.term_nodes.proofs.Growing.{Grows-itself}
use Rattle.goal_forms.specs.ClosedTrees.{closed_trees}
use Rattle.walk_pairs.specs.ClosedTerms.{AreIdsOf}
use Rattle.walk_under.proofs.deciding.side_ids.Goals as goal

pub returns-then-not-any_long-clause-ids : goal.returns-then-not-any_long-clause-ids
returns-then-not-any_long-clause-ids c =
    let p = c.args.problem.now in
    subst (λ (hs : List Term). IfOk c.own_sides.result (AreIdsOf c.own_sides.new.store (closed (with_hyps p hs)))) (sym (c.has_long-any_long.ensures c.if-not-any_long.true)) c.own_sides.ensures.ids

pub returns-clause-ids : goal.returns-clause-ids
returns-clause-ids c =
    let p = c.args.problem.now in
    let trees : closed_trees c.in_ok-closed.closed ≡ closed (with_hyps p (long_hyps p)) = c.in_ok-closed.ensures ∙ ap closed c.in_ok-long.ensures in
    subst (λ (k : Closed). IfOk c.closed_ids.result (AreIdsOf c.closed_ids.new.store k)) trees c.closed_ids.ensures.ids

pub returns-in_err-long-clause-kept : goal.returns-in_err-long-clause-kept
returns-in_err-long-clause-kept c = Grows-itself c.args.store.now

pub returns-in_err-closed-clause-kept : goal.returns-in_err-closed-clause-kept
returns-in_err-closed-clause-kept c = Grows-itself c.args.store.now

pub returns-then-not-any_long-clause-kept : goal.returns-then-not-any_long-clause-kept
returns-then-not-any_long-clause-kept c = c.own_sides.ensures.kept

pub returns-clause-kept : goal.returns-clause-kept
returns-clause-kept c = c.closed_ids.ensures.kept
