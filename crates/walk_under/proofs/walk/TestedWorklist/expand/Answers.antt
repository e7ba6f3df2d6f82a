use Rattle.std.proofs.Common.{◌<◌, ◌≤◌, length, take, get_or, sym, subst}
use Rattle.std.proofs.lemmas.List.{take_more, take_all}
use Rattle.std.proofs.lemmas.Option.{slice_get-get_or}
use Rattle.kat_model.specs.Members.{Has}
use Rattle.kat_model.specs.Steps.{set_out, set_next}
use Rattle.kat_model.proofs.Places.{has_at}
use Rattle.term_nodes.specs.NumberSets.{terms_of}
use Rattle.partial_derivs.specs.Moves.{AreGuards, AreMerged}
use Rattle.partial_derivs.proofs.Kept.{AreGuards-kept, IsStepsBy-kept, Keeps-functions}
use Rattle.walk_pairs.specs.Items.{AreItemsOf, AreLedTo}
use Rattle.walk_under.specs.declared.walk.TestedWorklist.{TestedWorklist}
use Rattle.walk_under.specs.declared.walk.StepSource.{StepSource}
use Rattle.walk_under.specs.Working.Walking.{AreNextItems, HasStepped}
use Rattle.walk_under.proofs.Taking.{items_next, stepped_none, stepped_represents, stepped_more}
use Rattle.walk_under.proofs.walk.TestedWorklist.expand.Goals as goal

pub loop-act-init : goal.loop-act-init
loop-act-init c s from t taken_pair count = stepped_none s c.args.self.now c.args.taken_pair.now from c.args.steps.now t taken_pair

pub items_of-requires-clause-left : goal.items_of-requires-clause-left
items_of-requires-clause-left c =
    let r = c.requires.taking in
    let inv = c.loop-act.invariant r.0 r.1 r.2 r.3 r.4 in
    let old = c.args.self.now.diagrams in
    let now = c.loop-act.self.diagrams in
    let store = r.0.store in
    subst (AreGuards now) (sym c.deref-in-loop-act.ensures.value) (AreGuards-kept store store old now (Keeps-functions store old now inv.kept) c.args.steps.now.left.moves.items r.2.left.guards)

pub items_of-requires-clause-right : goal.items_of-requires-clause-right
items_of-requires-clause-right c =
    let r = c.requires.taking in
    let inv = c.loop-act.invariant r.0 r.1 r.2 r.3 r.4 in
    let old = c.args.self.now.diagrams in
    let now = c.loop-act.self.diagrams in
    let store = r.0.store in
    subst (AreGuards now) (sym c.deref-in-loop-act-2.ensures.value) (AreGuards-kept store store old now (Keeps-functions store old now inv.kept) c.args.steps.now.right.moves.items r.2.right.guards)

pub items_of-requires-clause-left_merged : goal.items_of-requires-clause-left_merged
items_of-requires-clause-left_merged c = subst AreMerged (sym c.deref-in-loop-act.ensures.value) c.requires.taking.2.left.merged

pub items_of-requires-clause-right_merged : goal.items_of-requires-clause-right_merged
items_of-requires-clause-right_merged c = subst AreMerged (sym c.deref-in-loop-act-2.ensures.value) c.requires.taking.2.right.merged

pub visit-requires-clause-level : goal.visit-requires-clause-level
visit-requires-clause-level c = c.requires.level

pub visit-requires-clause-represents : goal.visit-requires-clause-represents
visit-requires-clause-represents c =
    let r = c.requires.taking in
    let s = r.0 in
    let from = r.1 in
    let inv = c.loop-act.invariant s from r.2 r.3 r.4 in
    let old : TestedWorklist = c.args.self.now in
    let mid : TestedWorklist = c.loop-act.self in
    let steps = c.args.steps.now in
    let taken_pair = c.args.taken_pair.now in
    let acts = c.deref-act-items.result.now in
    let i = c.loop-act.act-index in
    let act = get_or acts i 0 in
    let member : Has acts act = has_at acts i act (slice_get-get_or acts i 0 c.loop-act-test.true) in
    let below : act < c.args.actions = (c.in_ok-actions_in_order.ensures act).0 (subst (λ l. Has l act) c.deref-act-items.ensures.value member) in
    let own : act < s.problem.actions = subst (λ n. act < n) r.4 below in
    let more = Keeps-functions s.store old.diagrams mid.diagrams inv.kept in
    let are : AreItemsOf mid.diagrams steps.left.moves.items steps.right.moves.items act c.in_ok-items.items.items = rw (c.deref-in-loop-act.ensures.value, c.deref-in-loop-act-2.ensures.value) at c.in_ok-items.ensures.items in
    let led : AreLedTo steps.left.moves.items steps.right.moves.items c.in_ok-items.items.items = rw (c.deref-in-loop-act.ensures.value, c.deref-in-loop-act-2.ensures.value) at c.in_ok-items.ensures.targets in
    let source : StepSource = record { place = taken_pair.place; level = taken_pair.level; test = taken_pair.test; act = act } in
    let next : AreNextItems s mid source from c.in_ok-items.items.items =
    items_next s mid source from steps.left steps.right c.in_ok-items.items.items
    (IsStepsBy-kept s.store s.store old.diagrams mid.diagrams more (set_out (terms_of s.store from.left)) (set_next (terms_of s.store from.left)) steps.left r.2.left)
    (IsStepsBy-kept s.store s.store old.diagrams mid.diagrams more (set_out (terms_of s.store from.right)) (set_next (terms_of s.store from.right)) steps.right r.2.right)
    are led in (
      s,
      from,
      stepped_represents s old mid taken_pair from (take i acts) inv act own,
      subst (AreNextItems s mid source from) (sym c.deref-in-loop-act-3.ensures.value) next,
    )

pub loop-act-preserved : goal.loop-act-preserved
loop-act-preserved c s from t same count =
    let inv = c.loop-act.invariant s from t same count in
    let old : TestedWorklist = c.args.self.now in
    let mid : TestedWorklist = c.loop-act.self in
    let new : TestedWorklist = c.visit.new.self in
    let steps = c.args.steps.now in
    let taken_pair = c.args.taken_pair.now in
    let acts = c.deref-act-items.result.now in
    let i = c.loop-act.act-index in
    let act = get_or acts i 0 in
    let member : Has acts act = has_at acts i act (slice_get-get_or acts i 0 c.loop-act-test.true) in
    let below : act < c.args.actions = (c.in_ok-actions_in_order.ensures act).0 (subst (λ l. Has l act) c.deref-act-items.ensures.value member) in
    let own : act < s.problem.actions = subst (λ n. act < n) count below in
    let more = Keeps-functions s.store old.diagrams mid.diagrams inv.kept in
    let are : AreItemsOf mid.diagrams steps.left.moves.items steps.right.moves.items act c.in_ok-items.items.items = rw (c.deref-in-loop-act.ensures.value, c.deref-in-loop-act-2.ensures.value) at c.in_ok-items.ensures.items in
    let led : AreLedTo steps.left.moves.items steps.right.moves.items c.in_ok-items.items.items = rw (c.deref-in-loop-act.ensures.value, c.deref-in-loop-act-2.ensures.value) at c.in_ok-items.ensures.targets in
    let source : StepSource = record { place = taken_pair.place; level = taken_pair.level; test = taken_pair.test; act = act } in
    let next : AreNextItems s mid source from c.in_ok-items.items.items =
    items_next s mid source from steps.left steps.right c.in_ok-items.items.items
    (IsStepsBy-kept s.store s.store old.diagrams mid.diagrams more (set_out (terms_of s.store from.left)) (set_next (terms_of s.store from.left)) steps.left t.left)
    (IsStepsBy-kept s.store s.store old.diagrams mid.diagrams more (set_out (terms_of s.store from.right)) (set_next (terms_of s.store from.right)) steps.right t.right)
    are led in
    let represents = stepped_represents s old mid taken_pair from (take i acts) inv act own in
    let visited = c.in_ok-visit.ensures s from represents (subst (AreNextItems s mid source from) (sym c.deref-in-loop-act-3.ensures.value) next) in
    subst (HasStepped s old new taken_pair from) (sym (take_more acts i 0 c.loop-act-test.true))
    (stepped_more s old mid taken_pair from (take i acts) inv act own new same.atoms.is_id visited)

pub returns : goal.returns
returns c s from t taken_pair count =
    let acts = c.deref-act-items.result.now in
    let i = c.loop-act.act-index in
    let past : length acts ≤ i = c.loop-act-test.false in (
      take i acts,
      (λ a l. subst (λ xs. Has xs a) (sym (take_all i acts past)) (subst (λ xs. Has xs a) (sym c.deref-act-items.ensures.value) ((c.in_ok-actions_in_order.ensures a).1 l))),
      c.loop-act.invariant s from t taken_pair count,
    )
