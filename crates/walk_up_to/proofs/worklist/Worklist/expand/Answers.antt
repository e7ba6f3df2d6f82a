use Rattle.std.proofs.Common.{◌<◌, ◌≤◌, ℕ, length, take, get_or, refl, sym, ◌∙◌, subst, Err, ap}
use Rattle.std.specs.Prelude.{IsSome}
use Rattle.std.proofs.lemmas.List.{take_more, take_all}
use Rattle.std.proofs.lemmas.Option.{slice_get-get_or}
use Rattle.kat_model.specs.Members.{Has}
use Rattle.kat_model.proofs.Places.{has_at}
use Rattle.test_diagrams.proofs.Kept.{KeepsFunctions-itself, KeepsFunctions-trans}
use Rattle.partial_derivs.specs.Moves.{AreMerged}
use Rattle.walk_pairs.specs.Items.{AreItemsOf, AreLedTo}
use Rattle.walk_up_to.proofs.PassedOn.{passed_on, passed_cost, no_room_full, no_room_cost, not_stopped}
use Rattle.walk_up_to.proofs.Expanding.{StepsBy, steps_none, steps_more, steps_pass, steps_all}
use Rattle.walk_up_to.proofs.worklist.Worklist.expand.Goals as goal

pub loop-act-preserved : goal.loop-act-preserved
loop-act-preserved c =
    let before = c.loop-act.invariant in
    let walk = c.loop-act.self in
    let steps = c.args.steps.now in
    let acts = c.deref-act-items.result.now in
    let i = c.loop-act.act-index in
    let act = get_or acts i 0 in
    let items = c.in_ok-items.items.items in
    let member : Has acts act = has_at acts i act (slice_get-get_or acts i 0 c.loop-act-test.true) in
    let below : act < c.args.actions = (c.in_ok-actions_in_order.ensures act).0 (subst (λ l. Has l act) c.deref-act-items.ensures.value member) in
    let are : AreItemsOf walk.diagrams steps.left.moves.items steps.right.moves.items act items = rw (c.deref-in-loop-act.ensures.value, c.deref-in-loop-act-2.ensures.value) at c.in_ok-items.ensures.items in
    let led : AreLedTo steps.left.moves.items steps.right.moves.items items = rw (c.deref-in-loop-act.ensures.value, c.deref-in-loop-act-2.ensures.value) at c.in_ok-items.ensures.targets in
    record {
      kept = KeepsFunctions-trans _ _ _ before.kept c.in_ok-visit_all.ensures.kept;
      same = before.same;
      limit = c.in_ok-visit_all.ensures.limit ∙ before.limit;
      stepped = subst (StepsBy c.args.actions c.args.self.now c.visit_all.new.listed c.args.place steps) (sym (take_more acts i 0 c.loop-act-test.true))
          (steps_more c.args.actions c.args.self.now c.args.place steps (take i acts) walk.diagrams walk.listed (record { place = c.args.place; act = act }) items before.kept refl below
          are led before.stepped c.visit_all.new.listed c.in_ok-visit_all.ensures.visited);
    }

pub returns-in_err-visit_all-clause-full : goal.returns-in_err-visit_all-clause-full
returns-in_err-visit_all-clause-full c = λ is.
    let before = c.loop-act.invariant in
    let walk = c.loop-act.self in
    let steps = c.args.steps.now in
    let acts = c.deref-act-items.result.now in
    let i = c.loop-act.act-index in
    let act = get_or acts i 0 in
    let items = c.in_ok-items.items.items in
    let member : Has acts act = has_at acts i act (slice_get-get_or acts i 0 c.loop-act-test.true) in
    let below : act < c.args.actions = (c.in_ok-actions_in_order.ensures act).0 (subst (λ l. Has l act) c.deref-act-items.ensures.value member) in
    let are : AreItemsOf walk.diagrams steps.left.moves.items steps.right.moves.items act items = rw (c.deref-in-loop-act.ensures.value, c.deref-in-loop-act-2.ensures.value) at c.in_ok-items.ensures.items in
    let led : AreLedTo steps.left.moves.items steps.right.moves.items items = rw (c.deref-in-loop-act.ensures.value, c.deref-in-loop-act-2.ensures.value) at c.in_ok-items.ensures.targets in
    steps_pass c.args.actions c.args.self.now c.args.place steps (take i acts) walk.diagrams walk.listed (record { place = c.args.place; act = act }) items before.kept refl below
    are led before.stepped before.limit (c.in_err-visit_all.ensures.full (ap Err (passed_on c.from_residual-in_err-visit_all.result c.in_err-visit_all.field-0.0 c.from_residual-in_err-visit_all.ensures.1 is)))

pub returns-clause-expanded : goal.returns-clause-expanded
returns-clause-expanded c =
    let before = c.loop-act.invariant in
    let acts = c.deref-act-items.result.now in
    let i = c.loop-act.act-index in
    let past : length acts ≤ i = c.loop-act-test.false in
    let all : (a : ℕ) → a < c.args.actions → Has (take i acts) a = λ a l. subst (λ xs. Has xs a) (sym (take_all i acts past)) (subst (λ xs. Has xs a) (sym c.deref-act-items.ensures.value) ((c.in_ok-actions_in_order.ensures a).1 l)) in
    steps_all c.args.actions c.args.self.now c.args.place c.args.steps.now (take i acts) c.loop-act.self before.kept before.same all before.stepped

pub returns-in_err-visit_all-clause-limited : goal.returns-in_err-visit_all-clause-limited
returns-in_err-visit_all-clause-limited c = λ is.
    subst IsSome c.loop-act.invariant.limit (c.in_err-visit_all.ensures.limited (ap Err (passed_cost c.from_residual-in_err-visit_all.result c.in_err-visit_all.field-0.0 c.from_residual-in_err-visit_all.ensures.1 is)))

pub returns-in_err-actions_in_order-clause-full : goal.returns-in_err-actions_in_order-clause-full
returns-in_err-actions_in_order-clause-full c is = λ q store e acts under_way at steps. absurd (no_room_full c.from_residual.result c.from_residual.ensures.1 is)

pub returns-in_err-actions_in_order-clause-limited : goal.returns-in_err-actions_in_order-clause-limited
returns-in_err-actions_in_order-clause-limited c is = absurd (no_room_cost c.from_residual.result c.from_residual.ensures.1 is)

pub returns-in_err-actions_in_order-clause-tests : goal.returns-in_err-actions_in_order-clause-tests
returns-in_err-actions_in_order-clause-tests c = refl

pub returns-in_err-actions_in_order-clause-limit : goal.returns-in_err-actions_in_order-clause-limit
returns-in_err-actions_in_order-clause-limit c = refl

pub returns-clause-limited : goal.returns-clause-limited
returns-clause-limited c is = absurd (not_stopped _ _ is)

pub returns-clause-full : goal.returns-clause-full
returns-clause-full c is = absurd (not_stopped _ _ is)

pub returns-clause-limit : goal.returns-clause-limit
returns-clause-limit c = c.loop-act.invariant.limit

pub returns-in_err-items-clause-tests : goal.returns-in_err-items-clause-tests
returns-in_err-items-clause-tests c = c.loop-act.invariant.kept.tests

pub returns-in_err-items-clause-full : goal.returns-in_err-items-clause-full
returns-in_err-items-clause-full c is = λ q store e acts under_way at steps. absurd (no_room_full c.from_residual-in_err-items.result c.from_residual-in_err-items.ensures.1 is)

pub returns-in_err-items-clause-limited : goal.returns-in_err-items-clause-limited
returns-in_err-items-clause-limited c is = absurd (no_room_cost c.from_residual-in_err-items.result c.from_residual-in_err-items.ensures.1 is)

pub returns-in_err-items-clause-limit : goal.returns-in_err-items-clause-limit
returns-in_err-items-clause-limit c = c.loop-act.invariant.limit

pub returns-in_err-visit_all-clause-tests : goal.returns-in_err-visit_all-clause-tests
returns-in_err-visit_all-clause-tests c = c.in_err-visit_all.ensures.kept.tests ∙ c.loop-act.invariant.kept.tests

pub returns-in_err-visit_all-clause-limit : goal.returns-in_err-visit_all-clause-limit
returns-in_err-visit_all-clause-limit c = c.in_err-visit_all.ensures.limit ∙ c.loop-act.invariant.limit

pub returns-clause-tests : goal.returns-clause-tests
returns-clause-tests c = c.loop-act.invariant.kept.tests

pub items_of-requires-clause-left : goal.items_of-requires-clause-left
items_of-requires-clause-left c m h = c.loop-act.invariant.kept.ids m.guard (c.requires.ids.left m (subst (λ l. Has l m) c.deref-in-loop-act.ensures.value h))

pub items_of-requires-clause-right : goal.items_of-requires-clause-right
items_of-requires-clause-right c m h = c.loop-act.invariant.kept.ids m.guard (c.requires.ids.right m (subst (λ l. Has l m) c.deref-in-loop-act-2.ensures.value h))

pub items_of-requires-clause-left_merged : goal.items_of-requires-clause-left_merged
items_of-requires-clause-left_merged c = subst AreMerged (sym c.deref-in-loop-act.ensures.value) c.requires.ids.left_merged

pub items_of-requires-clause-right_merged : goal.items_of-requires-clause-right_merged
items_of-requires-clause-right_merged c = subst AreMerged (sym c.deref-in-loop-act-2.ensures.value) c.requires.ids.right_merged

pub visit_all-requires : goal.visit_all-requires
visit_all-requires c = record { items = c.in_ok-items.ensures.items.are }

pub loop-act-init : goal.loop-act-init
loop-act-init c = record { kept = KeepsFunctions-itself c.args.self.now.diagrams; same = refl; limit = refl; stepped = steps_none c.args.actions c.args.self.now c.args.place c.args.steps.now }
