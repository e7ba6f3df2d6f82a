use Rattle.std.proofs.Common.{refl, sym, ap, ◌∙◌}
use Rattle.walk_up_to.specs.Covers.{covers}
use Rattle.walk_up_to.proofs.PassedOn.{no_room_full, no_room_cost, not_stopped, one_limit}
use Rattle.walk_up_to.proofs.Leaves.{visits_covered, visits_listed, leaf_passes}
use Rattle.walk_up_to.proofs.branching.visit_leaf.Goals as goal

pub returns-then-branch-clause-visited : goal.returns-then-branch-clause-visited
returns-then-branch-clause-visited c =
    visits_covered c.args.diagrams.now c.args.source.now c.args.case.now.decided.items c.args.case.now.items.items c.ends_of-ends.result c.ends_of-ends.ensures.ends c.args.listed.now
    (ap (covers c.args.listed.now c.ends_of-ends.result) (sym c.deref.ensures.value) ∙ sym c.in_ok-is_covered.ensures ∙ c.if-branch.true)

pub returns-then-is_full-clause-full : goal.returns-then-is_full-clause-full
returns-then-is_full-clause-full c = λ _.
    leaf_passes c.args.diagrams.now c.args.source.now c.args.case.now.decided.items c.args.case.now.items.items c.ends_of-ends.result c.ends_of-ends.ensures.ends c.args.listed.now c.requires.case c.requires.constant c.ends_of-ends.ensures.reduced
    (ap (covers c.args.listed.now c.ends_of-ends.result) (sym c.deref.ensures.value) ∙ sym c.in_ok-is_covered.ensures ∙ c.if-branch.false)
    (sym c.is_full.ensures ∙ c.if-is_full.true)

pub returns-clause-visited : goal.returns-clause-visited
returns-clause-visited c =
    visits_listed c.args.diagrams.now c.args.source.now c.args.case.now.decided.items c.args.case.now.items.items c.ends_of-ends.result c.ends_of-ends.ensures.ends c.args.listed.now c.list_case.new.listed c.requires.case c.requires.constant c.ends_of-ends.ensures.reduced
    (ap (covers c.args.listed.now c.ends_of-ends.result) (sym c.deref.ensures.value) ∙ sym c.in_ok-is_covered.ensures ∙ c.if-branch.false)
    c.in_ok-list_case.ensures.pairs c.list_case.ensures.universal c.list_case.ensures.count c.list_case.ensures.limit
    (sym c.is_full.ensures ∙ c.if-is_full.false)

pub returns-in_err-is_covered-clause-full : goal.returns-in_err-is_covered-clause-full
returns-in_err-is_covered-clause-full c is = absurd (no_room_full c.from_residual.result c.from_residual.ensures.1 is)

pub returns-in_err-is_covered-clause-limited : goal.returns-in_err-is_covered-clause-limited
returns-in_err-is_covered-clause-limited c is = absurd (no_room_cost c.from_residual.result c.from_residual.ensures.1 is)

pub returns-in_err-is_covered-clause-limit : goal.returns-in_err-is_covered-clause-limit
returns-in_err-is_covered-clause-limit c = refl

pub returns-then-branch-clause-full : goal.returns-then-branch-clause-full
returns-then-branch-clause-full c is = absurd (not_stopped _ _ is)

pub returns-then-branch-clause-limited : goal.returns-then-branch-clause-limited
returns-then-branch-clause-limited c is = absurd (not_stopped _ _ is)

pub returns-then-branch-clause-limit : goal.returns-then-branch-clause-limit
returns-then-branch-clause-limit c = refl

pub returns-then-is_full-clause-limited : goal.returns-then-is_full-clause-limited
returns-then-is_full-clause-limited c is = absurd (one_limit _ refl is)

pub returns-then-is_full-clause-limit : goal.returns-then-is_full-clause-limit
returns-then-is_full-clause-limit c = refl

pub returns-in_err-list_case-clause-full : goal.returns-in_err-list_case-clause-full
returns-in_err-list_case-clause-full c is = absurd (no_room_full c.from_residual-in_err-list_case.result c.from_residual-in_err-list_case.ensures.1 is)

pub returns-in_err-list_case-clause-limited : goal.returns-in_err-list_case-clause-limited
returns-in_err-list_case-clause-limited c is = absurd (no_room_cost c.from_residual-in_err-list_case.result c.from_residual-in_err-list_case.ensures.1 is)

pub returns-in_err-list_case-clause-limit : goal.returns-in_err-list_case-clause-limit
returns-in_err-list_case-clause-limit c = c.list_case.ensures.limit

pub returns-clause-full : goal.returns-clause-full
returns-clause-full c is = absurd (not_stopped _ _ is)

pub returns-clause-limited : goal.returns-clause-limited
returns-clause-limited c is = absurd (not_stopped _ _ is)

pub returns-clause-limit : goal.returns-clause-limit
returns-clause-limit c = c.list_case.ensures.limit
