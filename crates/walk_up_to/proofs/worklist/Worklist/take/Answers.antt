use Rattle.std.proofs.Common.{◌≡◌, slice_get, Some, refl, ap, ◌∙◌, subst, Err}
use Rattle.std.specs.Prelude.{IsSome}
use Rattle.walk_up_to.specs.declared.worklist.Worklist.{Worklist}
use Rattle.walk_up_to.specs.Working.IdWalks.{IsPastLimit}
use Rattle.kat_model.proofs.Places.{element_at}
use Rattle.walk_up_to.proofs.PassedOn.{passed_on, passed_cost, no_room_full, no_room_cost, not_stopped}
use Rattle.walk_up_to.proofs.UnderWay.{under_way_more, step_ids_more, steps_at_more, alike, apart, taken}
use Rattle.walk_up_to.proofs.worklist.Worklist.take.Goals as goal

pub atom_apart-requires-clause-left : goal.atom_apart-requires-clause-left
atom_apart-requires-clause-left c =
    let u = c.requires.under_way in
    let e = element_at c.args.self.now.listed.pairs c.args.place c.requires.place in
    let stepped = c.in_ok-steps.ensures.steps u.0 e.0 u.1 e.1 in
    stepped.1.left.accepts.in_range

pub atom_apart-requires-clause-right : goal.atom_apart-requires-clause-right
atom_apart-requires-clause-right c =
    let u = c.requires.under_way in
    let e = element_at c.args.self.now.listed.pairs c.args.place c.requires.place in
    let stepped = c.in_ok-steps.ensures.steps u.0 e.0 u.1 e.1 in
    stepped.1.right.accepts.in_range

pub returns-in-Some-clause-taken : goal.returns-in-Some-clause-taken
returns-in-Some-clause-taken c = λ q acts under_way.
    let x : Worklist = record { listed = c.steps_at.new.self.listed; diagrams = c.atom_apart.new.diagrams; derivatives = c.steps_at.new.self.derivatives } in
    let e = element_at c.args.self.now.listed.pairs c.args.place c.requires.place in
    let stepped = c.in_ok-steps.ensures.steps q e.0 under_way e.1 in
    let here : slice_get c.steps_at.new.self.listed.pairs c.args.place ≡ Some e.0 = ap (λ ps. slice_get ps c.args.place) c.in_ok-steps.ensures.pairs ∙ e.1 in
    let found = rw c.in-Some.is at c.in_ok-atom.ensures.found in (
      under_way_more q c.steps_at.new.store c.args.place c.steps_at.new.self x c.in_ok-atom.ensures.kept refl refl stepped.0,
      apart q c.steps_at.new.store c.steps_at.new.self e.0 c.in_ok-steps.steps stepped.0.tests stepped.1 x c.args.place c.in-Some.atom.items refl here found.0 found.1,
    )

pub expand-requires : goal.expand-requires
expand-requires c =
    let x : Worklist = record { listed = c.steps_at.new.self.listed; diagrams = c.atom_apart.new.diagrams; derivatives = c.steps_at.new.self.derivatives } in
    let u = c.requires.under_way in
    let e = element_at c.args.self.now.listed.pairs c.args.place c.requires.place in
    let stepped = c.in_ok-steps.ensures.steps u.0 e.0 u.1 e.1 in
    record { ids = step_ids_more c.steps_at.new.store c.steps_at.new.self x c.in_ok-atom.ensures.kept c.in_ok-steps.steps stepped.2 }

pub returns-clause-taken : goal.returns-clause-taken
returns-clause-taken c = λ q acts under_way.
    let x : Worklist = record { listed = c.steps_at.new.self.listed; diagrams = c.atom_apart.new.diagrams; derivatives = c.steps_at.new.self.derivatives } in
    let e = element_at c.args.self.now.listed.pairs c.args.place c.requires.place in
    let stepped = c.in_ok-steps.ensures.steps q e.0 under_way e.1 in
    let here : slice_get c.steps_at.new.self.listed.pairs c.args.place ≡ Some e.0 =
    ap (λ ps. slice_get ps c.args.place) c.in_ok-steps.ensures.pairs ∙ e.1 in
    let same = rw c.in_default.is at c.in_ok-atom.ensures.found in
    let expanded =
    c.in_ok-expand.ensures.expanded q c.steps_at.new.store acts e.0
    (under_way_more q c.steps_at.new.store c.args.place c.steps_at.new.self x c.in_ok-atom.ensures.kept refl refl stepped.0)
    here
    (steps_at_more c.steps_at.new.store c.steps_at.new.self x c.in_ok-atom.ensures.kept c.in_ok-steps.steps e.0 stepped.1) in
    taken q c.steps_at.new.store c.expand.new.self c.args.place e.0 expanded.0 expanded.2
    (alike q c.steps_at.new.store c.steps_at.new.self e.0 c.in_ok-steps.steps stepped.0.tests stepped.1 same)
    expanded.1

pub returns-in_err-expand-clause-full : goal.returns-in_err-expand-clause-full
returns-in_err-expand-clause-full c = λ is q acts under_way.
    let x : Worklist = record { listed = c.steps_at.new.self.listed; diagrams = c.atom_apart.new.diagrams; derivatives = c.steps_at.new.self.derivatives } in
    let e = element_at c.args.self.now.listed.pairs c.args.place c.requires.place in
    let stepped = c.in_ok-steps.ensures.steps q e.0 under_way e.1 in
    let here : slice_get c.steps_at.new.self.listed.pairs c.args.place ≡ Some e.0 =
    ap (λ ps. slice_get ps c.args.place) c.in_ok-steps.ensures.pairs ∙ e.1 in
    let limit : c.steps_at.new.self.listed.limit ≡ c.args.self.now.listed.limit = c.in_ok-steps.ensures.limit in
    subst (IsPastLimit q) limit
    (c.in_err-expand.ensures.full (ap Err (passed_on c.from_residual-in_err-expand.result c.in_err-expand.field-0.0 c.from_residual-in_err-expand.ensures.1 is)) q c.steps_at.new.store e.0 acts
    (under_way_more q c.steps_at.new.store c.args.place c.steps_at.new.self x c.in_ok-atom.ensures.kept refl refl stepped.0)
    here
    (steps_at_more c.steps_at.new.store c.steps_at.new.self x c.in_ok-atom.ensures.kept c.in_ok-steps.steps e.0 stepped.1))

pub returns-in_err-expand-clause-limited : goal.returns-in_err-expand-clause-limited
returns-in_err-expand-clause-limited c = λ is.
    let limit : c.steps_at.new.self.listed.limit ≡ c.args.self.now.listed.limit = c.in_ok-steps.ensures.limit in
    subst IsSome limit (c.in_err-expand.ensures.limited (ap Err (passed_cost c.from_residual-in_err-expand.result c.in_err-expand.field-0.0 c.from_residual-in_err-expand.ensures.1 is)))

pub steps_at-requires-clause-under_way : goal.steps_at-requires-clause-under_way
steps_at-requires-clause-under_way c = c.requires.under_way

pub steps_at-requires-clause-place : goal.steps_at-requires-clause-place
steps_at-requires-clause-place c = c.requires.place

pub returns-in_err-steps-clause-full : goal.returns-in_err-steps-clause-full
returns-in_err-steps-clause-full c is q acts under_way = absurd (no_room_full c.from_residual.result c.from_residual.ensures.1 is)

pub returns-in_err-steps-clause-limited : goal.returns-in_err-steps-clause-limited
returns-in_err-steps-clause-limited c is = absurd (no_room_cost c.from_residual.result c.from_residual.ensures.1 is)

pub returns-in_err-steps-clause-limit : goal.returns-in_err-steps-clause-limit
returns-in_err-steps-clause-limit c = c.in_err-steps.ensures.limit

pub returns-in_err-steps-clause-kept : goal.returns-in_err-steps-clause-kept
returns-in_err-steps-clause-kept c = c.in_err-steps.ensures.kept

pub returns-in_err-atom-clause-full : goal.returns-in_err-atom-clause-full
returns-in_err-atom-clause-full c is q acts under_way = absurd (no_room_full c.from_residual-in_err-atom.result c.from_residual-in_err-atom.ensures.1 is)

pub returns-in_err-atom-clause-limited : goal.returns-in_err-atom-clause-limited
returns-in_err-atom-clause-limited c is = absurd (no_room_cost c.from_residual-in_err-atom.result c.from_residual-in_err-atom.ensures.1 is)

pub returns-in_err-atom-clause-limit : goal.returns-in_err-atom-clause-limit
returns-in_err-atom-clause-limit c = c.in_ok-steps.ensures.limit

pub returns-in_err-atom-clause-kept : goal.returns-in_err-atom-clause-kept
returns-in_err-atom-clause-kept c = c.in_ok-steps.ensures.kept

pub returns-in-Some-clause-full : goal.returns-in-Some-clause-full
returns-in-Some-clause-full c is q acts under_way = absurd (not_stopped _ _ is)

pub returns-in-Some-clause-limited : goal.returns-in-Some-clause-limited
returns-in-Some-clause-limited c is = absurd (not_stopped _ _ is)

pub returns-in-Some-clause-limit : goal.returns-in-Some-clause-limit
returns-in-Some-clause-limit c = c.in_ok-steps.ensures.limit

pub returns-in-Some-clause-kept : goal.returns-in-Some-clause-kept
returns-in-Some-clause-kept c = c.in_ok-steps.ensures.kept

pub returns-in_err-expand-clause-limit : goal.returns-in_err-expand-clause-limit
returns-in_err-expand-clause-limit c = c.in_err-expand.ensures.limit ∙ c.in_ok-steps.ensures.limit

pub returns-in_err-expand-clause-kept : goal.returns-in_err-expand-clause-kept
returns-in_err-expand-clause-kept c = c.in_ok-steps.ensures.kept

pub returns-clause-full : goal.returns-clause-full
returns-clause-full c is q acts under_way = absurd (not_stopped _ _ is)

pub returns-clause-limited : goal.returns-clause-limited
returns-clause-limited c is = absurd (not_stopped _ _ is)

pub returns-clause-limit : goal.returns-clause-limit
returns-clause-limit c = c.in_ok-expand.ensures.limit ∙ c.in_ok-steps.ensures.limit

pub returns-clause-kept : goal.returns-clause-kept
returns-clause-kept c = c.in_ok-steps.ensures.kept
