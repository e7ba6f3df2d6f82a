use Rattle.std.proofs.Common.{◌<◌, List, length, sym, subst}
use Rattle.std.proofs.lemmas.Result.{IfOk-weaker}
use Rattle.kat_model.proofs.Places.{element_at}
use Rattle.walk_regions.specs.Entries.{EntryParts}
use Rattle.walk_under.specs.Working.Walking.{walk_context}
use Rattle.walk_under.proofs.walk.TestedWorklist.take.Goals as goal

pub steps_at-requires-clause-under_way : goal.steps_at-requires-clause-under_way
steps_at-requires-clause-under_way c = let u = c.requires.under_way in (u.0, u.1, u.2)

pub take_steps-requires-clause-taking : goal.take_steps-requires-clause-taking
take_steps-requires-clause-taking c =
    let u = c.requires.under_way in
    let e = element_at c.args.self.now.listing.entries.items c.args.place c.requires.place in
    (walk_context u.0 u.1 c.steps_at.new.store, e.0, c.in_ok-steps.ensures.steps u.0 u.1 e.0 u.2 e.1, u.3)

pub take_steps-requires-clause-place : goal.take_steps-requires-clause-place
take_steps-requires-clause-place c = subst (λ (l : List EntryParts). c.args.place < length l) (sym c.in_ok-steps.ensures.entries) c.requires.place

pub returns-clause-taken : goal.returns-clause-taken
returns-clause-taken c =
    let e = element_at c.args.self.now.listing.entries.items c.args.place c.requires.place in
    IfOk-weaker c.take_steps.result _ _ (λ found own shorts q count u. own (walk_context shorts q c.steps_at.new.store) e.0 (c.in_ok-steps.ensures.steps shorts q e.0 u e.1) count) c.take_steps.ensures.taken
