use Rattle.std.proofs.Common.{sym, ◌∙◌}
use Rattle.std.proofs.lemmas.Bool.{eqb-true, eqb-false}
use Rattle.test_diagrams.proofs.Kept.{KeepsFunctions-trans}
use Rattle.walk_under.proofs.Taking.{outputs_alike, outputs_apart}
use Rattle.walk_under.proofs.walk.distinction_at.Goals as goal

pub and-requires-clause-left : goal.and-requires-clause-left
and-requires-clause-left c = c.requires.test

pub and-requires-clause-right : goal.and-requires-clause-right
and-requires-clause-right c = c.requires.left

pub and-requires-2-clause-left : goal.and-requires-2-clause-left
and-requires-2-clause-left c = c.in_ok-left.ensures.kept.ids c.args.test c.requires.test

pub and-requires-2-clause-right : goal.and-requires-2-clause-right
and-requires-2-clause-right c = c.in_ok-left.ensures.kept.ids c.args.steps.now.right.accepts c.requires.right

pub returns-then-eq-clause-found : goal.returns-then-eq-clause-found
returns-then-eq-clause-found c =
    outputs_alike c.args.diagrams.now c.and.new.self c.and-2.new.self c.in_ok-left.ensures.kept c.in_ok-right.ensures.kept c.args.test c.in_ok-left.left c.in_ok-right.right c.args.steps.now c.requires.test c.requires.right c.in_ok-left.ensures.function c.in_ok-right.ensures.function
    (eqb-true c.in_ok-left.left c.in_ok-right.right (sym c.eq.ensures ∙ c.if-eq.true))

pub returns-then-eq-clause-kept : goal.returns-then-eq-clause-kept
returns-then-eq-clause-kept c = KeepsFunctions-trans _ _ _ c.in_ok-left.ensures.kept c.in_ok-right.ensures.kept

pub differing_atom-requires-clause-first : goal.differing_atom-requires-clause-first
differing_atom-requires-clause-first c = c.in_ok-right.ensures.kept.ids c.in_ok-left.left c.in_ok-left.ensures.function.in_range

pub differing_atom-requires-clause-two : goal.differing_atom-requires-clause-two
differing_atom-requires-clause-two c = eqb-false c.in_ok-left.left c.in_ok-right.right (sym c.eq.ensures ∙ c.if-eq.false)

pub returns-clause-found : goal.returns-clause-found
returns-clause-found c =
    outputs_apart c.args.diagrams.now c.and.new.self c.and-2.new.self c.in_ok-left.ensures.kept c.in_ok-right.ensures.kept c.args.test c.in_ok-left.left c.in_ok-right.right c.args.steps.now c.requires.test c.requires.right c.in_ok-left.ensures.function c.in_ok-right.ensures.function
    c.in_ok-atom.atom.items c.in_ok-atom.ensures.fits c.in_ok-atom.ensures.differ

pub difference-requires-clause-first : goal.difference-requires-clause-first
difference-requires-clause-first c = c.in_ok-atom.ensures.kept.ids c.args.steps.now.left.accepts (c.in_ok-right.ensures.kept.ids c.args.steps.now.left.accepts (c.in_ok-left.ensures.kept.ids c.args.steps.now.left.accepts c.requires.left))

pub difference-requires-clause-second : goal.difference-requires-clause-second
difference-requires-clause-second c = c.in_ok-atom.ensures.kept.ids c.args.steps.now.right.accepts (c.in_ok-right.ensures.kept.ids c.args.steps.now.right.accepts (c.in_ok-left.ensures.kept.ids c.args.steps.now.right.accepts c.requires.right))

pub returns-clause-kept : goal.returns-clause-kept
returns-clause-kept c =
    KeepsFunctions-trans _ _ _ c.in_ok-left.ensures.kept (KeepsFunctions-trans _ _ _ c.in_ok-right.ensures.kept (KeepsFunctions-trans _ _ _ c.in_ok-atom.ensures.kept c.in_ok-region.ensures.kept))

pub differing_atom-requires-clause-second : goal.differing_atom-requires-clause-second
differing_atom-requires-clause-second c = c.in_ok-right.ensures.function.in_range

pub returns-clause-region : goal.returns-clause-region
returns-clause-region c = c.in_ok-region.ensures.function.in_range
