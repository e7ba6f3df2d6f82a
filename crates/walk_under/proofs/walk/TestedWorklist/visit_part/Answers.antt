use Rattle.std.proofs.Common.{[], ◌∷◌, ◌++◌, refl, sym, ap, ◌∙◌}
use Rattle.std.proofs.lemmas.Bool.{eqb-true, eqb-false}
use Rattle.walk_regions.specs.Entries.{EntryParts}
use Rattle.walk_under.proofs.Visiting.{visited_none, visited_listed}
use Rattle.walk_under.proofs.walk.TestedWorklist.visit_part.Goals as goal

pub open_atoms-requires : goal.open_atoms-requires
open_atoms-requires c = c.requires.represents

pub returns-then-eq : goal.returns-then-eq
returns-then-eq c s from represents next =
    visited_none s c.args.self.now c.open_atoms.new.self c.args.source.now from c.args.part.now c.in_ok-test.test next (c.in_ok-test.ensures s from represents next) c.constant.result
    (eqb-true c.in_ok-test.test c.constant.result (sym c.eq.ensures ∙ c.if-eq.true)) c.constant.ensures.function

pub entry_of-requires : goal.entry_of-requires
entry_of-requires c = c.requires.level

pub returns : goal.returns
returns c s from represents next =
    let x = c.open_atoms.new.self in
    visited_listed s c.args.self.now x c.args.source.now from c.args.part.now c.in_ok-test.test next (c.in_ok-test.ensures s from represents next) c.constant.result
    (eqb-false c.in_ok-test.test c.constant.result (sym c.eq.ensures ∙ c.if-eq.false)) c.constant.ensures.function c.constant.ensures.reduced
    (record { entries = c.push.new.self; universal = x.listing.universal; count = x.listing.count })
    (c.in_ok-push.ensures.items ∙ ap (λ (e : EntryParts). x.listing.entries.items ++ e ∷ []) c.in_ok-entry.ensures)
    refl
