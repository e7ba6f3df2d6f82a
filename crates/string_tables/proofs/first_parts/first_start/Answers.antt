use Rattle.std.proofs.Common.{◌+◌, ◌-◌, ◌/◌, MatchOption, subst}
use Rattle.kat_model.specs.Trees.{kat_tree}
use Rattle.string_tables.specs.Parts.{IsFirstEnd, HasNoEnd}
use Rattle.string_tables.proofs.PartSearch.{first_end_part, none_in_half, part_in_half}
use Rattle.string_tables.proofs.first_parts.first_start.Goals as goal

pub halves-preserved-in-Some : goal.halves-preserved-in-Some
halves-preserved-in-Some c =
    let x = c.args.string.now in
    let e = kat_tree c.args.term.now in
    let low = c.halves.low in
    let middle = c.halves.low + (c.halves.high - c.halves.low) / 2 in
    let found = subst (λ o. MatchOption o (HasNoEnd x e low middle 0) (λ j. IsFirstEnd x e low middle 0 j)) c.in-Some.is c.in_ok-below.ensures in
    record { none = c.halves.invariant.none; some = first_end_part x e low middle c.in-Some.field-0 found }

pub halves-preserved : goal.halves-preserved
halves-preserved c =
    let x = c.args.string.now in
    let e = kat_tree c.args.term.now in
    let low = c.halves.low in
    let middle = c.halves.low + (c.halves.high - c.halves.low) / 2 in
    let none = subst (λ o. MatchOption o (HasNoEnd x e low middle 0) (λ j. IsFirstEnd x e low middle 0 j)) c.in-None.is c.in_ok-below.ensures in
    record { none = none_in_half x e low middle c.halves.invariant.none none; some = part_in_half x e low middle c.halves.high none c.halves.invariant.some }
