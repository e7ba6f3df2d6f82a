use Rattle.std.proofs.Common.{◌+◌, map, length, arith, subst}
use Rattle.std.specs.Option.{MatchOption}
use Rattle.std.proofs.lemmas.List.{length-map}
use Rattle.kat_model.specs.Trees.{kat_tree}
use Rattle.string_tables.specs.Parts.{MayBeRead, AcceptsNoneBefore, IsFirstPart}
use Rattle.string_tables.proofs.Places.{map_read, map_read_all}
use Rattle.string_tables.proofs.FirstBreaks.{none_more, none_keeps, first_breaks}
use Rattle.string_tables.proofs.broken.first_broken.Goals as goal

pub first_part-requires : goal.first_part-requires
first_part-requires c =
    map_read_all kat_tree c.args.hyps.now c.loop-h.h c.index-hyps-h.result c.loop-h-test.true c.index-hyps-h.is (MayBeRead c.args.string.now) c.requires

pub returns-in-Some : goal.returns-in-Some
returns-in-Some c =
    let x = c.args.string.now in
    let e = kat_tree c.index-hyps-h.result in
    let is = map_read kat_tree c.args.hyps.now c.loop-h.h c.index-hyps-h.result c.loop-h-test.true c.index-hyps-h.is in
    let part = subst (λ o. MatchOption o (AcceptsNoneBefore x e (length x.rest + 1)) (λ p. IsFirstPart x e p.0 p.1)) c.in-Some.is c.in_ok-part.ensures in
    first_breaks x (map kat_tree c.args.hyps.now) c.loop-h.h e c.in-Some.i c.in-Some.j is part c.loop-h.invariant

pub loop-h-preserved : goal.loop-h-preserved
loop-h-preserved c =
    let x = c.args.string.now in
    let e = kat_tree c.index-hyps-h.result in
    let is = map_read kat_tree c.args.hyps.now c.loop-h.h c.index-hyps-h.result c.loop-h-test.true c.index-hyps-h.is in
    let none = subst (λ o. MatchOption o (AcceptsNoneBefore x e (length x.rest + 1)) (λ p. IsFirstPart x e p.0 p.1)) c.in_default.is c.in_ok-part.ensures in
    none_more x (map kat_tree c.args.hyps.now) c.loop-h.h e is none c.loop-h.invariant

pub returns : goal.returns
returns c =
    none_keeps c.args.string.now (map kat_tree c.args.hyps.now) c.loop-h.h (omega (arith, length-map c.args.hyps.now kat_tree)) c.loop-h.invariant
