use Rattle.std.proofs.Common.{◌≡◌, ◌+◌, List, length, MatchOption, ap, ◌∙◌, subst}
use Rattle.kat_model.specs.Trees.{kat_tree}
use Rattle.kat_model.specs.Strings.{Move, GuardedString}
use Rattle.string_tables.specs.Parts.{IsFirstEnd, HasNoEnd}
use Rattle.string_tables.proofs.PartSearch.{first_end_part, none_before, no_part, first_given}
use Rattle.string_tables.proofs.first_parts.first_part.Goals as goal

pub returns-in-None : goal.returns-in-None
returns-in-None c =
    let x : GuardedString = c.args.string.now in
    let e = kat_tree c.args.term.now in
    let shown : c.as_slice.result.now ≡ x.rest = c.as_slice.ensures ∙ ap (λ (s : GuardedString). s.rest) c.string.view_is in
    let given = subst (λ (ms : List Move). MatchOption c.in_ok-any.any (HasNoEnd x e 0 (length ms + 1) 0) (λ j. IsFirstEnd x e 0 (length ms + 1) 0 j)) shown c.in_ok-any.ensures in
    let none = subst (λ o. MatchOption o (HasNoEnd x e 0 (length x.rest + 1) 0) (λ j. IsFirstEnd x e 0 (length x.rest + 1) 0 j)) c.in-None.is given in
    none_before x e (length x.rest + 1) none

pub first_start-requires-clause-some : goal.first_start-requires-clause-some
first_start-requires-clause-some c =
    let x : GuardedString = c.args.string.now in
    let e = kat_tree c.args.term.now in
    let shown : c.as_slice.result.now ≡ x.rest = c.as_slice.ensures ∙ ap (λ (s : GuardedString). s.rest) c.string.view_is in
    let given = subst (λ (ms : List Move). MatchOption c.in_ok-any.any (HasNoEnd x e 0 (length ms + 1) 0) (λ j. IsFirstEnd x e 0 (length ms + 1) 0 j)) shown c.in_ok-any.ensures in
    let found = subst (λ o. MatchOption o (HasNoEnd x e 0 (length x.rest + 1) 0) (λ j. IsFirstEnd x e 0 (length x.rest + 1) 0 j)) c.in_default.is given in
    first_end_part x e 0 (length x.rest + 1) c.in_default.field-0 found

pub returns-in-Some : goal.returns-in-Some
returns-in-Some c =
    let x = c.args.string.now in
    let e = kat_tree c.args.term.now in
    let i = c.in_ok-start.start in
    let found = subst (λ o. MatchOption o (HasNoEnd x e i (i + 1) 0) (λ j. IsFirstEnd x e i (i + 1) 0 j)) c.in-Some.is c.in_ok-found.ensures in
    first_given x e i c.in-Some.end c.in_ok-start.ensures.none found

pub returns-in-None-found : goal.returns-in-None-found
returns-in-None-found c =
    let x = c.args.string.now in
    let e = kat_tree c.args.term.now in
    let i = c.in_ok-start.start in
    let none = subst (λ o. MatchOption o (HasNoEnd x e i (i + 1) 0) (λ j. IsFirstEnd x e i (i + 1) 0 j)) c.in-None-found.is c.in_ok-found.ensures in
    absurd (no_part x e i (i + 1) none c.in_ok-start.ensures.some)
