use Rattle.std.proofs.Common.{List, ℕ, ◌∙◌, refl, sym, subst}
use Rattle.kat_model.specs.Members.{Has}
use Rattle.kat_model.specs.Degrees.{long_hyps, with_hyps}
use Rattle.certificate.specs.Decisions.{IsShortest}
use Rattle.test_diagrams.specs.Functions.{DiagramsParts, IsDiagramId}
use Rattle.walk_under.specs.Working.Walking.{walk_context}
use Rattle.walk_under.specs.Working.Counting.{IsFoundUnder, with_counted}
use Rattle.walk_under.proofs.Uncounted.{no_items, some_items}
use Rattle.walk_regions.proofs.PartCases.{always_ok}
use Rattle.walk_under.proofs.CountedWalks.{counted_split, found_unbroken}
use Rattle.walk_under.proofs.deciding.string_of.Goals as goal

pub string_to-requires : goal.string_to-requires
string_to-requires c =
    let q = c.args.problem.now in
    let r = c.requires.found in
    (walk_context r.1 (with_hyps q (long_hyps q)) r.0, r.3, r.4)

pub returns-then-not-breaks-clause-answer : goal.returns-then-not-breaks-clause-answer
returns-then-not-breaks-clause-answer c =
    let q = c.args.problem.now in
    let r = c.requires.found in
    let found : IsFoundUnder q c.args.hyps.now c.args.counts.now c.in_ok-string.string.string = record {
      counted = r.1;
      list = r.2;
      shortest = c.in_ok-string.ensures.shortest (with_counted q r.1) r.1 (long_hyps q) r.0 (counted_split q r.1 r.2.fewer) r.3 r.4;
    } in
    subst (IsShortest q) (sym c.into_string.ensures)
    (found_unbroken q c.requires.hyps.0 c.args.hyps.now c.requires.hyps.1 c.args.counts.now c.in_ok-string.string.string found c.in_ok-broken.broken.items c.in_ok-broken.ensures
    (sym c.as_slice-places.ensures.value ∙ no_items c.as_slice-places.result.now c.has_some-breaks.result c.has_some-breaks.ensures c.if-not-breaks.true))

pub judge-requires-clause-hyps : goal.judge-requires-clause-hyps
judge-requires-clause-hyps c = c.requires.hyps

pub judge-requires-clause-found : goal.judge-requires-clause-found
judge-requires-clause-found c =
    let q = c.args.problem.now in
    let r = c.requires.found in
    record {
      counted = r.1;
      list = r.2;
      shortest = c.in_ok-string.ensures.shortest (with_counted q r.1) r.1 (long_hyps q) r.0 (counted_split q r.1 r.2.fewer) r.3 r.4;
    }

pub judge-requires-clause-regions : goal.judge-requires-clause-regions
judge-requires-clause-regions c id h = subst (λ (d : DiagramsParts). IsDiagramId d id) (sym c.diagrams-diagrams.ensures) (c.in_ok-string.ensures.regions id h)

pub judge-requires-clause-last : goal.judge-requires-clause-last
judge-requires-clause-last c = subst (λ (d : DiagramsParts). IsDiagramId d c.args.found.region) (sym c.diagrams-diagrams.ensures) (c.in_ok-string.ensures.kept.ids c.args.found.region c.requires.region)

pub judge-requires-clause-some : goal.judge-requires-clause-some
judge-requires-clause-some c = some_items c.as_slice-places.result.now c.has_some-breaks.result c.has_some-breaks.ensures c.if-not-breaks.false

pub judge-requires-clause-broken : goal.judge-requires-clause-broken
judge-requires-clause-broken c i h = c.in_ok-broken.ensures.back i (subst (λ (l : List ℕ). Has l i) c.as_slice-places.ensures.value h)

pub returns-clause-derivatives : goal.returns-clause-derivatives
returns-clause-derivatives c = always_ok c.judge.result c.in_ok-string.ensures.derivatives

pub returns-clause-kept : goal.returns-clause-kept
returns-clause-kept c = always_ok c.judge.result c.in_ok-string.ensures.kept

pub broken_by-requires : goal.broken_by-requires
broken_by-requires c = c.requires.flags

pub judge-requires-clause-flags : goal.judge-requires-clause-flags
judge-requires-clause-flags c = c.requires.flags

pub returns-in_err-string-clause-counting : goal.returns-in_err-string-clause-counting
returns-in_err-string-clause-counting c i h = h

pub returns-in_err-string-clause-flags : goal.returns-in_err-string-clause-flags
returns-in_err-string-clause-flags c = refl

pub returns-in_err-broken-clause-counting : goal.returns-in_err-broken-clause-counting
returns-in_err-broken-clause-counting c i h = h

pub returns-in_err-broken-clause-flags : goal.returns-in_err-broken-clause-flags
returns-in_err-broken-clause-flags c = refl

pub returns-then-not-breaks-clause-counting : goal.returns-then-not-breaks-clause-counting
returns-then-not-breaks-clause-counting c i h = h

pub returns-then-not-breaks-clause-flags : goal.returns-then-not-breaks-clause-flags
returns-then-not-breaks-clause-flags c = refl

pub returns-clause-answer : goal.returns-clause-answer
returns-clause-answer c = c.judge.ensures.answer

pub returns-clause-counting : goal.returns-clause-counting
returns-clause-counting c = c.judge.ensures.counting

pub returns-clause-flags : goal.returns-clause-flags
returns-clause-flags c = c.judge.ensures.flags
