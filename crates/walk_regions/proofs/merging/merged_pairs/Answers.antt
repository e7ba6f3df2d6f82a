use Rattle.std.proofs.Common.{◌≡◌, ◌≤◌, ◌++◌, List, [], ◌∷◌, length, slice_get, Some, sym, ap, ◌∙◌, subst, arith}
use Rattle.std.proofs.lemmas.Bool.{both_ways}
use Rattle.std.proofs.lemmas.Option.{slice_get-get_or, slice_get_within}
use Rattle.term_nodes.proofs.Growing.{Grows-trans}
use Rattle.certificate.specs.PairParts.{PairParts}
use Rattle.test_diagrams.proofs.Kept.{KeepsFunctions-trans}
use Rattle.walk_regions.specs.Entries.{EntryParts}
use Rattle.walk_regions.specs.Merging.{IsMergedPair, HasPairOf}
use Rattle.walk_regions.proofs.MergedIds.{pair_was, pair_kept, firsts_more, covered_more, covered_with, first_new, pair_new, each_more, covered_all, early_later, early_more, no_pair, pair_of_earlier}
use Rattle.walk_regions.proofs.merging.merged_pairs.Goals as goal
use Rattle.walk_regions.proofs.merging.merged_pairs.Goals.{then-not-has_earlier+in_ok-pair+in_ok-append, else-not-has_earlier}

pub merged_pair-requires-clause-tests : goal.merged_pair-requires-clause-tests
merged_pair-requires-clause-tests c e h = c.loop-place.invariant.kept.ids e.test (c.requires.tests e h)

pub returns-in_err-pair-clause-grows : goal.returns-in_err-pair-clause-grows
returns-in_err-pair-clause-grows c = Grows-trans _ _ _ c.loop-place.invariant.grows c.in_err-pair.ensures.grows

pub returns-in_err-append-clause-grows : goal.returns-in_err-append-clause-grows
returns-in_err-append-clause-grows c = Grows-trans _ _ _ c.loop-place.invariant.grows c.in_ok-pair.ensures.grows

pub loop-place-preserved : goal.loop-place-preserved
loop-place-preserved c =
    let before = c.loop-place.invariant in
    let start = c.args.diagrams.now in
    let s = c.loop-place.store in
    let d = c.loop-place.diagrams in
    let es : List EntryParts = c.args.entries.now.items in
    let all : List EntryParts = c.as_slice-all.result.now in
    let k = c.loop-place.place in
    let e : EntryParts = c.index-all-place.result in
    let ps : List PairParts = c.loop-place.pairs.items in
    let there : slice_get all k ≡ Some e = slice_get-get_or all k e c.loop-place-test.true ∙ ap (λ (x : EntryParts). Some x) (sym c.index-all-place.is) in
    let at : slice_get es k ≡ Some e = subst (λ (l : List EntryParts). slice_get l k ≡ Some e) c.as_slice-all.ensures there in
    elim c.if-not-has_earlier.branch [
      | then-not-has_earlier+in_ok-pair+in_ok-append w ↦
          let t = w.merged_pair.new.store in
          let p : PairParts = w.in_ok-pair.pair in
          let own = w.in_ok-pair.ensures in
          let fresh : HasPairOf ps e → ⊥ = no_pair es ps k e before.early (λ h. both_ways c.has_earlier.result w.if-not-has_earlier.true (c.has_earlier.ensures.1 h)) in
          let items : w.append.new.list.items ≡ ps ++ p ∷ [] = w.in_ok-append.ensures in
          rw (w.store-is, w.diagrams-is, w.table-is, w.pairs-is, items)
          (record {
            grows = Grows-trans c.args.store.now s t before.grows own.grows;
            kept = KeepsFunctions-trans start d w.merged_pair.new.diagrams before.kept own.kept;
            table = own.table;
            firsts = firsts_more es [] ps p before.firsts (first_new es ps k e p at fresh own.left own.right before.covers);
            covers = covered_more es (ps ++ p ∷ []) k e at (pair_new ps e p own.left own.right) (covered_with es ps (p ∷ []) k before.covers);
            early = early_more es ps k e p at own.left own.right before.early;
            each = each_more (IsMergedPair t start es) ps p (λ q h. pair_kept s t start es q own.grows (before.each q h)) (pair_was start d before.kept es c.requires.tests t p own.pair);
          })
      | else-not-has_earlier w ↦
          let own : HasPairOf ps e = pair_of_earlier es ps k e before.covers (c.has_earlier.ensures.0 w.if-not-has_earlier.false) in
          rw (w.store-is, w.diagrams-is, w.table-is, w.pairs-is)
          (record {
            grows = before.grows;
            kept = before.kept;
            table = before.table;
            firsts = before.firsts;
            covers = covered_more es ps k e at own before.covers;
            early = early_later es ps k before.early;
            each = before.each;
          })
    ]

pub returns-clause-merged : goal.returns-clause-merged
returns-clause-merged c =
    let inv = c.loop-place.invariant in
    let es : List EntryParts = c.args.entries.now.items in
    let past : length es ≤ c.loop-place.place = subst (λ (l : List EntryParts). length l ≤ c.loop-place.place) c.as_slice-all.ensures c.loop-place-test.false in
    record {
      firsts = inv.firsts;
      covers = covered_all es c.loop-place.pairs.items (λ k e at. inv.covers k e (let within = slice_get_within es k e at in omega (arith, within, past)) at);
      each = inv.each;
    }
