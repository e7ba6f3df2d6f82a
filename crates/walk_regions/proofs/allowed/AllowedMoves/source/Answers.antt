use Rattle.std.proofs.Common.{length, Result, Ok, Err, IfOk, sym, ◌∙◌}
use Rattle.std.proofs.lemmas.Result.{IfOk-weaker}
use Rattle.test_diagrams.proofs.Kept.{KeepsFunctions-trans}
use Rattle.walk_regions.proofs.Allowances.{allowance_kept}
use Rattle.walk_regions.proofs.AllowedImages.{bars_at, sources_somewhere, source_found, within_kept, source_kept, source_was}
use Rattle.walk_regions.proofs.allowed.AllowedMoves.source.Goals as goal

both_ok : {T E : Type 0} (r : Result T E) (P Q : T → Type 0) → IfOk r P → IfOk r Q → IfOk r (λ v. P v × Q v)
both_ok (Ok v) P Q p q = (p, q)
both_ok (Err e) P Q p q = tt

pub sources-requires-clause-bars : goal.sources-requires-clause-bars
sources-requires-clause-bars c =
    let at = bars_at c.args.self.now c.args.act c.index.result.now c.requires.act c.index.ensures in
    (c.requires.moves.1.moves c.args.act c.index.result.now at).sound.bars

pub returns-clause-kept : goal.returns-clause-kept
returns-clause-kept c = KeepsFunctions-trans _ _ _ c.in_ok-sources.ensures.kept c.true_atom.ensures.kept

pub true_atom-requires-clause-somewhere : goal.true_atom-requires-clause-somewhere
true_atom-requires-clause-somewhere c =
    let a = c.args.diagrams.now in
    let b = c.sources.new.diagrams in
    let ab = c.in_ok-sources.ensures.kept in
    let m = c.args.self.now in
    let at = bars_at m c.args.act c.index.result.now c.requires.act c.index.ensures in
    let own = c.requires.moves in
    sources_somewhere b own.0 (length m.actions.items) m (allowance_kept a b ab own.0 (length m.actions.items) m own.1) c.args.act c.index.result.now at c.args.region c.args.after.now (c.requires.after ∙ sym ab.tests)
    c.in_ok-sources.sources c.in_ok-sources.ensures.sources (source_kept a b ab own.0 c.args.region c.args.act c.args.after.now c.requires.region own.2)

pub returns-clause-source : goal.returns-clause-source
returns-clause-source c =
    let a = c.args.diagrams.now in
    let b = c.sources.new.diagrams in
    let ab = c.in_ok-sources.ensures.kept in
    let m = c.args.self.now in
    let at = bars_at m c.args.act c.index.result.now c.requires.act c.index.ensures in
    IfOk-weaker c.true_atom.result _ _
    (λ v found shorts actions all to within.
    source_was a b ab shorts c.args.region c.args.act c.args.after.now v.items c.requires.region
    (source_found b shorts actions m (allowance_kept a b ab shorts actions m all) c.args.act c.index.result.now at c.args.region (within_kept a b ab c.args.region m.allowed c.requires.region all.allowed.in_range within)
    c.args.after.now (c.requires.after ∙ sym ab.tests) c.in_ok-sources.sources c.in_ok-sources.ensures.sources to v.items found.0 found.1))
    (both_ok c.true_atom.result _ _ c.true_atom.ensures.fits c.true_atom.ensures.holds)
