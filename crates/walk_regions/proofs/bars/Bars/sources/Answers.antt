use Rattle.std.proofs.Common.{◌≤◌, List, length, subst}
use Rattle.test_diagrams.proofs.Kept.{KeepsFunctions-itself, KeepsFunctions-trans}
use Rattle.walk_regions.specs.declared.bars.Bar.{Bar}
use Rattle.walk_regions.proofs.ImageSteps.{read_bar}
use Rattle.walk_regions.proofs.BarSources.{sources_none, sources_more, sources_all}
use Rattle.walk_regions.proofs.bars.Bars.sources.Goals as goal

pub loop-bar-init : goal.loop-bar-init
loop-bar-init c = record { kept = KeepsFunctions-itself c.args.diagrams.now; sources = sources_none c.args.diagrams.now c.args.self.now.bars.items c.args.region c.args.after.now c.requires.region }

pub atoms_past-requires-clause-from : goal.atoms_past-requires-clause-from
atoms_past-requires-clause-from c =
    let r = read_bar c.args.self.now.bars.items c.deref-bar-items.result.now c.loop-bar.bar-index c.bar-item.result c.deref-bar-items.ensures.value c.loop-bar-test.true c.bar-item.is in
    c.loop-bar.invariant.kept.ids c.bar-item.result.from (c.requires.bars.froms c.bar-item.result r.2)

pub atoms_past-requires-clause-to : goal.atoms_past-requires-clause-to
atoms_past-requires-clause-to c =
    let r = read_bar c.args.self.now.bars.items c.deref-bar-items.result.now c.loop-bar.bar-index c.bar-item.result c.deref-bar-items.ensures.value c.loop-bar-test.true c.bar-item.is in
    c.loop-bar.invariant.kept.ids c.bar-item.result.to (c.requires.bars.tos c.bar-item.result r.2)

pub loop-bar-preserved : goal.loop-bar-preserved
loop-bar-preserved c =
    let r = read_bar c.args.self.now.bars.items c.deref-bar-items.result.now c.loop-bar.bar-index c.bar-item.result c.deref-bar-items.ensures.value c.loop-bar-test.true c.bar-item.is in
    let before = c.loop-bar.invariant in
    record {
      kept = KeepsFunctions-trans c.args.diagrams.now c.loop-bar.diagrams c.atoms_past.new.diagrams before.kept c.in_ok-id.ensures.kept;
      sources =
          sources_more c.args.diagrams.now c.loop-bar.diagrams c.atoms_past.new.diagrams before.kept c.in_ok-id.ensures.kept c.args.self.now.bars.items c.requires.bars c.args.region c.requires.region c.args.after.now c.loop-bar.bar-index
          c.loop-bar.id c.in_ok-id.id c.bar-item.result r.0 r.1 before.sources c.in_ok-id.ensures.past;
    }

pub returns-clause-sources : goal.returns-clause-sources
returns-clause-sources c =
    sources_all c.loop-bar.diagrams c.args.self.now.bars.items c.args.region c.args.after.now c.loop-bar.bar-index c.loop-bar.id
    (subst (λ (l : List Bar). length l ≤ c.loop-bar.bar-index) c.deref-bar-items.ensures.value c.loop-bar-test.false) c.loop-bar.invariant.sources
