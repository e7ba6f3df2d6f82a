use Rattle.std.proofs.Common.{ℕ, List, [], ◌∷◌}
use Rattle.kat_model.specs.Members.{Has}
use Rattle.kat_model.proofs.Places.{has_at}
use Rattle.test_diagrams.proofs.Kept.{KeepsFunctions-itself, KeepsFunctions-trans}
use Rattle.walk_regions.proofs.Marking.{read_number, alone, brings_part, brings_kept}
use Rattle.walk_regions.proofs.reaching.mark_all.Goals as goal

pub loop-term-preserved : goal.loop-term-preserved
loop-term-preserved c =
    let terms : List ℕ = c.args.terms.now in
    let t : ℕ = c.term-item.result in
    let h : Has terms t = has_at terms c.loop-term.term-index t (read_number terms c.loop-term.term-index t c.loop-term-test.true c.term-item.is) in
    let before = c.loop-term.invariant in
    record {
      kept = KeepsFunctions-trans c.args.diagrams.now c.loop-term.diagrams c.mark.new.diagrams before.kept c.in_ok-mark.ensures.kept;
      ids = c.in_ok-mark.ensures.ids;
      marks = λ es all first brings.
          c.in_ok-mark.ensures.marks es all (before.marks es all first brings)
          (brings_kept c.args.diagrams.now c.loop-term.diagrams before.kept es first.tests all c.args.test (t ∷ []) c.requires.test
          (brings_part c.args.diagrams.now es all terms (t ∷ []) c.args.test (alone terms t h) brings));
    }

pub loop-term-init : goal.loop-term-init
loop-term-init c = record { kept = KeepsFunctions-itself c.args.diagrams.now; ids = c.requires.marks; marks = λ es all m brings. m }

pub mark-requires-clause-test : goal.mark-requires-clause-test
mark-requires-clause-test c = c.loop-term.invariant.kept.ids c.args.test c.requires.test

pub returns-in_err-mark-clause-kept : goal.returns-in_err-mark-clause-kept
returns-in_err-mark-clause-kept c = KeepsFunctions-trans _ _ _ c.loop-term.invariant.kept c.in_err-mark.ensures.kept

pub mark-requires-clause-marks : goal.mark-requires-clause-marks
mark-requires-clause-marks c = c.loop-term.invariant.ids

pub returns-then-eq-clause-marks : goal.returns-then-eq-clause-marks
returns-then-eq-clause-marks c es set m b = m

pub returns-then-eq-clause-ids : goal.returns-then-eq-clause-ids
returns-then-eq-clause-ids c = c.requires.marks

pub returns-then-eq-clause-kept : goal.returns-then-eq-clause-kept
returns-then-eq-clause-kept c = KeepsFunctions-itself c.args.diagrams.now

pub returns-clause-marks : goal.returns-clause-marks
returns-clause-marks c = c.loop-term.invariant.marks

pub returns-clause-ids : goal.returns-clause-ids
returns-clause-ids c = c.loop-term.invariant.ids

pub returns-clause-kept : goal.returns-clause-kept
returns-clause-kept c = c.loop-term.invariant.kept
