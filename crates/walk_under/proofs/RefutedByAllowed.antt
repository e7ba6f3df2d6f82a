-- A string refutes the problem if and only if its moves are allowed and the closed sides of the problem with only the
-- hypotheses that do not count as short differ on it.
use Rattle.std.proofs.Common.{◌↔◌, List}
use Rattle.kat_model.specs.Trees.{Term}
use Rattle.kat_model.specs.Problems.{ProblemParts}
use Rattle.kat_model.specs.Strings.{GuardedString, IsString}
use Rattle.kat_model.specs.Degrees.{with_hyps, AreSplit}
use Rattle.kat_model.specs.AllowedMoves.{AreAllowed}
use Rattle.kat_model.proofs.ClosedDifferences.{differ_by_allowed}
use Rattle.string_tables.specs.Tables.{Refutes}
use Rattle.string_tables.specs.Laws.{ClosedDiffer}
use Rattle.string_tables.proofs.Elimination.{refuted_differ, differ_refuted}

pub refuted_by_allowed : (q : ProblemParts) (shorts longs : List Term) (x : GuardedString) → AreSplit q.hyps shorts longs → Refutes q x ↔ (IsString q.tests q.actions x × AreAllowed shorts x.first x.rest × ClosedDiffer (with_hyps q longs) x)
refuted_by_allowed q shorts longs x split = (there, back)
  where
    there : Refutes q x → IsString q.tests q.actions x × AreAllowed shorts x.first x.rest × ClosedDiffer (with_hyps q longs) x
    there r =
        let d = refuted_differ q x r in
        let s = (differ_by_allowed q.tests q.actions q.left q.right x.first x.rest d.0.rest q.hyps shorts longs split).0 d.1 in
        (d.0, s.0, s.1)

    back : IsString q.tests q.actions x × AreAllowed shorts x.first x.rest × ClosedDiffer (with_hyps q longs) x → Refutes q x
    back h = differ_refuted q x h.0 ((differ_by_allowed q.tests q.actions q.left q.right x.first x.rest h.0.rest q.hyps shorts longs split).1 (h.1, h.2))
