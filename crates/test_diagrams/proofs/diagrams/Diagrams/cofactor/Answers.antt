use Rattle.std.proofs.Common.{arith}
use Rattle.test_diagrams.proofs.Parts.{and_cofactor, or_cofactor, not_cofactor, fix_cofactor}
use Rattle.test_diagrams.proofs.diagrams.Diagrams.cofactor.Goals as goal

pub returns-in-And : goal.returns-in-And
returns-in-And c =
    rw c.in-And.is
    (and_cofactor _ c.part.ensures.reduced _ _ _ _ _ _ (rw c.in-And.is at c.requires.top) c.part.ensures.part c.part-in-And.ensures.part)

pub returns-in-Or : goal.returns-in-Or
returns-in-Or c =
    rw c.in-Or.is
    (or_cofactor _ c.part-in-Or.ensures.reduced _ _ _ _ _ _ (rw c.in-Or.is at c.requires.top) c.part-in-Or.ensures.part c.part-in-Or-2.ensures.part)

pub returns-in-Not : goal.returns-in-Not
returns-in-Not c =
    rw c.in-Not.is
    (not_cofactor _ c.part-in-Not.ensures.reduced _ _ _ _ (rw c.in-Not.is at c.requires.top) c.part-in-Not.ensures.part)

pub returns-in-Fix : goal.returns-in-Fix
returns-in-Fix c =
    let top = rw c.in-Fix.is at c.requires.top in
    let above = rw c.in-Fix.is at c.requires.«open» in
    let operands = rw c.in-Fix.is at c.requires.operands in
    rw c.in-Fix.is
    (fix_cofactor _ c.part-in-Fix.ensures.reduced _ _ _ _ _ _ top (omega (arith, top, above)) operands.1 c.part-in-Fix.ensures.part)
