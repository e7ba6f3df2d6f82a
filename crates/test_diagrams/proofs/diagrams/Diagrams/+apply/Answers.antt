use Rattle.test_diagrams.proofs.Kept.{KeepsFunctions-trans}
use Rattle.test_diagrams.proofs.Results.{result_from_old}
use Rattle.test_diagrams.proofs.Shannon.{low_below, high_below, branch_is_result}
use Rattle.test_diagrams.proofs.diagrams.Diagrams.+apply.Goals as goal

pub returns-in_err-high-clause-kept : goal.returns-in_err-high-clause-kept
returns-in_err-high-clause-kept t c = KeepsFunctions-trans _ _ _ c.in_ok-low.ensures.kept c.in_err-high.ensures.kept

pub branch-self-requires-clause-low_below : goal.branch-self-requires-clause-low_below
branch-self-requires-clause-low_below t c =
    low_below _ _ _ c.in_ok-low.ensures.kept c.in_ok-high.ensures.kept c.in_ok-high.ensures.reduced _ c.requires.operands c.in_default.ensures.«open» _ _ _ _ _ c.top_test-test.ensures.top
    c.cofactor-low_part.ensures c.cofactor-high_part.ensures c.in_ok-low.ensures.function c.in_ok-high.ensures.function

pub branch-self-requires-clause-high_below : goal.branch-self-requires-clause-high_below
branch-self-requires-clause-high_below t c =
    high_below _ _ _ c.in_ok-low.ensures.kept c.in_ok-high.ensures.kept c.in_ok-high.ensures.reduced _ c.requires.operands c.in_default.ensures.«open» _ _ _ _ _ c.top_test-test.ensures.top
    c.cofactor-low_part.ensures c.cofactor-high_part.ensures c.in_ok-low.ensures.function c.in_ok-high.ensures.function

pub returns-in_err-id-clause-kept : goal.returns-in_err-id-clause-kept
returns-in_err-id-clause-kept t c =
    KeepsFunctions-trans _ _ _ c.in_ok-low.ensures.kept (KeepsFunctions-trans _ _ _ c.in_ok-high.ensures.kept c.in_err-id.ensures.kept)

pub note-requires : goal.note-requires
note-requires t c =
    let made = branch_is_result _ _ _ c.in_ok-low.ensures.kept c.in_ok-high.ensures.kept c.in_ok-high.ensures.reduced _ c.requires.operands c.in_default.ensures.«open» _ _ _ _ _ c.top_test-test.ensures.top
    c.cofactor-low_part.ensures c.cofactor-high_part.ensures c.in_ok-low.ensures.function c.in_ok-high.ensures.function _ _ c.in_ok-id.ensures.kept c.in_ok-id.ensures.function in
    let kept = KeepsFunctions-trans _ _ _ c.in_ok-low.ensures.kept (KeepsFunctions-trans _ _ _ c.in_ok-high.ensures.kept c.in_ok-id.ensures.kept) in
    result_from_old _ _ kept _ _ c.requires.operands made

pub returns-in_err-note-clause-kept : goal.returns-in_err-note-clause-kept
returns-in_err-note-clause-kept t c =
    rw c.note.ensures
    (KeepsFunctions-trans _ _ _ c.in_ok-low.ensures.kept (KeepsFunctions-trans _ _ _ c.in_ok-high.ensures.kept c.in_ok-id.ensures.kept))

pub returns-clause-function : goal.returns-clause-function
returns-clause-function t c =
    rw c.note.ensures
    (branch_is_result _ _ _ c.in_ok-low.ensures.kept c.in_ok-high.ensures.kept c.in_ok-high.ensures.reduced _ c.requires.operands c.in_default.ensures.«open» _ _ _ _ _ c.top_test-test.ensures.top
    c.cofactor-low_part.ensures c.cofactor-high_part.ensures c.in_ok-low.ensures.function c.in_ok-high.ensures.function _ _ c.in_ok-id.ensures.kept c.in_ok-id.ensures.function)

pub returns-clause-kept : goal.returns-clause-kept
returns-clause-kept t c =
    rw c.note.ensures
    (KeepsFunctions-trans _ _ _ c.in_ok-low.ensures.kept (KeepsFunctions-trans _ _ _ c.in_ok-high.ensures.kept c.in_ok-id.ensures.kept))
