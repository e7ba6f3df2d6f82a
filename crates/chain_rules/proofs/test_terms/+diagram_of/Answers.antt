use Rattle.std.proofs.Common.{◌&&◌, ◌||◌}
use Rattle.test_diagrams.proofs.Kept.{KeepsFunctions-trans}
use Rattle.chain_rules.proofs.CheckedChains.{tail_joined}
use Rattle.chain_rules.proofs.test_terms.+diagram_of.Goals as goal

pub or-requires-clause-left : goal.or-requires-clause-left
or-requires-clause-left t c = c.in_ok-right-in-Sum.ensures.kept.ids _ c.in_ok-left-in-Sum.ensures.function.in_range

pub returns-in_err-right-in-Sum-clause-kept : goal.returns-in_err-right-in-Sum-clause-kept
returns-in_err-right-in-Sum-clause-kept t c = KeepsFunctions-trans _ _ _ c.in_ok-left-in-Sum.ensures.kept c.in_err-right-in-Sum.ensures.kept

pub returns-in_ok-right-in-Sum-clause-function : goal.returns-in_ok-right-in-Sum-clause-function
returns-in_ok-right-in-Sum-clause-function t c =
    rw (c.in-Sum.is, ← c.deref.ensures, ← c.deref-in-Sum.ensures) (tail_joined (λ p q. p || q) _ _ _ _ _ _ _ _ c.in_ok-right-in-Sum.ensures.kept c.or.ensures.kept c.in_ok-left-in-Sum.ensures.function c.in_ok-right-in-Sum.ensures.function c.or.ensures.function)

pub returns-in_ok-right-in-Sum-clause-kept : goal.returns-in_ok-right-in-Sum-clause-kept
returns-in_ok-right-in-Sum-clause-kept t c =
    KeepsFunctions-trans _ _ _ c.in_ok-left-in-Sum.ensures.kept (KeepsFunctions-trans _ _ _ c.in_ok-right-in-Sum.ensures.kept c.or.ensures.kept)

pub and-requires-clause-left : goal.and-requires-clause-left
and-requires-clause-left t c = c.in_ok-second-in-Seq.ensures.kept.ids _ c.in_ok-first-in-Seq.ensures.function.in_range

pub returns-in_err-second-in-Seq-clause-kept : goal.returns-in_err-second-in-Seq-clause-kept
returns-in_err-second-in-Seq-clause-kept t c = KeepsFunctions-trans _ _ _ c.in_ok-first-in-Seq.ensures.kept c.in_err-second-in-Seq.ensures.kept

pub returns-in_ok-second-in-Seq-clause-function : goal.returns-in_ok-second-in-Seq-clause-function
returns-in_ok-second-in-Seq-clause-function t c =
    rw (c.in-Seq.is, ← c.deref-in-Seq.ensures, ← c.deref-in-Seq-2.ensures) (tail_joined (λ p q. p && q) _ _ _ _ _ _ _ _ c.in_ok-second-in-Seq.ensures.kept c.and.ensures.kept c.in_ok-first-in-Seq.ensures.function c.in_ok-second-in-Seq.ensures.function c.and.ensures.function)

pub returns-in_ok-second-in-Seq-clause-kept : goal.returns-in_ok-second-in-Seq-clause-kept
returns-in_ok-second-in-Seq-clause-kept t c =
    KeepsFunctions-trans _ _ _ c.in_ok-first-in-Seq.ensures.kept (KeepsFunctions-trans _ _ _ c.in_ok-second-in-Seq.ensures.kept c.and.ensures.kept)
