use Rattle.std.proofs.Common.{set, Some, ap, ◌∙◌, subst}
use Rattle.test_diagrams.proofs.Kept.{KeepsFunctions-itself}
use Rattle.walk_up_to.specs.Cases.{AreItemsWith}
use Rattle.walk_up_to.proofs.DecidedCases.{decided_case}
use Rattle.walk_up_to.proofs.cases.case_with.Goals as goal

pub returns-clause-case : goal.returns-clause-case
returns-clause-case c =
    decided_case c.args.diagrams.now c.items_with.new.diagrams c.args.case.now.decided.items c.in_ok-decided.decided.items c.args.case.now.items.items c.in_ok-items.items.items c.args.test c.args.value
    c.items_with.ensures.kept c.requires.case
    (subst (λ l. AreItemsWith c.args.diagrams.now c.items_with.new.diagrams l c.args.test c.args.value c.in_ok-items.items.items) c.deref-2.ensures.value c.in_ok-items.ensures.items)
    (c.in_ok-decided.ensures ∙ ap (λ l. set l c.args.test (Some c.args.value)) c.deref.ensures.value)

pub items_with-requires-clause-ends : goal.items_with-requires-clause-ends
items_with-requires-clause-ends c = c.requires.ends

pub returns-in_err-decided-clause-kept : goal.returns-in_err-decided-clause-kept
returns-in_err-decided-clause-kept c = KeepsFunctions-itself c.args.diagrams.now

pub returns-in_err-items-clause-kept : goal.returns-in_err-items-clause-kept
returns-in_err-items-clause-kept c = c.in_err-items.ensures.kept

pub returns-clause-kept : goal.returns-clause-kept
returns-clause-kept c = c.items_with.ensures.kept

pub returns-clause-decided : goal.returns-clause-decided
returns-clause-decided c = c.in_ok-decided.ensures ∙ ap (λ l. set l c.args.test (Some c.args.value)) c.deref.ensures.value

pub returns-clause-items : goal.returns-clause-items
returns-clause-items c = subst (λ l. AreItemsWith c.args.diagrams.now c.items_with.new.diagrams l c.args.test c.args.value c.in_ok-items.items.items) c.deref-2.ensures.value c.in_ok-items.ensures.items
