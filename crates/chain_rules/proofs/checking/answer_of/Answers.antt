use Rattle.std.proofs.Common.{subst}
use Rattle.std.proofs.lemmas.Bool.{both_ways}
use Rattle.kat_model.specs.Trees.{kat_tree}
use Rattle.chain_rules.specs.Chains.{last_term, lines_of}
use Rattle.chain_rules.specs.Working.LineChecks.{IsLineCheck}
use Rattle.chain_rules.specs.declared.checking.LineCheck.{LineCheck}
use Rattle.chain_rules.proofs.LineLists.{start_compared, end_compared}
use Rattle.chain_rules.proofs.checking.answer_of.Goals as goal

pub returns-then-not-same_term : goal.returns-then-not-same_term
returns-then-not-same_term c =
    let start = start_compared (kat_tree c.chain.inside.first) c.chain.inside.lines.items c.args.chain.now (kat_tree c.left.result.now) c.args.problem.now.left c.same_term.result c.chain.view_is c.left.ensures.value c.same_term.ensures in
    λ h. both_ways c.same_term.result c.if-not-same_term.true (start.1 h)

pub returns-then-not-same_term-2 : goal.returns-then-not-same_term-2
returns-then-not-same_term-2 c =
    let start = start_compared (kat_tree c.chain.inside.first) c.chain.inside.lines.items c.args.chain.now (kat_tree c.left.result.now) c.args.problem.now.left c.same_term.result c.chain.view_is c.left.ensures.value c.same_term.ensures in
    let end = end_compared (kat_tree c.last_term.result.now) (kat_tree c.right.result.now) (last_term c.args.chain.now) c.args.problem.now.right c.same_term-2.result c.last_term.ensures c.right.ensures.value c.same_term-2.ensures in
    (start.0 c.if-not-same_term.false, λ h. both_ways c.same_term-2.result c.if-not-same_term-2.true (end.1 h))

pub returns-in-AllHold : goal.returns-in-AllHold
returns-in-AllHold c =
    let start = start_compared (kat_tree c.chain.inside.first) c.chain.inside.lines.items c.args.chain.now (kat_tree c.left.result.now) c.args.problem.now.left c.same_term.result c.chain.view_is c.left.ensures.value c.same_term.ensures in
    let end = end_compared (kat_tree c.last_term.result.now) (kat_tree c.right.result.now) (last_term c.args.chain.now) c.args.problem.now.right c.same_term-2.result c.last_term.ensures c.right.ensures.value c.same_term-2.ensures in
    let found = subst (λ (a : LineCheck). IsLineCheck c.args.problem.now (lines_of c.args.chain.now) a) c.in-AllHold.is c.in_ok-check_lines.ensures in
    record { start = start.0 c.if-not-same_term.false; end = end.0 c.if-not-same_term-2.false; lines = found.0 }

pub returns-in-FirstFailing : goal.returns-in-FirstFailing
returns-in-FirstFailing c =
    let start = start_compared (kat_tree c.chain.inside.first) c.chain.inside.lines.items c.args.chain.now (kat_tree c.left.result.now) c.args.problem.now.left c.same_term.result c.chain.view_is c.left.ensures.value c.same_term.ensures in
    let end = end_compared (kat_tree c.last_term.result.now) (kat_tree c.right.result.now) (last_term c.args.chain.now) c.args.problem.now.right c.same_term-2.result c.last_term.ensures c.right.ensures.value c.same_term-2.ensures in
    let found = subst (λ (a : LineCheck). IsLineCheck c.args.problem.now (lines_of c.args.chain.now) a) c.in-FirstFailing.is c.in_ok-check_lines.ensures in
    (start.0 c.if-not-same_term.false, end.0 c.if-not-same_term-2.false, found.0, found.1, found.2)
