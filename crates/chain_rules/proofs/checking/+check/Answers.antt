use Rattle.std.proofs.Common.{arith}
use Rattle.kat_model.specs.Trees.{kat_tree}
use Rattle.chain_rules.specs.Chains.{lines_of}
use Rattle.chain_rules.specs.ChainViews.{chain_tree}
use Rattle.chain_rules.proofs.LineLists.{line_at, line_below, inner_fails, loop_fails, loop_goes_on, loop_ends}
use Rattle.chain_rules.proofs.checking.+check.Goals as goal

pub check_line-returns-in-FirstFailing : goal.check_line-returns-in-FirstFailing
check_line-returns-in-FirstFailing t c =
    inner_fails c.args.problem.now (kat_tree c.args.before.now) c.args.line.now c.in-Some.inner c.deref.result.now c.in_ok-count.field-0
    c.in-FirstFailing.number c.saturating_add-in-FirstFailing.result c.in-Some.is c.deref.ensures
    (c.in_ok-holds.ensures.0 c.if-not-branch.false) c.in_ok-count.ensures c.in-FirstFailing.is c.saturating_add-in-FirstFailing.ensures

pub check_lines-check_line-requires : goal.check_lines-check_line-requires
check_lines-check_line-requires t c =
    let r = line_at c.args.problem.now (lines_of (chain_tree (kat_tree c.chain.inside.first) c.deref-line-items.result.now)) c.lines.count c.lines.line-index (kat_tree c.lines.before.now) c.line-item.result c.deref-line-items.result.now c.lines-test.true c.line-item.is c.lines.invariant in
    let below = line_below (kat_tree c.chain.inside.first) c.deref-line-items.result.now c.chain.inside.lines.items c.args.chain.now c.lines.line-index c.line-item.result c.deref-line-items.ensures.value c.chain.view_is c.lines-test.true c.line-item.is in
    (omega (arith, c.decreases, below), (r.before, (r.next, r.inner)))

pub check_lines-returns-in-FirstFailing : goal.check_lines-returns-in-FirstFailing
check_lines-returns-in-FirstFailing t c =
    loop_fails c.args.problem.now (kat_tree c.chain.inside.first) c.deref-line-items.result.now c.chain.inside.lines.items c.args.chain.now c.deref-line-items.ensures.value c.chain.view_is
    c.lines.count c.lines.line-index (kat_tree c.lines.before.now) c.line-item.result c.in_ok-more.field-0 c.in-FirstFailing.number c.saturating_add.result
    c.lines-test.true c.line-item.is c.lines.invariant c.in_ok-more.ensures c.in-FirstFailing.is c.saturating_add.ensures

pub check_lines-lines-preserved : goal.check_lines-lines-preserved
check_lines-lines-preserved t c =
    loop_goes_on c.args.problem.now (lines_of (chain_tree (kat_tree c.chain.inside.first) c.deref-line-items.result.now)) c.lines.count c.lines.line-index (kat_tree c.lines.before.now) c.line-item.result c.deref-line-items.result.now c.in_ok-more.field-0 c.in-AllHold.more c.saturating_add-count.result
    c.lines-test.true c.line-item.is c.lines.invariant c.in_ok-more.ensures c.in-AllHold.is c.saturating_add-count.ensures

pub check_lines-returns : goal.check_lines-returns
check_lines-returns t c =
    loop_ends c.args.problem.now (kat_tree c.chain.inside.first) c.deref-line-items.result.now c.chain.inside.lines.items c.args.chain.now c.deref-line-items.ensures.value c.chain.view_is
    c.lines.count c.lines.line-index (kat_tree c.lines.before.now) c.lines-test.false c.lines.invariant
