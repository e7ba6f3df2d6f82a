use Rattle.std.proofs.Common.{◌∙◌}
use Rattle.while_lang.proofs.FlowLists.{encoded_more}
use Rattle.while_lang.proofs.flow.+encodings.Goals as goal

pub encode_stmt-returns-in_ok-second-in-If : goal.encode_stmt-returns-in_ok-second-in-If
encode_stmt-returns-in_ok-second-in-If t c = rw (c.in-If.is, ← c.in_ok-first-in-If.ensures, ← c.in_ok-second-in-If.ensures) c.branch_term.ensures

pub encode_stmt-returns-in_ok-body-in-While : goal.encode_stmt-returns-in_ok-body-in-While
encode_stmt-returns-in_ok-body-in-While t c = rw (c.in-While.is, ← c.in_ok-body-in-While.ensures) c.loop_term.ensures

pub encode-loop-stmt-preserved : goal.encode-loop-stmt-preserved
encode-loop-stmt-preserved t c =
    encoded_more c.loop-stmt.terms.items c.push_term.new.terms.items c.deref-stmt-items.result.now c.loop-stmt.stmt-index c.stmt-item.result c.in_ok-encode_stmt.field-0
    c.in_ok-push_term.ensures c.in_ok-encode_stmt.ensures c.loop-stmt-test.true c.stmt-item.is
    ∙ c.loop-stmt.invariant
