use Rattle.std.proofs.Common.{◌≡◌, ◌+◌, ◌<◌, ◌++◌, ◌∷◌, [], ℕ, List, length, map, take, get_or, sym, ap, ◌∙◌}
use Rattle.std.proofs.lemmas.List.{map-append, take_all, take_more}
use Rattle.while_lang.specs.Flows.{flow_of}
use Rattle.while_lang.specs.FlowViews.{flow_stmt}
use Rattle.while_lang.specs.ProgramViews.{stmt_tree}
use Rattle.abstraction.specs.Working.StatementFlows.{stmt_flow}
use Rattle.abstraction.proofs.FlowLists.{flow_of_stmts}
use Rattle.abstraction.proofs.flows.+flows.Goals as goal

-- the image of one more element
mapped_more : {X Y Z : Type 0} (f : X → Z) (h : Y → Z) (old new : List X) (x : X) (ys : List Y) (i : ℕ) (y : Y) → i < length ys → y ≡ get_or ys i y → map f old ≡ map h (take i ys) → f x ≡ h y
    → map f new ≡ map f old ++ f x ∷ [] → map f new ≡ map h (take (i + 1) ys)
mapped_more f h old new x ys i y low is before same made =
    made ∙ (λ j. before j ++ same j ∷ []) ∙ sym (ap (map h) (take_more ys i y low ∙ (λ j. take i ys ++ sym is j ∷ [])) ∙ map-append h (take i ys) (y ∷ []))

pub prog_flow-loop-stmt-preserved : goal.prog_flow-loop-stmt-preserved
prog_flow-loop-stmt-preserved g t c =
    mapped_more flow_stmt (λ s. stmt_flow (g.T.Numbering.tables c.args.tables.now) (stmt_tree s)) c.loop-stmt.list.items c.push_flow.new.list.items c.in_ok-stmt_flow.field-0 c.deref-stmt-items.result.now c.loop-stmt.stmt-index
    c.stmt-item.result c.loop-stmt-test.true c.stmt-item.is c.loop-stmt.invariant c.in_ok-stmt_flow.ensures c.in_ok-push_flow.ensures

pub prog_flow-returns : goal.prog_flow-returns
prog_flow-returns g t c =
    let stmts = c.deref-stmt-items.result.now in
    let e = take_all c.loop-stmt.stmt-index stmts c.loop-stmt-test.false in
    rw (← c.prog.view_is, ← c.deref-stmt-items.ensures.value) (ap flow_of c.loop-stmt.invariant ∙ rw (e) (flow_of_stmts (g.T.Numbering.tables c.args.tables.now) stmts))
