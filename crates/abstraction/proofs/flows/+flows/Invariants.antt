use Rattle.std.proofs.Common.{◌≡◌, map, take}
use Rattle.while_lang.specs.ProgramViews.{stmt_tree}
use Rattle.while_lang.specs.FlowViews.{flow_stmt}
use Rattle.abstraction.specs.Working.StatementFlows.{stmt_flow}
use Rattle.abstraction.proofs.flows.+flows.Given as goal

-- the flows of the statements so far
abbrev pub invariant-prog_flow-loop-stmt : goal.invariant-prog_flow-loop-stmt
invariant-prog_flow-loop-stmt g l = map flow_stmt l.list.items ≡ map (λ s. stmt_flow (g.T.Numbering.tables l.tables) (stmt_tree s)) (take l.stmt-index l.stmt-items)
