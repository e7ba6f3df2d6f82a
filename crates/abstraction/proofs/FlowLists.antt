-- The flows of a list of statements.
use Rattle.std.proofs.Common.{◌≡◌, List, [], ◌∷◌, map, refl, ap, ◌∙◌}
use Rattle.while_lang.specs.Programs.{ProgTree, StmtTree, skip, abort, assert, act, assign, branch, loop, with_stmt}
use Rattle.while_lang.specs.Flows as flow
use Rattle.while_lang.specs.Flows.{flow_of}
use Rattle.while_lang.specs.ProgramViews.{stmt_tree, list_tree}
use Rattle.while_lang.specs.declared.prog.Stmt.{Stmt}
use Rattle.abstraction.specs.Tables.{Tables}
use Rattle.abstraction.specs.Tests.{prog_flow}
use Rattle.abstraction.specs.Working.StatementFlows.{stmt_flow}

prog_flow-with_stmt : (t : Tables) (s : StmtTree) (rest : ProgTree) → flow.with_stmt (stmt_flow t s) (prog_flow t rest) ≡ prog_flow t (with_stmt s rest)
prog_flow-with_stmt t skip rest = refl
prog_flow-with_stmt t abort rest = refl
prog_flow-with_stmt t (assert b) rest = refl
prog_flow-with_stmt t (act a) rest = refl
prog_flow-with_stmt t (assign x e) rest = refl
prog_flow-with_stmt t (branch b p q) rest = refl
prog_flow-with_stmt t (loop b p) rest = refl

pub flow_of_stmts : (t : Tables) (ss : List Stmt) → flow_of (map (λ s. stmt_flow t (stmt_tree s)) ss) ≡ prog_flow t (list_tree ss)
flow_of_stmts t [] = refl
flow_of_stmts t (s ∷ ss) = ap (flow.with_stmt (stmt_flow t (stmt_tree s))) (flow_of_stmts t ss) ∙ prog_flow-with_stmt t (stmt_tree s) (list_tree ss)
