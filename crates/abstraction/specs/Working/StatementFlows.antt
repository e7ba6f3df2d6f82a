-- The flow of one statement over the rows of tables.
use Rattle.kat_model.specs.Stores.{modulus}
use Rattle.linear_forms.specs.Arithmetic.{normal_form}
use Rattle.while_lang.specs.Programs.{StmtTree, skip, abort, assert, act, assign, branch, loop}
use Rattle.while_lang.specs.Flows as flow
use Rattle.while_lang.specs.Flows.{FlowStmt}
use Rattle.abstraction.specs.Tables.{Tables}
use Rattle.abstraction.specs.Tests.{cond_test, assignment_action, prog_flow}

abbrev pub stmt_flow : Tables → StmtTree → FlowStmt
stmt_flow t skip = flow.skip
stmt_flow t abort = flow.abort
stmt_flow t (assert b) = flow.assert (cond_test t b)
stmt_flow t (act a) = flow.act a
stmt_flow t (assign x e) = flow.act (assignment_action t (record { var = x; form = normal_form (modulus t.width) e }))
stmt_flow t (branch b p q) = flow.branch (cond_test t b) (prog_flow t p) (prog_flow t q)
stmt_flow t (loop b p) = flow.loop (cond_test t b) (prog_flow t p)
