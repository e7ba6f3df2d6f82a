-- The trees of the program's flow statements.
use Rattle.std.specs.Prelude.{List, map}
use Rattle.kat_model.specs.Trees.{test_tree}
use Rattle.while_lang.specs.Flows.{FlowTree, FlowStmt, skip, abort, assert, act, branch, loop, flow_of}
use Rattle.while_lang.specs.declared.flow.Flow.{Flow}
use Rattle.while_lang.specs.declared.flow.Flow.TheVariants.{Skip, Abort, Assert, Act, If, While}

-- the tree of a statement of the program
abbrev pub flow_stmt : Flow → FlowStmt
flow_stmt Skip = skip
flow_stmt Abort = abort
flow_stmt (Assert b) = assert (test_tree b)
flow_stmt (Act a) = act a
flow_stmt (If b f g) = branch (test_tree b) f g
flow_stmt (While b f) = loop (test_tree b) f

-- the tree of a list of statements of the program
abbrev pub flows_tree : List Flow → FlowTree
flows_tree fs = flow_of (map flow_stmt fs)
