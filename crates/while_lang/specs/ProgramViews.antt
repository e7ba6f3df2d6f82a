-- The trees of the program's statements.
use Rattle.std.specs.Prelude.{List, map}
use Rattle.kat_model.specs.Expressions.{expr_tree, cond_tree}
use Rattle.while_lang.specs.Programs.{ProgTree, StmtTree, skip, abort, assert, act, assign, branch, loop, prog_of}
use Rattle.while_lang.specs.declared.prog.Stmt.{Stmt}
use Rattle.while_lang.specs.declared.prog.Stmt.TheVariants.{Skip, Abort, Assert, Act, Assign, If, While}

-- the tree of a statement of the program
abbrev pub stmt_tree : Stmt → StmtTree
stmt_tree Skip = skip
stmt_tree Abort = abort
stmt_tree (Assert b) = assert (cond_tree b)
stmt_tree (Act a) = act a
stmt_tree (Assign x e) = assign x (expr_tree e)
stmt_tree (If b p q) = branch (cond_tree b) p q
stmt_tree (While b p) = loop (cond_tree b) p

-- the tree of a list of statements of the program
abbrev pub list_tree : List Stmt → ProgTree
list_tree ss = prog_of (map stmt_tree ss)
