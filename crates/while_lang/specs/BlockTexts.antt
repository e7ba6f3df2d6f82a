-- The texts of statements as the program writes them.
use Rattle.std.specs.Prelude.{ℕ, List, [], ◌++◌, codes}
use Rattle.kat_model.specs.Expressions.{ExprTree, CondTree}
use Rattle.text_parser.specs.declared.meaning.Meaning.{Meaning}
use Rattle.text_parser.specs.declared.meaning.Meaning.TheVariants.{Action, Var}
use Rattle.text_print.specs.Printing.{expr_text, cond_text}
use Rattle.while_lang.specs.Programs.{ProgTree, empty, skip_then, abort_then, assert_then, act_then, assign_then, branch_then, loop_then}
use Rattle.while_lang.specs.Programs.{StmtTree, skip, abort, assert, act, assign, branch, loop}

abbrev pub assert_text : (Meaning → List ℕ) → CondTree → List ℕ
assert_text names b = codes " assert " ++ cond_text names b ++ codes ";"

abbrev pub act_text : List ℕ → List ℕ
act_text name = codes " " ++ name ++ codes ";"

abbrev pub assign_text : (Meaning → List ℕ) → List ℕ → ExprTree → List ℕ
assign_text names name e = codes " " ++ name ++ codes " := " ++ expr_text names e ++ codes ";"

-- `first` and `second` are the texts of the statements of the blocks
abbrev pub branch_text : (Meaning → List ℕ) → CondTree → List ℕ → List ℕ → List ℕ
branch_text names b first second = codes " if " ++ cond_text names b ++ codes " {" ++ first ++ codes " } else {" ++ second ++ codes " }"

abbrev pub loop_text : (Meaning → List ℕ) → CondTree → List ℕ → List ℕ
loop_text names b body = codes " while " ++ cond_text names b ++ codes " {" ++ body ++ codes " }"

-- statements, each after a blank
abbrev pub stmts_text : (Meaning → List ℕ) → ProgTree → List ℕ
stmts_text names empty = []
stmts_text names (skip_then rest) = codes " skip;" ++ stmts_text names rest
stmts_text names (abort_then rest) = codes " abort;" ++ stmts_text names rest
stmts_text names (assert_then b rest) = assert_text names b ++ stmts_text names rest
stmts_text names (act_then a rest) = act_text (names (Action a)) ++ stmts_text names rest
stmts_text names (assign_then x e rest) = assign_text names (names (Var x)) e ++ stmts_text names rest
stmts_text names (branch_then b p q rest) = branch_text names b (stmts_text names p) (stmts_text names q) ++ stmts_text names rest
stmts_text names (loop_then b p rest) = loop_text names b (stmts_text names p) ++ stmts_text names rest

-- a block, with a blank before the closing brace
abbrev pub block_text : (Meaning → List ℕ) → ProgTree → List ℕ
block_text names p = codes "{" ++ (stmts_text names p ++ codes " }")

-- a statement after a blank
abbrev pub stmt_text : (Meaning → List ℕ) → StmtTree → List ℕ
stmt_text names skip = codes " skip;"
stmt_text names abort = codes " abort;"
stmt_text names (assert b) = assert_text names b
stmt_text names (act a) = act_text (names (Action a))
stmt_text names (assign x e) = assign_text names (names (Var x)) e
stmt_text names (branch b p q) = branch_text names b (stmts_text names p) (stmts_text names q)
stmt_text names (loop b p) = loop_text names b (stmts_text names p)
