-- The tree of a block in a scope. The programs that it names are spliced in.
use Rattle.std.specs.Prelude.{List, [], ◌∷◌, ◌++◌, slice_get, Ok, Option, Some, None, ℕ}
use Rattle.kat_model.specs.Trees.{Term}
use Rattle.kat_model.specs.Expressions.{ExprTree, CondTree}
use Rattle.text_parser.specs.declared.meaning.Meaning.{Meaning}
use Rattle.text_parser.specs.declared.meaning.Meaning.TheVariants.{Action, Var, Prog}
use Rattle.text_parser.specs.ScopeParts.{ScopeParts, meaning}
use Rattle.text_parser.specs.Building.{trees}
use Rattle.while_lang.specs.Programs.{StmtTree, skip, abort, assert, act, assign, branch, loop, prog_of, stmts_of}
use Rattle.while_lang.specs.NamedProgs.{ProgParts}
use Rattle.while_lang.specs.BlockActions.{BlockActions}

-- the statements of a program of the file, or none
abbrev pub spliced : Option ProgParts → List StmtTree
spliced None = []
spliced (Some p) = stmts_of p.tree

-- the statements of a name; measuring rejects a name that is neither an action nor a program before trees are built
abbrev pub named_stmts : List ProgParts → Option Meaning → List StmtTree
named_stmts ps (Some (Action a)) = act a ∷ []
named_stmts ps (Some (Prog i)) = spliced (slice_get ps i)
named_stmts ps _ = []

-- the variable of a name; measuring rejects a name that is not a variable before trees are built
abbrev pub target_var : Option Meaning → ℕ
target_var (Some (Var k)) = k
target_var _ = 0

-- the actions that build trees; they append statements
abbrev pub block_trees : ScopeParts → List ProgParts → BlockActions ExprTree CondTree (List CondTree) Term (List Term) (List StmtTree)
block_trees w ps = record {
  phrases = trees w;
  none = [];
  skip = λ ss. ss ++ skip ∷ [];
  abort = λ ss. ss ++ abort ∷ [];
  assert = λ ss b. ss ++ assert b ∷ [];
  named = λ d at name ss. Ok (ss ++ named_stmts ps (meaning w name));
  target = λ at name. Ok tt;
  assign = λ ss name e. ss ++ assign (target_var (meaning w name)) e ∷ [];
  branch = λ ss b p q. ss ++ branch b (prog_of p) (prog_of q) ∷ [];
  turn = λ ss b p. ss ++ loop b (prog_of p) ∷ [];
  braced = λ ss. ss;
  chained = λ ss. ss;
}
