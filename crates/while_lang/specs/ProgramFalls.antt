-- A program has more statements than each program nested in it.
use Rattle.std.specs.Prelude.{◌≤◌, List, [], ◌∷◌}
use Rattle.std.proofs.Common.{arith}
use denote.Param.Weighed.{most}
use Rattle.while_lang.specs.Programs.{statements}
use Rattle.while_lang.specs.ProgramViews.{list_tree}
use Rattle.while_lang.specs.declared.prog.Stmt.{Stmt}
use Rattle.while_lang.specs.declared.prog.Stmt.TheVariants.{Skip, Abort, Assert, Act, Assign, If, While}
use Rattle.while_lang.specs.declared.prog.Prog.TheDeep.{deep-Stmt}

pub stmts_fall : (ss : List Stmt) → most (λ s. deep-Stmt s) ss ≤ statements (list_tree ss)
stmts_fall [] = omega arith
stmts_fall (Skip ∷ ss) = omega (arith, stmts_fall ss)
stmts_fall (Abort ∷ ss) = omega (arith, stmts_fall ss)
stmts_fall (Assert b ∷ ss) = omega (arith, stmts_fall ss)
stmts_fall (Act a ∷ ss) = omega (arith, stmts_fall ss)
stmts_fall (Assign x e ∷ ss) = omega (arith, stmts_fall ss)
stmts_fall (If b p q ∷ ss) = omega (arith, stmts_fall ss)
stmts_fall (While b p ∷ ss) = omega (arith, stmts_fall ss)
