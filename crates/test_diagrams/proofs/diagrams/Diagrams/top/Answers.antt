use Rattle.std.proofs.Common.{refl}
use Rattle.std.proofs.lemmas.Bool.{true≢false}
use Rattle.test_diagrams.proofs.Tops.{constant_is_constant, branch_is_least, branch_is_no_constant}
use Rattle.test_diagrams.proofs.diagrams.Diagrams.top.Goals as goal

pub returns-in-Constant-clause-constant : goal.returns-in-Constant-clause-constant
returns-in-Constant-clause-constant c = ((λ none. constant_is_constant _ _ _ c.in-Constant.ensures.node), (λ constant. refl))

pub returns-in-Branch-clause-least : goal.returns-in-Branch-clause-least
returns-in-Branch-clause-least c = branch_is_least _ c.node.ensures.reduced _ _ _ _ c.in-Branch.ensures.node

pub returns-in-Branch-clause-constant : goal.returns-in-Branch-clause-constant
returns-in-Branch-clause-constant c = (
  (λ none. absurd (true≢false none)),
  (λ constant. absurd (branch_is_no_constant _ c.node.ensures.reduced _ _ _ _ c.in-Branch.ensures.node constant)),
)
