use Rattle.std.proofs.Common.{nat_eq, rules, tests, sym, ◌∙◌}
use Rattle.std.proofs.lemmas.Iterator.{YieldsList-from_slice}
use Rattle.std.proofs.lemmas.Iterator.Search.{any_from_yields_List}
use Rattle.flow_model.specs.declared.block_match.Equation.{Equation}
use Rattle.flow_text.proofs.MatchSteps.{given_seen}
use Rattle.flow_text.proofs.matches.is_given_by.Goals as goal

pub returns : goal.returns
returns c =
    any_from_yields_List (λ (q : Equation). nat_eq q.variable c.args.k) _ _ c.any.result c.any.ensures.ran (YieldsList-from_slice c.args.equations.now cc) (λ x b q k. search (rules, tests))
    ∙ sym (given_seen c.args.k c.args.equations.now)
