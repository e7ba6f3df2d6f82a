use Rattle.std.proofs.Common.{◌≡◌, map, drop}
use Rattle.kat_model.specs.Trees.{kat_tree}
use Rattle.kat_model.specs.Problems.{first_out_of_all}
use Rattle.kat_model.proofs.problem.terms_out.Given as goal

-- the first number out of range in all terms is the first one in the remaining terms
abbrev pub invariant-loop-term : goal.invariant-loop-term
invariant-loop-term l =
    first_out_of_all l.tests l.actions (map kat_tree l.terms) ≡ first_out_of_all l.tests l.actions (map kat_tree (drop l.term-index l.terms))
