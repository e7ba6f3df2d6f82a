use Rattle.std.proofs.lemmas.Result.{IfOk-weaker}
use Rattle.kat_model.specs.Trees.{sum}
use Rattle.kat_model.specs.Steps.{out, next}
use Rattle.partial_derivs.proofs.Unions.{sum_union}
use Rattle.partial_derivs.proofs.sets.sum_steps.Goals as goal

pub returns-clause-sum : goal.returns-clause-sum
returns-clause-sum c =
    IfOk-weaker c.steps.result _ _
    (λ s steps store e f is_first is_second.
    steps store c.add-2.new.diagrams (out (sum e f)) (next (sum e f))
    (sum_union store _ _ _ _ _ _ c.args.first.now c.args.second.now e f (c.new-whole.ensures.none store) c.in_ok-add.ensures.added c.in_ok-add.ensures.kept c.in_ok-add-2.ensures.added is_first is_second))
    c.steps.ensures
