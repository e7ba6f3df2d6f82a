use Rattle.std.proofs.lemmas.Result.{on_ok_weaker}
use Rattle.partial_derivs.proofs.Under.{one_under}
use Rattle.partial_derivs.proofs.gathered.Gathered.add_guarded.Goals as goal

pub returns-clause-added : goal.returns-clause-added
returns-clause-added c =
    let made = c.in_ok-both in
    on_ok_weaker c.add.result
    (λ adds. one_under _ _ _ _ _ c.args.guarded.now c.args.guard made.both made.ensures.kept c.requires.guards made.ensures.function adds c.add.ensures.kept)
    c.add.ensures.added
