use Rattle.std.proofs.lemmas.Result.{on_ok_weaker}
use Rattle.partial_derivs.proofs.Followed.{adds_followed}
use Rattle.partial_derivs.proofs.gathered.Gathered.add_followed.Goals as goal

pub returns-clause-added : goal.returns-clause-added
returns-clause-added c =
    let made = c.in_ok-to in
    on_ok_weaker c.add.result
    (adds_followed _ _ _ _ _ _ c.args.guarded.now c.args.tail made.to made.ensures.grows c.add.ensures.kept c.requires.guards c.requires.targets c.requires.to c.requires.tail made.ensures.is_id made.ensures.tree)
    c.add.ensures.added
