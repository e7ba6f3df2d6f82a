use Rattle.std.proofs.Common.{false, eqb-true, sym, ◌∙◌, subst}
use Rattle.test_diagrams.specs.Functions.{IsDiagramOf}
use Rattle.partial_derivs.specs.Working.Gathered.{same_target}
use Rattle.partial_derivs.proofs.Merged.{same_target_is}
use Rattle.partial_derivs.proofs.Joined.{adds_move, adds_never}
use Rattle.partial_derivs.proofs.gathered.Gathered.add.Goals as goal

pub returns-then-eq-clause-added : goal.returns-then-eq-clause-added
returns-then-eq-clause-added c =
    adds_never _ _ _ c.requires.guards (subst (λ id. IsDiagramOf c.args.diagrams.now id (λ atom. false)) (sym (eqb-true _ _ (sym c.eq.ensures ∙ c.if-eq.true))) c.constant.ensures.function)

pub returns-clause-added : goal.returns-clause-added
returns-clause-added c =
    let joined = c.in_ok-joined in
    adds_move c.args.diagrams.now c.guard_with.new.diagrams same_target same_target_is c.args.self.now.guards.entries (record { act = c.args.act; to = c.args.to }) c.args.guard joined.joined
    joined.ensures.kept c.requires.guards joined.ensures.function c.insert.new.self.entries c.in_ok-insert.ensures.entries
