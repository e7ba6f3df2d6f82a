use Rattle.std.proofs.Common.{rules, sym, subst}
use Rattle.test_diagrams.specs.Operations.{IsResult}
use Rattle.test_diagrams.proofs.Results.{results_insert}
use Rattle.test_diagrams.proofs.diagrams.Diagrams.note.Goals as goal

pub invariant_of-self-2 : goal.invariant_of-self-2
invariant_of-self-2 c =
    let right = subst (λ d. IsResult d c.args.operation c.args.id) (sym c.self.view_is) c.requires in
    record {
      reduced = c.self.invariant.reduced;
      results = results_insert _ _ _ c.insert.new.self.entries _ _ c.self.invariant.results right c.in_ok-insert.ensures.entries (λ x y e. search rules);
    }
