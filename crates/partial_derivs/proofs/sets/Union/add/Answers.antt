use Rattle.partial_derivs.proofs.Unions.{adds_steps}
use Rattle.partial_derivs.proofs.sets.Union.add.Goals as goal

pub returns-clause-added : goal.returns-clause-added
returns-clause-added c =
    let under = rw c.deref.ensures.value at c.in_ok-add_under.ensures.added in
    adds_steps _ _ _ c.args.self.now (record { accepts = c.in_ok-self.field-0; gathered = c.add_under.new.self }) c.args.steps.now c.constant-always.result
    c.in_ok-add_under.ensures.kept c.in_ok-self.ensures.kept c.constant-always.ensures.function c.requires.steps c.requires.ids under c.in_ok-self.ensures.function
