use Rattle.lrat_checker.proofs.MarkedLiterals.{none_marked}
use Rattle.lrat_checker.proofs.falses.Falses.clear.Goals as goal

pub invariant_of-self : goal.invariant_of-self
invariant_of-self c =
    rw (c.clear.ensures.items, c.unmark_all.ensures, c.deref.ensures.value) (none_marked c.self.inside.literals.items c.self.inside.marks.items c.self.invariant)
