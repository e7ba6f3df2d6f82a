use Rattle.lrat_checker.proofs.MarkedLiterals.{marked_again, marked_more}
use Rattle.lrat_checker.proofs.falses.Falses.add.Goals as goal

pub invariant_of-self-2 : goal.invariant_of-self-2
invariant_of-self-2 c =
    let literals = c.self.inside.literals.items in
    let marks = c.make_place.new.marks.items in
    let again = marked_again literals c.self.inside.marks.items marks c.in_ok-make_place.ensures.same c.self.invariant in
    let within = rw c.place_of-place.ensures at c.in_ok-make_place.ensures.within in
    rw (c.in_ok-push.ensures.items, c.place_of-place.ensures) (marked_more literals marks c.args.literal within again)
