use Rattle.std.proofs.Common.{refl, sym, ◌∙◌}
use Rattle.cert_checker.proofs.sides.add_possible.Goals as goal

pub returns-then-has_too : goal.returns-then-has_too
returns-then-has_too c = rw (sym c.has_too.ensures ∙ c.if-has_too.true) (record { sure = refl; alone = refl; alone_waits = refl; waits = c.or-side.ensures })

pub returns : goal.returns
returns c = rw (sym c.has_too.ensures ∙ c.if-has_too.false) (record { sure = refl; alone = c.in_ok-push.ensures.items; alone_waits = c.or-side-2.ensures; waits = c.or-side.ensures })
