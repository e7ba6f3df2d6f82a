use Rattle.std.proofs.Common.{sym, subst}
use Rattle.text_parser.specs.ScopeParts.{ScopeParts, IsUnnamed}
use Rattle.text_parser.proofs.ScopeLemmas.{world_declared}
use Rattle.text_parser.proofs.scope.Scope.declare.Goals as goal

pub invariant_of-self-2 : goal.invariant_of-self-2
invariant_of-self-2 c =
    rw c.in_ok-insert.ensures.ok
    (world_declared _ c.args.name.now.text.now c.args.meaning c.self.invariant (record { name = c.requires.name; no_keyword = c.requires.no_keyword }) c.requires.no_term
    (subst (λ (w : ScopeParts). IsUnnamed w c.args.meaning) (sym c.self.view_is) c.requires.unnamed))
