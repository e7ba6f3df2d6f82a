use Rattle.std.proofs.Common.{refl}
use Rattle.kat_model.proofs.Numbers.{nat_cmp-own}
use Rattle.outline_rules.specs.declared.notes.NoteNode.TheVariants.{False, True, Branch}
use Rattle.outline_rules.proofs.KnownNodes.{branch_exact}
use Rattle.outline_rules.proofs.draft.node_order.Goals as goal

pub returns-clause-apart : goal.returns-clause-apart
returns-clause-apart c False False e = refl
returns-clause-apart c True True e = refl
returns-clause-apart c (Branch k x y) (Branch l z w) e = branch_exact k l x y z w e
returns-clause-apart c x y e = cc

pub returns-clause-own : goal.returns-clause-own
returns-clause-own c False = refl
returns-clause-own c True = refl
returns-clause-own c (Branch k x y) = rw (nat_cmp-own k, nat_cmp-own x) (nat_cmp-own y)
