use Rattle.std.proofs.Common.{subst}
use Rattle.std.specs.Prelude.{IsSome}
use Rattle.term_nodes.proofs.Growing.{Grows-trans}
use Rattle.walk_up_to.specs.Decisions.{HasPairsPast}
use Rattle.walk_up_to.proofs.deciding.is_same_up_to.Goals as goal

pub ends_same-requires : goal.ends_same-requires
ends_same-requires c = c.in_ok-walk.ensures.under_way.1

pub returns-clause-past : goal.returns-clause-past
returns-clause-past c = λ is. subst (HasPairsPast c.args.problem.now) c.in_ok-walk.ensures.limit (c.ends_same.ensures.past is)

pub returns-clause-kept : goal.returns-clause-kept
returns-clause-kept c = Grows-trans c.args.store.now c.walk_of.new.store c.ends_same.new.store c.in_ok-walk.ensures.kept c.ends_same.ensures.kept

pub returns-clause-limited : goal.returns-clause-limited
returns-clause-limited c = λ is. subst IsSome c.in_ok-walk.ensures.limit (c.ends_same.ensures.limited is)
