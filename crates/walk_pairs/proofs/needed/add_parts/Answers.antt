use Rattle.std.proofs.Common.{sym, ap, subst, ⊎_elim}
use Rattle.term_nodes.specs.Nodes.{term_parts}
use Rattle.walk_pairs.specs.Needed.{AddsAll}
use Rattle.kat_model.proofs.NumberKeys.{adds_one, adds_two}
use Rattle.walk_pairs.proofs.needed.add_parts.Goals as goal

pub returns-in_ok-insert-in-Star : goal.returns-in_ok-insert-in-Star
returns-in_ok-insert-in-Star c =
    subst (AddsAll c.args.set.now.keys c.insert.new.self.keys) (sym (ap term_parts c.in-Star.is))
    (adds_one c.args.set.now.keys c.insert.new.self.keys c.in-Star.e c.in_ok-insert-in-Star.ensures.keys)

pub returns-in_ok-insert-in-Sum-2 : goal.returns-in_ok-insert-in-Sum-2
returns-in_ok-insert-in-Sum-2 c =
    subst (AddsAll c.args.set.now.keys c.insert-in-Sum-2.new.self.keys) (sym (⊎_elim (ap term_parts) (ap term_parts) c.in-Sum.is))
    (adds_two c.args.set.now.keys c.insert-in-Sum.new.self.keys c.insert-in-Sum-2.new.self.keys c.in-Sum.e c.in-Sum.f c.in_ok-insert-in-Sum.ensures.keys c.in_ok-insert-in-Sum-2.ensures.keys)
