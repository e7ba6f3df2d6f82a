use Rattle.std.proofs.Common.{sym, subst}
use Rattle.kat_model.specs.Members.{Has}
use Rattle.walk_up_to.specs.Indices.{pair_side_at}
use Rattle.walk_up_to.proofs.IndexLists.{pushed_has, pushed_keeps}
use Rattle.walk_up_to.proofs.index.Places.add.Goals as goal

pub returns-clause-added : goal.returns-clause-added
returns-clause-added c = pushed_has c.self.inside.places.items c.push.new.self.items (pair_side_at c.args.place c.args.side c.args.witness) c.in_ok-push.ensures.items

pub returns-clause-kept : goal.returns-clause-kept
returns-clause-kept c = λ k h. pushed_keeps c.self.inside.places.items c.push.new.self.items (pair_side_at c.args.place c.args.side c.args.witness) c.in_ok-push.ensures.items k (subst (λ xs. Has xs k) (sym c.self.view_is) h)
