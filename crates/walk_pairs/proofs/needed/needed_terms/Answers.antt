use Rattle.std.proofs.Common.{ℕ}
use Rattle.std.proofs.lemmas.Result.{IfOk-weaker}
use Rattle.term_nodes.specs.declared.TermNode.{TermNode}
use Rattle.term_nodes.specs.Nodes.{term_parts}
use Rattle.walk_pairs.specs.Needed.{members_of}
use Rattle.walk_pairs.proofs.SameParts.{same_parts}
use Rattle.walk_pairs.proofs.needed.needed_terms.Goals as goal

pub with_parts-requires : goal.with_parts-requires
with_parts-requires c i h = c.requires i ((c.in_ok-members.ensures i).0 h)

pub returns : goal.returns
returns c =
    IfOk-weaker c.terms_in_order.result _ _
    (λ s e. same_parts (TermNode ℕ ℕ) c.args.store.now.terms term_parts c.in_ok-members.members.keys (members_of c.args.pairs.now) c.in_ok-members.ensures c.in_ok-all.all.keys s.keys e c.in_ok-all.ensures) c.terms_in_order.ensures
