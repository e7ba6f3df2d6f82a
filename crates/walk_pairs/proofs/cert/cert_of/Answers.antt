use Rattle.walk_pairs.proofs.StoreCerts.{members_are_ids}
use Rattle.walk_pairs.proofs.cert.cert_of.Goals as goal

pub needed_terms-requires : goal.needed_terms-requires
needed_terms-requires c = members_are_ids c.args.store.now c.args.style c.requires.0 c.args.pairs.now c.requires.1
