use Rattle.walk_pairs.proofs.StoreCerts.{pair_tests_are_ids}
use Rattle.walk_pairs.proofs.cert.cert_over_terms.Goals as goal

pub needed_tests-requires : goal.needed_tests-requires
needed_tests-requires c = record { terms = c.requires.terms.there; tests = pair_tests_are_ids c.args.store.now c.args.style c.requires.stored.0 c.args.pairs.now c.requires.stored.1 }
