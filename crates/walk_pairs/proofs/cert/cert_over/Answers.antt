use Rattle.std.proofs.Common.{◌≡◌, sym, ◌∙◌, subst}
use Rattle.certificate.specs.Certs.{IsCert, cert_of}
use Rattle.walk_pairs.specs.Numbering.{IsCertOf}
use Rattle.walk_pairs.proofs.StoreCerts.{AreNeeded, numbered_cert, tests_there_in, pair_tests_there, numbered_rules}
use Rattle.walk_pairs.proofs.CertRanges.{numbered_is}
use Rattle.walk_pairs.proofs.cert.cert_over.Goals as goal

pub test_nodes-requires-clause-there : goal.test_nodes-requires-clause-there
test_nodes-requires-clause-there c = c.requires.tests.2.there

pub test_nodes-requires-clause-parts : goal.test_nodes-requires-clause-parts
test_nodes-requires-clause-parts c = c.requires.tests.2.parts

pub term_nodes-requires-clause-there : goal.term_nodes-requires-clause-there
term_nodes-requires-clause-there c = c.requires.terms.there

pub term_nodes-requires-clause-tests : goal.term_nodes-requires-clause-tests
term_nodes-requires-clause-tests c i shape h e =
    let needed : AreNeeded c.args.store.now c.args.pairs.now c.args.terms.now.keys c.requires.tests.0 c.args.tests.now.keys =
    record { rules = c.count.ensures.store; of_terms = c.requires.terms; names = c.requires.tests.1; of_tests = c.requires.tests.2 } in
    tests_there_in c.args.store.now c.args.pairs.now c.args.terms.now.keys c.requires.tests.0 c.args.tests.now.keys needed i shape h e

pub term_nodes-requires-clause-parts : goal.term_nodes-requires-clause-parts
term_nodes-requires-clause-parts c = c.requires.terms.parts

pub number_pairs-requires : goal.number_pairs-requires
number_pairs-requires c =
    let needed : AreNeeded c.args.store.now c.args.pairs.now c.args.terms.now.keys c.requires.tests.0 c.args.tests.now.keys =
    record { rules = c.count.ensures.store; of_terms = c.requires.terms; names = c.requires.tests.1; of_tests = c.requires.tests.2 } in
    record {
      tests = pair_tests_there c.args.store.now c.args.pairs.now c.args.terms.now.keys c.requires.tests.0 c.args.tests.now.keys needed;
      terms = c.requires.terms.holds;
    }

pub of_parts-requires : goal.of_parts-requires
of_parts-requires c =
    let needed : AreNeeded c.args.store.now c.args.pairs.now c.args.terms.now.keys c.requires.tests.0 c.args.tests.now.keys =
    record { rules = c.count.ensures.store; of_terms = c.requires.terms; names = c.requires.tests.1; of_tests = c.requires.tests.2 } in
    let built : cert_of c.args.style c.in_ok-test_nodes.test_nodes.items c.in_ok-term_nodes.term_nodes.items c.in_ok-pairs.pairs.items ≡ numbered_cert c.args.style c.args.store.now c.args.tests.now.keys c.args.terms.now.keys c.args.pairs.now =
    λ v. cert_of c.args.style (c.in_ok-test_nodes.ensures v) (c.in_ok-term_nodes.ensures v) (c.in_ok-pairs.ensures v) in
    subst IsCert (sym built) (numbered_rules c.args.store.now c.args.pairs.now c.args.terms.now.keys c.requires.tests.0 c.args.tests.now.keys needed c.args.style c.requires.stored.0 c.requires.stored.1)

pub returns : goal.returns
returns c =
    let needed : AreNeeded c.args.store.now c.args.pairs.now c.args.terms.now.keys c.requires.tests.0 c.args.tests.now.keys =
    record { rules = c.count.ensures.store; of_terms = c.requires.terms; names = c.requires.tests.1; of_tests = c.requires.tests.2 } in
    let built : cert_of c.args.style c.in_ok-test_nodes.test_nodes.items c.in_ok-term_nodes.term_nodes.items c.in_ok-pairs.pairs.items ≡ numbered_cert c.args.style c.args.store.now c.args.tests.now.keys c.args.terms.now.keys c.args.pairs.now =
    λ v. cert_of c.args.style (c.in_ok-test_nodes.ensures v) (c.in_ok-term_nodes.ensures v) (c.in_ok-pairs.ensures v) in
    subst (IsCertOf c.args.store.now c.args.style c.args.pairs.now) (sym (c.of_parts.ensures ∙ built))
    (numbered_is c.args.store.now c.args.pairs.now c.args.terms.now.keys c.requires.tests.0 c.args.tests.now.keys needed c.args.style c.requires.stored.0 c.requires.stored.1)
