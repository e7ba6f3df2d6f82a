use Rattle.cert_checker.proofs.question.Question.of.Goals as goal

pub returns-clause-named : goal.returns-clause-named
returns-clause-named c = record { queried = c.in_ok-queried.ensures.queried; named = c.in_ok-queried.ensures.named }

pub named_tests-requires-clause-pair_test : goal.named_tests-requires-clause-pair_test
named_tests-requires-clause-pair_test c = c.requires.pair_test

pub named_tests-requires-clause-left : goal.named_tests-requires-clause-left
named_tests-requires-clause-left c = c.requires.left

pub named_tests-requires-clause-right : goal.named_tests-requires-clause-right
named_tests-requires-clause-right c = c.requires.right
