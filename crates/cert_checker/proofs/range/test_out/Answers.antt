use Rattle.std.proofs.Common.{rules}
use borrow.Author.Tests.{tests}
use Rattle.std.proofs.lemmas.Iterator.{IsFirst-from_position, YieldsList-from_slice}
use Rattle.term_nodes.specs.declared.TestNode.TheVariants.{Prim}
use Rattle.cert_checker.proofs.NodeRanges.{IsOut, IsIn, first_given}
use Rattle.cert_checker.proofs.range.test_out.Goals as goal

pub returns : goal.returns
returns c =
    first_given Prim c.args.tests c.args.nodes.now c.position.result
    (IsFirst-from_position _ _ _ (IsOut Prim c.args.tests) (IsIn Prim c.args.tests) c.position.ensures.ran (YieldsList-from_slice c.args.nodes.now cc) (λ x q k. search (rules, tests)) (λ x q k. search (rules, tests)))
