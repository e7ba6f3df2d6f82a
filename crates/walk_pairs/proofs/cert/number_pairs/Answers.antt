use Rattle.std.proofs.Common.{◌≡◌, ◌++◌, inl, map, Some, refl, sym, ap, ◌∙◌, subst}
use Rattle.std.specs.Option.{option_map, option_to_list}
use Rattle.kat_model.specs.Members.{Has}
use Rattle.kat_model.proofs.Lists.{has_left, has_right}
use Rattle.partial_derivs.proofs.Items.{has_item}
use Rattle.certificate.specs.PairParts.{PairParts}
use Rattle.walk_pairs.specs.Numbering.{number_of, numbers_of, number_pair_of}
use Rattle.walk_pairs.proofs.NamedTests.{mapped_next, mapped_last}
use Rattle.walk_pairs.proofs.PartSets.{member_of}
use Rattle.walk_pairs.proofs.StoreCerts.{pair_test_of}
use Rattle.walk_pairs.proofs.cert.number_pairs.Goals as goal

pub numbers-requires : goal.numbers-requires
numbers-requires c =
    let own : PairParts = c.pair-item.result in
    let left : c.as_slice.result.now ≡ own.left = c.as_slice.ensures ∙ ap (λ (p : PairParts). p.left) c.pair.view_is in
    let member = has_item c.args.pairs.now c.loop-pair.pair-index own c.loop-pair-test.true c.pair-item.is in
    λ x h. c.requires.terms x (member_of c.args.pairs.now own member x (has_left own.left own.right x (subst (λ l. Has l x) left h)))

pub numbers-requires-in-loop-pair : goal.numbers-requires-in-loop-pair
numbers-requires-in-loop-pair c =
    let own : PairParts = c.pair-item.result in
    let right : c.as_slice-in-loop-pair.result.now ≡ own.right = c.as_slice-in-loop-pair.ensures ∙ ap (λ (p : PairParts). p.right) c.pair.view_is in
    let member = has_item c.args.pairs.now c.loop-pair.pair-index own c.loop-pair-test.true c.pair-item.is in
    λ x h. c.requires.terms x (member_of c.args.pairs.now own member x (has_right own.left own.right x (subst (λ l. Has l x) right h)))

pub pair_test_number-test-requires : goal.pair_test_number-test-requires
pair_test_number-test-requires c k e =
    let own : PairParts = c.pair-item.result in
    let test : own.test ≡ Some k = sym (ap (λ (p : PairParts). p.test) c.pair.view_is) ∙ e in
    let member = has_item c.args.pairs.now c.loop-pair.pair-index own c.loop-pair-test.true c.pair-item.is in
    c.requires.tests k (pair_test_of c.args.pairs.now own member k (subst (λ o. Has (option_to_list o) k) (sym test) (inl refl)))

pub loop-pair-init : goal.loop-pair-init
loop-pair-init c = ap (λ l. l ++ map (number_pair_of c.args.tests.now.keys c.args.terms.now.keys) c.args.pairs.now) c.new-list.ensures.items

pub loop-pair-preserved : goal.loop-pair-preserved
loop-pair-preserved c =
    let own : PairParts = c.pair-item.result in
    let tests = c.args.tests.now.keys in
    let terms = c.args.terms.now.keys in
    let left : c.in_ok-left.left ≡ numbers_of terms own.left = c.in_ok-left.ensures ∙ ap (numbers_of terms) (c.as_slice.ensures ∙ ap (λ (p : PairParts). p.left) c.pair.view_is) in
    let right : c.in_ok-right.right ≡ numbers_of terms own.right = c.in_ok-right.ensures ∙ ap (numbers_of terms) (c.as_slice-in-loop-pair.ensures ∙ ap (λ (p : PairParts). p.right) c.pair.view_is) in
    let test : c.pair_test_number-test.result ≡ option_map (number_of tests) own.test = c.pair_test_number-test.ensures ∙ ap (option_map (number_of tests)) (ap (λ (p : PairParts). p.test) c.pair.view_is) in
    mapped_next (number_pair_of tests terms) c.args.pairs.now c.loop-pair.pair-index own (record { left = c.in_ok-left.left; right = c.in_ok-right.right; test = c.pair_test_number-test.result }) c.loop-pair.list.items c.append.new.list.items _ c.loop-pair-test.true c.pair-item.is
    (λ j. record { left = left j; right = right j; test = test j }) c.in_ok-append.ensures c.loop-pair.invariant

pub returns : goal.returns
returns c = mapped_last (number_pair_of c.args.tests.now.keys c.args.terms.now.keys) c.args.pairs.now c.loop-pair.pair-index c.loop-pair.list.items _ c.loop-pair-test.false c.loop-pair.invariant
