use Rattle.std.proofs.Common.{◌≡◌, ◌≤◌, ℕ, List, length, ⊎_elim, refl, arith}
use Rattle.std.proofs.lemmas.Bool.{false≢true, iff_false}
use Rattle.kat_model.specs.Members.{IsSubset}
use Rattle.cert_checker.specs.Working.Rounds.{counting_in}
use Rattle.cert_checker.proofs.Saturating.{no_more, stays_longer, goes_then, brought_first, brought_on, there_reached, unreached}
use Rattle.cert_checker.proofs.saturation.saturate.Goals as goal

pub loop-reached-init : goal.loop-reached-init
loop-reached-init c =
    brought_first (counting_in c.args.counted.now) c.args.from.now _ c.add_all.new.reached.keys c.add_under.new.reached.keys c.requires.empty c.in_ok-add_all.ensures c.in_ok-add_under.ensures

pub loop-reached-preserved : goal.loop-reached-preserved
loop-reached-preserved c =
    let ps = counting_in c.args.counted.now in
    brought_on ps c.args.from.now c.loop-reached.reached.keys c.add_round.new.reached.keys c.loop-reached.invariant
    (goes_then ps c.loop-reached.reached.keys c.add_pairs.new.reached.keys c.add_round.new.reached.keys c.in_ok-add_pairs.ensures.goes_on c.in_ok-add_round.ensures.goes_on)

pub loop-reached-smaller : goal.loop-reached-smaller
loop-reached-smaller c =
    let one : length c.loop-reached.reached.keys ≤ length c.add_pairs.new.reached.keys = stays_longer c.loop-reached.reached.keys c.add_pairs.new.reached.keys c.in_ok-add_pairs.ensures.goes_on.kept in
    let two : length c.add_pairs.new.reached.keys ≤ length c.add_round.new.reached.keys = stays_longer c.add_pairs.new.reached.keys c.add_round.new.reached.keys c.in_ok-add_round.ensures.goes_on.kept in
    omega (arith, one, two)

pub returns-then-len-count : goal.returns-then-len-count
returns-then-len-count c =
    let counted = c.args.counted.now in
    let ps = counting_in counted in
    let a : List ℕ = c.loop-reached.reached.keys in
    let b : List ℕ = c.add_pairs.new.reached.keys in
    let d : List ℕ = c.add_round.new.reached.keys in
    let first = c.in_ok-add_pairs.ensures.goes_on in
    let last = c.in_ok-add_round.ensures.goes_on in
    let same : length d ≡ length a = omega arith in
    let brought = brought_on ps c.args.from.now a d c.loop-reached.invariant (goes_then ps a b d first last) in
    let never : IsSubset c.args.expected.now a → ⊥ = iff_false c.has_all.ensures c.loop-reached-test.true in (
      (λ e. absurd (false≢true e)),
      (λ reached.
          absurd (⊎_elim
          (λ there. never (λ k h. no_more a d (λ j m e. last.kept j m (first.kept j m e)) same k (there k h)))
          (λ under. unreached counted.action_pass.now.pairs counted.also_open counted.known.now counted.action_pass.now.index c.requires.indexed a b d first.kept last.kept same c.in_ok-add_pairs.ensures.tended under c.args.from.now c.args.expected.now brought never reached)
          c.in_ok-add_round.ensures.tended)),
    )

pub returns : goal.returns
returns c =
    let there = c.has_all.ensures.0 c.loop-reached-test.false in
    ((λ _. there_reached (counting_in c.args.counted.now) c.args.from.now c.loop-reached.reached.keys c.args.expected.now c.loop-reached.invariant there), (λ _. refl))
