use Rattle.std.proofs.Common.{ℕ, List, inl, inr, sym, ap, ◌∙◌, arith}
use Rattle.std.specs.Option.{option_copied}
use Rattle.cert_checker.specs.Working.Rounds.{counting_in}
use Rattle.cert_checker.proofs.Saturating.{goes_then, round_more, round_all}
use Rattle.cert_checker.proofs.saturation.add_round.Goals as goal

pub loop-place-preserved : goal.loop-place-preserved
loop-place-preserved c =
    let counted = c.args.counted.now in
    let old : List ℕ = c.args.reached.now.keys in
    let mid : List ℕ = c.loop-place.reached.keys in
    let new : List ℕ = c.add_pairs.new.reached.keys in
    let goes = c.in_ok-add_pairs.ensures.goes_on in
    record {
      goes = goes_then (counting_in counted) old mid new c.loop-place.invariant.goes goes;
      tended = round_more counted.action_pass.now.pairs counted.also_open counted.known.now counted.action_pass.now.index old mid new c.loop-place.place _ (sym c.get_index.ensures.key ∙ ap option_copied c.unwrap-term.ensures) c.loop-place.invariant.goes.kept goes.kept c.in_ok-add_pairs.ensures.tended
          c.loop-place.invariant.tended;
    }

pub returns-clause-tended : goal.returns-clause-tended
returns-clause-tended c =
    let counted = c.args.counted.now in
    inr (round_all counted.action_pass.now.pairs counted.also_open counted.known.now counted.action_pass.now.index c.args.reached.now.keys c.loop-place.reached.keys c.loop-place.place (omega arith) c.loop-place.invariant.tended)

pub returns-then-has_all-clause-goes_on : goal.returns-then-has_all-clause-goes_on
returns-then-has_all-clause-goes_on c = c.loop-place.invariant.goes

pub returns-then-has_all-clause-tended : goal.returns-then-has_all-clause-tended
returns-then-has_all-clause-tended c = inl (c.has_all.ensures.0 c.if-has_all.true)

pub returns-clause-goes_on : goal.returns-clause-goes_on
returns-clause-goes_on c = c.loop-place.invariant.goes
