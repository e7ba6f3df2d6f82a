use Rattle.std.proofs.Common.{arith}
use Rattle.flow_matches.proofs.PartnerTables.{first_more, second_more}
use Rattle.flow_matches.proofs.text.pair_up.Goals.{else-first-len-via-then-first-len+else-second-len, else-first-len-via-else-first-len}
use Rattle.flow_matches.proofs.text.pair_up.Goals as goal

pub returns-then-second-len-clause-met : goal.returns-then-second-len-clause-met
returns-then-second-len-clause-met c = λ first second met has new. record {
  before = first_more met c.args.first c.args.second new c.args.walk.now.before.items (let long = c.args.walk.now.before.ok.0 in omega (arith, first, long)) has.before;
  after = second_more met c.args.first c.args.second new c.args.walk.now.after.items (let long = c.args.walk.now.after.ok.0 in omega (arith, second, long)) has.after;
}

pub returns-else-first-len-clause-met : goal.returns-else-first-len-clause-met
returns-else-first-len-clause-met c = λ first second met has new.
    absurd
    (elim c.else-first-len.branch [
      | else-first-len-via-then-first-len+else-second-len w ↦ omega (arith, second)
      | else-first-len-via-else-first-len w ↦ omega (arith, first)
    ])
