use Rattle.std.proofs.Common.{◌≡◌}
use Rattle.while_lang.specs.Concrete.{Agrees}
use Rattle.abstraction.specs.Readings.{GoalHoldsBy}
use Rattle.tool_inputs.specs.StoreAnswers.{AlwaysEndAlike, AlwaysMeets}
use Rattle.tool_check.specs.Check.{CheckHeadline, CheckReply}
use Rattle.kat_c.proofs.Replies.{given_reply}
use Rattle.kat_c.proofs.checking.kat_check.Goals as goal

pub returns-clause-headline : goal.returns-clause-headline
returns-clause-headline c q poses = given_reply (CheckHeadline c.args.evidence.now q) c.check_bytes.result _ (c.check_bytes.ensures.headline q poses) c.give.ensures

pub returns-clause-programs : goal.returns-clause-programs
returns-clause-programs c w v p q printable same = given_reply (λ status output. status ≡ 0 → AlwaysEndAlike w v p q) c.check_bytes.result _ (c.check_bytes.ensures.programs w v p q printable same) c.give.ensures

pub returns-clause-triples : goal.returns-clause-triples
returns-clause-triples c w v b p d printable same = given_reply (λ status output. status ≡ 0 → AlwaysMeets w v b p d) c.check_bytes.result _ (c.check_bytes.ensures.triples w v b p d printable same) c.give.ensures

pub returns-clause-stores : goal.returns-clause-stores
returns-clause-stores c f reads concrete = given_reply (λ status output. status ≡ 0 → Agrees f) c.check_bytes.result _ (c.check_bytes.ensures.stores f reads concrete) c.give.ensures

pub returns-clause-readings : goal.returns-clause-readings
returns-clause-readings c f a reading reads is stated =
    given_reply (λ status output. status ≡ 0 → GoalHoldsBy f a reading f.goal) c.check_bytes.result _ (c.check_bytes.ensures.readings f a reading reads is stated) c.give.ensures

pub returns-clause-reply : goal.returns-clause-reply
returns-clause-reply c = given_reply (CheckReply c.args.text.now c.args.evidence.now) c.check_bytes.result _ c.check_bytes.ensures.reply c.give.ensures
