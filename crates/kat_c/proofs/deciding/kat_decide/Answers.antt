use Rattle.std.proofs.Common.{◌≡◌}
use Rattle.while_lang.specs.Concrete.{Agrees}
use Rattle.abstraction.specs.Readings.{GoalHoldsBy}
use Rattle.tool_inputs.specs.StoreAnswers.{AlwaysEndAlike, AlwaysMeets, programs_abstraction, triple_abstraction}
use Rattle.tool_decide.specs.Decide.{Headline, StoreHeadline, DecideReply}
use Rattle.kat_c.proofs.Replies.{given_reply}
use Rattle.kat_c.proofs.deciding.kat_decide.Goals as goal

pub returns-clause-plain : goal.returns-clause-plain
returns-clause-plain c q printable same = given_reply (Headline q) c.decide_bytes.result _ (c.decide_bytes.ensures.plain q printable same) c.give.ensures

pub returns-clause-programs : goal.returns-clause-programs
returns-clause-programs c w v p q printable same = given_reply (StoreHeadline (programs_abstraction w v p q) (AlwaysEndAlike w v p q)) c.decide_bytes.result _ (c.decide_bytes.ensures.programs w v p q printable same) c.give.ensures

pub returns-clause-triples : goal.returns-clause-triples
returns-clause-triples c w v b p d printable same = given_reply (StoreHeadline (triple_abstraction w v b p d) (AlwaysMeets w v b p d)) c.decide_bytes.result _ (c.decide_bytes.ensures.triples w v b p d printable same) c.give.ensures

pub returns-clause-headline : goal.returns-clause-headline
returns-clause-headline c q poses = given_reply (Headline q) c.decide_bytes.result _ (c.decide_bytes.ensures.headline q poses) c.give.ensures

pub returns-clause-stores : goal.returns-clause-stores
returns-clause-stores c f reads concrete = given_reply (λ status output. status ≡ 0 → Agrees f) c.decide_bytes.result _ (c.decide_bytes.ensures.stores f reads concrete) c.give.ensures

pub returns-clause-readings : goal.returns-clause-readings
returns-clause-readings c f a reading reads is stated =
    given_reply (λ status output. status ≡ 0 → GoalHoldsBy f a reading f.goal) c.decide_bytes.result _ (c.decide_bytes.ensures.readings f a reading reads is stated) c.give.ensures

pub returns-clause-reply : goal.returns-clause-reply
returns-clause-reply c = given_reply (DecideReply c.args.text.now) c.decide_bytes.result _ c.decide_bytes.ensures.reply c.give.ensures
