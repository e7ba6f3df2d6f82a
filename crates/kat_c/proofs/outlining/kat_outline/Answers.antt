use Rattle.std.proofs.Common.{◌≡◌}
use Rattle.while_lang.specs.Concrete.{Agrees}
use Rattle.abstraction.specs.Readings.{GoalHoldsBy}
use Rattle.tool_decide.specs.Outline.{OutlineHeadline, OutlineReply}
use Rattle.kat_c.proofs.Replies.{given_reply}
use Rattle.kat_c.proofs.outlining.kat_outline.Goals as goal

pub returns-clause-headline : goal.returns-clause-headline
returns-clause-headline c q poses = given_reply (OutlineHeadline poses.file q) c.outline_bytes.result _ (c.outline_bytes.ensures.headline q poses) c.give.ensures

pub returns-clause-stores : goal.returns-clause-stores
returns-clause-stores c f reads concrete = given_reply (λ status output. status ≡ 0 → Agrees f) c.outline_bytes.result _ (c.outline_bytes.ensures.stores f reads concrete) c.give.ensures

pub returns-clause-readings : goal.returns-clause-readings
returns-clause-readings c f a reading reads is stated =
    given_reply (λ status output. status ≡ 0 → GoalHoldsBy f a reading f.goal) c.outline_bytes.result _ (c.outline_bytes.ensures.readings f a reading reads is stated) c.give.ensures

pub returns-clause-reply : goal.returns-clause-reply
returns-clause-reply c = given_reply (OutlineReply c.args.text.now) c.outline_bytes.result _ c.outline_bytes.ensures.reply c.give.ensures
