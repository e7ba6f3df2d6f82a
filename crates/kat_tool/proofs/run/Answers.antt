use Rattle.std.proofs.Common.{refl, subst}
use Rattle.std.specs.Io.KnownBytes.{Appends}
use Rattle.kat_io.specs.Outside.{AppendsPrefix}
use Rattle.kat_tool.proofs.Calls.{run_sent, run_unsent}
use Rattle.kat_tool.proofs.run.Goals as goal

pub returns-in-Ok-send-clause-is_run : goal.returns-in-Ok-send-clause-is_run
returns-in-Ok-send-clause-is_run g c =
    run_sent _ _ c.in-Ok.ensures.replies (subst (λ o. Appends (g.K.Sink.taken c.args.sink.now) (g.K.Sink.taken c.send.new.sink) o) c.deref.ensures.value c.in-Ok-send.ensures.sent) c.in-Ok-send.ensures.cause.represents

pub returns-in-Ok-clause-is_run : goal.returns-in-Ok-clause-is_run
returns-in-Ok-clause-is_run g c =
    run_unsent _ _ _ refl c.in-Err-send.ensures.cause.failed c.in-Ok.ensures.replies
    (subst (λ o. AppendsPrefix (g.K.Sink.taken c.args.sink.now) (g.K.Sink.taken c.send.new.sink) o) c.deref.ensures.value c.in-Err-send.ensures.front)
