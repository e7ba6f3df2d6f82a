use Rattle.std.proofs.Common.{false, refl}
use Rattle.kat_report.specs.Replays.{literal_text, literals_text}
use Rattle.kat_report.proofs.WrittenLists.{member_written, members_written, literals-cons}
use Rattle.kat_report.proofs.replay.put_literals.Goals as goal

pub loop-test-preserved : goal.loop-test-preserved
loop-test-preserved c =
    member_written literal_text literals_text literals-cons c.args.atom.now c.loop-test.test _ false _ c.loop-test.out.items c.put_literal.new.out.items
    c.loop-test-test.true refl c.in_ok-put_literal.ensures c.loop-test.invariant

pub returns : goal.returns
returns c = members_written literal_text literals_text (λ n. refl) c.args.atom.now c.loop-test.test _ c.loop-test.out.items c.loop-test-test.false c.loop-test.invariant
