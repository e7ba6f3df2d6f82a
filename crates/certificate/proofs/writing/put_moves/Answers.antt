use Rattle.std.proofs.Common.{◌≡◌, ◌++◌, ap, ◌∙◌, subst}
use Rattle.std.proofs.lemmas.List.{take_all}
use Rattle.kat_model.specs.Strings.{Move}
use Rattle.line_format.specs.Lines.{line_of, with_feed}
use Rattle.certificate.specs.Texts.{move_words}
use Rattle.certificate.specs.Working.Writings.{move_lines}
use Rattle.certificate.proofs.Lines.{more_moves}
use Rattle.certificate.proofs.writing.put_moves.Goals as goal

pub loop-step-preserved : goal.loop-step-preserved
loop-step-preserved c =
    more_moves c.args.out.now.items c.loop-step.out.items c.put_move.new.out.items c.args.moves.now c.loop-step.step-index c.step-item.result c.loop-step-test.true c.loop-step.invariant
    (subst (λ (m : Move). c.put_move.new.out.items ≡ c.loop-step.out.items ++ with_feed (line_of (move_words m))) c.step-item.is c.in_ok-put_move.ensures)

pub returns : goal.returns
returns c = c.loop-step.invariant ∙ ap (λ l. c.args.out.now.items ++ move_lines l) (take_all c.loop-step.step-index c.args.moves.now c.loop-step-test.false)
