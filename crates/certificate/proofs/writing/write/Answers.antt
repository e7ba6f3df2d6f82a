use Rattle.std.proofs.Common.{◌∙◌, ◌++◌, ap, sym, codes}
use Rattle.line_format.specs.Lines.{with_feed}
use Rattle.certificate.specs.Working.Writings.{body_of}
use Rattle.certificate.proofs.Lines.{text_of-body}
use Rattle.certificate.proofs.writing.write.Goals as goal

pub returns : goal.returns
returns c =
    c.in_ok-put_line.ensures
    ∙ ap (λ l. l ++ with_feed (codes "end")) (c.in_ok-put_body.ensures ∙ ap (λ l. l ++ body_of c.args.evidence.now) c.new-out.ensures.items)
    ∙ sym (text_of-body c.args.evidence.now)
