use Rattle.std.proofs.Common.{◌∙◌, ap, sym}
use Rattle.line_format.specs.Lines.{parts_of}
use Rattle.line_format.proofs.LineSteps.{first_cut}
use Rattle.certificate.specs.Faults.{fault_names, after_first, after_atom}
use Rattle.certificate.proofs.reading.read_string.Goals as goal

pub returns-in-None : goal.returns-in-None
returns-in-None c =
    first_cut fault_names after_first c.args.bytes.now c.in-Some.line.now c.in-Some.rest.now c.in-Some.ensures.line.parts ∙ ap (λ o. after_atom o (parts_of c.in-Some.rest.now)) (sym c.in_ok-first.ensures ∙ c.in-None.is)
