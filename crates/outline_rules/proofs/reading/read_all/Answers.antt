use Rattle.std.proofs.Common.{◌≡◌, sym, ap, ◌∙◌, true, false}
use Rattle.std.specs.Str.{bytes_eq}
use Rattle.line_format.specs.Lines.{parts_of}
use Rattle.line_format.proofs.LineSteps.{first_cut, answers_same}
use Rattle.outline_rules.specs.Texts.{heading}
use Rattle.outline_rules.specs.Faults.{fault_names, notes_from, after_heading}
use Rattle.outline_rules.specs.Working.Readings.{unless_memory}
use Rattle.outline_rules.proofs.Exactness.{is_heading, no_heading}
use Rattle.outline_rules.proofs.reading.read_all.Goals as goal

pub returns-then-eq : goal.returns-then-eq
returns-then-eq c =
    let line = c.in-Some.line.now in
    let rest = parts_of c.in-Some.rest.now in
    let headed : bytes_eq line heading ≡ true = ap (bytes_eq line) (sym c.as_slice.ensures) ∙ sym c.eq.ensures ∙ c.if-eq.true in
    answers_same unless_memory _ _ _
    (first_cut fault_names after_heading c.args.bytes.now line c.in-Some.rest.now c.in-Some.ensures.line.parts ∙ is_heading line rest headed ∙ ap (λ ns. notes_from ns 2 rest) (sym c.new.ensures.lines))
    c.read_lines.ensures

pub returns : goal.returns
returns c =
    let line = c.in-Some.line.now in
    let other : bytes_eq line heading ≡ false = ap (bytes_eq line) (sym c.as_slice.ensures) ∙ sym c.eq.ensures ∙ c.if-eq.false in
    first_cut fault_names after_heading c.args.bytes.now line c.in-Some.rest.now c.in-Some.ensures.line.parts ∙ no_heading line (parts_of c.in-Some.rest.now) other
