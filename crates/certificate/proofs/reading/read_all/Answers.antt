use Rattle.std.proofs.Common.{◌≡◌, sym, ap, ◌∙◌, true, false}
use Rattle.std.specs.Str.{bytes_eq}
use Rattle.line_format.specs.Lines.{parts_of}
use Rattle.line_format.proofs.LineSteps.{first_cut, answers_same}
use Rattle.certificate.specs.declared.nodes.Style.TheVariants.{Plain, UpTo, Under}
use Rattle.certificate.specs.Texts.{heading, string_heading}
use Rattle.certificate.specs.Faults.{fault_names, cert_from, after_heading}
use Rattle.certificate.specs.Working.Readings.{unless_memory}
use Rattle.certificate.proofs.Exactness.{is_plain, is_up_to, is_under, is_string, no_heading}
use Rattle.certificate.proofs.reading.read_all.Goals as goal

pub returns-then-is_text : goal.returns-then-is_text
returns-then-is_text c =
    let line = c.in-Some.line.now in
    let rest = parts_of c.in-Some.rest.now in
    let plain : bytes_eq line (heading Plain) ≡ true = sym c.is_text.ensures ∙ c.if-is_text.true in
    answers_same unless_memory _ _ _
    (first_cut fault_names after_heading c.args.bytes.now line c.in-Some.rest.now c.in-Some.ensures.line.parts ∙ is_plain line rest plain ∙ ap (λ d. cert_from d 2 rest) (sym c.new.ensures.entries))
    c.read_lines.ensures

pub returns-then-is_text-2 : goal.returns-then-is_text-2
returns-then-is_text-2 c =
    let line = c.in-Some.line.now in
    let rest = parts_of c.in-Some.rest.now in
    let plain : bytes_eq line (heading Plain) ≡ false = sym c.is_text.ensures ∙ c.if-is_text.false in
    let up_to : bytes_eq line (heading UpTo) ≡ true = sym c.is_text-2.ensures ∙ c.if-is_text-2.true in
    answers_same unless_memory _ _ _
    (first_cut fault_names after_heading c.args.bytes.now line c.in-Some.rest.now c.in-Some.ensures.line.parts ∙ is_up_to line rest plain up_to ∙ ap (λ d. cert_from d 2 rest) (sym c.new-then-is_text-2.ensures.entries))
    c.read_lines-then-is_text-2.ensures

pub returns-then-is_text-3 : goal.returns-then-is_text-3
returns-then-is_text-3 c =
    let line = c.in-Some.line.now in
    let rest = parts_of c.in-Some.rest.now in
    let plain : bytes_eq line (heading Plain) ≡ false = sym c.is_text.ensures ∙ c.if-is_text.false in
    let up_to : bytes_eq line (heading UpTo) ≡ false = sym c.is_text-2.ensures ∙ c.if-is_text-2.false in
    let under : bytes_eq line (heading Under) ≡ true = sym c.is_text-3.ensures ∙ c.if-is_text-3.true in
    answers_same unless_memory _ _ _
    (first_cut fault_names after_heading c.args.bytes.now line c.in-Some.rest.now c.in-Some.ensures.line.parts ∙ is_under line rest plain up_to under ∙ ap (λ d. cert_from d 2 rest) (sym c.new-then-is_text-3.ensures.entries))
    c.read_lines-then-is_text-3.ensures

pub returns-then-is_text-4 : goal.returns-then-is_text-4
returns-then-is_text-4 c =
    let line = c.in-Some.line.now in
    let rest = parts_of c.in-Some.rest.now in
    let plain : bytes_eq line (heading Plain) ≡ false = sym c.is_text.ensures ∙ c.if-is_text.false in
    let up_to : bytes_eq line (heading UpTo) ≡ false = sym c.is_text-2.ensures ∙ c.if-is_text-2.false in
    let under : bytes_eq line (heading Under) ≡ false = sym c.is_text-3.ensures ∙ c.if-is_text-3.false in
    let string : bytes_eq line string_heading ≡ true = sym c.is_text-4.ensures ∙ c.if-is_text-4.true in
    answers_same unless_memory _ _ _ (first_cut fault_names after_heading c.args.bytes.now line c.in-Some.rest.now c.in-Some.ensures.line.parts ∙ is_string line rest plain up_to under string) c.read_string.ensures

pub returns : goal.returns
returns c =
    let line = c.in-Some.line.now in
    let rest = parts_of c.in-Some.rest.now in
    let plain : bytes_eq line (heading Plain) ≡ false = sym c.is_text.ensures ∙ c.if-is_text.false in
    let up_to : bytes_eq line (heading UpTo) ≡ false = sym c.is_text-2.ensures ∙ c.if-is_text-2.false in
    let under : bytes_eq line (heading Under) ≡ false = sym c.is_text-3.ensures ∙ c.if-is_text-3.false in
    let string : bytes_eq line string_heading ≡ false = sym c.is_text-4.ensures ∙ c.if-is_text-4.false in
    first_cut fault_names after_heading c.args.bytes.now line c.in-Some.rest.now c.in-Some.ensures.line.parts ∙ no_heading line rest plain up_to under string
