use Rattle.std.proofs.Common.{sym, ap, ◌∙◌, Some, refl}
use Rattle.certificate.specs.Working.Readings.{single_of}
use Rattle.certificate.proofs.PairForms.{tested_formless, wide_test_of, wide_sets, tested_narrow}
use Rattle.certificate.proofs.entry.tested_pair.Goals as goal

pub returns-in_default : goal.returns-in_default
returns-in_default c ks ls ts left right test =
    tested_formless ks ls c.args.left c.args.right left right ts c.args.test.now test (ap single_of (sym c.as_slice.ensures.value) ∙ sym c.in_default.ensures)

pub returns-then-test : goal.returns-then-test
returns-then-test c ks ls ts left right test =
    let one = ap single_of (sym c.as_slice.ensures.value) ∙ sym c.in-Some.ensures in
    wide_test_of ks ls c.args.left c.args.right left right ts c.args.test.now test c.in-Some.number one c.if-test.true

pub returns-then-are_wide : goal.returns-then-are_wide
returns-then-are_wide c ks ls ts left right test =
    let one = ap single_of (sym c.as_slice.ensures.value) ∙ sym c.in-Some.ensures in
    wide_sets ks ls c.args.left c.args.right left right ts c.args.test.now test c.in-Some.number one (sym c.are_wide.ensures ∙ c.if-are_wide.true)

pub returns : goal.returns
returns c ks ls ts left right test =
    let one = ap single_of (sym c.as_slice.ensures.value) ∙ sym c.in-Some.ensures in
    tested_narrow ks ls c.args.left c.args.right left right ts c.args.test.now test c.in-Some.number one (sym c.are_wide.ensures ∙ c.if-are_wide.false) c.if-test.false
    (record { left = c.of.result; right = c.of-2.result; test = Some c.in-Some.number }) c.of.ensures c.of-2.ensures refl
