use Rattle.std.proofs.Common.{◌≡◌, ◌+◌, ◌<◌, ℕ, ◌==◌, length, sym, ap, ◌∙◌, true, false, codes, arith, Ok, Err}
use Rattle.std.specs.Str.{bytes_eq}
use Rattle.std.proofs.lemmas.Bool.Decides.{nat_tests}
use Rattle.std.proofs.lemmas.List.{nil_from_length}
use Rattle.line_format.specs.Lines.{parts_of}
use Rattle.line_format.specs.NumberedLines.{lines_from}
use Rattle.line_format.proofs.LineSteps.{scan_none, scan_last, scan_trailing, scan_more, scan_fault}
use Rattle.line_format.proofs.numbered.read_lines.Goals as goal

some_from : (n : ℕ) → false ≡ (n == 0) → 0 < n
some_from n e = grind (arith, nat_tests)

none_from : (n : ℕ) → true ≡ (n == 0) → n ≡ 0
none_from n e = grind (arith, nat_tests)

pub returns-in_default : goal.returns-in_default
returns-in_default g c =
    g.met.T.LineDraft.is_given c.truncated.result _
    (sym c.loop-line.invariant.same ∙ scan_none g.T.LineDraft.format (g.T.LineDraft.parts c.loop-line.draft) c.loop-line.number c.loop-line.rest.now c.in_default.ensures.none ∙ ap (λ f. Err f) (sym c.truncated.ensures))

pub returns-then-is_empty : goal.returns-then-is_empty
returns-then-is_empty g c =
    let is_end : bytes_eq c.in-Some.line.now (codes "end") ≡ true = ap (bytes_eq c.in-Some.line.now) (sym c.as_slice.ensures) ∙ sym c.eq.ensures ∙ c.if-eq.true in
    let none = nil_from_length c.in-Some.after.now (none_from (length c.in-Some.after.now) c.if-is_empty.ensures) in
    sym c.loop-line.invariant.same
    ∙ scan_last g.T.LineDraft.format (g.T.LineDraft.parts c.loop-line.draft) c.loop-line.number c.loop-line.rest.now c.in-Some.line.now c.in-Some.after.now c.in-Some.ensures.line.parts is_end none
    ∙ ap (λ v. Ok v) (sym c.finish-value.ensures)

pub returns-then-eq : goal.returns-then-eq
returns-then-eq g c =
    let is_end : bytes_eq c.in-Some.line.now (codes "end") ≡ true = ap (bytes_eq c.in-Some.line.now) (sym c.as_slice.ensures) ∙ sym c.eq.ensures ∙ c.if-eq.true in
    let some = some_from (length c.in-Some.after.now) c.if-is_empty.ensures in
    g.met.T.LineDraft.is_given c.trailing.result _
    (sym c.loop-line.invariant.same
    ∙ scan_trailing g.T.LineDraft.format (g.T.LineDraft.parts c.loop-line.draft) c.loop-line.number c.loop-line.rest.now c.in-Some.line.now c.in-Some.after.now c.in-Some.ensures.line.parts is_end some
    ∙ ap (λ k. Err k) (sym c.trailing.ensures))

pub returns-in-Err : goal.returns-in-Err
returns-in-Err g c =
    let not_end : bytes_eq c.in-Some.line.now (codes "end") ≡ false = ap (bytes_eq c.in-Some.line.now) (sym c.as_slice.ensures) ∙ sym c.eq.ensures ∙ c.if-eq.false in
    g.met.T.LineDraft.is_passed_on c.in-Err.fault _ _ c.in-Err.ensures
    (λ e. sym c.loop-line.invariant.same ∙ scan_fault g.T.LineDraft.format (g.T.LineDraft.parts c.loop-line.draft) c.loop-line.number c.loop-line.rest.now c.in-Some.line.now c.in-Some.after.now c.in-Some.ensures.line.parts not_end c.in-Err.fault e)

pub loop-line-preserved : goal.loop-line-preserved
loop-line-preserved g c =
    let not_end : bytes_eq c.in-Some.line.now (codes "end") ≡ false = ap (bytes_eq c.in-Some.line.now) (sym c.as_slice.ensures) ∙ sym c.eq.ensures ∙ c.if-eq.false in
    let adds = c.in-Ok.ensures in
    let step = scan_more g.T.LineDraft.format (g.T.LineDraft.parts c.loop-line.draft) c.loop-line.number c.loop-line.rest.now c.in-Some.line.now c.in-Some.after.now c.in-Some.ensures.line.parts not_end adds.1.0 adds.1.1 adds.1.2 in
    record {
      same = ap (λ e. lines_from g.T.LineDraft.format e (c.loop-line.number + 1) (parts_of c.in-Some.after.now)) adds.1.3 ∙ sym step ∙ c.loop-line.invariant.same;
      draft = adds.0;
      few = omega (arith, c.in-Some.ensures.line.length, c.loop-line.invariant.few);
    }
