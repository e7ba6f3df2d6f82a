use Rattle.std.proofs.Common.{◌≤◌, ℕ, List, length, sym, subst, ◌∙◌}
use Rattle.std.proofs.lemmas.Bool.{false≢true}
use Rattle.kat_model.specs.declared.limits.TheConstants.{MAX_TEXT_BYTES}
use Rattle.flow_text.specs.FileViews.{file_parts}
use Rattle.flow_abstraction.specs.Abstracts.{flow_problem_of}
use Rattle.tool_flow.proofs.Printability.{is_printable, printed_shallow}
use Rattle.tool_flow.proofs.flow.is_printable.Goals as goal

pub returns-then-text-le-MAX_TEXT_BYTES-clause-yes : goal.returns-then-text-le-MAX_TEXT_BYTES-clause-yes
returns-then-text-le-MAX_TEXT_BYTES-clause-yes c = λ shallow.
    is_printable (file_parts c.args.file.now) (flow_problem_of c.args.found.now) c.requires.found.problem c.left.ensures.within
    (subst (λ (l : List ℕ). length l ≤ MAX_TEXT_BYTES) c.requires.printed c.if-text-le-MAX_TEXT_BYTES.true) (sym c.are_shallow.ensures ∙ shallow) c.requires.lines

pub returns-then-text-le-MAX_TEXT_BYTES-clause-no : goal.returns-then-text-le-MAX_TEXT_BYTES-clause-no
returns-then-text-le-MAX_TEXT_BYTES-clause-no c = λ deep printable.
    false≢true (sym deep ∙ c.are_shallow.ensures ∙ printed_shallow (file_parts c.args.file.now) (flow_problem_of c.args.found.now) printable)
