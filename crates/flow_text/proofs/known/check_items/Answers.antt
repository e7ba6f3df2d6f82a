use Rattle.std.proofs.Common.{Err, sym, ap, ◌∙◌}
use Rattle.std.proofs.lemmas.Result.{err_from_is_err_and}
use Rattle.text_parser.specs.declared.fault.TextFault.{TextFault}
use Rattle.flow_text.specs.Checking.{Known, nothing_known, item_known, items_known}
use Rattle.flow_text.specs.KnownViews.{known_parts}
use Rattle.flow_syntax.specs.SyntaxViews.{item_syntax, items_syntax}
use Rattle.flow_text.proofs.ProgramResults.{fault_given}
use Rattle.flow_text.proofs.KnownSteps.{item_made, item_refused}
use Rattle.flow_text.proofs.known.check_items.Goals as goal

pub items-preserved : goal.items-preserved
items-preserved c =
    let k = known_parts c.items.known in
    sym (item_made k (known_parts c.add.new.self) c.pop.new.self.items c.in-Some.item c.in_ok-add.ensures)
    ∙ sym (ap (λ is. items_known k (items_syntax is)) c.in-Some.ensures.items) ∙ c.items.invariant

pub returns-in_err-add : goal.returns-in_err-add
returns-in_err-add c =
    let k = known_parts c.items.known in
    let fault = c.in_err-add.field-0.0 in
    let whole = items_known nothing_known (items_syntax c.args.items.items) in
    let answer = err_from_is_err_and c.from_residual.result c.from_residual.ensures.1 in
    fault_given Known (Unit {0}) known_parts (known_parts c.add.new.self) c.from_residual.result fault (item_known k (item_syntax c.in-Some.item)) whole (answer.1 ∙ ap (λ (f : TextFault). Err f) answer.2) c.in_err-add.ensures
    (λ fails. sym c.items.invariant ∙ ap (λ is. items_known k (items_syntax is)) c.in-Some.ensures.items ∙ item_refused k c.pop.new.self.items c.in-Some.item fault fails)
