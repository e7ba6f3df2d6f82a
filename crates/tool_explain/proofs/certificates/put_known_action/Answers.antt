use Rattle.std.proofs.Common.{◌∙◌, Bor}
use Rattle.std.proofs.lemmas.Result.{on_ok_weaker}
use Rattle.kat_model.specs.Stores.{modulus}
use Rattle.text_print.specs.Printing.{name_of}
use Rattle.abstraction.specs.Abstracts.{AbstractParts}
use Rattle.abstraction.specs.declared.rows.ActionRow.{ActionRow}
use Rattle.tool_explain.specs.Signed.{action_at_text}
use Rattle.tool_explain.proofs.KnownRows.{known_row}
use Rattle.tool_explain.proofs.certificates.put_known_action.Goals as goal

pub returns : goal.returns
returns c =
    on_ok_weaker c.put_action_at.result
    (λ e. e ∙ known_row (λ (r : Bor ActionRow). r.now) (λ (a : AbstractParts). a.actions) (λ w. action_at_text (modulus w) (name_of c.args.scope.now)) c.args.out.now.items c.deref.result.now c.args.action c.get.result c.shown.view_is c.deref.ensures.value c.get.ensures.lookup)
    c.put_action_at.ensures
