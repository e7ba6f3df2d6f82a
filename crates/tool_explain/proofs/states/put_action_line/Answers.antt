use Rattle.std.proofs.Common.{List, ℕ, ◌++◌, codes, Option, sym, ap, ◌∙◌, Bor, slice_get}
use Rattle.std.specs.Option.{option_map}
use Rattle.std.proofs.lemmas.Result.{on_ok_weaker}
use Rattle.kat_model.specs.Stores.{modulus}
use Rattle.text_print.specs.Printing.{name_of}
use Rattle.abstraction.specs.Abstracts.{AbstractParts}
use Rattle.abstraction.specs.declared.rows.ActionRow.{ActionRow}
use Rattle.certificate.proofs.Lines.{then_written}
use Rattle.tool_explain.specs.Signed.{action_at_text}
use Rattle.tool_explain.proofs.StringMoves.{item_read}
use Rattle.tool_explain.proofs.states.put_action_line.Goals as goal

pub returns : goal.returns
returns c =
    let out : List ℕ = c.args.out.now.items in
    let first : List ℕ = c.put.new.out.items in
    let second : List ℕ = c.put_action_at.new.out.items in
    let shown : AbstractParts = c.args.shown.now in
    let names = name_of c.args.scope.now in
    let read = item_read (λ (r : Bor ActionRow). r.now) c.deref.result.now c.args.action c.get.result c.get.ensures.lookup in
    let same = c.deref.ensures.value ∙ ap (λ (a : AbstractParts). a.actions) c.shown.view_is in
    let row = sym read ∙ ap (λ (rows : List ActionRow). slice_get rows c.args.action) same in
    let action : List ℕ = action_at_text (modulus shown.width) names (slice_get shown.actions c.args.action) in
    let written = c.in_ok-put_action_at.ensures
    ∙ ap (λ (a : AbstractParts). first ++ action_at_text (modulus a.width) names (option_map (λ (r : Bor ActionRow). r.now) c.get.result)) c.shown.view_is
    ∙ ap (λ (o : Option ActionRow). first ++ action_at_text (modulus shown.width) names o) row in
    on_ok_weaker c.put-2.result
    (then_written out second c.put-2.new.out.items (codes "  " ++ action) (codes "\n") (then_written out first second (codes "  ") action c.in_ok-put.ensures written))
    c.put-2.ensures
