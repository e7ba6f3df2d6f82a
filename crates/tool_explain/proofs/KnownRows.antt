use Rattle.std.proofs.Common.{◌≡◌, ℕ, List, ◌++◌, Option, sym, ap, ◌∙◌, slice_get}
use Rattle.std.specs.Option.{option_map}
use Rattle.std.specs.List.{ItemBy}
use Rattle.kat_model.specs.declared.expression.Width.{Width}
use Rattle.abstraction.specs.Abstracts.{AbstractParts}
use Rattle.tool_explain.proofs.StringMoves.{item_read}

-- the text of a row that is borrowed from an abstraction is the text of the row at that place
pub known_row : {R B : Type 0} (now : B → R) (rows : AbstractParts → List R) (text : Width → Option R → List ℕ) (out : List ℕ) (read : List R) (i : ℕ) (found : Option B) {a shown : AbstractParts} → a ≡ shown → read ≡ rows a → ItemBy now read i i found → (out ++ text a.width (option_map now found)) ≡ (out ++ text shown.width (slice_get (rows shown) i))
known_row now rows text out read i found {shown = shown} is same item =
    ap (λ (a : AbstractParts). out ++ text a.width (option_map now found)) is
    ∙ ap (λ o. out ++ text shown.width o) (sym (item_read now read i found item) ∙ ap (λ l. slice_get l i) (same ∙ ap rows is))
