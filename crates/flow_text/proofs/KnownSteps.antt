-- Parameters and items checked, one more.
use Rattle.std.proofs.Common.{◌≡◌, ℕ, List, [], ◌∷◌, ◌++◌, length, Result, Ok, Err, sym, ap, ◌∙◌}
use Rattle.text_parser.specs.declared.fault.TextFault.{TextFault}
use Rattle.text_parser.specs.declared.token.Token.{Token}
use Rattle.text_parser.specs.TokenParts.{parts_of_token}
use Rattle.text_parser.specs.Parsed.{◌>>=◌}
use Rattle.flow_model.specs.declared.sort.Sort.{Sort}
use Rattle.flow_syntax.specs.declared.written.Item.{Item}
use Rattle.flow_text.specs.Scopes.{ScopeParts, next_parameter, parameters_after}
use Rattle.flow_syntax.specs.SyntaxViews.{tokens_syntax, item_syntax, items_syntax}
use Rattle.flow_text.specs.Checking.{Known, item_known, items_known}
use Rattle.flow_syntax.proofs.Stacked.{tokens_push, items_push}

parameter_first : (s : ScopeParts) (made : List Sort) (before : List Token) (t : Token) → parameters_after s made (tokens_syntax (before ++ t ∷ [])) ≡ (next_parameter s (parts_of_token t) (length made) >>= λ x. parameters_after s (made ++ x ∷ []) (tokens_syntax before))
parameter_first s made before t = ap (parameters_after s made) (tokens_push before t)

pub parameter_made : (s : ScopeParts) (made : List Sort) (k : ℕ) (before : List Token) (t : Token) (x : Sort) → length made ≡ k → Ok x ≡ next_parameter s (parts_of_token t) k → parameters_after s made (tokens_syntax (before ++ t ∷ [])) ≡ parameters_after s (made ++ x ∷ []) (tokens_syntax before)
parameter_made s made k before t x count e =
    parameter_first s made before t ∙ ap (λ n. next_parameter s (parts_of_token t) n >>= λ y. parameters_after s (made ++ y ∷ []) (tokens_syntax before)) count
    ∙ ap (λ (m : Result Sort TextFault). m >>= λ y. parameters_after s (made ++ y ∷ []) (tokens_syntax before)) (sym e)

pub parameter_refused : (s : ScopeParts) (made : List Sort) (k : ℕ) (before : List Token) (t : Token) (fault : TextFault) → length made ≡ k → Err fault ≡ next_parameter s (parts_of_token t) k → parameters_after s made (tokens_syntax (before ++ t ∷ [])) ≡ Err fault
parameter_refused s made k before t fault count e =
    parameter_first s made before t ∙ ap (λ n. next_parameter s (parts_of_token t) n >>= λ y. parameters_after s (made ++ y ∷ []) (tokens_syntax before)) count
    ∙ ap (λ (m : Result Sort TextFault). m >>= λ y. parameters_after s (made ++ y ∷ []) (tokens_syntax before)) (sym e)

pub ruleset parameters = (parameter_made, parameter_refused)

item_first : (k : Known) (before : List Item) (x : Item) → items_known k (items_syntax (before ++ x ∷ [])) ≡ (item_known k (item_syntax x) >>= λ l. items_known l (items_syntax before))
item_first k before x = ap (items_known k) (items_push before x)

pub item_made : (k l : Known) (before : List Item) (x : Item) → item_known k (item_syntax x) ≡ Ok l → items_known k (items_syntax (before ++ x ∷ [])) ≡ items_known l (items_syntax before)
item_made k l before x e = item_first k before x ∙ ap (λ (m : Result Known TextFault). m >>= λ y. items_known y (items_syntax before)) e

pub item_refused : (k : Known) (before : List Item) (x : Item) (fault : TextFault) → item_known k (item_syntax x) ≡ Err fault → items_known k (items_syntax (before ++ x ∷ [])) ≡ Err fault
item_refused k before x fault e = item_first k before x ∙ ap (λ (m : Result Known TextFault). m >>= λ y. items_known y (items_syntax before)) e

pub ruleset known = (item_made, item_refused)
