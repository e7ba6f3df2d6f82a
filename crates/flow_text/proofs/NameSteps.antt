-- The names that items declare, with another name or item.
use Rattle.std.proofs.Common.{◌≡◌, ℕ, List, [], ◌∷◌, ◌++◌, map, sym, ap, ◌∙◌, append_assoc, String, string_bytes}
use Rattle.std.specs.declared.alloc.Global.{Global}
use Rattle.std.proofs.lemmas.List.{append-nil}
use Rattle.text_parser.specs.declared.token.Token.{Token}
use Rattle.text_parser.specs.TokenParts.{TokenParts, bytes_of}
use Rattle.flow_syntax.specs.declared.written.Item.{Item}
use Rattle.flow_syntax.specs.Syntax.{ItemSyntax}
use Rattle.flow_syntax.specs.SyntaxViews.{tokens_syntax, item_syntax, items_syntax}
use Rattle.flow_text.specs.DeclaredNames.{variables_in, functions_in, variable_names, function_names}
use Rattle.flow_syntax.proofs.Stacked.{tokens_push, items_push}

-- names so far and those of tokens, of variables and of functions
abbrev pub with_names : List (String Global) → List TokenParts → List (List ℕ)
with_names made ts = map string_bytes made ++ map bytes_of ts

abbrev pub with_variables : List (String Global) → List ItemSyntax → List (List ℕ)
with_variables made xs = map string_bytes made ++ variable_names xs

abbrev pub with_functions : List (String Global) → List ItemSyntax → List (List ℕ)
with_functions made xs = map string_bytes made ++ function_names xs

-- a list with `x` more at its end before `ys`, and with `x` more at the front of `ys`
pub moved_over : {X : Type 0} (now made x ys : List X) → now ≡ made ++ x → made ++ (x ++ ys) ≡ now ++ ys
moved_over now made x ys e = sym (append_assoc made x ys) ∙ ap (λ l. l ++ ys) (sym e)

pub name_step : (made now : List (String Global)) (before : List Token) (t : Token) → map string_bytes now ≡ map string_bytes made ++ t.text.now ∷ [] → with_names made (tokens_syntax (before ++ t ∷ [])) ≡ with_names now (tokens_syntax before)
name_step made now before t e =
    ap (λ ts. map string_bytes made ++ map bytes_of ts) (tokens_push before t)
    ∙ moved_over (map string_bytes now) (map string_bytes made) (t.text.now ∷ []) (map bytes_of (tokens_syntax before)) e

pub variables_step : (made now : List (String Global)) (before : List Item) (x : Item) → map string_bytes now ≡ map string_bytes made ++ variables_in (item_syntax x) → with_variables made (items_syntax (before ++ x ∷ [])) ≡ with_variables now (items_syntax before)
variables_step made now before x e =
    ap (λ is. map string_bytes made ++ variable_names is) (items_push before x)
    ∙ moved_over (map string_bytes now) (map string_bytes made) (variables_in (item_syntax x)) (variable_names (items_syntax before)) e

pub functions_step : (made now : List (String Global)) (before : List Item) (x : Item) → map string_bytes now ≡ map string_bytes made ++ functions_in (item_syntax x) → with_functions made (items_syntax (before ++ x ∷ [])) ≡ with_functions now (items_syntax before)
functions_step made now before x e =
    ap (λ is. map string_bytes made ++ function_names is) (items_push before x)
    ∙ moved_over (map string_bytes now) (map string_bytes made) (functions_in (item_syntax x)) (function_names (items_syntax before)) e

-- nothing more
pub none_more : {X : Type 0} (xs : List X) → xs ≡ xs ++ []
none_more xs = sym (append-nil xs)
