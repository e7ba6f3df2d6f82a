-- Names declared one by one, from the last of a list to the first.
use Rattle.std.proofs.Common.{◌≡◌, List, [], ◌∷◌, ◌++◌, Result, Ok, Err, ap, ◌∙◌}
use Rattle.text_parser.specs.declared.fault.TextFault.{TextFault}
use Rattle.text_parser.specs.declared.token.Token.{Token}
use Rattle.text_parser.specs.TokenParts.{parts_of_token}
use Rattle.text_parser.specs.Parsed.{◌>>=◌}
use Rattle.flow_model.specs.declared.sort.Sort.{Sort}
use Rattle.flow_syntax.specs.SyntaxViews.{tokens_syntax}
use Rattle.flow_text.specs.Scopes.{ScopeParts, with_sort, with_variable, sorts_declared, variables_declared}
use Rattle.flow_syntax.proofs.Stacked.{tokens_push}

-- the last name is declared first
pub sort_first : (s : ScopeParts) (before : List Token) (t : Token) → sorts_declared s (tokens_syntax (before ++ t ∷ [])) ≡ (with_sort s (parts_of_token t) >>= λ u. sorts_declared u (tokens_syntax before))
sort_first s before t = ap (sorts_declared s) (tokens_push before t)

pub sort_declared : (s u : ScopeParts) (before : List Token) (t : Token) → with_sort s (parts_of_token t) ≡ Ok u → sorts_declared s (tokens_syntax (before ++ t ∷ [])) ≡ sorts_declared u (tokens_syntax before)
sort_declared s u before t e = sort_first s before t ∙ ap (λ (m : Result ScopeParts TextFault). m >>= λ v. sorts_declared v (tokens_syntax before)) e

pub sort_refused : (s : ScopeParts) (fault : TextFault) (before : List Token) (t : Token) → with_sort s (parts_of_token t) ≡ Err fault → sorts_declared s (tokens_syntax (before ++ t ∷ [])) ≡ Err fault
sort_refused s fault before t e = sort_first s before t ∙ ap (λ (m : Result ScopeParts TextFault). m >>= λ v. sorts_declared v (tokens_syntax before)) e

pub variable_first : (s : ScopeParts) (sort : Sort) (before : List Token) (t : Token) → variables_declared s sort (tokens_syntax (before ++ t ∷ [])) ≡ (with_variable s sort (parts_of_token t) >>= λ u. variables_declared u sort (tokens_syntax before))
variable_first s sort before t = ap (variables_declared s sort) (tokens_push before t)

pub variable_declared : (s u : ScopeParts) (sort : Sort) (before : List Token) (t : Token) → with_variable s sort (parts_of_token t) ≡ Ok u → variables_declared s sort (tokens_syntax (before ++ t ∷ [])) ≡ variables_declared u sort (tokens_syntax before)
variable_declared s u sort before t e = variable_first s sort before t ∙ ap (λ (m : Result ScopeParts TextFault). m >>= λ v. variables_declared v sort (tokens_syntax before)) e

pub variable_refused : (s : ScopeParts) (sort : Sort) (fault : TextFault) (before : List Token) (t : Token) → with_variable s sort (parts_of_token t) ≡ Err fault → variables_declared s sort (tokens_syntax (before ++ t ∷ [])) ≡ Err fault
variable_refused s sort fault before t e = variable_first s sort before t ∙ ap (λ (m : Result ScopeParts TextFault). m >>= λ v. variables_declared v sort (tokens_syntax before)) e

pub ruleset declarations = (sort_declared, sort_refused, variable_declared, variable_refused)
