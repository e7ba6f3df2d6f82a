-- A derivation takes all tokens, and its value is what they spell.
use Rattle.std.proofs.Common.{◌≡◌, ℕ, List, length, sym, ◌∙◌}
use Rattle.std.proofs.lemmas.List.{length-map}
use Rattle.text_parser.specs.declared.token.Token.{Token}
use Rattle.text_parser.specs.TokenParts.{TokenParts, parts_of_token, parts_of_tokens}
use Rattle.flow_syntax.specs.declared.rule.Step.{Step}
use Rattle.flow_syntax.specs.Derivations.{Derives}
use Rattle.flow_syntax.specs.Values.{count_taken, values}
use Rattle.flow_syntax.proofs.ValuesMade.{derived_taken}
use Rattle.flow_syntax.proofs.MarkLists.{marks_length}
use Rattle.flow_syntax.specs.declared.phrase.TheConstants.{FILE}
use Rattle.flow_syntax.specs.Marks.{marks_of}
use Rattle.flow_syntax.specs.Syntax.{ItemSyntax}
use Rattle.flow_syntax.specs.Actions.{first, items_in}
use Rattle.flow_syntax.specs.Productions.{rules, actions}
use Rattle.flow_syntax.specs.Spelling.{AreSpelled}

pub all_taken : (toks : List Token) (end : ℕ) (steps : List Step) → Derives rules FILE (marks_of (parts_of_tokens toks)) end steps → count_taken steps ≡ length toks
all_taken toks end steps d =
    derived_taken rules FILE (marks_of (parts_of_tokens toks)) end steps d ∙ marks_length (parts_of_tokens toks) ∙ length-map toks parts_of_token

pub are_spelled : (tokens : List TokenParts) (end : ℕ) (steps : List Step) (is : List ItemSyntax) → Derives rules FILE (marks_of tokens) end steps → is ≡ items_in (first (values actions steps tokens)) → AreSpelled tokens end is
are_spelled tokens end steps is d e = record { steps = steps; derived = d; value = sym e }
