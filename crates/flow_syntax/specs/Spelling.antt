-- What tokens spell.
use Rattle.std.specs.Prelude.{◌≡◌, ℕ, List}
use Rattle.text_parser.specs.TokenParts.{TokenParts}
use Rattle.flow_syntax.specs.declared.rule.Step.{Step}
use Rattle.flow_syntax.specs.Derivations.{Derives}
use Rattle.flow_syntax.specs.Values.{values}
use Rattle.flow_syntax.specs.declared.phrase.TheConstants.{FILE}
use Rattle.flow_syntax.specs.Marks.{marks_of}
use Rattle.flow_syntax.specs.Syntax.{ItemSyntax}
use Rattle.flow_syntax.specs.Actions.{first, items_in}
use Rattle.flow_syntax.specs.Productions.{rules, actions}

-- the tokens of a text of `end` bytes spell these items: the items are the value of their derivation
pub record AreSpelled (tokens : List TokenParts) (end : ℕ) (is : List ItemSyntax) : Type 0 where
  pub steps : List Step
  pub derived : Derives rules FILE (marks_of tokens) end steps
  pub value : items_in (first (values actions steps tokens)) ≡ is
