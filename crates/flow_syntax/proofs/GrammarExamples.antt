-- The grammar is light, so each reading ends, and the program's table of actions is that of the productions.
use Rattle.std.specs.Prelude.{◌≡◌, refl, true}
use Rattle.flow_syntax.specs.Weights.{are_light}
use Rattle.flow_syntax.specs.declared.listing.TheConstants.{ACTIONS}
use Rattle.flow_syntax.specs.Productions.{rules_of, productions, rules, weights, listed_actions}

pub rules_light : are_light weights rules ≡ true
unfolding weights rules
rules_light = refl

pub rules_listed : rules ≡ rules_of productions
unfolding rules productions
rules_listed = refl

pub actions_listed : ACTIONS ≡ listed_actions
unfolding listed_actions productions
actions_listed = refl
