-- A worked grammar: S -> ( S ) | 1 S | nothing, with one construct for each parenthesis.
use Rattle.std.specs.Prelude.{◌≡◌, refl, ℕ, List, [], ◌∷◌, true}
use Rattle.text_parser.specs.declared.fault.TextFault.TheVariants.{NumberTooWide}
use Rattle.flow_syntax.specs.declared.rule.TheConstants.{NUMBER, WIDE_NUMBER, OPEN_ROUND, CLOSE_ROUND}
use Rattle.flow_syntax.specs.declared.rule.Mark.{Mark}
use Rattle.flow_syntax.specs.declared.rule.Part.TheVariants.{Token, Closing, Phrase}
use Rattle.flow_syntax.specs.declared.rule.Start.TheVariants.{Take, Open, Otherwise}
use Rattle.flow_syntax.specs.declared.rule.Step.TheVariants.{Shift, Apply, Match, Close}
use Rattle.flow_syntax.specs.Rules.{RuleParts, rule_parts}
use Rattle.flow_syntax.specs.Moves.{state}
use Rattle.flow_syntax.specs.Derivations.{Derives, IsFirstFault}
use Rattle.flow_syntax.specs.Weights.{are_light}

abbrev nested : List RuleParts
nested =
    rule_parts 0 (Open OPEN_ROUND) (Phrase 0 ∷ Token CLOSE_ROUND ∷ Closing ∷ [])
    ∷ rule_parts 0 (Take NUMBER) (Phrase 0 ∷ [])
    ∷ rule_parts 0 Otherwise []
    ∷ []

light : are_light (1 ∷ []) nested ≡ true
light = refl

abbrev mark : ℕ → ℕ → Mark
mark t at = record { terminal = t; at = at }

one_inside : Derives nested 0 (mark OPEN_ROUND 0 ∷ mark NUMBER 1 ∷ mark CLOSE_ROUND 2 ∷ []) 3 (Shift 0 ∷ Shift 1 ∷ Apply 2 ∷ Match ∷ Close ∷ [])
one_inside = record {
  last = state 0 [] [];
  leads = (_, refl, (_, refl, (_, refl, (_, refl, (_, refl, refl)))));
  ends = refl;
}

too_wide : IsFirstFault nested 0 (mark WIDE_NUMBER 5 ∷ []) 6 (NumberTooWide 5)
too_wide = record { steps = []; last = _; leads = refl; refuses = refl }
