-- The reader's first fault is never `NoMemory`.
use Rattle.std.proofs.Common.{ℕ, List, [], ◌∷◌, Bool, true, false, cond, Option, Some, None, Result, Ok, Err, nat_eq, nat_lt, subst}
use Rattle.std.specs.Prelude.{◌&&◌}
use Rattle.kat_model.specs.declared.limits.TheConstants.{MAX_OPEN}
use Rattle.text_parser.specs.declared.fault.TextFault.{TextFault}
use Rattle.text_parser.specs.declared.fault.TextFault.TheVariants.{NoMemory}
use Rattle.text_parser.proofs.NamedFaults.{IsNamedFault, IsNamed}
use Rattle.flow_syntax.specs.declared.rule.TheConstants.{NUMBER, WIDE_NUMBER, OPEN_ROUND}
use Rattle.flow_syntax.specs.declared.rule.Mark.{Mark}
use Rattle.flow_syntax.specs.declared.rule.Part.{Part}
use Rattle.flow_syntax.specs.declared.rule.Part.TheVariants.{Token, Opening, Closing, Phrase}
use Rattle.flow_syntax.specs.declared.rule.Start.TheVariants.{Take, Open, Group, Otherwise}
use Rattle.flow_syntax.specs.declared.rule.Step.{Step}
use Rattle.flow_syntax.specs.Rules.{RuleParts, rule_parts, chosen}
use Rattle.flow_syntax.specs.Moves.{State, state, Move, finished, moved, refused, mismatch, taking, opening, stepped, predicted, move}
use Rattle.flow_syntax.specs.Derivations.{IsFirstFault}

abbrev IsNamedMove : Move → Type 0
IsNamedMove finished = Unit {0}
IsNamedMove (moved step next) = Unit {0}
IsNamedMove (refused e) = IsNamedFault e

pub if_named : {A : Type 0} (b : Bool) (x y : Result A TextFault) → IsNamed x → IsNamed y → IsNamed (cond b x y)
if_named true x y h k = h
if_named false x y h k = k

fault_named : (b : Bool) (d e : TextFault) → IsNamedFault d → IsNamedFault e → IsNamedFault (cond b d e)
fault_named true d e h k = h
fault_named false d e h k = k

mismatch_named : (t : ℕ) (m : Mark) → IsNamedFault (mismatch t m)
mismatch_named t m = fault_named (nat_eq t NUMBER && nat_eq m.terminal WIDE_NUMBER) _ _ tt tt

taking_named : (end t : ℕ) (ms : List Mark) → IsNamed (taking end t ms)
taking_named end t [] = tt
taking_named end t (m ∷ ms) = if_named (nat_eq m.terminal t) _ _ tt (mismatch_named t m)

opening_named : (end d t : ℕ) (ms : List Mark) → IsNamed (opening end d t ms)
opening_named end d t [] = tt
opening_named end d t (m ∷ ms) = if_named (nat_eq m.terminal t) _ _ (if_named (nat_lt d MAX_OPEN) _ _ tt tt) (mismatch_named t m)

stepped_named : (step : Step) (next : List Mark → State) (m : Result (List Mark) TextFault) → IsNamed m → IsNamedMove (stepped step next m)
stepped_named step next (Ok rest) h = tt
stepped_named step next (Err e) h = h

predicted_named : (end d : ℕ) (ps : List Part) (ms : List Mark) (rule : Option (ℕ × RuleParts)) → IsNamedMove (predicted end d ps ms rule)
predicted_named end d ps ms None = tt
predicted_named end d ps ms (Some (k, rule_parts n (Take t) parts)) = stepped_named _ _ (taking end t ms) (taking_named end t ms)
predicted_named end d ps ms (Some (k, rule_parts n (Open t) parts)) = stepped_named _ _ (opening end d t ms) (opening_named end d t ms)
predicted_named end d ps ms (Some (k, rule_parts n (Group g) parts)) = stepped_named _ _ (opening end d OPEN_ROUND ms) (opening_named end d OPEN_ROUND ms)
predicted_named end d ps ms (Some (k, rule_parts n Otherwise parts)) = tt

move_named : (rules : List RuleParts) (end : ℕ) (s : State) → IsNamedMove (move rules end s)
move_named rules end (state d [] []) = tt
move_named rules end (state d [] (m ∷ ms)) = tt
move_named rules end (state d (Token t ∷ ps) ms) = stepped_named _ _ (taking end t ms) (taking_named end t ms)
move_named rules end (state d (Opening t ∷ ps) ms) = stepped_named _ _ (opening end d t ms) (opening_named end d t ms)
move_named rules end (state d (Closing ∷ ps) ms) = tt
move_named rules end (state d (Phrase n ∷ ps) ms) = predicted_named end d ps ms (chosen rules n ms)

pub syntax_named : (rules : List RuleParts) (n : ℕ) (ms : List Mark) (end : ℕ) → IsFirstFault rules n ms end NoMemory → ⊥
syntax_named rules n ms end f = subst IsNamedMove f.refuses (move_named rules end f.last)
