-- The moves of the reader.
use Rattle.std.specs.Prelude.{ℕ, ◌+◌, ◌-◌, List, [], ◌∷◌, ◌++◌, ◌&&◌, nat_eq, nat_lt, if◌then◌else◌, Option, Some, None, Result, Ok, Err}
use Rattle.kat_model.specs.declared.limits.TheConstants.{MAX_OPEN}
use Rattle.text_parser.specs.declared.fault.TextFault.{TextFault}
use Rattle.text_parser.specs.declared.fault.TextFault.TheVariants.{Syntax, TooDeep, NumberTooWide}
use Rattle.flow_syntax.specs.declared.rule.TheConstants.{NUMBER, WIDE_NUMBER, OPEN_ROUND}
use Rattle.flow_syntax.specs.declared.rule.Mark.{Mark}
use Rattle.flow_syntax.specs.declared.rule.Part.{Part}
use Rattle.flow_syntax.specs.declared.rule.Part.TheVariants.{Token, Opening, Closing, Phrase}
use Rattle.flow_syntax.specs.declared.rule.Start.TheVariants.{Take, Open, Group, Otherwise}
use Rattle.flow_syntax.specs.declared.rule.Step.{Step}
use Rattle.flow_syntax.specs.declared.rule.Step.TheVariants.{Shift, Apply, Match, Close}
use Rattle.flow_syntax.specs.Rules.{RuleParts, rule_parts, chosen}

-- the number of open constructs, the parts that are still to be read, and the tokens that remain
pub data State : Type 0 where
  state : (depth : ℕ) → (parts : List Part) → (marks : List Mark) → State

-- what follows a state: the text is read, or a step leads to the next state, or the text is refused
pub data Move : Type 0 where
  finished : Move
  moved : (step : Step) → (next : State) → Move
  refused : (fault : TextFault) → Move

-- the place of the first token, or the end of the text
abbrev pub place_of : ℕ → List Mark → ℕ
place_of end [] = end
place_of end (m ∷ ms) = m.at

-- the fault of a token that is not of the required terminal
abbrev pub mismatch : ℕ → Mark → TextFault
mismatch t m = if nat_eq t NUMBER && nat_eq m.terminal WIDE_NUMBER then NumberTooWide m.at else Syntax m.at

-- the tokens after a first token of terminal `t`, or its fault
abbrev pub taking : ℕ → ℕ → List Mark → Result (List Mark) TextFault
taking end t [] = Err (Syntax end)
taking end t (m ∷ ms) = if nat_eq m.terminal t then Ok ms else Err (mismatch t m)

-- likewise, for a token that opens a construct inside `d` others
abbrev pub opening : ℕ → ℕ → ℕ → List Mark → Result (List Mark) TextFault
opening end d t [] = Err (Syntax end)
opening end d t (m ∷ ms) =
    if nat_eq m.terminal t then (if nat_lt d MAX_OPEN then Ok ms else Err (TooDeep m.at)) else Err (mismatch t m)

-- a step that leads to the state `next` before the tokens that remain
abbrev pub stepped : Step → (List Mark → State) → Result (List Mark) TextFault → Move
stepped step next (Ok rest) = moved step (next rest)
stepped step next (Err fault) = refused fault

-- begins a phrase by the rule that was chosen for it
abbrev pub predicted : ℕ → ℕ → List Part → List Mark → Option (ℕ × RuleParts) → Move
predicted end d ps ms None = refused (Syntax (place_of end ms))
predicted end d ps ms (Some (k, rule_parts n (Take t) parts)) = stepped (Shift k) (λ rest. state d (parts ++ ps) rest) (taking end t ms)
predicted end d ps ms (Some (k, rule_parts n (Open t) parts)) = stepped (Shift k) (λ rest. state (d + 1) (parts ++ ps) rest) (opening end d t ms)
predicted end d ps ms (Some (k, rule_parts n (Group g) parts)) = stepped (Shift k) (λ rest. state (d + 1) (parts ++ ps) rest) (opening end d OPEN_ROUND ms)
predicted end d ps ms (Some (k, rule_parts n Otherwise parts)) = moved (Apply k) (state d (parts ++ ps) ms)

-- the move of a state, in a text that ends at place `end`
abbrev pub move : List RuleParts → ℕ → State → Move
move rules end (state d [] []) = finished
move rules end (state d [] (m ∷ ms)) = refused (Syntax m.at)
move rules end (state d (Token t ∷ ps) ms) = stepped Match (λ rest. state d ps rest) (taking end t ms)
move rules end (state d (Opening t ∷ ps) ms) = stepped Match (λ rest. state (d + 1) ps rest) (opening end d t ms)
move rules end (state d (Closing ∷ ps) ms) = moved Close (state (d - 1) ps ms)
move rules end (state d (Phrase n ∷ ps) ms) = predicted end d ps ms (chosen rules n ms)
