-- Leftmost derivations by a grammar, and first faults.
use Rattle.std.specs.Prelude.{◌≡◌, ℕ, List, [], ◌∷◌, ◌++◌, Some, slice_get}
use Rattle.text_parser.specs.declared.fault.TextFault.{TextFault}
use Rattle.text_parser.specs.declared.fault.TextFault.TheVariants.{NoMemory}
use Rattle.flow_syntax.specs.declared.rule.Mark.{Mark}
use Rattle.flow_syntax.specs.declared.rule.TheConstants.{OPEN_ROUND}
use Rattle.flow_syntax.specs.declared.rule.Part.{Part}
use Rattle.flow_syntax.specs.declared.rule.Part.TheVariants.{Token, Opening, Closing, Phrase}
use Rattle.flow_syntax.specs.declared.rule.Start.{Start}
use Rattle.flow_syntax.specs.declared.rule.Start.TheVariants.{Take, Open, Group, Otherwise}
use Rattle.flow_syntax.specs.declared.rule.Step.{Step}
use Rattle.flow_syntax.specs.declared.rule.Step.TheVariants.{Shift, Apply, Match, Close}
use Rattle.flow_syntax.specs.Rules.{RuleParts, rule_parts}
use Rattle.flow_syntax.specs.Moves.{State, state, move, finished, moved, refused}

-- the steps lead from state `s` to state `t`
abbrev pub LeadsTo : List RuleParts → ℕ → State → List Step → State → Type 0
LeadsTo rules end s [] t = s ≡ t
LeadsTo rules end s (step ∷ steps) t = (u : State) × (move rules end s ≡ moved step u) × LeadsTo rules end u steps t

-- the state in which a text that is one phrase `n` begins to be read
abbrev pub beginning : ℕ → List Mark → State
beginning n ms = state 0 (Phrase n ∷ []) ms

-- the steps are the leftmost derivation of the tokens from phrase `n`
pub record Derives (rules : List RuleParts) (n : ℕ) (ms : List Mark) (end : ℕ) (steps : List Step) : Type 0 where
  pub last : State
  pub leads : LeadsTo rules end (beginning n ms) steps last
  pub ends : move rules end last ≡ finished

-- a token of terminal `t` can be the first of a rule with this start
abbrev pub MayStart : Start → ℕ → Type 0
MayStart (Take u) t = t ≡ u
MayStart (Open u) t = t ≡ u
MayStart (Group g) t = t ≡ OPEN_ROUND
MayStart Otherwise t = ⊥

-- The steps are a leftmost derivation of the tokens from the parts by rules of the context-free grammar, whichever rule
-- of a phrase that is.
abbrev pub IsLeftmost : List RuleParts → List Part → List Step → List Mark → Type 0
IsLeftmost rules [] [] [] = Unit {0}
IsLeftmost rules (Token t ∷ ps) (Match ∷ steps) (m ∷ ms) = (m.terminal ≡ t) × IsLeftmost rules ps steps ms
IsLeftmost rules (Opening t ∷ ps) (Match ∷ steps) (m ∷ ms) = (m.terminal ≡ t) × IsLeftmost rules ps steps ms
IsLeftmost rules (Closing ∷ ps) (Close ∷ steps) ms = IsLeftmost rules ps steps ms
IsLeftmost rules (Phrase n ∷ ps) (Shift k ∷ steps) (m ∷ ms) =
    (start : Start) × (parts : List Part) × (slice_get rules k ≡ Some (rule_parts n start parts)) × MayStart start m.terminal × IsLeftmost rules (parts ++ ps) steps ms
IsLeftmost rules (Phrase n ∷ ps) (Apply k ∷ steps) ms =
    (parts : List Part) × (slice_get rules k ≡ Some (rule_parts n Otherwise parts)) × IsLeftmost rules (parts ++ ps) steps ms
IsLeftmost rules ps steps ms = ⊥

-- the tokens are refused: some steps lead to a state that has this fault
pub record IsFirstFault (rules : List RuleParts) (n : ℕ) (ms : List Mark) (end : ℕ) (fault : TextFault) : Type 0 where
  pub steps : List Step
  pub last : State
  pub leads : LeadsTo rules end (beginning n ms) steps last
  pub refuses : move rules end last ≡ refused fault

-- the reader's fault is the first fault of the tokens, or it ran out of memory
abbrev pub IsReaderFault : List RuleParts → ℕ → List Mark → ℕ → TextFault → Type 0
IsReaderFault rules n ms end NoMemory = Unit {0}
IsReaderFault rules n ms end fault = IsFirstFault rules n ms end fault
