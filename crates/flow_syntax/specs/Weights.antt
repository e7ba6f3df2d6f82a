-- Grammars by which each reading ends: a rule that takes no token has lighter parts than its phrase, and the parts of a
-- rule that takes one weigh less than 64.
use Rattle.std.specs.Prelude.{ℕ, ◌+◌, ◌*◌, List, [], ◌∷◌, length, Bool, true, ◌&&◌, nat_lt, slice_index_or, ◌≡◌}
use Rattle.flow_syntax.specs.declared.rule.Part.{Part}
use Rattle.flow_syntax.specs.declared.rule.Part.TheVariants.{Token, Opening, Closing, Phrase}
use Rattle.flow_syntax.specs.declared.rule.Start.{Start}
use Rattle.flow_syntax.specs.declared.rule.Start.TheVariants.{Otherwise}
use Rattle.flow_syntax.specs.Rules.{RuleParts, rule_parts}
use Rattle.flow_syntax.specs.Moves.{State, state}

-- the weight of a part; `weights` gives the phrases their weights, phrase 0 first
abbrev pub part_weight : List ℕ → Part → ℕ
part_weight weights (Token t) = 1
part_weight weights (Opening t) = 1
part_weight weights Closing = 1
part_weight weights (Phrase n) = slice_index_or weights n 0

abbrev pub total_weight : List ℕ → List Part → ℕ
total_weight weights [] = 0
total_weight weights (p ∷ ps) = part_weight weights p + total_weight weights ps

-- whether a rule with this start and these parts is light enough for a phrase of weight `w`
abbrev pub is_light : Start → ℕ → ℕ → Bool
is_light Otherwise total w = nat_lt total w
is_light start total w = nat_lt total (64 + w)

abbrev pub are_light : List ℕ → List RuleParts → Bool
are_light weights [] = true
are_light weights (rule_parts n start parts ∷ rules) =
    is_light start (total_weight weights parts) (slice_index_or weights n 0) && are_light weights rules

-- the weights show that each reading ends
abbrev pub AreLight : List ℕ → List RuleParts → Type 0
AreLight weights rules = are_light weights rules ≡ true

-- bounds the steps that a state can take: each token allows for 64
abbrev pub budget : List ℕ → State → ℕ
budget weights (state depth parts marks) = 64 * length marks + total_weight weights parts
