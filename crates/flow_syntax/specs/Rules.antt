-- The rules of a grammar, and which of them applies.
use Rattle.std.specs.Prelude.{ℕ, zero, suc, ◌+◌, List, [], ◌∷◌, map, drop, Bool, true, false, not, ◌&&◌, ◌||◌, nat_eq, if◌then◌else◌, Option, Some, None}
use Rattle.flow_syntax.specs.declared.rule.TheConstants.{NUMBER, WIDE_NUMBER, OPEN_ROUND, CLOSE_ROUND, END_OF_TEXT}
use Rattle.flow_syntax.specs.declared.rule.Mark.{Mark}
use Rattle.flow_syntax.specs.declared.rule.Part.{Part}
use Rattle.flow_syntax.specs.declared.rule.Start.{Start}
use Rattle.flow_syntax.specs.declared.rule.Start.TheVariants.{Take, Open, Group, Otherwise}
use Rattle.flow_syntax.specs.declared.rule.Rule.{Rule}

-- a rule: its phrase, its start and the parts that follow, without the address of their list
pub data RuleParts : Type 0 where
  rule_parts : (phrase : ℕ) → (start : Start) → (parts : List Part) → RuleParts

abbrev pub parts_of_rule : Rule → RuleParts
parts_of_rule r = rule_parts r.phrase r.start r.parts.items

abbrev pub parts_of_rules : List Rule → List RuleParts
parts_of_rules rules = map parts_of_rule rules

-- the terminal of the first token, where a wide number counts as a number
abbrev pub first_terminal : List Mark → ℕ
first_terminal [] = END_OF_TEXT
first_terminal (m ∷ ms) = if nat_eq m.terminal WIDE_NUMBER then NUMBER else m.terminal

-- the tokens after the matching parenthesis, with n + 1 parentheses open, or none
abbrev pub index_after_matching : ℕ → List Mark → List Mark
index_after_matching n [] = []
index_after_matching zero (m ∷ ms) =
    if nat_eq m.terminal OPEN_ROUND then index_after_matching 1 ms
    else if nat_eq m.terminal CLOSE_ROUND then ms
    else index_after_matching 0 ms
index_after_matching (suc n) (m ∷ ms) =
    if nat_eq m.terminal OPEN_ROUND then index_after_matching (suc (suc n)) ms
    else if nat_eq m.terminal CLOSE_ROUND then index_after_matching n ms
    else index_after_matching (suc n) ms

-- whether a rule begins with a token of terminal `t`
abbrev pub starts_with : ℕ → Start → Bool
starts_with t (Take u) = nat_eq t u
starts_with t (Open u) = nat_eq t u
starts_with t (Group g) = nat_eq t OPEN_ROUND
starts_with t Otherwise = false

-- whether some rule of phrase `n` begins with a token of terminal `t`
abbrev pub begins : List RuleParts → ℕ → ℕ → Bool
begins [] n t = false
begins (rule_parts phrase start parts ∷ rules) n t = (nat_eq phrase n && starts_with t start) || begins rules n t

-- whether a rule with this start applies before the tokens
abbrev pub suits : List RuleParts → Start → List Mark → Bool
suits rules (Take t) ms = nat_eq (first_terminal ms) t
suits rules (Open t) ms = nat_eq (first_terminal ms) t
suits rules (Group g) ms = nat_eq (first_terminal ms) OPEN_ROUND && not (begins rules g (first_terminal (index_after_matching 0 (drop 1 ms))))
suits rules Otherwise ms = true

abbrev pub applies : List RuleParts → ℕ → List Mark → RuleParts → Bool
applies rules n ms (rule_parts phrase start parts) = nat_eq phrase n && suits rules start ms

-- the first of the rules `rest`, which are numbered from `k` on, that applies to phrase `n` before the tokens, with its
-- number; `rules` are all rules
abbrev pub chosen_from : List RuleParts → ℕ → List Mark → ℕ → List RuleParts → Option (ℕ × RuleParts)
chosen_from rules n ms k [] = None
chosen_from rules n ms k (r ∷ rest) = if applies rules n ms r then Some (k, r) else chosen_from rules n ms (k + 1) rest

-- the rule by which phrase `n` is read before the tokens
abbrev pub chosen : List RuleParts → ℕ → List Mark → Option (ℕ × RuleParts)
chosen rules n ms = chosen_from rules n ms 0 rules
