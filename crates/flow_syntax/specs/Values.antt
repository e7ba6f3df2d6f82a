-- The value of a derivation: its steps from the last to the first, over a stack of values.
use Rattle.std.specs.Prelude.{ℕ, ◌+◌, List, [], ◌∷◌, drop}
use Rattle.text_parser.specs.TokenParts.{TokenParts}
use Rattle.flow_syntax.specs.declared.rule.Step.{Step}
use Rattle.flow_syntax.specs.declared.rule.Step.TheVariants.{Shift, Apply, Match, Close}

-- the actions of a grammar: the value of a token, and what a rule, by its number, makes of the values of its parts,
-- which it replaces at the front of the stack by its own
pub record Actions (V : Type 0) : Type 0 where
  pub leaf : TokenParts → V
  pub apply : ℕ → List V → List V

-- the number of tokens that a step takes
abbrev pub taken_by : Step → ℕ
taken_by (Shift k) = 1
taken_by (Apply k) = 0
taken_by Match = 1
taken_by Close = 0

-- the number of tokens that the steps take
abbrev pub count_taken : List Step → ℕ
count_taken [] = 0
count_taken (step ∷ steps) = taken_by step + count_taken steps

-- the first token's value before others
abbrev pub with_leaf : {V : Type 0} → Actions V → List TokenParts → List V → List V
with_leaf g [] vs = vs
with_leaf g (t ∷ ts) vs = g.leaf t ∷ vs

-- what a step before the tokens makes of the values of the steps after it
abbrev pub step_values : {V : Type 0} → Actions V → Step → List TokenParts → List V → List V
step_values g (Shift k) ts vs = g.apply k (with_leaf g ts vs)
step_values g (Apply k) ts vs = g.apply k vs
step_values g Match ts vs = with_leaf g ts vs
step_values g Close ts vs = vs

-- the values of the parts that the steps derive from the tokens
abbrev pub values : {V : Type 0} → Actions V → List Step → List TokenParts → List V
values g [] ts = []
values g (step ∷ steps) ts = step_values g step ts (values g steps (drop (taken_by step) ts))
