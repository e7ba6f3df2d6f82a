-- The tokens by which items name variables and functions are tokens of the text, so that what holds of each token of the
-- text holds of them.
use Rattle.std.proofs.Common.{ℕ, zero, suc, List, [], ◌∷◌, drop, Option, Some, None, slice_get, subst}
use Rattle.text_parser.specs.TokenParts.{TokenParts}
use Rattle.flow_syntax.specs.declared.rule.Step.{Step}
use Rattle.flow_syntax.specs.declared.rule.Step.TheVariants.{Shift, Apply, Match, Close}
use Rattle.flow_syntax.specs.Values.{taken_by, with_leaf, step_values, values}
use Rattle.flow_syntax.specs.declared.action.Action.{Action}
use Rattle.flow_syntax.specs.declared.action.Action.TheVariants.{Names, Exprs, Conds, Bodies, Matches, Items}
use Rattle.flow_syntax.specs.declared.action.NameAction.{NameAction}
use Rattle.flow_syntax.specs.declared.action.NameAction.TheVariants.{Keep, NoTokens, OneToken, NextToken, NoParameters, SomeParameters}
use Rattle.flow_syntax.specs.declared.action.ExprAction.{ExprAction}
use Rattle.flow_syntax.specs.declared.action.ExprAction.TheVariants.{NoExprs, NextExpr, EndedAtOnce, EndedList, NoOperations, NextOperation, Join, Numeral, NameOrCall, CallNothing, CallList, Convert, EnclosedExpr}
use Rattle.flow_syntax.specs.declared.action.CondAction.{CondAction}
use Rattle.flow_syntax.specs.declared.action.CondAction.TheVariants as cond
use Rattle.flow_syntax.specs.declared.action.BodyAction.{BodyAction}
use Rattle.flow_syntax.specs.declared.action.BodyAction.TheVariants.{Assigning, Asserting, Going, Branching, Returning, Aborting, CutBlock, PlainBlock, NoBlocks, NextCutBlock, NextPlainBlock}
use Rattle.flow_syntax.specs.declared.action.MatchAction.{MatchAction}
use Rattle.flow_syntax.specs.declared.action.MatchAction.TheVariants.{NoEquations, NextEquation, FirstEquation, GivenEquations, GivenCondition, GivenNumber, GivenWord, MatchNames, MatchBlocks}
use Rattle.flow_syntax.specs.declared.action.ItemAction.{ItemAction}
use Rattle.flow_syntax.specs.declared.action.ItemAction.TheVariants.{NoItems, SortsItem, FunctionItem, VariablesItem, GraphItem, RoundsItem, SplitItem, EqualItem, MatchItem}
use Rattle.flow_syntax.specs.Syntax.{ItemSyntax, sorts, function, variables, graph, rounds, split, equal, matching}
use Rattle.flow_syntax.specs.Actions.{ValueSyntax, token, tokens, items, first, rest, no_token, token_in, tokens_in, items_in, names_done, exprs_done, conds_done, bodies_done, matches_done, items_done}
use Rattle.flow_syntax.specs.Productions.{listed_actions, act, actions}
use Rattle.flow_syntax.specs.Spelling.{AreSpelled}

abbrev pub Each : (TokenParts → Type 0) → List TokenParts → Type 0
Each P [] = Unit {0}
Each P (t ∷ ts) = P t × Each P ts

each_drop : (P : TokenParts → Type 0) (n : ℕ) (ts : List TokenParts) → Each P ts → Each P (drop n ts)
each_drop P zero ts h = h
each_drop P (suc n) [] h = h
each_drop P (suc n) (t ∷ ts) h = each_drop P n ts h.1

-- the tokens of the names of variables and functions
abbrev pub AreNamed : (TokenParts → Type 0) → List ItemSyntax → Type 0
AreNamed P [] = Unit {0}
AreNamed P (sorts word names ∷ xs) = AreNamed P xs
AreNamed P (function word result name parameters ∷ xs) = P name × AreNamed P xs
AreNamed P (variables word sort names ∷ xs) = Each P names × AreNamed P xs
AreNamed P (graph word name bs ∷ xs) = AreNamed P xs
AreNamed P (rounds word number ∷ xs) = AreNamed P xs
AreNamed P (split word ∷ xs) = AreNamed P xs
AreNamed P (equal word before after ∷ xs) = AreNamed P xs
AreNamed P (matching word m ∷ xs) = AreNamed P xs

abbrev IsNamed : (TokenParts → Type 0) → ValueSyntax → Type 0
IsNamed P (token t) = P t
IsNamed P (tokens ts) = Each P ts
IsNamed P (items xs) = AreNamed P xs
IsNamed P v = Unit {0}

abbrev AllNamed : (TokenParts → Type 0) → List ValueSyntax → Type 0
AllNamed P [] = Unit {0}
AllNamed P (v ∷ vs) = IsNamed P v × AllNamed P vs

module _ (P : TokenParts → Type 0) (none : P no_token) where
  token_named : (v : ValueSyntax) → IsNamed P v → P (token_in v)
  token_named (token t) h = h
  token_named v h = none

  tokens_named : (v : ValueSyntax) → IsNamed P v → Each P (tokens_in v)
  tokens_named (tokens ts) h = h
  tokens_named v h = tt

  items_named : (v : ValueSyntax) → IsNamed P v → AreNamed P (items_in v)
  items_named (items xs) h = h
  items_named v h = tt

  at1 : (vs : List ValueSyntax) → AllNamed P vs → IsNamed P (first vs)
  at1 [] h = tt
  at1 (v ∷ vs) h = h.0

  past1 : (vs : List ValueSyntax) → AllNamed P vs → AllNamed P (rest vs)
  past1 [] h = tt
  past1 (v ∷ vs) h = h.1

  past2 : (vs : List ValueSyntax) → AllNamed P vs → AllNamed P (rest (rest vs))
  past2 vs h = past1 (rest vs) (past1 vs h)

  past3 : (vs : List ValueSyntax) → AllNamed P vs → AllNamed P (rest (rest (rest vs)))
  past3 vs h = past1 (rest (rest vs)) (past2 vs h)

  past4 : (vs : List ValueSyntax) → AllNamed P vs → AllNamed P (rest (rest (rest (rest vs))))
  past4 vs h = past1 (rest (rest (rest vs))) (past3 vs h)

  past5 : (vs : List ValueSyntax) → AllNamed P vs → AllNamed P (rest (rest (rest (rest (rest vs)))))
  past5 vs h = past1 (rest (rest (rest (rest vs)))) (past4 vs h)

  past6 : (vs : List ValueSyntax) → AllNamed P vs → AllNamed P (rest (rest (rest (rest (rest (rest vs))))))
  past6 vs h = past1 (rest (rest (rest (rest (rest vs))))) (past5 vs h)

  past7 : (vs : List ValueSyntax) → AllNamed P vs → AllNamed P (rest (rest (rest (rest (rest (rest (rest vs)))))))
  past7 vs h = past1 (rest (rest (rest (rest (rest (rest vs)))))) (past6 vs h)

  past10 : (vs : List ValueSyntax) → AllNamed P vs → AllNamed P (rest (rest (rest (rest (rest (rest (rest (rest (rest (rest vs))))))))))
  past10 vs h = past3 (rest (rest (rest (rest (rest (rest (rest vs))))))) (past7 vs h)

  -- ---- each action keeps the names

  names_kept : (a : NameAction) (vs : List ValueSyntax) → AllNamed P vs → AllNamed P (names_done a vs)
  names_kept Keep vs h = h
  names_kept NoTokens vs h = (tt, h)
  names_kept OneToken vs h = ((token_named (first vs) (at1 vs h), tokens_named (first (rest vs)) (at1 (rest vs) (past1 vs h))), past2 vs h)
  names_kept NextToken vs h = ((token_named (first (rest vs)) (at1 (rest vs) (past1 vs h)), tokens_named (first (rest (rest vs))) (at1 (rest (rest vs)) (past2 vs h))), past3 vs h)
  names_kept NoParameters vs h = (tt, past1 vs h)
  names_kept SomeParameters vs h = ((token_named (first vs) (at1 vs h), tokens_named (first (rest vs)) (at1 (rest vs) (past1 vs h))), past3 vs h)

  exprs_kept : (a : ExprAction) (vs : List ValueSyntax) → AllNamed P vs → AllNamed P (exprs_done a vs)
  exprs_kept NoExprs vs h = (tt, h)
  exprs_kept NextExpr vs h = (tt, past3 vs h)
  exprs_kept EndedAtOnce vs h = (tt, past1 vs h)
  exprs_kept EndedList vs h = (tt, past3 vs h)
  exprs_kept NoOperations vs h = (tt, h)
  exprs_kept NextOperation vs h = (tt, past3 vs h)
  exprs_kept Join vs h = (tt, past2 vs h)
  exprs_kept Numeral vs h = (tt, past1 vs h)
  exprs_kept NameOrCall vs h = (tt, past2 vs h)
  exprs_kept CallNothing vs h = (tt, h)
  exprs_kept CallList vs h = (tt, past2 vs h)
  exprs_kept Convert vs h = (tt, past4 vs h)
  exprs_kept EnclosedExpr vs h = (tt, past3 vs h)

  conds_kept : (a : CondAction) (vs : List ValueSyntax) → AllNamed P vs → AllNamed P (conds_done a vs)
  conds_kept cond.NoConds vs h = (tt, h)
  conds_kept cond.NextAny vs h = (tt, past3 vs h)
  conds_kept cond.NextAll vs h = (tt, past3 vs h)
  conds_kept cond.Any vs h = (tt, past2 vs h)
  conds_kept cond.All vs h = (tt, past2 vs h)
  conds_kept cond.TrueCond vs h = (tt, past1 vs h)
  conds_kept cond.FalseCond vs h = (tt, past1 vs h)
  conds_kept cond.Negate vs h = (tt, past2 vs h)
  conds_kept cond.EnclosedCond vs h = (tt, past3 vs h)
  conds_kept cond.Compare vs h = (tt, past3 vs h)
  conds_kept cond.CompareSigned vs h = (tt, past6 vs h)

  bodies_kept : (a : BodyAction) (vs : List ValueSyntax) → AllNamed P vs → AllNamed P (bodies_done a vs)
  bodies_kept Assigning vs h = (tt, past7 vs h)
  bodies_kept Asserting vs h = (tt, past4 vs h)
  bodies_kept Going vs h = (tt, past3 vs h)
  bodies_kept Branching vs h = (tt, past7 vs h)
  bodies_kept Returning vs h = (tt, past2 vs h)
  bodies_kept Aborting vs h = (tt, past2 vs h)
  bodies_kept CutBlock vs h = (tt, past6 vs h)
  bodies_kept PlainBlock vs h = (tt, past5 vs h)
  bodies_kept NoBlocks vs h = (tt, h)
  bodies_kept NextCutBlock vs h = (tt, past7 vs h)
  bodies_kept NextPlainBlock vs h = (tt, past6 vs h)

  matches_kept : (a : MatchAction) (vs : List ValueSyntax) → AllNamed P vs → AllNamed P (matches_done a vs)
  matches_kept NoEquations vs h = (tt, h)
  matches_kept NextEquation vs h = (tt, past5 vs h)
  matches_kept FirstEquation vs h = (tt, past4 vs h)
  matches_kept GivenEquations vs h = (tt, past2 vs h)
  matches_kept GivenCondition vs h = (tt, past2 vs h)
  matches_kept GivenNumber vs h = ((token_named (first (rest vs)) (at1 (rest vs) (past1 vs h)), tt), past2 vs h)
  matches_kept GivenWord vs h = ((token_named (first vs) (at1 vs h), tt), past1 vs h)
  matches_kept MatchNames vs h = (tt, past2 vs h)
  matches_kept MatchBlocks vs h = (tt, past10 vs h)

  items_kept : (a : ItemAction) (vs : List ValueSyntax) → AllNamed P vs → AllNamed P (items_done a vs)
  items_kept NoItems vs h = (tt, h)
  items_kept SortsItem vs h = (items_named (first (rest (rest (rest vs)))) (at1 (rest (rest (rest vs))) (past3 vs h)), past4 vs h)
  items_kept FunctionItem vs h =
      ((token_named (first (rest (rest vs))) (at1 (rest (rest vs)) (past2 vs h)), items_named (first (rest (rest (rest (rest (rest (rest vs))))))) (at1 (rest (rest (rest (rest (rest (rest vs)))))) (past6 vs h))), past7 vs h)
  items_kept VariablesItem vs h =
      ((tokens_named (first (rest (rest vs))) (at1 (rest (rest vs)) (past2 vs h)), items_named (first (rest (rest (rest (rest vs))))) (at1 (rest (rest (rest (rest vs)))) (past4 vs h))), past5 vs h)
  items_kept GraphItem vs h = (items_named (first (rest (rest (rest (rest (rest (rest vs))))))) (at1 (rest (rest (rest (rest (rest (rest vs)))))) (past6 vs h)), past7 vs h)
  items_kept RoundsItem vs h = (items_named (first (rest (rest (rest vs)))) (at1 (rest (rest (rest vs))) (past3 vs h)), past4 vs h)
  items_kept SplitItem vs h = (items_named (first (rest (rest vs))) (at1 (rest (rest vs)) (past2 vs h)), past3 vs h)
  items_kept EqualItem vs h = (items_named (first (rest (rest (rest (rest (rest vs)))))) (at1 (rest (rest (rest (rest (rest vs))))) (past5 vs h)), past6 vs h)
  items_kept MatchItem vs h = (items_named (first (rest (rest vs))) (at1 (rest (rest vs)) (past2 vs h)), past3 vs h)

  act_kept : (o : Option Action) (vs : List ValueSyntax) → AllNamed P vs → AllNamed P (act o vs)
  act_kept None vs h = h
  act_kept (Some (Names a)) vs h = names_kept a vs h
  act_kept (Some (Exprs a)) vs h = exprs_kept a vs h
  act_kept (Some (Conds a)) vs h = conds_kept a vs h
  act_kept (Some (Bodies a)) vs h = bodies_kept a vs h
  act_kept (Some (Matches a)) vs h = matches_kept a vs h
  act_kept (Some (Items a)) vs h = items_kept a vs h

  leaf_kept : (ts : List TokenParts) (vs : List ValueSyntax) → Each P ts → AllNamed P vs → AllNamed P (with_leaf actions ts vs)
  leaf_kept [] vs l h = h
  leaf_kept (t ∷ ts) vs l h = (l.0, h)

  step_kept : (step : Step) (ts : List TokenParts) (vs : List ValueSyntax) → Each P ts → AllNamed P vs → AllNamed P (step_values actions step ts vs)
  step_kept (Shift k) ts vs l h = act_kept (slice_get listed_actions k) (with_leaf actions ts vs) (leaf_kept ts vs l h)
  step_kept (Apply k) ts vs l h = act_kept (slice_get listed_actions k) vs h
  step_kept Match ts vs l h = leaf_kept ts vs l h
  step_kept Close ts vs l h = h

  values_kept : (steps : List Step) (ts : List TokenParts) → Each P ts → AllNamed P (values actions steps ts)
  values_kept [] ts l = tt
  values_kept (step ∷ steps) ts l = step_kept step ts (values actions steps (drop (taken_by step) ts)) l (values_kept steps (drop (taken_by step) ts) (each_drop P (taken_by step) ts l))

  pub spelled_named : (ts : List TokenParts) (end : ℕ) (is : List ItemSyntax) → AreSpelled ts end is → Each P ts → AreNamed P is
  spelled_named ts end is s l = let vs = values actions s.steps ts in subst (AreNamed P) s.value (items_named (first vs) (at1 vs (values_kept s.steps ts l)))
