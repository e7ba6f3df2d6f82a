-- Matched places of two graphs: how the states there are related.
use Rattle.std.specs.Prelude.{◌≡◌, ℕ, Bool, true, false, not, ◌&&◌, ◌||◌, nat_eq, List, [], ◌∷◌, slice_index_or}
use Rattle.kat_model.specs.Members.{Has}
use Rattle.flow_model.specs.Sorts.{State, IsState}
use Rattle.flow_model.specs.Expressions.{ExprTree}
use Rattle.flow_model.specs.Conditions.{CondTree, always}
use Rattle.flow_model.specs.Graphs.{Pair}
use Rattle.flow_model.specs.Matches.{Equation, Match}
use Rattle.flow_model.specs.Interpretations.{Interpretation, value, holds}
use Rattle.flow_ways.specs.Liveness.{reads, IsLive}

-- some of the equations gives the variable
abbrev pub gives : List Equation → ℕ → Bool
gives [] x = false
gives (e ∷ es) x = nat_eq e.variable x || gives es x

-- some of the equations reads the variable
abbrev pub equations_read : List Equation → ℕ → Bool
equations_read [] x = false
equations_read (e ∷ es) x = reads x e.expression || equations_read es x

-- No equation between both states speaks of the variable, so it has one value in both.
abbrev pub is_shared : Match → ℕ → Bool
is_shared m x = not (gives m.forth x) && (not (gives m.back x) && not (equations_read m.back x))

-- the match relates a state of the first graph with one of the second
pub record Relates (I : Interpretation) (p : Pair) (m : Match) (s t : State) : Type 0 where
  pub before_state : IsState p.sorts s
  pub after_state : IsState p.sorts t
  pub forth : (e : Equation) → Has m.forth e → IsLive p.after e.variable m.after → slice_index_or t e.variable 0 ≡ value I s e.expression
  pub back : (e : Equation) → Has m.back e → IsLive p.before e.variable m.before → slice_index_or s e.variable 0 ≡ value I t e.expression
  pub shared : (x : ℕ) → is_shared m x ≡ true → IsLive p.after x m.after → slice_index_or t x 0 ≡ slice_index_or s x 0
  pub keeping : (e : Equation) → Has m.keeping e → slice_index_or s e.variable 0 ≡ value I s e.expression
  pub condition : holds I s m.condition ≡ true

-- the match of both entries, which has no equations: states are related if they agree on what is live
abbrev pub entry_match : Match
entry_match = record { before = 0; after = 0; forth = []; back = []; keeping = []; condition = always }
