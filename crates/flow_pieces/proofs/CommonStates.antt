-- The state from which both sides of a piece run: that of the first graph, but that of the second on the variables that
-- `back` gives or reads. After their openings the sides have states that agree with those of the graphs on what is live.
use Rattle.std.proofs.Common.{◌≡◌, ◌⊎◌, inl, inr, ℕ, zero, suc, ◌<◌, Bool, true, false, not, ◌&&◌, ◌||◌, nat_eq, List, [], ◌∷◌, ◌++◌, length, map, set, Some, None, slice_index_or, if◌then◌else◌, refl, sym, ◌∙◌, ap, subst, arith}
use Rattle.std.proofs.lemmas.Bool.{or_cases, or_left, or_right, or_from, or_parts, and_from, eqb-true, eq-eqb, cases_eq, false≢true, false_from_ne_true}
use Rattle.std.proofs.lemmas.List.{length-set, set-get_or, get_or-set_same, get_or-set_other}
use Rattle.std.proofs.lemmas.Option.{slice_get_within}
use Rattle.kat_model.specs.Members.{Has}
use Rattle.flow_model.specs.declared.sort.Sort.{Sort}
use Rattle.flow_model.specs.Sorts.{State, IsState, IsValue}
use Rattle.flow_model.specs.Expressions.{ExprTree}
use Rattle.flow_model.specs.Conditions.{CondTree}
use Rattle.flow_model.specs.Graphs.{Pair}
use Rattle.flow_model.specs.Interpretations.{Interpretation, value, holds}
use Rattle.flow_model.specs.Runs.{with_values, after_statements}
use Rattle.flow_ways.specs.Liveness.{reads, cond_reads, IsLive}
use Rattle.flow_ways.specs.Sorted.{AreAssigned}
use Rattle.flow_ways.proofs.LiveRuns.{length-with_values}
use Rattle.flow_model.specs.Matches.{Equation, Match}
use Rattle.flow_pieces.specs.Matches.{gives, equations_read, is_shared, Relates}
use Rattle.flow_pieces.specs.PieceGraphs.{equations_hold, assigned, known_at}
use Rattle.flow_pieces.specs.PieceQuestions.{IsOfBack, IsProper, AreSortedEquations}
use Rattle.flow_pieces.proofs.Readings.{value_agrees, holds_agrees}
use Rattle.flow_pieces.proofs.SortedStates.{state_length, assigned_state}
use Rattle.flow_pieces.proofs.LiveRelations.{AgreeAt}

-- ---- mixed states

-- the second state on the variables of a set, else the first
abbrev mixed : (ℕ → Bool) → State → State → State
mixed b (m ∷ s) (n ∷ t) = (if b 0 then n else m) ∷ mixed (λ k. b (suc k)) s t
mixed b s t = s

mixed_state : (b : ℕ → Bool) (sorts : List Sort) (s t : State) → IsState sorts s → IsState sorts t → IsState sorts (mixed b s t)
mixed_state b [] [] [] h g = h
mixed_state b [] [] (n ∷ t) h g = absurd g
mixed_state b [] (m ∷ s) t h g = absurd h
mixed_state b (sort ∷ sorts) [] t h g = absurd h
mixed_state b (sort ∷ sorts) (m ∷ s) [] h g = absurd g
mixed_state b (sort ∷ sorts) (m ∷ s) (n ∷ t) h g = (by_side (b 0) h.0 g.0, mixed_state (λ k. b (suc k)) sorts s t h.1 g.1)
  where
    by_side : (c : Bool) → IsValue sort m → IsValue sort n → IsValue sort (if c then n else m)
    by_side true one other = other
    by_side false one other = one

-- the value of a variable of the set
mixed_inside : (b : ℕ → Bool) (s t : State) (x : ℕ) → length s ≡ length t → b x ≡ true → slice_index_or (mixed b s t) x 0 ≡ slice_index_or t x 0
mixed_inside b [] [] x l e = refl
mixed_inside b [] (n ∷ t) x l e = absurd (omega (arith, l))
mixed_inside b (m ∷ s) [] x l e = absurd (omega (arith, l))
mixed_inside b (m ∷ s) (n ∷ t) zero l e = ap (λ c. if c then n else m) e
mixed_inside b (m ∷ s) (n ∷ t) (suc x) l e = mixed_inside (λ k. b (suc k)) s t x (omega (arith, l)) e

mixed_outside : (b : ℕ → Bool) (s t : State) (x : ℕ) → length s ≡ length t → b x ≡ false → slice_index_or (mixed b s t) x 0 ≡ slice_index_or s x 0
mixed_outside b [] [] x l e = refl
mixed_outside b [] (n ∷ t) x l e = absurd (omega (arith, l))
mixed_outside b (m ∷ s) [] x l e = absurd (omega (arith, l))
mixed_outside b (m ∷ s) (n ∷ t) zero l e = ap (λ c. if c then n else m) e
mixed_outside b (m ∷ s) (n ∷ t) (suc x) l e = mixed_outside (λ k. b (suc k)) s t x (omega (arith, l)) e

-- ---- equations

given_by : (qs : List Equation) (q : Equation) → Has qs q → gives qs q.variable ≡ true
given_by [] q h = absurd h
given_by (r ∷ qs) q (inl e) = or_left (nat_eq r.variable q.variable) (gives qs q.variable) (eq-eqb r.variable q.variable (ap (λ z. z.variable) e))
given_by (r ∷ qs) q (inr h) = or_right (nat_eq r.variable q.variable) (gives qs q.variable) (given_by qs q h)

read_by : (qs : List Equation) (q : Equation) (x : ℕ) → Has qs q → reads x q.expression ≡ true → equations_read qs x ≡ true
read_by [] q x h r = absurd h
read_by (p ∷ qs) q x (inl e) r = or_left (reads x p.expression) (equations_read qs x) (ap (λ z. reads x z.expression) e ∙ r)
read_by (p ∷ qs) q x (inr h) r = or_right (reads x p.expression) (equations_read qs x) (read_by qs q x h r)

abbrev variables_of : List Equation → List ℕ
variables_of qs = map (λ q. q.variable) qs

abbrev expressions_of : List Equation → List ExprTree
expressions_of qs = map (λ q. q.expression) qs

all_assigned : (sorts : List Sort) (qs : List Equation) → AreSortedEquations sorts qs → AreAssigned sorts (variables_of qs) (expressions_of qs)
all_assigned sorts [] h = tt
all_assigned sorts (q ∷ qs) h = ((h q (inl refl)).0, (h q (inl refl)).1, all_assigned sorts qs (λ r m. h r (inr m)))

-- assigning what holds changes nothing
nothing_changes : (I : Interpretation) (u s : State) (qs : List Equation) → s ≡ u → ((q : Equation) → Has qs q → slice_index_or u q.variable 0 ≡ value I u q.expression) → with_values s (variables_of qs) (map (value I u) (expressions_of qs)) ≡ u
nothing_changes I u s [] e h = e
nothing_changes I u s (q ∷ qs) e h =
    nothing_changes I u (set s q.variable (value I u q.expression)) qs
    (ap (λ n. set s q.variable n) (sym (h q (inl refl))) ∙ (ap (λ v. set v q.variable (slice_index_or u q.variable 0)) e ∙ set-get_or u q.variable 0))
    (λ r m. h r (inr m))

-- a variable that is given a value w by each of its equations, or has it already
given_value : (I : Interpretation) (u s : State) (qs : List Equation) (x w : ℕ) → ((q : Equation) → Has qs q → q.variable < length s) → ((q : Equation) → Has qs q → q.variable ≡ x → value I u q.expression ≡ w) →
    (gives qs x ≡ true) ⊎ (slice_index_or s x 0 ≡ w) → slice_index_or (with_values s (variables_of qs) (map (value I u) (expressions_of qs))) x 0 ≡ w
given_value I u s [] x w within f (inl e) = absurd (false≢true e)
given_value I u s [] x w within f (inr e) = e
given_value I u s (q ∷ qs) x w within f h =
    given_value I u (set s q.variable (value I u q.expression)) qs x w
    (λ r m. let l = within r (inr m) in simp length-set l)
    (λ r m. f r (inr m)) (by_variable (cases_eq q.variable x) h)
  where
    other : (q.variable ≡ x → ⊥) → (nat_eq q.variable x ≡ true) ⊎ (gives qs x ≡ true) → gives qs x ≡ true
    other n (inl e) = absurd (n (eqb-true q.variable x e))
    other n (inr e) = e

    later : (q.variable ≡ x → ⊥) → (gives (q ∷ qs) x ≡ true) ⊎ (slice_index_or s x 0 ≡ w) → (gives qs x ≡ true) ⊎ (slice_index_or (set s q.variable (value I u q.expression)) x 0 ≡ w)
    later n (inl e) = inl (other n (or_cases (nat_eq q.variable x) (gives qs x) e))
    later n (inr e) = inr (get_or-set_other s q.variable x (value I u q.expression) 0 (λ same. n (sym same)) ∙ e)

    by_variable : (q.variable ≡ x) ⊎ (q.variable ≡ x → ⊥) → (gives (q ∷ qs) x ≡ true) ⊎ (slice_index_or s x 0 ≡ w) → (gives qs x ≡ true) ⊎ (slice_index_or (set s q.variable (value I u q.expression)) x 0 ≡ w)
    by_variable (inl e) g =
        inr (ap (λ y. slice_index_or (set s q.variable (value I u q.expression)) y 0) (sym e)
        ∙ (get_or-set_same s q.variable (value I u q.expression) 0 (within q (inl refl)) ∙ f q (inl refl) e))
    by_variable (inr n) g = later n g

-- equations that hold, as a condition
hold_all : (I : Interpretation) (u : State) (qs : List Equation) (b : CondTree) → ((q : Equation) → Has qs q → slice_index_or u q.variable 0 ≡ value I u q.expression) → holds I u b ≡ true → holds I u (equations_hold qs b) ≡ true
hold_all I u [] b h e = e
hold_all I u (q ∷ qs) b h e =
    and_from (nat_eq (slice_index_or u q.variable 0) (value I u q.expression)) (holds I u (equations_hold qs b)) (eq-eqb (slice_index_or u q.variable 0) (value I u q.expression) (h q (inl refl))) (hold_all I u qs b (λ r m. h r (inr m)) e)

-- ---- the common state

module _ (I : Interpretation) (p : Pair) (m : Match) (s t : State) (proper : IsProper p m) (related : Relates I p m s t) where
  abbrev of_back : ℕ → Bool
  of_back x = gives m.back x || equations_read m.back x

  abbrev pub common : State
  common = mixed of_back s t

  pub common_state : IsState p.sorts common
  common_state = mixed_state of_back p.sorts s t related.before_state related.after_state

  same_length : length s ≡ length t
  same_length = state_length p.sorts s related.before_state ∙ sym (state_length p.sorts t related.after_state)

  common_length : length common ≡ length s
  common_length = state_length p.sorts common common_state ∙ sym (state_length p.sorts s related.before_state)

  from_second : (x : ℕ) → of_back x ≡ true → slice_index_or common x 0 ≡ slice_index_or t x 0
  from_second x e = mixed_inside of_back s t x same_length e

  from_first : (x : ℕ) → of_back x ≡ false → slice_index_or common x 0 ≡ slice_index_or s x 0
  from_first x e = mixed_outside of_back s t x same_length e

  -- what is not read or given where a variable is of `back` is read or given only where it is not
  apart : (x : ℕ) (b : Bool) → b ≡ true → (IsOfBack m x → b ≡ false) → of_back x ≡ false
  apart x b e f = false_from_ne_true (of_back x) (λ h. false≢true (sym (f (or_cases (gives m.back x) (equations_read m.back x) h)) ∙ e))

  forth_value : (q : Equation) → Has m.forth q → value I common q.expression ≡ value I s q.expression
  forth_value q h =
      value_agrees I common s q.expression common_length
      (λ x r. from_first x (apart x (equations_read m.forth x) (read_by m.forth q x h r) (λ o. (proper.unread x o).0)))

  keeping_value : (q : Equation) → Has m.keeping q → value I common q.expression ≡ value I s q.expression
  keeping_value q h =
      value_agrees I common s q.expression common_length
      (λ x r. from_first x (apart x (equations_read m.keeping x) (read_by m.keeping q x h r) (λ o. (proper.unread x o).1)))

  back_value : (q : Equation) → Has m.back q → value I common q.expression ≡ value I t q.expression
  back_value q h =
      value_agrees I common t q.expression (common_length ∙ same_length)
      (λ x r. from_second x (or_right (gives m.back x) (equations_read m.back x) (read_by m.back q x h r)))

  -- the equations of the first graph hold
  keeping_holds : (q : Equation) → Has m.keeping q → slice_index_or common q.variable 0 ≡ value I common q.expression
  keeping_holds q h =
      from_first q.variable (apart q.variable (gives m.keeping q.variable) (given_by m.keeping q h) (λ o. (proper.ungiven q.variable o).1))
      ∙ (related.keeping q h ∙ sym (keeping_value q h))

  condition_holds : holds I common m.condition ≡ true
  condition_holds =
      holds_agrees I common s m.condition common_length
      (λ x r. from_first x (apart x (cond_reads x m.condition) r (λ o. (proper.unread x o).2)))
      ∙ related.condition

  -- the state after the opening with the equations `qs`
  abbrev pub opened : List Equation → State
  opened qs = with_values common (variables_of qs) (map (value I common) (expressions_of qs))

  pub opens : (qs : List Equation) → after_statements I common (known_at m ++ assigned qs ∷ []) ≡ Some (opened qs)
  opens qs =
      ap (λ c. if c then after_statements I (opened m.keeping) (assigned qs ∷ []) else None) (hold_all I common m.keeping m.condition keeping_holds condition_holds)
      ∙ ap (λ v. after_statements I v (assigned qs ∷ [])) (nothing_changes I common common m.keeping refl keeping_holds)

  opened_state : (qs : List Equation) → AreSortedEquations p.sorts qs → IsState p.sorts (opened qs)
  opened_state qs h = assigned_state I p.sorts common common_state common common_state (variables_of qs) (expressions_of qs) (all_assigned p.sorts qs h)

  opened_length : (qs : List Equation) → length (opened qs) ≡ length s
  opened_length qs = length-with_values common (variables_of qs) (map (value I common) (expressions_of qs)) ∙ common_length

  within : (qs : List Equation) → AreSortedEquations p.sorts qs → (q : Equation) → Has qs q → q.variable < length common
  within qs h q g =
      let place = slice_get_within p.sorts q.variable _ (h q g).0 in
      let long = state_length p.sorts common common_state in
      omega (arith, place, long)

  pub before_state : IsState p.sorts (opened m.back)
  before_state = opened_state m.back proper.back_sorted

  pub after_state : IsState p.sorts (opened m.forth)
  after_state = opened_state m.forth proper.forth_sorted

  -- the first side has the values of the first graph
  pub before_agrees : AgreeAt p.before m.before (opened m.back) s
  before_agrees = (opened_length m.back, λ x live. given_value I common common m.back x (slice_index_or s x 0) (within m.back proper.back_sorted) (given x live) (by_gives x live (gives m.back x) refl))
    where
      given : (x : ℕ) → IsLive p.before x m.before → (q : Equation) → Has m.back q → q.variable ≡ x → value I common q.expression ≡ slice_index_or s x 0
      given x live q h e =
          back_value q h ∙ (sym (related.back q h (subst (λ y. IsLive p.before y m.before) (sym e) live)) ∙ ap (λ y. slice_index_or s y 0) e)

      unread : (x : ℕ) → IsLive p.before x m.before → gives m.back x ≡ false → equations_read m.back x ≡ false
      unread x live e = false_from_ne_true (equations_read m.back x) (λ r. false≢true (sym e ∙ proper.own x r live))

      by_gives : (x : ℕ) → IsLive p.before x m.before → (b : Bool) → gives m.back x ≡ b → (gives m.back x ≡ true) ⊎ (slice_index_or common x 0 ≡ slice_index_or s x 0)
      by_gives x live true e = inl e
      by_gives x live false e = inr (from_first x (or_from (gives m.back x) (equations_read m.back x) e (unread x live e)))

  -- the second side has the values of the second graph
  pub after_agrees : AgreeAt p.after m.after (opened m.forth) t
  after_agrees = (
    opened_length m.forth ∙ same_length,
    λ x live. given_value I common common m.forth x (slice_index_or t x 0) (within m.forth proper.forth_sorted) (given x live) (by_gives x live (gives m.forth x) refl),
  )
    where
      given : (x : ℕ) → IsLive p.after x m.after → (q : Equation) → Has m.forth q → q.variable ≡ x → value I common q.expression ≡ slice_index_or t x 0
      given x live q h e =
          forth_value q h ∙ (sym (related.forth q h (subst (λ y. IsLive p.after y m.after) (sym e) live)) ∙ ap (λ y. slice_index_or t y 0) e)

      shared : (x : ℕ) → gives m.forth x ≡ false → of_back x ≡ false → is_shared m x ≡ true
      shared x e o =
          let parts = or_parts (gives m.back x) (equations_read m.back x) o in
          and_from (not (gives m.forth x)) (not (gives m.back x) && not (equations_read m.back x)) (ap not e)
          (and_from (not (gives m.back x)) (not (equations_read m.back x)) (ap not parts.0) (ap not parts.1))

      by_back : (x : ℕ) → IsLive p.after x m.after → gives m.forth x ≡ false → (c : Bool) → of_back x ≡ c → slice_index_or common x 0 ≡ slice_index_or t x 0
      by_back x live e true o = from_second x o
      by_back x live e false o = from_first x o ∙ sym (related.shared x (shared x e o) live)

      by_gives : (x : ℕ) → IsLive p.after x m.after → (b : Bool) → gives m.forth x ≡ b → (gives m.forth x ≡ true) ⊎ (slice_index_or common x 0 ≡ slice_index_or t x 0)
      by_gives x live true e = inl e
      by_gives x live false e = inr (by_back x live e (of_back x) refl)
