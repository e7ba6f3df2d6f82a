-- What trying a goal on a store shows.
use Rattle.std.specs.Prelude.{◌≡◌, ◌≢◌, ◌⊎◌, ◌<◌, ◌+◌, ℕ, List, [], ◌∷◌, slice_get, Some, true, false}
use Rattle.kat_model.specs.Expressions.{CondTree}
use Rattle.kat_model.specs.Stores.{Store, holds}
use Rattle.kat_model.specs.declared.expression.Width.{Width}
use Rattle.while_lang.specs.Programs.{ProgTree, is_concrete}
use Rattle.while_lang.specs.Runs.{Ends, HasOutcome}
use Rattle.while_lang.specs.declared.outcome.Outcome.{Outcome}
use Rattle.while_lang.specs.declared.outcome.Outcome.TheVariants.{Done, Stuck, More}
use Rattle.while_lang.specs.Files.{GoalTree, equal, below, triple, SideTree, term_side, prog_side}
use Rattle.store_trials.specs.RunEnds.{EndParts}
use Rattle.store_trials.specs.declared.trials.Trial.{Trial}
use Rattle.store_trials.specs.declared.trials.Trial.TheVariants.{Fails, NoneFails}

-- ---- the goal is false on a store

-- from the store, one of the programs ends in a store in which the other does not end
abbrev pub EndApart : Width → ProgTree → ProgTree → Store → Type 0
EndApart w p q s = ((t : Store) × Ends w p s t × (Ends w q s t → ⊥)) ⊎ ((t : Store) × (Ends w p s t → ⊥) × Ends w q s t)

-- the first condition holds in the store, and the program ends from there in a store in which the second fails
abbrev pub BreaksTriple : Width → CondTree → ProgTree → CondTree → Store → Type 0
BreaksTriple w b p c s = (holds w s b ≡ true) × ((t : Store) × Ends w p s t × (holds w t c ≡ false))

-- the goal, of two programs or a triple of one, is false from the store
abbrev pub IsFalseFrom : Width → GoalTree → Store → Type 0
IsFalseFrom w (equal (prog_side p) (prog_side q)) s = EndApart w p q s
IsFalseFrom w (triple b (prog_side p) c) s = BreaksTriple w b p c s
IsFalseFrom w goal s = ⊥

-- ---- runs of a limited number of turns

-- the run of a side that is a program, from a store and with at most `n` turns, ends like this
abbrev pub SideEndsAs : Width → ℕ → SideTree → Store → EndParts → Type 0
SideEndsAs w n (term_side e) s end = ⊥
SideEndsAs w n (prog_side p) s end = HasOutcome w p s n end.outcome end.store

-- Two ends of runs from one store are different: both ended, in two stores, or one ended and the other is stuck. A run
-- that was cut short shows nothing.
abbrev pub OutcomesDiffer : Outcome → Store → Outcome → Store → Type 0
OutcomesDiffer Done t Done u = t ≢ u
OutcomesDiffer Done t Stuck u = Unit {0}
OutcomesDiffer Done t More u = ⊥
OutcomesDiffer Stuck t Done u = Unit {0}
OutcomesDiffer Stuck t Stuck u = ⊥
OutcomesDiffer Stuck t More u = ⊥
OutcomesDiffer More t r u = ⊥

abbrev pub AreDifferent : EndParts → EndParts → Type 0
AreDifferent d e = OutcomesDiffer d.outcome d.store e.outcome e.store

-- the run ended in a store in which the condition fails
abbrev pub OutcomeFails : Width → CondTree → Outcome → Store → Type 0
OutcomeFails w c Done t = holds w t c ≡ false
OutcomeFails w c Stuck t = ⊥
OutcomeFails w c More t = ⊥

-- the ends of the runs of a goal from a store: of both sides, or of the one of a triple
abbrev pub AreEnds : Width → ℕ → GoalTree → Store → List EndParts → Type 0
AreEnds w n (equal l r) s (d ∷ e ∷ []) = SideEndsAs w n l s d × SideEndsAs w n r s e
AreEnds w n (triple b l c) s (e ∷ []) = SideEndsAs w n l s e
AreEnds w n goal s ends = ⊥

-- the ends show that the goal is false from the store
abbrev pub ShowFalse : Width → GoalTree → Store → List EndParts → Type 0
ShowFalse w (equal l r) s (d ∷ e ∷ []) = AreDifferent d e
ShowFalse w (triple b l c) s (e ∷ []) = (holds w s b ≡ true) × OutcomeFails w c e.outcome e.store
ShowFalse w goal s ends = ⊥

-- ---- a list of stores

-- the runs that were cut short, among the ends
abbrev pub cut_of : Outcome → ℕ
cut_of Done = 0
cut_of Stuck = 0
cut_of More = 1

abbrev pub cuts : List EndParts → ℕ
cuts [] = 0
cuts (e ∷ es) = cut_of e.outcome + cuts es

-- the ends from the store at this position do not show that the goal is false
abbrev pub NeverShown : Width → ℕ → GoalTree → List Store → ℕ → Type 0
NeverShown w n g stores i = (s : Store) (ends : List EndParts) → slice_get stores i ≡ Some s → AreEnds w n g s ends → ShowFalse w g s ends → ⊥

-- the store is the first of the list from which the ends show that the goal is false; these are its ends
pub record IsFirstFalse (w : Width) (n : ℕ) (g : GoalTree) (stores : List Store) (s : Store) (ends : List EndParts) : Type 0 where
  pub position : ℕ
  pub listed : slice_get stores position ≡ Some s
  pub are_ends : AreEnds w n g s ends
  pub show_false : ShowFalse w g s ends
  pub first : (j : ℕ) → j < position → NeverShown w n g stores j

-- from no store of the list do the ends show that the goal is false, and that many runs were cut short
abbrev pub NoneShown : Width → ℕ → GoalTree → List Store → ℕ → Type 0
NoneShown w n g [] c = c ≡ 0
NoneShown w n g (s ∷ ss) c =
    (ends : List EndParts) × (d : ℕ) × AreEnds w n g s ends × (ShowFalse w g s ends → ⊥) × NoneShown w n g ss d × (c ≡ cuts ends + d)

-- what trying the goal on the stores of the list shows
abbrev pub IsTrial : Width → ℕ → GoalTree → List Store → Trial → Type 0
IsTrial w n g stores (Fails s ends) = IsFirstFalse w n g stores s ends
IsTrial w n g stores (NoneFails c) = NoneShown w n g stores c

-- the goal is of two programs or a triple of one, without named tests and named actions
abbrev pub IsConcreteSide : SideTree → Type 0
IsConcreteSide (term_side e) = ⊥
IsConcreteSide (prog_side p) = is_concrete p ≡ true

abbrev pub IsConcreteGoal : GoalTree → Type 0
IsConcreteGoal (equal l r) = IsConcreteSide l × IsConcreteSide r
IsConcreteGoal (below l r) = ⊥
IsConcreteGoal (triple b l c) = IsConcreteSide l
