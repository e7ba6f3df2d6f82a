-- Unit propagation along hints. A clause follows from others by reverse unit propagation (Goldberg and Novikov 2003)
-- if the assumption that all its literals are false leads to a conflict. The hints say which clauses propagate, in
-- order. The literals that are false are listed in the order in which they become false.
use Rattle.std.specs.Prelude.{◌≡◌, ◌⊎◌, ℕ, Bool, true, false, List, [], ◌∷◌, ◌++◌}
use Rattle.kat_model.specs.Members.{Has, IsSubset}
use Rattle.lrat_checker.specs.Literals.{opposite}
use Rattle.lrat_checker.specs.declared.literal.Literal.{Literal}
use Rattle.lrat_checker.specs.declared.answer.Reason.{Reason}
use Rattle.lrat_checker.specs.declared.answer.Reason.TheVariants.{UnknownHint, DeletedHint, HintNotUnit, NoConflict, Resolvents}

-- what an id denotes: nothing so far, a clause that was deleted, or a clause
pub data Entry : Type 0 where
  absent : Entry
  deleted : Entry
  present : (clause : List Literal) → Entry

-- all literals of the clause are false
abbrev pub IsFalsified : List Literal → List Literal → Type 0
IsFalsified falses clause = IsSubset clause falses

-- the clause is unit: all of its literals are false except this one
pub record IsUnit (falses clause : List Literal) (l : Literal) : Type 0 where
  pub member : Has clause l
  pub not_false : Has falses l → ⊥
  pub others : (m : Literal) → Has clause m → (m ≡ l) ⊎ Has falses m

-- the clause is neither falsified nor unit
pub record IsOpen (falses clause : List Literal) : Type 0 where
  pub not_falsified : IsFalsified falses clause → ⊥
  pub not_unit : (l : Literal) → IsUnit falses clause l → ⊥

-- Unit propagation along the hints leads to a conflict: the clause of each hint is unit, which makes its literal true,
-- up to one whose clause is falsified.
abbrev pub LeadsToConflict : (ℕ → Entry) → List Literal → List ℕ → Type 0
LeadsToConflict known falses [] = ⊥
LeadsToConflict known falses (hint ∷ hints) =
    (clause : List Literal) × (known hint ≡ present clause) × (IsFalsified falses clause ⊎ ((l : Literal) × IsUnit falses clause l × LeadsToConflict known (falses ++ opposite l ∷ []) hints))

-- why hints that all propagate prove nothing
abbrev pub end_reason : Bool → Reason
end_reason true = Resolvents
end_reason false = NoConflict

-- the reason why a hint fails, or that of the hints after it
abbrev pub IsHintReason : ℕ → List Literal → (List Literal → Type 0) → Entry → Reason → Type 0
IsHintReason hint falses More absent reason = reason ≡ UnknownHint hint
IsHintReason hint falses More deleted reason = reason ≡ DeletedHint hint
IsHintReason hint falses More (present clause) reason =
    (IsOpen falses clause × (reason ≡ HintNotUnit hint)) ⊎ ((l : Literal) × IsUnit falses clause l × More (falses ++ opposite l ∷ []))

-- why unit propagation along the hints leads to no conflict: the first hint that fails, or the end of the hints
abbrev pub IsHintsReason : (ℕ → Entry) → List Literal → List ℕ → Bool → Reason → Type 0
IsHintsReason known falses [] resolvents reason = reason ≡ end_reason resolvents
IsHintsReason known falses (hint ∷ hints) resolvents reason =
    IsHintReason hint falses (λ more. IsHintsReason known more hints resolvents reason) (known hint) reason
