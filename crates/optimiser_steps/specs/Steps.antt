-- The twelve steps of the optimiser. Each rewrites the first statement of a list, or the first two.
use Rattle.std.specs.Prelude.{◌≡◌, ℕ, zero, suc, List, [], ◌∷◌, ◌++◌}
use Rattle.kat_model.specs.Expressions.{always, negation}
use Rattle.while_lang.specs.Files.{FileParts}
use Rattle.while_lang.specs.Programs.{empty, branch_then, loop_then, StmtTree, skip, abort, assert, branch, loop, prog_of, stmts_of}
use Rattle.optimiser_steps.specs.Validity.{IsValid, HoldsAlways, HoldsNever}
use Rattle.optimiser_steps.specs.Statements.{single}

-- S1: removes a `skip`
abbrev pub LeavesOutSkip : List StmtTree → List StmtTree → Type 0
LeavesOutSkip (skip ∷ rest) ts = ts ≡ rest
LeavesOutSkip ss ts = ⊥

-- S2: removes the statement after an `abort`, since no run reaches it
abbrev pub LeavesOutUnreached : List StmtTree → List StmtTree → Type 0
LeavesOutUnreached (abort ∷ s ∷ rest) ts = ts ≡ abort ∷ rest
LeavesOutUnreached ss ts = ⊥

-- S3: removes an `assert` whose condition always holds
abbrev pub LeavesOutAssert : FileParts → List StmtTree → List StmtTree → Type 0
LeavesOutAssert f (assert b ∷ rest) ts = HoldsAlways f b × (ts ≡ rest)
LeavesOutAssert f ss ts = ⊥

-- S4: replaces an `if` whose condition always holds by its first block
abbrev pub TakesFirstBlock : FileParts → List StmtTree → List StmtTree → Type 0
TakesFirstBlock f (branch b p q ∷ rest) ts = HoldsAlways f b × (ts ≡ stmts_of p ++ rest)
TakesFirstBlock f ss ts = ⊥

-- S5: replaces an `if` whose condition never holds by its second block
abbrev pub TakesSecondBlock : FileParts → List StmtTree → List StmtTree → Type 0
TakesSecondBlock f (branch b p q ∷ rest) ts = HoldsNever f b × (ts ≡ stmts_of q ++ rest)
TakesSecondBlock f ss ts = ⊥

-- S6: removes a `while` whose condition never holds
abbrev pub LeavesOutLoop : FileParts → List StmtTree → List StmtTree → Type 0
LeavesOutLoop f (loop b p ∷ rest) ts = HoldsNever f b × (ts ≡ rest)
LeavesOutLoop f ss ts = ⊥

-- S7: replaces an `if` with two equal blocks by that block
abbrev pub TakesEitherBlock : List StmtTree → List StmtTree → Type 0
TakesEitherBlock (branch b p q ∷ rest) ts = (p ≡ q) × (ts ≡ stmts_of p ++ rest)
TakesEitherBlock ss ts = ⊥

-- S8: if both blocks of an `if` end with the same statement r, moves r after the `if`
abbrev pub SharesLastStatement : List StmtTree → List StmtTree → Type 0
SharesLastStatement (branch b p q ∷ rest) ts =
    (ps qs : List StmtTree) × (r : StmtTree)
    × (stmts_of p ≡ ps ++ r ∷ [])
    × (stmts_of q ≡ qs ++ r ∷ [])
    × (ts ≡ branch b (prog_of ps) (prog_of qs) ∷ r ∷ rest)
SharesLastStatement ss ts = ⊥

-- S9: replaces an `if` after a statement that makes its condition true by its first block
abbrev pub TakesFirstBlockAfter : FileParts → List StmtTree → List StmtTree → Type 0
TakesFirstBlockAfter f (s ∷ branch c p q ∷ rest) ts = IsValid f always (single s) c × (ts ≡ s ∷ stmts_of p ++ rest)
TakesFirstBlockAfter f ss ts = ⊥

-- S10: after a statement that makes the condition false, replaces an `if` by its second block, and removes a `while`
abbrev pub TakesSecondBlockAfter : FileParts → List StmtTree → List StmtTree → Type 0
TakesSecondBlockAfter f (s ∷ branch c p q ∷ rest) ts = IsValid f always (single s) (negation c) × (ts ≡ s ∷ stmts_of q ++ rest)
TakesSecondBlockAfter f (s ∷ loop c p ∷ rest) ts = IsValid f always (single s) (negation c) × (ts ≡ s ∷ rest)
TakesSecondBlockAfter f ss ts = ⊥

-- S11: turns a `while` whose body is an `if` into an `if` of two loops, if the first block keeps the inner condition
-- true and the second keeps it false (loop unswitching)
abbrev pub UnswitchesLoop : FileParts → List StmtTree → List StmtTree → Type 0
UnswitchesLoop f (loop b (branch_then c p q empty) ∷ rest) ts =
    IsValid f c p c × IsValid f (negation c) q (negation c) × (ts ≡ branch c (single (loop b p)) (single (loop b q)) ∷ rest)
UnswitchesLoop f ss ts = ⊥

-- S12: in a `while` whose body is a `while` or an `if` on the same condition, replaces the body by the (first) block of
-- that statement
abbrev pub FlattensLoop : List StmtTree → List StmtTree → Type 0
FlattensLoop (loop b (loop_then c p empty) ∷ rest) ts = (b ≡ c) × (ts ≡ loop b p ∷ rest)
FlattensLoop (loop b (branch_then c p q empty) ∷ rest) ts = (b ≡ c) × (ts ≡ loop b p ∷ rest)
FlattensLoop ss ts = ⊥

-- the n-th fact of the list holds, counted from 1
abbrev pub NthHolds : ℕ → List (Type 0) → Type 0
NthHolds n [] = ⊥
NthHolds zero (A ∷ As) = ⊥
NthHolds (suc zero) (A ∷ As) = A
NthHolds (suc (suc n)) (A ∷ As) = NthHolds (suc n) As

-- the steps from the first list to the second, in order from S1
abbrev pub step_relations : FileParts → List StmtTree → List StmtTree → List (Type 0)
step_relations f ss ts =
    LeavesOutSkip ss ts
    ∷ LeavesOutUnreached ss ts
    ∷ LeavesOutAssert f ss ts
    ∷ TakesFirstBlock f ss ts
    ∷ TakesSecondBlock f ss ts
    ∷ LeavesOutLoop f ss ts
    ∷ TakesEitherBlock ss ts
    ∷ SharesLastStatement ss ts
    ∷ TakesFirstBlockAfter f ss ts
    ∷ TakesSecondBlockAfter f ss ts
    ∷ UnswitchesLoop f ss ts
    ∷ FlattensLoop ss ts
    ∷ []

-- step n takes the first list to the second
abbrev pub Step : FileParts → ℕ → List StmtTree → List StmtTree → Type 0
Step f n ss ts = NthHolds n (step_relations f ss ts)
