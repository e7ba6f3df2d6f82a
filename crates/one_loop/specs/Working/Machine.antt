-- The machine of a program: its statements as numbered points. Point 0 is the end. The points of a block are numbered
-- from its last statement to its first, and the points of the blocks in a statement come after the statement itself.
use Rattle.std.specs.Prelude.{◌≡◌, ℕ, zero, suc, ◌+◌, List, [], ◌∷◌, ◌++◌, slice_get, Some, true, if◌then◌else◌, set}
use Rattle.kat_model.specs.Expressions.{ExprTree, CondTree}
use Rattle.kat_model.specs.Stores.{Store, value, holds}
use Rattle.kat_model.specs.declared.expression.Width.{Width}
use Rattle.while_lang.specs.Programs.{ProgTree, empty, skip_then, abort_then, assert_then, act_then, assign_then, branch_then, loop_then, StmtTree, skip, abort, assert, act, assign, branch, loop, statements}

-- the action at a point, and the number of the point that follows
pub data Point : Type 0 where
  passes : (next : ℕ) → Point
  stops : Point
  checks : (b : CondTree) (next : ℕ) → Point
  sets : (x : ℕ) (e : ExprTree) (next : ℕ) → Point
  chooses : (b : CondTree) (met unmet : ℕ) → Point

-- a point leads from a store to the point k and the store t
abbrev pub Steps : Width → Point → Store → ℕ → Store → Type 0
Steps w (passes next) s k t = (k ≡ next) × (t ≡ s)
Steps w stops s k t = ⊥
Steps w (checks b next) s k t = (holds w s b ≡ true) × (k ≡ next) × (t ≡ s)
Steps w (sets x e next) s k t = (k ≡ next) × (t ≡ set s x (value w s e))
Steps w (chooses b met unmet) s k t = (k ≡ (if holds w s b then met else unmet)) × (t ≡ s)

-- the point with a number; points are numbered from 1
abbrev pub IsPointAt : List Point → ℕ → Point → Type 0
IsPointAt points zero point = ⊥
IsPointAt points (suc k) point = slice_get points k ≡ Some point

-- n steps lead from the point k and the store s to the end and the store t
abbrev pub Halts : Width → List Point → ℕ → ℕ → Store → Store → Type 0
Halts w points zero k s t = (k ≡ 0) × (t ≡ s)
Halts w points (suc n) k s t =
    (point : Point) × (next : ℕ) × (u : Store) × IsPointAt points k point × Steps w point s next u × Halts w points n next u t

-- the number of the first statement of a program whose points follow `before` others, or of the point after the program
-- if it is empty
unfoldable pub start_of : ProgTree → ℕ → ℕ → ℕ
start_of empty before next = next
start_of (skip_then rest) before next = before + statements rest + 1
start_of (abort_then rest) before next = before + statements rest + 1
start_of (assert_then b rest) before next = before + statements rest + 1
start_of (act_then a rest) before next = before + statements rest + 1
start_of (assign_then x e rest) before next = before + statements rest + 1
start_of (branch_then b p q rest) before next = before + statements rest + 1
start_of (loop_then b p rest) before next = before + statements rest + 1

-- the points of a program after `before` others, in order; `next` is the point after the program. A named action stops
unfoldable pub points_of : ProgTree → ℕ → ℕ → List Point
points_of empty before next = []
points_of (skip_then rest) before next = points_of rest before next ++ passes (start_of rest before next) ∷ []
points_of (abort_then rest) before next = points_of rest before next ++ stops ∷ []
points_of (assert_then b rest) before next = points_of rest before next ++ checks b (start_of rest before next) ∷ []
points_of (act_then a rest) before next = points_of rest before next ++ stops ∷ []
points_of (assign_then x e rest) before next = points_of rest before next ++ sets x e (start_of rest before next) ∷ []
points_of (branch_then b p q rest) before next =
    points_of rest before next
    ++ chooses b
    (start_of p (before + statements rest + 1) (start_of rest before next))
    (start_of q (before + statements rest + 1 + statements p) (start_of rest before next))
    ∷ (points_of p (before + statements rest + 1) (start_of rest before next)
    ++ points_of q (before + statements rest + 1 + statements p) (start_of rest before next))
points_of (loop_then b p rest) before next =
    points_of rest before next
    ++ chooses b (start_of p (before + statements rest + 1) (before + statements rest + 1)) (start_of rest before next)
    ∷ points_of p (before + statements rest + 1) (before + statements rest + 1)

-- the points of a statement after `before` others
abbrev pub stmt_points : StmtTree → ℕ → ℕ → List Point
stmt_points skip before next = passes next ∷ []
stmt_points abort before next = stops ∷ []
stmt_points (assert b) before next = checks b next ∷ []
stmt_points (act a) before next = stops ∷ []
stmt_points (assign x e) before next = sets x e next ∷ []
stmt_points (branch b p q) before next =
    chooses b (start_of p (before + 1) next) (start_of q (before + 1 + statements p) next)
    ∷ (points_of p (before + 1) next ++ points_of q (before + 1 + statements p) next)
stmt_points (loop b p) before next = chooses b (start_of p (before + 1) (before + 1)) next ∷ points_of p (before + 1) (before + 1)
