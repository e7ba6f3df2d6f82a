-- Depth-first walks along the jumps of a graph (Cormen, Leiserson, Rivest and Stein, *Introduction to Algorithms*, 2009).
use Rattle.std.specs.Prelude.{ℕ, zero, suc, Bool, nat_eq, List, [], ◌∷◌, length, reverse, Option, Some, None, slice_get, if◌then◌else◌}
use Rattle.std.specs.List.{list_any}
use Rattle.flow_model.specs.Graphs.{Block, Graph}
use Rattle.flow_ways.specs.Liveness.{jump_targets}
use Rattle.flow_places.specs.declared.walk.Walk.{Walk as AWalk}

-- the blocks that the walk has left, the last one first, and the targets of the back edges that it has met
pub record Walk : Type 0 where
  pub left : List ℕ
  pub heads : List ℕ

abbrev pub is_among : List ℕ → ℕ → Bool
is_among ks k = list_any (λ l. nat_eq l k) ks

abbrev pub with_head : ℕ → Walk → Walk
with_head k w = record { left = w.left; heads = k ∷ w.heads }

abbrev pub with_left : ℕ → Walk → Walk
with_left k w = record { left = k ∷ w.left; heads = w.heads }

-- the walk after blocks, one after the other
abbrev pub walk_all : (ℕ → Walk → Walk) → List ℕ → Walk → Walk
walk_all go [] w = w
walk_all go (k ∷ ks) w = walk_all go ks (go k w)

-- the walk after a block that it had not reached: the targets of the block's jump come first, the first one first
abbrev pub walk_into : (ℕ → Walk → Walk) → ℕ → Option Block → Walk → Walk
walk_into go k None w = w
walk_into go k (Some block) w = with_left k (walk_all go (jump_targets block.jump) w)

-- The walk after block k, with the blocks on the path to it. An edge to a block on the path is a back edge. The walk
-- goes at most n blocks deep, and does not go along jumps to blocks where `stops` holds.
abbrev pub walk_from : Graph → (ℕ → Bool) → ℕ → List ℕ → ℕ → Walk → Walk
walk_from g stops zero path k w = w
walk_from g stops (suc n) path k w =
    if is_among path k then with_head k w
    else if is_among w.left k then w
    else walk_into (λ l next. if stops l then next else walk_from g stops n (k ∷ path) l next) k (slice_get g k) w

-- the walk after the target of a jump
abbrev pub walk_on : Graph → (ℕ → Bool) → ℕ → List ℕ → ℕ → Walk → Walk
walk_on g stops n path k w = if stops k then w else walk_from g stops n path k w

abbrev pub no_walk : Walk
no_walk = record { left = []; heads = [] }

-- the blocks that a run from block k may enter before it jumps to a block where `stops` holds, k first
abbrev pub blocks_from : Graph → (ℕ → Bool) → ℕ → List ℕ
blocks_from g stops k = (walk_from g stops (suc (length g)) [] k no_walk).left

-- the walk of the program, whose lists grow at their ends
abbrev pub walk_of : AWalk → Walk
walk_of w = record { left = reverse w.left.items; heads = reverse w.heads.items }
