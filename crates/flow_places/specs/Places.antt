-- Places of a graph: the entry, and the blocks that are marked as cuts, or, where none is marked, the targets of back
-- edges of the depth-first walk from the entry. Only blocks that are reached count.
use Rattle.std.specs.Prelude.{ℕ, suc, Bool, false, ◌&&◌, ◌||◌, nat_eq, List, [], length, map, filter, Option, Some, None, slice_get, slice_index_or, if◌then◌else◌}
use Rattle.std.specs.List.{list_any, range_with_len}
use Rattle.flow_model.specs.Graphs.{Block, Graph}
use Rattle.flow_places.specs.Walks.{Walk, is_among, walk_all, walk_from, no_walk}

-- the depth-first walk from the entry, with the first target of a jump first; a path has each block at most once
abbrev pub entry_walk : Graph → Walk
entry_walk g = walk_from g (λ k. false) (suc (length g)) [] 0 no_walk

abbrev pub is_reached : Graph → ℕ → Bool
is_reached g k = is_among (entry_walk g).left k

abbrev pub has_mark : Option Block → Bool
has_mark None = false
has_mark (Some block) = block.is_cut

abbrev pub is_marked : Graph → ℕ → Bool
is_marked g k = has_mark (slice_get g k)

-- whether some block that is reached is marked
abbrev pub has_marks : Graph → Bool
has_marks g = list_any (is_marked g) (entry_walk g).left

abbrev pub is_cut : Graph → ℕ → Bool
is_cut g k = if has_marks g then is_marked g k else is_among (entry_walk g).heads k

-- whether block k is a place, with the walk from the entry, and whether marks count
abbrev pub place_test : Walk → Bool → Graph → ℕ → Bool
place_test w marked g k =
    is_among w.left k && (nat_eq k 0 || (if marked then is_marked g k else is_among w.heads k))

-- for each block, whether it is a place
abbrev pub place_marks : Graph → List Bool
place_marks g = map (λ k. is_reached g k && (nat_eq k 0 || is_cut g k)) (range_with_len 0 (length g))

abbrev pub is_place : Graph → ℕ → Bool
is_place g k = slice_index_or (place_marks g) k false

-- the places, in the order of the blocks
abbrev pub places : Graph → List ℕ
places g = filter (is_place g) (range_with_len 0 (length g))

-- the depth-first walk from each place, which does not go along jumps to places; its back edges are on loops without a
-- place
abbrev pub cut_walk : Graph → Walk
cut_walk g = walk_all (walk_from g (is_place g) (suc (length g)) []) (places g) no_walk
