-- Pieces with the same text on both sides, as a test: both graphs are walked in step from the match, block by block.
use Rattle.std.specs.Prelude.{ℕ, zero, suc, ◌+◌, ◌*◌, Bool, ◌&&◌, ◌||◌, nat_eq, List, [], ◌∷◌, ◌++◌, length, Option, Some, None, slice_get, is_some, if◌then◌else◌}
use Rattle.std.specs.List.{list_any}
use Rattle.std.specs.Cmp.Lexicographic.{pointwise}
use Rattle.flow_model.specs.Graphs.{JumpTree, goto, branch, return, abort, Block, Pair}
use Rattle.flow_model.specs.Matches.{Match}
use Rattle.flow_pieces.specs.Pieces.{is_matched_before, is_matched_after}
use Rattle.flow_pieces.specs.PieceQuestions.{plain_match}
use Rattle.flow_pieces.specs.SameTrees.{is_same_expr, is_same_cond, is_same_statement}
use Rattle.flow_pieces.specs.Exits.{have_same_parts}

-- the match has no equation and no condition
abbrev pub is_plain : Match → Bool
is_plain m = have_same_parts (plain_match m.before m.after) m

-- the blocks are matched plainly
abbrev pub are_matched_plainly : List Match → ℕ → ℕ → Bool
are_matched_plainly ms k l = list_any (λ m. nat_eq m.before k && nat_eq m.after l && is_plain m) ms

-- two jumps do the same, with the pairs of blocks to which they lead
abbrev pub jump_pairs : JumpTree → JumpTree → Option (List (ℕ × ℕ))
jump_pairs (goto k) (goto l) = Some ((k, l) ∷ [])
jump_pairs (branch b k k') (branch c l l') = if is_same_cond b c then Some ((k, l) ∷ (k', l') ∷ []) else None
jump_pairs (return es) (return fs) = if pointwise is_same_expr es fs then Some [] else None
jump_pairs abort abort = Some []
jump_pairs _ _ = None

-- two blocks have the same text, with the pairs of blocks to which they lead
abbrev pub block_pairs : Option Block → Option Block → Option (List (ℕ × ℕ))
block_pairs (Some b) (Some c) = if pointwise is_same_statement b.statements c.statements then jump_pairs b.jump c.jump else None
block_pairs _ _ = None

abbrev pub has_pair : List (ℕ × ℕ) → ℕ → ℕ → Bool
has_pair ps k l = list_any (λ p. nat_eq p.0 k && nat_eq p.1 l) ps

-- one of the blocks is in a pair
abbrev pub is_paired : List (ℕ × ℕ) → ℕ → ℕ → Bool
is_paired ps k l = list_any (λ p. nat_eq p.0 k || nat_eq p.1 l) ps

-- the pairs to which a pair of blocks leads: none from matched blocks, which must be matched plainly
abbrev pub pairs_from : Pair → List Match → ℕ → ℕ → Option (List (ℕ × ℕ))
pairs_from p ms k l =
    if is_matched_before ms k || is_matched_after ms l
    then (if are_matched_plainly ms k l then Some [] else None)
    else block_pairs (slice_get p.before k) (slice_get p.after l)

-- goes on after a pair with the pairs to which it leads
abbrev pub walk_next : (List (ℕ × ℕ) → List (ℕ × ℕ) → Option (List (ℕ × ℕ))) → List (ℕ × ℕ) → ℕ → ℕ → List (ℕ × ℕ) → Option (List (ℕ × ℕ)) → Option (List (ℕ × ℕ))
walk_next go done k l waiting None = None
walk_next go done k l waiting (Some next) = go ((k, l) ∷ done) (next ++ waiting)

-- The pairs of blocks that the walk meets: `done` has been met, `waiting` not yet. Blocks are paired one by one. There is
-- no list where two blocks differ, or one has two partners, or after n steps.
abbrev pub walk_pairs : Pair → List Match → ℕ → List (ℕ × ℕ) → List (ℕ × ℕ) → Option (List (ℕ × ℕ))
walk_pairs p ms zero done waiting = None
walk_pairs p ms (suc n) done [] = Some done
walk_pairs p ms (suc n) done ((k, l) ∷ waiting) =
    if has_pair done k l then walk_pairs p ms n done waiting
    else if is_paired done k l then None
    else walk_next (walk_pairs p ms n) done k l waiting (pairs_from p ms k l)

-- the walk from a match; each pair that it meets adds at most two, and each block of the first graph is met once
abbrev pub pairs_walked : Pair → List Match → Match → Option (List (ℕ × ℕ)) → Option (List (ℕ × ℕ))
pairs_walked p ms m None = None
pairs_walked p ms m (Some next) = walk_pairs p ms (2 * length p.before + 4) ((m.before, m.after) ∷ []) next

abbrev pub has_same_text : Pair → List Match → Match → Bool
has_same_text p ms m = is_plain m && is_some (pairs_walked p ms m (block_pairs (slice_get p.before m.before) (slice_get p.after m.after)))
