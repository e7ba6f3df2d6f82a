-- The graph of a side as the program writes it, and the numbers of its points.
use Rattle.std.proofs.Common.{◌≡◌, inl, inr, ◌<◌, ℕ, zero, suc, ◌+◌, Bool, false, List, [], ◌∷◌, ◌++◌, length, map, take, replicate, get_or, option_map, unwrap_or, Some, None, slice_get, slice_index_or, refl, sym, ap, ◌∙◌, subst, arith, append_assoc}
use mathlib.Core.Path.{ap₂}
use Rattle.std.specs.Prelude.{Vec}
use Rattle.std.specs.declared.alloc.Global.{Global}
use Rattle.std.proofs.lemmas.List.{map_more}
use Rattle.std.proofs.lemmas.Option.{slice_get-map, slice_get_within}
use Rattle.kat_model.specs.Members.{Has}
use Rattle.flow_model.specs.declared.graph.Block.{Block as ABlock}
use Rattle.flow_model.specs.Expressions.{ExprTree}
use Rattle.flow_model.specs.Conditions.{CondTree}
use Rattle.flow_model.specs.Graphs.{StatementTree, JumpTree, goto, branch, return, Block, Graph}
use Rattle.flow_model.specs.Polish.{cond_of, values_of, statement_of, jump_of, block_of, graph_of}
use Rattle.flow_pieces.specs.PieceGraphs.{start, inside, Side, side_blocks, points, number_of, target_of, jump_of as side_jump, mark, block_without, block_inside, block_at, side_graph}
use Rattle.flow_matches.specs.declared.leaves.Leave.{Leave as ALeave}
use Rattle.flow_matches.specs.declared.side.Side.{Side as ASide}
use Rattle.flow_matches.specs.Tables.{AreMarks}
use Rattle.flow_matches.specs.Working.SideViews.{AreBelowIf, leave_tree, leave_trees, leave_blocks, side_arrivals, IsSide, AddsBlocks, blocks_of_arrivals, numbers_of_leaves, after_arrivals, number_blocks, number_all_arrivals}
use Rattle.flow_matches.proofs.DistinctBlocks.{blocks_there, arrival_stops}
use Rattle.flow_matches.proofs.PointPlaces.{leaves_at}
use Rattle.flow_matches.proofs.SideTargets.{all_points, table_targets}
use Rattle.flow_matches.proofs.ArrivalBlocks.{graph_in_parts}
use Rattle.flow_matches.proofs.PushedLists.{then_one}
use Rattle.flow_matches.proofs.PieceParts.{same_test}

mapped_length : {X Y : Type 0} (f : X → Y) (xs : List X) → length (map f xs) ≡ length xs
mapped_length f [] = refl
mapped_length f (x ∷ xs) = ap suc (mapped_length f xs)

-- ---- blocks inside

pub has_item : {X : Type 0} (xs : List X) (i : ℕ) (d : X) → i < length xs → Has xs (get_or xs i d)
has_item [] i d lt = absurd (omega (arith, lt))
has_item (x ∷ xs) zero d lt = inl refl
has_item (x ∷ xs) (suc i) d lt = inr (has_item xs i d (omega (arith, lt)))

module _ (side : ASide) (blocks : List ABlock) (s : Side) (is : IsSide side blocks s) where
  there : (k : ℕ) → slice_get s.graph k ≡ option_map block_of (slice_get blocks k)
  there k = ap (λ g. slice_get g k) is.graph ∙ slice_get-map block_of blocks k

  pub inside_pushed : (i x : ℕ) (b : ABlock) (first old new : Vec ABlock Global) → i < length side.inside.items → x ≡ get_or side.inside.items i x → slice_get blocks x ≡ Some b →
      AddsBlocks first old (map (λ k. block_at s (inside k)) (take i side.inside.items)) → AddsBlocks old new (block_inside s (Some (block_of b)) ∷ []) →
      AddsBlocks first new (map (λ k. block_at s (inside k)) (take (i + 1) side.inside.items))
  inside_pushed i x b first old new lt at found made added =
      then_one (graph_of first.items) (graph_of old.items) (graph_of new.items)
      (map (λ k. block_at s (inside k)) (take i side.inside.items)) (map (λ k. block_at s (inside k)) (take (i + 1) side.inside.items)) (block_inside s (Some (block_of b)))
      made added
      (map_more (λ k. block_at s (inside k)) side.inside.items i x lt
      ∙ ap (λ z. map (λ k. block_at s (inside k)) (take i side.inside.items) ++ z ∷ [])
      (ap (λ k. block_at s (inside k)) (sym at) ∙ ap (block_inside s) (there x ∙ ap (option_map block_of) found)))

  pub inside_there : (i x : ℕ) → i < length side.inside.items → x ≡ get_or side.inside.items i x → slice_get blocks x ≡ None → ⊥
  inside_there i x lt at missing =
      let h : Has (side_blocks s) x = subst (λ l. Has l x) is.inside (subst (Has side.inside.items) (sym at) (has_item side.inside.items i x lt)) in
      let block = blocks_there s.graph s.is_matched s.first x h in
      let never : None ≡ Some block.0 = sym (there x ∙ ap (option_map block_of) missing) ∙ block.1 in
      absurd cc

  -- ---- the whole graph

  pub whole_graph : (first second third : Graph) → first ≡ block_at s start ∷ [] → second ≡ first ++ map (λ k. block_at s (inside k)) (side_blocks s) →
      third ≡ second ++ blocks_of_arrivals (length second) (map (λ (l : Vec ALeave Global). leave_trees l.items) side.leaves.items) (mark side.otherwise ∷ []) → third ≡ side_graph s
  whole_graph first second third a b c =
      let ks = side_blocks s in
      let second_is : second ≡ block_at s start ∷ map (λ k. block_at s (inside k)) ks = b ∙ ap (λ g. g ++ map (λ k. block_at s (inside k)) ks) a in
      let long : length second ≡ length ks + 1 = omega (arith, ap length second_is, mapped_length (λ k. block_at s (inside k)) ks) in
      c
      ∙ ap₂ (λ g n. g ++ blocks_of_arrivals n (map (λ (l : Vec ALeave Global). leave_trees l.items) side.leaves.items) (mark side.otherwise ∷ [])) second_is long
      ∙ ap₂ (λ ls es. (block_at s start ∷ map (λ k. block_at s (inside k)) ks) ++ blocks_of_arrivals (length ks + 1) ls es) is.leaves (sym is.otherwise)
      ∙ sym (graph_in_parts s)

-- ---- numbers of points

leaf_numbers : (leaves : List (Vec ALeave Global)) → numbers_of_leaves leaves ≡ map length (map (λ (l : Vec ALeave Global). leave_trees l.items) leaves)
leaf_numbers [] = refl
leaf_numbers (l ∷ ls) =
    ap₂ (λ n ns. n ∷ ns) (sym (trees_length l.items)) (leaf_numbers ls)
  where
    trees_length : (xs : List ALeave) → length (leave_trees xs) ≡ length xs
    trees_length [] = refl
    trees_length (x ∷ xs) = ap suc (trees_length xs)

module _ (s : Side) (blocks : List ABlock) (stops : List Bool) (leaves : List (Vec ALeave Global)) (graph : s.graph ≡ graph_of blocks) (marks : AreMarks stops s.is_matched)
    (below : AreBelowIf (length blocks) (λ k. slice_index_or stops k false)) (are : map (λ (l : Vec ALeave Global). leave_trees l.items) leaves ≡ map s.leaves (side_arrivals s)) where
  numbers_are : numbers_of_leaves leaves ≡ map (leaves_at s) (side_arrivals s)
  numbers_are = leaf_numbers leaves ∙ ap (map length) are ∙ lengths_of (side_arrivals s)
    where
      lengths_of : (ks : List ℕ) → map length (map s.leaves ks) ≡ map (leaves_at s) ks
      lengths_of [] = refl
      lengths_of (k ∷ ks) = ap (λ ns. length (s.leaves k) ∷ ns) (lengths_of ks)

  pub points_counted : (ks : List ℕ) (n : ℕ) → ks ≡ side_blocks s → n ≡ after_arrivals (length ks + 1) (numbers_of_leaves leaves) → n ≡ length (points s)
  points_counted ks n inside_is counted =
      counted ∙ ap₂ (λ js ns. after_arrivals (length js + 1) ns) inside_is numbers_are ∙ all_points s

  inside_below : (k : ℕ) → Has (side_blocks s) k → k < length blocks
  inside_below k h =
      let block = blocks_there s.graph s.is_matched s.first k h in
      let lt = slice_get_within s.graph k block.0 block.1 in
      omega (arith, lt, ap length graph, mapped_length block_of blocks)

  arrivals_below : (k : ℕ) → Has (side_arrivals s) k → k < length blocks
  arrivals_below k h = below k (marks k ∙ arrival_stops s.graph s.is_matched (side_blocks s) k h)

  pub targets_made : (ks ls : List ℕ) (count : ℕ) (first second : List ℕ) → ks ≡ side_blocks s → ls ≡ side_arrivals s → count ≡ length (points s) →
      first ≡ number_blocks (λ k. slice_index_or stops k false) 1 ks (replicate (length blocks) count) → second ≡ number_all_arrivals (length ks + 1) ls (numbers_of_leaves leaves) first →
      (k : ℕ) → unwrap_or (slice_get second k) count ≡ target_of s k
  targets_made ks ls count first second inside_is arrivals_are counted a b k =
      let first_is : first ≡ number_blocks s.is_matched 1 (side_blocks s) (replicate (length blocks) (length (points s))) =
      a
      ∙ ap (λ t. number_blocks t 1 ks (replicate (length blocks) count)) (same_test stops s.is_matched marks)
      ∙ ap₂ (λ js n. number_blocks s.is_matched 1 js (replicate (length blocks) n)) inside_is counted in
      let second_is : second ≡ number_all_arrivals (length (side_blocks s) + 1) (side_arrivals s) (map (leaves_at s) (side_arrivals s)) (number_blocks s.is_matched 1 (side_blocks s) (replicate (length blocks) (length (points s)))) =
      b
      ∙ ap₂ (λ js is. number_all_arrivals (length js + 1) is (numbers_of_leaves leaves) first) inside_is arrivals_are
      ∙ ap₂ (λ ns ts. number_all_arrivals (length (side_blocks s) + 1) (side_arrivals s) ns ts) numbers_are first_is in
      ap₂ (λ ts n. unwrap_or (slice_get ts k) n) second_is counted ∙ table_targets s (length blocks) inside_below arrivals_below k

-- ---- the blocks of an exit

pub leave_pushed : (old mid new : Graph) (n : ℕ) (b : CondTree) (results : List ExprTree) (leave : ALeave) → n ≡ length old → b ≡ cond_of leave.condition.items → results ≡ values_of leave.results.items →
    mid ≡ old ++ block_without (branch b (n + 1) (n + 2)) ∷ [] → new ≡ mid ++ block_without (return results) ∷ [] → new ≡ old ++ leave_blocks (length old) (leave_tree leave)
leave_pushed old mid new n b results leave long cond values first second =
    second
    ∙ ap₂ (λ g es. g ++ block_without (return es) ∷ []) first values
    ∙ append_assoc old (block_without (branch b (n + 1) (n + 2)) ∷ []) (block_without (return (values_of leave.results.items)) ∷ [])
    ∙ ap₂ (λ c m. old ++ block_without (branch c (m + 1) (m + 2)) ∷ block_without (return (values_of leave.results.items)) ∷ []) cond long

pub graph_length : (blocks : List ABlock) → length blocks ≡ length (graph_of blocks)
graph_length blocks = sym (mapped_length block_of blocks)

-- ---- a copy of a block

abbrev pub made_block : Bool → List StatementTree → JumpTree → Block
made_block is_cut statements jump = record { is_cut = is_cut; statements = statements; jump = jump }

pub copy_is : (s : Side) (b : ABlock) (old new : Graph) (statements : List StatementTree) (jump : JumpTree) → statements ≡ map statement_of b.statements.items → jump ≡ side_jump s (jump_of b.jump) →
    new ≡ old ++ made_block b.is_cut statements jump ∷ [] → new ≡ old ++ block_inside s (Some (block_of b)) ∷ []
copy_is s b old new statements jump e f added =
    added ∙ ap₂ (λ xs j. old ++ made_block b.is_cut xs j ∷ []) e f

-- the first block
pub start_is : (s : Side) (blocks : List ABlock) (side : ASide) → IsSide side blocks s → (old new : Graph) (statements : List StatementTree) (first : ℕ) → statements ≡ map statement_of side.opening.items → first ≡ number_of s (inside s.first) →
    old ≡ [] → new ≡ old ++ made_block false statements (goto first) ∷ [] → new ≡ block_at s start ∷ []
start_is s blocks side is old new statements first e f none added =
    added ∙ ap (λ g. g ++ made_block false statements (goto first) ∷ []) none ∙ ap₂ (λ xs k. made_block false xs (goto k) ∷ []) (e ∙ is.opening) f
