-- Exits of the program as those of the definitions.
use Rattle.std.specs.Prelude.{◌≡◌, ◌<◌, ◌≤◌, ◌&&◌, ◌++◌, ℕ, Bool, true, false, List, Vec, drop, filter, map, nat_eq, Option, Some, None, slice_get}
use Rattle.std.specs.List.{list_any, range_with_len}
use Rattle.std.specs.Cmp.Lexicographic.{pointwise}
use Rattle.kat_model.specs.Members.{Has}
use Rattle.kat_model.specs.UniqueRows.{with_all_new}
use Rattle.std.specs.declared.alloc.Global.{Global}
use Rattle.flow_model.specs.declared.graph.ExprNode.{ExprNode}
use Rattle.flow_model.specs.Expressions.{ExprTree}
use Rattle.flow_model.specs.Polish.{values_of}
use Rattle.flow_model.specs.Graphs.{Graph}
use Rattle.flow_model.specs.Matches.{Match}
use Rattle.flow_pieces.specs.PieceGraphs.{Exit, arrivals_of, has_block}
use Rattle.flow_pieces.specs.Exits.{have_same_parts, share_column, is_ambiguous}
use Rattle.flow_places.specs.Tables.{noted}
use Rattle.flow_matches.specs.declared.tables.MatchTables.{MatchTables}
use Rattle.flow_model.specs.declared.block_match.BlockMatch.{BlockMatch}
use Rattle.flow_matches.specs.declared.exits.Exit.{Exit as AnExit}
use Rattle.flow_matches.specs.declared.exits.Arrivals.{Arrivals}
use Rattle.flow_matches.specs.MatchViews.{match_at}
use Rattle.flow_matches.specs.Tables.{AreMarks, AreBelow}

-- an exit with its match
abbrev pub exit_with : Match → AnExit → Exit
exit_with m e = record { rows = e.rows.items; columns = e.columns.items; match = m; live = e.live.items }

abbrev pub exit_tree : List BlockMatch → AnExit → Exit
exit_tree ms e = exit_with (match_at ms e.number) e

abbrev pub exit_trees : List BlockMatch → List AnExit → List Exit
exit_trees ms es = map (exit_tree ms) es

-- the exit is of a match that there is, and of variables that there are
abbrev pub IsExitOf : ℕ → ℕ → AnExit → Type 0
IsExitOf n variables e = (e.number < n) × AreBelow variables e.live.items

abbrev pub AreExitsOf : ℕ → ℕ → List AnExit → Type 0
AreExitsOf n variables es = (e : AnExit) → Has es e → IsExitOf n variables e

-- the matches of these numbers
abbrev pub chosen : List BlockMatch → List ℕ → List Match
chosen ms ns = map (match_at ms) ns

-- the marks are those of the blocks in the list
abbrev pub IsMarkedList : Arrivals → Type 0
IsMarkedList arrivals = AreMarks arrivals.marks.items (has_block arrivals.blocks.items)

-- a list of matched blocks with those of other blocks that are matched and new
abbrev pub with_arrivals : (ℕ → Bool) → List ℕ → List ℕ → List ℕ
with_arrivals is_matched found ks = with_all_new nat_eq found (filter is_matched ks)

-- the variables that the tables note as live at a block of the second graph
abbrev pub noted_at : MatchTables → ℕ → ℕ → List ℕ
noted_at tables n l = filter (λ x. noted tables.live_after.items x l) (range_with_len 0 n)

-- two matches have the same parts, and the same variables are live at their blocks of the second graph
abbrev pub like_by : (ℕ → List ℕ) → Match → Match → Bool
like_by live c d = have_same_parts c d && pointwise nat_eq (live c.after) (live d.after)

-- some match pairs the blocks and is like another
abbrev pub has_like_by : (ℕ → List ℕ) → List Match → Match → ℕ → ℕ → Bool
has_like_by live cs c k l = list_any (λ d. nat_eq d.before k && nat_eq d.after l && like_by live c d) cs

-- the matched blocks to which blocks jump, and their marks
pub record AreArrivals (arrivals : Arrivals) (g : Graph) (is_matched : ℕ → Bool) (inside : List ℕ) : Type 0 where
  pub blocks : arrivals.blocks.items ≡ arrivals_of g is_matched inside
  pub marks : AreMarks arrivals.marks.items (has_block (arrivals_of g is_matched inside))

-- the places of two exits that share a column, the first of them first
pub record PlacesShare (es : List Exit) (i j : ℕ) : Type 0 where
  pub one : Exit
  pub other : Exit
  pub in_order : i < j
  pub exit_first : slice_get es i ≡ Some one
  pub exit_second : slice_get es j ≡ Some other
  pub share : share_column one other ≡ true

-- the first place from a place on whose exit shares a column with an exit, or none where no such exit does
abbrev pub FirstWith : Option ℕ → List BlockMatch → AnExit → List AnExit → ℕ → Type 0
FirstWith None ms e es n = list_any (share_column (exit_tree ms e)) (drop n (exit_trees ms es)) ≡ false
FirstWith (Some i) ms e es n = (n ≤ i) × ((other : Exit) × (slice_get (exit_trees ms es) i ≡ Some other) × (share_column (exit_tree ms e) other ≡ true))

-- two places of exits that share a column, or none where no two do
abbrev pub FirstShared : Option (ℕ × ℕ) → List BlockMatch → List AnExit → Type 0
FirstShared None ms es = is_ambiguous (exit_trees ms es) ≡ false
FirstShared (Some (i, j)) ms es = PlacesShare (exit_trees ms es) i j

-- the list has these trees after the others
abbrev pub AddsTrees : Vec (Vec ExprNode Global) Global → Vec (Vec ExprNode Global) Global → List ExprTree → Type 0
AddsTrees old new es = values_of new.items ≡ values_of old.items ++ es
