-- The exits of a piece: the matches at which both sides may arrive, and which of them share a mark.
use Rattle.std.specs.Prelude.{ℕ, Bool, false, ◌&&◌, ◌||◌, nat_eq, List, [], ◌∷◌, ◌++◌, length, map, filter, if◌then◌else◌}
use Rattle.std.specs.List.{list_any, list_all, range_with_len}
use Rattle.std.specs.Cmp.Lexicographic.{pointwise}
use Rattle.kat_model.specs.UniqueRows.{with_all_new}
use Rattle.flow_model.specs.Graphs.{Pair}
use Rattle.flow_places.specs.Walks.{blocks_from}
use Rattle.flow_places.specs.Live.{live}
use Rattle.flow_model.specs.Matches.{Equation, Match}
use Rattle.flow_pieces.specs.Pieces.{is_matched_before, is_matched_after}
use Rattle.flow_pieces.specs.PieceGraphs.{arrivals_of, Exit, has_block}
use Rattle.flow_pieces.specs.SameTrees.{is_same_bool, is_same_expr, is_same_cond}

-- the matched blocks at which runs from the block of a match may arrive
abbrev pub arrivals_before : Pair → List Match → Match → List ℕ
arrivals_before p ms m = arrivals_of p.before (is_matched_before ms) (blocks_from p.before (is_matched_before ms) m.before)

abbrev pub arrivals_after : Pair → List Match → Match → List ℕ
arrivals_after p ms m = arrivals_of p.after (is_matched_after ms) (blocks_from p.after (is_matched_after ms) m.after)

-- the matches of two blocks at which runs from a match may arrive
abbrev pub candidates : Pair → List Match → Match → List Match
candidates p ms m = filter (λ c. has_block (arrivals_before p ms m) c.before && has_block (arrivals_after p ms m) c.after) ms

-- the variables that are live at a block of the second graph
abbrev pub live_after : Pair → ℕ → List ℕ
live_after p l = filter (live p.after l) (range_with_len 0 (length p.sorts))

abbrev pub is_same_equation : Equation → Equation → Bool
is_same_equation d e = nat_eq d.variable e.variable && is_same_expr d.expression e.expression

-- two matches have the same equations and condition
abbrev pub have_same_parts : Match → Match → Bool
have_same_parts c d =
    pointwise is_same_equation c.forth d.forth && pointwise is_same_equation c.back d.back
    && pointwise is_same_equation c.keeping d.keeping && is_same_cond c.condition d.condition

-- two matches have the same parts, and the same variables are live at their blocks of the second graph
abbrev pub are_like : Pair → Match → Match → Bool
are_like p c d = have_same_parts c d && pointwise nat_eq (live_after p c.after) (live_after p d.after)

-- the blocks that matches pair with a block of a match
abbrev pub rows_with : List Match → Match → List ℕ
rows_with cs c = with_all_new nat_eq [] (map (λ d. d.before) (filter (λ d. nat_eq d.after c.after) cs))

abbrev pub columns_with : List Match → Match → List ℕ
columns_with cs c = with_all_new nat_eq [] (map (λ d. d.after) (filter (λ d. nat_eq d.before c.before) cs))

-- The matches around one are all pairs of some blocks of the first graph with some of the second, are alike, and no other
-- match has one of these blocks.
abbrev pub is_rectangle : Pair → List Match → Match → Bool
is_rectangle p cs c =
    list_all (λ k. list_all (λ l. list_any (λ d. nat_eq d.before k && nat_eq d.after l && are_like p c d) cs) (columns_with cs c)) (rows_with cs c)
    && list_all (λ d. is_same_bool (has_block (rows_with cs c) d.before) (has_block (columns_with cs c) d.after)) cs

-- the exit of a match: it shares its mark with the matches around it where they are a rectangle
abbrev pub exit_of : Pair → List Match → Match → Exit
exit_of p cs c =
    if is_rectangle p cs c
    then record { rows = rows_with cs c; columns = columns_with cs c; match = c; live = live_after p c.after }
    else record { rows = c.before ∷ []; columns = c.after ∷ []; match = c; live = live_after p c.after }

abbrev pub has_match : Exit → Match → Bool
has_match e c = has_block e.rows c.before && has_block e.columns c.after

-- the exits of matches, in their order, after exits that are there already
abbrev pub exits_from : Pair → List Match → List Match → List Exit → List Exit
exits_from p cs [] es = es
exits_from p cs (c ∷ rest) es = exits_from p cs rest (if list_any (λ e. has_match e c) es then es else es ++ exit_of p cs c ∷ [])

-- the exits of the piece of a match
abbrev pub piece_exits : Pair → List Match → Match → List Exit
piece_exits p ms m = exits_from p (candidates p ms m) (candidates p ms m) []

-- Some block of the second graph is a column of two exits. The first graph tries its exits by their conditions; the second
-- has no state of the first to choose by, so such a piece is refused.
abbrev pub share_column : Exit → Exit → Bool
share_column d e = list_any (λ l. has_block e.columns l) d.columns

abbrev pub is_ambiguous : List Exit → Bool
is_ambiguous [] = false
is_ambiguous (e ∷ es) = list_any (share_column e) es || is_ambiguous es
