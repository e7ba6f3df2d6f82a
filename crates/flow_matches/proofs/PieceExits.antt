-- The exits of matches by the tables, and those of the definitions.
use Rattle.std.proofs.Common.{◌≡◌, ℕ, Bool, true, false, ◌&&◌, if◌then◌else◌, List, [], ◌∷◌, ◌++◌, length, filter, slice_index_or, sym, ap, ◌∙◌}
use Rattle.std.specs.List.{list_any, list_all}
use Rattle.std.proofs.Math.Path.{fun_ext}
use Rattle.std.proofs.lemmas.List.Elements.{filter_agree}
use mathlib.Core.Path.{ap₂}
use Rattle.flow_model.specs.declared.sort.Sort.{Sort}
use Rattle.flow_model.specs.declared.graph.Block.{Block as ABlock}
use Rattle.flow_model.specs.declared.block_match.BlockMatch.{BlockMatch}
use Rattle.flow_model.specs.Graphs.{Graph, Pair}
use Rattle.flow_model.specs.Polish.{graph_of}
use Rattle.flow_model.specs.Matches.{Match}
use Rattle.flow_places.specs.Walks.{blocks_from}
use Rattle.flow_places.specs.Live.{live}
use Rattle.flow_places.specs.Tables.{noted}
use Rattle.flow_pieces.specs.PieceGraphs.{Exit, arrivals_of, has_block}
use Rattle.flow_pieces.specs.SameTrees.{is_same_bool}
use Rattle.flow_pieces.specs.Exits.{arrivals_before, arrivals_after, candidates, live_after, rows_with, columns_with, is_rectangle, exit_of, has_match, exits_from}
use Rattle.flow_matches.specs.declared.tables.MatchTables.{MatchTables}
use Rattle.flow_matches.specs.declared.exits.Arrivals.{Arrivals}
use Rattle.flow_matches.specs.MatchViews.{pair_of}
use Rattle.flow_matches.specs.Tables.{AreMarks, AreTables}
use Rattle.flow_matches.specs.Working.ExitViews.{noted_at, has_like_by, AreArrivals}
use Rattle.flow_matches.proofs.LiveLists.{same_passing}

-- the tables note what is live at each block of the second graph
pub noted_is : (tables : MatchTables) (sorts : List Sort) (n : ℕ) (before after : List ABlock) (ms : List BlockMatch) → length sorts ≡ n → AreTables tables sorts before after ms → noted_at tables n ≡ live_after (pair_of sorts before after)
noted_is tables sorts n before after ms long are =
    ap (noted_at tables) (sym long)
    ∙ fun_ext (λ l. same_passing (λ x. noted tables.live_after.items x l) (live (graph_of after) l) (length sorts) (λ x lt. are.live_after l x lt))

module _ (cs : List Match) (c : Match) where
  -- whether blocks of both graphs are a rectangle of matches around one
  abbrev pub is_full : (ℕ → List ℕ) → List ℕ → List ℕ → Bool
  is_full live rows columns =
      list_all (λ k. list_all (has_like_by live cs c k) columns) rows
      && list_all (λ d. is_same_bool (has_block rows d.before) (has_block columns d.after)) cs

  module _ (p : Pair) (live : ℕ → List ℕ) (rows columns own : List ℕ) (lives : live ≡ live_after p) (rows_are : rows ≡ rows_with cs c) (columns_are : columns ≡ columns_with cs c) (own_is : own ≡ live c.after) (full : Bool) (is : full ≡ is_full live rows columns) where
    rectangle : is_rectangle p cs c ≡ full
    rectangle =
        sym (is ∙ ap (λ f. is_full f rows columns) lives ∙ ap (λ ks. is_full (live_after p) ks columns) rows_are ∙ ap (is_full (live_after p) (rows_with cs c)) columns_are)

    own_live : own ≡ live_after p c.after
    own_live = own_is ∙ ap (λ (f : ℕ → List ℕ). f c.after) lives

    abbrev by_shape : Bool → Exit
    by_shape b =
        if b
        then record { rows = rows_with cs c; columns = columns_with cs c; match = c; live = live_after p c.after }
        else record { rows = c.before ∷ []; columns = c.after ∷ []; match = c; live = live_after p c.after }

    pub shared_exit : full ≡ true → record { rows = rows; columns = columns; match = c; live = own } ≡ exit_of p cs c
    shared_exit holds =
        ap (λ ks. record { rows = ks; columns = columns; match = c; live = own }) rows_are
        ∙ ap (λ ks. record { rows = rows_with cs c; columns = ks; match = c; live = own }) columns_are
        ∙ ap (λ ks. record { rows = rows_with cs c; columns = columns_with cs c; match = c; live = ks }) own_live
        ∙ sym (ap by_shape (rectangle ∙ holds))

    pub single_exit : full ≡ false → record { rows = c.before ∷ []; columns = c.after ∷ []; match = c; live = own } ≡ exit_of p cs c
    single_exit fails =
        ap (λ ks. record { rows = c.before ∷ []; columns = c.after ∷ []; match = c; live = ks }) own_live ∙ sym (ap by_shape (rectangle ∙ fails))

abbrev single : Match → List ℕ → Exit
single c own = record { rows = c.before ∷ []; columns = c.after ∷ []; match = c; live = own }

pub exit_of_parts : (c : Match) (own rows columns : List ℕ) → rows ≡ c.before ∷ [] → columns ≡ c.after ∷ [] → record { rows = rows; columns = columns; match = c; live = own } ≡ single c own
exit_of_parts c own rows columns first second =
    ap (λ ks. record { rows = ks; columns = columns; match = c; live = own }) first ∙ ap (λ ks. record { rows = c.before ∷ []; columns = ks; match = c; live = own }) second

-- the exits that are left to find
module _ (p : Pair) (cs : List Match) (c : Match) (left rest : List Match) (is : left ≡ c ∷ rest) (es : List Exit) (all : List Exit) (so_far : exits_from p cs left es ≡ all) where
  opened : exits_from p cs rest (if list_any (λ e. has_match e c) es then es else es ++ exit_of p cs c ∷ []) ≡ all
  opened = sym (ap (λ ds. exits_from p cs ds es) is) ∙ so_far

  pub exit_taken : list_any (λ e. has_match e c) es ≡ true → exits_from p cs rest es ≡ all
  exit_taken holds = sym (ap (λ b. exits_from p cs rest (if b then es else es ++ exit_of p cs c ∷ [])) holds) ∙ opened

  pub exit_added : list_any (λ e. has_match e c) es ≡ false → (new : List Exit) → new ≡ es ++ exit_of p cs c ∷ [] → exits_from p cs rest new ≡ all
  exit_added fails new made =
      ap (exits_from p cs rest) made ∙ sym (ap (λ b. exits_from p cs rest (if b then es else es ++ exit_of p cs c ∷ [])) fails) ∙ opened

-- marks of the blocks at which a side arrives
pub arrivals_marked : (arrivals : Arrivals) (g : Graph) (stops : List Bool) (is_matched : ℕ → Bool) (first : ℕ) → AreMarks stops is_matched →
    AreArrivals arrivals g (λ k. slice_index_or stops k false) (blocks_from g (λ k. slice_index_or stops k false) first) →
    AreMarks arrivals.marks.items (has_block (arrivals_of g is_matched (blocks_from g is_matched first)))
arrivals_marked arrivals g stops is_matched first marks are k =
    are.marks k ∙ ap (λ f. has_block (arrivals_of g f (blocks_from g f first)) k) (fun_ext marks)

pub candidates_are : (p : Pair) (ms : List Match) (m : Match) (before after : List Bool) → AreMarks before (has_block (arrivals_before p ms m)) → AreMarks after (has_block (arrivals_after p ms m)) →
    filter (λ c. slice_index_or before c.before false && slice_index_or after c.after false) ms ≡ candidates p ms m
candidates_are p ms m before after first second =
    filter_agree (λ c. slice_index_or before c.before false && slice_index_or after c.after false) (λ c. has_block (arrivals_before p ms m) c.before && has_block (arrivals_after p ms m) c.after)
    (λ c. ap₂ (λ b d. b && d) (first c.before) (second c.after)) ms
