-- Each expression and each condition of a file that is read is one tree.
use Rattle.std.proofs.Common.{◌≡◌, ◌&&◌, ℕ, true, List, [], ◌∷◌, length, All, refl}
use Rattle.std.specs.Prelude.{Vec}
use Rattle.std.specs.declared.alloc.Global.{Global}
use Rattle.std.proofs.lemmas.List.Elements.{All-nil, All-cons}
use Rattle.flow_model.specs.declared.sort.Sort.{Sort}
use Rattle.flow_model.specs.declared.graph.Block.{Block}
use Rattle.flow_model.specs.declared.block_match.Equation.{Equation}
use Rattle.flow_model.specs.declared.block_match.BlockMatch.{BlockMatch}
use Rattle.flow_text.specs.declared.matches.FileMatch.{FileMatch as AFileMatch}
use Rattle.flow_text.specs.declared.reading.FlowFile.{FlowFile}
use Rattle.flow_text.specs.Matches.{FileMatch}
use Rattle.flow_text.specs.MatchViews.{equations_of, blocks_parts, matches_parts}
use Rattle.flow_text.specs.Checking.{FlowFileParts, pair_of}
use Rattle.flow_text.specs.FileViews.{graphs_of, file_parts}
use Rattle.flow_text.specs.Texts.{IsFlowText}
use Rattle.flow_model.specs.WholeGraphs.{is_whole_expr, is_whole_cond, IsWholeGraph}
use Rattle.flow_laws.specs.SortedMatches.{AreSortedEquations, IsSortedMatch, IsMatchOf}
use Rattle.flow_laws.specs.MatchNames.{NamesAreRead}
use Rattle.flow_model.specs.WholeMatches.{are_whole_equations, IsWholeMatch}
use Rattle.flow_laws.proofs.ReadGraphs.{both, expr_whole, cond_whole, graph_whole}
use Rattle.flow_laws.proofs.SortedMatches.{AreMatches}
use Rattle.flow_laws.proofs.SortedFiles.{AreGood, flow_graphs_good, flow_matches_sorted}

graphs_whole : (vars : List Sort) (gs : List (Vec Block Global)) → AreGood vars (graphs_of gs) → All IsWholeGraph gs
graphs_whole vars [] h = All-nil IsWholeGraph
graphs_whole vars (g ∷ gs) h = All-cons IsWholeGraph g gs (graph_whole vars g.items h.0.1).0 (graphs_whole vars gs h.1)

pub flow_graphs_whole : (text : List ℕ) (f : FlowFile) → IsFlowText text (file_parts f) → All IsWholeGraph f.graphs.items
flow_graphs_whole text f denotes = graphs_whole f.sorts.items f.graphs.items (flow_graphs_good text (file_parts f) denotes)

-- ---- matches

all_matches : (sorts : List Sort) (n m : ℕ) (ms : List FileMatch) → AreMatches sorts n m ms → All (λ (x : FileMatch). IsSortedMatch sorts n m x.blocks) ms
all_matches sorts n m [] h = All-nil (λ (x : FileMatch). IsSortedMatch sorts n m x.blocks)
all_matches sorts n m (x ∷ xs) h = All-cons (λ (x : FileMatch). IsSortedMatch sorts n m x.blocks) x xs h.0.0 (all_matches sorts n m xs h.1)

pub flow_matches_of : (text : List ℕ) (f : FlowFileParts) → IsFlowText text f → All (λ (m : FileMatch). IsMatchOf (pair_of f) m.blocks) f.matches
flow_matches_of text f h = all_matches f.sorts (length (pair_of f).before) (length (pair_of f).after) f.matches (flow_matches_sorted text f h)

all_named : (sorts : List Sort) (n m : ℕ) (ms : List FileMatch) → AreMatches sorts n m ms → All (λ (x : FileMatch). (v : ℕ) → NamesAreRead x v) ms
all_named sorts n m [] h = All-nil (λ (x : FileMatch). (v : ℕ) → NamesAreRead x v)
all_named sorts n m (x ∷ xs) h = All-cons (λ (x : FileMatch). (v : ℕ) → NamesAreRead x v) x xs h.0.1 (all_named sorts n m xs h.1)

pub flow_names_read : (text : List ℕ) (f : FlowFileParts) → IsFlowText text f → All (λ (x : FileMatch). (v : ℕ) → NamesAreRead x v) f.matches
flow_names_read text f h = all_named f.sorts (length (pair_of f).before) (length (pair_of f).after) f.matches (flow_matches_sorted text f h)

equations_whole : (sorts : List Sort) (qs : List Equation) → AreSortedEquations sorts (equations_of qs) → are_whole_equations qs ≡ true
equations_whole sorts [] h = refl
equations_whole sorts (q ∷ qs) h = both (is_whole_expr q.expression.items) (are_whole_equations qs) (expr_whole sorts q.expression.items h.0.1).0 (equations_whole sorts qs h.1)

match_whole : (sorts : List Sort) (n m : ℕ) (x : BlockMatch) → IsSortedMatch sorts n m (blocks_parts x) → IsWholeMatch x
match_whole sorts n m x h =
    both (are_whole_equations x.forth.items) (are_whole_equations x.back.items && (are_whole_equations x.keeping.items && is_whole_cond x.condition.items)) (equations_whole sorts x.forth.items h.forth_sorted)
    (both (are_whole_equations x.back.items) (are_whole_equations x.keeping.items && is_whole_cond x.condition.items) (equations_whole sorts x.back.items h.back_sorted)
    (both (are_whole_equations x.keeping.items) (is_whole_cond x.condition.items) (equations_whole sorts x.keeping.items h.keeping_sorted) (cond_whole sorts x.condition.items h.condition_sorted).0))

matches_whole : (sorts : List Sort) (n m : ℕ) (ms : List AFileMatch) → AreMatches sorts n m (matches_parts ms) → All (λ (x : AFileMatch). IsWholeMatch x.blocks) ms
matches_whole sorts n m [] h = All-nil (λ (x : AFileMatch). IsWholeMatch x.blocks)
matches_whole sorts n m (x ∷ xs) h = All-cons (λ (x : AFileMatch). IsWholeMatch x.blocks) x xs (match_whole sorts n m x.blocks h.0.0) (matches_whole sorts n m xs h.1)

pub flow_matches_whole : (text : List ℕ) (f : FlowFile) → IsFlowText text (file_parts f) → All (λ (x : AFileMatch). IsWholeMatch x.blocks) f.matches.items
flow_matches_whole text f denotes =
    matches_whole f.sorts.items (length (pair_of (file_parts f)).before) (length (pair_of (file_parts f)).after) f.matches.items (flow_matches_sorted text (file_parts f) denotes)
