-- Parts of a piece, as the program has them.
use Rattle.std.proofs.Common.{◌≡◌, ◌<◌, ℕ, zero, suc, Bool, true, false, ◌||◌, nat_eq, List, [], ◌∷◌, length, map, get_or, option_map, Some, slice_get, slice_index_or, inl, inr, refl, sym, ap, ◌∙◌, subst, arith}
use mathlib.Core.Path.{ap₂, fun_ext}
use Rattle.std.specs.List.{list_any}
use Rattle.std.proofs.lemmas.Bool.{eqb-true}
use Rattle.std.proofs.lemmas.List.{get_or-map}
use Rattle.std.proofs.lemmas.Option.{slice_get-map, slice_get-get_or, unwrap_or-slice_get}
use Rattle.kat_model.specs.Members.{Has}
use Rattle.kat_model.proofs.Lists.{any_has, has_any, has_map, map_has}
use Rattle.flow_model.specs.Graphs.{Graph, Pair}
use Rattle.flow_model.specs.Matches.{Match, match_of, matches_of}
use Rattle.flow_model.specs.declared.block_match.BlockMatch.{BlockMatch}
use Rattle.flow_pieces.specs.Matches.{entry_match}
use Rattle.flow_places.specs.Walks.{blocks_from}
use Rattle.flow_pieces.specs.PieceGraphs.{Exit, arrivals_of, side_before, side_after, side_graph, piece_pair}
use Rattle.flow_pieces.specs.Exits.{share_column, is_ambiguous}
use Rattle.flow_matches.specs.declared.exits.Exit.{Exit as AnExit}
use Rattle.flow_matches.specs.declared.exits.Arrivals.{Arrivals}
use Rattle.flow_matches.specs.MatchViews.{match_at}
use Rattle.flow_matches.specs.Tables.{AreMarks, AreBelow}
use Rattle.flow_matches.specs.Working.SideViews.{AreBelowIf}
use Rattle.flow_matches.specs.Working.ExitViews.{exit_tree, exit_trees, AreArrivals}

-- marks as a test of blocks
pub same_test : (marks : List Bool) (test : ℕ → Bool) → AreMarks marks test → (λ k. slice_index_or marks k false) ≡ test
same_test marks test i = fun_ext i

pub same_inside : (g : Graph) (marks : List Bool) (test : ℕ → Bool) → AreMarks marks test → (first k : ℕ) (found : List ℕ) → first ≡ k → found ≡ blocks_from g (λ j. slice_index_or marks j false) first → found ≡ blocks_from g test k
same_inside g marks test i first k found e is =
    is ∙ ap (λ t. blocks_from g t first) (same_test marks test i) ∙ ap (blocks_from g test) e

pub same_arrivals : (g : Graph) (marks : List Bool) (test : ℕ → Bool) → AreMarks marks test → (ks js : List ℕ) (found : Arrivals) → ks ≡ js → AreArrivals found g (λ j. slice_index_or marks j false) ks → found.blocks.items ≡ arrivals_of g test js
same_arrivals g marks test i ks js found e are =
    are.blocks ∙ ap (λ t. arrivals_of g t ks) (same_test marks test i) ∙ ap (arrivals_of g test) e

-- the matched blocks are blocks of the graph
pub matched_below : (f : Match → ℕ) (block : BlockMatch → ℕ) → ((m : BlockMatch) → f (match_of m) ≡ block m) → (n : ℕ) (marks : List Bool) (ms : List BlockMatch) → AreBelow n (map block ms) →
    AreMarks marks (λ k. list_any (λ m. nat_eq (f m) k) (matches_of ms)) → AreBelowIf n (λ k. slice_index_or marks k false)
matched_below f block same n marks ms below marked k e =
    let found = has_any (λ m. nat_eq (f m) k) (matches_of ms) (sym (marked k) ∙ e) in
    let own = has_map match_of ms found.0 found.1 in
    let at : f found.0 ≡ k = eqb-true (f found.0) k found.2 in
    let is : block own.0 ≡ k = sym (same own.0) ∙ ap f own.2 ∙ at in
    subst (λ j. j < n) is (below (block own.0) (map_has block ms own.0 own.1))

-- the match of a number
pub match_there : (ms : List BlockMatch) (n : ℕ) (d : BlockMatch) → n < length ms → match_at ms n ≡ match_of (get_or ms n d)
match_there ms n d lt = unwrap_or-slice_get (matches_of ms) n entry_match ∙ get_or-map match_of ms n d entry_match lt

pub has_at : {X : Type 0} (xs : List X) (i : ℕ) (x : X) → slice_get xs i ≡ Some x → Has xs x
has_at [] i x e = absurd cc
has_at (y ∷ xs) zero x e = inl cc
has_at (y ∷ xs) (suc i) x e = inr (has_at xs i x e)

-- ---- exits that share a column

or_true : (b : Bool) → (b || true) ≡ true
or_true true = refl
or_true false = refl

pub ambiguous_at : (es : List Exit) (i j : ℕ) (d e : Exit) → i < j → slice_get es i ≡ Some d → slice_get es j ≡ Some e → share_column d e ≡ true → is_ambiguous es ≡ true
ambiguous_at [] i j d e lt a b s = absurd cc
ambiguous_at (x ∷ es) i zero d e lt a b s = absurd (omega (arith, lt))
ambiguous_at (x ∷ es) zero (suc j) d e lt a b s =
    let same : x ≡ d = cc in
    ap (λ v. v || is_ambiguous es) (ap (λ z. list_any (share_column z) es) same ∙ any_has (share_column d) es e (has_at es j e b) s)
ambiguous_at (x ∷ es) (suc i) (suc j) d e lt a b s =
    ap (λ v. list_any (share_column x) es || v) (ambiguous_at es i j d e (omega (arith, lt)) a b s) ∙ or_true (list_any (share_column x) es)

-- an exit of a place, and its match
pub exit_there : (ms : List BlockMatch) (es : List AnExit) (i : ℕ) (d : AnExit) → i < length es → slice_get (exit_trees ms es) i ≡ Some (exit_tree ms (get_or es i d))
exit_there ms es i d lt = slice_get-map (exit_tree ms) es i ∙ ap (option_map (exit_tree ms)) (slice_get-get_or es i d lt)

pub exit_match_there : (ms : List BlockMatch) (es : List AnExit) (i : ℕ) (own : AnExit) (e : Exit) → i < length es → own ≡ get_or es i own → own.number < length ms → slice_get (exit_trees ms es) i ≡ Some e →
    slice_get (matches_of ms) own.number ≡ Some e.match
exit_match_there ms es i own e lt is below at =
    let there = slice_get-get_or (matches_of ms) own.number entry_match (subst (λ n. own.number < n) (sym (mapped_length ms)) below) in
    let same : exit_tree ms own ≡ e = let own_there : Some (exit_tree ms own) ≡ Some e = ap (λ z. Some (exit_tree ms z)) is ∙ sym (exit_there ms es i own lt) ∙ at in cc in
    there ∙ ap Some (sym (unwrap_or-slice_get (matches_of ms) own.number entry_match)) ∙ ap (λ z. Some z.match) same
  where
    mapped_length : (ds : List BlockMatch) → length (matches_of ds) ≡ length ds
    mapped_length [] = refl
    mapped_length (x ∷ ds) = ap suc (mapped_length ds)

-- ---- the question of a piece

abbrev pub with_graphs : Pair → Graph → Graph → Pair
with_graphs p before after = record { sorts = p.sorts; before = before; after = after }

pub question_is : (p : Pair) (ms : List Match) (m : Match) (es fs : List Exit) (before after : Graph) → es ≡ fs → before ≡ side_graph (side_before p ms m es) → after ≡ side_graph (side_after p ms m es) →
    with_graphs p before after ≡ piece_pair p ms m fs
question_is p ms m es fs before after e f g =
    ap₂ (with_graphs p) (f ∙ ap (λ l. side_graph (side_before p ms m l)) e) (g ∙ ap (λ l. side_graph (side_after p ms m l)) e)
