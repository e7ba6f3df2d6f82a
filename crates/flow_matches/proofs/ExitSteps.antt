-- Steps of the loops that traverse the exits of a piece at a block.
use Rattle.std.proofs.Common.{◌≡◌, ◌<◌, ◌≤◌, ℕ, suc, ◌+◌, Bool, true, false, List, [], ◌∷◌, ◌++◌, length, map, drop, get_or, refl, sym, ap, ◌∙◌, subst, arith}
use Rattle.std.proofs.lemmas.List.{get_or-map, map-append}
use Rattle.flow_model.specs.Matches.{match_of}
use Rattle.flow_model.specs.declared.block_match.BlockMatch.{BlockMatch}
use Rattle.flow_pieces.specs.PieceGraphs.{Exit, Leave, leaves_from}
use Rattle.kat_model.specs.Members.{Has}
use Rattle.flow_matches.specs.declared.exits.Exit.{Exit as AnExit}
use Rattle.flow_matches.specs.declared.leaves.Leave.{Leave as ALeave}
use Rattle.flow_matches.specs.MatchViews.{match_at}
use Rattle.flow_matches.specs.Working.ExitViews.{exit_with, exit_tree, exit_trees}
use Rattle.flow_matches.specs.Working.SideViews.{leave_tree, leave_trees}
use Rattle.flow_matches.proofs.PieceParts.{match_there}
use Rattle.flow_matches.proofs.SideGraphs.{has_item}
use Rattle.flow_matches.proofs.SideSteps.{exit_taken, exit_skipped, exits_end}

pub mapped_length : {X Y : Type 0} (f : X → Y) (xs : List X) → length (map f xs) ≡ length xs
mapped_length f [] = refl
mapped_length f (x ∷ xs) = ap suc (mapped_length f xs)

module _ (leave : ℕ → Exit → Leave) (has : Exit → Bool) (ms : List BlockMatch) (es : List AnExit) where
  below : (i : ℕ) → i < length es → i < length (exit_trees ms es)
  below i lt = subst (λ n. i < n) (sym (mapped_length (exit_tree ms) es)) lt

  exit_at : (i : ℕ) (own : AnExit) → i < length es → own ≡ get_or es i own → get_or (exit_trees ms es) i (exit_tree ms own) ≡ exit_tree ms own
  exit_at i own lt is = get_or-map (exit_tree ms) es i own (exit_tree ms own) lt ∙ ap (exit_tree ms) (sym is)

  pub exit_step : (i : ℕ) (own : AnExit) (m : BlockMatch) (old new : List ALeave) (made : ALeave) (r : List Leave) → i < length es → own ≡ get_or es i own → own.number < length ms → m ≡ get_or ms own.number m →
      has (exit_tree ms own) ≡ true → leave_tree made ≡ leave i (exit_with (match_of m) own) → new ≡ old ++ made ∷ [] →
      leave_trees old ++ leaves_from leave has i (drop i (exit_trees ms es)) ≡ r → leave_trees new ++ leaves_from leave has (i + 1) (drop (i + 1) (exit_trees ms es)) ≡ r
  exit_step i own m old new made r lt is few match_is passes made_is added so_far =
      let at = exit_at i own lt is in
      let same : match_of m ≡ match_at ms own.number = ap match_of match_is ∙ sym (match_there ms own.number m few) in
      exit_taken leave has (exit_trees ms es) i (exit_tree ms own) (leave_trees old) (leave_trees new) r (below i lt) (ap has at ∙ passes)
      (ap leave_trees added ∙ map-append leave_tree old (made ∷ []) ∙ ap (λ l. leave_trees old ++ l ∷ []) (made_is ∙ ap (λ d. leave i (exit_with d own)) same ∙ ap (leave i) (sym at))) so_far

  pub exit_passed : (i : ℕ) (own : AnExit) (old : List ALeave) (r : List Leave) → i < length es → own ≡ get_or es i own → has (exit_tree ms own) ≡ false →
      leave_trees old ++ leaves_from leave has i (drop i (exit_trees ms es)) ≡ r → leave_trees old ++ leaves_from leave has (i + 1) (drop (i + 1) (exit_trees ms es)) ≡ r
  exit_passed i own old r lt is fails so_far =
      exit_skipped leave has (exit_trees ms es) i (exit_tree ms own) (leave_trees old) r (below i lt) (ap has (exit_at i own lt is) ∙ fails) so_far

  pub all_exits : (i : ℕ) (old : List ALeave) (r : List Leave) → length es ≤ i → leave_trees old ++ leaves_from leave has i (drop i (exit_trees ms es)) ≡ r → leave_trees old ≡ r
  all_exits i old r le so_far = exits_end leave has (exit_trees ms es) i (leave_trees old) r (omega (arith, le, mapped_length (exit_tree ms) es)) so_far

-- an exit of a place is one of the exits
pub exit_has : (es : List AnExit) (i : ℕ) (own : AnExit) → i < length es → own ≡ get_or es i own → Has es own
exit_has es i own lt is = subst (Has es) (sym is) (has_item es i own lt)
