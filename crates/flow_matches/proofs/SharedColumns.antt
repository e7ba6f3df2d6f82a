-- Exits that share a column, by their places.
use Rattle.std.proofs.Common.{◌≡◌, ◌<◌, ◌≤◌, ℕ, ◌+◌, Bool, false, ◌||◌, Some, None, List, ◌∷◌, length, map, drop, get_or, slice_get, option_map, sym, ap, ◌∙◌, arith}
use Rattle.std.specs.List.{list_any}
use Rattle.std.proofs.lemmas.List.{drop_more, get_or-map, length-map, at_drop_all}
use Rattle.std.proofs.lemmas.Option.{slice_get-map, slice_get-get_or}
use Rattle.flow_model.specs.declared.block_match.BlockMatch.{BlockMatch}
use Rattle.flow_pieces.specs.Exits.{is_ambiguous}
use Rattle.flow_matches.specs.declared.exits.Exit.{Exit as AnExit}
use Rattle.flow_matches.specs.Working.ExitViews.{exit_tree, exit_trees, PlacesShare, FirstWith}

module _ {X Y : Type 0} (view : X → Y) (xs : List X) (i : ℕ) (x : X) (lt : i < length xs) (is : x ≡ get_or xs i x) where
  pub view_there : slice_get (map view xs) i ≡ Some (view x)
  view_there = slice_get-map view xs i ∙ ap (option_map view) (slice_get-get_or xs i x lt) ∙ ap (λ z. Some (view z)) (sym is)

  rest : drop i (map view xs) ≡ view x ∷ drop (i + 1) (map view xs)
  rest =
      drop_more (map view xs) i (view x) (let long = length-map xs view in omega (arith, lt, long))
      ∙ ap (λ y. y ∷ drop (i + 1) (map view xs)) (get_or-map view xs i x (view x) lt ∙ ap view (sym is))

  pub none_here : (p : Y → Bool) → p (view x) ≡ false → list_any p (drop i (map view xs)) ≡ list_any p (drop (i + 1) (map view xs))
  none_here p fails = ap (list_any p) rest ∙ ap (λ b. b || list_any p (drop (i + 1) (map view xs))) fails

pub none_past : {X Y : Type 0} (view : X → Y) (xs : List X) (i : ℕ) (p : Y → Bool) → length xs ≤ i → list_any p (drop i (map view xs)) ≡ false
none_past view xs i p le = at_drop_all (list_any p) (map view xs) i (let long = length-map xs view in omega (arith, le, long))

module _ (ms : List BlockMatch) (es : List AnExit) where
  pub not_ambiguous_past : (i : ℕ) → length es ≤ i → is_ambiguous (drop i (exit_trees ms es)) ≡ false
  not_ambiguous_past i le = at_drop_all is_ambiguous (exit_trees ms es) i (let long = length-map es (exit_tree ms) in omega (arith, le, long))

  module _ (i : ℕ) (e : AnExit) (lt : i < length es) (is : e ≡ get_or es i e) where
    pub not_ambiguous_here : FirstWith None ms e es (i + 1) → is_ambiguous (drop i (exit_trees ms es)) ≡ is_ambiguous (drop (i + 1) (exit_trees ms es))
    not_ambiguous_here none =
        ap is_ambiguous (rest (exit_tree ms) es i e lt is) ∙ ap (λ b. b || is_ambiguous (drop (i + 1) (exit_trees ms es))) none

    pub places_share : (j : ℕ) → FirstWith (Some j) ms e es (i + 1) → PlacesShare (exit_trees ms es) i j
    places_share j found = record {
      one = exit_tree ms e;
      other = found.1.0;
      in_order = omega (arith, found.0);
      exit_first = view_there (exit_tree ms) es i e lt is;
      exit_second = found.1.1;
      share = found.1.2;
    }
