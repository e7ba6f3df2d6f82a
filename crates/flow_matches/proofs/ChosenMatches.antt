-- Matches by their numbers, as loops over numbers read them.
use Rattle.std.proofs.Common.{◌≡◌, ◌⊎◌, inl, inr, ◌<◌, ◌≤◌, ℕ, zero, suc, ◌+◌, Bool, true, false, not, ◌&&◌, ◌||◌, List, [], ◌∷◌, ◌++◌, length, map, filter, if◌then◌else◌, take, drop, get_or, refl, sym, ap, ◌∙◌, subst, arith}
use Rattle.std.specs.List.{list_any, list_all}
use Rattle.std.proofs.lemmas.List.{get_or-map, map_more, map_push, append-nil, take_all, drop_more}
use Rattle.std.proofs.lemmas.List.Elements.{filter-append}
use Rattle.std.proofs.lemmas.List.Folds.{list_any_at, list_all_at, list_any-append, list_all-append, list_all-map}
use Rattle.std.proofs.lemmas.Option.{unwrap_or-slice_get}
use Rattle.std.proofs.lemmas.Bool.{false≢true, or_from, and_from}
use mathlib.Core.Bool.{beq}
use Rattle.kat_model.specs.Members.{Has}
use Rattle.kat_model.proofs.Lists.{has_pushed}
use Rattle.flow_model.specs.Matches.{Match, match_of, matches_of}
use Rattle.flow_model.specs.declared.block_match.BlockMatch.{BlockMatch}
use Rattle.flow_pieces.specs.Matches.{entry_match}
use Rattle.flow_pieces.specs.SameTrees.{is_same_bool}
use Rattle.flow_matches.specs.MatchViews.{match_at}
use Rattle.flow_matches.specs.Tables.{AreBelow}
use Rattle.flow_matches.specs.declared.exits.Exit.{Exit as AnExit}
use Rattle.flow_matches.specs.Working.ExitViews.{chosen, IsExitOf, AreExitsOf}

pub match_is : (ms : List BlockMatch) (n : ℕ) (one : BlockMatch) → n < length ms → one ≡ get_or ms n one → match_at ms n ≡ match_of one
match_is ms n one lt is =
    unwrap_or-slice_get (matches_of ms) n entry_match ∙ get_or-map match_of ms n one entry_match lt ∙ ap match_of (sym is)

pub below_at : (n : ℕ) (ks : List ℕ) (i : ℕ) → AreBelow n ks → i < length ks → get_or ks i 0 < n
below_at n [] i below lt = absurd (omega (arith, lt))
below_at n (k ∷ ks) zero below lt = below k (inl refl)
below_at n (k ∷ ks) (suc i) below lt = below_at n ks i (λ j h. below j (inr h)) (omega (arith, lt))

pub below_pushed : (n : ℕ) (ks : List ℕ) (k : ℕ) → AreBelow n ks → k < n → AreBelow n (ks ++ k ∷ [])
below_pushed n ks k below lt j h = by_place (has_pushed ks k j h)
  where
    by_place : Has ks j ⊎ (k ≡ j) → j < n
    by_place (inl m) = below j m
    by_place (inr e) = omega (arith, lt, e)

-- the match of the number at a place of a list of numbers
module _ (ms : List BlockMatch) (ns : List ℕ) (below : AreBelow (length ms) ns) (i : ℕ) (lt : i < length ns) (one : BlockMatch) (is : one ≡ get_or ms (get_or ns i 0) one) where
  pub here : match_at ms (get_or ns i 0) ≡ match_of one
  here = match_is ms (get_or ns i 0) one (below_at (length ms) ns i below lt) is

  pub chosen_more : chosen ms (take (i + 1) ns) ≡ chosen ms (take i ns) ++ match_of one ∷ []
  chosen_more = map_more (match_at ms) ns i 0 lt ∙ ap (λ m. chosen ms (take i ns) ++ m ∷ []) here

  pub chosen_rest : chosen ms (drop i ns) ≡ match_of one ∷ chosen ms (drop (i + 1) ns)
  chosen_rest = ap (chosen ms) (drop_more ns i 0 lt) ∙ ap (λ m. m ∷ chosen ms (drop (i + 1) ns)) here

-- lists with a further element, which passes or fails a test
module _ {X : Type 0} (p : X → Bool) where
  pub none_more : (xs ys : List X) (x : X) → ys ≡ xs ++ x ∷ [] → list_any p xs ≡ false → p x ≡ false → list_any p ys ≡ false
  none_more xs ys x is so_far fails =
      ap (list_any p) is ∙ list_any-append p xs (x ∷ []) ∙ or_from (list_any p xs) (p x || false) so_far (ap (λ b. b || false) fails)

  pub all_more : (xs ys : List X) (x : X) → ys ≡ xs ++ x ∷ [] → list_all p xs ≡ true → p x ≡ true → list_all p ys ≡ true
  all_more xs ys x is so_far passes =
      ap (list_all p) is ∙ list_all-append p xs (x ∷ []) ∙ and_from (list_all p xs) (p x && true) so_far (ap (λ b. b && true) passes)

  pub any_mapped : {Y : Type 0} (f : Y → X) (ys : List Y) → list_any p (map f ys) ≡ list_any (λ y. p (f y)) ys
  any_mapped f [] = refl
  any_mapped f (y ∷ ys) = ap (λ b. p (f y) || b) (any_mapped f ys)

  -- the member of a number, among those chosen
  module _ {Y : Type 0} (f : Y → X) (ys : List Y) (i : ℕ) (d : Y) (lt : i < length ys) (x : X) (is : f (get_or ys i d) ≡ x) where
    pub some_passes : p x ≡ true → true ≡ list_any p (map f ys)
    some_passes passes = sym (any_mapped f ys ∙ list_any_at (λ y. p (f y)) ys i d lt (ap p is ∙ passes))

    pub some_fails : p x ≡ false → false ≡ list_all p (map f ys)
    some_fails fails = sym (list_all-map p f ys ∙ list_all_at (λ y. p (f y)) ys i d lt (ap p is ∙ fails))

-- what holds of the first elements holds of all, where there are no others
pub of_all : {X Y : Type 0} (F : List X → Y) (xs : List X) (i : ℕ) (y : Y) → length xs ≤ i → F (take i xs) ≡ y → y ≡ F xs
of_all F xs i y le e = sym e ∙ ap F (take_all i xs le)

-- a match that is a candidate, and one that is not
module _ (p : Match → Bool) (ms : List BlockMatch) (n : ℕ) (lt : n < length ms) (one : BlockMatch) (is : one ≡ get_or ms n one) (found : List ℕ) (so_far : chosen ms found ≡ filter p (matches_of (take n ms))) where
  filter_next : filter p (matches_of (take (n + 1) ms)) ≡ filter p (matches_of (take n ms)) ++ filter p (match_of one ∷ [])
  filter_next =
      ap (filter p) (map_more match_of ms n one lt ∙ ap (λ m. matches_of (take n ms) ++ match_of m ∷ []) (sym is)) ∙ filter-append p (matches_of (take n ms)) (match_of one ∷ [])

  pub candidate_kept : (new : List ℕ) → new ≡ found ++ n ∷ [] → p (match_of one) ≡ true → chosen ms new ≡ filter p (matches_of (take (n + 1) ms))
  candidate_kept new added passes =
      ap (chosen ms) added ∙ map_push (match_at ms) found n ∙ ap (λ ds. ds ++ match_at ms n ∷ []) so_far ∙ ap (λ d. filter p (matches_of (take n ms)) ++ d ∷ []) (match_is ms n one lt is)
      ∙ sym (filter_next ∙ ap (λ b. filter p (matches_of (take n ms)) ++ (if b then match_of one ∷ [] else [])) passes)

  pub candidate_left : p (match_of one) ≡ false → chosen ms found ≡ filter p (matches_of (take (n + 1) ms))
  candidate_left fails =
      so_far ∙ sym (filter_next ∙ ap (λ b. filter p (matches_of (take n ms)) ++ (if b then match_of one ∷ [] else [])) fails ∙ append-nil (filter p (matches_of (take n ms))))

-- truth values that a comparison finds equal or different
pub bools_differ : (b c : Bool) → not (beq b c) ≡ true → is_same_bool b c ≡ false
bools_differ true true e = absurd (false≢true e)
bools_differ true false e = refl
bools_differ false true e = refl
bools_differ false false e = absurd (false≢true e)

pub bools_agree : (b c : Bool) → not (beq b c) ≡ false → is_same_bool b c ≡ true
bools_agree true true e = refl
bools_agree true false e = absurd (false≢true (sym e))
bools_agree false true e = absurd (false≢true (sym e))
bools_agree false false e = refl

pub unlike : (b c : Bool) → not (beq b c) ≡ true → b ≡ c → ⊥
unlike true true e q = false≢true e
unlike true false e q = false≢true (sym q)
unlike false true e q = false≢true q
unlike false false e q = false≢true e

pub alike : (b c : Bool) → not (beq b c) ≡ false → b ≡ c
alike true true e = refl
alike true false e = absurd (false≢true (sym e))
alike false true e = absurd (false≢true (sym e))
alike false false e = refl

-- exits with one more
pub exits_pushed : (n variables : ℕ) (old new : List AnExit) (e : AnExit) → AreExitsOf n variables old → IsExitOf n variables e → new ≡ old ++ e ∷ [] → AreExitsOf n variables new
exits_pushed n variables old new e all one is f h = by_place (has_pushed old e f (subst (λ es. Has es f) is h))
  where
    by_place : Has old f ⊎ (e ≡ f) → IsExitOf n variables f
    by_place (inl m) = all f m
    by_place (inr same) = subst (IsExitOf n variables) same one
