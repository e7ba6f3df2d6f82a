-- The search finds the least hypothesis that is not simple.
use Rattle.std.proofs.Common.{◌≡◌, ℕ, ◌<◌, ◌≤◌, List, map, length, Bool, true, false, not, cond, nat_lt, Option, Some, None, slice_get, get_or, position, refl, sym, ap, ◌∙◌, subst, arith}
use Rattle.std.specs.List.{position_or_len}
use Rattle.std.specs.Option.{option_map, IfSome, IfNone}
use Rattle.std.proofs.lemmas.Bool.{both_ways, ltb-false, not-true, not-false}
use Rattle.std.proofs.lemmas.Option.{slice_get-map, slice_get-get_or, slice_get_within, get_or_from_slice_get}
use Rattle.std.proofs.lemmas.List.Quantifiers.{position-Some}
use Rattle.std.proofs.lemmas.List.Sums.{fails_before_first}
use Rattle.kat_model.specs.Trees.{Term, kat_tree}
use Rattle.kat_model.specs.Members.{Has}
use Rattle.kat_model.specs.declared.tree.Kat.{Kat}
use Rattle.kat_model.specs.declared.tree.Kat.TheVariants.{Zero}
use Rattle.kat_model.proofs.Lists.{has_map}
use Rattle.kat_model.proofs.Places.{place_of_member}
use Rattle.goal_forms.specs.TestTerms.{IsSimple, AreSimple, IsNotSimple}
use Rattle.goal_forms.specs.HypothesisForms.{is_simple}
use Rattle.goal_forms.proofs.SimpleForms.{simple_is, is_simple_of}

abbrev fails : Kat → Bool
fails h = not (is_simple (kat_tree h))

pub least_found : (xs : List Kat) (hyps : List Term) (k : ℕ) → map kat_tree xs ≡ hyps → position fails xs ≡ Some k → IsNotSimple hyps k
least_found xs hyps k same e =
    let found = position-Some fails xs k Zero e in
    record {
      hyp = kat_tree (get_or xs k Zero);
      place = ap (λ (l : List Term). slice_get l k) (sym same) ∙ slice_get-map kat_tree xs k ∙ ap (option_map kat_tree) (slice_get-get_or xs k Zero found.0);
      not_simple = λ s. both_ways (is_simple (kat_tree (get_or xs k Zero))) (not-true _ found.1) (is_simple_of (kat_tree (get_or xs k Zero)) s);
      least = λ j h lt place. earlier j h lt place (found.2 j lt);
    }
  where
    earlier : (j : ℕ) (h : Term) → j < k → slice_get hyps j ≡ Some h → fails (get_or xs j Zero) ≡ false → IsSimple h
    earlier j h lt place f =
        let found = position-Some fails xs k Zero e in
        let there : slice_get (map kat_tree xs) j ≡ Some (kat_tree (get_or xs j Zero)) = slice_get-map kat_tree xs j ∙ ap (option_map kat_tree) (slice_get-get_or xs j Zero (omega (arith, lt, found.0))) in
        let one : Some (kat_tree (get_or xs j Zero)) ≡ Some h = sym there ∙ ap (λ (l : List Term). slice_get l j) same ∙ place in
        let is : kat_tree (get_or xs j Zero) ≡ h = cc in
        subst IsSimple is (simple_is (kat_tree (get_or xs j Zero)) (not-false _ f))

-- if no index is the first that passes, the search passed all elements
searched_all : (m n : ℕ) (t : Bool) → nat_lt m n ≡ t → None ≡ cond t (Some m) None → n ≤ m
searched_all m n true e none = cc
searched_all m n false e none = ltb-false m n e

pub all_simple : (xs : List Kat) (hyps : List Term) → map kat_tree xs ≡ hyps → None ≡ position fails xs → AreSimple hyps
all_simple xs hyps same none h has =
    let x = has_map kat_tree xs h (subst (λ l. Has l h) (sym same) has) in
    let at = place_of_member xs x.0 x.1 in
    let first = position_or_len fails xs in
    let past : length xs ≤ first = searched_all first (length xs) (nat_lt first (length xs)) refl none in
    let lacks = fails_before_first fails xs at.0 Zero (omega (arith, past, slice_get_within xs at.0 x.0 at.1)) in
    let is : get_or xs at.0 Zero ≡ x.0 = get_or_from_slice_get xs at.0 x.0 Zero at.1 in
    subst IsSimple x.2 (simple_is (kat_tree x.0) (not-false _ (ap fails (sym is) ∙ lacks)))

pub not_simple_least : (xs : List Kat) (hyps : List Term) (r : Option ℕ) → map kat_tree xs ≡ hyps → r ≡ position fails xs → IfSome r (IsNotSimple hyps)
not_simple_least xs hyps None same e = tt
not_simple_least xs hyps (Some k) same e = least_found xs hyps k same (sym e)

pub not_simple_none : (xs : List Kat) (hyps : List Term) (r : Option ℕ) → map kat_tree xs ≡ hyps → r ≡ position fails xs → IfNone r (AreSimple hyps)
not_simple_none xs hyps None same e = all_simple xs hyps same e
not_simple_none xs hyps (Some k) same e = tt
