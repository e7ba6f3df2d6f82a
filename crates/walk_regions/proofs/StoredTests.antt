-- Tests of a store that represent functions of atoms: for one node, for two tests, and by a primitive test.
use Rattle.std.proofs.Common.{◌≡◌, ℕ, Bool, true, false, cond, not, ◌&&◌, ◌||◌, length, get_or, refl, sym, ap, ◌∙◌, subst, Result, Ok, Err, IfOk}
use Rattle.kat_model.specs.Trees.{TestTree, complement, meet, join}
use Rattle.kat_model.specs.Steps.{Atom, truth}
use Rattle.kat_model.specs.Problems.{IsTestInRange}
use Rattle.term_nodes.specs.declared.TestNode.{TestNode}
use Rattle.term_nodes.specs.NodeLists.{NodeParts, IsTest}
use Rattle.term_nodes.specs.NodeTrees.{test_tree_at, test_tree_in}
use Rattle.term_nodes.specs.Growth.{Grows}
use Rattle.walk_regions.specs.Working.StoredTests.{IsTestFor, IsConstantTest}

-- what holds for each id with the tree of a node holds for the id of an interned node
pub interned : {E : Type 0} (s t : NodeParts) (node : TestNode ℕ) (r : Result ℕ E) (P : ℕ → Type 0) → ((id : ℕ) → IsTest t id → test_tree_at t id ≡ test_tree_in s node → P id)
    → IfOk r (λ id. test_tree_at t id ≡ test_tree_in s node) → IfOk r (IsTest t) → IfOk r P
interned s t node (Ok id) P f tree is = f id is tree
interned s t node (Err e) P f tree is = tt

-- when the store grows
pub test_kept : (s t : NodeParts) (n id : ℕ) (f : Atom → Bool) → Grows s t → IsTestFor s n id f → IsTestFor t n id f
test_kept s t n id f grows is = record {
  is_id = grows.test_numbers id is.is_id;
  in_range = subst (IsTestInRange n) (sym (grows.test_trees id is.is_id)) is.in_range;
  value = λ atom wide. ap (λ (b : TestTree). truth b atom) (grows.test_trees id is.is_id) ∙ is.value atom wide;
}

-- for another function with the same values
pub test_same : (s : NodeParts) (n id : ℕ) (f g : Atom → Bool) → ((atom : Atom) → length atom ≡ n → f atom ≡ g atom) → IsTestFor s n id f → IsTestFor s n id g
test_same s n id f g same is = record { is_id = is.is_id; in_range = is.in_range; value = λ atom wide. is.value atom wide ∙ same atom wide }

-- a test, by its tree
pub test_by_tree : (s : NodeParts) (n id : ℕ) (b : TestTree) (f : Atom → Bool) → IsTest s id → test_tree_at s id ≡ b → IsTestInRange n b → ((atom : Atom) → length atom ≡ n → truth b atom ≡ f atom) → IsTestFor s n id f
test_by_tree s n id b f is tree range value = record {
  is_id = is;
  in_range = subst (IsTestInRange n) (sym tree) range;
  value = λ atom wide. ap (λ (c : TestTree). truth c atom) tree ∙ value atom wide;
}

-- ---- two tests

and-true : (x : Bool) → x ≡ (x && true)
and-true true = refl
and-true false = refl

and-false : (x : Bool) → false ≡ (x && false)
and-false true = refl
and-false false = refl

or-true : (x : Bool) → true ≡ (x || true)
or-true true = refl
or-true false = refl

or-false : (x : Bool) → x ≡ (x || false)
or-false true = refl
or-false false = refl

module _ (s : NodeParts) (n a b : ℕ) (f g : Atom → Bool) (first : IsTestFor s n a f) (second : IsTestFor s n b g) where
  -- the function of a constant is constant
  first_constant : (v : Bool) → IsConstantTest s a v → (atom : Atom) → length atom ≡ n → f atom ≡ v
  first_constant v c atom wide = sym (first.value atom wide) ∙ c atom

  second_constant : (v : Bool) → IsConstantTest s b v → (atom : Atom) → length atom ≡ n → g atom ≡ v
  second_constant v c atom wide = sym (second.value atom wide) ∙ c atom

  pub both_first_true : IsConstantTest s a true → IsTestFor s n b (λ atom. f atom && g atom)
  both_first_true c = test_same s n b g (λ atom. f atom && g atom) (λ atom wide. ap (λ x. x && g atom) (sym (first_constant true c atom wide))) second

  pub both_first_false : IsConstantTest s a false → IsTestFor s n a (λ atom. f atom && g atom)
  both_first_false c = test_same s n a f (λ atom. f atom && g atom) (λ atom wide. let e = first_constant false c atom wide in e ∙ ap (λ x. x && g atom) (sym e)) first

  pub both_second_true : IsConstantTest s b true → IsTestFor s n a (λ atom. f atom && g atom)
  both_second_true c = test_same s n a f (λ atom. f atom && g atom) (λ atom wide. and-true (f atom) ∙ ap (λ x. f atom && x) (sym (second_constant true c atom wide))) first

  pub both_second_false : IsConstantTest s b false → IsTestFor s n b (λ atom. f atom && g atom)
  both_second_false c = test_same s n b g (λ atom. f atom && g atom) (λ atom wide. let e = second_constant false c atom wide in e ∙ and-false (f atom) ∙ ap (λ x. f atom && x) (sym e)) second

  pub either_first_true : IsConstantTest s a true → IsTestFor s n a (λ atom. f atom || g atom)
  either_first_true c = test_same s n a f (λ atom. f atom || g atom) (λ atom wide. let e = first_constant true c atom wide in e ∙ ap (λ x. x || g atom) (sym e)) first

  pub either_first_false : IsConstantTest s a false → IsTestFor s n b (λ atom. f atom || g atom)
  either_first_false c = test_same s n b g (λ atom. f atom || g atom) (λ atom wide. ap (λ x. x || g atom) (sym (first_constant false c atom wide))) second

  pub either_second_true : IsConstantTest s b true → IsTestFor s n b (λ atom. f atom || g atom)
  either_second_true c = test_same s n b g (λ atom. f atom || g atom) (λ atom wide. let e = second_constant true c atom wide in e ∙ or-true (f atom) ∙ ap (λ x. f atom || x) (sym e)) second

  pub either_second_false : IsConstantTest s b false → IsTestFor s n a (λ atom. f atom || g atom)
  either_second_false c = test_same s n a f (λ atom. f atom || g atom) (λ atom wide. or-false (f atom) ∙ ap (λ x. f atom || x) (sym (second_constant false c atom wide))) first

  -- a node of the conjunction
  pub both_node : (t : NodeParts) (id : ℕ) → IsTest t id → test_tree_at t id ≡ meet (test_tree_at s a) (test_tree_at s b) → IsTestFor t n id (λ atom. f atom && g atom)
  both_node t id is tree =
      test_by_tree t n id (meet (test_tree_at s a) (test_tree_at s b)) (λ atom. f atom && g atom) is tree (first.in_range, second.in_range)
      (λ atom wide. ap (λ x. x && truth (test_tree_at s b) atom) (first.value atom wide) ∙ ap (λ x. f atom && x) (second.value atom wide))

  pub either_node : (t : NodeParts) (id : ℕ) → IsTest t id → test_tree_at t id ≡ join (test_tree_at s a) (test_tree_at s b) → IsTestFor t n id (λ atom. f atom || g atom)
  either_node t id is tree =
      test_by_tree t n id (join (test_tree_at s a) (test_tree_at s b)) (λ atom. f atom || g atom) is tree (first.in_range, second.in_range)
      (λ atom wide. ap (λ x. x || truth (test_tree_at s b) atom) (first.value atom wide) ∙ ap (λ x. f atom || x) (second.value atom wide))

pub not_node : (s t : NodeParts) (n a id : ℕ) (f : Atom → Bool) → IsTestFor s n a f → IsTest t id → test_tree_at t id ≡ complement (test_tree_at s a) → IsTestFor t n id (λ atom. not (f atom))
not_node s t n a id f own is tree =
    test_by_tree t n id (complement (test_tree_at s a)) (λ atom. not (f atom)) is tree own.in_range (λ atom wide. ap not (own.value atom wide))

-- ---- a choice by a primitive test

choice_high : (p f g : Bool) → g ≡ true → (p || f) ≡ cond p g f
choice_high true f g e = sym e
choice_high false f g e = refl

choice_low : (p f g : Bool) → f ≡ true → (not p || g) ≡ cond p g f
choice_low true f g e = refl
choice_low false f g e = sym e

choice_both : (p f g : Bool) → ((p && g) || (not p && f)) ≡ cond p g f
choice_both true f g = sym (or-false g)
choice_both false f g = refl

module _ (s t : NodeParts) (n test low high id : ℕ) (f g : Atom → Bool) (on_low : IsTestFor s n low f) (on_high : IsTestFor s n high g) where
  abbrev prim_at : Atom → Bool
  prim_at atom = get_or atom test false

  abbrev chosen_at : Atom → Bool
  chosen_at atom = cond (prim_at atom) (g atom) (f atom)

  pub chosen_high : IsConstantTest s high true → IsTestFor t n id (λ atom. prim_at atom || f atom) → IsTestFor t n id chosen_at
  chosen_high c is = test_same t n id (λ atom. prim_at atom || f atom) chosen_at (λ atom wide. choice_high (prim_at atom) (f atom) (g atom) (sym (on_high.value atom wide) ∙ c atom)) is

  pub chosen_low : IsConstantTest s low true → IsTestFor t n id (λ atom. not (prim_at atom) || g atom) → IsTestFor t n id chosen_at
  chosen_low c is = test_same t n id (λ atom. not (prim_at atom) || g atom) chosen_at (λ atom wide. choice_low (prim_at atom) (f atom) (g atom) (sym (on_low.value atom wide) ∙ c atom)) is

pub chosen_both : (t : NodeParts) (n test id : ℕ) (f g : Atom → Bool) → IsTestFor t n id (λ atom. (get_or atom test false && g atom) || (not (get_or atom test false) && f atom)) → IsTestFor t n id (λ atom. cond (get_or atom test false) (g atom) (f atom))
chosen_both t n test id f g is =
    test_same t n id (λ atom. (get_or atom test false && g atom) || (not (get_or atom test false) && f atom)) (λ atom. cond (get_or atom test false) (g atom) (f atom))
    (λ atom wide. choice_both (get_or atom test false) (f atom) (g atom)) is
