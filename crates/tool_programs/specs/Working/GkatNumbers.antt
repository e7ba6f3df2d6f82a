-- In a text of GKAT that is read, each declared test and action has a name, and the terms of both expressions use no
-- others.
use Rattle.std.proofs.Common.{◌≡◌, ◌≤◌, ◌<◌, ◌+◌, ℕ, List, [], ◌∷◌, ◌++◌, slice_get, Bool, true, false, cond as if_true, nat_le, nat_lt, Option, Some, None, is_some, Result, Ok, Err, inl, inr, refl, sym, ap, subst, ◌∙◌, arith}
use Rattle.std.proofs.lemmas.Bool.{cases_lt, leb-false, true≢false}
use Rattle.std.proofs.lemmas.Option.{slice_get_past, none-some}
use Rattle.kat_model.specs.declared.limits.TheConstants.{MAX_TESTS, MAX_ACTIONS, MAX_TERM_NODES}
use Rattle.kat_model.specs.Trees.{TestTree, top, bottom, prim}
use Rattle.kat_model.specs.Expressions.{test_without_comparisons}
use Rattle.kat_model.specs.Problems.{IsTestInRange, IsInRange}
use Rattle.kat_model.proofs.BalancedTrees.{balanced_holds}
use Rattle.text_parser.specs.declared.fault.TextFault.{TextFault}
use Rattle.text_parser.specs.declared.fault.TextFault.TheVariants.{DoubleName, TooMany, TooLarge}
use Rattle.text_parser.specs.Actions.{context}
use Rattle.text_parser.specs.Phrases.{cond, Phrase}
use Rattle.text_parser.specs.Folds.{fold}
use Rattle.text_parser.proofs.ParserSoundness.{bind_ok}
use Rattle.text_parser.specs.declared.meaning.Meaning.{Meaning}
use Rattle.text_parser.specs.declared.meaning.Meaning.TheVariants.{Test, Action, Var, Term, Prog}
use Rattle.text_parser.specs.ScopeParts.{Definition, ScopeParts, meaning, IsUndeclared, declared}
use Rattle.text_parser.specs.Measuring.{extents}
use Rattle.text_parser.specs.Building.{trees}
use Rattle.while_lang.specs.Blocks.{enter}
use Rattle.while_lang.specs.Ranges.{AreNamed}
use Rattle.while_lang.proofs.RangesGrow.{IsInRange-more}
use Rattle.problem_file.specs.Working.Numbers.{AreNumbered}
use Rattle.problem_file.specs.Phrases.{Names, one_name, more_names}
use Rattle.problem_file.specs.Folds.{fold_names}
use Rattle.problem_file.proofs.Results.{same_ok, passed}
use Rattle.problem_file.proofs.Numbering.{empty_numbered, test_numbered, action_numbered}
use Rattle.problem_file.proofs.InRanges.{DefinedInRange, test_of_in, cond_in}
use Rattle.problem_file.proofs.ProgramScopes.{kept, declared_means}
use Rattle.gkat_front.specs.Expressions.{GkatTree, test, act, product, choice, loop, gkat_size, gkat_product, kat_of}
use Rattle.gkat_front.specs.GkatMaking.{named_by, making_expr}
use Rattle.gkat_front.specs.GkatPhrases.{Guard, GkatSymbol, expr, factors, factor, unit, GkatPhrase, one_product, two_products, one_factor, more_factors, once, repeated, zero_unit, one_unit, name_unit, guard_unit, round_unit}
use Rattle.gkat_front.specs.GkatFolds.{Folded, fold_guard, cond_fold, fold_gkat, gkat_of}
use Rattle.gkat_front.specs.FilePhrases.{GkatItem, tests, actions, equal}
use Rattle.gkat_front.specs.FileFolds.{fold_item, made_by}
use Rattle.gkat_front.specs.Files.{GkatFileParts, GkatState, start, check_new, declare_test, declare_action, begin_equal, file_with, file_of}
use Rattle.gkat_front.specs.Making.{making}
use Rattle.gkat_front.specs.Reads.{Reads}

-- at most `MAX_TESTS` tests and `MAX_ACTIONS` actions are declared, each of these has a name, and the terms of both
-- expressions use no others
pub record GkatIsNumbered (f : GkatFileParts) : Type 0 where
  pub tests : f.tests ≤ MAX_TESTS
  pub actions : f.actions ≤ MAX_ACTIONS
  pub named_tests : AreNamed f.scope Test f.tests
  pub named_actions : AreNamed f.scope Action f.actions
  pub left : IsInRange f.tests f.actions (kat_of f.left)
  pub right : IsInRange f.tests f.actions (kat_of f.right)

-- the result after a check that passes
unless_ok : {A : Type 0} (b : Bool) (f : TextFault) (m : Result A TextFault) (y : A) → if_true b (Err f) m ≡ Ok y → m ≡ Ok y
unless_ok true f m y e = absurd cc
unless_ok false f m y e = e

-- ---- expressions

module _ (t a : ℕ) where
  -- the numbers in the term of an expression are below the bounds
  abbrev InRange : GkatTree → Type 0
  InRange e = IsInRange t a (kat_of e)

  abbrev AllInRange : List GkatTree → Type 0
  AllInRange [] = Unit {0}
  AllInRange (e ∷ es) = InRange e × AllInRange es

  all_front : (xs ys : List GkatTree) → AllInRange (xs ++ ys) → AllInRange xs
  all_front [] ys h = tt
  all_front (x ∷ xs) ys h = (h.0, all_front xs ys h.1)

  all_rest : (xs ys : List GkatTree) → AllInRange (xs ++ ys) → AllInRange ys
  all_rest [] ys h = h
  all_rest (x ∷ xs) ys h = all_rest xs ys h.1

  all_last : (xs : List GkatTree) (y : GkatTree) → AllInRange xs → InRange y → AllInRange (xs ++ y ∷ [])
  all_last [] y h k = (k, tt)
  all_last (x ∷ xs) y h k = (h.0, all_last xs y h.1 k)

  product_in : (es : List GkatTree) → AllInRange es → InRange (gkat_product es)
  product_in es h =
      balanced_holds (test top) product (λ xs x. AllInRange xs → InRange x) (λ k. tt) (λ x k. k.0)
      (λ xs ys x y f g k. (f (all_front xs ys k), g (all_rest xs ys k))) es h

  module _ (w : ScopeParts) (numbered : AreNumbered w t a 0 0) (no_terms : w.terms ≡ []) where
    none_defined : (i : ℕ) (d : Definition) → slice_get [] i ≡ Some d → ⊥
    none_defined i d e = let none : slice_get [] i ≡ None = slice_get_past [] i (omega arith) in none-some d (sym none ∙ e)

    defined_in : DefinedInRange w t a
    defined_in i d e = absurd (none_defined i d (ap (λ (ds : List Definition). slice_get ds i) (sym no_terms) ∙ e))

    cond_test : (d : ℕ) (p : Phrase cond) (b : TestTree) → cond_fold w d p ≡ Ok b → IsTestInRange t b
    cond_test d p b e =
        let c = context d false false in
        let x = bind_ok (fold (extents w) c p (extents w).conds.one_of) _ b e in
        let y = bind_ok (fold (trees w) c p (trees w).conds.one_of) _ b x.2 in
        subst (IsTestInRange t) (same_ok (test_without_comparisons y.0) b y.2) (test_of_in t a 0 y.0 (cond_in t a 0 w 0 numbered defined_in c p y.0 y.1))

    guard_test : (d : ℕ) (g : Guard) (b : TestTree) → fold_guard (cond_fold w) d g ≡ Ok b → IsTestInRange t b
    guard_test d g b e = let n = bind_ok (enter d g.opening.at) _ b e in cond_test n.0 g.inner b n.2

    name_in : (at : ℕ) (name : List ℕ) (o : Option Meaning) → meaning w name ≡ o → (y : GkatTree) → named_by at o ≡ Ok y → InRange y
    name_in at name None means y e = absurd cc
    name_in at name (Some (Test k)) means y e = let below : k < t = numbered.named_tests name k means in subst InRange (same_ok (test (prim k)) y e) below
    name_in at name (Some (Action k)) means y e = let below : k < a = numbered.named_actions name k means in subst InRange (same_ok (act k) y e) below
    name_in at name (Some (Var k)) means y e = absurd cc
    name_in at name (Some (Term k)) means y e = absurd cc
    name_in at name (Some (Prog k)) means y e = absurd cc

    -- each value of a fold is in range; for factors, if the product before them is
    abbrev Gives : (x : GkatSymbol) → Folded (List GkatTree) GkatTree x → Type 0
    Gives expr v = (y : GkatTree) → v ≡ Ok y → InRange y
    Gives factors v = (k : GkatTree → List GkatTree) → ((e : GkatTree) → InRange e → AllInRange (k e)) → (y : GkatTree) → v k ≡ Ok y → InRange y
    Gives factor v = (y : GkatTree) → v ≡ Ok y → InRange y
    Gives unit v = (y : GkatTree) → v ≡ Ok y → InRange y

    gives : {x : GkatSymbol} (p : GkatPhrase x) (d : ℕ) → Gives x (fold_gkat (making_expr w) (cond_fold w) d p)
    gives (one_product p) d = λ y e. gives p d (λ z. z ∷ []) (λ z h. (h, tt)) y e
    gives (two_products p plus b q) d = λ y e.
        let l = bind_ok (fold_gkat (making_expr w) (cond_fold w) d p (λ z. z ∷ [])) _ y e in
        let c = bind_ok (fold_guard (cond_fold w) d b) _ y l.2 in
        let r = bind_ok (fold_gkat (making_expr w) (cond_fold w) d q (λ z. z ∷ [])) _ y c.2 in
        let guard = guard_test d b c.0 c.1 in
        let left = gives p d (λ z. z ∷ []) (λ z h. (h, tt)) l.0 l.1 in
        let right = gives q d (λ z. z ∷ []) (λ z h. (h, tt)) r.0 r.1 in
        subst InRange (same_ok (choice c.0 l.0 r.0) y r.2) ((guard, left), (guard, right))
    gives (one_factor x) d = λ k h y e.
        let l = bind_ok (fold_gkat (making_expr w) (cond_fold w) d x) _ y e in
        subst InRange (same_ok (gkat_product (k l.0)) y l.2) (product_in (k l.0) (h l.0 (gives x d l.0 l.1)))
    gives (more_factors x dot p) d = λ k h y e.
        let l = bind_ok (fold_gkat (making_expr w) (cond_fold w) d x) _ y e in
        gives p d (λ z. k l.0 ++ z ∷ []) (λ z r. all_last (k l.0) z (h l.0 (gives x d l.0 l.1)) r) y l.2
    gives (once u) d = gives u d
    gives (repeated u caret b) d = λ y e.
        let l = bind_ok (fold_gkat (making_expr w) (cond_fold w) d u) _ y e in
        let c = bind_ok (fold_guard (cond_fold w) d b) _ y l.2 in
        let guard = guard_test d b c.0 c.1 in
        subst InRange (same_ok (loop c.0 l.0) y c.2) ((guard, gives u d l.0 l.1), guard)
    gives (zero_unit l) d = λ y e. subst InRange (same_ok (test bottom) y e) tt
    gives (one_unit l) d = λ y e. subst InRange (same_ok (test top) y e) tt
    gives (name_unit l) d = λ y e. name_in l.at l.text (meaning w l.text) refl y e
    gives (guard_unit b) d = λ y e.
        let c = bind_ok (fold_guard (cond_fold w) d b) _ y e in
        subst InRange (same_ok (test c.0) y c.2) (guard_test d b c.0 c.1)
    gives (round_unit opening p closing) d = λ y e. let n = bind_ok (enter d opening.at) _ y e in gives p n.0 y n.2

    pub expr_in : (p : GkatPhrase expr) (y : GkatTree) → gkat_of w p ≡ Ok y → InRange y
    expr_in p y e = gives p 0 y e

-- ---- names

module _ (w : ScopeParts) (name : List ℕ) (m : Meaning) (new : IsUndeclared w name) where
  old_named : (kind : ℕ → Meaning) (n : ℕ) → AreNamed w kind n → AreNamed (declared w name m) kind n
  old_named kind n h k lt =
      let x = h k lt in
      (x.0, kept w name x.0 m (λ p. none-some (kind k) (sym new ∙ ap (meaning w) (sym p) ∙ x.1)) ∙ x.1)

  next_named : (kind : ℕ → Meaning) (n : ℕ) → m ≡ kind n → AreNamed w kind n → AreNamed (declared w name m) kind (n + 1)
  next_named kind n is h k lt =
      elim (cases_lt k n) [
        | inl below ↦ old_named kind n h k below
        | inr above ↦ let same : n ≡ k = omega (arith, above, lt) in (name, declared_means w name m ∙ ap Some (is ∙ ap kind same))
      ]

-- ---- states

abbrev SidesInRange : ℕ → ℕ → Option (GkatTree × GkatTree) → Type 0
SidesInRange t a None = Unit {0}
SidesInRange t a (Some x) = InRange t a x.0 × InRange t a x.1

sides_more : (t a u b : ℕ) → t ≤ u → a ≤ b → (o : Option (GkatTree × GkatTree)) → SidesInRange t a o → SidesInRange u b o
sides_more t a u b more_tests more_actions None h = tt
sides_more t a u b more_tests more_actions (Some x) h = (IsInRange-more t a u b more_tests more_actions (kat_of x.0) h.0, IsInRange-more t a u b more_tests more_actions (kat_of x.1) h.1)

-- the state uses only declared numbers, and each has a name
record Ranged (s : GkatState) : Type 0 where
  numbers : AreNumbered s.world s.tests s.actions 0 0
  no_terms : (s.world).terms ≡ []
  tests : s.tests ≤ MAX_TESTS
  actions : s.actions ≤ MAX_ACTIONS
  named_tests : AreNamed s.world Test s.tests
  named_actions : AreNamed s.world Action s.actions
  sides : SidesInRange s.tests s.actions s.sides

start_ranged : Ranged start
start_ranged = record {
  numbers = empty_numbered;
  no_terms = refl;
  tests = omega arith;
  actions = omega arith;
  named_tests = λ k lt. absurd (omega (arith, lt));
  named_actions = λ k lt. absurd (omega (arith, lt));
  sides = tt;
}

new_passed : (at : ℕ) (o : Option Meaning) (u : Unit {0}) → if_true (is_some o) (Err (DoubleName at)) (Ok tt) ≡ Ok u → o ≡ None
new_passed at None u e = refl
new_passed at (Some m) u e = absurd (true≢false (passed true (DoubleName at) tt u e).0)

-- the state with an additional test, and with an additional action
abbrev with_test : GkatState → List ℕ → GkatState
with_test s name = record s { world = declared s.world name (Test s.tests); tests = s.tests + 1 }

abbrev with_action : GkatState → List ℕ → GkatState
with_action s name = record s { world = declared s.world name (Action s.actions); actions = s.actions + 1 }

test_ranged : (s : GkatState) (at : ℕ) (name : List ℕ) (t : GkatState) → declare_test s at name ≡ Ok t → Ranged s → Ranged t
test_ranged s at name t e r =
    let x = bind_ok (check_new s.world at name) _ t e in
    let new : IsUndeclared s.world name = new_passed at (meaning s.world name) x.0 x.1 in
    let y = passed (nat_le MAX_TESTS s.tests) (TooMany at) (with_test s name) t x.2 in
    let few : s.tests < MAX_TESTS = leb-false MAX_TESTS s.tests y.0 in
    subst Ranged y.1 (record {
      numbers = test_numbered s.world s.tests s.actions 0 0 r.numbers (with_test s name).world name refl;
      no_terms = r.no_terms;
      tests = omega (arith, few);
      actions = r.actions;
      named_tests = next_named s.world name (Test s.tests) new Test s.tests refl r.named_tests;
      named_actions = old_named s.world name (Test s.tests) new Action s.actions r.named_actions;
      sides = sides_more s.tests s.actions (s.tests + 1) s.actions (omega arith) (omega arith) s.sides r.sides;
    })

action_ranged : (s : GkatState) (at : ℕ) (name : List ℕ) (t : GkatState) → declare_action s at name ≡ Ok t → Ranged s → Ranged t
action_ranged s at name t e r =
    let x = bind_ok (check_new s.world at name) _ t e in
    let new : IsUndeclared s.world name = new_passed at (meaning s.world name) x.0 x.1 in
    let y = passed (nat_le MAX_ACTIONS s.actions) (TooMany at) (with_action s name) t x.2 in
    let few : s.actions < MAX_ACTIONS = leb-false MAX_ACTIONS s.actions y.0 in
    subst Ranged y.1 (record {
      numbers = action_numbered s.world s.tests s.actions 0 0 r.numbers (with_action s name).world name refl;
      no_terms = r.no_terms;
      tests = r.tests;
      actions = omega (arith, few);
      named_tests = old_named s.world name (Action s.actions) new Test s.tests r.named_tests;
      named_actions = next_named s.world name (Action s.actions) new Action s.actions refl r.named_actions;
      sides = sides_more s.tests s.actions s.tests (s.actions + 1) (omega arith) (omega arith) s.sides r.sides;
    })

names_ranged : (f : GkatState → ℕ → List ℕ → Result GkatState TextFault) → ((s : GkatState) (at : ℕ) (name : List ℕ) (t : GkatState) → f s at name ≡ Ok t → Ranged s → Ranged t)
    → (ns : Names) (s t : GkatState) → fold_names f s ns ≡ Ok t → Ranged s → Ranged t
names_ranged f step (one_name l) s t e r = step s l.at l.text t e r
names_ranged f step (more_names l c ns) s t e r =
    let x = bind_ok (f s l.at l.text) _ t e in
    names_ranged f step ns x.0 t x.2 (step s l.at l.text x.0 x.1 r)

-- the state with two sides
abbrev with_sides : GkatState → GkatTree → GkatTree → GkatState
with_sides s l r = record s { sides = Some (l, r) }

item_ranged : (i : GkatItem) (s t : GkatState) → fold_item making (λ u p. gkat_of u.world p) s i ≡ Ok t → Ranged s → Ranged t
item_ranged (tests keyword ns end) s t e r = names_ranged declare_test test_ranged ns s t e r
item_ranged (actions keyword ns end) s t e r = names_ranged declare_action action_ranged ns s t e r
item_ranged (equal keyword p comma q end) s t e r =
    let x = bind_ok (begin_equal s keyword.at) _ t e in
    let y = bind_ok (gkat_of s.world p) _ t x.2 in
    let z = bind_ok (gkat_of s.world q) _ t y.2 in
    let a = unless_ok (nat_lt MAX_TERM_NODES (gkat_size y.0)) (TooLarge keyword.at) _ t z.2 in
    let b = passed (nat_lt MAX_TERM_NODES (gkat_size z.0)) (TooLarge keyword.at) (with_sides s y.0 z.0) t a in
    subst Ranged b.1 (record {
      numbers = r.numbers;
      no_terms = r.no_terms;
      tests = r.tests;
      actions = r.actions;
      named_tests = r.named_tests;
      named_actions = r.named_actions;
      sides = (expr_in s.tests s.actions s.world r.numbers r.no_terms p y.0 y.1, expr_in s.tests s.actions s.world r.numbers r.no_terms q z.0 z.1);
    })

items_ranged : (is : List GkatItem) (s t : GkatState) → made_by s is ≡ Ok t → Ranged s → Ranged t
items_ranged [] s t e r = subst Ranged (same_ok s t e) r
items_ranged (i ∷ is) s t e r =
    let x = bind_ok (fold_item making (λ u p. gkat_of u.world p) s i) _ t e in
    items_ranged is x.0 t x.2 (item_ranged i s x.0 x.1 r)

-- ---- files

file_numbered : (s : GkatState) (o : Option (GkatTree × GkatTree)) (f : GkatFileParts) → file_with s o ≡ Ok f → SidesInRange s.tests s.actions o → Ranged s → GkatIsNumbered f
file_numbered s None f e sides r = absurd cc
file_numbered s (Some x) f e sides r =
    let made : GkatFileParts = record { scope = s.world; tests = s.tests; actions = s.actions; left = x.0; right = x.1 } in
    subst GkatIsNumbered (same_ok made f e)
    (record { tests = r.tests; actions = r.actions; named_tests = r.named_tests; named_actions = r.named_actions; left = sides.0; right = sides.1 })

pub read_numbered : (text : List ℕ) (f : GkatFileParts) → Reads text f → GkatIsNumbered f
read_numbered text f reads =
    let x = bind_ok (made_by start reads.items) file_of f reads.file in
    let r = items_ranged reads.items start x.0 x.1 start_ranged in
    file_numbered x.0 (x.0).sides f x.2 r.sides r
