-- The scope that declares the names of tests and actions, and the terms printed with these names.
use Rattle.std.proofs.Common.{◌≡◌, ◌<◌, ◌≤◌, ◌+◌, ◌⊎◌, ℕ, List, [], ◌∷◌, ◌++◌, cond, ⊎_elim, inl, inr, Option, Some, None, refl, sym, ap, ◌∙◌, subst, arith}
use Rattle.std.proofs.lemmas.Bool.{cases_lt}
use Rattle.std.proofs.lemmas.Option.{none-some, same_Some}
use Rattle.std.specs.Prelude.{codes, flat_map}
use Rattle.std.specs.Ordering.{nat_cmp}
use Rattle.std.specs.Cmp.Lexicographic.{slice_cmp}
use Rattle.std.specs.FinMap.{get-empty}
use Rattle.kat_model.specs.declared.limits.TheConstants.{MAX_TESTS, MAX_ACTIONS}
use Rattle.kat_model.specs.Trees.{TestTree, bottom, top, prim, complement, meet, join, Term, zero, one, test, act, sum, product, star}
use Rattle.kat_model.specs.Problems.{IsTestInRange, IsInRange, AreInRange}
use Rattle.text_parser.specs.declared.meaning.Meaning.{Meaning}
use Rattle.text_parser.specs.declared.meaning.Meaning.TheVariants.{Test, Action, Var, Term as TermName, Prog}
use Rattle.text_parser.specs.ScopeParts.{ScopeParts, meaning, Means, IsUndeclared, IsNameOf, empty_scope, declared}
use Rattle.text_parser.proofs.Inverse.{insert_extends}
use Rattle.text_print.specs.Printing.{name_of, cond_of, is_star, cond_text, test_text, term_text, CondIsNamed, TermIsNamed}
use Rattle.text_print.proofs.NameOf.{name_is}
use Rattle.problem_file.specs.Questions.{plain_name, hyp_text, goal_text}
use Rattle.problem_file.specs.NamedTexts.{IsOneOf, AreNames}
use Rattle.problem_file.specs.Working.Scopes.{DeclaresNames, IsPlain}
use Rattle.problem_file.proofs.PlainNames.{plain_are_names}

pub none_from : (o : Option Meaning) → ((m : Meaning) → o ≡ Some m → ⊥) → o ≡ None
none_from None h = refl
none_from (Some m) h = absurd (h m refl)

one_of_none : (m : Meaning) → IsOneOf 0 0 m → ⊥
one_of_none (Test k) h = let below : k < 0 = h in omega (arith, below)
one_of_none (Action a) h = let below : a < 0 = h in omega (arith, below)
one_of_none (Var k) h = h
one_of_none (TermName k) h = h
one_of_none (Prog k) h = h

one_of_more : (t a u b : ℕ) → t ≤ u → a ≤ b → (m : Meaning) → IsOneOf t a m → IsOneOf u b m
one_of_more t a u b more_tests more_actions (Test k) h = let below : k < t = h in omega (arith, below, more_tests)
one_of_more t a u b more_tests more_actions (Action c) h = let below : c < a = h in omega (arith, below, more_actions)
one_of_more t a u b more_tests more_actions (Var k) h = h
one_of_more t a u b more_tests more_actions (TermName k) h = h
one_of_more t a u b more_tests more_actions (Prog k) h = h

module _ (names : Meaning → List ℕ) where
  -- the names of fewer tests and actions are such names too
  pub fewer_are_names : (t a u b : ℕ) → t ≤ u → a ≤ b → AreNames names u b → AreNames names t a
  fewer_are_names t a u b more_tests more_actions are = record {
    identifiers = λ m h. are.identifiers m (one_of_more t a u b more_tests more_actions m h);
    apart = λ m n h i e. are.apart m n (one_of_more t a u b more_tests more_actions m h) (one_of_more t a u b more_tests more_actions n i) e;
  }

  pub empty_declares : DeclaresNames names empty_scope 0 0
  empty_declares = record {
    means = λ m h. absurd (one_of_none m h);
    only = λ name m e. absurd (none-some m (sym (get-empty (slice_cmp nat_cmp) name) ∙ e));
  }

  pub declares_as : (w : ScopeParts) (t u a b : ℕ) → t ≡ u → a ≡ b → DeclaresNames names w t a → DeclaresNames names w u b
  declares_as w t u a b e f h = subst (λ (k : ℕ). DeclaresNames names w k b) e (subst (λ (k : ℕ). DeclaresNames names w t k) f h)

  module _ (w : ScopeParts) (tests actions : ℕ) (declares : DeclaresNames names w tests actions) where
    -- an additional meaning
    module _ (m : Meaning) (t a : ℕ) (are : AreNames names t a) (here : IsOneOf t a m) (out : IsOneOf tests actions m → ⊥) (grows : (n : Meaning) → IsOneOf tests actions n → IsOneOf t a n) (splits : (n : Meaning) → IsOneOf t a n → (m ≡ n) ⊎ IsOneOf tests actions n) where
      own_name : (n : Meaning) → IsOneOf tests actions n → names m ≡ names n → ⊥
      own_name n old e = out (subst (IsOneOf tests actions) (sym (are.apart m n here (grows n old) e)) old)

      is_new : IsUndeclared w (names m)
      is_new = none_from (meaning w (names m)) (λ n e. let old = declares.only (names m) n e in own_name n old.1 old.0)

      more_declared : DeclaresNames names (declared w (names m) m) t a
      more_declared =
          let name = names m in
          let new = declared w name m in
          let more = insert_extends w.meanings name m in
          record {
            means = λ n h. ⊎_elim
                (λ (same : m ≡ n). subst (λ (x : Meaning). Means new (names x) x) same more.here)
                (λ (old : IsOneOf tests actions n). ⊎_elim
                (λ (p : names n ≡ name). absurd (own_name n old (sym p)))
                (λ (q : meaning new (names n) ≡ meaning w (names n)). q ∙ declares.means n old)
                (more.others (names n)))
                (splits n h);
            only = λ other n e. ⊎_elim
                (λ (p : other ≡ name).
                let same : m ≡ n = same_Some m n (sym more.here ∙ ap (meaning new) (sym p) ∙ e) in
                (p ∙ ap names same, subst (IsOneOf t a) same here))
                (λ (q : meaning new other ≡ meaning w other). let old = declares.only other n (sym q ∙ e) in (old.0, grows n old.1))
                (more.others other);
          }

    -- ---- an additional test

    module _ (are : AreNames names (tests + 1) actions) where
      test_splits : (n : Meaning) → IsOneOf (tests + 1) actions n → (Test tests ≡ n) ⊎ IsOneOf tests actions n
      test_splits (Test k) h =
          let within : k < tests + 1 = h in
          elim (cases_lt k tests) [
            | inl below ↦ inr below
            | inr above ↦ let same : tests ≡ k = omega (arith, within, above) in inl (ap Test same)
          ]
      test_splits (Action a) h = inr h
      test_splits (Var k) h = absurd h
      test_splits (TermName k) h = absurd h
      test_splits (Prog k) h = absurd h

      test_here : tests < tests + 1
      test_here = omega arith

      test_out : tests < tests → ⊥
      test_out h = omega (arith, h)

      pub test_is_new : IsUndeclared w (names (Test tests))
      test_is_new = is_new (Test tests) (tests + 1) actions are test_here test_out (one_of_more tests actions (tests + 1) actions (omega arith) (omega arith)) test_splits

      pub test_declared : DeclaresNames names (declared w (names (Test tests)) (Test tests)) (tests + 1) actions
      test_declared = more_declared (Test tests) (tests + 1) actions are test_here test_out (one_of_more tests actions (tests + 1) actions (omega arith) (omega arith)) test_splits

    -- ---- an additional action

    module _ (are : AreNames names tests (actions + 1)) where
      action_splits : (n : Meaning) → IsOneOf tests (actions + 1) n → (Action actions ≡ n) ⊎ IsOneOf tests actions n
      action_splits (Test k) h = inr h
      action_splits (Action a) h =
          let within : a < actions + 1 = h in
          elim (cases_lt a actions) [
            | inl below ↦ inr below
            | inr above ↦ let same : actions ≡ a = omega (arith, within, above) in inl (ap Action same)
          ]
      action_splits (Var k) h = absurd h
      action_splits (TermName k) h = absurd h
      action_splits (Prog k) h = absurd h

      action_here : actions < actions + 1
      action_here = omega arith

      action_out : actions < actions → ⊥
      action_out h = omega (arith, h)

      pub action_is_new : IsUndeclared w (names (Action actions))
      action_is_new = is_new (Action actions) tests (actions + 1) are action_here action_out (one_of_more tests actions tests (actions + 1) (omega arith) (omega arith)) action_splits

      pub action_declared : DeclaresNames names (declared w (names (Action actions)) (Action actions)) tests (actions + 1)
      action_declared = more_declared (Action actions) tests (actions + 1) are action_here action_out (one_of_more tests actions tests (actions + 1) (omega arith) (omega arith)) action_splits

    -- ---- terms printed with these names

    module _ (are : AreNames names tests actions) where
      is_named : (m : Meaning) → IsOneOf tests actions m → IsNameOf w (names m) m
      is_named m h = record { means = declares.means m h; identifier = are.identifiers m h; only = λ other e. (declares.only other m e).0 }

      cond_named : (b : TestTree) → IsTestInRange tests b → CondIsNamed w names (cond_of b)
      cond_named bottom h = tt
      cond_named top h = tt
      cond_named (prim k) h = is_named (Test k) h
      cond_named (complement b) h = cond_named b h
      cond_named (meet b c) h = (cond_named b h.0, cond_named c h.1)
      cond_named (join b c) h = (cond_named b h.0, cond_named c h.1)

      pub term_named : (e : Term) → IsInRange tests actions e → TermIsNamed w names e
      term_named zero h = tt
      term_named one h = tt
      term_named (test b) h = cond_named b h
      term_named (act a) h = is_named (Action a) h
      term_named (sum e f) h = (term_named e h.0, term_named f h.1)
      term_named (product e f) h = (term_named e h.0, term_named f h.1)
      term_named (star e) h = term_named e h

-- ---- plain names

pub plain_as : (w : ScopeParts) (t u a b : ℕ) → t ≡ u → a ≡ b → IsPlain w t a → IsPlain w u b
plain_as = declares_as plain_name

module _ (w : ScopeParts) (tests actions : ℕ) (few : tests ≤ MAX_TESTS) (small : actions ≤ MAX_ACTIONS) (plain : IsPlain w tests actions) where
  -- the scope finds these names
  name_found : (m : Meaning) → IsOneOf tests actions m → name_of w m ≡ plain_name m
  name_found m h = sym (name_is w m (plain_name m) (is_named plain_name w tests actions plain (plain_are_names tests actions (omega (arith, few)) (omega (arith, small))) m h))

  cond_same : (b : TestTree) → IsTestInRange tests b → cond_text (name_of w) (cond_of b) ≡ cond_text plain_name (cond_of b)
  cond_same bottom h = refl
  cond_same top h = refl
  cond_same (prim k) h = name_found (Test k) h
  cond_same (complement b) h = ap (λ (l : List ℕ). codes "!" ++ l) (cond_same b h)
  cond_same (meet b c) h = rw (cond_same b h.0, cond_same c h.1) refl
  cond_same (join b c) h = rw (cond_same b h.0, cond_same c h.1) refl

  bracket_same : (b : TestTree) → IsTestInRange tests b → codes "[" ++ cond_text (name_of w) (cond_of b) ++ codes "]" ≡ codes "[" ++ cond_text plain_name (cond_of b) ++ codes "]"
  bracket_same b h = ap (λ (l : List ℕ). codes "[" ++ l ++ codes "]") (cond_same b h)

  test_same : (b : TestTree) → IsTestInRange tests b → test_text (name_of w) b ≡ test_text plain_name b
  test_same bottom h = refl
  test_same top h = refl
  test_same (prim k) h = name_found (Test k) h
  test_same (complement b) h = bracket_same (complement b) h
  test_same (meet b c) h = bracket_same (meet b c) h
  test_same (join b c) h = bracket_same (join b c) h

  pub term_same : (e : Term) → IsInRange tests actions e → term_text (name_of w) e ≡ term_text plain_name e
  term_same zero h = refl
  term_same one h = refl
  term_same (test b) h = test_same b h
  term_same (act a) h = name_found (Action a) h
  term_same (sum e f) h = rw (term_same e h.0, term_same f h.1) refl
  term_same (product e f) h = rw (term_same e h.0, term_same f h.1) refl
  term_same (star e) h = ap (λ (l : List ℕ). cond (is_star e) (codes "(" ++ l ++ codes ")*") (l ++ codes "*")) (term_same e h)

  pub hyp_same : (e : Term) → IsInRange tests actions e → hyp_text (name_of w) e ≡ hyp_text plain_name e
  hyp_same e h = ap (λ (l : List ℕ). codes "hyp " ++ l ++ codes " = 0;\n") (term_same e h)

  pub goal_same : (left right : Term) → IsInRange tests actions left → IsInRange tests actions right → goal_text (name_of w) left right ≡ goal_text plain_name left right
  goal_same left right h i = rw (term_same left h, term_same right i) refl

  pub hyps_same : (es : List Term) → AreInRange tests actions es → flat_map (hyp_text (name_of w)) es ≡ flat_map (hyp_text plain_name) es
  hyps_same [] h = refl
  hyps_same (e ∷ es) h = rw (term_same e h.0, hyps_same es h.1) refl
