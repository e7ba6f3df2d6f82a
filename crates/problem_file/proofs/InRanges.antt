-- The trees of phrases use only declared tests, actions and variables.
use Rattle.std.proofs.Common.{◌≡◌, ℕ, List, [], ◌∷◌, ◌++◌, slice_get, Option, Some, None, Result, Ok, refl, subst}
use Rattle.kat_model.specs.Trees.{Term, zero, one, test, act, sum, product, star}
use Rattle.kat_model.specs.Balanced.{balanced}
use Rattle.kat_model.specs.Expressions.{ExprTree, CondTree, always, never, named, compared, negation, both, either, test_without_comparisons}
use Rattle.kat_model.specs.Problems.{IsTestInRange, IsInRange, AreInRange}
use Rattle.kat_model.proofs.BalancedTrees.{balanced_holds}
use Rattle.kat_model.proofs.Ranges.{AreInRange-append, AreInRange-append_left, AreInRange-append_right}
use Rattle.text_parser.specs.declared.fault.TextFault.{TextFault}
use Rattle.text_parser.specs.declared.reading.Context.{Context}
use Rattle.text_parser.specs.declared.reading.Operator.{Operator}
use Rattle.text_parser.specs.declared.reading.Operator.TheVariants.{Add, Subtract, Multiply}
use Rattle.text_parser.specs.Phrases.{term, cond, expr, Phrase}
use Rattle.text_parser.specs.Folds.{fold}
use Rattle.text_parser.specs.declared.meaning.Meaning.{Meaning}
use Rattle.text_parser.specs.declared.meaning.Meaning.TheVariants.{Test, Action, Var, Term as TermName, Prog}
use Rattle.text_parser.specs.Sizes.{as_test}
use Rattle.text_parser.specs.ScopeParts.{Definition, ScopeParts, meaning}
use Rattle.text_parser.specs.Building.{joined, variable_tree, condition_tree, defined_tree, name_tree, trees}
use Rattle.text_parser.proofs.Related.{Both, AreRelated, related}
use Rattle.problem_file.specs.Working.Numbers.{AreNumbered}
use Rattle.while_lang.specs.Ranges.{IsExprInRange, IsCondInRange}

-- the numbers in all conditions, or all terms, of a list are below the bounds
abbrev pub CondsInRange : ℕ → ℕ → List CondTree → Type 0
CondsInRange t v [] = Unit {0}
CondsInRange t v (b ∷ bs) = IsCondInRange t v b × CondsInRange t v bs

-- the numbers in each defined term are below these bounds
abbrev pub DefinedInRange : ScopeParts → ℕ → ℕ → Type 0
DefinedInRange w t a = (i : ℕ) (d : Definition) → slice_get w.terms i ≡ Some d → IsInRange t a d.tree

module _ (t a v : ℕ) where
  -- ---- lists

  conds_front : (xs ys : List CondTree) → CondsInRange t v (xs ++ ys) → CondsInRange t v xs
  conds_front [] ys h = tt
  conds_front (x ∷ xs) ys h = (h.0, conds_front xs ys h.1)

  conds_rest : (xs ys : List CondTree) → CondsInRange t v (xs ++ ys) → CondsInRange t v ys
  conds_rest [] ys h = h
  conds_rest (x ∷ xs) ys h = conds_rest xs ys h.1

  conds_more : (bs : List CondTree) (b : CondTree) → CondsInRange t v bs → IsCondInRange t v b → CondsInRange t v (bs ++ b ∷ [])
  conds_more [] b h k = (k, tt)
  conds_more (x ∷ xs) b h k = (h.0, conds_more xs b h.1 k)

  conds_balanced : (unit : CondTree) (node : CondTree → CondTree → CondTree) → IsCondInRange t v unit → ((b c : CondTree) → IsCondInRange t v b → IsCondInRange t v c → IsCondInRange t v (node b c)) → (bs : List CondTree) → CondsInRange t v bs → IsCondInRange t v (balanced unit node bs)
  conds_balanced unit node none two bs = balanced_holds unit node (λ xs x. CondsInRange t v xs → IsCondInRange t v x) (λ h. none) (λ x h. h.0) (λ xs ys x y f g h. two x y (f (conds_front xs ys h)) (g (conds_rest xs ys h))) bs

  terms_balanced : (unit : Term) (node : Term → Term → Term) → IsInRange t a unit → ((e f : Term) → IsInRange t a e → IsInRange t a f → IsInRange t a (node e f)) → (es : List Term) → AreInRange t a es → IsInRange t a (balanced unit node es)
  terms_balanced unit node none two es = balanced_holds unit node (λ xs x. AreInRange t a xs → IsInRange t a x) (λ h. none) (λ x h. h.0) (λ xs ys x y f g h. two x y (f (AreInRange-append_left t a xs ys h)) (g (AreInRange-append_right t a xs ys h))) es

  -- ---- tests of terms and of conditions

  as_test_in : (e : Term) → IsInRange t a e → IsTestInRange t (as_test e)
  as_test_in zero h = tt
  as_test_in one h = tt
  as_test_in (test b) h = h
  as_test_in (act k) h = tt
  as_test_in (sum e f) h = (as_test_in e h.0, as_test_in f h.1)
  as_test_in (product e f) h = (as_test_in e h.0, as_test_in f h.1)
  as_test_in (star e) h = tt

  pub test_of_in : (b : CondTree) → IsCondInRange t v b → IsTestInRange t (test_without_comparisons b)
  test_of_in always h = tt
  test_of_in never h = tt
  test_of_in (named k) h = h
  test_of_in (compared r e f) h = tt
  test_of_in (negation b) h = test_of_in b h
  test_of_in (both b c) h = (test_of_in b h.0, test_of_in c h.1)
  test_of_in (either b c) h = (test_of_in b h.0, test_of_in c h.1)

  -- ---- names

  module _ (w : ScopeParts) (progs : ℕ) (numbered : AreNumbered w t a v progs) (defined : DefinedInRange w t a) where
    defined_in : (i : ℕ) (o : Option Definition) → slice_get w.terms i ≡ o → IsInRange t a (defined_tree o)
    defined_in i None e = tt
    defined_in i (Some d) e = defined i d e

    name_in : (name : List ℕ) (o : Option Meaning) → meaning w name ≡ o → IsInRange t a (name_tree w o)
    name_in name None e = tt
    name_in name (Some (Test k)) e = numbered.named_tests name k e
    name_in name (Some (Action k)) e = numbered.named_actions name k e
    name_in name (Some (Var k)) e = tt
    name_in name (Some (TermName i)) e = defined_in i (slice_get w.terms i) refl
    name_in name (Some (Prog i)) e = tt

    condition_in : (name : List ℕ) (o : Option Meaning) → meaning w name ≡ o → IsCondInRange t v (condition_tree o)
    condition_in name None e = tt
    condition_in name (Some (Test k)) e = numbered.named_tests name k e
    condition_in name (Some (Action k)) e = tt
    condition_in name (Some (Var k)) e = tt
    condition_in name (Some (TermName i)) e = tt
    condition_in name (Some (Prog i)) e = tt

    variable_in : (name : List ℕ) (o : Option Meaning) → meaning w name ≡ o → IsExprInRange v (variable_tree o)
    variable_in name None e = tt
    variable_in name (Some (Test k)) e = tt
    variable_in name (Some (Action k)) e = tt
    variable_in name (Some (Var k)) e = numbered.named_vars name k e
    variable_in name (Some (TermName i)) e = tt
    variable_in name (Some (Prog i)) e = tt

    joined_in : (o : Operator) (x y : ExprTree) → IsExprInRange v x → IsExprInRange v y → IsExprInRange v (joined o x y)
    joined_in Add x y h k = (h, k)
    joined_in Subtract x y h k = (h, k)
    joined_in Multiply x y h k = (h, k)

    -- ---- phrases

    abbrev InExpr : Context → ExprTree → ExprTree → Type 0
    InExpr c e f = IsExprInRange v e

    abbrev InCond : Context → CondTree → CondTree → Type 0
    InCond c b d = IsCondInRange t v b

    abbrev InConds : Context → List CondTree → List CondTree → Type 0
    InConds c bs ds = CondsInRange t v bs

    abbrev InTerm : Context → Term → Term → Type 0
    InTerm c e f = IsInRange t a e

    abbrev InTerms : Context → List Term → List Term → Type 0
    InTerms c es fs = AreInRange t a es

    all_in : AreRelated InExpr InCond InConds InTerm InTerms (trees w) (trees w)
    all_in = record {
      number = λ c at n. tt;
      variable = λ c at text. variable_in text (meaning w text) refl;
      join = λ c o x y m n h k. joined_in o x y h k;
      enclosed_expr = λ c x u h. h;
      always = λ c. tt;
      never = λ c. tt;
      named_cond = λ c at text. condition_in text (meaning w text) refl;
      compare = λ c r x y m n h k. (h, k);
      negated_cond = λ c b d h. h;
      enclosed_cond = λ c b d h. h;
      one_cond = λ c b d h. (h, tt);
      more_conds = λ c l m b d h k. conds_more l b h k;
      all = λ c l m h. conds_balanced always both tt (λ x y p q. (p, q)) l h;
      any = λ c l m h. conds_balanced never either tt (λ x y p q. (p, q)) l h;
      zero = λ c. tt;
      one = λ c. tt;
      named = λ c at text. name_in text (meaning w text) refl;
      negated = λ c e f h. as_test_in e h;
      tested = λ c b d h. test_of_in b h;
      enclosed = λ c e f h. h;
      starred = λ c at e f h. h;
      one_term = λ c e f h. (h, tt);
      more_terms = λ c m n e f h k. AreInRange-append t a m (e ∷ []) h (k, tt);
      sum = λ c m n h. terms_balanced zero sum tt (λ x y p q. (p, q)) m h;
      product = λ c m n h. terms_balanced one product tt (λ x y p q. (p, q)) m h;
    }

    holds : {A : Type 0} (R : A → A → Type 0) (r : Result A TextFault) (x : A) → r ≡ Ok x → Both R r r → R x x
    holds R r x e h = subst (λ s. Both R s s) e h

    pub term_in : (c : Context) (p : Phrase term) (e : Term) → fold (trees w) c p (λ e. e ∷ []) ≡ Ok e → IsInRange t a e
    term_in c p e h = holds (InTerm c) (fold (trees w) c p (λ e. e ∷ [])) e h (related InExpr InCond InConds InTerm InTerms (trees w) (trees w) all_in p c (λ e. e ∷ []) (λ e. e ∷ []) (λ x y k. (k, tt)))

    pub cond_in : (c : Context) (p : Phrase cond) (b : CondTree) → fold (trees w) c p (λ b. b ∷ []) ≡ Ok b → IsCondInRange t v b
    cond_in c p b h = holds (InCond c) (fold (trees w) c p (λ b. b ∷ [])) b h (related InExpr InCond InConds InTerm InTerms (trees w) (trees w) all_in p c (λ b. b ∷ []) (λ b. b ∷ []) (λ x y k. (k, tt)))

    pub expr_in : (c : Context) (p : Phrase expr) (x : ExprTree) → fold (trees w) c p (λ e. e) ≡ Ok x → IsExprInRange v x
    expr_in c p x h = holds (InExpr c) (fold (trees w) c p (λ e. e)) x h (related InExpr InCond InConds InTerm InTerms (trees w) (trees w) all_in p c (λ e. e) (λ e. e) (λ x y k. k))
