-- The measures of a phrase are those of its tree.
use Rattle.std.proofs.Common.{◌≡◌, ◌<◌, ◌≤◌, ◌+◌, ◌↔◌, ℕ, max, min, Bool, true, false, ◌&&◌, cond, nat_lt, List, [], ◌∷◌, ◌++◌, length, slice_get, Option, Some, None, Result, Ok, Err, IsOk, refl, sym, ap, ◌∙◌, subst, arith, length-append}
use Rattle.std.proofs.lemmas.Bool.{both_ways, ltb-true, ltb-false, and_from}
use Rattle.kat_model.specs.declared.limits.TheConstants.{MAX_TERM_NODES, MAX_EXPR_NODES, MAX_OPEN}
use Rattle.kat_model.specs.declared.expression.Rel.{Rel}
use Rattle.kat_model.specs.Trees.{Term, zero, one, sum, product, term_size, test_size, is_test}
use Rattle.kat_model.specs.Balanced.{balanced}
use Rattle.kat_model.specs.Expressions.{ExprTree, number, CondTree, always, never, both, either, test_without_comparisons}
use Rattle.text_parser.specs.declared.fault.TextFault.{TextFault}
use Rattle.text_parser.specs.declared.fault.TextFault.TheVariants.{Sort, TooDeep}
use Rattle.text_parser.specs.declared.reading.Context.{Context}
use Rattle.text_parser.specs.declared.reading.Operator.{Operator}
use Rattle.text_parser.specs.declared.reading.Operator.TheVariants.{Add, Subtract, Multiply}
use Rattle.text_parser.specs.Phrases.{term, cond as cond_symbol, expr, Phrase, IsWithinLimits}
use Rattle.text_parser.specs.Folds.{fold}
use Rattle.text_parser.specs.declared.meaning.Meaning.{Meaning}
use Rattle.text_parser.specs.declared.meaning.Meaning.TheVariants.{Test, Action, Var, Term as TermName, Prog}
use Rattle.text_parser.specs.declared.extent.Extent.{Extent}
use Rattle.text_parser.specs.Sizes.{expr_size, cond_size, largest_expr, as_test, capped}
use Rattle.text_parser.specs.ScopeParts.{Definition, ScopeParts, meaning}
use Rattle.text_parser.specs.Building.{joined, variable_tree, condition_tree, defined_tree, name_tree, trees}
use Rattle.text_parser.specs.Measuring.{limited, linked, topped, compared_nodes, variable_extent, condition_extent, defined_extent, name_extent, starred as star_extent, extents}
use Rattle.text_parser.specs.Sound.{IsSound, nesting}
use Rattle.text_parser.specs.Laws.{given_nodes, cond_nodes, MeasuresTerm, MeasuresCond, MeasuresExpr}
use Rattle.text_parser.proofs.BalancedMeasures.{size_grown, most_grown, test_grown}
use Rattle.text_parser.proofs.MeasureSoundness.{Judged, judged, adds_none, first, extent_of}
use Rattle.text_parser.proofs.Related.{Both, AreRelated, related}

-- ---- node counts

given_sum : (a b s t : ℕ) → capped (given_nodes a s + given_nodes b t + 1) ≡ given_nodes (max a b) (s + t + 1)
given_sum a b s t = by_sizes (nat_lt MAX_EXPR_NODES a) refl (nat_lt MAX_EXPR_NODES b) refl (nat_lt MAX_EXPR_NODES (max a b)) refl where
  by_sizes : (x : Bool) → nat_lt MAX_EXPR_NODES a ≡ x → (y : Bool) → nat_lt MAX_EXPR_NODES b ≡ y → (z : Bool) → nat_lt MAX_EXPR_NODES (max a b) ≡ z → capped (cond x (MAX_TERM_NODES + 1) (capped s) + cond y (MAX_TERM_NODES + 1) (capped t) + 1) ≡ cond z (MAX_TERM_NODES + 1) (capped (s + t + 1))
  by_sizes true e true f true g = omega arith
  by_sizes true e true f false g = let p : MAX_EXPR_NODES < a = ltb-true MAX_EXPR_NODES a e in let q : max a b ≤ MAX_EXPR_NODES = ltb-false MAX_EXPR_NODES (max a b) g in absurd (omega arith)
  by_sizes true e false f true g = omega arith
  by_sizes true e false f false g = let p : MAX_EXPR_NODES < a = ltb-true MAX_EXPR_NODES a e in let q : max a b ≤ MAX_EXPR_NODES = ltb-false MAX_EXPR_NODES (max a b) g in absurd (omega arith)
  by_sizes false e true f true g = omega arith
  by_sizes false e true f false g = let p : MAX_EXPR_NODES < b = ltb-true MAX_EXPR_NODES b f in let q : max a b ≤ MAX_EXPR_NODES = ltb-false MAX_EXPR_NODES (max a b) g in absurd (omega arith)
  by_sizes false e false f true g =
      let p : a ≤ MAX_EXPR_NODES = ltb-false MAX_EXPR_NODES a e in let r : b ≤ MAX_EXPR_NODES = ltb-false MAX_EXPR_NODES b f in let q : MAX_EXPR_NODES < max a b = ltb-true MAX_EXPR_NODES (max a b) g in absurd (omega arith)
  by_sizes false e false f false g = omega arith

given_next : (a s : ℕ) → capped (capped (given_nodes a s + 1)) ≡ given_nodes a (s + 1)
given_next a s = elim (nat_lt MAX_EXPR_NODES a) as (λ b. capped (capped (cond b (MAX_TERM_NODES + 1) (capped s) + 1)) ≡ cond b (MAX_TERM_NODES + 1) (capped (s + 1))) [ true ↦ omega arith | false ↦ omega arith ]

pub given_kept : (a s : ℕ) → capped (given_nodes a s) ≡ given_nodes a s
given_kept a s = elim (nat_lt MAX_EXPR_NODES a) as (λ b. capped (cond b (MAX_TERM_NODES + 1) (capped s)) ≡ cond b (MAX_TERM_NODES + 1) (capped s)) [ true ↦ omega arith | false ↦ omega arith ]

pub given_compared : (m a : ℕ) → m ≡ capped a → compared_nodes m ≡ given_nodes a a
given_compared m a e = by_sizes (nat_lt MAX_EXPR_NODES m) refl (nat_lt MAX_EXPR_NODES a) refl where
  by_sizes : (x : Bool) → nat_lt MAX_EXPR_NODES m ≡ x → (y : Bool) → nat_lt MAX_EXPR_NODES a ≡ y → cond x (MAX_TERM_NODES + 1) m ≡ cond y (MAX_TERM_NODES + 1) (capped a)
  by_sizes true f true g = refl
  by_sizes true f false g = let p : MAX_EXPR_NODES < m = ltb-true MAX_EXPR_NODES m f in let q : a ≤ MAX_EXPR_NODES = ltb-false MAX_EXPR_NODES a g in absurd (omega arith)
  by_sizes false f true g = let p : m ≤ MAX_EXPR_NODES = ltb-false MAX_EXPR_NODES m f in let q : MAX_EXPR_NODES < a = ltb-true MAX_EXPR_NODES a g in absurd (omega arith)
  by_sizes false f false g = e

-- the nodes of a node that joins two parts
joined_given : (m n a s b t large size : ℕ) → m ≡ given_nodes a s → n ≡ given_nodes b t → large ≡ max a b → size ≡ s + t + 1 → capped (m + n + 1) ≡ given_nodes large size
joined_given m n a s b t large size e f g h =
    ap (λ (k : ℕ). capped (k + n + 1)) e
    ∙ ap (λ (k : ℕ). capped (given_nodes a s + k + 1)) f
    ∙ given_sum a b s t
    ∙ ap (λ (k : ℕ). given_nodes k (s + t + 1)) (sym g)
    ∙ ap (λ (k : ℕ). given_nodes large k) (sym h)

joined_capped : (m n a b size : ℕ) → m ≡ capped a → n ≡ capped b → size ≡ a + b + 1 → capped (m + n + 1) ≡ capped size
joined_capped m n a b size e f g = omega arith

-- ---- how measures relate to trees in a context

abbrev IsExprMeasure : Context → Extent → ExprTree → Type 0
IsExprMeasure c m e = (m.nodes ≡ capped (expr_size e)) × (c.compares ≡ true)

abbrev IsCondMeasure : Context → Extent → CondTree → Type 0
IsCondMeasure c m b = (m.nodes ≡ cond_nodes b) × (c.compares ≡ false → m.nodes ≡ capped (test_size (test_without_comparisons b)))

-- the measure of a list, both as a disjunction and as a conjunction
abbrev IsCondsMeasure : Context → Extent → List CondTree → Type 0
IsCondsMeasure c m bs = (0 < length bs) × IsCondMeasure c m (balanced never either bs) × IsCondMeasure c m (balanced always both bs)

-- the measure of a term, which is a test if a `!` encloses it
abbrev IsTermMeasure : Context → Extent → Term → Type 0
IsTermMeasure c m e = c.compares ≡ false → (m.nodes ≡ capped (term_size e)) × (c.negated ≡ true → (is_test e ≡ true) × (m.test_nodes ≡ capped (test_size (as_test e))))

abbrev IsTermsMeasure : Context → Extent → List Term → Type 0
IsTermsMeasure c m es = (0 < length es) × IsTermMeasure c m (balanced zero sum es) × IsTermMeasure c m (balanced one product es)

-- ---- part by part

number_measured : (c : Context) (at : ℕ) (e : ExprTree) → expr_size e ≡ 1 → Both (IsExprMeasure c) (cond c.compares (Ok (limited 1 0 0)) (Err (Sort at))) (Ok e)
number_measured c at e one_node = by_place c.compares refl where
  by_place : (b : Bool) → c.compares ≡ b → Both (IsExprMeasure c) (cond b (Ok (limited 1 0 0)) (Err (Sort at))) (Ok e)
  by_place true h = (sym (ap capped one_node), h)
  by_place false h = tt

variable_measured : (c : Context) (at : ℕ) (o : Option Meaning) → Both (IsExprMeasure c) (variable_extent c at o) (Ok (variable_tree o))
variable_measured c at None = tt
variable_measured c at (Some (Test k)) = tt
variable_measured c at (Some (Action a)) = tt
variable_measured c at (Some (Var k)) = number_measured c at (variable_tree (Some (Var k))) refl
variable_measured c at (Some (TermName i)) = tt
variable_measured c at (Some (Prog i)) = tt

joined_size : (o : Operator) (e f : ExprTree) → expr_size (joined o e f) ≡ expr_size e + expr_size f + 1
joined_size Add e f = refl
joined_size Subtract e f = refl
joined_size Multiply e f = refl

condition_measured : (c : Context) (at : ℕ) (o : Option Meaning) → Both (IsCondMeasure c) (condition_extent at o) (Ok (condition_tree o))
condition_measured c at None = tt
condition_measured c at (Some (Test k)) = (refl, λ n. refl)
condition_measured c at (Some (Action a)) = tt
condition_measured c at (Some (Var k)) = tt
condition_measured c at (Some (TermName i)) = tt
condition_measured c at (Some (Prog i)) = tt

compare_measured : (c : Context) (r : Rel) (x y : Extent) (e f : ExprTree) → IsExprMeasure c x e → IsExprMeasure c y f → capped (compared_nodes x.nodes + compared_nodes y.nodes + 1) ≡ given_nodes (max (expr_size e) (expr_size f)) (expr_size e + expr_size f + 1)
compare_measured c r x y e f h k =
    joined_given (compared_nodes x.nodes) (compared_nodes y.nodes) (expr_size e) (expr_size e) (expr_size f) (expr_size f) (max (expr_size e) (expr_size f)) (expr_size e + expr_size f + 1)
    (given_compared x.nodes (expr_size e) h.0) (given_compared y.nodes (expr_size f) k.0) refl refl

-- the measure of a list after an appended condition
more_measured : (c : Context) (unit : CondTree) (node : CondTree → CondTree → CondTree) → ((x y : CondTree) → cond_size (node x y) ≡ cond_size x + cond_size y + 1) → ((x y : CondTree) → largest_expr (node x y) ≡ max (largest_expr x) (largest_expr y)) → ((x y : CondTree) → test_size (test_without_comparisons (node x y)) ≡ test_size (test_without_comparisons x) + test_size (test_without_comparisons y) + 1)
    → (m n : Extent) (bs : List CondTree) (b : CondTree) → 0 < length bs → IsCondMeasure c m (balanced unit node bs) → IsCondMeasure c n b → IsCondMeasure c (linked m n) (balanced unit node (bs ++ b ∷ []))
more_measured c unit node sizes largest tests m n bs b some h k = (
  joined_given m.nodes n.nodes (largest_expr (balanced unit node bs)) (cond_size (balanced unit node bs)) (largest_expr b) (cond_size b) (largest_expr (balanced unit node (bs ++ b ∷ []))) (cond_size (balanced unit node (bs ++ b ∷ []))) h.0 k.0
      (most_grown unit node largest_expr largest bs b some) (size_grown unit node cond_size sizes bs b some),
  (λ none. joined_capped m.nodes n.nodes (test_size (test_without_comparisons (balanced unit node bs))) (test_size (test_without_comparisons b)) (test_size (test_without_comparisons (balanced unit node (bs ++ b ∷ [])))) (h.1 none) (k.1 none)
      (size_grown unit node (λ x. test_size (test_without_comparisons x)) tests bs b some)),
)

longer : {X : Type 0} (xs : List X) (x : X) → 0 < length (xs ++ x ∷ [])
longer xs x = omega (arith, length-append xs (x ∷ []))

action_measured : (c : Context) (at : ℕ) (e : Term) → term_size e ≡ 1 → Both (IsTermMeasure c) (cond c.negated (Err (Sort at)) (Ok (limited 1 1 0))) (Ok e)
action_measured c at e one_node = by_place c.negated refl where
  by_place : (b : Bool) → c.negated ≡ b → Both (IsTermMeasure c) (cond b (Err (Sort at)) (Ok (limited 1 1 0))) (Ok e)
  by_place true h = tt
  by_place false h = λ n. (sym (ap capped one_node), λ t. absurd (both_ways c.negated h t))

defined_measured : (c : Context) (at : ℕ) (o : Option Definition) → Both (IsTermMeasure c) (defined_extent c at o) (Ok (defined_tree o))
defined_measured c at None = λ n. (refl, λ t. (refl, refl))
defined_measured c at (Some d) = by_sort c.negated refl (is_test d.tree) refl (nat_lt MAX_OPEN (c.depth + d.nesting)) where
  by_sort : (b : Bool) → c.negated ≡ b → (t : Bool) → is_test d.tree ≡ t → (z : Bool) → Both (IsTermMeasure c) (cond b (cond t (cond z (Err (TooDeep at)) (Ok (extent_of d))) (Err (Sort at))) (cond z (Err (TooDeep at)) (Ok (extent_of d)))) (Ok d.tree)
  by_sort true e true f true = tt
  by_sort true e true f false = λ n. (refl, λ t. (f, refl))
  by_sort true e false f z = tt
  by_sort false e t f true = tt
  by_sort false e t f false = λ n. (refl, λ s. absurd (both_ways c.negated e s))

name_measured : (w : ScopeParts) (c : Context) (at : ℕ) (o : Option Meaning) → Both (IsTermMeasure c) (name_extent w c at o) (Ok (name_tree w o))
name_measured w c at None = tt
name_measured w c at (Some (Test k)) = λ n. (refl, λ t. (refl, refl))
name_measured w c at (Some (Action a)) = action_measured c at (name_tree w (Some (Action a))) refl
name_measured w c at (Some (Var k)) = tt
name_measured w c at (Some (TermName i)) = defined_measured c at (slice_get w.terms i)
name_measured w c at (Some (Prog i)) = tt

star_measured : (c : Context) (at : ℕ) (m : Extent) (e s : Term) → term_size s ≡ term_size e + 1 → IsTermMeasure c m e → Both (IsTermMeasure c) (star_extent c at m) (Ok s)
star_measured c at m e s sizes h = by_place c.negated refl where
  by_place : (b : Bool) → c.negated ≡ b → Both (IsTermMeasure c) (cond b (Err (Sort at)) (Ok (topped m))) (Ok s)
  by_place true k = tt
  by_place false k = λ n. let same : m.nodes ≡ capped (term_size e) = (h n).0 in (omega arith, λ t. absurd (both_ways c.negated k t))

more_terms_measured : (c : Context) (unit : Term) (node : Term → Term → Term) → ((x y : Term) → term_size (node x y) ≡ term_size x + term_size y + 1) → ((x y : Term) → is_test (node x y) ≡ (is_test x && is_test y)) → ((x y : Term) → test_size (as_test (node x y)) ≡ test_size (as_test x) + test_size (as_test y) + 1)
    → (m n : Extent) (es : List Term) (e : Term) → 0 < length es → IsTermMeasure c m (balanced unit node es) → IsTermMeasure c n e → IsTermMeasure c (linked m n) (balanced unit node (es ++ e ∷ []))
more_terms_measured c unit node sizes tests test_sizes m n es e some h k none =
    let a = h none in
    let b = k none in (
      joined_capped m.nodes n.nodes (term_size (balanced unit node es)) (term_size e) (term_size (balanced unit node (es ++ e ∷ []))) a.0 b.0 (size_grown unit node term_size sizes es e some),
      (λ t. (
        test_grown unit node is_test tests es e some ∙ and_from (is_test (balanced unit node es)) (is_test e) (a.1 t).0 (b.1 t).0,
        joined_capped m.test_nodes n.test_nodes (test_size (as_test (balanced unit node es))) (test_size (as_test e)) (test_size (as_test (balanced unit node (es ++ e ∷ [])))) (a.1 t).1 (b.1 t).1
            (size_grown unit node (λ x. test_size (as_test x)) test_sizes es e some),
      )),
    )

-- ---- the actions

module _ (w : ScopeParts) where
  measures : AreRelated IsExprMeasure IsCondMeasure IsCondsMeasure IsTermMeasure IsTermsMeasure (extents w) (trees w)
  measures = record {
    number = λ c at n. number_measured c at (number n) refl;
    variable = λ c at text. variable_measured c at (meaning w text);
    join = λ c o x y e f h k. (joined_capped x.nodes y.nodes (expr_size e) (expr_size f) (expr_size (joined o e f)) h.0 k.0 (joined_size o e f), h.1);
    enclosed_expr = λ c x e h. (let same : x.nodes ≡ capped (expr_size e) = h.0 in omega arith, h.1);
    always = λ c. (refl, λ n. refl);
    never = λ c. (refl, λ n. refl);
    named_cond = λ c at text. condition_measured c at (meaning w text);
    compare = λ c r x y e f h k. (compare_measured c r x y e f h k, λ n. absurd (both_ways c.compares n h.1));
    negated_cond = λ c m b h. (ap (λ (n : ℕ). capped (capped (n + 1))) h.0 ∙ given_next (largest_expr b) (cond_size b), λ n. let same : m.nodes ≡ capped (test_size (test_without_comparisons b)) = h.1 n in omega arith);
    enclosed_cond = λ c m b h. (ap capped h.0 ∙ given_kept (largest_expr b) (cond_size b), λ n. let same : m.nodes ≡ capped (test_size (test_without_comparisons b)) = h.1 n in omega arith);
    one_cond = λ c m b h. (omega arith, h, h);
    more_conds = λ c m bs n b h k. (
      longer bs b,
      more_measured c never either (λ x y. refl) (λ x y. refl) (λ x y. refl) m n bs b h.0 h.1 k,
      more_measured c always both (λ x y. refl) (λ x y. refl) (λ x y. refl) m n bs b h.0 h.2 k,
    );
    all = λ c m bs h. h.2;
    any = λ c m bs h. h.1;
    zero = λ c n. (refl, λ t. (refl, refl));
    one = λ c n. (refl, λ t. (refl, refl));
    named = λ c at text. name_measured w c at (meaning w text);
    negated = λ c m e h n. let same : m.test_nodes ≡ capped (test_size (as_test e)) = ((h n).1 refl).1 in (omega arith, λ t. (refl, omega arith));
    tested = λ c m b h n. let same : m.nodes ≡ capped (test_size (test_without_comparisons b)) = h.1 n in (omega arith, λ t. (refl, omega arith));
    enclosed = λ c m e h n. let same : m.nodes ≡ capped (term_size e) = (h n).0 in
        (omega arith, λ t. (((h n).1 t).0, let given : m.test_nodes ≡ capped (test_size (as_test e)) = ((h n).1 t).1 in omega arith));
    starred = λ c at m e h. star_measured c at m e _ refl h;
    one_term = λ c m e h. (omega arith, h, h);
    more_terms = λ c m es n e h k. (
      longer es e,
      more_terms_measured c zero sum (λ x y. refl) (λ x y. refl) (λ x y. refl) m n es e h.0 h.1 k,
      more_terms_measured c one product (λ x y. refl) (λ x y. refl) (λ x y. refl) m n es e h.0 h.2 k,
    );
    sum = λ c m es h. h.1;
    product = λ c m es h. h.2;
  }

pub made : {A B : Type 0} (R : A → B → Type 0) (r : Result A TextFault) (s : Result B TextFault) (x : A) → r ≡ Ok x → Both R r s → (y : B) × (s ≡ Ok y) × R x y
made R (Ok z) (Ok y) x e h = let same : z ≡ x = cc in (y, refl, subst (λ u. R u y) same h)
made R (Ok z) (Err f) x e h = absurd h
made R (Err f) s x e h = absurd cc

pub ok_value : (r : Result Extent TextFault) → IsOk r → (m : Extent) × (r ≡ Ok m)
ok_value (Ok m) h = (m, refl)
ok_value (Err e) h = absurd cc

pub given_of : (r : Result Extent TextFault) (P : Type 0) (n : ℕ) (m : Extent) → Judged r P n → r ≡ Ok m → m.nesting ≡ min n (MAX_OPEN + 1)
given_of r P n m h e = let k : Judged (Ok m) P n = subst (λ (s : Result Extent TextFault). Judged s P n) e h in k.1

pub decided : (r : Result Extent TextFault) (P : Type 0) (n : ℕ) → Judged r P n → IsOk r ↔ P
decided (Ok m) P n h = (λ t. h.0, λ p. refl)
decided (Err e) P n h = (λ t. absurd cc, λ p. absurd (h p))

-- ---- whole phrases

module _ (w : ScopeParts) where
  pub term_judged : (c : Context) (p : Phrase term) → Judged (fold (extents w) c p (λ m. m)) (IsSound w c p × IsWithinLimits c.depth p) (nesting w p)
  term_judged c p = first (fold (extents w) c p (λ m. m)) (IsSound w c p × IsWithinLimits c.depth p) (nesting w p) (judged w p c (λ m. m) 0 adds_none)

  pub cond_judged : (c : Context) (p : Phrase cond_symbol) → Judged (fold (extents w) c p (λ m. m)) (IsSound w c p × IsWithinLimits c.depth p) (nesting w p)
  cond_judged c p = first (fold (extents w) c p (λ m. m)) (IsSound w c p × IsWithinLimits c.depth p) (nesting w p) (judged w p c (λ m. m) 0 adds_none)

  pub expr_judged : (c : Context) (p : Phrase expr) → Judged (fold (extents w) c p (λ m. m)) (IsSound w c p × IsWithinLimits c.depth p) (nesting w p)
  expr_judged c p = first (fold (extents w) c p (λ m. m)) (IsSound w c p × IsWithinLimits c.depth p) (nesting w p) (judged w p c (λ m. m) 0 adds_none)

  pub term_decided : (c : Context) (p : Phrase term) → IsOk (fold (extents w) c p (λ m. m)) ↔ (IsSound w c p × IsWithinLimits c.depth p)
  term_decided c p = decided (fold (extents w) c p (λ m. m)) (IsSound w c p × IsWithinLimits c.depth p) (nesting w p) (term_judged c p)

  pub cond_decided : (c : Context) (p : Phrase cond_symbol) → IsOk (fold (extents w) c p (λ m. m)) ↔ (IsSound w c p × IsWithinLimits c.depth p)
  cond_decided c p = decided (fold (extents w) c p (λ m. m)) (IsSound w c p × IsWithinLimits c.depth p) (nesting w p) (cond_judged c p)

  pub expr_decided : (c : Context) (p : Phrase expr) → IsOk (fold (extents w) c p (λ m. m)) ↔ (IsSound w c p × IsWithinLimits c.depth p)
  expr_decided c p = decided (fold (extents w) c p (λ m. m)) (IsSound w c p × IsWithinLimits c.depth p) (nesting w p) (expr_judged c p)

  pub term_measured : (c : Context) (p : Phrase term) (m : Extent) → c.compares ≡ false → fold (extents w) c p (λ m. m) ≡ Ok m → MeasuresTerm w c p m
  term_measured c p m none e =
      let h = made (IsTermMeasure c) (fold (extents w) c p (λ m. m)) (fold (trees w) c p (λ e. e ∷ [])) m e (related IsExprMeasure IsCondMeasure IsCondsMeasure IsTermMeasure IsTermsMeasure (extents w) (trees w) (measures w) p c (λ m. m) (λ e. e ∷ []) (λ x y k. (omega arith, k, k))) in
      record { tree = h.0; built = h.1; nodes = (h.2 none).0; levels = given_of (fold (extents w) c p (λ m. m)) (IsSound w c p × IsWithinLimits c.depth p) (nesting w p) m (term_judged c p) e }

  pub cond_measured : (c : Context) (p : Phrase cond_symbol) (m : Extent) → fold (extents w) c p (λ m. m) ≡ Ok m → MeasuresCond w c p m
  cond_measured c p m e =
      let h = made (IsCondMeasure c) (fold (extents w) c p (λ m. m)) (fold (trees w) c p (λ b. b ∷ [])) m e (related IsExprMeasure IsCondMeasure IsCondsMeasure IsTermMeasure IsTermsMeasure (extents w) (trees w) (measures w) p c (λ m. m) (λ b. b ∷ []) (λ x y k. (omega arith, k, k))) in
      record { tree = h.0; built = h.1; nodes = h.2.0; as_test = h.2.1; levels = given_of (fold (extents w) c p (λ m. m)) (IsSound w c p × IsWithinLimits c.depth p) (nesting w p) m (cond_judged c p) e }

  pub expr_measured : (c : Context) (p : Phrase expr) (m : Extent) → fold (extents w) c p (λ m. m) ≡ Ok m → MeasuresExpr w c p m
  expr_measured c p m e =
      let h = made (IsExprMeasure c) (fold (extents w) c p (λ m. m)) (fold (trees w) c p (λ e. e)) m e (related IsExprMeasure IsCondMeasure IsCondsMeasure IsTermMeasure IsTermsMeasure (extents w) (trees w) (measures w) p c (λ m. m) (λ e. e) (λ x y k. k)) in
      record { tree = h.0; built = h.1; nodes = h.2.0; levels = given_of (fold (extents w) c p (λ m. m)) (IsSound w c p × IsWithinLimits c.depth p) (nesting w p) m (expr_judged c p) e }
