-- The measures and trees of phrases whose syntax is correct.
use Rattle.std.proofs.Common.{◌≡◌, ℕ, ◌≤◌, List, [], ◌∷◌, Bool, true, false, nat_lt, cond as if_true, Result, Ok, Err, IsOk, refl, sym, ap, subst, ◌∙◌, arith, ◌+◌}
use Rattle.std.proofs.lemmas.Bool.{ltb-true, ltb-false}
use Rattle.kat_model.specs.declared.limits.TheConstants.{MAX_TERM_NODES, MAX_EXPR_NODES}
use Rattle.kat_model.specs.Trees.{Term, test_size, term_size}
use Rattle.kat_model.specs.Expressions.{CondTree, test_without_comparisons}
use Rattle.text_parser.specs.declared.fault.TextFault.{TextFault}
use Rattle.text_parser.specs.Lexemes.{Lexeme}
use Rattle.text_parser.specs.Parsed.{◌>>=◌, before}
use Rattle.text_parser.specs.Actions.{context}
use Rattle.text_parser.specs.Phrases.{term, cond, Phrase, yield_before, MeetsLookahead, IsWithinLimits}
use Rattle.text_parser.specs.Ends.{Ends}
use Rattle.text_parser.specs.Folds.{fold}
use Rattle.text_parser.proofs.ParserCompleteness.{term_parsed, cond_parsed}
use Rattle.text_parser.proofs.Longest.{longest}
use Rattle.text_parser.specs.declared.extent.Extent.{Extent}
use Rattle.text_parser.specs.Sizes.{cond_size, largest_expr, capped}
use Rattle.text_parser.specs.ScopeParts.{ScopeParts}
use Rattle.text_parser.specs.Building.{trees}
use Rattle.text_parser.specs.Measuring.{extents}
use Rattle.text_parser.specs.Sound.{IsSound, nesting}
use Rattle.text_parser.specs.Laws.{given_nodes}
use Rattle.text_parser.proofs.Measured.{term_decided, cond_decided, term_measured, cond_measured}
use Rattle.problem_file.specs.Files.{State}
use Rattle.problem_file.specs.ItemActions.{Measurement}
use Rattle.problem_file.specs.Making.{built_term, built_cond, making}
use Rattle.problem_file.specs.Folds.{fold_term, fold_cond}
use Rattle.problem_file.specs.Sound.{IsTerm, IsCond}
use Rattle.problem_file.proofs.Results.{ok_of}
use Rattle.problem_file.proofs.Nestings.{nesting_fits}

pub ok_value : {A : Type 0} (r : Result A TextFault) → IsOk r → (v : A) × (r ≡ Ok v)
ok_value (Ok v) h = (v, refl)
ok_value (Err e) h = absurd cc

pub is_ok_of : {A : Type 0} (r : Result A TextFault) (v : A) → r ≡ Ok v → IsOk r
is_ok_of r v e = subst IsOk (sym e) refl

pub one_ok : {A : Type 0} (r : Result A TextFault) (v w : A) → r ≡ Ok v → r ≡ Ok w → v ≡ w
one_ok r v w e f = let same : ok_of v ≡ Ok w = sym e ∙ f in cc

-- ---- terms

-- the term is measured and built, and is not too large
pub record TermWalk (w : ScopeParts) (p : Phrase term) (m : Extent) (tree : Term) : Type 0 where
  pub measured : fold (extents w) (context 0 false false) p (λ m. m) ≡ Ok m
  pub built : fold (trees w) (context 0 false false) p (λ e. e ∷ []) ≡ Ok tree
  pub sound : IsSound w (context 0 false false) p
  pub nodes : m.nodes ≡ term_size tree
  pub small : term_size tree ≤ MAX_TERM_NODES
  pub deep : m.nesting ≡ nesting w p

pub term_is : (w : ScopeParts) (p : Phrase term) (m : Extent) (tree : Term) → TermWalk w p m tree → IsTerm w p tree
term_is w p m tree x = record { sound = x.sound; built = x.built; small = x.small }

pub term_walked : (w : ScopeParts) (p : Phrase term) (m : Extent) → IsWithinLimits 0 p → fold (extents w) (context 0 false false) p (λ m. m) ≡ Ok m → m.nodes ≤ MAX_TERM_NODES → (tree : Term) × TermWalk w p m tree
term_walked w p m fits e few =
    let x = term_measured w (context 0 false false) p m refl e in
    let sound = ((term_decided w (context 0 false false) p).0 (is_ok_of (fold (extents w) (context 0 false false) p (λ m. m)) m e)).0 in (
      x.tree,
      record {
        measured = e;
        built = x.built;
        sound = sound;
        nodes = omega (arith, x.nodes, few);
        small = omega (arith, x.nodes, few);
        deep = omega (arith, x.levels, nesting_fits w (context 0 false false) p sound fits (omega arith));
      },
    )

pub term_walks : (w : ScopeParts) (p : Phrase term) (tree : Term) → IsWithinLimits 0 p → IsTerm w p tree → (m : Extent) × TermWalk w p m tree
term_walks w p tree fits h =
    let c = context 0 false false in
    let m = ok_value (fold (extents w) c p (λ m. m)) ((term_decided w c p).1 (h.sound, fits)) in
    let x = term_measured w c p m.0 refl m.1 in
    let same : x.tree ≡ tree = one_ok (fold (trees w) c p (λ e. e ∷ [])) x.tree tree x.built h.built in
    let nodes : (m.0).nodes ≡ capped (term_size tree) = x.nodes ∙ ap (λ e. capped (term_size e)) same in (
      m.0,
      record {
        measured = m.1;
        built = h.built;
        sound = h.sound;
        nodes = omega (arith, nodes, h.small);
        small = h.small;
        deep = omega (arith, x.levels, nesting_fits w c p h.sound fits (omega arith));
      },
    )

-- ---- conditions in braces

pub record CondWalk (w : ScopeParts) (compares : Bool) (p : Phrase cond) (m : Extent) (tree : CondTree) : Type 0 where
  pub measured : fold (extents w) (context 1 false compares) p (λ m. m) ≡ Ok m
  pub built : fold (trees w) (context 1 false compares) p (λ b. b ∷ []) ≡ Ok tree
  pub sound : IsSound w (context 1 false compares) p
  pub nodes : m.nodes ≡ cond_size tree
  pub narrow : largest_expr tree ≤ MAX_EXPR_NODES
  pub small : cond_size tree ≤ MAX_TERM_NODES
  pub as_test : compares ≡ false → test_size (test_without_comparisons tree) ≡ cond_size tree

pub cond_is : (w : ScopeParts) (compares : Bool) (p : Phrase cond) (m : Extent) (tree : CondTree) → CondWalk w compares p m tree → IsCond w compares p tree
cond_is w compares p m tree x = record { sound = x.sound; built = x.built; narrow = x.narrow; small = x.small }

-- if the reported count of nodes is within the limit, then the condition and its expressions are, and the count is
-- exact
pub given_few : (largest size n : ℕ) → n ≡ given_nodes largest size → n ≤ MAX_TERM_NODES → (largest ≤ MAX_EXPR_NODES) × (size ≤ MAX_TERM_NODES) × (n ≡ size)
given_few largest size n e few = by_width (nat_lt MAX_EXPR_NODES largest) refl e where
  by_width : (b : Bool) → nat_lt MAX_EXPR_NODES largest ≡ b → n ≡ if_true b (MAX_TERM_NODES + 1) (capped size) → (largest ≤ MAX_EXPR_NODES) × (size ≤ MAX_TERM_NODES) × (n ≡ size)
  by_width true h k = absurd (omega (arith, k, few))
  by_width false h k = (ltb-false MAX_EXPR_NODES largest h, omega (arith, k, few), omega (arith, k, few))

pub few_given : (largest size n : ℕ) → n ≡ given_nodes largest size → largest ≤ MAX_EXPR_NODES → size ≤ MAX_TERM_NODES → n ≡ size
few_given largest size n e narrow small = by_width (nat_lt MAX_EXPR_NODES largest) refl e where
  by_width : (b : Bool) → nat_lt MAX_EXPR_NODES largest ≡ b → n ≡ if_true b (MAX_TERM_NODES + 1) (capped size) → n ≡ size
  by_width true h k = absurd (omega (arith, ltb-true MAX_EXPR_NODES largest h, narrow))
  by_width false h k = omega (arith, k, small)

pub cond_walked : (w : ScopeParts) (compares : Bool) (p : Phrase cond) (m : Extent) → fold (extents w) (context 1 false compares) p (λ m. m) ≡ Ok m → m.nodes ≤ MAX_TERM_NODES → (tree : CondTree) × CondWalk w compares p m tree
cond_walked w compares p m e few =
    let c = context 1 false compares in
    let x = cond_measured w c p m e in
    let sound = ((cond_decided w c p).0 (is_ok_of (fold (extents w) c p (λ m. m)) m e)).0 in
    let h = given_few (largest_expr x.tree) (cond_size x.tree) m.nodes x.nodes few in (
      x.tree,
      record {
        measured = e;
        built = x.built;
        sound = sound;
        nodes = h.2;
        narrow = h.0;
        small = h.1;
        as_test = λ none. omega (arith, x.as_test none, few, h.2);
      },
    )

pub cond_walks : (w : ScopeParts) (compares : Bool) (p : Phrase cond) (tree : CondTree) → IsWithinLimits 1 p → IsCond w compares p tree → (m : Extent) × CondWalk w compares p m tree
cond_walks w compares p tree fits h =
    let c = context 1 false compares in
    let m = ok_value (fold (extents w) c p (λ m. m)) ((cond_decided w c p).1 (h.sound, fits)) in
    let x = cond_measured w c p m.0 m.1 in
    let same : x.tree ≡ tree = one_ok (fold (trees w) c p (λ b. b ∷ [])) x.tree tree x.built h.built in
    let nodes : (m.0).nodes ≡ given_nodes (largest_expr tree) (cond_size tree) = x.nodes ∙ ap (λ b. given_nodes (largest_expr b) (cond_size b)) same in
    let all : (m.0).nodes ≡ cond_size tree = few_given (largest_expr tree) (cond_size tree) (m.0).nodes nodes h.narrow h.small in (
      m.0,
      record {
        measured = m.1;
        built = h.built;
        sound = h.sound;
        nodes = all;
        narrow = h.narrow;
        small = h.small;
        as_test = λ none. let t : (m.0).nodes ≡ capped (test_size (test_without_comparisons tree)) = x.as_test none ∙ ap (λ b. capped (test_size (test_without_comparisons b))) same in omega (arith, t, all, h.small);
      },
    )

-- ---- among the tokens

module _ (s : State) where
  pub tree_there : (p : Phrase term) (ts : List Lexeme) (tree : Term) → Ends term ts → MeetsLookahead p ts → fold (trees s.world) (context 0 false false) p (λ e. e ∷ []) ≡ Ok tree → built_term s (yield_before p ts) ≡ Ok (tree, ts)
  tree_there p ts tree ends obeys e = term_parsed (trees s.world) p (context 0 false false) ts obeys (longest p ts ends) ∙ ap (before ts) e

  pub cond_tree_there : (compares : Bool) (p : Phrase cond) (ts : List Lexeme) (tree : CondTree) → Ends cond ts → MeetsLookahead p ts → fold (trees s.world) (context 1 false compares) p (λ b. b ∷ []) ≡ Ok tree → built_cond s compares (yield_before p ts) ≡ Ok (tree, ts)
  cond_tree_there compares p ts tree ends obeys e = cond_parsed (trees s.world) p (context 1 false compares) ts obeys (longest p ts ends) ∙ ap (before ts) e

  -- a computation that continues after a phrase receives the measure of the phrase

  measure_ok : {V : Type 0} (r : Result Extent TextFault) (f : Extent → Measurement Extent) (k : Measurement Extent → Result V TextFault) (y : V) → ((r >>= λ m. Ok (f m)) >>= k) ≡ Ok y → (m : Extent) × (r ≡ Ok m) × (k (f m) ≡ Ok y)
  measure_ok (Ok m) f k y h = (m, refl, h)
  measure_ok (Err x) f k y h = absurd cc

  pub after_term : {V : Type 0} (p : Phrase term) (ts : List Lexeme) (k : Measurement Extent → Result V TextFault) (y : V) → (fold_term making s p ts >>= k) ≡ Ok y → (m : Extent) × (fold (extents s.world) (context 0 false false) p (λ m. m) ≡ Ok m) × (k (record { measure = m; tokens = yield_before p ts }) ≡ Ok y)
  after_term p ts k y e = measure_ok (fold (extents s.world) (context 0 false false) p (λ m. m)) (λ m. record { measure = m; tokens = yield_before p ts }) k y e

  pub after_cond : {V : Type 0} (compares : Bool) (p : Phrase cond) (ts : List Lexeme) (k : Measurement Extent → Result V TextFault) (y : V) → (fold_cond making s compares p ts >>= k) ≡ Ok y → (m : Extent) × (fold (extents s.world) (context 1 false compares) p (λ m. m) ≡ Ok m) × (k (record { measure = m; tokens = yield_before p ts }) ≡ Ok y)
  after_cond compares p ts k y e = measure_ok (fold (extents s.world) (context 1 false compares) p (λ m. m)) (λ m. record { measure = m; tokens = yield_before p ts }) k y e
