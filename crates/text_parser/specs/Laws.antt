-- What the passes over tokens make of a phrase, and how the measures of a phrase relate to its tree.
use Rattle.std.specs.Prelude.{◌≡◌, ℕ, List, [], ◌∷◌, min, nat_lt, if◌then◌else◌, false, Ok, ◌+◌}
use Rattle.kat_model.specs.declared.limits.TheConstants.{MAX_TERM_NODES, MAX_EXPR_NODES, MAX_OPEN}
use Rattle.kat_model.specs.Trees.{Term, test_size, term_size}
use Rattle.kat_model.specs.Expressions.{ExprTree, CondTree, test_without_comparisons}
use Rattle.text_parser.specs.declared.reading.Context.{Context}
use Rattle.text_parser.specs.Lexemes.{Lexeme}
use Rattle.text_parser.specs.Parsed.{before}
use Rattle.text_parser.specs.Actions.{Actions}
use Rattle.text_parser.specs.Exprs.{parse_expr, sums}
use Rattle.text_parser.specs.Conds.{parse_cond, disjunction}
use Rattle.text_parser.specs.Terms.{parse_term, choice}
use Rattle.text_parser.specs.Phrases.{term, cond, expr, Phrase, yield_before, MeetsLookahead, IsLongest, IsPhrase}
use Rattle.text_parser.specs.Folds.{fold}
use Rattle.text_parser.specs.declared.extent.Extent.{Extent}
use Rattle.text_parser.specs.Sizes.{expr_size, cond_size, largest_expr, capped}
use Rattle.text_parser.specs.ScopeParts.{ScopeParts}
use Rattle.text_parser.specs.Building.{trees}
use Rattle.text_parser.specs.Sound.{nesting}

-- A pass with these actions gives the fold of the actions over the phrase, in text order. It reads only phrases that
-- are as long as possible.
pub record PassesPhrases {E B L T M : Type 0} (g : Actions E B L T M) : Type 0 where
  pub terms : (c : Context) (p : Phrase term) (ts : List Lexeme) → MeetsLookahead p ts → IsLongest p ts → parse_term g choice c (yield_before p ts) ≡ before ts (fold g c p g.one_of)
  pub conds : (c : Context) (p : Phrase cond) (ts : List Lexeme) → MeetsLookahead p ts → IsLongest p ts → parse_cond g.conds disjunction c (yield_before p ts) ≡ before ts (fold g c p g.conds.one_of)
  pub exprs : (c : Context) (p : Phrase expr) (ts : List Lexeme) → MeetsLookahead p ts → IsLongest p ts → parse_expr g.conds.exprs sums c (yield_before p ts) ≡ before ts (fold g c p (λ e. e))
  pub read_terms : (c : Context) (ts rest : List Lexeme) (t : T) → parse_term g choice c ts ≡ Ok (t, rest) → IsPhrase term c.depth ts rest
  pub read_conds : (c : Context) (ts rest : List Lexeme) (b : B) → parse_cond g.conds disjunction c ts ≡ Ok (b, rest) → IsPhrase cond c.depth ts rest
  pub read_exprs : (c : Context) (ts rest : List Lexeme) (e : E) → parse_expr g.conds.exprs sums c ts ≡ Ok (e, rest) → IsPhrase expr c.depth ts rest

-- the reported number of nodes: capped, and `MAX_TERM_NODES + 1` if the largest expression has more than
-- `MAX_EXPR_NODES` nodes
abbrev pub given_nodes : ℕ → ℕ → ℕ
given_nodes largest size = if nat_lt MAX_EXPR_NODES largest then MAX_TERM_NODES + 1 else capped size

-- the reported number of nodes of a condition
abbrev pub cond_nodes : CondTree → ℕ
cond_nodes b = given_nodes (largest_expr b) (cond_size b)

-- the term has a tree; the measures are the size of the tree and the nesting of the term, both capped
pub record MeasuresTerm (w : ScopeParts) (c : Context) (p : Phrase term) (m : Extent) : Type 0 where
  pub tree : Term
  pub built : fold (trees w) c p (λ e. e ∷ []) ≡ Ok tree
  pub nodes : m.nodes ≡ capped (term_size tree)
  pub levels : m.nesting ≡ min (nesting w p) (MAX_OPEN + 1)

-- likewise for a condition; without comparisons, its nodes are those of its test
pub record MeasuresCond (w : ScopeParts) (c : Context) (p : Phrase cond) (m : Extent) : Type 0 where
  pub tree : CondTree
  pub built : fold (trees w) c p (λ b. b ∷ []) ≡ Ok tree
  pub nodes : m.nodes ≡ cond_nodes tree
  pub as_test : c.compares ≡ false → m.nodes ≡ capped (test_size (test_without_comparisons tree))
  pub levels : m.nesting ≡ min (nesting w p) (MAX_OPEN + 1)

-- likewise for an expression
pub record MeasuresExpr (w : ScopeParts) (c : Context) (p : Phrase expr) (m : Extent) : Type 0 where
  pub tree : ExprTree
  pub built : fold (trees w) c p (λ e. e) ≡ Ok tree
  pub nodes : m.nodes ≡ capped (expr_size tree)
  pub levels : m.nesting ≡ min (nesting w p) (MAX_OPEN + 1)
