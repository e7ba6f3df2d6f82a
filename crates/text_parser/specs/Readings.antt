-- The reading of a phrase: its tree and its nesting, or its first fault.
use Rattle.std.specs.Prelude.{◌≡◌, ℕ, List, drop, Bool, true, false, if◌then◌else◌, nat_lt, Result, Ok, Err}
use Rattle.kat_model.specs.declared.limits.TheConstants.{MAX_TERM_NODES, MAX_EXPR_NODES}
use Rattle.kat_model.specs.Trees.{Term}
use Rattle.kat_model.specs.Expressions.{ExprTree, CondTree}
use Rattle.text_parser.specs.declared.fault.TextFault.{TextFault}
use Rattle.text_parser.specs.declared.fault.TextFault.TheVariants.{NoMemory, TooLarge}
use Rattle.text_parser.specs.Lexemes.{Lexeme}
use Rattle.text_parser.specs.Parsed.{Parsed, ◌>>=◌, place_of}
use Rattle.text_parser.specs.Actions.{context}
use Rattle.text_parser.specs.Exprs.{parse_expr, sums}
use Rattle.text_parser.specs.Conds.{parse_cond, disjunction}
use Rattle.text_parser.specs.Terms.{parse_term, choice}
use Rattle.text_parser.specs.declared.extent.Extent.{Extent}
use Rattle.text_parser.specs.ScopeParts.{ScopeParts}
use Rattle.text_parser.specs.Building.{expr_trees, cond_trees, trees}
use Rattle.text_parser.specs.Measuring.{expr_extents, cond_extents, extents}

-- a tree, its nesting and the remaining tokens
pub record Phrased (V : Type 0) : Type 0 where
  pub tree : V
  pub nesting : ℕ
  pub rest : List Lexeme

-- the measures `m`, or `TooLarge` if they have more nodes than `limit`
abbrev pub within : ℕ → ℕ → Parsed Extent → Parsed Extent
within limit at m = m >>= λ x. if nat_lt limit (x.0).nodes then Err (TooLarge at) else Ok x

abbrev pub phrased : {V : Type 0} → Parsed Extent → Parsed V → Result (Phrased V) TextFault
phrased m t = m >>= λ x. t >>= λ y. Ok (record { tree = y.0; nesting = (x.0).nesting; rest = y.1 })

-- the term, condition or expression at the start of the tokens, with `d` constructs open around it
abbrev pub term_at : ScopeParts → ℕ → List Lexeme → Result (Phrased Term) TextFault
term_at w d ts = phrased (within MAX_TERM_NODES (place_of ts) (parse_term (extents w) choice (context d false false) ts)) (parse_term (trees w) choice (context d false false) ts)

abbrev pub cond_at : ScopeParts → ℕ → Bool → List Lexeme → Result (Phrased CondTree) TextFault
cond_at w d compares ts = phrased (within MAX_TERM_NODES (place_of ts) (parse_cond (cond_extents w) disjunction (context d false compares) ts)) (parse_cond (cond_trees w) disjunction (context d false compares) ts)

abbrev pub expr_at : ScopeParts → ℕ → List Lexeme → Result (Phrased ExprTree) TextFault
expr_at w d ts = phrased (within MAX_EXPR_NODES (place_of ts) (parse_expr (expr_extents w) sums (context d false true) ts)) (parse_expr (expr_trees w) sums (context d false true) ts)

-- the program's result agrees with the reading `m`, or is `NoMemory`
abbrev pub Answers : {V W : Type 0} → (V → W) → List Lexeme → Result (V × ℕ × ℕ) TextFault → Result (Phrased W) TextFault → Type 0
Answers means ts (Ok x) m = m ≡ Ok (record { tree = means x.0; nesting = x.2; rest = drop x.1 ts })
Answers means ts (Err NoMemory) m = Unit {0}
Answers means ts (Err e) m = m ≡ Err e
