-- The terms of a problem that the pairs need, by their numbers.
use Rattle.std.specs.Prelude.{◌≡◌, ℕ, IsTrue, List, [], length, Option, Some}
use Rattle.std.specs.Option.{option_map}
use Rattle.kat_model.specs.Trees.{Term}
use Rattle.kat_model.specs.Problems.{ProblemParts, HasTestsBelow}
use Rattle.kat_model.specs.Closed.{Closed, closed}
use Rattle.kat_model.specs.Degrees.{short_hyps, closed_long}
use Rattle.term_nodes.specs.NumberSets.{are_below, terms_of}
use Rattle.certificate.specs.declared.nodes.Style.{Style}
use Rattle.certificate.specs.declared.nodes.Style.TheVariants.{Plain, UpTo, Under}
use Rattle.cert_checker.specs.NodeTables.{TableParts, IsTerm, term_at, nodes_in}

-- the closed sides that a style compares: in the style of tests, those for the long hypotheses
abbrev pub compared : Style → ProblemParts → Closed
compared Plain q = closed q
compared UpTo q = closed q
compared Under q = closed_long q

-- the hypotheses that count as short in a style: all short ones in the style of tests, and none in the others
abbrev pub counted_short : Style → ProblemParts → List Term
counted_short Plain q = []
counted_short UpTo q = []
counted_short Under q = short_hyps q

-- the primitive tests of the closed sides and of their universal term are below n
pub record AreClosedBelow (n : ℕ) (c : Closed) : Type 0 where
  pub left : HasTestsBelow n c.left
  pub right : HasTestsBelow n c.right
  pub universal : (u : Term) → c.universal ≡ Some u → HasTestsBelow n u

-- the numbers of closed sides, and of their universal term if there is one
pub record AreClosedNumbers (c : Closed) (t : TableParts) (l r : ℕ) (u : Option ℕ) : Type 0 where
  pub left : term_at t l ≡ c.left
  pub left_there : IsTerm t l
  pub right : term_at t r ≡ c.right
  pub right_there : IsTerm t r
  pub universal : option_map (term_at t) u ≡ c.universal
  pub universal_there : (k : ℕ) → u ≡ Some k → IsTerm t k

-- those of the sides that a style compares
abbrev pub AreSideNumbers : Style → ProblemParts → TableParts → ℕ → ℕ → Option ℕ → Type 0
AreSideNumbers s q t l r u = AreClosedNumbers (compared s q) t l r u

-- and the numbers of the short hypotheses
pub record AreRoots (s : Style) (q : ProblemParts) (t : TableParts) (l r : ℕ) (u : Option ℕ) (ks : List ℕ) : Type 0 where
  pub sides : AreSideNumbers s q t l r u
  pub shorts : terms_of (nodes_in t) ks ≡ counted_short s q
  pub shorts_there : IsTrue (are_below (length t.terms) ks)
