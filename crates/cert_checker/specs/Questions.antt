-- The question about a pair at two atoms, and what is known of the tests that it names.
use Rattle.std.specs.Prelude.{◌≡◌, ◌⊎◌, ℕ, Bool, false, ◌&&◌, IsTrue, List, take, drop, map, length, Option, Some, None}
use Rattle.std.specs.Option.{option_map}
use Rattle.kat_model.specs.Trees.{Term}
use Rattle.kat_model.specs.Members.{Has}
use Rattle.kat_model.specs.Steps.{Atom, truth}
use Rattle.kat_model.specs.Pairs.{plain, AreMatched, IsCongruent}
use Rattle.kat_model.specs.TestedPairs.{pairs_at}
use Rattle.certificate.specs.declared.nodes.Style.{Style}
use Rattle.certificate.specs.declared.nodes.Style.TheVariants.{Plain, UpTo, Under}
use Rattle.term_nodes.specs.NodeLists.{NodeParts}
use Rattle.term_nodes.specs.NumberSets.{set_pairs_of, IsNumberSet}
use Rattle.certificate.specs.PairParts.{PairParts, only_sets}
use Rattle.certificate.specs.Accepted.{test_of, tested_pair_of}
use Rattle.cert_checker.specs.NodeTables.{TableParts, AreTables, IsTest, IsTerm, term_at, holds_at, nodes_in}
use Rattle.cert_checker.specs.Targets.{AreEntries, chosen}
use Rattle.cert_checker.specs.Cases.{AreQueried, AreKnown}
use Rattle.cert_checker.specs.Indices.{IndexParts, AreIndexed}
use Rattle.cert_checker.specs.declared.known.TestCase.{TestCase}

-- What must hold of pairs for an action or, without one, for their outputs: the targets of terms; the style, the listed
-- pairs with their index, and the universal term for matching sets; pairs of tests that forbid a move if the first is
-- true at its beginning and the second at its end; and the tests that the forbidden pairs name at the first atom, and
-- those that they and the listed pairs name at the second.
pub record ActionPassParts : Type 0 where
  pub action : Option ℕ
  pub steps : List (List (ℕ × ℕ))
  pub style : Style
  pub pairs : List PairParts
  pub index : IndexParts
  pub universal : Option ℕ
  pub forbidden : List (ℕ × ℕ)
  pub begin : List ℕ
  pub end : List ℕ

-- A question about a pair in an action's pass, over these tables: the pair's test, the targets of its sets, and the
-- tests that these name.
pub record QuestionParts : Type 0 where
  pub tables : TableParts
  pub action_pass : ActionPassParts
  pub pair_test : Option ℕ
  pub left : List (ℕ × ℕ)
  pub right : List (ℕ × ℕ)
  pub queried : List ℕ

-- the tests that the question names at the first atom, by the pair and the targets, and by moves; and those at the
-- second atom
abbrev pub NamesByTargets : QuestionParts → ℕ → Type 0
NamesByTargets q g = (q.pair_test ≡ Some g) ⊎ ((e : ℕ × ℕ) × (Has q.left e ⊎ Has q.right e) × (e.1 ≡ g))

abbrev pub NamesByMoves : QuestionParts → ℕ → Type 0
NamesByMoves q g = (f : ℕ × ℕ) × Has q.action_pass.forbidden f × (f.0 ≡ g)

abbrev pub NamesAtEnd : QuestionParts → ℕ → Type 0
NamesAtEnd q g = ((f : ℕ × ℕ) × Has q.action_pass.forbidden f × (f.1 ≡ g)) ⊎ ((p : PairParts) × Has q.action_pass.pairs p × (p.test ≡ Some g))

-- the numbers are terms and tests of the tables, the named tests are listed, and pairs of the plain style have no test
pub record IsQuestion (t : TableParts) (q : QuestionParts) : Type 0 where
  pub pairs : (p : PairParts) → Has q.action_pass.pairs p → IsNumberSet (length t.terms) p.left × IsNumberSet (length t.terms) p.right
  pub untested : q.action_pass.style ≡ Plain → (p : PairParts) → Has q.action_pass.pairs p → p.test ≡ None
  pub indexed : AreIndexed q.action_pass.index q.action_pass.pairs
  pub universal : (u : ℕ) → q.action_pass.universal ≡ Some u → IsTerm t u
  pub pair_test : (k : ℕ) → q.pair_test ≡ Some k → IsTest t k
  pub left : AreEntries t q.left
  pub right : AreEntries t q.right
  pub begin : AreQueried t q.action_pass.begin
  pub end : AreQueried t q.action_pass.end
  pub by_moves : (g : ℕ) → NamesByMoves q g → Has q.action_pass.begin g
  pub at_end : (g : ℕ) → NamesAtEnd q g → Has q.action_pass.end g

-- `tests` contains the tests that the question names by the pair and the targets
pub record AreNamed (t : TableParts) (q : QuestionParts) (tests : List ℕ) : Type 0 where
  pub queried : AreQueried t tests
  pub named : (g : ℕ) → NamesByTargets q g → Has tests g

-- a question over sound tables, with the tests that it names
pub record IsPosed (q : QuestionParts) : Type 0 where
  pub tables : AreTables q.tables
  pub question : IsQuestion q.tables q
  pub named : AreNamed q.tables q q.queried

-- the question of an action's pass about a pair with this test and these targets
abbrev pub IsQueriedOf : TableParts → ActionPassParts → Option ℕ → List (ℕ × ℕ) → List (ℕ × ℕ) → QuestionParts → Type 0
IsQueriedOf t action_pass own left right q = q ≡ record { tables = t; action_pass = action_pass; pair_test = own; left = left; right = right; queried = q.queried }

-- what is known of the listed tests when some primitive tests of both atoms are decided
pub record IsTestCase (t : TableParts) (q : QuestionParts) (queried : List ℕ) (decided : List (Option Bool)) (c : TestCase) : Type 0 where
  pub targets : AreKnown 0 t (take t.width decided) queried c.begin.items
  pub begin : AreKnown 0 t (take t.width decided) q.action_pass.begin c.begin.items
  pub end : AreKnown t.width t (drop t.width decided) q.action_pass.end c.end.items

-- The values of two atoms are concatenated: first those of the atom at the beginning of a move, then those of the atom
-- at its end.
abbrev pub first_half : TableParts → Atom → Atom
first_half t x = take t.width x

abbrev pub second_half : TableParts → Atom → Atom
second_half t x = drop t.width x

-- whether the atom satisfies the test of a pair
abbrev pub test_holds : TableParts → Option ℕ → Atom → Bool
test_holds t test atom = truth (test_of (nodes_in t) test) atom

-- the pair's test is true at the first atom, and the move to the second atom is not forbidden
pub record Counts (t : TableParts) (q : QuestionParts) (atom to : Atom) : Type 0 where
  pub pair_test : IsTrue (test_holds t q.pair_test atom)
  pub free : (f : ℕ × ℕ) → Has q.action_pass.forbidden f → (holds_at t f.0 atom && holds_at t f.1 to) ≡ false

-- these pairs match two sets of terms in a style; in the styles up to congruence only the pairs whose test is true at
-- the atom count
abbrev pub AreMatchedIn : NodeParts → Style → Option Term → List PairParts → List Term → List Term → Atom → Type 0
AreMatchedIn nodes Plain u ps es fs to = AreMatched plain u (set_pairs_of nodes (map only_sets ps)) es fs
AreMatchedIn nodes UpTo u ps es fs to = IsCongruent u (pairs_at (map (tested_pair_of nodes) ps) to) es fs
AreMatchedIn nodes Under u ps es fs to = IsCongruent u (pairs_at (map (tested_pair_of nodes) ps) to) es fs

-- the pairs of the question match two sets of terms
abbrev pub AreMatchedBy : TableParts → QuestionParts → List Term → List Term → Atom → Type 0
AreMatchedBy t q es fs to = AreMatchedIn (nodes_in t) q.action_pass.style (option_map (term_at t) q.action_pass.universal) q.action_pass.pairs es fs to

-- the question holds at the two atoms: if the move counts, the pairs match the terms that the targets stand for
abbrev pub MatchAt : TableParts → QuestionParts → Atom → Type 0
MatchAt t q x =
    Counts t q (first_half t x) (second_half t x)
    → AreMatchedBy t q (chosen t q.left (first_half t x)) (chosen t q.right (first_half t x)) (second_half t x)
