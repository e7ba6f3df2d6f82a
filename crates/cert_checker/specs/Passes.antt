-- A pass over the pairs of a certificate: what it has, and the conditions on pairs that it makes.
use Rattle.std.specs.Prelude.{◌≡◌, ◌↔◌, ◌<◌, ◌≤◌, ℕ, Bool, IsTrue, false, ◌&&◌, List, [], ◌++◌, map, get_or, length, Option, Some, None}
use Rattle.std.specs.Option.{option_map_or}
use Rattle.kat_model.specs.Trees.{Term}
use Rattle.kat_model.specs.Problems.{ProblemParts, IsProblem}
use Rattle.kat_model.specs.Members.{Has}
use Rattle.kat_model.specs.Steps.{Atom, set_out}
use Rattle.kat_model.specs.AllowedMoves.{IsAllowedAtom, IsAllowedMove}
use Rattle.term_nodes.specs.NumberSets.{are_below}
use Rattle.certificate.specs.declared.nodes.Style.TheVariants.{UpTo}
use Rattle.certificate.specs.PairParts.{PairParts}
use Rattle.certificate.specs.Certs.{CertParts, IsCert}
use Rattle.cert_checker.specs.NodeTables.{TableParts, TablesGrow, tables_of, IsTest, HasValues, holds_at}
use Rattle.cert_checker.specs.Marks.{IsMarked, AreClosed}
use Rattle.cert_checker.specs.Targets.{AreAcceptances, AreSteps, Represent}
use Rattle.cert_checker.specs.declared.pass.PassNumbers.{PassNumbers}
use Rattle.cert_checker.specs.Cases.{AreQueried}
use Rattle.cert_checker.specs.Indices.{IndexParts, AreIndexed}
use Rattle.cert_checker.specs.Roots.{AreRoots, counted_short}
use Rattle.cert_checker.specs.Questions.{ActionPassParts}

-- what a pass over a certificate has: its problem, the index of its pairs and the tables of its nodes; the numbers of
-- the compared closed sides, of their universal term, and of the hypotheses that count as short; the tests that are
-- true where terms accept and where a short hypothesis does; and marks of the terms whose steps are computed
pub record PassParts : Type 0 where
  pub problem : ProblemParts
  pub cert : CertParts
  pub index : IndexParts
  pub tables : TableParts
  pub left : ℕ
  pub right : ℕ
  pub universal : Option ℕ
  pub shorts : List ℕ
  pub acceptance_tests : List ℕ
  pub forbidden_atoms : ℕ
  pub needed_terms : List Bool

-- the pass with these numbers
abbrev pub pass_of : ProblemParts → CertParts → IndexParts → TableParts → PassNumbers → PassParts
pass_of q c x t n = record { problem = q; cert = c; index = x; tables = t; left = n.left; right = n.right; universal = n.universal; shorts = n.shorts.items; acceptance_tests = n.acceptance_tests.items; forbidden_atoms = n.forbidden_atoms; needed_terms = n.needed_terms.items }

-- the members of listed pairs and the short hypotheses are marked, and so are their parts
pub record AreNeeded (t : TableParts) (c : CertParts) (numbers : List ℕ) (marks : List Bool) : Type 0 where
  pub closed : AreClosed t marks
  pub left : (p : PairParts) (k : ℕ) → Has c.pairs p → Has p.left k → IsMarked marks k
  pub right : (p : PairParts) (k : ℕ) → Has c.pairs p → Has p.right k → IsMarked marks k
  pub shorts : (k : ℕ) → Has numbers k → IsMarked marks k

-- the tables contain the nodes of the certificate and the root terms of the problem, the tests are the acceptance tests
-- of the terms, and the index is that of the pairs
pub record IsPass (p : PassParts) : Type 0 where
  pub problem : IsProblem p.problem
  pub cert : IsCert p.cert
  pub nodes : TablesGrow (tables_of p.problem.tests p.cert) p.tables
  pub indexed : AreIndexed p.index p.cert.pairs
  pub roots : AreRoots p.cert.style p.problem p.tables p.left p.right p.universal p.shorts
  pub acceptance_tests : AreAcceptances p.tables p.acceptance_tests
  pub count : length p.cert.term_nodes ≤ length p.acceptance_tests
  pub there : length p.acceptance_tests ≤ length p.tables.terms
  pub shorts : IsTrue (are_below (length p.acceptance_tests) p.shorts)
  pub forbidden_atoms : HasValues p.tables (set_out (counted_short p.cert.style p.problem)) p.forbidden_atoms
  pub marks : length p.needed_terms ≡ length p.acceptance_tests
  pub needed_terms : AreNeeded p.tables p.cert p.shorts p.needed_terms

-- nodes were added to the tables, and nothing else changed
pub record PassGrows (old new : PassParts) : Type 0 where
  pub tables : TablesGrow old.tables new.tables
  pub same : new ≡ record old { tables = new.tables }

-- the targets of each marked term stand for what the term leads to
pub record StepsOf (t : TableParts) (action : Option ℕ) (marks : List Bool) (list : List (List (ℕ × ℕ))) : Type 0 where
  pub steps : AreSteps t action (IsMarked marks) list
  pub count : length list ≡ length marks

-- the atom is allowed, or the move from it by the action is
abbrev pub IsAllowed : List Term → Option ℕ → Atom → Atom → Type 0
IsAllowed shorts None atom to = IsAllowedAtom shorts atom
IsAllowed shorts (Some a) atom to = IsAllowedMove shorts atom (record { act = a; atom = to })

-- the move is allowed if and only if no pair of tests has the first true at the first atom and the second true at the
-- second atom
pub record AreForbidden (t : TableParts) (c : CertParts) (q : ProblemParts) (action : Option ℕ) (forbidden : List (ℕ × ℕ)) : Type 0 where
  pub tests : (f : ℕ × ℕ) → Has forbidden f → IsTest t f.0 × IsTest t f.1
  pub mean : (atom to : Atom) → ((f : ℕ × ℕ) → Has forbidden f → (holds_at t f.0 atom && holds_at t f.1 to) ≡ false) ↔ IsAllowed (counted_short c.style q) action atom to

-- the guard of a target, and the test that is true where the target accepts
abbrev pub forbidden_of : List ℕ → ℕ × ℕ → ℕ × ℕ
forbidden_of outputs e = (e.1, get_or outputs e.0 0)

-- a pair of tests was added for each target of the terms that a step leads to
pub record AddsMoves (t : TableParts) (leads : Atom → List Term) (old new : List (ℕ × ℕ)) : Type 0 where
  pub entries : List (ℕ × ℕ)
  pub outputs : List ℕ
  pub represent : Represent t entries leads
  pub accept : AreAcceptances t outputs
  pub there : (e : ℕ × ℕ) → Has entries e → e.0 < length outputs
  pub pairs : new ≡ old ++ map (forbidden_of outputs) entries

-- what must hold of each pair, for its outputs or for an action: the targets, and the pairs that match; without an
-- action, the outputs must be the same
pub record IsActionPass (p : PassParts) (action_pass : ActionPassParts) : Type 0 where
  pub steps : StepsOf p.tables action_pass.action p.needed_terms action_pass.steps
  pub style : action_pass.style ≡ option_map_or (λ a. p.cert.style) action_pass.action UpTo
  pub pairs : action_pass.pairs ≡ option_map_or (λ a. p.cert.pairs) action_pass.action []
  pub index : action_pass.index ≡ p.index
  pub universal : action_pass.universal ≡ option_map_or (λ a. p.universal) action_pass.action None
  pub forbidden : AreForbidden p.tables p.cert p.problem action_pass.action action_pass.forbidden
  pub begin : AreQueried p.tables action_pass.begin
  pub end : AreQueried p.tables action_pass.end
  pub by_moves : (f : ℕ × ℕ) → Has action_pass.forbidden f → Has action_pass.begin f.0 × Has action_pass.end f.1
  pub by_pairs : (r : PairParts) (g : ℕ) → Has action_pass.pairs r → r.test ≡ Some g → Has action_pass.end g
