-- What is known in a pass over the pairs, and in that of an action, remains true when its tables grow.
use Rattle.std.proofs.Common.{◌≡◌, ℕ, ◌≤◌, List, length, slice_get, refl, sym, ap, ◌∙◌, subst, arith, Bool, ◌&&◌, Option, Some}
use mathlib.Core.Path.{ap₂}
use Rattle.std.specs.Bool.{IsTrue}
use Rattle.kat_model.specs.Problems.{ProblemParts, IsProblem}
use Rattle.kat_model.specs.Members.{Has}
use Rattle.kat_model.specs.Steps.{Atom, set_out}
use Rattle.kat_model.proofs.Places.{slice_get-append_left}
use Rattle.term_nodes.specs.declared.TestNode.{TestNode}
use Rattle.term_nodes.specs.NumberSets.{are_below, terms_of}
use Rattle.certificate.specs.Certs.{CertParts, IsCert}
use Rattle.cert_checker.specs.NodeTables.{TableParts, TablesGrow, TestsGrow, tables_of, HasValues, holds_at, nodes_in}
use Rattle.cert_checker.specs.Marks.{IsMarked}
use Rattle.cert_checker.specs.Targets.{AreAcceptances}
use Rattle.cert_checker.proofs.ClosingMarks.{closed_kept}
use Rattle.cert_checker.proofs.GrowingTables.{grows_trans, grows_itself}
use Rattle.cert_checker.proofs.StepLists.{all_accept, all_step, grows_longer}
use Rattle.cert_checker.proofs.TargetSets.{test_within, holds_kept}
use Rattle.cert_checker.specs.Cases.{AreQueried}
use Rattle.cert_checker.specs.Indices.{AreIndexed}
use Rattle.cert_checker.specs.Roots.{AreRoots, counted_short}
use Rattle.cert_checker.specs.Questions.{ActionPassParts}
use Rattle.cert_checker.specs.Passes.{PassParts, AreNeeded, IsPass, PassGrows, StepsOf, AreForbidden, IsActionPass}
use Rattle.cert_checker.proofs.RootRanges.{roots_stay}

module _ (t new : TableParts) (grows : TablesGrow t new) where
  pub steps_stay : (o : Option ℕ) (marks : List Bool) (steps : List (List (ℕ × ℕ))) → length marks ≤ length t.terms → StepsOf t o marks steps → StepsOf new o marks steps
  steps_stay o marks steps low s = record {
    steps = all_step t new grows.was grows o (IsMarked marks) steps (omega (arith, low, s.count)) s.steps;
    count = s.count;
  }

  pub forbidden_stays : (q : ProblemParts) (c : CertParts) (action : Option ℕ) (forbidden : List (ℕ × ℕ)) → AreForbidden t c q action forbidden → AreForbidden new c q action forbidden
  forbidden_stays q c action forbidden tell = record {
    tests = λ f h. (test_within t new grows.was grows f.0 (tell.tests f h).0, test_within t new grows.was grows f.1 (tell.tests f h).1);
    mean = λ atom to. (
      (λ free. (tell.mean atom to).0 (λ f h. sym (same atom to f h) ∙ free f h)),
      (λ allowed f h. same atom to f h ∙ (tell.mean atom to).1 allowed f h),
    );
  }
    where
      same : (atom to : Atom) (f : ℕ × ℕ) → Has forbidden f → (holds_at new f.0 atom && holds_at new f.1 to) ≡ (holds_at t f.0 atom && holds_at t f.1 to)
      same atom to f h = ap₂ (λ x y. x && y) (holds_kept t new grows.was grows f.0 atom (tell.tests f h).0) (holds_kept t new grows.was grows f.1 to (tell.tests f h).1)

  pub queried_stay : (queried : List ℕ) → AreQueried t queried → AreQueried new queried
  queried_stay queried are i k h = (test_within t new grows.was grows k (are i k h).0, λ node at. (are i k h).1 node (was node at))
    where
      was : (node : TestNode ℕ) → slice_get new.tests k ≡ Some node → slice_get t.tests k ≡ Some node
      was node at = sym (slice_get-append_left t.tests grows.nodes.tests.0 k (are i k h).0) ∙ ap (λ l. slice_get l k) (sym grows.nodes.tests.1) ∙ at

  pub values_stay : (values : Atom → Bool) (k : ℕ) → HasValues t values k → HasValues new values k
  values_stay values k h = (test_within t new grows.was grows k h.0, (λ atom. holds_kept t new grows.was grows k atom h.0 ∙ h.1 atom))

  pub needed_stay : (c : CertParts) (shorts : List ℕ) (marks : List Bool) → length marks ≤ length t.terms → AreNeeded t c shorts marks → AreNeeded new c shorts marks
  needed_stay c shorts marks low n = record {
    closed = closed_kept t new grows marks low n.closed;
    left = n.left;
    right = n.right;
    shorts = n.shorts;
  }

-- ---- passes whose tables grow

module _ (p : PassParts) (new : TableParts) (grows : TablesGrow p.tables new) where
  pub pass_with : IsPass p → IsPass (record p { tables = new })
  pass_with pass = record {
    problem = pass.problem;
    cert = pass.cert;
    nodes = grows_trans (tables_of p.problem.tests p.cert) p.tables new pass.nodes grows;
    indexed = pass.indexed;
    roots = roots_stay p.cert.style p.problem p.tables new p.left p.right p.universal p.shorts grows pass.roots;
    acceptance_tests = all_accept p.tables new grows.was grows p.acceptance_tests pass.there pass.acceptance_tests;
    count = pass.count;
    there = omega (arith, pass.there, grows_longer p.tables new grows);
    shorts = pass.shorts;
    forbidden_atoms = values_stay p.tables new grows (set_out (counted_short p.cert.style p.problem)) p.forbidden_atoms pass.forbidden_atoms;
    marks = pass.marks;
    needed_terms = needed_stay p.tables new grows p.cert p.shorts p.needed_terms (omega (arith, pass.marks, pass.there)) pass.needed_terms;
  }

  pub turn_with : (action_pass : ActionPassParts) → IsPass p → IsActionPass p action_pass → IsActionPass (record p { tables = new }) action_pass
  turn_with action_pass pass is = record {
    steps = steps_stay p.tables new grows action_pass.action p.needed_terms action_pass.steps (omega (arith, pass.marks, pass.there)) is.steps;
    style = is.style;
    pairs = is.pairs;
    index = is.index;
    universal = is.universal;
    forbidden = forbidden_stays p.tables new grows p.problem p.cert action_pass.action action_pass.forbidden is.forbidden;
    begin = queried_stay p.tables new grows action_pass.begin is.begin;
    end = queried_stay p.tables new grows action_pass.end is.end;
    by_moves = is.by_moves;
    by_pairs = is.by_pairs;
  }

-- the pass after its tables grew
pub grown : {p old : PassParts} (new : TableParts) → p ≡ old → TablesGrow p.tables new → PassGrows old (record p { tables = new })
grown {p} new e grows = subst (λ (z : PassParts). PassGrows z (record p { tables = new })) e (record { tables = grows; same = refl })

module _ (p new : PassParts) (grows : PassGrows p new) where
  pub pass_kept : IsPass p → IsPass new
  pass_kept pass = subst IsPass (sym grows.same) (pass_with p new.tables grows.tables pass)

  pub turn_kept : (action_pass : ActionPassParts) → IsPass p → IsActionPass p action_pass → IsActionPass new action_pass
  turn_kept action_pass pass is = subst (λ (z : PassParts). IsActionPass z action_pass) (sym grows.same) (turn_with p new.tables grows.tables action_pass pass is)

pub passes_trans : (p q r : PassParts) → PassGrows p q → PassGrows q r → PassGrows p r
passes_trans p q r g h = record {
  tables = grows_trans p.tables q.tables r.tables g.tables h.tables;
  same = h.same ∙ ap (λ (z : PassParts). record z { tables = r.tables }) g.same;
}

pub passes_itself : (p : PassParts) → IsPass p → PassGrows p p
passes_itself p pass = record { tables = grows_itself p.tables pass.nodes.sound; same = refl }

-- ---- the start of the passes

module _ (p : PassParts) (first second third : TableParts) (start : first ≡ tables_of p.problem.tests p.cert) (to_second : TablesGrow first second) (to_third : TestsGrow second third) (to_last : TestsGrow third p.tables) (roots : AreRoots p.cert.style p.problem second p.left p.right p.universal p.shorts)
    (count : length p.acceptance_tests ≡ length second.terms) where
  pub all_there : length p.acceptance_tests ≤ length p.tables.terms
  all_there = omega (arith, count, ap length to_third.terms, ap length to_last.terms)

  pub nodes_there : length p.cert.term_nodes ≤ length p.acceptance_tests
  nodes_there = omega (arith, count, grows_longer first second to_second, ap (λ (z : TableParts). length z.terms) start)

  pub shorts_there : IsTrue (are_below (length p.acceptance_tests) p.shorts)
  shorts_there = ap (λ n. are_below n p.shorts) count ∙ roots.shorts_there

  pub pass_made : IsProblem p.problem → IsCert p.cert → AreIndexed p.index p.cert.pairs → AreAcceptances third p.acceptance_tests → HasValues p.tables (set_out (terms_of (nodes_in third) p.shorts)) p.forbidden_atoms → length p.needed_terms ≡ length p.acceptance_tests
      → AreNeeded p.tables p.cert p.shorts p.needed_terms → IsPass p
  pass_made is rules indexed acceptance_tests forbidden_atoms marks needed_terms = record {
    problem = is;
    cert = rules;
    nodes = subst (λ z. TablesGrow z p.tables) start (grows_trans first second p.tables to_second rest);
    indexed = indexed;
    roots = roots_stay p.cert.style p.problem second p.tables p.left p.right p.universal p.shorts rest roots;
    acceptance_tests = all_accept third p.tables to_last.grows.was to_last.grows p.acceptance_tests (omega (arith, count, ap length to_third.terms)) acceptance_tests;
    count = nodes_there;
    there = all_there;
    shorts = shorts_there;
    forbidden_atoms = subst (λ es. HasValues p.tables (set_out es) p.forbidden_atoms) (roots_stay p.cert.style p.problem second third p.left p.right p.universal p.shorts to_third.grows roots).shorts forbidden_atoms;
    marks = marks;
    needed_terms = needed_terms;
  }
    where
      rest : TablesGrow second p.tables
      rest = grows_trans second third p.tables to_third.grows to_last.grows
