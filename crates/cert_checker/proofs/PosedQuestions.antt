-- The questions that a pass makes are posed, as their answers require.
use Rattle.std.proofs.Common.{◌≡◌, ℕ, ◌<◌, ◌≤◌, ⊎_elim, List, [], length, sym, ◌∙◌, subst, arith, true, Option, Some, None}
use Rattle.std.specs.Option.{option_map_or}
use Rattle.kat_model.specs.declared.limits.TheConstants.{MAX_TESTS}
use Rattle.kat_model.specs.Members.{Has}
use Rattle.term_nodes.specs.NumberSets.{IsNumberSet, are_below}
use Rattle.term_nodes.proofs.Parts.{below_more}
use Rattle.certificate.specs.declared.nodes.Style.TheVariants.{Plain, UpTo}
use Rattle.certificate.specs.PairParts.{PairParts}
use Rattle.certificate.specs.Certs.{HasItsTest}
use Rattle.cert_checker.specs.NodeTables.{TableParts, TablesGrow, IsTest}
use Rattle.cert_checker.specs.Targets.{AreEntries, AreSteps}
use Rattle.cert_checker.proofs.GrowingTables.{grows_trans}
use Rattle.cert_checker.specs.Indices.{IndexParts, AreIndexed}
use Rattle.cert_checker.specs.Questions.{ActionPassParts, QuestionParts, IsQuestion, AreNamed, IsPosed, IsQueriedOf}
use Rattle.cert_checker.specs.Passes.{PassParts, IsPass, IsActionPass}
use Rattle.cert_checker.proofs.CertPairs.{test_in_tables, listed_in}
use Rattle.cert_checker.proofs.Passes.{pass_with, turn_with}

-- the question of an action's pass about the targets of two sets
abbrev pub question_of : TableParts → ActionPassParts → Option ℕ → List (ℕ × ℕ) → List (ℕ × ℕ) → List ℕ → QuestionParts
question_of t action_pass own left right queried = record { tables = t; action_pass = action_pass; pair_test = own; left = left; right = right; queried = queried }

module _ (p : PassParts) (pass : IsPass p) where
  -- in a style without tests no pair has a test
  pub none_plain : p.cert.style ≡ Plain → (r : PairParts) → Has p.cert.pairs r → r.test ≡ None
  none_plain e r h = subst (λ z. HasItsTest z (length p.cert.test_nodes) r.test) e (pass.cert.pairs r h).test

  -- ---- the question of an action's pass

  set_in_tables : (ks : List ℕ) → IsNumberSet (length p.cert.term_nodes) ks → IsNumberSet (length p.tables.terms) ks
  set_in_tables ks s = record { there = below_more (length p.cert.term_nodes) (length p.tables.terms) ks (omega (arith, pass.count, pass.there)) s.there; ascending = s.ascending }

  indexed_in : (o : Option ℕ) → AreIndexed p.index (option_map_or (λ a. p.cert.pairs) o [])
  indexed_in None = λ k r e. absurd cc
  indexed_in (Some a) = pass.indexed

  universal_there : (o : Option ℕ) (u : ℕ) → option_map_or (λ a. p.universal) o None ≡ Some u → u < length p.tables.terms
  universal_there None u e = absurd cc
  universal_there (Some a) u e = pass.roots.sides.universal_there u e

  untested_in : (o : Option ℕ) → option_map_or (λ a. p.cert.style) o UpTo ≡ Plain → (r : PairParts) → Has (option_map_or (λ a. p.cert.pairs) o []) r → r.test ≡ None
  untested_in None e r h = absurd h
  untested_in (Some a) e r h = none_plain e r h

  module _ (action_pass : ActionPassParts) (is : IsActionPass p action_pass) where
    of_turn : (r : PairParts) → Has action_pass.pairs r → Has (option_map_or (λ a. p.cert.pairs) action_pass.action []) r
    of_turn r h = subst (λ (ps : List PairParts). Has ps r) is.pairs h

    question_queried : (own : Option ℕ) (left right : List (ℕ × ℕ)) (queried : List ℕ) → ((k : ℕ) → own ≡ Some k → IsTest p.tables k) → AreEntries p.tables left → AreEntries p.tables right → IsQuestion p.tables (question_of p.tables action_pass own left right queried)
    question_queried own left right queried test first second = record {
      pairs = λ r h. let of = pass.cert.pairs r (listed_in p pass action_pass.action r (of_turn r h)) in (set_in_tables r.left of.left, set_in_tables r.right of.right);
      untested = λ e r h. untested_in action_pass.action (sym is.style ∙ e) r (of_turn r h);
      indexed = subst (λ (x : IndexParts). AreIndexed x action_pass.pairs) (sym is.index) (subst (AreIndexed p.index) (sym is.pairs) (indexed_in action_pass.action));
      universal = λ u e. universal_there action_pass.action u (sym is.universal ∙ e);
      pair_test = test;
      left = first;
      right = second;
      begin = is.begin;
      end = is.end;
      by_moves = λ g n. subst (Has action_pass.begin) n.2 (is.by_moves n.0 n.1).0;
      at_end = λ g n. ⊎_elim (λ m. subst (Has action_pass.end) m.2 (is.by_moves m.0 m.1).1) (λ m. is.by_pairs m.0 g m.1 m.2) n;
    }

    pub question_posed : (q : QuestionParts) (own : Option ℕ) (left right : List (ℕ × ℕ)) → IsQueriedOf p.tables action_pass own left right q → AreNamed p.tables q q.queried → ((k : ℕ) → own ≡ Some k → IsTest p.tables k) → AreEntries p.tables left → AreEntries p.tables right → IsPosed q
    question_posed q own left right e named test first second = subst IsPosed (sym e) (record {
      tables = pass.nodes.sound;
      question = question_queried own left right q.queried test first second;
      named = subst (λ (z : QuestionParts). AreNamed p.tables z z.queried) e named;
    })

  -- the number of tests is within the limit
  pub narrow : p.tables.width ≤ MAX_TESTS
  narrow = omega (arith, pass.nodes.width, pass.problem.tests)

-- ---- the pair that the loop visits

module _ (p : PassParts) (begun : IsPass p) where
  module _ (action_pass : ActionPassParts) (is : IsActionPass p action_pass) (r : PairParts) (listed : Has p.cert.pairs r) where
    -- the terms of its sets have targets
    pub left_steps : AreSteps p.tables action_pass.action (Has r.left) action_pass.steps
    left_steps = λ k es h at. is.steps.steps k es (begun.needed_terms.left r k listed h) at

    pub right_steps : (mid : TableParts) → TablesGrow p.tables mid → AreSteps mid action_pass.action (Has r.right) action_pass.steps
    right_steps mid to_mid = λ k es h at. (turn_with p mid to_mid action_pass begun is).steps.steps k es (begun.needed_terms.right r k listed h) at

    pub left_numbers : are_below (length action_pass.steps) r.left ≡ true
    left_numbers = below_more (length p.cert.term_nodes) (length action_pass.steps) r.left (omega (arith, begun.count, begun.marks, is.steps.count)) (begun.cert.pairs r listed).left.there

    pub right_numbers : are_below (length action_pass.steps) r.right ≡ true
    right_numbers = below_more (length p.cert.term_nodes) (length action_pass.steps) r.right (omega (arith, begun.count, begun.marks, is.steps.count)) (begun.cert.pairs r listed).right.there

  module _ (r : PairParts) (listed : Has p.cert.pairs r) (mid last : TableParts) (to_mid : TablesGrow p.tables mid) (to_last : TablesGrow mid last) where
    pub own_test : (k : ℕ) → r.test ≡ Some k → IsTest last k
    own_test = test_in_tables (record p { tables = last }) (pass_with p last (grows_trans p.tables mid last to_mid to_last) begun) r listed
