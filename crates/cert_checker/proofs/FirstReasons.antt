-- The first reason of a certificate, from the first of each stage.
use Rattle.std.proofs.Common.{◌≡◌, ℕ, ◌+◌, ◌<◌, ◌≤◌, ⊎_elim, [], length, refl, ap, ◌∙◌, subst, arith, Option, Some, None}
use Rattle.std.specs.Option.{option_map, MatchOption}
use Rattle.kat_model.specs.Problems.{ProblemParts}
use Rattle.kat_model.specs.Members.{Has}
use Rattle.kat_model.specs.Steps.{Atom, set_next}
use Rattle.kat_model.specs.Strings.{Move}
use Rattle.kat_model.specs.Closed.{closed}
use Rattle.kat_model.specs.Pairs.{SetPair, plain, up_to, AreMatched}
use Rattle.kat_model.specs.TestedPairs.{TestedPair}
use Rattle.kat_model.proofs.Lists.{has_map, map_has}
use Rattle.term_nodes.specs.NumberSets.{NumberPair, terms_of}
use Rattle.certificate.specs.declared.nodes.Style.{Style}
use Rattle.certificate.specs.declared.nodes.Style.TheVariants.{Plain, UpTo, Under}
use Rattle.certificate.specs.PairParts.{only_sets}
use Rattle.term_nodes.specs.declared.TestNode.TheVariants.{Prim}
use Rattle.term_nodes.specs.declared.TermNode.TheVariants.{Act}
use Rattle.certificate.specs.Certs.{CertParts, nodes_of, number_pairs}
use Rattle.certificate.specs.Accepted.{IsAccepted, ShowsSame, set_pairs, tested_pair_of, tested_pairs}
use Rattle.kat_model.proofs.Places.{has_at, place_of_member}
use Rattle.cert_checker.specs.declared.answer.Reason.{Reason}
use Rattle.cert_checker.specs.declared.answer.Reason.TheVariants.{FirstPair, Output, Missing, MissingTo, Shape, HypBroken, EndsAgree, TestNode, TermNode}
use Rattle.cert_checker.specs.Answers.{Turn, turn_of, IsEarlier, Begins, AcceptAlike, OutputsHold, StepHolds, MoveHolds, FailsBy, FailsFirstBy}
use Rattle.cert_checker.specs.Ranges.{IsFirstOut}
use Rattle.cert_checker.specs.declared.places.Place.{Place}
use Rattle.cert_checker.specs.Working.Places.{IsFirstOf, place_reason}

stage_grows : (s t : Turn) → IsEarlier s t → s.stage ≤ t.stage
stage_grows s t h = ⊎_elim (λ l. omega (arith, l)) (λ k. omega (arith, k.0)) h

-- an earlier node of the same stage has a lesser number
lesser_node : (stage j k : ℕ) → IsEarlier (record { stage = stage; number = j; atom = []; action = 0; to = [] }) (record { stage = stage; number = k; atom = []; action = 0; to = [] }) → j < k
lesser_node stage j k h =
    ⊎_elim (λ l. absurd (omega (arith, l)))
    (λ a. ⊎_elim (λ l. l) (λ b. ⊎_elim absurd (λ m. absurd (⊎_elim (λ n. omega (arith, n)) (λ n. n.1) m.1)) b.1) a.1)
    h

module _ (q : ProblemParts) (c : CertParts) where
  module _ (tests : (i : ℕ) → Has c.test_nodes (Prim i) → i < q.tests) where
    no_test : (j : ℕ) → FailsBy q c (TestNode j) → ⊥
    no_test j g = let low : g.0 < q.tests = tests g.0 (has_at c.test_nodes j (Prim g.0) g.1) in absurd (omega (arith, g.2))

    pub first_term : (k : ℕ) → IsFirstOut Act q.actions c.term_nodes k → FailsFirstBy q c (TermNode k)
    first_term k f = record { fails = (f.number, f.is, f.out); first = none }
      where
        none : (s : Reason) → IsEarlier (turn_of s) (turn_of (TermNode k)) → FailsBy q c s → ⊥
        none (TestNode j) e g = no_test j g
        none (TermNode j) e g = let low : g.0 < q.actions = f.first j g.0 (lesser_node 1 j k e) g.1 in absurd (omega (arith, g.2))
        none FirstPair e g = absurd (omega (arith, stage_grows (turn_of FirstPair) (turn_of (TermNode k)) e))
        none (Output j atom) e g = absurd (omega (arith, stage_grows (turn_of (Output j atom)) (turn_of (TermNode k)) e))
        none (Missing j atom a) e g = absurd (omega (arith, stage_grows (turn_of (Missing j atom a)) (turn_of (TermNode k)) e))
        none (MissingTo j atom a to) e g = absurd (omega (arith, stage_grows (turn_of (MissingTo j atom a to)) (turn_of (TermNode k)) e))
        none (Shape j) e g = g
        none (HypBroken h i j) e g = g
        none EndsAgree e g = g

    module _ (actions : (a : ℕ) → Has c.term_nodes (Act a) → a < q.actions) where
      no_term : (j : ℕ) → FailsBy q c (TermNode j) → ⊥
      no_term j g = let low : g.0 < q.actions = actions g.0 (has_at c.term_nodes j (Act g.0) g.1) in absurd (omega (arith, g.2))

      pub first_pair : (Begins c.style q c → ⊥) → FailsFirstBy q c FirstPair
      first_pair never = record { fails = never; first = none }
        where
          none : (s : Reason) → IsEarlier (turn_of s) (turn_of FirstPair) → FailsBy q c s → ⊥
          none (TestNode j) e g = no_test j g
          none (TermNode j) e g = no_term j g
          none FirstPair e g = let low : 0 < 0 = lesser_node 2 0 0 e in absurd (omega (arith, low))
          none (Output j atom) e g = absurd (omega (arith, stage_grows (turn_of (Output j atom)) (turn_of FirstPair) e))
          none (Missing j atom a) e g = absurd (omega (arith, stage_grows (turn_of (Missing j atom a)) (turn_of FirstPair) e))
          none (MissingTo j atom a to) e g = absurd (omega (arith, stage_grows (turn_of (MissingTo j atom a to)) (turn_of FirstPair) e))
          none (Shape j) e g = g
          none (HypBroken h i j) e g = g
          none EndsAgree e g = g

      module _ (begins : Begins c.style q c) where
        pub first_place_fails : (r : Reason) → IsFirstOf q c (λ n. n < q.actions + 1) (Some r) → FailsFirstBy q c r
        first_place_fails r f = record { fails = f.1; first = none }
          where
            none : (s : Reason) → IsEarlier (turn_of s) (turn_of r) → FailsBy q c s → ⊥
            none (TestNode j) e g = no_test j g
            none (TermNode j) e g = no_term j g
            none FirstPair e g = g begins
            none (Output j atom) e g = f.2 (Output j atom) (refl, omega arith) e g
            none (Missing j atom a) e g = f.2 (Missing j atom a) (refl, omega (arith, g.3)) e g
            none (MissingTo j atom a to) e g = f.2 (MissingTo j atom a to) (refl, omega (arith, g.3)) e g
            none (Shape j) e g = g
            none (HypBroken h i j) e g = g
            none EndsAgree e g = g

        pub all_accepted : IsFirstOf q c (λ n. n < q.actions + 1) None → IsAccepted q c
        all_accepted f = record { tests = tests; actions = actions; pairs = by_style c.style begins outputs steps moves }
          where
            outputs : (p : TestedPair) → Has (tested_pairs c) p → (atom : Atom) → length atom ≡ q.tests → OutputsHold c.style q p atom
            outputs p h atom l = let k = place_of_member (tested_pairs c) p h in f (Output k.0 atom) (refl, omega arith) p k.1 l

            steps : (p : TestedPair) → Has (tested_pairs c) p → (atom : Atom) → length atom ≡ q.tests → (a : ℕ) → a < q.actions → StepHolds c.style q c p atom a
            steps p h atom l a low = let k = place_of_member (tested_pairs c) p h in f (Missing k.0 atom a) (refl, omega (arith, low)) p k.1 l low

            moves : (p : TestedPair) → Has (tested_pairs c) p → (atom : Atom) → length atom ≡ q.tests → (m : Move) → m.act < q.actions → length m.atom ≡ q.tests → MoveHolds c.style q c p atom m
            moves p h atom l m low wide = let k = place_of_member (tested_pairs c) p h in f (MissingTo k.0 atom m.act m.atom) (refl, omega (arith, low)) p k.1 l low wide

            -- each listed pair of sets has some test
            tested : (s : SetPair) → Has (set_pairs c) s → (p : TestedPair) × Has (tested_pairs c) p × (p.sets ≡ s)
            tested s h =
                let n = has_map (λ (n : NumberPair). record { left = terms_of (nodes_of c) n.left; right = terms_of (nodes_of c) n.right }) (number_pairs c) s h in
                let m = has_map only_sets c.pairs n.0 n.1 in
                (tested_pair_of (nodes_of c) m.0, map_has (tested_pair_of (nodes_of c)) c.pairs m.0 m.1, ap (λ (n : NumberPair). record { left = terms_of (nodes_of c) n.left; right = terms_of (nodes_of c) n.right }) m.2 ∙ n.2)

            by_style : (s : Style) → Begins s q c → ((p : TestedPair) → Has (tested_pairs c) p → (atom : Atom) → length atom ≡ q.tests → OutputsHold s q p atom)
                → ((p : TestedPair) → Has (tested_pairs c) p → (atom : Atom) → length atom ≡ q.tests → (a : ℕ) → a < q.actions → StepHolds s q c p atom a)
                → ((p : TestedPair) → Has (tested_pairs c) p → (atom : Atom) → length atom ≡ q.tests → (m : Move) → m.act < q.actions → length m.atom ≡ q.tests → MoveHolds s q c p atom m)
                → ShowsSame s q c
            by_style Plain b o s m = record {
              rest = b.0;
              first = b.1;
              bisimulation = record {
                outputs = λ p h atom l. let k = tested p h in subst (λ z. AcceptAlike z atom) k.2 (o k.0 k.1 atom l);
                steps = λ p h atom l a low. let k = tested p h in subst (λ (z : SetPair). AreMatched plain (closed q).universal (set_pairs c) (set_next z.left atom a) (set_next z.right atom a)) k.2 (s k.0 k.1 atom l a low);
              };
            }
            by_style UpTo b o s m = record {
              rest = b.0;
              first = b.1;
              bisimulation = record {
                outputs = λ p h atom l. let k = tested p h in subst (λ z. AcceptAlike z atom) k.2 (o k.0 k.1 atom l);
                steps = λ p h atom l a low. let k = tested p h in subst (λ (z : SetPair). AreMatched up_to (closed q).universal (set_pairs c) (set_next z.left atom a) (set_next z.right atom a)) k.2 (s k.0 k.1 atom l a low);
              };
            }
            by_style Under b o s m = record {
              test = b.0;
              rest = b.1;
              first = b.2;
              holds = b.3;
              bisimulation = record {
                outputs = o;
                steps = λ p h atom l t n low wide allowed. m p h atom l n low wide t allowed;
              };
            }

        -- the certificate is accepted if there is no first place; otherwise the reason of that place is its first
        -- reason
        pub pairs_given : (o : Option Place) → IsFirstOf q c (λ n. n < q.actions + 1) (option_map (place_reason c.style) o) → MatchOption (option_map (place_reason c.style) o) (IsAccepted q c) (λ r. FailsFirstBy q c r)
        pairs_given None f = all_accepted f
        pairs_given (Some x) f = first_place_fails (place_reason c.style x) f
