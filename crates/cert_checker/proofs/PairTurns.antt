-- What a question about a pair means for the certificate, in each style.
use Rattle.std.proofs.Common.{◌≡◌, ◌↔◌, ℕ, ◌+◌, inl, inr, ⊎_elim, List, [], ◌∷◌, map, take, drop, length, refl, sym, ap, ◌∙◌, subst, Bool, true, false, cond, Option, Some, None}
use Rattle.std.specs.Bool.{IsTrue}
use Rattle.std.specs.Option.{option_map, option_map_or}
use Rattle.kat_model.specs.Trees.{Term, one}
use Rattle.kat_model.specs.Members.{Has, SameMembers}
use Rattle.kat_model.specs.Steps.{Atom, truth, set_out, set_next}
use Rattle.kat_model.specs.Closed.{closed}
use Rattle.kat_model.specs.Pairs.{plain, up_to, AreMatched, IsCongruent}
use Rattle.kat_model.specs.TestedPairs.{pairs_at}
use Rattle.kat_model.proofs.Lists.{same_members_sym, same_members_trans}
use Rattle.term_nodes.specs.NodeLists.{NodeParts}
use Rattle.term_nodes.specs.NumberSets.{terms_of, set_pairs_of}
use Rattle.certificate.specs.declared.nodes.Style.{Style}
use Rattle.certificate.specs.declared.nodes.Style.TheVariants.{Plain, UpTo, Under}
use Rattle.certificate.specs.PairParts.{PairParts, only_sets}
use Rattle.certificate.specs.Certs.{HasItsTest, nodes_of}
use Rattle.certificate.specs.Accepted.{set_pairs, test_of, tested_pair_of, tested_pairs}
use Rattle.cert_checker.specs.NodeTables.{TableParts, TablesGrow, term_at, nodes_in}
use Rattle.cert_checker.specs.Targets.{Represent, chosen, set_leads_to}
use Rattle.cert_checker.proofs.StepSets.{represent_kept}
use Rattle.cert_checker.specs.LeastFailures.{IsFirstFailure}
use Rattle.cert_checker.specs.Cases.{undecided}
use Rattle.cert_checker.specs.Roots.{compared, counted_short}
use Rattle.cert_checker.specs.Questions.{ActionPassParts, QuestionParts, AreNamed, IsPosed, IsQueriedOf, Counts, AreMatchedIn, MatchAt, test_holds}
use Rattle.cert_checker.specs.Passes.{PassParts, IsPass, IsActionPass, IsAllowed}
use Rattle.cert_checker.specs.Working.Places.{TurnHolds, PairHolds}
use Rattle.cert_checker.proofs.PosedQuestions.{question_of, none_plain, question_posed, own_test}
use Rattle.cert_checker.proofs.CertPairs.{set_kept, test_kept, test_there, pairs_kept, sets_kept}
use Rattle.cert_checker.proofs.Passes.{pass_with, turn_with}
use Rattle.cert_checker.proofs.SetQuestions.{matched_same}

-- without tests all listed pairs count at each atom
untested_all : (nodes : NodeParts) (ps : List PairParts) (atom : Atom) → ((p : PairParts) → Has ps p → p.test ≡ None) → pairs_at (map (tested_pair_of nodes) ps) atom ≡ set_pairs_of nodes (map only_sets ps)
untested_all nodes [] atom none = refl
untested_all nodes (p ∷ ps) atom none = go p.test (none p (inl refl)) (untested_all nodes ps atom (λ r h. none r (inr h)))
  where
    go : (o : Option ℕ) → o ≡ None → pairs_at (map (tested_pair_of nodes) ps) atom ≡ set_pairs_of nodes (map only_sets ps)
        → pairs_at (record { sets = record { left = terms_of nodes p.left; right = terms_of nodes p.right }; test = test_of nodes o } ∷ map (tested_pair_of nodes) ps) atom ≡ record { left = terms_of nodes p.left; right = terms_of nodes p.right } ∷ set_pairs_of nodes (map only_sets ps)
    go None e rest = ap (λ l. record { left = terms_of nodes p.left; right = terms_of nodes p.right } ∷ l) rest
    go (Some k) e rest = absurd cc

-- ---- the condition on two sets

-- if the empty product under one condition and under another give the same set, the conditions are equal
same_condition : (b d : Bool) → SameMembers (cond b (one ∷ []) []) (cond d (one ∷ []) []) → b ≡ d
same_condition true true s = refl
same_condition false false s = refl
same_condition true false s = absurd ((s one).0 (inl refl))
same_condition false true s = absurd ((s one).1 (inl refl))

-- with no pairs and no universal term, only sets with the same members are congruent
pub outputs_given : (t : TableParts) (left right : List (ℕ × ℕ)) (f g : Atom → Bool) → Represent t left (λ atom. cond (f atom) (one ∷ []) []) → Represent t right (λ atom. cond (g atom) (one ∷ []) []) → (atom to : Atom)
    → AreMatchedIn (nodes_in t) UpTo None [] (chosen t left atom) (chosen t right atom) to ↔ (f atom ≡ g atom)
outputs_given t left right f g own other atom to = (forth, back)
  where
    forth : AreMatchedIn (nodes_in t) UpTo None [] (chosen t left atom) (chosen t right atom) to → f atom ≡ g atom
    forth m = ⊎_elim
        (λ s. same_condition (f atom) (g atom)
        (same_members_trans (cond (f atom) (one ∷ []) []) (chosen t left atom) (cond (g atom) (one ∷ []) []) (same_members_sym (chosen t left atom) (cond (f atom) (one ∷ []) []) (own.same atom))
        (same_members_trans (chosen t left atom) (chosen t right atom) (cond (g atom) (one ∷ []) []) s (other.same atom))))
        absurd
        m

    back : f atom ≡ g atom → AreMatchedIn (nodes_in t) UpTo None [] (chosen t left atom) (chosen t right atom) to
    back e = inl
        (same_members_trans (chosen t left atom) (cond (g atom) (one ∷ []) []) (chosen t right atom)
        (subst (λ b. SameMembers (chosen t left atom) (cond b (one ∷ []) [])) e (own.same atom))
        (same_members_sym (chosen t right atom) (cond (g atom) (one ∷ []) []) (other.same atom)))

-- equivalent properties have the same first failure
same_failure : (P Q : Atom → Type 0) (ds : List (Option Bool)) (o : Option Atom) → ((x : Atom) → P x ↔ Q x) → IsFirstFailure P ds o → IsFirstFailure Q ds o
same_failure P Q ds None same f = λ x h. (same x).0 (f x h)
same_failure P Q ds (Some x) same f = record {
  within = f.within;
  fails = λ h. f.fails ((same x).1 h);
  least = λ other h l. (same other).0 (f.least other h l);
}

both_or : {A B C D : Type 0} → (A ↔ B) → (C ↔ D) → (A → C) ↔ (B → D)
both_or x y = ((λ h b. y.0 (h (x.1 b))), (λ h a. y.1 (h (x.0 a))))

pub both_trans : {A B C : Type 0} → (A ↔ B) → (B ↔ C) → A ↔ C
both_trans x y = ((λ a. y.0 (x.0 a)), (λ c. x.1 (y.1 c)))

pub by_path : {A B : Type 0} → A ≡ B → A ↔ B
by_path e = ((λ h. subst (λ (P : Type 0). P) e h), (λ h. subst (λ (P : Type 0). P) (sym e) h))

module _ (p : PassParts) (pass : IsPass p) where
  -- the condition on two sets at an atom and at the atom that an action leads to
  abbrev IsQueriedAt : Option ℕ → List Term → List Term → Atom → Atom → Type 0
  IsQueriedAt None es fs atom to = set_out es atom ≡ set_out fs atom
  IsQueriedAt (Some a) es fs atom to = AreMatchedIn (nodes_in p.tables) p.cert.style (option_map (term_at p.tables) p.universal) p.cert.pairs (set_next es atom a) (set_next fs atom a) to

  -- the question about targets that stand for what the sets lead to is equivalent to the condition on the sets
  matched_given : (o : Option ℕ) (left right : List (ℕ × ℕ)) (es fs : List Term) → Represent p.tables left (set_leads_to o es) → Represent p.tables right (set_leads_to o fs) → (atom to : Atom)
      → AreMatchedIn (nodes_in p.tables) (option_map_or (λ a. p.cert.style) o UpTo) (option_map (term_at p.tables) (option_map_or (λ a. p.universal) o None)) (option_map_or (λ a. p.cert.pairs) o []) (chosen p.tables left atom) (chosen p.tables right atom) to ↔ IsQueriedAt o es fs atom to
  matched_given None left right es fs own other atom to = outputs_given p.tables left right (set_out es) (set_out fs) own other atom to
  matched_given (Some a) left right es fs own other atom to = (
    (λ m. matched_same (nodes_in p.tables) p.cert.style (option_map (term_at p.tables) p.universal) p.cert.pairs (chosen p.tables left atom) (chosen p.tables right atom) (set_next es atom a) (set_next fs atom a) to (own.same atom) (other.same atom) m),
    (λ m. matched_same (nodes_in p.tables) p.cert.style (option_map (term_at p.tables) p.universal) p.cert.pairs (set_next es atom a) (set_next fs atom a) (chosen p.tables left atom) (chosen p.tables right atom) to
        (same_members_sym (chosen p.tables left atom) (set_next es atom a) (own.same atom)) (same_members_sym (chosen p.tables right atom) (set_next fs atom a) (other.same atom)) m),
  )

  -- the same in an action's pass
  pub matched_in_turn : (action_pass : ActionPassParts) → IsActionPass p action_pass → (es fs : List Term) (to : Atom)
      → AreMatchedIn (nodes_in p.tables) action_pass.style (option_map (term_at p.tables) action_pass.universal) action_pass.pairs es fs to
      ≡ AreMatchedIn (nodes_in p.tables) (option_map_or (λ a. p.cert.style) action_pass.action UpTo) (option_map (term_at p.tables) (option_map_or (λ a. p.universal) action_pass.action None)) (option_map_or (λ a. p.cert.pairs) action_pass.action []) es fs to
  matched_in_turn action_pass is es fs to = λ i. AreMatchedIn (nodes_in p.tables) (is.style i) (option_map (term_at p.tables) (is.universal i)) (is.pairs i) es fs to

  -- in a style without tests no pair has a test
  none_up_to : p.cert.style ≡ UpTo → (r : PairParts) → Has p.cert.pairs r → r.test ≡ None
  none_up_to e r h = subst (λ z. HasItsTest z (length p.cert.test_nodes) r.test) e (pass.cert.pairs r h).test

  universal_in : (s : Style) → p.cert.style ≡ s → option_map (term_at p.tables) p.universal ≡ (compared s p.problem).universal
  universal_in s e = pass.roots.sides.universal ∙ ap (λ z. (compared z p.problem).universal) e

  module _ (es fs : List Term) (to : Atom) where
    in_style : (s : Style) → p.cert.style ≡ s → AreMatchedIn (nodes_in p.tables) p.cert.style (option_map (term_at p.tables) p.universal) p.cert.pairs es fs to ≡ AreMatchedIn (nodes_in p.tables) s (compared s p.problem).universal p.cert.pairs es fs to
    in_style s e = λ i. AreMatchedIn (nodes_in p.tables) (e i) (universal_in s e i) p.cert.pairs es fs to

    matched_plain : p.cert.style ≡ Plain → AreMatchedIn (nodes_in p.tables) p.cert.style (option_map (term_at p.tables) p.universal) p.cert.pairs es fs to ≡ AreMatched plain (closed p.problem).universal (set_pairs p.cert) es fs
    matched_plain e = in_style Plain e ∙ ap (λ ps. AreMatched plain (closed p.problem).universal ps es fs) (sets_kept p.problem p.cert pass.cert p.tables pass.nodes)

    matched_up_to : p.cert.style ≡ UpTo → AreMatchedIn (nodes_in p.tables) p.cert.style (option_map (term_at p.tables) p.universal) p.cert.pairs es fs to ≡ AreMatched up_to (closed p.problem).universal (set_pairs p.cert) es fs
    matched_up_to e = in_style UpTo e ∙ ap (λ ps. IsCongruent (closed p.problem).universal ps es fs) (untested_all (nodes_in p.tables) p.cert.pairs to (none_up_to e) ∙ sets_kept p.problem p.cert pass.cert p.tables pass.nodes)

    matched_under : p.cert.style ≡ Under → AreMatchedIn (nodes_in p.tables) p.cert.style (option_map (term_at p.tables) p.universal) p.cert.pairs es fs to ≡ IsCongruent (compared Under p.problem).universal (pairs_at (tested_pairs p.cert) to) es fs
    matched_under e = in_style Under e ∙ ap (λ ps. IsCongruent (compared Under p.problem).universal (pairs_at ps to) es fs) (pairs_kept p.problem p.cert pass.cert p.tables pass.nodes)

  module _ (r : PairParts) (listed : Has p.cert.pairs r) where
    true_without : r.test ≡ None → (atom : Atom) → truth (test_of (nodes_of p.cert) r.test) atom ≡ true
    true_without e atom = ap (λ o. truth (test_of (nodes_of p.cert) o) atom) e

    -- the condition of a style on the sets of the pair
    queried_given : (s : Style) → p.cert.style ≡ s → (o : Option ℕ) (atom to : Atom)
        → (IsTrue (truth (test_of (nodes_of p.cert) r.test) atom) × IsAllowed (counted_short s p.problem) o atom to → IsQueriedAt o (terms_of (nodes_of p.cert) r.left) (terms_of (nodes_of p.cert) r.right) atom to)
        ↔ TurnHolds s p.problem p.cert (tested_pair_of (nodes_of p.cert) r) o atom to
    queried_given Plain e None atom to = ((λ h. h (true_without (none_plain p pass e r listed) atom, refl)), (λ h _. h))
    queried_given UpTo e None atom to = ((λ h. h (true_without (none_up_to e r listed) atom, refl)), (λ h _. h))
    queried_given Under e None atom to = ((λ h allowed test. h (test, allowed)), (λ h both. h both.1 both.0))
    queried_given Plain e (Some a) atom to =
        let same = by_path (matched_plain (set_next (terms_of (nodes_of p.cert) r.left) atom a) (set_next (terms_of (nodes_of p.cert) r.right) atom a) to e) in
        ((λ h. same.0 (h (true_without (none_plain p pass e r listed) atom, record { from = refl; to = refl; move = refl }))), (λ h _. same.1 h))
    queried_given UpTo e (Some a) atom to =
        let same = by_path (matched_up_to (set_next (terms_of (nodes_of p.cert) r.left) atom a) (set_next (terms_of (nodes_of p.cert) r.right) atom a) to e) in
        ((λ h. same.0 (h (true_without (none_up_to e r listed) atom, record { from = refl; to = refl; move = refl }))), (λ h _. same.1 h))
    queried_given Under e (Some a) atom to =
        let same = by_path (matched_under (set_next (terms_of (nodes_of p.cert) r.left) atom a) (set_next (terms_of (nodes_of p.cert) r.right) atom a) to e) in
        ((λ h test allowed. same.0 (h (test, allowed))), (λ h both. same.1 (h both.0 both.1)))

    module _ (action_pass : ActionPassParts) (is : IsActionPass p action_pass) (left right : List (ℕ × ℕ)) (queried : List ℕ) where
      -- the question about the pair counts if and only if the pair's test is true and the move is allowed
      counts_given : (atom to : Atom) → Counts p.tables (question_of p.tables action_pass r.test left right queried) atom to ↔ (IsTrue (truth (test_of (nodes_of p.cert) r.test) atom) × IsAllowed (counted_short p.cert.style p.problem) action_pass.action atom to)
      counts_given atom to = (
        (λ h. (sym (same atom) ∙ h.pair_test, (is.forbidden.mean atom to).0 h.free)),
        (λ h. record { pair_test = same atom ∙ h.0; free = (is.forbidden.mean atom to).1 h.1 }),
      )
        where
          same : (atom : Atom) → test_holds p.tables r.test atom ≡ truth (test_of (nodes_of p.cert) r.test) atom
          same atom = ap (λ b. truth b atom) (test_kept p.problem p.cert pass.cert p.tables pass.nodes r.test (test_there p.problem p.cert pass.cert p.tables pass.nodes p.cert.style (length p.cert.test_nodes) r.test (pass.cert.pairs r listed).test))

      -- the question holds if and only if the pair does
      pub turn_given : Represent p.tables left (set_leads_to action_pass.action (terms_of (nodes_of p.cert) r.left)) → Represent p.tables right (set_leads_to action_pass.action (terms_of (nodes_of p.cert) r.right)) → (x : Atom)
          → MatchAt p.tables (question_of p.tables action_pass r.test left right queried) x ↔ TurnHolds p.cert.style p.problem p.cert (tested_pair_of (nodes_of p.cert) r) action_pass.action (take p.tables.width x) (drop p.tables.width x)
      turn_given own other x =
          both_trans
          (both_or (counts_given (take p.tables.width x) (drop p.tables.width x))
          (both_trans (by_path (matched_in_turn action_pass is (chosen p.tables left (take p.tables.width x)) (chosen p.tables right (take p.tables.width x)) (drop p.tables.width x)))
          (matched_given action_pass.action left right (terms_of (nodes_of p.cert) r.left) (terms_of (nodes_of p.cert) r.right) own other (take p.tables.width x) (drop p.tables.width x))))
          (queried_given p.cert.style refl action_pass.action (take p.tables.width x) (drop p.tables.width x))

-- ---- the pair that the loop visits

module _ (p : PassParts) (mid last : TableParts) (begun : IsPass p) (to_mid : TablesGrow p.tables mid) (to_last : TablesGrow mid last) (action_pass : ActionPassParts) (is : IsActionPass p action_pass) (r : PairParts) (listed : Has p.cert.pairs r)
    (left right : List (ℕ × ℕ)) (own : Represent mid left (set_leads_to action_pass.action (terms_of (nodes_in p.tables) r.left))) (other : Represent last right (set_leads_to action_pass.action (terms_of (nodes_in mid) r.right))) where
  half : IsPass (record p { tables = mid })
  half = pass_with p mid to_mid begun

  whole : IsPass (record p { tables = last })
  whole = pass_with (record p { tables = mid }) last to_last half

  turns : IsActionPass (record p { tables = last }) action_pass
  turns = turn_with (record p { tables = mid }) last to_last action_pass half (turn_with p mid to_mid action_pass begun is)

  lefts : Represent last left (set_leads_to action_pass.action (terms_of (nodes_of p.cert) r.left))
  lefts =
      represent_kept mid last to_last.was to_last left (set_leads_to action_pass.action (terms_of (nodes_of p.cert) r.left))
      (subst (λ es. Represent mid left (set_leads_to action_pass.action es)) (set_kept p.problem p.cert begun.cert p.tables begun.nodes r.left (begun.cert.pairs r listed).left.there) own)

  rights : Represent last right (set_leads_to action_pass.action (terms_of (nodes_of p.cert) r.right))
  rights = subst (λ es. Represent last right (set_leads_to action_pass.action es)) (set_kept p.problem p.cert begun.cert mid half.nodes r.right (begun.cert.pairs r listed).right.there) other

  pub pair_posed : (q : QuestionParts) → IsQueriedOf last action_pass r.test left right q → AreNamed last q q.queried → IsPosed q
  pair_posed q e named = question_posed (record p { tables = last }) whole action_pass turns q r.test left right e named (own_test p begun r listed mid last to_mid to_last) lefts.entries rights.entries

  -- the least values at which the question about the pair fails are the least at which the pair fails
  pub pair_given : (q : QuestionParts) (o : Option Atom) → IsQueriedOf last action_pass r.test left right q → IsFirstFailure (MatchAt q.tables q) (undecided (p.tables.width + p.tables.width)) o → IsFirstFailure (PairHolds p.problem p.cert action_pass.action r) (undecided (p.problem.tests + p.problem.tests)) o
  pair_given q o e f =
      subst (λ n. IsFirstFailure (PairHolds p.problem p.cert action_pass.action r) (undecided (n + n)) o) begun.nodes.width
      (same_failure (MatchAt q.tables q) (PairHolds p.problem p.cert action_pass.action r) (undecided (p.tables.width + p.tables.width)) o same f)
    where
      same : (x : Atom) → MatchAt q.tables q x ↔ PairHolds p.problem p.cert action_pass.action r x
      same x =
          subst (λ (z : QuestionParts). MatchAt z.tables z x ↔ PairHolds p.problem p.cert action_pass.action r x) (sym e)
          (subst (λ n. MatchAt last (question_of last action_pass r.test left right q.queried) x ↔ TurnHolds p.cert.style p.problem p.cert (tested_pair_of (nodes_of p.cert) r) action_pass.action (take n x) (drop n x)) whole.nodes.width
          (turn_given (record p { tables = last }) whole r listed action_pass turns left right q.queried lefts rights x))
