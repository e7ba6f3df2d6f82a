-- What is known of a question at all values of two atoms that extend the decided tests.
use Rattle.std.proofs.Common.{◌≡◌, ◌⊎◌, ℕ, inl, inr, ⊎_elim, List, map, take, drop, length, refl, sym, ◌∙◌, subst, zero-add, Bool, true, false, ◌&&◌, Option, Some, None}
use Rattle.std.specs.Option.{option_map, option_map_or}
use Rattle.kat_model.specs.Members.{Has}
use Rattle.kat_model.specs.Steps.{Atom}
use Rattle.kat_model.specs.Pairs.{IsCongruent, IsListed}
use Rattle.kat_model.specs.TestedPairs.{pairs_at}
use Rattle.kat_model.proofs.Congruence.{congruent_more}
use Rattle.certificate.specs.declared.nodes.Style.{Style}
use Rattle.certificate.specs.declared.nodes.Style.TheVariants.{Plain, UpTo, Under}
use Rattle.certificate.specs.PairParts.{PairParts, only_sets}
use Rattle.certificate.specs.Accepted.{tested_pair_of}
use Rattle.term_nodes.specs.NumberSets.{NumberPair, IsNumberSet, set_pairs_of}
use Rattle.cert_checker.specs.NodeTables.{TableParts, AreTables, holds_at, term_at, nodes_in}
use Rattle.cert_checker.specs.Targets.{chosen}
use Rattle.cert_checker.specs.declared.known.TestCase.{TestCase}
use Rattle.cert_checker.specs.declared.known.Truth.TheVariants.{Known, Undecided as UndecidedBy}
use Rattle.cert_checker.specs.declared.sides.TargetSides.{TargetSides}
use Rattle.cert_checker.specs.Cases.{Extends, IsOpen, IsKnown, known_of}
use Rattle.cert_checker.specs.LeastFailures.{HoldsThroughout}
use Rattle.cert_checker.specs.Working.Reaching.{ArePairsBelow}
use Rattle.cert_checker.specs.Questions.{QuestionParts, IsQuestion, AreNamed, IsTestCase, Counts, AreMatchedIn, MatchAt, NamesByTargets, NamesByMoves, NamesAtEnd}
use Rattle.cert_checker.specs.Waiting.{IsWaited}
use Rattle.cert_checker.specs.Sides.{sure_targets, is_sure, AreTargetSides, AreSettled, IsWaitedBy}
use Rattle.cert_checker.specs.Working.Matching.{lists, counting, AreCovered, AreSurelyMatched}
use Rattle.cert_checker.specs.Waiting.{AreTestsSettled}
use Rattle.cert_checker.specs.Moves.{is_excluded, DoesCount}
use Rattle.cert_checker.proofs.Halves.{open_front, open_back, extends_front, extends_back}
use Rattle.cert_checker.proofs.CountedPairs.{counting_has, counting_below, counting_all}
use Rattle.cert_checker.proofs.Covering.{AreRight}
use Rattle.cert_checker.proofs.Covered.{covered_congruent, congruent_covered}
use Rattle.cert_checker.proofs.KnownMoves.{test_value, sure_are_at, at_are_counted, excluded_never, counts_then}
use Rattle.cert_checker.proofs.StepAnswers.{side_settled, none_alone, universal_holds, listed_holds, unlisted_fails}

module _ (t : TableParts) (are : AreTables t) (q : QuestionParts) (is : IsQuestion t q) (queried : List ℕ) (named : AreNamed t q queried) (ds : List (Option Bool)) (c : TestCase) (known : IsTestCase t q queried ds c) where
  at_begin : (g : ℕ) → NamesByTargets q g ⊎ NamesByMoves q g → IsKnown 0 (take t.width ds) (holds_at t g) (known_of c.begin.items g)
  at_begin g h = ⊎_elim (λ n. known.targets g (named.named g n)) (λ m. known.begin g (is.by_moves g m)) h

  at_end : (g : ℕ) → NamesAtEnd q g → IsKnown t.width (drop t.width ds) (holds_at t g) (known_of c.end.items g)
  at_end g h = known.end g (is.at_end g h)

  -- an undecided test that something depends on is open
  pub waits_open : (k : ℕ) → IsWaited q c k → IsOpen ds k
  waits_open k w = ⊎_elim (λ l. front (subst (IsKnown 0 (take t.width ds) (holds_at t w.0)) l.1 (at_begin w.0 l.0))) (λ r. back (subst (IsKnown t.width (drop t.width ds) (holds_at t w.0)) r.1 (at_end w.0 r.0))) w.1
    where
      front : IsKnown 0 (take t.width ds) (holds_at t w.0) (UndecidedBy k) → IsOpen ds k
      front o = subst (IsOpen ds) (sym (o.1 ∙ zero-add o.0)) (open_front t.width ds o.0 o.2)

      back : IsKnown t.width (drop t.width ds) (holds_at t w.0) (UndecidedBy k) → IsOpen ds k
      back o = subst (IsOpen ds) (sym o.1) (open_back t.width ds o.0 o.2)

  pub guard_open : (k : ℕ) → IsWaitedBy c.begin.items q.left k ⊎ IsWaitedBy c.begin.items q.right k → IsOpen ds k
  guard_open k w =
      waits_open k
      (⊎_elim
      (λ l. (l.0.1, inl (inl (inr (l.0, inl l.1, refl)), l.2)))
      (λ r. (r.0.1, inl (inl (inr (r.0, inr r.1, refl)), r.2)))
      w)

  module _ (x : Atom) (extends : Extends ds x) where
    front_right : (g : ℕ) → NamesByTargets q g ⊎ NamesByMoves q g → (b : Bool) → known_of c.begin.items g ≡ Known b → holds_at t g (take t.width x) ≡ b
    front_right g h b e = (subst (IsKnown 0 (take t.width ds) (holds_at t g)) e (at_begin g h)) (take t.width x) (extends_front t.width ds x extends)

    back_right : (g : ℕ) → NamesAtEnd q g → (b : Bool) → known_of c.end.items g ≡ Known b → holds_at t g (drop t.width x) ≡ b
    back_right g h b e = (subst (IsKnown t.width (drop t.width ds) (holds_at t g)) e (at_end g h)) (drop t.width x) (extends_back t.width ds x extends)

    lefts : AreRight t c.begin.items (take t.width x) q.left
    lefts e h b k = front_right e.1 (inl (inr (e, inl h, refl))) b k

    rights : AreRight t c.begin.items (take t.width x) q.right
    rights e h b k = front_right e.1 (inl (inr (e, inr h, refl))) b k

    never_counts : is_excluded q c ≡ true → Counts t q (take t.width x) (drop t.width x) → ⊥
    never_counts e counts =
        excluded_never t q c (take t.width x) (drop t.width x)
        (test_value t 0 (take t.width ds) c.begin.items (take t.width x) (extends_front t.width ds x extends) q.pair_test (λ k o. at_begin k (inl (inl o))))
        (λ f h. front_right f.0 (inr (f, h, refl))) (λ f h. back_right f.1 (inl (f, h, refl))) e counts

    counts_here : DoesCount q c → Counts t q (take t.width x) (drop t.width x)
    counts_here does =
        counts_then t q c (take t.width x) (drop t.width x)
        (test_value t 0 (take t.width ds) c.begin.items (take t.width x) (extends_front t.width ds x extends) q.pair_test (λ k o. at_begin k (inl (inl o))))
        (λ f h. front_right f.0 (inr (f, h, refl))) (λ f h. back_right f.1 (inl (f, h, refl))) does

    pair_given : (p : PairParts) → Has q.action_pass.pairs p → (k : ℕ) → p.test ≡ Some k → IsKnown t.width (drop t.width ds) (holds_at t k) (known_of c.end.items k)
    pair_given p h k e = at_end k (inr (p, h, e))

    numbers_below : (also : Bool) → ArePairsBelow (length t.terms) (counting also c.end.items q.action_pass.pairs)
    numbers_below also = counting_below also c.end.items (length t.terms) q.action_pass.pairs (λ p h. let sets = is.pairs p h in (sets.0.there, sets.1.there))

    number_sets : (n : NumberPair) → Has (counting false c.end.items q.action_pass.pairs) n → IsNumberSet (length t.terms) n.left × IsNumberSet (length t.terms) n.right
    number_sets n h =
        let f = counting_has false c.end.items q.action_pass.pairs n h in
        subst (λ (m : NumberPair). IsNumberSet (length t.terms) m.left × IsNumberSet (length t.terms) m.right) f.3 (is.pairs f.0 f.1)

    -- in the plain style all pairs count
    plain_pairs : q.action_pass.style ≡ Plain → counting false c.end.items q.action_pass.pairs ≡ map only_sets q.action_pass.pairs
    plain_pairs e = counting_all false c.end.items q.action_pass.pairs (is.untested e)

    module _ (s : TargetSides) (sides : AreTargetSides c.begin.items q.left q.right s) where
      -- the pairs whose tests are surely true at the end make the sets congruent
      covered_here : AreCovered (counting false c.end.items q.action_pass.pairs) q.action_pass.universal s → IsCongruent (option_map (term_at t) q.action_pass.universal) (pairs_at (map (tested_pair_of (nodes_in t)) q.action_pass.pairs) (drop t.width x)) (chosen t q.left (take t.width x)) (chosen t q.right (take t.width x))
      covered_here m =
          congruent_more (set_pairs_of (nodes_in t) (counting false c.end.items q.action_pass.pairs)) (pairs_at (map (tested_pair_of (nodes_in t)) q.action_pass.pairs) (drop t.width x))
          (sure_are_at t t.width (drop t.width ds) c.end.items (drop t.width x) (extends_back t.width ds x extends) q.action_pass.pairs pair_given)
          (option_map (term_at t) q.action_pass.universal) (chosen t q.left (take t.width x)) (chosen t q.right (take t.width x))
          (covered_congruent t are c.begin.items (take t.width x) (counting false c.end.items q.action_pass.pairs) (numbers_below false) q.action_pass.universal q.left q.right is.left is.right lefts rights s sides m)

      -- and if all guards are settled, no other pairs are needed
      congruent_here : AreSettled c.begin.items q.left → AreSettled c.begin.items q.right → (also : Bool) → (also ≡ true) ⊎ AreTestsSettled c.end.items q.action_pass.pairs
          → IsCongruent (option_map (term_at t) q.action_pass.universal) (pairs_at (map (tested_pair_of (nodes_in t)) q.action_pass.pairs) (drop t.width x)) (chosen t q.left (take t.width x)) (chosen t q.right (take t.width x))
          → AreCovered (counting also c.end.items q.action_pass.pairs) q.action_pass.universal s
      congruent_here sl sr also settled m =
          congruent_covered t are c.begin.items (take t.width x) (counting also c.end.items q.action_pass.pairs) (numbers_below also) q.action_pass.universal q.left q.right is.left is.right lefts rights s sides is.universal sl sr
          (congruent_more (pairs_at (map (tested_pair_of (nodes_in t)) q.action_pass.pairs) (drop t.width x)) (set_pairs_of (nodes_in t) (counting also c.end.items q.action_pass.pairs))
          (at_are_counted t t.width (drop t.width ds) c.end.items (drop t.width x) (extends_back t.width ds x extends) q.action_pass.pairs pair_given also settled)
          (option_map (term_at t) q.action_pass.universal) (chosen t q.left (take t.width x)) (chosen t q.right (take t.width x)) m)

      listed_here : AreSettled c.begin.items q.left → AreSettled c.begin.items q.right → q.action_pass.style ≡ Plain → lists (counting false c.end.items q.action_pass.pairs) s.left.sure.items s.right.sure.items ≡ true
          → IsListed (set_pairs_of (nodes_in t) (map only_sets q.action_pass.pairs)) (chosen t q.left (take t.width x)) (chosen t q.right (take t.width x))
      listed_here sl sr plain e =
          subst (λ (ns : List NumberPair). IsListed (set_pairs_of (nodes_in t) ns) (chosen t q.left (take t.width x)) (chosen t q.right (take t.width x))) (plain_pairs plain)
          (listed_holds t are c.begin.items (take t.width x) q.action_pass.universal q.left q.right is.left is.right lefts rights (counting false c.end.items q.action_pass.pairs) sl sr
          (subst (λ (l : List ℕ). lists (counting false c.end.items q.action_pass.pairs) (sure_targets c.begin.items q.left) l ≡ true) sides.right.sure (subst (λ (l : List ℕ). lists (counting false c.end.items q.action_pass.pairs) l s.right.sure.items ≡ true) sides.left.sure e)))

      unlisted_here : AreSettled c.begin.items q.left → AreSettled c.begin.items q.right → q.action_pass.style ≡ Plain → option_map_or (λ u. is_sure c.begin.items q.left u && is_sure c.begin.items q.right u) q.action_pass.universal false ≡ false
          → (lists (counting false c.end.items q.action_pass.pairs) s.left.sure.items s.right.sure.items ≡ true → ⊥)
          → AreMatchedIn (nodes_in t) Plain (option_map (term_at t) q.action_pass.universal) q.action_pass.pairs (chosen t q.left (take t.width x)) (chosen t q.right (take t.width x)) (drop t.width x) → ⊥
      unlisted_here sl sr plain unsure none m =
          unlisted_fails t are c.begin.items (take t.width x) q.action_pass.universal q.left q.right is.left is.right lefts rights (counting false c.end.items q.action_pass.pairs) sl sr sides.left.ascends sides.right.ascends number_sets is.universal unsure
          (λ e. none (subst (λ (l : List ℕ). lists (counting false c.end.items q.action_pass.pairs) s.left.sure.items l ≡ true) (sym sides.right.sure) (subst (λ (l : List ℕ). lists (counting false c.end.items q.action_pass.pairs) l (sure_targets c.begin.items q.right) ≡ true) (sym sides.left.sure) e)))
          (⊎_elim (λ l. inl (subst (λ (ns : List NumberPair). IsListed (set_pairs_of (nodes_in t) ns) (chosen t q.left (take t.width x)) (chosen t q.right (take t.width x))) (sym (plain_pairs plain)) l)) inr m)

    -- a match in a style gives a match at the values
    by_style : (style : Style) → q.action_pass.style ≡ style → AreMatchedIn (nodes_in t) style (option_map (term_at t) q.action_pass.universal) q.action_pass.pairs (chosen t q.left (take t.width x)) (chosen t q.right (take t.width x)) (drop t.width x) → MatchAt t q x
    by_style style e m counts = subst (λ z. AreMatchedIn (nodes_in t) z (option_map (term_at t) q.action_pass.universal) q.action_pass.pairs (chosen t q.left (take t.width x)) (chosen t q.right (take t.width x)) (drop t.width x)) (sym e) m

  -- ---- the states

  -- the question holds if the move does not count
  pub excluded_holds : is_excluded q c ≡ true → HoldsThroughout (MatchAt t q) ds
  excluded_holds e x h counts = absurd (never_counts x h e counts)

  pub universal_match : option_map_or (λ u. is_sure c.begin.items q.left u && is_sure c.begin.items q.right u) q.action_pass.universal false ≡ true → HoldsThroughout (MatchAt t q) ds
  universal_match e x h counts = universal_holds t are c.begin.items (take t.width x) q.action_pass.universal q.left q.right is.left is.right (lefts x h) (rights x h) e q.action_pass.pairs q.action_pass.style (drop t.width x)

  module _ (s : TargetSides) (sides : AreTargetSides c.begin.items q.left q.right s) where
    settled_left : s.left.waits ≡ None → AreSettled c.begin.items q.left
    settled_left = side_settled c.begin.items q.right q.left s.left sides.left

    settled_right : s.right.waits ≡ None → AreSettled c.begin.items q.right
    settled_right = side_settled c.begin.items q.left q.right s.right sides.right

    pub matched_holds : AreSurelyMatched q.action_pass.style (counting false c.end.items q.action_pass.pairs) q.action_pass.universal s → HoldsThroughout (MatchAt t q) ds
    matched_holds e x h = go q.action_pass.style refl e
      where
        go : (style : Style) → q.action_pass.style ≡ style → AreSurelyMatched style (counting false c.end.items q.action_pass.pairs) q.action_pass.universal s → MatchAt t q x
        go Plain is_style m = by_style x h Plain is_style (inl (listed_here x h s sides (settled_left m.0.0) (settled_right m.0.1) is_style m.1))
        go UpTo is_style m = by_style x h UpTo is_style (covered_here x h s sides m.1)
        go Under is_style m = by_style x h Under is_style (covered_here x h s sides m.1)

    -- once all guards are settled and the move counts, sets that are not surely matched are not matched
    pub unmatched_fails : DoesCount q c → s.left.waits ≡ None → s.right.waits ≡ None → option_map_or (λ u. is_sure c.begin.items q.left u && is_sure c.begin.items q.right u) q.action_pass.universal false ≡ false
        → (AreSurelyMatched q.action_pass.style (counting false c.end.items q.action_pass.pairs) q.action_pass.universal s → ⊥)
        → (AreCovered (counting true c.end.items q.action_pass.pairs) q.action_pass.universal s → ⊥) ⊎ AreTestsSettled c.end.items q.action_pass.pairs → (x : Atom) → Extends ds x → MatchAt t q x → ⊥
    unmatched_fails does left right unsure never over x h match_at = go q.action_pass.style refl never (match_at (counts_here x h does))
      where
        sl : AreSettled c.begin.items q.left
        sl = settled_left left

        sr : AreSettled c.begin.items q.right
        sr = settled_right right

        uncovered : (AreCovered (counting false c.end.items q.action_pass.pairs) q.action_pass.universal s → ⊥)
            → IsCongruent (option_map (term_at t) q.action_pass.universal) (pairs_at (map (tested_pair_of (nodes_in t)) q.action_pass.pairs) (drop t.width x)) (chosen t q.left (take t.width x)) (chosen t q.right (take t.width x)) → ⊥
        uncovered none m = ⊎_elim (λ also. also (congruent_here x h s sides sl sr true (inl refl) m)) (λ settled. none (congruent_here x h s sides sl sr false (inr settled) m)) over

        alone : (s.left.alone_waits ≡ None) × (s.right.alone_waits ≡ None)
        alone = (none_alone c.begin.items q.right q.left s.left sides.left left, none_alone c.begin.items q.left q.right s.right sides.right right)

        as_style : (style : Style) → q.action_pass.style ≡ style → AreMatchedIn (nodes_in t) q.action_pass.style (option_map (term_at t) q.action_pass.universal) q.action_pass.pairs (chosen t q.left (take t.width x)) (chosen t q.right (take t.width x)) (drop t.width x)
            → AreMatchedIn (nodes_in t) style (option_map (term_at t) q.action_pass.universal) q.action_pass.pairs (chosen t q.left (take t.width x)) (chosen t q.right (take t.width x)) (drop t.width x)
        as_style style is_style m = subst (λ z. AreMatchedIn (nodes_in t) z (option_map (term_at t) q.action_pass.universal) q.action_pass.pairs (chosen t q.left (take t.width x)) (chosen t q.right (take t.width x)) (drop t.width x)) is_style m

        go : (style : Style) → q.action_pass.style ≡ style → (AreSurelyMatched style (counting false c.end.items q.action_pass.pairs) q.action_pass.universal s → ⊥)
            → AreMatchedIn (nodes_in t) q.action_pass.style (option_map (term_at t) q.action_pass.universal) q.action_pass.pairs (chosen t q.left (take t.width x)) (chosen t q.right (take t.width x)) (drop t.width x) → ⊥
        go Plain is_style none m = unlisted_here x h s sides sl sr is_style unsure (λ l. none ((left, right), l)) (as_style Plain is_style m)
        go UpTo is_style none m = uncovered (λ l. none (alone, l)) (as_style UpTo is_style m)
        go Under is_style none m = uncovered (λ l. none (alone, l)) (as_style Under is_style m)
