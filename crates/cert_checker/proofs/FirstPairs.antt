-- Whether the first pair of a certificate is the closed sides, under a test that is true at each allowed atom.
use Rattle.std.proofs.Common.{◌≡◌, ◌↔◌, ℕ, ◌+◌, inl, List, [], ◌∷◌, ◌++◌, map, length, take, drop, slice_get, refl, sym, ap, ◌∙◌, subst, arith, Bool, true, false, not, ◌&&◌, cond, nat_eq, Decides, Option, Some, None}
use Rattle.std.specs.Bool.{IsTrue}
use Rattle.std.specs.Option.{option_map, option_map_or, is_some}
use Rattle.std.specs.Cmp.Lexicographic.{pointwise}
use Rattle.std.proofs.lemmas.Bool.Decides.{Decides-eqb}
use Rattle.std.proofs.lemmas.Slice.Eq.{slice_eq-Decides}
use Rattle.std.proofs.lemmas.List.{length-take-le, length-append}
use Rattle.std.proofs.Math.Seq.{take-append_seam}
use Rattle.kat_model.specs.Trees.{Term, TestTree, one}
use Rattle.kat_model.specs.Problems.{ProblemParts}
use Rattle.kat_model.specs.Members.{Has, SameMembers}
use Rattle.kat_model.specs.Steps.{Atom, truth}
use Rattle.kat_model.specs.AllowedMoves.{IsAllowedAtom}
use Rattle.kat_model.specs.Pairs.{SetPair}
use Rattle.kat_model.specs.TestedPairs.{TestedPair}
use Rattle.term_nodes.specs.NumberSets.{NumberPair, IsNumberSet, are_below, terms_of}
use Rattle.term_nodes.proofs.Parts.{below_has, below_more}
use Rattle.kat_model.proofs.Places.{has_at}
use Rattle.term_nodes.proofs.TermTrees.{one_id_a_tree}
use Rattle.certificate.specs.declared.nodes.Style.{Style}
use Rattle.certificate.specs.declared.nodes.Style.TheVariants.{Plain, UpTo, Under}
use Rattle.certificate.specs.PairParts.{PairParts, only_sets}
use Rattle.certificate.specs.Certs.{CertParts, IsPairOf, HasItsTest, nodes_of}
use Rattle.certificate.specs.Accepted.{set_pairs, test_of, tested_pair_of, tested_pairs}
use Rattle.cert_checker.specs.NodeTables.{TableParts, AreTables, TablesGrow, IsTest, IsTerm, HasValues, term_at, holds_at, nodes_in}
use Rattle.cert_checker.specs.Targets.{AreEntries, Represent, chosen}
use Rattle.cert_checker.proofs.GrowingTables.{grows_trans}
use Rattle.cert_checker.proofs.StepSets.{represent_kept, represent_same}
use Rattle.cert_checker.proofs.TargetSets.{holds_kept}
use Rattle.cert_checker.specs.Answers.{Begins}
use Rattle.cert_checker.specs.Cases.{Extends, undecided}
use Rattle.cert_checker.specs.LeastFailures.{IsFirstFailure}
use Rattle.cert_checker.specs.Roots.{compared, counted_short}
use Rattle.cert_checker.specs.Questions.{ActionPassParts, QuestionParts, IsPosed, IsQueriedOf, AreNamed, Counts, AreMatchedIn, AreMatchedBy, MatchAt}
use Rattle.cert_checker.specs.Passes.{PassParts, IsPass, PassGrows, IsActionPass, IsAllowed}
use Rattle.cert_checker.proofs.Passes.{pass_with, turn_with}
use Rattle.cert_checker.proofs.PairPlaces.{undecided_extends, undecided_length}
use Rattle.cert_checker.proofs.CertPairs.{set_kept, test_kept, test_there}
use Rattle.cert_checker.proofs.PairTurns.{outputs_given, both_trans, by_path, matched_in_turn}
use Rattle.cert_checker.proofs.PosedQuestions.{question_of, question_posed}

-- ---- a test that is true at each allowed atom

-- the empty product under an equivalent condition
condition_represents : (t : TableParts) (es : List (ℕ × ℕ)) (f g : Atom → Bool) → ((atom : Atom) → f atom ≡ g atom) → Represent t es (λ atom. cond (f atom) (one ∷ []) []) → Represent t es (λ atom. cond (g atom) (one ∷ []) [])
condition_represents t es f g same s =
    represent_same t es (λ atom. cond (f atom) (one ∷ []) []) (λ atom. cond (g atom) (one ∷ []) []) s
    (λ atom. subst (λ b. SameMembers (cond (f atom) (one ∷ []) []) (cond b (one ∷ []) [])) (same atom) (λ x. ((λ h. h), (λ h. h))))

-- The question is whether the sets under two conditions are the same at each allowed atom, and the second condition is
-- always true. It has no failure if and only if the first condition is true at each allowed atom.
module _ (p : PassParts) (pass : IsPass p) (action_pass : ActionPassParts) (is : IsActionPass p action_pass) (none : action_pass.action ≡ None) (left right : List (ℕ × ℕ)) (queried : List ℕ) (f g : Atom → Bool)
    (own : Represent p.tables left (λ atom. cond (f atom) (one ∷ []) [])) (other : Represent p.tables right (λ atom. cond (g atom) (one ∷ []) [])) (sure : (atom : Atom) → g atom ≡ true) where
  abbrev HoldsAllowedly : Type 0
  HoldsAllowedly = (atom : Atom) → length atom ≡ p.tables.width → IsAllowedAtom (counted_short p.cert.style p.problem) atom → IsTrue (f atom)

  abbrev the_question : QuestionParts
  the_question = question_of p.tables action_pass None left right queried

  mean : (atom to : Atom) → ((h : ℕ × ℕ) → Has action_pass.forbidden h → (holds_at p.tables h.0 atom && holds_at p.tables h.1 to) ≡ false) ↔ IsAllowed (counted_short p.cert.style p.problem) None atom to
  mean = subst (λ o. (atom to : Atom) → ((h : ℕ × ℕ) → Has action_pass.forbidden h → (holds_at p.tables h.0 atom && holds_at p.tables h.1 to) ≡ false) ↔ IsAllowed (counted_short p.cert.style p.problem) o atom to) none is.forbidden.mean

  given : (atom to : Atom) → AreMatchedBy p.tables the_question (chosen p.tables left atom) (chosen p.tables right atom) to ↔ (f atom ≡ g atom)
  given atom to =
      both_trans (by_path (matched_in_turn p pass action_pass is (chosen p.tables left atom) (chosen p.tables right atom) to))
      (subst (λ o. AreMatchedIn (nodes_in p.tables) (option_map_or (λ a. p.cert.style) o UpTo) (option_map (term_at p.tables) (option_map_or (λ a. p.universal) o None)) (option_map_or (λ a. p.cert.pairs) o []) (chosen p.tables left atom) (chosen p.tables right atom) to ↔ (f atom ≡ g atom)) (sym none)
      (outputs_given p.tables left right f g own other atom to))

  found : (o : Option Atom) → IsFirstFailure (MatchAt p.tables the_question) (undecided (p.tables.width + p.tables.width)) o → (o ≡ None) ↔ HoldsAllowedly
  found None h = (
    (λ e atom l allowed.
        let front : take p.tables.width (atom ++ atom) ≡ atom = ap (λ n. take n (atom ++ atom)) (sym l) ∙ take-append_seam atom atom in
        let counts : Counts p.tables the_question (take p.tables.width (atom ++ atom)) (drop p.tables.width (atom ++ atom)) =
        record { pair_test = refl; free = (mean (take p.tables.width (atom ++ atom)) (drop p.tables.width (atom ++ atom))).1 (subst (IsAllowedAtom (counted_short p.cert.style p.problem)) (sym front) allowed) } in
        let there : Extends (undecided (p.tables.width + p.tables.width)) (atom ++ atom) = undecided_extends (p.tables.width + p.tables.width) (atom ++ atom) (omega (arith, l, length-append atom atom)) in
        ap f (sym front) ∙ (given (take p.tables.width (atom ++ atom)) (drop p.tables.width (atom ++ atom))).0 (h (atom ++ atom) there counts) ∙ sure (take p.tables.width (atom ++ atom))),
    (λ all. refl),
  )
  found (Some x) h = (
    (λ e. absurd cc),
    (λ all.
        let wide : length x ≡ p.tables.width + p.tables.width = undecided_length (p.tables.width + p.tables.width) x h.within in
        let long : length (take p.tables.width x) ≡ p.tables.width = length-take-le p.tables.width x (omega (arith, wide)) in
        absurd (h.fails (λ counts. (given (take p.tables.width x) (drop p.tables.width x)).1 (all (take p.tables.width x) long ((mean (take p.tables.width x) (drop p.tables.width x)).0 counts.free) ∙ sym (sure (take p.tables.width x)))))),
  )

  throughout : {X : Type 0} (v : X → Atom) (o : Option X) (b : Bool) → is_some o ≡ not b → IsFirstFailure (MatchAt p.tables the_question) (undecided (p.tables.width + p.tables.width)) (option_map v o) → IsTrue b ↔ HoldsAllowedly
  throughout v None true e h = ((λ s. (found None h).0 refl), (λ all. refl))
  throughout v None false e h = absurd cc
  throughout v (Some x) true e h = absurd cc
  throughout v (Some x) false e h = ((λ s. absurd cc), (λ all. let none : Some (v x) ≡ None = (found (Some (v x)) h).1 all in absurd cc))

-- an action's pass and the two sets add nodes to the tables
module _ (old p : PassParts) (grows : PassGrows old p) (begun : IsPass p) (second third last : TableParts) (to_second : TablesGrow p.tables second) (to_third : TablesGrow second third) (to_last : TablesGrow third last) (action_pass : ActionPassParts) (is : IsActionPass p action_pass)
    (none : action_pass.action ≡ None) (test always : ℕ) (there : IsTest old.tables test) (sure : HasValues second (λ atom. true) always) (left right : List (ℕ × ℕ))
    (own : Represent third left (λ atom. cond (holds_at second test atom) (one ∷ []) [])) (other : Represent last right (λ atom. cond (holds_at third always atom) (one ∷ []) [])) where
  to_end : TablesGrow p.tables last
  to_end = grows_trans p.tables second last to_second (grows_trans second third last to_third to_last)

  ended : IsPass (record p { tables = last })
  ended = pass_with p last to_end begun

  turns : IsActionPass (record p { tables = last }) action_pass
  turns = turn_with p last to_end action_pass begun is

  lefts : Represent last left (λ atom. cond (holds_at old.tables test atom) (one ∷ []) [])
  lefts =
      condition_represents last left (holds_at second test) (holds_at old.tables test) (λ atom. holds_kept old.tables second grows.tables.was (grows_trans old.tables p.tables second grows.tables to_second) test atom there)
      (represent_kept third last to_last.was to_last left (λ atom. cond (holds_at second test atom) (one ∷ []) []) own)

  pub throughout_entries : AreEntries last left
  throughout_entries = lefts.entries

  pub throughout_posed : (q : QuestionParts) → IsQueriedOf last action_pass None left right q → AreNamed last q q.queried → IsPosed q
  throughout_posed q e named = question_posed (record p { tables = last }) ended action_pass turns q None left right e named (λ k s. absurd cc) lefts.entries other.entries

  pub throughout_given : (q : QuestionParts) → IsQueriedOf last action_pass None left right q → {X : Type 0} (v : X → Atom) (o : Option X) (b : Bool) → is_some o ≡ not b → IsFirstFailure (MatchAt q.tables q) (undecided (last.width + last.width)) (option_map v o)
      → IsTrue b ↔ ((atom : Atom) → length atom ≡ old.problem.tests → IsAllowedAtom (counted_short old.cert.style old.problem) atom → IsTrue (holds_at old.tables test atom))
  throughout_given q e v o b same found =
      subst (λ (z : PassParts). IsTrue b ↔ ((atom : Atom) → length atom ≡ z.problem.tests → IsAllowedAtom (counted_short z.cert.style z.problem) atom → IsTrue (holds_at old.tables test atom))) grows.same
      (subst (λ n. IsTrue b ↔ ((atom : Atom) → length atom ≡ n → IsAllowedAtom (counted_short p.cert.style p.problem) atom → IsTrue (holds_at old.tables test atom))) ended.nodes.width
      (throughout (record p { tables = last }) ended action_pass turns none left right q.queried (holds_at old.tables test) (holds_at third always) lefts other (λ atom. holds_kept second third to_third.was to_third always atom sure.0 ∙ sure.1 atom) v o b same
      (subst (λ (z : QuestionParts). IsFirstFailure (MatchAt z.tables z) (undecided (last.width + last.width)) (option_map v o)) e found)))

-- ---- sets of one term

-- the meaning of `!=` for two sets
pub sets_differ : (ks ls : List ℕ) (r : Bool) → r ≡ not (pointwise nat_eq ks ls) → (r ≡ true → ks ≡ ls → ⊥) × (r ≡ false → ks ≡ ls)
sets_differ ks ls r e = go (pointwise nat_eq ks ls) (slice_eq-Decides Decides-eqb ks ls (pointwise nat_eq ks ls) refl) e
  where
    go : (d : Bool) → Decides d (ks ≡ ls) → r ≡ not d → (r ≡ true → ks ≡ ls → ⊥) × (r ≡ false → ks ≡ ls)
    go true gives is = ((λ yes same. let bad : false ≡ true = sym is ∙ yes in absurd cc), (λ no. gives.0 refl))
    go false gives is = ((λ yes same. let bad : false ≡ true = gives.1 same in absurd cc), (λ no. let bad : true ≡ false = sym is ∙ no in absurd cc))

-- a set consists of one term if and only if it contains only the number of this term
pub single_given : (t : TableParts) → AreTables t → (ks : List ℕ) → are_below (length t.terms) ks ≡ true → (k : ℕ) → IsTerm t k → (e : Term) → term_at t k ≡ e → (ks ≡ k ∷ []) ↔ (terms_of (nodes_in t) ks ≡ e ∷ [])
single_given t are ks low k there e tree = ((λ s. ap (terms_of (nodes_in t)) s ∙ ap (λ (x : Term). x ∷ []) tree), back ks low)
  where
    back : (ls : List ℕ) → are_below (length t.terms) ls ≡ true → terms_of (nodes_in t) ls ≡ e ∷ [] → ls ≡ k ∷ []
    back [] b s = absurd cc
    back (l ∷ m ∷ ls) b s = absurd cc
    back (l ∷ []) b s =
        let same : term_at t l ≡ e = cc in
        ap (λ (j : ℕ). j ∷ []) (one_id_a_tree (nodes_in t) are.rules l k (below_has (length t.terms) (l ∷ []) b l (inl refl)) there (same ∙ sym tree))

-- ---- the first pair

pub under_only : (s : Style) (n k : ℕ) → HasItsTest s n (Some k) → s ≡ Under
under_only Plain n k h = absurd cc
under_only UpTo n k h = absurd cc
under_only Under n k h = refl

pub never_under : (s : Style) (n : ℕ) → HasItsTest s n None → s ≡ Under → ⊥
never_under Plain n h e = absurd cc
never_under UpTo n h e = absurd cc
never_under Under n h e = let none : None ≡ Some h.0 = h.1 in absurd cc

module _ (q : ProblemParts) (c : CertParts) (p : PairParts) (first : slice_get c.pairs 0 ≡ Some p) where
  -- the test of the pair is true at each atom that a style allows
  abbrev pub HoldsAllowed : Style → Type 0
  HoldsAllowed s = (atom : Atom) → length atom ≡ q.tests → IsAllowedAtom (counted_short s q) atom → IsTrue (truth (test_of (nodes_of c) p.test) atom)

  rest : (ps : List PairParts) × (c.pairs ≡ p ∷ ps)
  rest = go c.pairs first
    where
      go : (ps : List PairParts) → slice_get ps 0 ≡ Some p → (rs : List PairParts) × (ps ≡ p ∷ rs)
      go [] e = absurd cc
      go (r ∷ rs) e = let same : r ≡ p = cc in (rs, ap (λ (z : PairParts). z ∷ rs) same)

  abbrev other_sets : List SetPair
  other_sets = map (λ (n : NumberPair). record { left = terms_of (nodes_of c) n.left; right = terms_of (nodes_of c) n.right }) (map only_sets rest.0)

  sets_split : set_pairs c ≡ record { left = terms_of (nodes_of c) p.left; right = terms_of (nodes_of c) p.right } ∷ other_sets
  sets_split = ap (λ (ps : List PairParts). map (λ (n : NumberPair). record { left = terms_of (nodes_of c) n.left; right = terms_of (nodes_of c) n.right }) (map only_sets ps)) rest.1

  tested_split : tested_pairs c ≡ tested_pair_of (nodes_of c) p ∷ map (tested_pair_of (nodes_of c)) rest.0
  tested_split = ap (map (tested_pair_of (nodes_of c))) rest.1

  module _ (e f : Term) where
    sides_from : terms_of (nodes_of c) p.left ≡ e ∷ [] → terms_of (nodes_of c) p.right ≡ f ∷ [] → set_pairs c ≡ record { left = e ∷ []; right = f ∷ [] } ∷ other_sets
    sides_from left right = sets_split ∙ (λ i. record { left = left i; right = right i } ∷ other_sets)

    tested_from : terms_of (nodes_of c) p.left ≡ e ∷ [] → terms_of (nodes_of c) p.right ≡ f ∷ [] → tested_pairs c ≡ record { sets = record { left = e ∷ []; right = f ∷ [] }; test = test_of (nodes_of c) p.test } ∷ map (tested_pair_of (nodes_of c)) rest.0
    tested_from left right = tested_split ∙ (λ i. record { sets = record { left = left i; right = right i }; test = test_of (nodes_of c) p.test } ∷ map (tested_pair_of (nodes_of c)) rest.0)

    heads : (ps : List SetPair) → set_pairs c ≡ record { left = e ∷ []; right = f ∷ [] } ∷ ps → (terms_of (nodes_of c) p.left ≡ e ∷ []) × (terms_of (nodes_of c) p.right ≡ f ∷ [])
    heads ps b =
        let same : ◌≡◌ {A = SetPair} (record { left = terms_of (nodes_of c) p.left; right = terms_of (nodes_of c) p.right }) (record { left = e ∷ []; right = f ∷ [] }) = cc (sym sets_split ∙ b) in
        (ap (λ (z : SetPair). z.left) same, ap (λ (z : SetPair). z.right) same)

    tested_heads : (test : TestTree) (ps : List TestedPair) → tested_pairs c ≡ record { sets = record { left = e ∷ []; right = f ∷ [] }; test = test } ∷ ps → tested_pair_of (nodes_of c) p ≡ record { sets = record { left = e ∷ []; right = f ∷ [] }; test = test }
    tested_heads test ps b = cc (sym tested_split ∙ b)

  pub begins_from : (s : Style) → terms_of (nodes_of c) p.left ≡ (compared s q).left ∷ [] → terms_of (nodes_of c) p.right ≡ (compared s q).right ∷ [] → (s ≡ Under → HoldsAllowed s) → Begins s q c
  begins_from Plain left right holds = (other_sets, sides_from (compared Plain q).left (compared Plain q).right left right)
  begins_from UpTo left right holds = (other_sets, sides_from (compared UpTo q).left (compared UpTo q).right left right)
  begins_from Under left right holds = (test_of (nodes_of c) p.test, map (tested_pair_of (nodes_of c)) rest.0, tested_from (compared Under q).left (compared Under q).right left right, holds refl)

  pub begins_sides : (s : Style) → Begins s q c → (terms_of (nodes_of c) p.left ≡ (compared s q).left ∷ []) × (terms_of (nodes_of c) p.right ≡ (compared s q).right ∷ [])
  begins_sides Plain b = heads (compared Plain q).left (compared Plain q).right b.0 b.1
  begins_sides UpTo b = heads (compared UpTo q).left (compared UpTo q).right b.0 b.1
  begins_sides Under b =
      let same = tested_heads (compared Under q).left (compared Under q).right b.0 b.1 b.2 in
      (ap (λ (z : TestedPair). z.sets.left) same, ap (λ (z : TestedPair). z.sets.right) same)

  pub begins_holds : (s : Style) → s ≡ Under → Begins s q c → HoldsAllowed s
  begins_holds Plain e b = absurd cc
  begins_holds UpTo e b = absurd cc
  begins_holds Under e b = λ atom l allowed.
      let same = tested_heads (compared Under q).left (compared Under q).right b.0 b.1 b.2 in
      ap (λ (z : TestedPair). truth z.test atom) same ∙ b.3 atom l allowed

module _ (p : PassParts) (pass : IsPass p) (r : PairParts) (first : slice_get p.cert.pairs 0 ≡ Some r) where
  pair : IsPairOf p.cert r
  pair = pass.cert.pairs r (has_at p.cert.pairs 0 r first)

  set_given : (ks : List ℕ) → IsNumberSet (length p.cert.term_nodes) ks → (k : ℕ) → IsTerm p.tables k → (e : Term) → term_at p.tables k ≡ e → (ks ≡ k ∷ []) ↔ (terms_of (nodes_of p.cert) ks ≡ e ∷ [])
  set_given ks s k there e tree =
      let low : are_below (length p.tables.terms) ks ≡ true = below_more (length p.cert.term_nodes) (length p.tables.terms) ks (omega (arith, pass.count, pass.there)) s.there in
      subst (λ (ts : List Term). (ks ≡ k ∷ []) ↔ (ts ≡ e ∷ [])) (set_kept p.problem p.cert pass.cert p.tables pass.nodes ks s.there) (single_given p.tables pass.nodes.sound ks low k there e tree)

  left_given : (r.left ≡ p.left ∷ []) ↔ (terms_of (nodes_of p.cert) r.left ≡ (compared p.cert.style p.problem).left ∷ [])
  left_given = set_given r.left pair.left p.left pass.roots.sides.left_there (compared p.cert.style p.problem).left pass.roots.sides.left

  right_given : (r.right ≡ p.right ∷ []) ↔ (terms_of (nodes_of p.cert) r.right ≡ (compared p.cert.style p.problem).right ∷ [])
  right_given = set_given r.right pair.right p.right pass.roots.sides.right_there (compared p.cert.style p.problem).right pass.roots.sides.right

  pub other_left : (r.left ≡ p.left ∷ [] → ⊥) → Begins p.cert.style p.problem p.cert → ⊥
  other_left never b = never (left_given.1 (begins_sides p.problem p.cert r first p.cert.style b).0)

  pub other_right : (r.right ≡ p.right ∷ [] → ⊥) → Begins p.cert.style p.problem p.cert → ⊥
  other_right never b = never (right_given.1 (begins_sides p.problem p.cert r first p.cert.style b).1)

  module _ (left : r.left ≡ p.left ∷ []) (right : r.right ≡ p.right ∷ []) where
    pub begins_untested : r.test ≡ None → Begins p.cert.style p.problem p.cert
    begins_untested e =
        begins_from p.problem p.cert r first p.cert.style (left_given.0 left) (right_given.0 right)
        (λ u. absurd (never_under p.cert.style (length p.cert.test_nodes) (subst (HasItsTest p.cert.style (length p.cert.test_nodes)) e pair.test) u))

    pub begins_tested : (test : ℕ) → r.test ≡ Some test → ((atom : Atom) → length atom ≡ p.problem.tests → IsAllowedAtom (counted_short p.cert.style p.problem) atom → IsTrue (holds_at p.tables test atom)) ↔ Begins p.cert.style p.problem p.cert
    begins_tested test e = (
      (λ h. begins_from p.problem p.cert r first p.cert.style (left_given.0 left) (right_given.0 right) (λ u atom l allowed. sym (same atom) ∙ h atom l allowed)),
      (λ b atom l allowed. same atom ∙ begins_holds p.problem p.cert r first p.cert.style (under_only p.cert.style (length p.cert.test_nodes) test (subst (HasItsTest p.cert.style (length p.cert.test_nodes)) e pair.test)) b atom l allowed),
    )
      where
        same : (atom : Atom) → holds_at p.tables test atom ≡ truth (test_of (nodes_of p.cert) r.test) atom
        same atom =
            ap (λ (o : Option ℕ). truth (test_of (nodes_in p.tables) o) atom) (sym e)
            ∙ ap (λ (b : TestTree). truth b atom) (test_kept p.problem p.cert pass.cert p.tables pass.nodes r.test (test_there p.problem p.cert pass.cert p.tables pass.nodes p.cert.style (length p.cert.test_nodes) r.test pair.test))
