-- Lists of guards and of targets, one for each of the first terms of the tables, and the targets of a set.
use Rattle.std.proofs.Common.{◌≡◌, Bool, inr, ℕ, ◌<◌, ◌≤◌, ◌⊎◌, length-append, ⊎_elim, List, [], ◌∷◌, ◌++◌, length, get_or, map, slice_get, refl, sym, ap, ◌∙◌, subst, arith, true, false, cond, ltb-true, nat_lt, Some, append_assoc, append-nil, zero, suc, inl, ◌||◌, Option, None}
use Rattle.std.specs.Option.{option_map}
use Rattle.std.proofs.lemmas.Bool.{and_parts}
use Rattle.std.proofs.lemmas.Option.{slice_get_within, slice_get_read, slice_get-map, slice_get-get_or}
use Rattle.kat_model.specs.Trees.{Term, sum, product, star, one}
use Rattle.kat_model.specs.Members.{Has, SameMembers}
use Rattle.kat_model.specs.Steps.{Atom, dot, out, next, set_out, set_next}
use Rattle.kat_model.proofs.Lists.{same_members_trans}
use Rattle.kat_model.proofs.Places.{slice_get_last}
use Rattle.term_nodes.specs.declared.TermNode.{TermNode}
use Rattle.term_nodes.specs.declared.TermNode.TheVariants.{Zero, One, Test, Act, Star}
use Rattle.term_nodes.specs.NumberSets.{are_below, terms_of}
use Rattle.term_nodes.specs.NodeTrees.{tree_in}
use Rattle.cert_checker.specs.NodeTables.{TableParts, AreTables, TablesGrow, TestsGrow, IsTest, IsTerm, HasValues, term_at, nodes_in, holds_at}
use Rattle.cert_checker.specs.Targets.{chosen, AreEntries, Represent, AreAcceptances, AreSteps, HasNoneElsewhere, leads_to, set_leads_to}
use Rattle.cert_checker.proofs.TargetSets.{holds_kept, test_within, chosen_kept}
use Rattle.cert_checker.proofs.StepSets.{append_same, acceptances_kept, steps_kept, represent_same, star_same, product_same}
use Rattle.cert_checker.proofs.GrowingTables.{tests_trans}
use Rattle.cert_checker.proofs.AddingTargets.{gathered}

-- ---- the numbers of a list

pub below_at : (n : ℕ) (ks : List ℕ) (i d : ℕ) → are_below n ks ≡ true → i < length ks → get_or ks i d < n
below_at n [] i d e h = absurd (omega (arith, h))
below_at n (k ∷ ks) zero d e h = ltb-true k n (and_parts (nat_lt k n) (are_below n ks) e).0
below_at n (k ∷ ks) (suc i) d e h = below_at n ks i d (and_parts (nat_lt k n) (are_below n ks) e).1 (omega (arith, h))

-- ---- an additional element of each list

module _ (t new : TableParts) (are : AreTables t) (grows : TablesGrow t new) where
  pub acceptances_more : (guards : List ℕ) (g : ℕ) → AreAcceptances t guards → length guards < length t.terms → HasValues new (out (term_at t (length guards))) g → AreAcceptances new (guards ++ g ∷ [])
  acceptances_more guards g was low given k h e =
      ⊎_elim
      (λ old. acceptances_kept t new are grows guards within was k h old)
      (λ last. subst (HasValues new (out (term_at new k))) last.1 (given.0, (λ atom. given.1 atom ∙ ap (λ x. out x atom) (sym (grows.nodes.trees (length guards) low) ∙ ap (term_at new) (sym last.0)))))
      (slice_get_last guards g k h e)
    where
      within : (k h : ℕ) → slice_get guards k ≡ Some h → IsTerm t k
      within k h e = let here : k < length guards = slice_get_within guards k h e in omega (arith, here, low)

  pub steps_more : (action : Option ℕ) (Among : ℕ → Type 0) (steps : List (List (ℕ × ℕ))) (es : List (ℕ × ℕ)) → AreSteps t action Among steps → length steps < length t.terms → (Among (length steps) → Represent new es (leads_to action (term_at t (length steps)))) → AreSteps new action Among (steps ++ es ∷ [])
  steps_more action Among steps es was low represents k fs m e =
      ⊎_elim
      (λ old. steps_kept t new are grows action Among steps within was k fs m old)
      (λ last.
      subst (λ l. Represent new l (leads_to action (term_at new k))) last.1
      (subst (λ j. Represent new es (leads_to action j)) (sym (grows.nodes.trees (length steps) low) ∙ ap (term_at new) (sym last.0)) (represents (subst Among last.0 m))))
      (slice_get_last steps es k fs e)
    where
      within : (k : ℕ) (fs : List (ℕ × ℕ)) → slice_get steps k ≡ Some fs → IsTerm t k
      within k fs e = let here : k < length steps = slice_get_within steps k fs e in omega (arith, here, low)

  pub all_accept : (guards : List ℕ) → length guards ≤ length t.terms → AreAcceptances t guards → AreAcceptances new guards
  all_accept guards low was = acceptances_kept t new are grows guards (λ k h e. let here : k < length guards = slice_get_within guards k h e in omega (arith, here, low)) was

  pub all_step : (action : Option ℕ) (Among : ℕ → Type 0) (steps : List (List (ℕ × ℕ))) → length steps ≤ length t.terms → AreSteps t action Among steps → AreSteps new action Among steps
  all_step action Among steps low was = steps_kept t new are grows action Among steps (λ k es e. let here : k < length steps = slice_get_within steps k es e in omega (arith, here, low)) was

pub none_more : (marks : List Bool) (steps : List (List (ℕ × ℕ))) (es : List (ℕ × ℕ)) → HasNoneElsewhere marks steps → (slice_get marks (length steps) ≡ Some false → es ≡ []) → HasNoneElsewhere marks (steps ++ es ∷ [])
none_more marks steps es was here k fs m e =
    ⊎_elim (λ old. was k fs m old) (λ last. sym last.1 ∙ here (subst (λ j. slice_get marks j ≡ Some false) last.0 m)) (slice_get_last steps es k fs e)

-- ---- the targets of a set

-- the empty product under two conditions is the empty product under their disjunction
one_more : (a b : Bool) → SameMembers (cond a (one ∷ []) [] ++ cond b (one ∷ []) []) (cond (a || b) (one ∷ []) [])
one_more true true x = ((λ h. ⊎_elim inl (λ r. r) h), (λ h. inr h))
one_more true false x = ((λ h. h), (λ h. h))
one_more false true x = ((λ h. h), (λ h. h))
one_more false false x = ((λ h. h), (λ h. h))

lead_more : (action : Option ℕ) (e : Term) (es : List Term) (atom : Atom) → SameMembers (leads_to action e atom ++ set_leads_to action es atom) (set_leads_to action (e ∷ es) atom)
lead_more None e es atom x = one_more (out e atom) (set_out es atom) x
lead_more (Some a) e es atom x = ((λ h. h), (λ h. h))

no_members_lead : (action : Option ℕ) (atom : Atom) → set_leads_to action [] atom ≡ []
no_members_lead None atom = refl
no_members_lead (Some a) atom = refl

-- the targets of some members were added; the other members are left
pub record IsGathering (first now : TableParts) (action : Option ℕ) (always : ℕ) (targets : List (ℕ × ℕ)) (rest all : List ℕ) : Type 0 where
  pub grows : TestsGrow first now
  pub test : IsTest now always
  pub sure : (atom : Atom) → holds_at now always atom ≡ true
  pub entries : AreEntries now targets
  pub left : (k : ℕ) → Has rest k → Has all k
  pub same : (atom : Atom) → SameMembers (chosen now targets atom ++ set_leads_to action (terms_of (nodes_in first) rest) atom) (set_leads_to action (terms_of (nodes_in first) all) atom)

pub gathering_begins : (first now : TableParts) (action : Option ℕ) (always : ℕ) (targets : List (ℕ × ℕ)) (set : List ℕ) → targets ≡ [] → TestsGrow first now → IsTest now always → ((atom : Atom) → holds_at now always atom ≡ true) → IsGathering first now action always targets set set
gathering_begins first now action always targets set none grows test sure = record {
  grows = grows;
  test = test;
  sure = sure;
  entries = λ e h. absurd (subst (λ l. Has l e) none h);
  left = λ k h. h;
  same = λ atom. subst (λ (l : List (ℕ × ℕ)). SameMembers (chosen now l atom ++ set_leads_to action (terms_of (nodes_in first) set) atom) (set_leads_to action (terms_of (nodes_in first) set) atom)) (sym none) (λ x. ((λ h. h), (λ h. h)));
}

module _ (first now last : TableParts) (action : Option ℕ) (always : ℕ) (targets new : List (ℕ × ℕ)) (rest all : List ℕ) (k : ℕ) (es : List (ℕ × ℕ)) where
  pub gathering_more : IsGathering first now action always targets (k ∷ rest) all → Represent first es (leads_to action (term_at first k)) → TestsGrow now last
      → Represent last new (λ atom. chosen now targets atom ++ cond (holds_at now always atom) (chosen now es atom) []) → IsGathering first last action always new rest all
  gathering_more g step to_last represents = record {
    grows = tests_trans first now last g.grows to_last;
    test = test_within now last to_last.grows.was to_last.grows always g.test;
    sure = λ atom. holds_kept now last to_last.grows.was to_last.grows always atom g.test ∙ g.sure atom;
    entries = represents.entries;
    left = λ j h. g.left j (inr h);
    same = λ atom. same_members_trans (chosen last new atom ++ rest_leads atom) (chosen now targets atom ++ set_leads_to action (terms_of (nodes_in first) (k ∷ rest)) atom) (set_leads_to action (terms_of (nodes_in first) all) atom) (gain atom) (g.same atom);
  }
    where
      rest_leads : Atom → List Term
      rest_leads atom = set_leads_to action (terms_of (nodes_in first) rest) atom

      here : Atom → List Term
      here atom = leads_to action (term_at first k) atom

      more : Represent last new (λ atom. chosen now targets atom ++ chosen first es atom)
      more = gathered first now last targets new es always g.grows.grows step.entries g.sure represents

      itself : (xs : List Term) → SameMembers xs xs
      itself xs x = ((λ h. h), (λ h. h))

      given : (atom : Atom) → SameMembers (chosen last new atom) (chosen now targets atom ++ here atom)
      given atom = same_members_trans (chosen last new atom) (chosen now targets atom ++ chosen first es atom) (chosen now targets atom ++ here atom) (more.same atom)
          (append_same (chosen now targets atom) (chosen now targets atom) (chosen first es atom) (here atom) (itself (chosen now targets atom)) (step.same atom))

      apart : (atom : Atom) → SameMembers (chosen last new atom ++ rest_leads atom) (chosen now targets atom ++ (here atom ++ rest_leads atom))
      apart atom =
          subst (SameMembers (chosen last new atom ++ rest_leads atom)) (append_assoc (chosen now targets atom) (here atom) (rest_leads atom))
          (append_same (chosen last new atom) (chosen now targets atom ++ here atom) (rest_leads atom) (rest_leads atom) (given atom) (itself (rest_leads atom)))

      gain : (atom : Atom) → SameMembers (chosen last new atom ++ rest_leads atom) (chosen now targets atom ++ set_leads_to action (terms_of (nodes_in first) (k ∷ rest)) atom)
      gain atom = same_members_trans (chosen last new atom ++ rest_leads atom) (chosen now targets atom ++ (here atom ++ rest_leads atom)) (chosen now targets atom ++ set_leads_to action (terms_of (nodes_in first) (k ∷ rest)) atom) (apart atom)
          (append_same (chosen now targets atom) (chosen now targets atom) (here atom ++ rest_leads atom) (set_leads_to action (terms_of (nodes_in first) (k ∷ rest)) atom) (itself (chosen now targets atom)) (lead_more action (term_at first k) (terms_of (nodes_in first) rest) atom))

pub gathering_ends : (first now : TableParts) (action : Option ℕ) (always : ℕ) (targets : List (ℕ × ℕ)) (rest all : List ℕ) → rest ≡ [] → IsGathering first now action always targets rest all → Represent now targets (set_leads_to action (terms_of (nodes_in first) all))
gathering_ends first now action always targets [] all e g = record {
  entries = g.entries;
  same = λ atom. subst (λ l. SameMembers l (set_leads_to action (terms_of (nodes_in first) all) atom)) (ap (λ l. chosen now targets atom ++ l) (no_members_lead action atom) ∙ append-nil (chosen now targets atom)) (g.same atom);
}
gathering_ends first now action always targets (k ∷ rest) all e g = absurd cc

-- ---- the element at a place

pub read_map : {X Y : Type 0} (v : X → Y) (xs : List X) (i : ℕ) (x : X) → i < length xs → x ≡ get_or xs i x → slice_get (map v xs) i ≡ Some (v x)
read_map v xs i x low is = slice_get-map v xs i ∙ ap (option_map v) (slice_get_read xs (length xs) i x refl low is)

pub accept_at : (t : TableParts) (guards : List ℕ) (k : ℕ) → AreAcceptances t guards → k < length guards → IsTest t (get_or guards k 0) × ((atom : Atom) → holds_at t (get_or guards k 0) atom ≡ out (term_at t k) atom)
accept_at t guards k are low = are k (get_or guards k 0) (slice_get-get_or guards k 0 low)

-- ---- the targets of a node

pub nothing_represents : (t : TableParts) (es : List (ℕ × ℕ)) (f : Atom → List Term) → es ≡ [] → ((atom : Atom) → f atom ≡ []) → Represent t es f
nothing_represents t es f none nothing = record {
  entries = λ e h. absurd (subst (λ l. Has l e) none h);
  same = λ atom. subst (λ (l : List (ℕ × ℕ)). SameMembers (chosen t l atom) (f atom)) (sym none) (subst (SameMembers []) (sym (nothing atom)) (λ x. ((λ h. h), (λ h. h))));
}

pub sum_represents : (new : TableParts) (es : List (ℕ × ℕ)) (e f : Term) (a : ℕ) → Represent new es (λ atom. set_next (e ∷ f ∷ []) atom a) → Represent new es (λ atom. next (sum e f) atom a)
sum_represents new es e f a s =
    represent_same new es (λ atom. set_next (e ∷ f ∷ []) atom a) (λ atom. next (sum e f) atom a) s
    (λ atom. subst (SameMembers (next e atom a ++ (next f atom a ++ []))) (ap (λ l. next e atom a ++ l) (append-nil (next f atom a))) (λ x. ((λ h. h), (λ h. h))))

pub star_represents : (t new : TableParts) (x k a : ℕ) (first es : List (ℕ × ℕ)) → term_at t k ≡ star (term_at t x) → Represent t first (λ atom. next (term_at t x) atom a) → Represent new es (λ atom. map (λ x. dot x (term_at t k)) (chosen t first atom)) → Represent new es (λ atom. next (term_at t k) atom a)
star_represents t new x k a first es tree step s =
    subst (λ e. Represent new es (λ atom. next e atom a)) (sym tree)
    (represent_same new es (λ atom. map (λ y. dot y (star (term_at t x))) (chosen t first atom)) (λ atom. next (star (term_at t x)) atom a)
    (subst (λ e. Represent new es (λ atom. map (λ y. dot y e) (chosen t first atom))) tree s)
    (λ atom. star_same (term_at t x) atom a (chosen t first atom) (step.same atom)))

pub product_represents : (t mid new : TableParts) (x y a guard : ℕ) (left right begun es : List (ℕ × ℕ)) → AreTables t → TablesGrow t mid → Represent t left (λ atom. next (term_at t x) atom a) → Represent t right (λ atom. next (term_at t y) atom a)
    → IsTest t guard → ((atom : Atom) → holds_at t guard atom ≡ out (term_at t x) atom)
    → Represent mid begun (λ atom. map (λ z. dot z (term_at t y)) (chosen t left atom)) → Represent new es (λ atom. chosen mid begun atom ++ cond (holds_at mid guard atom) (chosen mid right atom) [])
    → Represent new es (λ atom. next (product (term_at t x) (term_at t y)) atom a)
product_represents t mid new x y a guard left right begun es are grows first second test accepts from_first s =
    represent_same new es (λ atom. chosen mid begun atom ++ cond (holds_at mid guard atom) (chosen mid right atom) []) (λ atom. next (product (term_at t x) (term_at t y)) atom a) s
    (λ atom. same_members_trans (chosen mid begun atom ++ cond (holds_at mid guard atom) (chosen mid right atom) []) (map (λ z. dot z (term_at t y)) (chosen t left atom) ++ cond (holds_at mid guard atom) (chosen mid right atom) []) (next (product (term_at t x) (term_at t y)) atom a)
    (append_same (chosen mid begun atom) (map (λ z. dot z (term_at t y)) (chosen t left atom)) _ (cond (holds_at mid guard atom) (chosen mid right atom) []) (from_first.same atom) (λ z. ((λ h. h), (λ h. h))))
    (product_same (term_at t x) (term_at t y) atom a (holds_at mid guard atom) (chosen t left atom) (chosen mid right atom) (first.same atom)
    (subst (λ l. SameMembers l (next (term_at t y) atom a)) (sym (chosen_kept t mid are grows right atom second.entries)) (second.same atom))
    (holds_kept t mid are grows guard atom test ∙ accepts atom)))

-- the empty product as the only target
pub one_represents : (t new : TableParts) (es : List (ℕ × ℕ)) (k guard : ℕ) → TablesGrow t new → IsTest t guard → IsTerm new k → term_at new k ≡ one → es ≡ (k, guard) ∷ [] → Represent new es (λ atom. cond (holds_at t guard atom) (one ∷ []) [])
one_represents t new es k guard grows test there tree made = record {
  entries = λ e h. ⊎_elim
      (λ s. subst (λ (z : ℕ × ℕ). IsTerm new z.0 × IsTest new z.1) s (there, test_within t new grows.was grows guard test))
      absurd
      (subst (λ (l : List (ℕ × ℕ)). Has l e) made h);
  same = λ atom. subst (λ (l : List (ℕ × ℕ)). SameMembers (chosen new l atom) (cond (holds_at t guard atom) (one ∷ []) [])) (sym made)
      (subst (λ x. SameMembers (cond (holds_at new guard atom) (x ∷ []) [] ++ []) (cond (holds_at t guard atom) (one ∷ []) [])) (sym tree)
      (subst (λ b. SameMembers (cond b (one ∷ []) [] ++ []) (cond (holds_at t guard atom) (one ∷ []) [])) (sym (holds_kept t new grows.was grows guard atom test)) (alone (holds_at t guard atom))));
}
  where
    alone : (b : Bool) → SameMembers (cond b (one ∷ []) [] ++ []) (cond b (one ∷ []) [])
    alone true = λ x. ((λ h. h), (λ h. h))
    alone false = λ x. ((λ h. h), (λ h. h))

-- zero and actions accept no atom; one and stars accept every atom
pub silent : (t : TableParts) (n : TermNode ℕ ℕ) (atom : Atom) → (n ≡ Zero) ⊎ ((a : ℕ) × (n ≡ Act a)) → out (tree_in (nodes_in t) n) atom ≡ false
silent t n atom h = ⊎_elim (ap (λ m. out (tree_in (nodes_in t) m) atom)) (λ a. ap (λ m. out (tree_in (nodes_in t) m) atom) a.1) h

pub ready : (t : TableParts) (n : TermNode ℕ ℕ) (atom : Atom) → (n ≡ One) ⊎ ((x : ℕ) × (n ≡ Star x)) → out (tree_in (nodes_in t) n) atom ≡ true
ready t n atom h = ⊎_elim (ap (λ m. out (tree_in (nodes_in t) m) atom)) (λ x. ap (λ m. out (tree_in (nodes_in t) m) atom) x.1) h

-- zero, one and tests have no steps
pub still : (t : TableParts) (n : TermNode ℕ ℕ) (atom : Atom) (a : ℕ) → (n ≡ Zero) ⊎ ((n ≡ One) ⊎ ((x : ℕ) × (n ≡ Test x))) → next (tree_in (nodes_in t) n) atom a ≡ []
still t n atom a h =
    ⊎_elim
    (λ e. ap (λ m. next (tree_in (nodes_in t) m) atom a) e)
    (λ r. ⊎_elim (λ e. ap (λ m. next (tree_in (nodes_in t) m) atom a) e) (λ x. ap (λ m. next (tree_in (nodes_in t) m) atom a) x.1) r)
    h

pub grows_longer : (old new : TableParts) → TablesGrow old new → length old.terms ≤ length new.terms
grows_longer old new grows = rw grows.nodes.terms.1 (omega (arith, length-append old.terms grows.nodes.terms.0))
