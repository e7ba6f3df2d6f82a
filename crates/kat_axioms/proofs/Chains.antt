-- Chains and derivations: a chain shows what is derived, and a derivation shows what a chain shows.
use Rattle.std.proofs.Common.{◌≡◌, ℕ, zero as nought, suc, inl, inr, ⊎_elim, List, [], ◌∷◌, ◌++◌, Option, None, Some, refl, sym, ◌∙◌, subst}
use Rattle.std.specs.List.{All}
use Rattle.std.proofs.lemmas.List.Elements.{All-nil, All-cons, All-append, All-head, All-tail}
use Rattle.kat_model.specs.Trees.{Term, sum, product, star}
use Rattle.kat_model.specs.Problems.{ProblemParts}
use Rattle.chain_rules.specs.Chains.{Equation, equation, ChainTree, alone, equal_by, equal_by_inner, LineParts, first_term, last_term, ends_of, line_to, lines_of}
use Rattle.chain_rules.specs.Places.{subterm, AreEqualOutside}
use Rattle.chain_rules.specs.Axioms.{IsInstance}
use Rattle.chain_rules.specs.Chained.{Holds}
use Rattle.chain_rules.specs.declared.chain.Axiom.{Axiom}
use Rattle.chain_rules.proofs.Soundness.{all_left, all_right}
use Rattle.kat_axioms.specs.Derivations.{Proves, itself, symmetric, transitive, sums, products, stars, axiom_without, axiom_with}
use Rattle.kat_axioms.specs.Laws.{HasChain}

module _ (q : ProblemParts) where
  -- some chain whose lines hold leads from one term to the other
  record Leads (e f : Term) : Type 0 where
    pub chain : ChainTree
    pub start : first_term chain ≡ e
    pub end : last_term chain ≡ f
    pub lines : All (Holds q) (lines_of chain)

  -- the equation that an inner chain must show is shown
  abbrev IsShown : Option Equation → Type 0
  IsShown None = Unit {0}
  IsShown (Some s) = Leads s.left s.right

  abbrev line_of : Term → Term → Axiom → List ℕ → Option Equation → LineParts
  line_of e f rule path inner = record { before = e; after = f; rule = rule; path = path; inner = inner }

  leads_itself : (e : Term) → Leads e e
  leads_itself e = record { chain = alone e; start = refl; end = refl; lines = All-nil (Holds q) }

  -- a line before a chain
  line_leads : (e f g : Term) (rule : Axiom) (path : List ℕ) (inner : Option Equation) → Holds q (line_of e f rule path inner) → IsShown inner → Leads f g → Leads e g
  line_leads e f g rule path None h shown l =
      record {
        chain = equal_by e rule path l.chain;
        start = refl;
        end = l.end;
        lines = All-cons (Holds q) (line_to e rule path None l.chain) (lines_of l.chain) (subst (λ x. Holds q (line_of e x rule path None)) (sym l.start) h) l.lines;
      }
  line_leads e f g rule path (Some s) h shown l =
      record {
        chain = equal_by_inner e rule path shown.chain l.chain;
        start = refl;
        end = l.end;
        lines = All-cons (Holds q) (line_to e rule path (Some (ends_of shown.chain)) l.chain) (lines_of shown.chain ++ lines_of l.chain) line (All-append (Holds q) (lines_of shown.chain) (lines_of l.chain) shown.lines l.lines);
      }
    where
      ends : ends_of shown.chain ≡ s
      ends = λ i. equation (shown.start i) (shown.end i)

      line : Holds q (line_to e rule path (Some (ends_of shown.chain)) l.chain)
      line = subst (λ x. Holds q (line_of e x rule path (Some (ends_of shown.chain)))) (sym l.start) (subst (λ u. Holds q (line_of e f rule path (Some u))) (sym ends) h)

  -- the lines of a chain, each with its inner chain, before another chain
  module _ (C : Term → Term)
      (place : List ℕ → List ℕ)
      (lifts : (e f : Term) (rule : Axiom) (path : List ℕ) (inner : Option Equation) → Holds q (line_of e f rule path inner) → Holds q (line_of (C e) (C f) rule (place path) inner)) where
    chain_leads : (c : ChainTree) (g : Term) → All (Holds q) (lines_of c) → Leads (C (last_term c)) g → Leads (C (first_term c)) g
    chain_leads (alone e) g all l = l
    chain_leads (equal_by e rule path rest) g all l =
        let line = line_to e rule path None rest in
        line_leads (C e) (C (first_term rest)) g rule (place path) None
        (lifts e (first_term rest) rule path None (All-head (Holds q) line (lines_of rest) all)) tt
        (chain_leads rest g (All-tail (Holds q) line (lines_of rest) all) l)
    chain_leads (equal_by_inner e rule path inner rest) g all l =
        let line = line_to e rule path (Some (ends_of inner)) rest in
        let others = All-tail (Holds q) line (lines_of inner ++ lines_of rest) all in
        line_leads (C e) (C (first_term rest)) g rule (place path) (Some (ends_of inner))
        (lifts e (first_term rest) rule path (Some (ends_of inner)) (All-head (Holds q) line (lines_of inner ++ lines_of rest) all))
        (record { chain = inner; start = refl; end = refl; lines = all_left (Holds q) (lines_of inner) (lines_of rest) others })
        (chain_leads rest g (all_right (Holds q) (lines_of inner) (lines_of rest) others) l)

  leads_trans : (e f g : Term) → Leads e f → Leads f g → Leads e g
  leads_trans e f g l m =
      subst (λ x. Leads x g) l.start
      (chain_leads (λ x. x) (λ path. path) (λ a b rule path inner h. h) l.chain g l.lines (subst (λ x. Leads x g) (sym l.end) m))

  -- chains lead from each term to the other
  abbrev Both : Term → Term → Type 0
  Both e f = Leads e f × Leads f e

  -- a chain in place k of a term
  module _ (C : Term → Term) (k : ℕ)
      (outside : (path : List ℕ) (e f : Term) → AreEqualOutside path e f → AreEqualOutside (k ∷ path) (C e) (C f))
      (inside : (path : List ℕ) (e : Term) → subterm (k ∷ path) (C e) ≡ subterm path e) where
    holds_within : (e f : Term) (rule : Axiom) (path : List ℕ) (inner : Option Equation) → Holds q (line_of e f rule path inner) → Holds q (line_of (C e) (C f) rule (k ∷ path) inner)
    holds_within e f rule path inner h =
        record {
          x = h.x;
          y = h.y;
          outside = outside path e f h.outside;
          before = inside path e ∙ h.before;
          after = inside path f ∙ h.after;
          by_axiom = h.by_axiom;
        }

    leads_within : (e f : Term) → Leads e f → Leads (C e) (C f)
    leads_within e f l =
        subst (λ x. Leads (C x) (C f)) l.start
        (chain_leads C (λ path. k ∷ path) holds_within l.chain (C f) l.lines
        (subst (λ x. Leads (C x) (C f)) (sym l.end) (leads_itself (C f))))

    both_within : (e f : Term) → Both e f → Both (C e) (C f)
    both_within e f b = (leads_within e f b.0, leads_within f e b.1)

  -- ---- derivations give chains, in both directions

  both_trans : (e f g : Term) → Both e f → Both f g → Both e g
  both_trans e f g b c = (leads_trans e f g b.0 c.0, leads_trans g f e c.1 b.1)

  both_sum : (e f g h : Term) → Both e g → Both f h → Both (sum e f) (sum g h)
  both_sum e f g h b c =
      both_trans _ _ _
      (both_within (λ x. sum x f) 0 (λ path x y o. (o, refl)) (λ path x. refl) e g b)
      (both_within (λ x. sum g x) 1 (λ path x y o. (refl, o)) (λ path x. refl) f h c)

  both_product : (e f g h : Term) → Both e g → Both f h → Both (product e f) (product g h)
  both_product e f g h b c =
      both_trans _ _ _
      (both_within (λ x. product x f) 0 (λ path x y o. (o, refl)) (λ path x. refl) e g b)
      (both_within (λ x. product g x) 1 (λ path x y o. (refl, o)) (λ path x. refl) f h c)

  both_star : (e f : Term) → Both e f → Both (star e) (star f)
  both_star e f b = both_within (λ x. star x) 0 (λ path x y o. o) (λ path x. refl) e f b

  -- one line by an axiom, in both directions
  both_by_axiom : (rule : Axiom) (inner : Option Equation) (s : Equation) → IsInstance q rule inner s → IsShown inner → Both s.left s.right
  both_by_axiom rule inner s h shown = (
    line_leads s.left s.right s.right rule [] inner (record { x = s.left; y = s.right; outside = tt; before = refl; after = refl; by_axiom = inl h }) shown (leads_itself s.right),
    line_leads s.right s.left s.left rule [] inner (record { x = s.right; y = s.left; outside = tt; before = refl; after = refl; by_axiom = inr h }) shown (leads_itself s.left),
  )

  proves_both : {e f : Term} → Proves q e f → Both e f
  proves_both (itself e) = (leads_itself e, leads_itself e)
  proves_both (symmetric p) = let b = proves_both p in (b.1, b.0)
  proves_both (transitive p r) = both_trans _ _ _ (proves_both p) (proves_both r)
  proves_both (sums p r) = both_sum _ _ _ _ (proves_both p) (proves_both r)
  proves_both (products p r) = both_product _ _ _ _ (proves_both p) (proves_both r)
  proves_both (stars p) = both_star _ _ (proves_both p)
  proves_both (axiom_without rule s h) = both_by_axiom rule None s h tt
  proves_both (axiom_with rule premise s h p) = both_by_axiom rule (Some premise) s h (proves_both p).0

  pub proves_has_chain : Proves q q.left q.right → HasChain q
  proves_has_chain p =
      let l = (proves_both p).0 in
      record { chain = l.chain; is = record { start = l.start; end = l.end; lines = l.lines } }

  -- ---- chains give derivations

  proves_equal : (e f : Term) → e ≡ f → Proves q e f
  proves_equal e f p = subst (λ x. Proves q e x) p (itself e)

  -- terms that are equal outside a place are derivably equal if their subterms there are
  proves_at : (path : List ℕ) (e f x y : Term) → AreEqualOutside path e f → subterm path e ≡ Some x → subterm path f ≡ Some y → Proves q x y → Proves q e f
  proves_at [] e f x y o b c p =
      let l : x ≡ e = cc in
      let r : y ≡ f = cc in
      subst (λ z. Proves q z f) l (subst (λ z. Proves q x z) r p)
  proves_at (nought ∷ path) (sum e g) (sum f h) x y o b c p = sums (proves_at path e f x y o.0 b c p) (proves_equal g h o.1)
  proves_at (suc nought ∷ path) (sum g e) (sum h f) x y o b c p = sums (proves_equal g h o.0) (proves_at path e f x y o.1 b c p)
  proves_at (nought ∷ path) (product e g) (product f h) x y o b c p = products (proves_at path e f x y o.0 b c p) (proves_equal g h o.1)
  proves_at (suc nought ∷ path) (product g e) (product h f) x y o b c p = products (proves_equal g h o.0) (proves_at path e f x y o.1 b c p)
  proves_at (nought ∷ path) (star e) (star f) x y o b c p = stars (proves_at path e f x y o b c p)
  proves_at (k ∷ path) e f x y o b c p = absurd o

  abbrev IsDerived : Option Equation → Type 0
  IsDerived None = Unit {0}
  IsDerived (Some s) = Proves q s.left s.right

  instance_proves : (rule : Axiom) (inner : Option Equation) (s : Equation) → IsInstance q rule inner s → IsDerived inner → Proves q s.left s.right
  instance_proves rule None s h d = axiom_without rule s h
  instance_proves rule (Some premise) s h d = axiom_with rule premise s h d

  line_proves : (l : LineParts) → Holds q l → IsDerived l.inner → Proves q l.before l.after
  line_proves l h d =
      proves_at l.path l.before l.after h.x h.y h.outside h.before h.after
      (⊎_elim
      (λ i. instance_proves l.rule l.inner (equation h.x h.y) i d)
      (λ i. symmetric (instance_proves l.rule l.inner (equation h.y h.x) i d))
      h.by_axiom)

  chain_proves : (c : ChainTree) → All (Holds q) (lines_of c) → Proves q (first_term c) (last_term c)
  chain_proves (alone e) all = itself e
  chain_proves (equal_by e rule path rest) all =
      let line = line_to e rule path None rest in
      transitive (line_proves line (All-head (Holds q) line (lines_of rest) all) tt) (chain_proves rest (All-tail (Holds q) line (lines_of rest) all))
  chain_proves (equal_by_inner e rule path inner rest) all =
      let line = line_to e rule path (Some (ends_of inner)) rest in
      let others = All-tail (Holds q) line (lines_of inner ++ lines_of rest) all in
      transitive
      (line_proves line (All-head (Holds q) line (lines_of inner ++ lines_of rest) all) (chain_proves inner (all_left (Holds q) (lines_of inner) (lines_of rest) others)))
      (chain_proves rest (all_right (Holds q) (lines_of inner) (lines_of rest) others))

  pub has_chain_proves : HasChain q → Proves q q.left q.right
  has_chain_proves h =
      subst (λ x. Proves q q.left x) h.is.end (subst (λ x. Proves q x (last_term h.chain)) h.is.start (chain_proves h.chain h.is.lines))
