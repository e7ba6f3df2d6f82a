-- The hypotheses and the closed sides of a problem are within its range, and keep their numbers when tables grow.
use Rattle.std.proofs.Common.{◌≡◌, ⊎_elim, append_assoc, ℕ, ◌<◌, zero as nought, suc, inl, List, [], ◌∷◌, ◌++◌, map, length, drop, drop-cons, get_or, refl, sym, ap, ◌∙◌, subst, arith, true, false, cond, nat_lt, Option, Some, None}
use mathlib.Core.Path.{ap₂}
use Rattle.std.specs.List.{filter}
use Rattle.std.specs.Option.{option_map}
use Rattle.std.proofs.lemmas.Bool.{and_parts}
use Rattle.kat_model.specs.declared.tree.Kat.{Kat}
use Rattle.kat_model.specs.Trees.{Term, sum, kat_tree}
use Rattle.kat_model.specs.Members.{Has}
use Rattle.kat_model.specs.Problems.{ProblemParts, IsInRange, AreInRange, HasTestsBelow, IsProblem}
use Rattle.kat_model.specs.Balanced.{sum_of}
use Rattle.kat_model.specs.Degrees.{is_short, long_hyps, with_hyps}
use Rattle.kat_model.specs.Closed.{Closed, universal_of, inside, closed_under, closed}
use Rattle.kat_model.proofs.Ranges.{IsInRange-HasTestsBelow, IsInRange-sum_of, IsInRange-universal_of}
use Rattle.term_nodes.specs.NumberSets.{are_below, terms_of}
use Rattle.term_nodes.proofs.Prefixes.{IsPrefix-within}
use Rattle.term_nodes.proofs.Parts.{below_has, has_below, below_more}
use Rattle.certificate.specs.declared.nodes.Style.{Style}
use Rattle.certificate.specs.declared.nodes.Style.TheVariants.{Plain, UpTo, Under}
use Rattle.cert_checker.specs.NodeTables.{TableParts, TablesGrow, IsTerm, term_at, nodes_in}
use Rattle.cert_checker.specs.Roots.{AreClosedBelow, AreClosedNumbers, AreSideNumbers, AreRoots, compared, counted_short}
use Rattle.goal_forms.proofs.LongProblems.{long_is_problem}
use Rattle.cert_checker.proofs.GrowingTables.{grows_trans}
use Rattle.cert_checker.proofs.StepLists.{grows_longer}

-- ---- ranges

module _ (t a : ℕ) where
  closed_below : (hyps : List Term) (left right : Term) → AreInRange t a hyps → IsInRange t a left → IsInRange t a right → AreClosedBelow t (closed_under a hyps left right)
  closed_below [] left right h l r = record {
    left = IsInRange-HasTestsBelow t a left l;
    right = IsInRange-HasTestsBelow t a right r;
    universal = λ u e. absurd cc;
  }
  closed_below (e ∷ es) left right h l r = record {
    left = IsInRange-HasTestsBelow t a (sum left (inside (universal_of a) (sum_of (e ∷ es)))) (l, around);
    right = IsInRange-HasTestsBelow t a (sum right (inside (universal_of a) (sum_of (e ∷ es)))) (r, around);
    universal = λ u s. let same : universal_of a ≡ u = cc in subst (HasTestsBelow t) same (IsInRange-HasTestsBelow t a (universal_of a) (IsInRange-universal_of t a));
  }
    where
      around : IsInRange t a (inside (universal_of a) (sum_of (e ∷ es)))
      around = (IsInRange-universal_of t a, (IsInRange-sum_of t a (e ∷ es) h, IsInRange-universal_of t a))

problem_below : (q : ProblemParts) → IsProblem q → AreClosedBelow q.tests (closed q)
problem_below q p = closed_below q.tests q.actions q.hyps q.left q.right p.hyps p.left p.right

pub compared_below : (s : Style) (q : ProblemParts) → IsProblem q → AreClosedBelow q.tests (compared s q)
compared_below Plain q p = problem_below q p
compared_below UpTo q p = problem_below q p
compared_below Under q p = problem_below (with_hyps q (long_hyps q)) (long_is_problem q p)

pub hyp_below : (q : ProblemParts) → IsProblem q → (hyps : List Kat) → map kat_tree hyps ≡ q.hyps → (i : ℕ) (x : Kat) → i < length hyps → x ≡ get_or hyps i x → HasTestsBelow q.tests (kat_tree x)
hyp_below q p hyps same i x low at = IsInRange-HasTestsBelow q.tests q.actions (kat_tree x) (go hyps i (subst (AreInRange q.tests q.actions) (sym same) p.hyps) low at)
  where
    go : (hs : List Kat) (i : ℕ) → AreInRange q.tests q.actions (map kat_tree hs) → i < length hs → x ≡ get_or hs i x → IsInRange q.tests q.actions (kat_tree x)
    go [] i h low at = absurd (omega (arith, low))
    go (k ∷ hs) nought h low at = subst (λ z. IsInRange q.tests q.actions (kat_tree z)) (sym at) h.0
    go (k ∷ hs) (suc i) h low at = go hs i h.1 (omega (arith, low)) at

-- ---- numbers in growing tables

module _ (t new : TableParts) (grows : TablesGrow t new) where
  pub terms_stay : (ks : List ℕ) → are_below (length t.terms) ks ≡ true → terms_of (nodes_in new) ks ≡ terms_of (nodes_in t) ks
  terms_stay [] low = refl
  terms_stay (k ∷ ks) low =
      ap₂ (λ (x : Term) (xs : List Term). x ∷ xs) (grows.nodes.trees k (below_has (length t.terms) (k ∷ ks) low k (inl refl)))
      (terms_stay ks (and_parts (nat_lt k (length t.terms)) (are_below (length t.terms) ks) low).1)

  pub numbers_stay : (ks : List ℕ) → are_below (length t.terms) ks ≡ true → are_below (length new.terms) ks ≡ true
  numbers_stay ks low = below_more (length t.terms) (length new.terms) ks (grows_longer t new grows) low

terms_push : (t : TableParts) (ks : List ℕ) (k : ℕ) → terms_of (nodes_in t) (ks ++ k ∷ []) ≡ terms_of (nodes_in t) ks ++ term_at t k ∷ []
terms_push t [] k = refl
terms_push t (j ∷ ks) k = ap (λ l. term_at t j ∷ l) (terms_push t ks k)

below_push : (n : ℕ) (ks : List ℕ) (k : ℕ) → are_below n ks ≡ true → k < n → are_below n (ks ++ k ∷ []) ≡ true
below_push n ks k low h = has_below n (ks ++ k ∷ []) (λ j m. go ks low j m)
  where
    go : (ks : List ℕ) → are_below n ks ≡ true → (j : ℕ) → Has (ks ++ k ∷ []) j → j < n
    go [] low j m = ⊎_elim (λ s. subst (λ z. z < n) s h) absurd m
    go (l ∷ ks) low j m = ⊎_elim (λ s. below_has n (l ∷ ks) low j (inl s)) (λ r. go ks (and_parts (nat_lt l n) (are_below n ks) low).1 j r) m

-- the numbers of the short hypotheses so far, with the short hypotheses among the rest
pub record AreShorts (first now : TableParts) (numbers : List ℕ) (rest all : List Term) : Type 0 where
  pub grows : TablesGrow first now
  pub there : are_below (length now.terms) numbers ≡ true
  pub terms : terms_of (nodes_in now) numbers ++ filter is_short rest ≡ filter is_short all

pub shorts_more : (first now new : TableParts) (numbers : List ℕ) (hyps : List Kat) (i k : ℕ) (x : Kat) (all : List Term) → AreShorts first now numbers (map kat_tree (drop i hyps)) all → i < length hyps → x ≡ get_or hyps i x → is_short (kat_tree x) ≡ true
    → TablesGrow now new → IsTerm new k → term_at new k ≡ kat_tree x → AreShorts first new (numbers ++ k ∷ []) (map kat_tree (drop (suc i) hyps)) all
shorts_more first now new numbers hyps i k x all s low at short more there tree = record {
  grows = grows_trans first now new s.grows more;
  there = below_push (length new.terms) numbers k (numbers_stay now new more numbers s.there) there;
  terms =
      ap (λ l. l ++ filter is_short (map kat_tree (drop (suc i) hyps))) (terms_push new numbers k ∙ ap₂ (λ (l : List Term) (e : Term). l ++ e ∷ []) (terms_stay now new more numbers s.there) tree)
      ∙ append_assoc (terms_of (nodes_in now) numbers) (kat_tree x ∷ []) (filter is_short (map kat_tree (drop (suc i) hyps)))
      ∙ ap (λ l. terms_of (nodes_in now) numbers ++ l) (sym next)
      ∙ s.terms;
}
  where
    next : filter is_short (map kat_tree (drop i hyps)) ≡ kat_tree x ∷ filter is_short (map kat_tree (drop (suc i) hyps))
    next = ap (λ l. filter is_short (map kat_tree l)) (drop-cons hyps i x low) ∙ ap (λ y. filter is_short (kat_tree y ∷ map kat_tree (drop (suc i) hyps))) (sym at) ∙ ap (λ b. cond b (kat_tree x ∷ filter is_short (map kat_tree (drop (suc i) hyps))) (filter is_short (map kat_tree (drop (suc i) hyps)))) short

pub shorts_same : (first now : TableParts) (numbers : List ℕ) (hyps : List Kat) (i : ℕ) (x : Kat) (all : List Term) → AreShorts first now numbers (map kat_tree (drop i hyps)) all → i < length hyps → x ≡ get_or hyps i x → is_short (kat_tree x) ≡ false → AreShorts first now numbers (map kat_tree (drop (suc i) hyps)) all
shorts_same first now numbers hyps i x all s low at short = record {
  grows = s.grows;
  there = s.there;
  terms = ap (λ l. terms_of (nodes_in now) numbers ++ l) (sym next) ∙ s.terms;
}
  where
    next : filter is_short (map kat_tree (drop i hyps)) ≡ filter is_short (map kat_tree (drop (suc i) hyps))
    next = ap (λ l. filter is_short (map kat_tree l)) (drop-cons hyps i x low) ∙ ap (λ y. filter is_short (kat_tree y ∷ map kat_tree (drop (suc i) hyps))) (sym at) ∙ ap (λ b. cond b (kat_tree x ∷ filter is_short (map kat_tree (drop (suc i) hyps))) (filter is_short (map kat_tree (drop (suc i) hyps)))) short

-- a term keeps its number
pub term_stays : (t new : TableParts) → TablesGrow t new → (k : ℕ) (e : Term) → IsTerm t k → term_at t k ≡ e → IsTerm new k × (term_at new k ≡ e)
term_stays t new grows k e low same = (IsPrefix-within t.terms new.terms k grows.nodes.terms low, grows.nodes.trees k low ∙ same)

pub universal_stays : (t new : TableParts) → TablesGrow t new → (o : Option ℕ) (e : Option Term) → ((u : ℕ) → o ≡ Some u → IsTerm t u) → option_map (term_at t) o ≡ e → ((u : ℕ) → o ≡ Some u → IsTerm new u) × (option_map (term_at new) o ≡ e)
universal_stays t new grows None e low same = ((λ u s. absurd cc), same)
universal_stays t new grows (Some k) e low same = ((λ u s. IsPrefix-within t.terms new.terms u grows.nodes.terms (low u s)), ap (λ (x : Term). Some x) (grows.nodes.trees k (low k refl)) ∙ same)

-- the number of the universal term, if there is one
pub universal_given : (t : TableParts) (k : ℕ) (e : Term) → IsTerm t k → term_at t k ≡ e → ((u : ℕ) → Some k ≡ Some u → IsTerm t u) × (option_map (term_at t) (Some k) ≡ Some e)
universal_given t k e there tree = ((λ u s. let same : k ≡ u = cc in subst (IsTerm t) same there), ap Some tree)

-- the closed sides keep their numbers
sides_stay : (s : Style) (q : ProblemParts) (t new : TableParts) (left right : ℕ) (universal : Option ℕ) → TablesGrow t new → AreSideNumbers s q t left right universal → AreSideNumbers s q new left right universal
sides_stay s q t new left right universal grows a =
    let l = term_stays t new grows left _ a.left_there a.left in
    let r = term_stays t new grows right _ a.right_there a.right in
    let u = universal_stays t new grows universal _ a.universal_there a.universal in
    record {
      left = l.1;
      left_there = l.0;
      right = r.1;
      right_there = r.0;
      universal = u.1;
      universal_there = u.0;
    }

-- and so do all terms of a problem
pub roots_stay : (s : Style) (q : ProblemParts) (t new : TableParts) (left right : ℕ) (universal : Option ℕ) (shorts : List ℕ) → TablesGrow t new → AreRoots s q t left right universal shorts → AreRoots s q new left right universal shorts
roots_stay s q t new left right universal shorts grows a = record {
  sides = sides_stay s q t new left right universal grows a.sides;
  shorts = terms_stay t new grows shorts a.shorts_there ∙ a.shorts;
  shorts_there = numbers_stay t new grows shorts a.shorts_there;
}

-- the numbers that are assigned one after another, while tables grow
pub numbers_made : (c : Closed) (first second last : TableParts) (left right : ℕ) (universal : Option ℕ) → TablesGrow first second → TablesGrow second last
    → IsTerm first left → term_at first left ≡ c.left → IsTerm second right → term_at second right ≡ c.right
    → ((u : ℕ) → universal ≡ Some u → IsTerm last u) × (option_map (term_at last) universal ≡ c.universal) → AreClosedNumbers c last left right universal
numbers_made c first second last left right universal to_second to_last left_there left_is right_there right_is u =
    let l = term_stays first last (grows_trans first second last to_second to_last) left _ left_there left_is in
    let r = term_stays second last to_last right _ right_there right_is in
    record {
      left = l.1;
      left_there = l.0;
      right = r.1;
      right_there = r.0;
      universal = u.1;
      universal_there = u.0;
    }

pub roots_made : (s : Style) (q : ProblemParts) (first last : TableParts) (left right : ℕ) (universal : Option ℕ) (shorts : List ℕ) → TablesGrow first last → AreSideNumbers s q first left right universal
    → terms_of (nodes_in last) shorts ≡ counted_short s q → are_below (length last.terms) shorts ≡ true → AreRoots s q last left right universal shorts
roots_made s q first last left right universal shorts grows sides shorts_are shorts_there = record {
  sides = sides_stay s q first last left right universal grows sides;
  shorts = shorts_are;
  shorts_there = shorts_there;
}
