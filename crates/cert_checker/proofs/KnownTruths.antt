-- What is known of a test is true at each atom that extends the decided tests.
use Rattle.std.proofs.Common.{◌≡◌, ℕ, zero, suc, ◌<◌, ◌≤◌, ◌⊎◌, ⊎_elim, inl, inr, set, ◌+◌, List, [], ◌∷◌, ◌++◌, length, take, drop, get_or, slice_get, refl, sym, ap, ◌∙◌, subst, Bool, true, false, not, ◌&&◌, ◌||◌, Option, Some, None, get_or-set_same}
use Rattle.std.proofs.lemmas.Bool.{and_right, cases_eq}
use Rattle.std.proofs.lemmas.List.{length-set, take_more, take_all}
use Rattle.std.proofs.lemmas.Option.{slice_get-get_or, slice_get_within, get_or_from_slice_get}
use Rattle.kat_model.specs.Members.{Has}
use Rattle.kat_model.specs.Steps.{Atom, truth}
use Rattle.kat_model.proofs.Lists.{has_append}
use Rattle.kat_model.proofs.Places.{has_at, get_or-set_cases}
use Rattle.term_nodes.specs.declared.TestNode.{TestNode}
use Rattle.term_nodes.specs.declared.TestNode.TheVariants.{False, True, Prim, Not, And, Or}
use Rattle.term_nodes.specs.Nodes.{IsTestOver, test_parts}
use Rattle.term_nodes.specs.NodeTrees.{test_tree_in}
use Rattle.term_nodes.proofs.Parts.{IsTestOver-more}
use Rattle.term_nodes.proofs.TestTrees.{test_tree_at-node}
use Rattle.cert_checker.specs.NodeTables.{TableParts, AreTables, IsWithin, holds_at, nodes_in}
use Rattle.cert_checker.specs.declared.known.TestCase.{TestCase}
use Rattle.cert_checker.specs.declared.known.Truth.{Truth}
use Rattle.cert_checker.specs.declared.known.Truth.TheVariants.{Known, Undecided}
use Rattle.cert_checker.specs.Cases.{Extends, IsKnown, AreQueried, AreKnown, known_of, known_not, known_and, known_or, known_at, known_node}
use Rattle.cert_checker.specs.Questions.{QuestionParts, IsTestCase}

-- ---- combined values

de_morgan : (b c : Bool) → (b || c) ≡ not (not b && not c)
de_morgan true c = refl
de_morgan false true = refl
de_morgan false false = refl

module _ (first : ℕ) (decided : List (Option Bool)) where
  not_known : (v : Atom → Bool) (x : Truth) → IsKnown first decided v x → IsKnown first decided (λ atom. not (v atom)) (known_not x)
  not_known v (Known b) h = λ atom k. ap not (h atom k)
  not_known v (Undecided k) h = h

  and_known : (v w : Atom → Bool) (x y : Truth) → IsKnown first decided v x → IsKnown first decided w y → IsKnown first decided (λ atom. v atom && w atom) (known_and x y)
  and_known v w (Known false) y h k = λ atom e. ap (λ b. b && w atom) (h atom e)
  and_known v w (Known true) (Known c) h k = λ atom e. ap (λ b. b && w atom) (h atom e) ∙ k atom e
  and_known v w (Known true) (Undecided l) h k = k
  and_known v w (Undecided l) (Known false) h k = λ atom e. and_right (v atom) (w atom) (k atom e)
  and_known v w (Undecided l) (Known true) h k = h
  and_known v w (Undecided l) (Undecided m) h k = h

  -- functions with equal values have the same known value
  same_known : (v w : Atom → Bool) (x : Truth) → ((atom : Atom) → w atom ≡ v atom) → IsKnown first decided v x → IsKnown first decided w x
  same_known v w (Known b) same h = λ atom e. same atom ∙ h atom e
  same_known v w (Undecided k) same h = h

  or_known : (v w : Atom → Bool) (x y : Truth) → IsKnown first decided v x → IsKnown first decided w y → IsKnown first decided (λ atom. v atom || w atom) (known_or x y)
  or_known v w x y h k =
      same_known (λ atom. not (not (v atom) && not (w atom))) (λ atom. v atom || w atom) (known_or x y) (λ atom. de_morgan (v atom) (w atom))
      (not_known (λ atom. not (v atom) && not (w atom)) (known_and (known_not x) (known_not y))
      (and_known (λ atom. not (v atom)) (λ atom. not (w atom)) (known_not x) (known_not y) (not_known v x h) (not_known w y k)))

-- a decided test has its decided value
decided_value : (ds : List (Option Bool)) (k : ℕ) (b : Bool) (atom : Atom) → slice_get ds k ≡ Some (Some b) → Extends ds atom → get_or atom k false ≡ b
decided_value [] k b atom e h = absurd cc
decided_value (d ∷ ds) k b [] e h = absurd h
decided_value (None ∷ ds) zero b (c ∷ atom) e h = absurd cc
decided_value (Some a ∷ ds) zero b (c ∷ atom) e h = let first : a ≡ c = h.0 in cc
decided_value (None ∷ ds) (suc k) b (c ∷ atom) e h = decided_value ds k b atom e h
decided_value (Some a ∷ ds) (suc k) b (c ∷ atom) e h = decided_value ds k b atom e h.1

prim_known : (first : ℕ) (ds : List (Option Bool)) (k : ℕ) (d : Option Bool) → slice_get ds k ≡ Some d → IsKnown first ds (λ atom. get_or atom k false) (known_at first d k)
prim_known first ds k None e = (k, refl, e)
prim_known first ds k (Some b) e = λ atom h. decided_value ds k b atom e h

-- ---- a node of the tables

-- a primitive test is in range; the numbers that a node names are below every number from that of the node on
pub node_within : (t : TableParts) → AreTables t → (w k : ℕ) (n : TestNode ℕ) → w ≡ t.width → slice_get t.tests k ≡ Some n → IsWithin w n
node_within t are w k False e h = tt
node_within t are w k True e h = tt
node_within t are w k (Prim i) e h = subst (λ v. i < v) (sym e) (are.within i (has_at t.tests k (Prim i) h))
node_within t are w k (Not x) e h = tt
node_within t are w k (And x y) e h = tt
node_within t are w k (Or x y) e h = tt

pub parts_within : (t : TableParts) → AreTables t → (k m : ℕ) (n : TestNode ℕ) → k ≤ m → slice_get t.tests k ≡ Some n → IsTestOver m n
parts_within t are k m n le e = IsTestOver-more k m n le (are.rules.tests_ordered k n e)

module _ (first : ℕ) (t : TableParts) (are : AreTables t) (decided : List (Option Bool)) (width : length decided ≡ t.width) where
  -- what is known of a node, given what is known of the tests that it names
  node_known : (known : List Truth) (j : ℕ) (n : TestNode ℕ) → slice_get t.tests j ≡ Some n
      → ((x : ℕ) → Has (test_parts n) x → IsKnown first decided (holds_at t x) (known_of known x)) → IsKnown first decided (holds_at t j) (known_node first decided known n)
  node_known known j n e part =
      same_known first decided (λ atom. truth (test_tree_in (nodes_in t) n) atom) (holds_at t j) (known_node first decided known n) (λ atom. ap (λ b. truth b atom) (test_tree_at-node (nodes_in t) are.rules j n e)) (by_node n e part)
    where
      by_node : (n : TestNode ℕ) → slice_get t.tests j ≡ Some n → ((x : ℕ) → Has (test_parts n) x → IsKnown first decided (holds_at t x) (known_of known x))
          → IsKnown first decided (λ atom. truth (test_tree_in (nodes_in t) n) atom) (known_node first decided known n)
      by_node False e part = λ atom h. refl
      by_node True e part = λ atom h. refl
      by_node (Prim k) e part =
          let low : k < length decided = subst (λ w. k < w) (sym width) (are.within k (has_at t.tests j (Prim k) e)) in
          prim_known first decided k (get_or decided k None) (slice_get-get_or decided k None low)
      by_node (Not x) e part = not_known first decided (holds_at t x) (known_of known x) (part x (inl refl))
      by_node (And x y) e part = and_known first decided (holds_at t x) (holds_at t y) (known_of known x) (known_of known y) (part x (inl refl)) (part y (inr (inl refl)))
      by_node (Or x y) e part = or_known first decided (holds_at t x) (holds_at t y) (known_of known x) (known_of known y) (part x (inl refl)) (part y (inr (inl refl)))

-- ---- evaluating the listed tests in order

-- the values of the first `i` tests are known
pub record IsEvaluating (first : ℕ) (t : TableParts) (decided : List (Option Bool)) (queried : List ℕ) (i : ℕ) (old new : List Truth) : Type 0 where
  pub done : AreKnown first t decided (take i queried) new
  pub others : (k : ℕ) → (Has queried k → ⊥) → known_of new k ≡ known_of old k
  pub room : length new ≡ length old

pub evaluating_starts : (first : ℕ) (t : TableParts) (decided : List (Option Bool)) (queried : List ℕ) (known : List Truth) → IsEvaluating first t decided queried 0 known known
evaluating_starts first t decided queried known = record { done = λ k h. absurd h; others = λ k h. refl; room = refl }

module _ (first : ℕ) (t : TableParts) (decided : List (Option Bool)) (queried : List ℕ) (i k : ℕ) (is : slice_get queried i ≡ Some k) (old now : List Truth) (are : AreTables t) (closed : AreQueried t queried) (width : length decided ≡ t.width)
    (node : TestNode ℕ) (at : slice_get t.tests k ≡ Some node) (e : IsEvaluating first t decided queried i old now) where
  -- the parts of the next test come before it
  part : (x : ℕ) → Has (test_parts node) x → IsKnown first decided (holds_at t x) (known_of now x)
  part x h = e.done x ((closed i k is).1 node at x h)

  -- the first `i + 1` tests are the first `i` and the next one
  taken : take (i + 1) queried ≡ take i queried ++ k ∷ []
  taken = take_more queried i k (slice_get_within queried i k is) ∙ ap (λ x. take i queried ++ x ∷ []) (get_or_from_slice_get queried i k k is)

  module _ (x : Truth) (given : x ≡ known_node first decided now node) (low : k < length now) where
    abbrev Reported : ℕ → Type 0
    Reported j = IsKnown first decided (holds_at t j) (known_of (set now k x) j)

    here : Reported k
    here = subst (IsKnown first decided (holds_at t k)) (sym (get_or-set_same now k x (Known false) low ∙ given)) (node_known first t are decided width now k node at part)

    kept : (j : ℕ) → IsKnown first decided (holds_at t j) (known_of now j) → Reported j
    kept j known = ⊎_elim (λ s. subst Reported (sym s) here) (λ same. subst (IsKnown first decided (holds_at t j)) same known) (get_or-set_cases now k j x (known_of (set now k x) j) (Known false) refl)

    pub evaluating_more : IsEvaluating first t decided queried (i + 1) old (set now k x)
    evaluating_more = record {
      done = λ j h. ⊎_elim (λ r. kept j (e.done j r)) (λ s. ⊎_elim (λ same. subst Reported same here) absurd s) (has_append (take i queried) (k ∷ []) j (subst (λ l. Has l j) taken h));
      others = λ j h. ⊎_elim (λ s. absurd (h (subst (Has queried) (sym s) (has_at queried i k is)))) (λ same. sym same ∙ e.others j h) (get_or-set_cases now k j x (known_of (set now k x) j) (Known false) refl);
      room = length-set now k x ∙ e.room;
    }

pub evaluating_ends : (first : ℕ) (t : TableParts) (decided : List (Option Bool)) (queried : List ℕ) (i : ℕ) (old new : List Truth) → length queried ≤ i → IsEvaluating first t decided queried i old new → AreKnown first t decided queried new
evaluating_ends first t decided queried i old new past e = subst (λ l. AreKnown first t decided l new) (take_all i queried past) e.done

-- ---- two lists of tests

has_or_not : (ks : List ℕ) (k : ℕ) → Has ks k ⊎ (Has ks k → ⊥)
has_or_not [] k = inr (λ h. h)
has_or_not (j ∷ ks) k = ⊎_elim (λ e. inl (inl e)) (λ n. ⊎_elim (λ r. inl (inr r)) (λ m. inr (λ h. ⊎_elim n m h)) (has_or_not ks k)) (cases_eq j k)

-- known values remain known when the values of more tests are added
known_both : (first : ℕ) (t : TableParts) (decided : List (Option Bool)) (queried more : List ℕ) (old new : List Truth) → AreKnown first t decided queried old → AreKnown first t decided more new
    → ((k : ℕ) → (Has more k → ⊥) → known_of new k ≡ known_of old k) → AreKnown first t decided queried new
known_both first t decided queried more old new was given others k h = ⊎_elim (given k) (λ n. subst (IsKnown first decided (holds_at t k)) (sym (others k n)) (was k h)) (has_or_not more k)

-- the same for equal arguments
known_along : (first : ℕ) (t t2 : TableParts) (ds ds2 : List (Option Bool)) (queried asked2 : List ℕ) (known known2 : List Truth) → t ≡ t2 → ds ≡ ds2 → queried ≡ asked2 → known ≡ known2 → AreKnown first t ds queried known → AreKnown first t2 ds2 asked2 known2
known_along first t t2 ds ds2 queried asked2 known known2 e f g h given =
    subst (λ u. AreKnown first u ds2 asked2 known2) e (subst (λ l. AreKnown first t l asked2 known2) f (subst (λ ks. AreKnown first t ds ks known2) g (subst (AreKnown first t ds queried) h given)))

-- a case of a question is known after its tests are evaluated: first those that the targets and the pair name, then, in
-- the same list, those that moves name
pub case_given : (q : QuestionParts) (t : TableParts) (queried begin end : List ℕ) (ds first second : List (Option Bool)) (n : ℕ) (one two three : List Truth) (c : TestCase) → t ≡ q.tables → queried ≡ q.queried → begin ≡ q.action_pass.begin → end ≡ q.action_pass.end
    → first ≡ take q.tables.width ds → second ≡ drop q.tables.width ds → n ≡ q.tables.width → AreKnown 0 t first queried one → AreKnown 0 t first begin two → ((k : ℕ) → (Has begin k → ⊥) → known_of two k ≡ known_of one k) → AreKnown n t second end three
    → two ≡ c.begin.items → three ≡ c.end.items → IsTestCase q.tables q q.queried ds c
case_given q t queried begin end ds first second n one two three c e query at_begin at_end front back width targets moves others ends begun ended = record {
  targets = known_along 0 t q.tables first (take q.tables.width ds) queried q.queried two c.begin.items e front query begun (known_both 0 t first queried begin one two targets moves others);
  begin = known_along 0 t q.tables first (take q.tables.width ds) begin q.action_pass.begin two c.begin.items e front at_begin begun moves;
  end = subst (λ m. AreKnown m q.tables (drop q.tables.width ds) q.action_pass.end c.end.items) width (known_along n t q.tables second (drop q.tables.width ds) end q.action_pass.end three c.end.items e back at_end ended ends);
}
