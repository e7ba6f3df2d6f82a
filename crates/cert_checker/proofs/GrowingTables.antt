-- Tables to which a node is added keep their rules, and grow.
use Rattle.std.proofs.Common.{◌≡◌, ◌<◌, inl, inr, ⊎_elim, ℕ, List, Bool, true, refl, ap, ◌∙◌, subst, Result, IfOk, OnErr}
use Rattle.std.specs.List.{IsDistinct}
use Rattle.indexmap.specs.IndexSet.{insert_key}
use Rattle.kat_model.specs.Members.{Has}
use Rattle.term_nodes.specs.declared.TestNode.{TestNode}
use Rattle.term_nodes.specs.declared.TestNode.TheVariants.{Prim}
use Rattle.term_nodes.specs.declared.TermNode.{TermNode}
use Rattle.term_nodes.proofs.Growing.{Grows-itself, Grows-trans, AddsTest-grows, AddsTerm-grows}
use Rattle.term_nodes.proofs.Insertions.{insert_adds, added_members, test_inserted, term_inserted}
use Rattle.cert_checker.specs.NodeTables.{TableParts, nodes_in, AreTables, TablesGrow, TestsGrow, AddsTest, AddsTerm, MayBeTest, MayBeTerm, IsWithin}

pub grows_itself : (a : TableParts) → AreTables a → TablesGrow a a
grows_itself a are = record { was = are; sound = are; width = refl; nodes = Grows-itself (nodes_in a) }

pub grows_trans : (a b c : TableParts) → TablesGrow a b → TablesGrow b c → TablesGrow a c
grows_trans a b c g h = record { was = g.was; sound = h.sound; width = h.width ∙ g.width; nodes = Grows-trans (nodes_in a) (nodes_in b) (nodes_in c) g.nodes h.nodes }

pub tests_itself : (a : TableParts) → AreTables a → TestsGrow a a
tests_itself a are = record { grows = grows_itself a are; terms = refl }

pub tests_trans : (a b c : TableParts) → TestsGrow a b → TestsGrow b c → TestsGrow a c
tests_trans a b c g h = record { grows = grows_trans a b c g.grows h.grows; terms = h.terms ∙ g.terms }

within_prim : (width k : ℕ) (n : TestNode ℕ) → n ≡ Prim k → IsWithin width n → k < width
within_prim width k n e h = subst (IsWithin width) e h

-- the tables after the insertion of a test node, whether it succeeds or fails
pub test_added : {T E : Type 0} (eq : TestNode ℕ → TestNode ℕ → Bool) → ((x : TestNode ℕ) → eq x x ≡ true) → (r : Result T E) (t : TableParts) (tests : List (TestNode ℕ)) (n : TestNode ℕ) → AreTables t → MayBeTest t n → IsDistinct eq tests
    → IfOk r (λ _. tests ≡ insert_key eq t.tests n) → OnErr r (tests ≡ t.tests) → AreTables (record t { tests = tests })
test_added eq own r t tests n are may unique e same =
    let adds = insert_adds eq r t.tests tests n e same in
    record {
      rules = test_inserted eq own r (nodes_in t) tests n are.rules may.0 unique e same;
      within = λ k h. added_members (λ m. m ≡ Prim k → k < t.width) t.tests tests n adds (λ m g f. are.within k (subst (Has t.tests) f g)) (λ f. within_prim t.width k n f may.1) (Prim k) h refl;
    }

-- and after the insertion of a term node
pub term_added : {T E : Type 0} (eq : TermNode ℕ ℕ → TermNode ℕ ℕ → Bool) → ((x : TermNode ℕ ℕ) → eq x x ≡ true) → (r : Result T E) (t : TableParts) (terms : List (TermNode ℕ ℕ)) (n : TermNode ℕ ℕ) → AreTables t → MayBeTerm t n → IsDistinct eq terms
    → IfOk r (λ _. terms ≡ insert_key eq t.terms n) → OnErr r (terms ≡ t.terms) → AreTables (record t { terms = terms })
term_added eq own r t terms n are may unique e same = record {
  rules = term_inserted eq own r (nodes_in t) terms n are.rules may unique e same;
  within = are.within;
}

AddsTest-tables : (old new : TableParts) (n : TestNode ℕ) → AreTables old → AreTables new → AddsTest old new n → TablesGrow old new
AddsTest-tables old new n was are adds = record {
  was = was;
  sound = are;
  width = ⊎_elim (ap (λ (t : TableParts). t.width)) (ap (λ (t : TableParts). t.width)) adds;
  nodes = AddsTest-grows (nodes_in old) (nodes_in new) n was.rules are.rules (⊎_elim (λ e. inl (ap nodes_in e)) (λ e. inr (ap nodes_in e)) adds);
}

pub AddsTest-tests : (old new : TableParts) (n : TestNode ℕ) → AreTables old → AreTables new → AddsTest old new n → TestsGrow old new
AddsTest-tests old new n was are adds = record {
  grows = AddsTest-tables old new n was are adds;
  terms = ⊎_elim (ap (λ (t : TableParts). t.terms)) (ap (λ (t : TableParts). t.terms)) adds;
}

pub AddsTerm-tables : (old new : TableParts) (n : TermNode ℕ ℕ) → AreTables old → AreTables new → AddsTerm old new n → TablesGrow old new
AddsTerm-tables old new n was are adds = record {
  was = was;
  sound = are;
  width = ⊎_elim (ap (λ (t : TableParts). t.width)) (ap (λ (t : TableParts). t.width)) adds;
  nodes = AddsTerm-grows (nodes_in old) (nodes_in new) n was.rules are.rules (⊎_elim (λ e. inl (ap nodes_in e)) (λ e. inr (ap nodes_in e)) adds);
}
