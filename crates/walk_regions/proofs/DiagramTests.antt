-- The test of a diagram, by its least test, and tables of tests as they grow.
use Rattle.std.proofs.Common.{◌≡◌, ◌≤◌, ◌+◌, ◌⊎◌, inl, inr, ⊎_elim, ℕ, Bool, true, false, cond, nat_eq, nat_lt, List, length, get_or, set, Some, refl, sym, ap, ◌∙◌, subst, arith}
use Rattle.std.specs.Map.{lookup}
use Rattle.indexmap.specs.IndexMap.{insert_entry}
use Rattle.std.proofs.lemmas.Bool.{eqb-true, eqb-false, ltb-true, ltb-false, false_from_ne_true}
use Rattle.std.proofs.lemmas.List.{set-get_or}
use Rattle.kat_model.specs.Members.{Has}
use Rattle.kat_model.specs.Problems.{IsTestInRange}
use Rattle.kat_model.specs.Steps.{Atom, truth}
use Rattle.kat_model.specs.Trees.{TestTree}
use Rattle.term_nodes.specs.NodeLists.{NodeParts}
use Rattle.term_nodes.specs.NodeTrees.{test_tree_at}
use Rattle.term_nodes.specs.Growth.{Grows}
use Rattle.test_diagrams.specs.Functions.{DiagramsParts, value_of, IsDiagramId, IsAtomOf, IsDiagramOf, IsConstant, DependsOn, IsIndependent, IsLeastTest, KeepsFunctions}
use Rattle.test_diagrams.specs.Reduced.{IsReduced}
use Rattle.test_diagrams.proofs.Apart.{different_apart}
use Rattle.partial_derivs.proofs.Entries.{insert_entry_has, lookup_has}
use Rattle.walk_pairs.proofs.FixedDiagrams.{IsFixedTo, fixed_independent}
use Rattle.walk_regions.specs.Working.StoredTests.{IsTestFor, IsFree, AreTestsFor}

-- ---- constants

-- the value of a constant diagram is whether it is the diagram that is always true
pub constant_value : (d : DiagramsParts) (id always : ℕ) (value : Bool) → IsReduced d → IsDiagramId d id → IsDiagramOf d always (λ atom. true) → IsConstant d id → value ≡ nat_eq id always → (atom : Atom) → IsAtomOf d atom → value ≡ value_of d id atom
constant_value d id always true reduced is all c e atom fits =
    sym (ap (λ i. value_of d i atom) (eqb-true id always (sym e)) ∙ all.value atom fits)
constant_value d id always false reduced is all c e atom fits =
    let apart = different_apart d reduced id always is all.in_range (eqb-false id always (sym e)) in
    let never : c.constant ≡ false = false_from_ne_true c.constant (λ t. apart.apart (c.value apart.atom apart.fits ∙ t ∙ sym (all.value apart.atom apart.fits))) in
    sym (c.value atom fits ∙ never)

-- ---- by the least test

-- a diagram that is free of the tests below `from` depends only on tests from `from` on
pub least_past : (d : DiagramsParts) (id from test : ℕ) → IsFree d id from → DependsOn d id test → from ≤ test
least_past d id from test free dep = go (nat_lt test from) refl
  where
    go : (b : Bool) → nat_lt test from ≡ b → from ≤ test
    go true e =
        let same = free test (ltb-true test from e) dep.atom dep.fits in
        absurd (dep.changes (same false ∙ sym (same true)))
    go false e = ltb-false test from e

-- a diagram with its least test fixed is free of that test too
pub fixed_free : (c d : DiagramsParts) (id low test : ℕ) (value : Bool) → d.tests ≡ c.tests → IsLeastTest c id test → IsFixedTo c d test value id low → IsFree d low (test + 1)
fixed_free c d id low test value tests least is t lt =
    fixed_independent c d test value id low t tests is (go (nat_eq t test) refl)
  where
    go : (b : Bool) → nat_eq t test ≡ b → IsIndependent c id t ⊎ (t ≡ test)
    go true e = inr (eqb-true t test e)
    go false e = let other = eqb-false t test e in inl (least.least t (omega (arith, lt, other)))

-- a diagram remains free of the tests when diagrams are added
pub free_kept : (c d : DiagramsParts) (id from : ℕ) → KeepsFunctions c d → IsDiagramId c id → IsFree c id from → IsFree d id from
free_kept c d id from kept is free t lt atom fits b = kept.values id is (set atom t b) ∙ free t lt atom (fits ∙ kept.tests) b ∙ sym (kept.values id is atom)

-- the value of the diagram, by the value of its least test
module _ (c d e g : DiagramsParts) (id test low high : ℕ) (first : KeepsFunctions c d) (second : KeepsFunctions d e) (rest : KeepsFunctions e g) (is : IsDiagramId c id)
    (is_low : IsFixedTo c d test false id low) (is_high : IsFixedTo d e test true id high) where
  pub chosen_value : (atom : Atom) → length atom ≡ g.tests → cond (get_or atom test false) (value_of g high atom) (value_of g low atom) ≡ value_of g id atom
  chosen_value atom wide = go (get_or atom test false) refl
    where
      in_e : IsAtomOf e atom
      in_e = wide ∙ rest.tests

      in_d : IsAtomOf d atom
      in_d = in_e ∙ second.tests

      own : (b : Atom) → value_of g id b ≡ value_of c id b
      own b = rest.values id (second.ids id (first.ids id is)) b ∙ second.values id (first.ids id is) b ∙ first.values id is b

      set_own : (v : Bool) → get_or atom test false ≡ v → set atom test v ≡ atom
      set_own v e = ap (set atom test) (sym e) ∙ set-get_or atom test false

      go : (v : Bool) → get_or atom test false ≡ v → cond v (value_of g high atom) (value_of g low atom) ≡ value_of g id atom
      go true e =
          rest.values high is_high.in_range atom ∙ is_high.value atom in_e ∙ first.values id is (set atom test true)
          ∙ ap (value_of c id) (set_own true e) ∙ sym (own atom)
      go false e =
          rest.values low (second.ids low is_low.in_range) atom ∙ second.values low is_low.in_range atom ∙ is_low.value atom in_d
          ∙ ap (value_of c id) (set_own false e) ∙ sym (own atom)

-- ---- tables

pub test_later : (s t : NodeParts) (c d : DiagramsParts) (id test : ℕ) → Grows s t → KeepsFunctions c d → IsDiagramId c id → IsTestFor s c.tests test (value_of c id) → IsTestFor t d.tests test (value_of d id)
test_later s t c d id test grows kept is own = record {
  is_id = grows.test_numbers test own.is_id;
  in_range = subst (λ m. IsTestInRange m (test_tree_at t test)) (sym kept.tests) (subst (IsTestInRange c.tests) (sym (grows.test_trees test own.is_id)) own.in_range);
  value = λ atom wide. ap (λ (b : TestTree). truth b atom) (grows.test_trees test own.is_id) ∙ own.value atom (wide ∙ kept.tests) ∙ sym (kept.values id is atom);
}

pub table_later : (s t : NodeParts) (c d : DiagramsParts) (es : List (ℕ × ℕ)) → Grows s t → KeepsFunctions c d → AreTestsFor s c es → AreTestsFor t d es
table_later s t c d es grows kept are e h = let own = are e h in (kept.ids e.0 own.0, test_later s t c d e.0 e.1 grows kept own.0 own.1)

pub table_found : (s : NodeParts) (d : DiagramsParts) (es : List (ℕ × ℕ)) (id test : ℕ) → lookup (nat_eq id) es ≡ Some test → AreTestsFor s d es → IsTestFor s d.tests test (value_of d id)
table_found s d es id test e are = (are (id, test) (lookup_has nat_eq eqb-true id es test e)).1

pub table_noted : (s : NodeParts) (d : DiagramsParts) (es new : List (ℕ × ℕ)) (id test : ℕ) → new ≡ insert_entry nat_eq es id test → AreTestsFor s d es → IsDiagramId d id → IsTestFor s d.tests test (value_of d id) → AreTestsFor s d new
table_noted s d es new id test is are own tested e h =
    ⊎_elim
    (λ old. are e old)
    (λ x. subst (λ (y : ℕ × ℕ). IsDiagramId d y.0 × IsTestFor s d.tests y.1 (value_of d y.0)) (sym x) (own, tested))
    (insert_entry_has nat_eq eqb-true id test es e (subst (λ l. Has l e) is h))
