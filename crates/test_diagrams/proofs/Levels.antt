-- A diagram does not depend on the tests above its top.
use Rattle.std.proofs.Common.{◌≡◌, ◌≢◌, ℕ, zero, suc, ◌<◌, length, Bool, true, false, if◌then◌else◌, Some, slice_get, get_or, set, sym, ap, ◌∙◌, arith, get_or-set_same, get_or-set_other}
use Rattle.std.proofs.lemmas.Option.{slice_get-get_or, slice_get_within}
use Rattle.kat_model.specs.Steps.{Atom}
use Rattle.test_diagrams.specs.declared.diagrams.Node.{Node}
use Rattle.test_diagrams.specs.declared.diagrams.Node.TheVariants.{Constant, Branch}
use Rattle.test_diagrams.specs.Functions.{DiagramsParts, value_of, IsDiagramId, IsAtomOf}
use Rattle.test_diagrams.specs.Reduced.{level_at, level_of, IsReduced}
use Rattle.test_diagrams.proofs.Values.{value_of-constant, value_of-branch}

module _ (d : DiagramsParts) where
  pub node_of_id : (id : ℕ) → IsDiagramId d id → (node : Node) × (slice_get d.nodes id ≡ Some node)
  node_of_id id h = (get_or d.nodes id (Constant false), slice_get-get_or d.nodes id (Constant false) h)

  pub level_of-constant : (id : ℕ) (value : Bool) → slice_get d.nodes id ≡ Some (Constant value) → level_of d id ≡ d.tests
  level_of-constant id value e = ap (level_at d.tests) e

  pub level_of-branch : (id test low high : ℕ) → slice_get d.nodes id ≡ Some (Branch test low high) → level_of d id ≡ test
  level_of-branch id test low high e = ap (level_at d.tests) e

  -- the induction step for one node
  independent_step : IsReduced d → (id test : ℕ) (node : Node) (atom : Atom) (value : Bool) → slice_get d.nodes id ≡ Some node → test < level_of d id
      → ((part : ℕ) → part < id → test < level_of d part → value_of d part (set atom test value) ≡ value_of d part atom)
      → value_of d id (set atom test value) ≡ value_of d id atom
  independent_step r id test (Constant v) atom value e above parts = value_of-constant d id v _ e ∙ sym (value_of-constant d id v _ e)
  independent_step r id test (Branch own low high) atom value e above parts =
      let b = r.branches id own low high e in
      let level : level_of d id ≡ own = level_of-branch id own low high e in
      let other : own ≢ test = omega arith in
      let chosen : get_or (set atom test value) own false ≡ get_or atom own false = get_or-set_other atom test own value false other in
      let first : value_of d low (set atom test value) ≡ value_of d low atom = parts low b.low_earlier (omega (arith, b.low_below)) in
      let second : value_of d high (set atom test value) ≡ value_of d high atom = parts high b.high_earlier (omega (arith, b.high_below)) in
      value_of-branch d id own low high (set atom test value) e b.low_earlier b.high_earlier
      ∙ (λ k. if chosen k then second k else first k)
      ∙ sym (value_of-branch d id own low high atom e b.low_earlier b.high_earlier)

  independent_within : IsReduced d → (bound id test : ℕ) (atom : Atom) (value : Bool) → id < bound → IsDiagramId d id → test < level_of d id
      → value_of d id (set atom test value) ≡ value_of d id atom
  independent_within r zero id test atom value within there above = absurd (omega arith)
  independent_within r (suc bound) id test atom value within there above =
      let n = node_of_id id there in
      independent_step r id test n.0 atom value n.1 above (λ part earlier lower. independent_within r bound part test atom value (omega arith) (omega arith) lower)

  -- a diagram does not depend on a test above its top
  pub value_of-set_above : IsReduced d → (id test : ℕ) (atom : Atom) (value : Bool) → IsDiagramId d id → test < level_of d id → value_of d id (set atom test value) ≡ value_of d id atom
  value_of-set_above r id test atom value there above = independent_within r (suc id) id test atom value (omega arith) there above

  -- with its test set to a value, a branch equals one of its parts
  pub value_of-set_own : IsReduced d → (id test low high : ℕ) (atom : Atom) (value : Bool) → slice_get d.nodes id ≡ Some (Branch test low high) → IsAtomOf d atom
      → value_of d id (set atom test value) ≡ (if value then value_of d high atom else value_of d low atom)
  value_of-set_own r id test low high atom value e fits =
      let b = r.branches id test low high e in
      let there : id < length d.nodes = slice_get_within d.nodes id _ e in
      let inside : test < length atom = omega (arith, b.in_range) in
      let chosen : get_or (set atom test value) test false ≡ value = get_or-set_same atom test value false inside in
      let first : value_of d low (set atom test value) ≡ value_of d low atom = value_of-set_above r low test atom value (omega (arith, b.low_earlier)) b.low_below in
      let second : value_of d high (set atom test value) ≡ value_of d high atom = value_of-set_above r high test atom value (omega (arith, b.high_earlier)) b.high_below in
      value_of-branch d id test low high (set atom test value) e b.low_earlier b.high_earlier
      ∙ (λ k. if chosen k then second k else first k)

  -- the value of a branch at an atom is that of the part that the atom selects
  pub value_of-low : IsReduced d → (id test low high : ℕ) (atom : Atom) → slice_get d.nodes id ≡ Some (Branch test low high) → get_or atom test false ≡ false → value_of d low atom ≡ value_of d id atom
  value_of-low r id test low high atom e chosen =
      let b = r.branches id test low high e in
      sym (value_of-branch d id test low high atom e b.low_earlier b.high_earlier ∙ ap (λ v. if v then value_of d high atom else value_of d low atom) chosen)

  pub value_of-high : IsReduced d → (id test low high : ℕ) (atom : Atom) → slice_get d.nodes id ≡ Some (Branch test low high) → get_or atom test false ≡ true → value_of d high atom ≡ value_of d id atom
  value_of-high r id test low high atom e chosen =
      let b = r.branches id test low high e in
      sym (value_of-branch d id test low high atom e b.low_earlier b.high_earlier ∙ ap (λ v. if v then value_of d high atom else value_of d low atom) chosen)
