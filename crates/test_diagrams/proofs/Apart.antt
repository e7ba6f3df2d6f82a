-- Different ids have different values at some atom.
use Rattle.std.proofs.Common.{◌≡◌, ◌≢◌, ℕ, zero, suc, max, ◌<◌, ◌⊎◌, inl, inr, ⊎_elim, length, Bool, true, false, Some, slice_get, set, replicate, refl, sym, ap, ◌∙◌, arith, length-set}
use Rattle.std.proofs.lemmas.Bool.{false≢true, true≢false, cases_order, cases_eq}
use Rattle.std.proofs.lemmas.List.{length-replicate}
use Rattle.std.proofs.lemmas.Option.{slice_get_within}
use Rattle.kat_model.specs.Steps.{Atom}
use Rattle.kat_model.proofs.Places.{one_place}
use Rattle.test_diagrams.specs.declared.diagrams.Node.{Node}
use Rattle.test_diagrams.specs.declared.diagrams.Node.TheVariants.{Constant, Branch}
use Rattle.test_diagrams.specs.Functions.{DiagramsParts, value_of, IsDiagramId, IsAtomOf, SameFunction, IsApart, DependsOn}
use Rattle.test_diagrams.specs.Reduced.{level_of, IsReduced}
use Rattle.test_diagrams.proofs.Values.{value_of-constant}
use Rattle.test_diagrams.proofs.Levels.{node_of_id, level_of-constant, level_of-branch, value_of-set_above, value_of-set_own}

-- a truth value differs from at least one of two different ones
one_differs : (a b c : Bool) → a ≢ b → (a ≢ c) ⊎ (b ≢ c)
one_differs false false c apart = absurd (apart refl)
one_differs true true c apart = absurd (apart refl)
one_differs false true false apart = inr true≢false
one_differs false true true apart = inl false≢true
one_differs true false true apart = inr false≢true
one_differs true false false apart = inl true≢false

pub same_id_same_function : (d : DiagramsParts) (i j : ℕ) → i ≡ j → SameFunction d i j
same_id_same_function d i j e atom fits = ap (λ k. value_of d k atom) e

module _ (d : DiagramsParts) (r : IsReduced d) where
  apart_sym : (i j : ℕ) → IsApart d i j → IsApart d j i
  apart_sym i j a = record { atom = a.atom; fits = a.fits; apart = λ e. a.apart (sym e) }

  -- two ids are apart if they have different values when a test is set to the same value
  apart_set : (i j test : ℕ) (atom : Atom) (value a b : Bool) → IsAtomOf d atom → value_of d i (set atom test value) ≡ a → value_of d j (set atom test value) ≡ b → a ≢ b → IsApart d i j
  apart_set i j test atom value a b fits left right ne = record {
    atom = set atom test value;
    fits = length-set atom test value ∙ fits;
    apart = λ e. ne (sym left ∙ e ∙ right);
  }

  constants_apart : (i j : ℕ) (a b : Bool) → slice_get d.nodes i ≡ Some (Constant a) → slice_get d.nodes j ≡ Some (Constant b) → i ≢ j → IsApart d i j
  constants_apart i j a b e f ne = record {
    atom = replicate d.tests false;
    fits = length-replicate d.tests false;
    apart = λ same.
        let equal : a ≡ b = sym (value_of-constant d i a _ e) ∙ same ∙ value_of-constant d j b _ f in
        ne (one_place d.nodes r.once i j (Constant b) (e ∙ ap (λ v. Some (Constant v)) equal) f);
  }

  -- a branch whose parts are apart, and an id that does not depend on its test, are apart
  branch_apart : (i j test low high : ℕ) → slice_get d.nodes i ≡ Some (Branch test low high) → IsDiagramId d j → test < level_of d j → IsApart d low high → IsApart d i j
  branch_apart i j test low high e there above parts =
      ⊎_elim
      (λ ne. apart_set i j test parts.atom false _ _ parts.fits (value_of-set_own d r i test low high parts.atom false e parts.fits) (value_of-set_above d r j test parts.atom false there above) ne)
      (λ ne. apart_set i j test parts.atom true _ _ parts.fits (value_of-set_own d r i test low high parts.atom true e parts.fits) (value_of-set_above d r j test parts.atom true there above) ne)
      (one_differs (value_of d low parts.atom) (value_of d high parts.atom) (value_of d j parts.atom) parts.apart)

  -- two branches on one test are apart if their low parts or their high parts are apart
  branches_apart : (i j test low high first second : ℕ) → slice_get d.nodes i ≡ Some (Branch test low high) → slice_get d.nodes j ≡ Some (Branch test first second)
      → IsApart d low first ⊎ IsApart d high second → IsApart d i j
  branches_apart i j test low high first second e f parts =
      ⊎_elim
      (λ a. apart_set i j test a.atom false _ _ a.fits (value_of-set_own d r i test low high a.atom false e a.fits) (value_of-set_own d r j test first second a.atom false f a.fits) a.apart)
      (λ a. apart_set i j test a.atom true _ _ a.fits (value_of-set_own d r i test low high a.atom true e a.fits) (value_of-set_own d r j test first second a.atom true f a.fits) a.apart)
      parts

  -- different ids below the bound are apart
  AreApartBelow : ℕ → Type 0
  AreApartBelow bound = (i j : ℕ) → i < bound → j < bound → IsDiagramId d i → IsDiagramId d j → i ≢ j → IsApart d i j

  parts_apart : (bound i test low high : ℕ) → i < suc bound → slice_get d.nodes i ≡ Some (Branch test low high) → AreApartBelow bound → IsApart d low high
  unfolding AreApartBelow
  parts_apart bound i test low high within e below =
      let b = r.branches i test low high e in
      let there : i < length d.nodes = slice_get_within d.nodes i _ e in
      below low high (omega (arith, b.low_earlier)) (omega (arith, b.high_earlier)) (omega (arith, b.low_earlier)) (omega (arith, b.high_earlier)) b.different

  -- two different branches on one test have low parts or high parts that are apart
  either_part_apart : (bound i j test low high first second : ℕ) → i < suc bound → j < suc bound → slice_get d.nodes i ≡ Some (Branch test low high) → slice_get d.nodes j ≡ Some (Branch test first second)
      → i ≢ j → AreApartBelow bound → IsApart d low first ⊎ IsApart d high second
  unfolding AreApartBelow
  either_part_apart bound i j test low high first second i_within j_within e f ne below =
      let p = r.branches i test low high e in
      let q = r.branches j test first second f in
      let i_there : i < length d.nodes = slice_get_within d.nodes i _ e in
      let j_there : j < length d.nodes = slice_get_within d.nodes j _ f in
      ⊎_elim
      (λ (low_same : low ≡ first). ⊎_elim
      (λ (high_same : high ≡ second). absurd (ne (one_place d.nodes r.once i j (Branch test first second) (e ∙ (λ k. Some (Branch test (low_same k) (high_same k)))) f)))
      (λ (high_apart : high ≢ second). inr (below high second (omega (arith, p.high_earlier)) (omega (arith, q.high_earlier)) (omega (arith, p.high_earlier)) (omega (arith, q.high_earlier)) high_apart))
      (cases_eq high second))
      (λ (low_apart : low ≢ first). inl (below low first (omega (arith, p.low_earlier)) (omega (arith, q.low_earlier)) (omega (arith, p.low_earlier)) (omega (arith, q.low_earlier)) low_apart))
      (cases_eq low first)

  -- the induction step: ids of the next node are apart
  apart_step : (bound i j : ℕ) (m n : Node) → i < suc bound → j < suc bound → slice_get d.nodes i ≡ Some m → slice_get d.nodes j ≡ Some n → i ≢ j → AreApartBelow bound → IsApart d i j
  apart_step bound i j (Constant a) (Constant b) i_within j_within e f ne below = constants_apart i j a b e f ne
  apart_step bound i j (Branch test low high) (Constant b) i_within j_within e f ne below =
      let level : level_of d j ≡ d.tests = level_of-constant d j b f in
      branch_apart i j test low high e (slice_get_within d.nodes j _ f) (omega (arith, (r.branches i test low high e).in_range)) (parts_apart bound i test low high i_within e below)
  apart_step bound i j (Constant a) (Branch test low high) i_within j_within e f ne below =
      let level : level_of d i ≡ d.tests = level_of-constant d i a e in
      apart_sym j i (branch_apart j i test low high f (slice_get_within d.nodes i _ e) (omega (arith, (r.branches j test low high f).in_range)) (parts_apart bound j test low high j_within f below))
  apart_step bound i j (Branch test low high) (Branch other first second) i_within j_within e f ne below =
      let i_level : level_of d i ≡ test = level_of-branch d i test low high e in
      let j_level : level_of d j ≡ other = level_of-branch d j other first second f in
      ⊎_elim
      (λ (same : test ≡ other).
      let moved = f ∙ ap (λ t. Some (Branch t first second)) (sym same) in
      branches_apart i j test low high first second e moved (either_part_apart bound i j test low high first second i_within j_within e moved ne below))
      (λ order. ⊎_elim
      (λ (lt : test < other). branch_apart i j test low high e (slice_get_within d.nodes j _ f) (omega arith) (parts_apart bound i test low high i_within e below))
      (λ (lt : other < test). apart_sym j i (branch_apart j i other first second f (slice_get_within d.nodes i _ e) (omega arith) (parts_apart bound j other first second j_within f below)))
      order)
      (cases_order test other)

  apart_below : (bound : ℕ) → AreApartBelow bound
  unfolding AreApartBelow
  apart_below zero i j i_within j_within i_there j_there ne = absurd (omega arith)
  apart_below (suc bound) i j i_within j_within i_there j_there ne =
      let m = node_of_id d i i_there in
      let n = node_of_id d j j_there in
      apart_step bound i j m.0 n.0 i_within j_within m.1 n.1 ne (apart_below bound)

  pub different_apart : (i j : ℕ) → IsDiagramId d i → IsDiagramId d j → i ≢ j → IsApart d i j
  unfolding AreApartBelow
  different_apart i j i_there j_there ne = apart_below (suc (max i j)) i j (omega arith) (omega arith) i_there j_there ne

  -- ids with the same function are equal
  pub same_function_same_id : (i j : ℕ) → IsDiagramId d i → IsDiagramId d j → SameFunction d i j → i ≡ j
  same_function_same_id i j i_there j_there same =
      ⊎_elim
      (λ (e : i ≡ j). e)
      (λ (ne : i ≢ j). let a = different_apart i j i_there j_there ne in absurd (a.apart (same a.atom a.fits)))
      (cases_eq i j)

  -- a branch depends on its test
  pub branch_depends : (id test low high : ℕ) → slice_get d.nodes id ≡ Some (Branch test low high) → DependsOn d id test
  branch_depends id test low high e =
      let b = r.branches id test low high e in
      let there : id < length d.nodes = slice_get_within d.nodes id _ e in
      let a = different_apart low high (omega (arith, b.low_earlier)) (omega (arith, b.high_earlier)) b.different in
      record {
        atom = a.atom;
        fits = a.fits;
        changes = λ same. a.apart (sym (value_of-set_own d r id test low high a.atom false e a.fits) ∙ same ∙ value_of-set_own d r id test low high a.atom true e a.fits);
      }
