-- What stays unchanged when nodes are added.
use Rattle.std.proofs.Common.{◌≡◌, ℕ, ◌+◌, ◌<◌, ⊎_elim, List, [], ◌∷◌, ◌++◌, length, Some, slice_get, get_or, refl, sym, ap, ◌∙◌, subst, arith, length-append, Bool, true, false, if◌then◌else◌}
use Rattle.std.proofs.lemmas.Option.{slice_get_within}
use Rattle.kat_model.specs.Members.{HasNoDoubles}
use Rattle.kat_model.proofs.Places.{slice_get-append_left, slice_get_last}
use Rattle.kat_model.proofs.ValuesInOrder.{course_of_values-append}
use Rattle.test_diagrams.specs.declared.diagrams.Node.{Node}
use Rattle.test_diagrams.specs.declared.diagrams.Node.TheVariants.{Branch}
use Rattle.test_diagrams.specs.Functions.{DiagramsParts, node_value, IsDiagramId, IsDiagramOf, KeepsFunctions}
use Rattle.test_diagrams.specs.Reduced.{level_at, level_of, IsBranch, IsReduced}
use Rattle.test_diagrams.specs.Working.Operations.{choice_of}
use Rattle.test_diagrams.proofs.Values.{value_of-branch}
use Rattle.test_diagrams.proofs.Kept.{KeepsFunctions-itself}

-- the collection with its nodes replaced by the given ones
abbrev pub with_nodes : DiagramsParts → List Node → DiagramsParts
with_nodes d nodes = record { tests = d.tests; nodes = nodes }

module _ (d : DiagramsParts) (more : List Node) where
  pub KeepsFunctions-more : KeepsFunctions d (with_nodes d (d.nodes ++ more))
  KeepsFunctions-more = record {
    tests = refl;
    ids = λ id h. omega (arith, length-append d.nodes more);
    values = λ id h atom. course_of_values-append (node_value atom) d.nodes more false id h;
  }

  level_of-more : (id : ℕ) → IsDiagramId d id → level_of (with_nodes d (d.nodes ++ more)) id ≡ level_of d id
  level_of-more id h = ap (level_at d.tests) (slice_get-append_left d.nodes more id h)

  branch_more : (id test low high : ℕ) → id < length d.nodes + 1 → IsBranch d id test low high → IsBranch (with_nodes d (d.nodes ++ more)) id test low high
  branch_more id test low high within b =
      let low_level : level_of (with_nodes d (d.nodes ++ more)) low ≡ level_of d low = level_of-more low (omega (arith, b.low_earlier)) in
      let high_level : level_of (with_nodes d (d.nodes ++ more)) high ≡ level_of d high = level_of-more high (omega (arith, b.high_earlier)) in
      record {
        in_range = b.in_range;
        low_earlier = b.low_earlier;
        high_earlier = b.high_earlier;
        low_below = omega (arith, b.low_below);
        high_below = omega (arith, b.high_below);
        different = b.different;
      }

-- a branch stays a branch when equal names replace its names
branch_renamed : (d : DiagramsParts) (id place test own low first high second : ℕ) → id ≡ place → Branch test low high ≡ Branch own first second → IsBranch d place test low high → IsBranch d id own first second
branch_renamed d id place test own low first high second same nodes b =
    let tests : test ≡ own = cc in
    let lows : low ≡ first = cc in
    let highs : high ≡ second = cc in
    subst (λ i. IsBranch d i own first second) (sym same) (subst (λ t. IsBranch d place t first second) tests (subst (λ l. IsBranch d place test l second) lows (subst (λ h. IsBranch d place test low h) highs b)))

-- adding a node that is a branch keeps the collection reduced
pub reduced_push : (d : DiagramsParts) (test low high : ℕ) → IsReduced d → IsBranch d (length d.nodes) test low high
    → HasNoDoubles (d.nodes ++ Branch test low high ∷ []) → IsReduced (with_nodes d (d.nodes ++ Branch test low high ∷ []))
reduced_push d test low high r b once = record {
  never = slice_get-append_left d.nodes _ 0 (slice_get_within d.nodes 0 _ r.never) ∙ r.never;
  always = slice_get-append_left d.nodes _ 1 (slice_get_within d.nodes 1 _ r.always) ∙ r.always;
  branches = λ id own first second e.
      ⊎_elim
      (λ old. let there : id < length d.nodes = slice_get_within d.nodes id _ old in branch_more d _ id own first second (omega arith) (r.branches id own first second old))
      (λ new. branch_renamed (with_nodes d _) id (length d.nodes) test own low first high second new.0 new.1 (branch_more d _ (length d.nodes) test low high (omega arith) b))
      (slice_get_last d.nodes (Branch test low high) id (Branch own first second) e);
  once = once;
}

-- the collection after a branch was added or found
pub record HasBranch (old new : DiagramsParts) (test low high id : ℕ) : Type 0 where
  pub kept : KeepsFunctions old new
  pub reduced : IsReduced new
  pub function : IsDiagramOf new id (choice_of old test low high)

-- the id of the branch has the function of the choice in the new collection
branch_has_choice : (old new : DiagramsParts) (test low high id : ℕ) → KeepsFunctions old new → IsReduced new → IsDiagramId old low → IsDiagramId old high → slice_get new.nodes id ≡ Some (Branch test low high)
    → HasBranch old new test low high id
branch_has_choice old new test low high id kept reduced low_there high_there e =
    let b = reduced.branches id test low high e in
    record {
      kept = kept;
      reduced = reduced;
      function = record {
        in_range = slice_get_within new.nodes id _ e;
        value = λ atom fits.
            value_of-branch new id test low high atom e b.low_earlier b.high_earlier
            ∙ (λ k. if get_or atom test false then kept.values high high_there atom k else kept.values low low_there atom k);
      };
    }

pub has_branch : (old new : DiagramsParts) (test low high id : ℕ) → IsReduced old → IsBranch old (length old.nodes) test low high → new.tests ≡ old.tests
    → (there : Bool) → new.nodes ≡ (if there then old.nodes else old.nodes ++ Branch test low high ∷ [])
    → HasNoDoubles new.nodes → slice_get new.nodes id ≡ Some (Branch test low high) → HasBranch old new test low high id
has_branch old new test low high id r b tests true nodes once e =
    let same : old ≡ new = λ k. record { tests = sym tests k; nodes = sym nodes k } in
    branch_has_choice old new test low high id (subst (KeepsFunctions old) same (KeepsFunctions-itself old)) (subst IsReduced same r) b.low_earlier b.high_earlier e
has_branch old new test low high id r b tests false nodes once e =
    let same : with_nodes old (old.nodes ++ Branch test low high ∷ []) ≡ new = λ k. record { tests = sym tests k; nodes = sym nodes k } in
    branch_has_choice old new test low high id (subst (KeepsFunctions old) same (KeepsFunctions-more old _)) (subst IsReduced same (reduced_push old test low high r b (subst HasNoDoubles nodes once))) b.low_earlier b.high_earlier e
