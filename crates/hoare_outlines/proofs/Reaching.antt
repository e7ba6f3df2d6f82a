-- Sets of reached atoms: along a statement and then others, along a branch, and along the turns of a loop.
use Rattle.std.proofs.Common.{◌≡◌, inl, inr, ⊎_elim, List, [], ◌∷◌, ◌++◌, false, not, ◌&&◌, ◌||◌, refl, sym, ◌∙◌, subst}
use Rattle.std.proofs.lemmas.Bool.{false≢true, and_parts, or_cases}
use Rattle.kat_model.specs.Trees.{TestTree, complement, Term, one, zero, test, product, star}
use Rattle.kat_model.specs.Problems.{ProblemParts}
use Rattle.kat_model.specs.Steps.{Atom, truth}
use Rattle.kat_model.specs.Relations.{Along, RelatesIn}
use Rattle.kat_model.proofs.ProductRelations.{product_of_relations}
use Rattle.while_lang.specs.Flows.{FlowTree, FlowStmt, skip, abort, assert, act as act_stmt, branch, loop, with_stmt}
use Rattle.while_lang.specs.Encoding.{branch_term, loop_term, stmt_terms, encoded}
use Rattle.hoare_outlines.specs.Working.AtomSets.{AtomSet, IsAllowedSet}
use Rattle.hoare_outlines.specs.Working.Reached.{atom_frame, Reached, ReachedInTurn, stmt_term}

-- the terms of a statement and the statements after it
pub terms_then : (s : FlowStmt) (rest : FlowTree) → stmt_terms (with_stmt s rest) ≡ stmt_term s ∷ stmt_terms rest
terms_then skip rest = refl
terms_then abort rest = refl
terms_then (assert b) rest = refl
terms_then (act_stmt a) rest = refl
terms_then (branch b f g) rest = refl
terms_then (loop b f) rest = refl

module _ (q : ProblemParts) where
  -- without statements, each atom is reached from itself
  pub reached_itself : (X : AtomSet) → IsAllowedSet q X → ReachedInTurn q [] X X
  reached_itself X allowed to wide h = (to, (wide, allowed to wide h), h, refl)

  pub reached_one : (X : AtomSet) → IsAllowedSet q X → Reached q one X X
  reached_one X allowed to wide h = (to, (wide, allowed to wide h), h, refl)

  pub reached_zero : (X Y : AtomSet) → ((atom : Atom) → Y atom ≡ false) → Reached q zero X Y
  reached_zero X Y none to wide h = absurd (false≢true (sym (none to) ∙ h))

  pub reached_test : (X : AtomSet) (b : TestTree) → IsAllowedSet q X → Reached q (test b) X (λ atom. X atom && truth b atom)
  reached_test X b allowed to wide h =
      let both = and_parts (X to) (truth b to) h in
      (to, (wide, allowed to wide both.0), both.0, (refl, both.1))

  pub reached_then : (e : Term) (es : List Term) (X Z Y : AtomSet) → Reached q e X Z → ReachedInTurn q es Z Y → ReachedInTurn q (e ∷ es) X Y
  reached_then e es X Z Y first rest to wide h =
      let r = rest to wide h in
      let p = first r.0 r.1.0 r.2 in
      (p.0, p.1, p.2, (r.0, r.1, p.3, r.3))

  -- along a test and a program
  pub reached_under : (b : TestTree) (f : FlowTree) (X Y : AtomSet) → IsAllowedSet q Y → ReachedInTurn q (stmt_terms f) (λ atom. X atom && truth b atom) Y → Reached q (product (test b) (encoded f)) X Y
  reached_under b f X Y allowed each to wide h =
      let r = each to wide h in
      let both = and_parts (X r.0) (truth b r.0) r.2 in
      let run = (product_of_relations (atom_frame q) (stmt_terms f) r.0 to r.1 (wide, allowed to wide h)).1 r.3 in
      (r.0, r.1, both.0, (r.0, r.1, (refl, both.1), run))

  pub reached_branch : (b : TestTree) (f g : FlowTree) (X Y Z : AtomSet) → Reached q (product (test b) (encoded f)) X Y → Reached q (product (test (complement b)) (encoded g)) X Z
      → Reached q (branch_term b (encoded f) (encoded g)) X (λ atom. Y atom || Z atom)
  reached_branch b f g X Y Z first second to wide h =
      ⊎_elim
      (λ y. let r = first to wide y in (r.0, r.1, r.2, inl r.3))
      (λ z. let r = second to wide z in (r.0, r.1, r.2, inr r.3))
      (or_cases (Y to) (Z to) h)

  -- ---- the turns of a loop

  along_more : (R : Atom → Atom → Type 0) (ks : List Atom) (i k j : Atom) → (atom_frame q).IsState j → Along (atom_frame q).IsState R i ks k → R k j → Along (atom_frame q).IsState R i (ks ++ j ∷ []) j
  along_more R [] i k j s a r = (s, subst (λ m. R m j) (sym a) r, refl)
  along_more R (m ∷ ks) i k j s a r = (a.0, a.1, along_more R ks m k j s a.2 r)

  pub reached_before : (e : Term) (X : AtomSet) → IsAllowedSet q X → Reached q (star e) X X
  reached_before e X allowed to wide h = (to, (wide, allowed to wide h), h, ([], refl))

  pub reached_again : (e : Term) (X I A : AtomSet) → IsAllowedSet q A → Reached q (star e) X I → Reached q e I A → Reached q (star e) X (λ atom. I atom || A atom)
  reached_again e X I A allowed so_far turn to wide h =
      ⊎_elim
      (so_far to wide)
      (λ a.
      let r = turn to wide a in
      let p = so_far r.0 r.1.0 r.2 in
      (p.0, p.1, p.2, (p.3.0 ++ to ∷ [], along_more (RelatesIn (atom_frame q) e) p.3.0 p.0 r.0 to (wide, allowed to wide a) p.3.1 r.3)))
      (or_cases (I to) (A to) h)

  pub reached_loop : (b : TestTree) (e : Term) (X I : AtomSet) → IsAllowedSet q I → Reached q (star (product (test b) e)) X I → Reached q (loop_term b e) X (λ atom. I atom && not (truth b atom))
  reached_loop b e X I allowed turns to wide h =
      let both = and_parts (I to) (not (truth b to)) h in
      let r = turns to wide both.0 in
      (r.0, r.1, r.2, (to, (wide, allowed to wide both.0), r.3, (refl, both.1)))
