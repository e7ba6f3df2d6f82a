-- Terms that relate no states of a frame, because of the truth of their tests at the states.
use Rattle.std.proofs.Common.{ℕ, IsTrue, sym, ◌∙◌, subst}
use Rattle.kat_model.specs.Trees.{TestTree, Term, test, act, product}
use Rattle.kat_model.specs.Steps.{truth}
use Rattle.kat_model.specs.Relations.{Frame, RelatesIn}

-- the term relates no states
abbrev pub RelatesNone : {S : Type 0} → Frame S → Term → Type 0
RelatesNone {S} frame e = (s t : S) → frame.IsState s → frame.IsState t → RelatesIn frame e s t → ⊥

module _ {S : Type 0} (frame : Frame S) where
  abbrev IsTrueAt : TestTree → S → Type 0
  IsTrueAt b s = IsTrue (truth b (frame.atom s))

  pub two_tests : (b c : TestTree) → ((s : S) → IsTrueAt b s → IsTrueAt c s → ⊥) → RelatesNone frame (product (test b) (test c))
  two_tests b c never s t i j (k, state, (e, p), (e', q)) = never s p (subst (IsTrueAt c) (sym e) q)

  pub three_tests : (b c d : TestTree) → ((s : S) → IsTrueAt b s → IsTrueAt c s → IsTrueAt d s → ⊥) → RelatesNone frame (product (test b) (product (test c) (test d)))
  three_tests b c d never s t i j (k, state, (e, p), (k', state', (e', q), (e'', r))) =
      never s p (subst (IsTrueAt c) (sym e) q) (subst (IsTrueAt d) (sym (e ∙ e')) r)

  pub around_action : (b c : TestTree) (a : ℕ) → ((s t : S) → frame.IsState s → IsTrueAt b s → frame.Acts a s t → IsTrueAt c t → ⊥) → RelatesNone frame (product (test b) (product (act a) (test c)))
  around_action b c a never s t i j (k, state, (e, p), (k', state', acts, (e', q))) =
      never s k' i p (subst (λ x. frame.Acts a x k') (sym e) acts) q
