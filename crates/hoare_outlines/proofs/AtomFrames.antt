-- Allowed atoms, with the steps that no hypothesis rules out, keep the hypotheses as a frame.
use Rattle.std.proofs.Common.{◌≡◌, ⊎_elim, true, false, refl}
use Rattle.kat_model.specs.Trees.{Term, is_test}
use Rattle.kat_model.specs.Members.{Has}
use Rattle.kat_model.specs.Problems.{ProblemParts}
use Rattle.kat_model.specs.Steps.{Atom, out}
use Rattle.kat_model.specs.Relations.{RelatesIn}
use Rattle.kat_model.proofs.PathTables.{FitsProblem}
use Rattle.goal_forms.specs.TestTerms.{StepForm, HasStepForm, AreSimple}
use Rattle.goal_forms.proofs.StepForms.{test_related, step_related}
use Rattle.hoare_outlines.specs.Working.Reached.{atom_frame}

pub atoms_fit : (q : ProblemParts) → AreSimple q.hyps → FitsProblem (atom_frame q) q
atoms_fit q simple =
    record {
      wide = λ s is. is.0;
      acts = λ a s t acts. acts.0;
      keeps = λ h has s t is it r. ⊎_elim (tested h has s t is r) (stepped h has s t is it r) (simple h has);
    }
  where
    tested : (h : Term) → Has q.hyps h → (s t : Atom) → (atom_frame q).IsState s → RelatesIn (atom_frame q) h s t → is_test h ≡ true → ⊥
    tested h has s t is r e =
        let related = test_related (atom_frame q) h s t e r in
        let there : out h s ≡ true = related.1 in
        let never : out h s ≡ false = is.1 h has e in
        cc

    stepped : (h : Term) → Has q.hyps h → (s t : Atom) → (atom_frame q).IsState s → (atom_frame q).IsState t → RelatesIn (atom_frame q) h s t → (form : StepForm) × HasStepForm h form → ⊥
    stepped h has s t is it r form =
        let step = step_related (atom_frame q) h form.0 s t form.1 is it r in
        step.acts.1 (h, has, record { form = form.0; is_form = form.1; action = refl; before = step.before; after = step.after })
