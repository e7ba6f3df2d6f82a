-- If sets at the places of a program meet the rules by the form of the program, they meet its conditions.
use Rattle.std.proofs.Common.{◌≡◌, ℕ, suc, ◌+◌, ⊎_elim, List, [], ◌∷◌, ◌++◌, length, sym, ap, ◌∙◌, subst, arith, length-append}
use Rattle.kat_model.specs.Trees.{TestTree, top, complement}
use Rattle.kat_model.specs.Members.{Has}
use Rattle.kat_model.specs.Problems.{ProblemParts}
use Rattle.kat_model.specs.Steps.{Atom}
use Rattle.kat_model.proofs.Lists.{has_append}
use Rattle.while_lang.specs.Flows.{FlowTree, empty, skip_then, abort_then, assert_then, act_then, branch_then, loop_then}
use Rattle.outline_rules.specs.Places.{last_place}
use Rattle.outline_rules.specs.Follows.{Condition, implies, leads, conditions_from, IsMet}
use Rattle.hoare_outlines.specs.Working.AtomSets.{AtomSet}
use Rattle.hoare_outlines.specs.Working.Annotated.{ImpliesUnder, LeadsInto, Annotated}

module _ (q : ProblemParts) (note : ℕ → AtomSet) where
  -- the note at place n has the values of the set
  abbrev pub IsAt : ℕ → AtomSet → Type 0
  IsAt n X = (atom : Atom) → length atom ≡ q.tests → note n atom ≡ X atom

  -- the notes from place n on have the values of the sets
  abbrev pub AreAt : ℕ → List AtomSet → Type 0
  AreAt n [] = Unit {0}
  AreAt n (X ∷ Xs) = IsAt n X × AreAt (suc n) Xs

  abbrev pub AllMet : List Condition → Type 0
  AllMet cs = (c : Condition) → Has cs c → IsMet q note c

  more_met : (c : Condition) (cs : List Condition) → IsMet q note c → AllMet cs → AllMet (c ∷ cs)
  more_met c cs m all d h = ⊎_elim (λ e. subst (IsMet q note) e m) (all d) h

  both_met : (cs ds : List Condition) → AllMet cs → AllMet ds → AllMet (cs ++ ds)
  both_met cs ds first second c h = ⊎_elim (first c) (second c) (has_append cs ds c h)

  at_parts : (Xs Ys : List AtomSet) (n : ℕ) → AreAt n (Xs ++ Ys) → AreAt n Xs × AreAt (n + length Xs) Ys
  at_parts [] Ys n at = (tt, subst (λ m. AreAt m Ys) (omega arith) at)
  at_parts (X ∷ Xs) Ys n at =
      let rest = at_parts Xs Ys (suc n) at.1 in
      let e : suc n + length Xs ≡ n + length (X ∷ Xs) = omega arith in
      ((at.0, rest.0), subst (λ m. AreAt m Ys) e rest.1)

  met_implies : (n m : ℕ) (b : TestTree) (X Y : AtomSet) → IsAt n X → IsAt m Y → ImpliesUnder q X b Y → IsMet q note (implies n b m)
  met_implies n m b X Y at_n at_m im atom wide is h t = at_m atom wide ∙ im atom wide is (sym (at_n atom wide) ∙ h) t

  met_leads : (n a m : ℕ) (X Y : AtomSet) → IsAt n X → IsAt m Y → LeadsInto q X a Y → IsMet q note (leads n a m)
  met_leads n a m X Y at_n at_m lead x y lx ly ax ay h miss = lead x y lx ly ax ay (sym (at_n x lx) ∙ h) (sym (at_m y ly) ∙ miss)

  -- the conditions of a list of statements whose first place is n, and its last place
  pub record IsMetFrom (f : FlowTree) (n : ℕ) (sets : List AtomSet) (Y : AtomSet) : Type 0 where
    pub met : AllMet (conditions_from f n)
    pub last : last_place f n ≡ n + length sets
    pub end : IsAt (last_place f n) Y

  -- a statement without inner places precedes other statements
  plain_at : (X Z : AtomSet) (inner more sets : List AtomSet) (n : ℕ) → sets ≡ inner ++ Z ∷ more → inner ≡ [] → AreAt n (X ∷ sets) → AreAt (suc n) (Z ∷ more)
  plain_at X Z inner more sets n all none at = subst (λ (l : List AtomSet). AreAt (suc n) l) (all ∙ ap (λ (l : List AtomSet). l ++ Z ∷ more) none) at.1

  plain_count : (Z : AtomSet) (inner more sets : List AtomSet) (n m : ℕ) → sets ≡ inner ++ Z ∷ more → inner ≡ [] → m ≡ suc n + length more → m ≡ n + length sets
  plain_count Z inner more sets n m all none e = let count : length sets ≡ length (Z ∷ more) = ap length (all ∙ ap (λ (l : List AtomSet). l ++ Z ∷ more) none) in omega (arith, e, count)

  pub annotated_met : (f : FlowTree) (n : ℕ) (X : AtomSet) (sets : List AtomSet) (Y : AtomSet) → Annotated q f X sets Y → AreAt n (X ∷ sets) → IsMetFrom f n sets Y
  annotated_met empty n X sets Y h at =
      record {
        met = λ c k. absurd k;
        last = let none : length sets ≡ 0 = ap length h.0 in omega (arith, none);
        end = subst (IsAt n) h.1 at.0;
      }
  annotated_met (skip_then rest) n X sets Y h at =
      let here = plain_at X h.next h.inner h.more sets n h.all h.stmt.0 at in
      let later = annotated_met rest (suc n) h.next h.more Y h.rest here in
      record {
        met = more_met (implies n top (suc n)) _ (met_implies n (suc n) top X h.next at.0 here.0 h.stmt.1) later.met;
        last = plain_count h.next h.inner h.more sets n _ h.all h.stmt.0 later.last;
        end = later.end;
      }
  annotated_met (abort_then rest) n X sets Y h at =
      let here = plain_at X h.next h.inner h.more sets n h.all h.stmt.0 at in
      let later = annotated_met rest (suc n) h.next h.more Y h.rest here in
      record {
        met = later.met;
        last = plain_count h.next h.inner h.more sets n _ h.all h.stmt.0 later.last;
        end = later.end;
      }
  annotated_met (assert_then b rest) n X sets Y h at =
      let here = plain_at X h.next h.inner h.more sets n h.all h.stmt.0 at in
      let later = annotated_met rest (suc n) h.next h.more Y h.rest here in
      record {
        met = more_met (implies n b (suc n)) _ (met_implies n (suc n) b X h.next at.0 here.0 h.stmt.1) later.met;
        last = plain_count h.next h.inner h.more sets n _ h.all h.stmt.0 later.last;
        end = later.end;
      }
  annotated_met (act_then a rest) n X sets Y h at =
      let here = plain_at X h.next h.inner h.more sets n h.all h.stmt.0 at in
      let later = annotated_met rest (suc n) h.next h.more Y h.rest here in
      record {
        met = more_met (leads n a (suc n)) _ (met_leads n a (suc n) X h.next at.0 here.0 h.stmt.1) later.met;
        last = plain_count h.next h.inner h.more sets n _ h.all h.stmt.0 later.last;
        end = later.end;
      }
  annotated_met (branch_then b f g rest) n X sets Y h at =
      let s = h.stmt in
      let is : sets ≡ s.first ∷ (s.firsts ++ s.second ∷ s.seconds) ++ h.next ∷ h.more = h.all ∙ ap (λ (l : List AtomSet). l ++ h.next ∷ h.more) s.within in
      let parts = at_parts (s.first ∷ (s.firsts ++ s.second ∷ s.seconds)) (h.next ∷ h.more) (suc n) (subst (λ (l : List AtomSet). AreAt (suc n) l) is at.1) in
      let inner = at_parts (s.first ∷ s.firsts) (s.second ∷ s.seconds) (suc n) parts.0 in
      let first = annotated_met f (suc n) s.first s.firsts s.first_end s.runs_first inner.0 in
      let second_place : ℕ = suc (last_place f (suc n)) in
      let first_count : suc n + length (s.first ∷ s.firsts) ≡ second_place = omega (arith, first.last) in
      let second_at = subst (λ m. AreAt m (s.second ∷ s.seconds)) first_count inner.1 in
      let second = annotated_met g second_place s.second s.seconds s.second_end s.runs_second second_at in
      let after : ℕ = suc (last_place g second_place) in
      let inner_count : suc n + length (s.first ∷ (s.firsts ++ s.second ∷ s.seconds)) ≡ after = omega (arith, first.last, second.last, length-append s.firsts (s.second ∷ s.seconds)) in
      let here = subst (λ m. AreAt m (h.next ∷ h.more)) inner_count parts.1 in
      let later = annotated_met rest after h.next h.more Y h.rest here in
      let all_count : length sets ≡ length (s.first ∷ (s.firsts ++ s.second ∷ s.seconds)) + length (h.next ∷ h.more) = ap length is ∙ length-append (s.first ∷ (s.firsts ++ s.second ∷ s.seconds)) (h.next ∷ h.more) in
      let from_ends : List Condition = implies (last_place f (suc n)) top after ∷ implies (last_place g second_place) top after ∷ conditions_from rest after in
      let from_second : List Condition = implies n (complement b) second_place ∷ (conditions_from g second_place ++ from_ends) in
      record {
        met =
            more_met (implies n b (suc n)) (conditions_from f (suc n) ++ from_second) (met_implies n (suc n) b X s.first at.0 inner.0.0 s.enters_first)
            (both_met (conditions_from f (suc n)) from_second first.met
            (more_met (implies n (complement b) second_place) (conditions_from g second_place ++ from_ends) (met_implies n second_place (complement b) X s.second at.0 second_at.0 s.enters_second)
            (both_met (conditions_from g second_place) from_ends second.met
            (more_met (implies (last_place f (suc n)) top after) (implies (last_place g second_place) top after ∷ conditions_from rest after) (met_implies (last_place f (suc n)) after top s.first_end h.next first.end here.0 s.leaves_first)
            (more_met (implies (last_place g second_place) top after) (conditions_from rest after) (met_implies (last_place g second_place) after top s.second_end h.next second.end here.0 s.leaves_second)
            later.met)))));
        last = omega (arith, later.last, inner_count, all_count);
        end = later.end;
      }
  annotated_met (loop_then b f rest) n X sets Y h at =
      let s = h.stmt in
      let is : sets ≡ s.invariant ∷ s.body ∷ s.bodies ++ h.next ∷ h.more = h.all ∙ ap (λ (l : List AtomSet). l ++ h.next ∷ h.more) s.within in
      let whole = subst (λ (l : List AtomSet). AreAt (suc n) l) is at.1 in
      let body_place : ℕ = suc (suc n) in
      let parts = at_parts (s.body ∷ s.bodies) (h.next ∷ h.more) body_place whole.1 in
      let body = annotated_met f body_place s.body s.bodies s.body_end s.runs parts.0 in
      let after : ℕ = suc (last_place f body_place) in
      let inner_count : body_place + length (s.body ∷ s.bodies) ≡ after = omega (arith, body.last) in
      let here = subst (λ m. AreAt m (h.next ∷ h.more)) inner_count parts.1 in
      let later = annotated_met rest after h.next h.more Y h.rest here in
      let all_count : length sets ≡ length (s.invariant ∷ s.body ∷ s.bodies) + length (h.next ∷ h.more) = ap length is ∙ length-append (s.invariant ∷ s.body ∷ s.bodies) (h.next ∷ h.more) in
      let from_ends : List Condition = implies (last_place f body_place) top (suc n) ∷ implies (suc n) (complement b) after ∷ conditions_from rest after in
      record {
        met =
            more_met (implies n top (suc n)) (implies (suc n) b body_place ∷ (conditions_from f body_place ++ from_ends)) (met_implies n (suc n) top X s.invariant at.0 whole.0 s.enters)
            (more_met (implies (suc n) b body_place) (conditions_from f body_place ++ from_ends) (met_implies (suc n) body_place b s.invariant s.body whole.0 parts.0.0 s.turns)
            (both_met (conditions_from f body_place) from_ends body.met
            (more_met (implies (last_place f body_place) top (suc n)) (implies (suc n) (complement b) after ∷ conditions_from rest after) (met_implies (last_place f body_place) (suc n) top s.body_end s.invariant body.end whole.0 s.returns)
            (more_met (implies (suc n) (complement b) after) (conditions_from rest after) (met_implies (suc n) after (complement b) s.invariant h.next whole.0 here.0 s.leaves)
            later.met))));
        last = omega (arith, later.last, inner_count, all_count);
        end = later.end;
      }
