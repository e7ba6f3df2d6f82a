-- Steps lead from a state to one state, so a text has one derivation or one first fault.
use Rattle.std.proofs.Common.{◌≡◌, ℕ, List, [], ◌∷◌, ◌++◌, refl, sym, ◌∙◌, ap, subst}
use mathlib.Core.Path.{ap₂}
use Rattle.text_parser.specs.declared.fault.TextFault.{TextFault}
use Rattle.flow_syntax.specs.declared.rule.Mark.{Mark}
use Rattle.flow_syntax.specs.declared.rule.Step.{Step}
use Rattle.flow_syntax.specs.Rules.{RuleParts}
use Rattle.flow_syntax.specs.Moves.{State, Move, move, finished, moved, refused}
use Rattle.flow_syntax.specs.Derivations.{LeadsTo, beginning, Derives, IsFirstFault}

-- one more step
pub leads_push : (rules : List RuleParts) (end : ℕ) (s : State) (steps : List Step) (u : State) (step : Step) (v : State) → LeadsTo rules end s steps u → move rules end u ≡ moved step v → LeadsTo rules end s (steps ++ step ∷ []) v
leads_push rules end s [] u step v h e = (v, ap (move rules end) h ∙ e, refl)
leads_push rules end s (x ∷ xs) u step v (t, f, h) e = (t, f, leads_push rules end t xs u step v h e)

same_step : (a b : Step) (s t : State) → moved a s ≡ moved b t → a ≡ b
same_step a b s t e = cc

same_next : (a b : Step) (s t : State) → moved a s ≡ moved b t → s ≡ t
same_next a b s t e = cc

moved_on : (a : Step) (s : State) → finished ≡ moved a s → ⊥
moved_on a s e = absurd cc

moved_off : (a : Step) (s : State) (f : TextFault) → refused f ≡ moved a s → ⊥
moved_off a s f e = absurd cc

not_refused : (f : TextFault) → finished ≡ refused f → ⊥
not_refused f e = absurd cc

same_fault : (f g : TextFault) → refused f ≡ refused g → f ≡ g
same_fault f g e = cc

-- a state that has no next one
abbrev pub IsLast : Move → Type 0
IsLast m = (a : Step) (s : State) → m ≡ moved a s → ⊥

-- two derivations that cannot be continued take the same steps to the same state
pub one_way : (rules : List RuleParts) (end : ℕ) (s : State) (xs bs : List Step) (t u : State) → LeadsTo rules end s xs t → LeadsTo rules end s bs u → IsLast (move rules end t) → IsLast (move rules end u) → (xs ≡ bs) × (t ≡ u)
one_way rules end s [] [] t u p q l k = (refl, sym p ∙ q)
one_way rules end s [] (b ∷ bs) t u p (v, e, q) l k = absurd (l b v (ap (move rules end) (sym p) ∙ e))
one_way rules end s (a ∷ xs) [] t u (v, e, p) q l k = absurd (k a v (ap (move rules end) (sym q) ∙ e))
one_way rules end s (a ∷ xs) (b ∷ bs) t u (v, e, p) (w, f, q) l k =
    let both : moved a v ≡ moved b w = sym e ∙ f in
    let rest = one_way rules end v xs bs t u p (subst (λ x. LeadsTo rules end x bs u) (sym (same_next a b v w both)) q) l k in
    (ap₂ (λ x ys. x ∷ ys) (same_step a b v w both) rest.0, rest.1)

last_finished : (m : Move) → m ≡ finished → IsLast m
last_finished m e a s f = moved_on a s (sym e ∙ f)

last_refused : (m : Move) (g : TextFault) → m ≡ refused g → IsLast m
last_refused m g e a s f = moved_off a s g (sym e ∙ f)

pub one_derivation : (rules : List RuleParts) (n : ℕ) (ms : List Mark) (end : ℕ) (xs bs : List Step) → Derives rules n ms end xs → Derives rules n ms end bs → xs ≡ bs
one_derivation rules n ms end xs bs p q =
    (one_way rules end (beginning n ms) xs bs p.last q.last p.leads q.leads (last_finished _ p.ends) (last_finished _ q.ends)).0

pub one_fault : (rules : List RuleParts) (n : ℕ) (ms : List Mark) (end : ℕ) (f g : TextFault) → IsFirstFault rules n ms end f → IsFirstFault rules n ms end g → f ≡ g
one_fault rules n ms end f g p q =
    let way = one_way rules end (beginning n ms) p.steps q.steps p.last q.last p.leads q.leads (last_refused _ f p.refuses) (last_refused _ g q.refuses) in
    same_fault f g (sym p.refuses ∙ (ap (move rules end) way.1 ∙ q.refuses))

pub not_both : (rules : List RuleParts) (n : ℕ) (ms : List Mark) (end : ℕ) (xs : List Step) (f : TextFault) → Derives rules n ms end xs → IsFirstFault rules n ms end f → ⊥
not_both rules n ms end xs f p q =
    let way = one_way rules end (beginning n ms) xs q.steps p.last q.last p.leads q.leads (last_finished _ p.ends) (last_refused _ f q.refuses) in
    not_refused f (sym p.ends ∙ (ap (move rules end) way.1 ∙ q.refuses))
