-- What the functions of the reader do, as moves.
use Rattle.std.proofs.Common.{◌≡◌, ◌<◌, ℕ, zero, suc, List, [], ◌∷◌, length, drop, Err, refl, arith}
use Rattle.text_parser.specs.declared.fault.TextFault.{TextFault}
use Rattle.text_parser.specs.declared.fault.TextFault.TheVariants.{NoMemory, Syntax}
use Rattle.flow_syntax.specs.declared.rule.Mark.{Mark}
use Rattle.flow_syntax.specs.declared.rule.Part.{Part}
use Rattle.flow_syntax.specs.declared.rule.Step.{Step}
use Rattle.flow_syntax.specs.Rules.{RuleParts}
use Rattle.flow_syntax.specs.Moves.{State, state, moved, refused, place_of, move}
use Rattle.flow_syntax.specs.Derivations.{LeadsTo, beginning, IsFirstFault, IsReaderFault}
use Rattle.flow_syntax.specs.Working.Reading.{Makes}
use Rattle.flow_syntax.specs.Weights.{AreLight, budget}
use Rattle.flow_syntax.proofs.Ending.{step_less}

-- the reader's fault where a state is refused
pub refused_by : (rules : List RuleParts) (n : ℕ) (ms : List Mark) (end : ℕ) (steps : List Step) (s : State) (ps : List Part) (f : TextFault) → LeadsTo rules end (beginning n ms) steps s → Makes ms ps (Err f) (move rules end s) → IsReaderFault rules n ms end f
refused_by rules n ms end steps s ps NoMemory l h = tt
refused_by rules n ms end steps s ps other l h = record { steps = steps; last = s; leads = l; refuses = h }

at_token : (rules : List RuleParts) (end d : ℕ) (ms : List Mark) (i : ℕ) → i < length ms → move rules end (state d [] (drop i ms)) ≡ refused (Syntax (place_of end (drop i ms)))
at_token rules end d [] i lt = absurd (omega (arith, lt))
at_token rules end d (m ∷ ms) zero lt = refl
at_token rules end d (m ∷ ms) (suc i) lt = at_token rules end d ms i (omega (arith, lt))

pub left_over : (rules : List RuleParts) (n : ℕ) (ms : List Mark) (end : ℕ) (steps : List Step) (d : ℕ) (ps : List Part) (i : ℕ) → LeadsTo rules end (beginning n ms) steps (state d ps (drop i ms)) → ps ≡ [] → i < length ms → IsFirstFault rules n ms end (Syntax (place_of end (drop i ms)))
left_over rules n ms end steps d ps i l e lt =
    record { steps = steps; last = state d ps (drop i ms); leads = l; refuses = rw e (at_token rules end d ms i lt) }

-- each step leaves a lesser budget
pub makes_less : (weights : List ℕ) (rules : List RuleParts) (end d i : ℕ) (p : Part) (ps qs rs : List Part) (ms : List Mark) (step : Step) (j e : ℕ) → AreLight weights rules → qs ≡ p ∷ ps → move rules end (state d (p ∷ ps) (drop i ms)) ≡ moved step (state e rs (drop j ms)) → budget weights (state e rs (drop j ms)) < budget weights (state d qs (drop i ms))
makes_less weights rules end d i p ps qs rs ms step j e light is made =
    rw (is) (step_less weights rules end (state d (p ∷ ps) (drop i ms)) step (state e rs (drop j ms)) light made)
