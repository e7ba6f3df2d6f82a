-- By a light grammar each step leaves a lesser budget, so each reading ends.
use Rattle.std.proofs.Common.{◌≡◌, ℕ, zero, suc, ◌+◌, ◌*◌, ◌<◌, List, [], ◌∷◌, ◌++◌, length, Bool, true, false, nat_eq, nat_lt, if◌then◌else◌, Option, Some, None, Ok, Err, ◌⊎◌, inl, inr, refl, subst, arith, slice_index_or}
use Rattle.std.proofs.lemmas.Bool.Decides.{nat_tests}
use Rattle.kat_model.specs.declared.limits.TheConstants.{MAX_OPEN}
use Rattle.text_parser.specs.declared.fault.TextFault.{TextFault}
use Rattle.text_parser.specs.declared.fault.TextFault.TheVariants.{TooDeep}
use Rattle.flow_syntax.specs.declared.rule.TheConstants.{OPEN_ROUND}
use Rattle.flow_syntax.specs.declared.rule.Mark.{Mark}
use Rattle.flow_syntax.specs.declared.rule.Part.{Part}
use Rattle.flow_syntax.specs.declared.rule.Part.TheVariants.{Token, Opening, Closing, Phrase}
use Rattle.flow_syntax.specs.declared.rule.Start.TheVariants.{Take, Open, Group, Otherwise}
use Rattle.flow_syntax.specs.declared.rule.Step.{Step}
use Rattle.flow_syntax.specs.declared.rule.Step.TheVariants.{Shift, Match}
use Rattle.flow_syntax.specs.Rules.{RuleParts, rule_parts, chosen}
use Rattle.flow_syntax.specs.Moves.{State, state, Move, finished, moved, refused, mismatch, taking, opening, stepped, predicted, move}
use Rattle.flow_syntax.specs.Derivations.{LeadsTo, beginning, Derives, IsFirstFault}
use Rattle.flow_syntax.specs.Weights.{AreLight, total_weight, budget}
use Rattle.flow_syntax.proofs.Light.{IsLightChoice, light_from, total-append}

-- the move leaves a budget below `b`
abbrev pub LeavesBelow : List ℕ → ℕ → Move → Type 0
LeavesBelow weights b finished = Unit {0}
LeavesBelow weights b (moved step u) = budget weights u < b
LeavesBelow weights b (refused fault) = Unit {0}

-- the tokens after the first
abbrev pub Less : List ℕ → ℕ → (List Mark → State) → List Mark → Type 0
Less weights b next [] = Unit {0}
Less weights b next (m ∷ ms) = budget weights (next ms) < b

if_stepped : (weights : List ℕ) (b : ℕ) (step : Step) (next : List Mark → State) (test : Bool) (rest : List Mark) (fault : TextFault) → budget weights (next rest) < b → LeavesBelow weights b (stepped step next (if test then Ok rest else Err fault))
if_stepped weights b step next true rest fault h = h
if_stepped weights b step next false rest fault h = tt

if_both : (weights : List ℕ) (b : ℕ) (step : Step) (next : List Mark → State) (test other : Bool) (rest : List Mark) (fault deep : TextFault) → budget weights (next rest) < b → LeavesBelow weights b (stepped step next (if test then (if other then Ok rest else Err deep) else Err fault))
if_both weights b step next true true rest fault deep h = h
if_both weights b step next true false rest fault deep h = tt
if_both weights b step next false other rest fault deep h = tt

taking_less : (weights : List ℕ) (b end t : ℕ) (step : Step) (next : List Mark → State) (ms : List Mark) → Less weights b next ms → LeavesBelow weights b (stepped step next (taking end t ms))
taking_less weights b end t step next [] h = tt
taking_less weights b end t step next (m ∷ ms) h = if_stepped weights b step next (nat_eq m.terminal t) ms (mismatch t m) h

opening_less : (weights : List ℕ) (b end d t : ℕ) (step : Step) (next : List Mark → State) (ms : List Mark) → Less weights b next ms → LeavesBelow weights b (stepped step next (opening end d t ms))
opening_less weights b end d t step next [] h = tt
opening_less weights b end d t step next (m ∷ ms) h = if_both weights b step next (nat_eq m.terminal t) (nat_lt d MAX_OPEN) ms (mismatch t m) (TooDeep m.at) h

-- the budget after the first token of a rule whose parts weigh less than 64 more than its phrase, of weight w
after_first : (weights : List ℕ) (d w : ℕ) (parts ps : List Part) (ms : List Mark) → nat_lt (total_weight weights parts) (64 + w) ≡ true → Less weights (64 * length ms + (w + total_weight weights ps)) (λ rest. state d (parts ++ ps) rest) ms
after_first weights d w parts ps [] h = tt
after_first weights d w parts ps (m ∷ ms) h =
    let e = total-append weights parts ps in
    let light : total_weight weights parts < 64 + w = grind (arith, nat_tests) in
    omega (arith, e, light)

predicted_less : (weights : List ℕ) (end d n : ℕ) (ps : List Part) (ms : List Mark) (o : Option (ℕ × RuleParts)) → IsLightChoice weights n o → LeavesBelow weights (64 * length ms + (slice_index_or weights n 0 + total_weight weights ps)) (predicted end d ps ms o)
predicted_less weights end d n ps ms None h = tt
predicted_less weights end d n ps ms (Some (k, rule_parts p (Take t) parts)) h =
    taking_less weights _ end t (Shift k) (λ rest. state d (parts ++ ps) rest) ms (after_first weights d (slice_index_or weights n 0) parts ps ms h)
predicted_less weights end d n ps ms (Some (k, rule_parts p (Open t) parts)) h =
    opening_less weights _ end d t (Shift k) (λ rest. state (d + 1) (parts ++ ps) rest) ms (after_first weights (d + 1) (slice_index_or weights n 0) parts ps ms h)
predicted_less weights end d n ps ms (Some (k, rule_parts p (Group g) parts)) h =
    opening_less weights _ end d OPEN_ROUND (Shift k) (λ rest. state (d + 1) (parts ++ ps) rest) ms (after_first weights (d + 1) (slice_index_or weights n 0) parts ps ms h)
predicted_less weights end d n ps ms (Some (k, rule_parts p Otherwise parts)) h =
    let e = total-append weights parts ps in
    let light : total_weight weights parts < slice_index_or weights n 0 = grind (arith, nat_tests) in
    omega (arith, e, light)

token_less : (weights : List ℕ) (d : ℕ) (ps : List Part) (ms : List Mark) → Less weights (64 * length ms + (1 + total_weight weights ps)) (λ rest. state d ps rest) ms
token_less weights d ps [] = tt
token_less weights d ps (m ∷ ms) = omega arith

-- each move leaves a lesser budget
pub move_less : (weights : List ℕ) (rules : List RuleParts) (end : ℕ) (s : State) → AreLight weights rules → LeavesBelow weights (budget weights s) (move rules end s)
move_less weights rules end (state d [] []) h = tt
move_less weights rules end (state d [] (m ∷ ms)) h = tt
move_less weights rules end (state d (Token t ∷ ps) ms) h = taking_less weights _ end t Match (λ rest. state d ps rest) ms (token_less weights d ps ms)
move_less weights rules end (state d (Opening t ∷ ps) ms) h = opening_less weights _ end d t Match (λ rest. state (d + 1) ps rest) ms (token_less weights (d + 1) ps ms)
move_less weights rules end (state d (Closing ∷ ps) ms) h = omega arith
move_less weights rules end (state d (Phrase n ∷ ps) ms) h = predicted_less weights end d n ps ms (chosen rules n ms) (light_from weights rules n ms 0 rules h)

pub step_less : (weights : List ℕ) (rules : List RuleParts) (end : ℕ) (s : State) (step : Step) (u : State) → AreLight weights rules → move rules end s ≡ moved step u → budget weights u < budget weights s
step_less weights rules end s step u h e = subst (LeavesBelow weights (budget weights s)) e (move_less weights rules end s h)

-- what a state leads to: the end of a derivation, or a fault
abbrev pub Ends : List RuleParts → ℕ → State → Type 0
Ends rules end s =
    ((steps : List Step) × (t : State) × LeadsTo rules end s steps t × (move rules end t ≡ finished))
    ⊎ ((fault : TextFault) × (steps : List Step) × (t : State) × LeadsTo rules end s steps t × (move rules end t ≡ refused fault))

later : (rules : List RuleParts) (end : ℕ) (s : State) (step : Step) (u : State) → move rules end s ≡ moved step u → Ends rules end u → Ends rules end s
later rules end s step u e (inl (steps, t, h, f)) = inl (step ∷ steps, t, (u, e, h), f)
later rules end s step u e (inr (fault, steps, t, h, f)) = inr (fault, step ∷ steps, t, (u, e, h), f)

ends_by : (weights : List ℕ) (rules : List RuleParts) (end b : ℕ) (s : State) (m : Move) → move rules end s ≡ m → LeavesBelow weights b m → ((u : State) → budget weights u < b → Ends rules end u) → Ends rules end s
ends_by weights rules end b s finished e h below = inl ([], s, refl, e)
ends_by weights rules end b s (moved step u) e h below = later rules end s step u e (below u h)
ends_by weights rules end b s (refused fault) e h below = inr (fault, [], s, refl, e)

ends_within : (weights : List ℕ) (rules : List RuleParts) (end n : ℕ) (s : State) → AreLight weights rules → budget weights s < n → Ends rules end s
ends_within weights rules end zero s h lt = absurd (omega (arith, lt))
ends_within weights rules end (suc n) s h lt =
    ends_by weights rules end (budget weights s) s (move rules end s) refl (move_less weights rules end s h)
    (λ u less. ends_within weights rules end n u h (omega (arith, lt, less)))

named : (rules : List RuleParts) (n : ℕ) (ms : List Mark) (end : ℕ) → Ends rules end (beginning n ms) → ((a : List Step) × Derives rules n ms end a) ⊎ ((b : TextFault) × IsFirstFault rules n ms end b)
named rules n ms end (inl (steps, t, h, f)) = inl (steps, record { last = t; leads = h; ends = f })
named rules n ms end (inr (fault, steps, t, h, f)) = inr (fault, record { steps = steps; last = t; leads = h; refuses = f })

-- each text has a derivation or a first fault
pub some_end : (weights : List ℕ) (rules : List RuleParts) (n : ℕ) (ms : List Mark) (end : ℕ) → AreLight weights rules → ((a : List Step) × Derives rules n ms end a) ⊎ ((b : TextFault) × IsFirstFault rules n ms end b)
some_end weights rules n ms end h =
    named rules n ms end (ends_within weights rules end (budget weights (beginning n ms) + 1) (beginning n ms) h (omega arith))
