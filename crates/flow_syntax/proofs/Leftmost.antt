-- The steps of the reader are a leftmost derivation of the context-free grammar.
use Rattle.std.proofs.Common.{◌≡◌, ℕ, suc, ◌+◌, List, [], ◌∷◌, ◌++◌, Bool, true, false, ◌&&◌, nat_eq, nat_lt, if◌then◌else◌, Option, Some, None, Ok, Err, slice_get, refl, sym, ◌∙◌, ap, subst, arith}
use Rattle.std.proofs.lemmas.Bool.Decides.{nat_tests}
use Rattle.kat_model.specs.declared.limits.TheConstants.{MAX_OPEN}
use Rattle.text_parser.specs.declared.fault.TextFault.{TextFault}
use Rattle.text_parser.specs.declared.fault.TextFault.TheVariants.{TooDeep}
use Rattle.flow_syntax.specs.declared.rule.TheConstants.{OPEN_ROUND}
use Rattle.flow_syntax.specs.declared.rule.Mark.{Mark}
use Rattle.flow_syntax.specs.declared.rule.Part.{Part}
use Rattle.flow_syntax.specs.declared.rule.Part.TheVariants.{Token, Opening, Closing, Phrase}
use Rattle.flow_syntax.specs.declared.rule.Start.{Start}
use Rattle.flow_syntax.specs.declared.rule.Start.TheVariants.{Take, Open, Group, Otherwise}
use Rattle.flow_syntax.specs.declared.rule.Step.{Step}
use Rattle.flow_syntax.specs.declared.rule.Step.TheVariants.{Shift, Match}
use Rattle.flow_syntax.specs.Rules.{RuleParts, rule_parts, suits, applies, chosen_from, chosen}
use Rattle.flow_syntax.specs.Moves.{State, state, Move, finished, moved, refused, mismatch, taking, opening, stepped, predicted, move}
use Rattle.flow_syntax.specs.Derivations.{LeadsTo, Derives, IsLeftmost}

-- the rule chosen has the number that comes with it, and is one of the phrase
abbrev pub IsPlaced : List RuleParts → ℕ → Option (ℕ × RuleParts) → Type 0
IsPlaced all n None = Unit {0}
IsPlaced all n (Some (k, rule_parts p start parts)) = (p ≡ n) × (slice_get all k ≡ Some (rule_parts p start parts))

same_phrase : (all : List RuleParts) (n p : ℕ) (start : Start) (parts : List Part) (ms : List Mark) → applies all n ms (rule_parts p start parts) ≡ true → p ≡ n
same_phrase all n p start parts ms e = by_test (nat_eq p n) (suits all start ms) refl e
  where
    by_test : (b c : Bool) → nat_eq p n ≡ b → (b && c) ≡ true → p ≡ n
    by_test true c h e = grind (arith, nat_tests)
    by_test false c h e = absurd cc

if_placed : (all : List RuleParts) (n k p : ℕ) (start : Start) (parts : List Part) (b : Bool) (o : Option (ℕ × RuleParts)) → (b ≡ true → p ≡ n) → slice_get all k ≡ Some (rule_parts p start parts) → IsPlaced all n o → IsPlaced all n (if b then Some (k, rule_parts p start parts) else o)
if_placed all n k p start parts true o h e rest = (h refl, e)
if_placed all n k p start parts false o h e rest = rest

placed_from : (all : List RuleParts) (n : ℕ) (ms : List Mark) (k : ℕ) (rest : List RuleParts) → ((i : ℕ) → slice_get rest i ≡ slice_get all (k + i)) → IsPlaced all n (chosen_from all n ms k rest)
placed_from all n ms k [] h = tt
placed_from all n ms k (rule_parts p start parts ∷ rest) h =
    let here : k + 0 ≡ k = omega arith in
    if_placed all n k p start parts (applies all n ms (rule_parts p start parts)) (chosen_from all n ms (k + 1) rest)
    (same_phrase all n p start parts ms)
    (sym (h 0 ∙ ap (slice_get all) here))
    (placed_from all n ms (k + 1) rest (λ i. let next : k + suc i ≡ k + 1 + i = omega arith in h (suc i) ∙ ap (slice_get all) next))

chosen_placed : (all : List RuleParts) (n : ℕ) (ms : List Mark) → IsPlaced all n (chosen all n ms)
chosen_placed all n ms = placed_from all n ms 0 all (λ i. let e : i ≡ 0 + i = omega arith in ap (slice_get all) e)

-- a move from parts `ps` before tokens `ms` extends leftmost derivations
abbrev pub Extends : List RuleParts → List Part → List Mark → Move → Type 0
Extends all ps ms finished = IsLeftmost all ps [] ms
Extends all ps ms (moved step (state d qs ns)) = (steps : List Step) → IsLeftmost all qs steps ns → IsLeftmost all ps (step ∷ steps) ms
Extends all ps ms (refused fault) = Unit {0}

same_terminal : (t u : ℕ) → nat_eq t u ≡ true → t ≡ u
same_terminal t u e = grind (arith, nat_tests)

-- a token of terminal `t` is taken, and the state after it has depth `d` and parts `qs`
if_taken : (all : List RuleParts) (ps : List Part) (ms : List Mark) (step : Step) (d : ℕ) (qs : List Part) (rest : List Mark) (b : Bool) (fault : TextFault) → (b ≡ true → Extends all ps ms (moved step (state d qs rest))) → Extends all ps ms (stepped step (λ ns. state d qs ns) (if b then Ok rest else Err fault))
if_taken all ps ms step d qs rest true fault h = h refl
if_taken all ps ms step d qs rest false fault h = tt

if_opened : (all : List RuleParts) (ps : List Part) (ms : List Mark) (step : Step) (d : ℕ) (qs : List Part) (rest : List Mark) (b c : Bool) (fault deep : TextFault) → (b ≡ true → Extends all ps ms (moved step (state d qs rest))) → Extends all ps ms (stepped step (λ ns. state d qs ns) (if b then (if c then Ok rest else Err deep) else Err fault))
if_opened all ps ms step d qs rest true true fault deep h = h refl
if_opened all ps ms step d qs rest true false fault deep h = tt
if_opened all ps ms step d qs rest false c fault deep h = tt

taking_extends : (all : List RuleParts) (ps : List Part) (step : Step) (end t d : ℕ) (qs : List Part) (ms : List Mark) → ((m : Mark) (rest : List Mark) → m.terminal ≡ t → Extends all ps (m ∷ rest) (moved step (state d qs rest))) → Extends all ps ms (stepped step (λ ns. state d qs ns) (taking end t ms))
taking_extends all ps step end t d qs [] h = tt
taking_extends all ps step end t d qs (m ∷ ms) h =
    if_taken all ps (m ∷ ms) step d qs ms (nat_eq m.terminal t) (mismatch t m) (λ e. h m ms (same_terminal m.terminal t e))

opening_extends : (all : List RuleParts) (ps : List Part) (step : Step) (end o t d : ℕ) (qs : List Part) (ms : List Mark) → ((m : Mark) (rest : List Mark) → m.terminal ≡ t → Extends all ps (m ∷ rest) (moved step (state d qs rest))) → Extends all ps ms (stepped step (λ ns. state d qs ns) (opening end o t ms))
opening_extends all ps step end o t d qs [] h = tt
opening_extends all ps step end o t d qs (m ∷ ms) h =
    if_opened all ps (m ∷ ms) step d qs ms (nat_eq m.terminal t) (nat_lt o MAX_OPEN) (mismatch t m) (TooDeep m.at) (λ e. h m ms (same_terminal m.terminal t e))

predicted_extends : (all : List RuleParts) (end d n : ℕ) (ps : List Part) (ms : List Mark) (o : Option (ℕ × RuleParts)) → IsPlaced all n o → Extends all (Phrase n ∷ ps) ms (predicted end d ps ms o)
predicted_extends all end d n ps ms None h = tt
predicted_extends all end d n ps ms (Some (k, rule_parts p (Take t) parts)) h =
    taking_extends all (Phrase n ∷ ps) (Shift k) end t d (parts ++ ps) ms
    (λ m rest e steps l. (Take t, parts, subst (λ i. slice_get all k ≡ Some (rule_parts i (Take t) parts)) h.0 h.1, e, l))
predicted_extends all end d n ps ms (Some (k, rule_parts p (Open t) parts)) h =
    opening_extends all (Phrase n ∷ ps) (Shift k) end d t (d + 1) (parts ++ ps) ms
    (λ m rest e steps l. (Open t, parts, subst (λ i. slice_get all k ≡ Some (rule_parts i (Open t) parts)) h.0 h.1, e, l))
predicted_extends all end d n ps ms (Some (k, rule_parts p (Group g) parts)) h =
    opening_extends all (Phrase n ∷ ps) (Shift k) end d OPEN_ROUND (d + 1) (parts ++ ps) ms
    (λ m rest e steps l. (Group g, parts, subst (λ i. slice_get all k ≡ Some (rule_parts i (Group g) parts)) h.0 h.1, e, l))
predicted_extends all end d n ps ms (Some (k, rule_parts p Otherwise parts)) h =
    λ steps l. (parts, subst (λ i. slice_get all k ≡ Some (rule_parts i Otherwise parts)) h.0 h.1, l)

move_extends : (all : List RuleParts) (end d : ℕ) (ps : List Part) (ms : List Mark) → Extends all ps ms (move all end (state d ps ms))
move_extends all end d [] [] = tt
move_extends all end d [] (m ∷ ms) = tt
move_extends all end d (Token t ∷ ps) ms = taking_extends all (Token t ∷ ps) Match end t d ps ms (λ m rest e steps l. (e, l))
move_extends all end d (Opening t ∷ ps) ms = opening_extends all (Opening t ∷ ps) Match end d t (d + 1) ps ms (λ m rest e steps l. (e, l))
move_extends all end d (Closing ∷ ps) ms = λ steps l. l
move_extends all end d (Phrase n ∷ ps) ms = predicted_extends all end d n ps ms (chosen all n ms) (chosen_placed all n ms)

leads_leftmost : (all : List RuleParts) (end d : ℕ) (ps : List Part) (ms : List Mark) (steps : List Step) (t : State) → LeadsTo all end (state d ps ms) steps t → move all end t ≡ finished → IsLeftmost all ps steps ms
leads_leftmost all end d ps ms [] t l f = subst (Extends all ps ms) (ap (move all end) l ∙ f) (move_extends all end d ps ms)
leads_leftmost all end d ps ms (step ∷ steps) t (state e qs ns, m, l) f =
    subst (Extends all ps ms) m (move_extends all end d ps ms) steps (leads_leftmost all end e qs ns steps t l f)

pub derivation_leftmost : (all : List RuleParts) (n : ℕ) (ms : List Mark) (end : ℕ) (steps : List Step) → Derives all n ms end steps → IsLeftmost all (Phrase n ∷ []) steps ms
derivation_leftmost all n ms end steps p = leads_leftmost all end 0 (Phrase n ∷ []) ms steps p.last p.leads p.ends
