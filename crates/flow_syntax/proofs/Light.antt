-- By a light grammar, each step leaves a lesser budget.
use Rattle.std.proofs.Common.{◌≡◌, ℕ, ◌+◌, List, [], ◌∷◌, ◌++◌, Bool, true, false, ◌&&◌, nat_eq, if◌then◌else◌, Option, Some, None, refl, subst, arith, slice_index_or}
use Rattle.std.proofs.lemmas.Bool.Decides.{nat_tests}
use Rattle.flow_syntax.specs.declared.rule.Mark.{Mark}
use Rattle.flow_syntax.specs.declared.rule.Part.{Part}
use Rattle.flow_syntax.specs.declared.rule.Start.{Start}
use Rattle.flow_syntax.specs.Rules.{RuleParts, rule_parts, suits, applies, chosen_from}
use Rattle.flow_syntax.specs.Weights.{total_weight, is_light, are_light}

pub total-append : (weights : List ℕ) (ps qs : List Part) → total_weight weights (ps ++ qs) ≡ total_weight weights ps + total_weight weights qs
total-append weights [] qs = omega arith
total-append weights (p ∷ ps) qs = let h = total-append weights ps qs in omega (arith, h)

-- the rule is light enough for phrase `n`
abbrev pub IsLightFor : List ℕ → ℕ → RuleParts → Type 0
IsLightFor weights n (rule_parts phrase start parts) = is_light start (total_weight weights parts) (slice_index_or weights n 0) ≡ true

abbrev pub IsLightChoice : List ℕ → ℕ → Option (ℕ × RuleParts) → Type 0
IsLightChoice weights n None = Unit {0}
IsLightChoice weights n (Some x) = IsLightFor weights n x.1

both : (a b : Bool) → (a && b) ≡ true → (a ≡ true) × (b ≡ true)
both true b e = (refl, e)
both false b e = absurd cc

-- a rule that applies to a phrase is of that phrase
its_phrase : (rules : List RuleParts) (n phrase : ℕ) (start : Start) (parts : List Part) (ms : List Mark) → applies rules n ms (rule_parts phrase start parts) ≡ true → phrase ≡ n
its_phrase rules n phrase start parts ms e =
    let h : nat_eq phrase n ≡ true = (both (nat_eq phrase n) (suits rules start ms) e).0 in grind (arith, nat_tests)

if_light : (b : Bool) (weights : List ℕ) (n : ℕ) (x : ℕ × RuleParts) (o : Option (ℕ × RuleParts)) → (b ≡ true → IsLightFor weights n x.1) → IsLightChoice weights n o → IsLightChoice weights n (if b then Some x else o)
if_light true weights n x o p q = p refl
if_light false weights n x o p q = q

pub light_from : (weights : List ℕ) (rules : List RuleParts) (n : ℕ) (ms : List Mark) (k : ℕ) (rest : List RuleParts) → are_light weights rest ≡ true → IsLightChoice weights n (chosen_from rules n ms k rest)
light_from weights rules n ms k [] h = tt
light_from weights rules n ms k (rule_parts phrase start parts ∷ rest) h =
    let two = both (is_light start (total_weight weights parts) (slice_index_or weights phrase 0)) (are_light weights rest) h in
    if_light (applies rules n ms (rule_parts phrase start parts)) weights n (k, rule_parts phrase start parts) (chosen_from rules n ms (k + 1) rest)
    (λ e. subst (λ i. is_light start (total_weight weights parts) (slice_index_or weights i 0) ≡ true) (its_phrase rules n phrase start parts ms e) two.0)
    (light_from weights rules n ms (k + 1) rest two.1)
