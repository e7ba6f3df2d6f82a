-- The values of a derivation, with another first step.
use Rattle.std.proofs.Common.{◌≡◌, ◌≤◌, ◌<◌, ℕ, zero, suc, ◌+◌, ◌-◌, List, [], ◌∷◌, ◌++◌, length, drop, get_or, refl, ap, arith}
use Rattle.std.proofs.lemmas.List.{drop_more}
use Rattle.text_parser.specs.declared.token.Token.{Token}
use Rattle.text_parser.specs.TokenParts.{parts_of_token, parts_of_tokens}
use Rattle.flow_syntax.specs.declared.rule.Mark.{Mark}
use Rattle.flow_syntax.specs.declared.rule.Part.{Part}
use Rattle.flow_syntax.specs.declared.rule.Part.TheVariants.{Token as TokenOf, Opening, Closing, Phrase}
use Rattle.flow_syntax.specs.declared.rule.Step.{Step}
use Rattle.flow_syntax.specs.declared.rule.Step.TheVariants.{Shift, Apply, Match, Close}
use Rattle.flow_syntax.specs.Rules.{RuleParts}
use Rattle.flow_syntax.specs.Derivations.{Derives, IsLeftmost}
use Rattle.flow_syntax.specs.Values.{Actions, taken_by, count_taken, with_leaf}
use Rattle.flow_syntax.proofs.Leftmost.{derivation_leftmost}

pub taken_within : (steps : List Step) (k : ℕ) → count_taken (drop k steps) ≤ count_taken steps
taken_within steps zero = omega arith
taken_within [] (suc k) = omega arith
taken_within (step ∷ steps) (suc k) = let h = taken_within steps k in omega (arith, h)

-- the step before those from `left` on takes no more tokens than there are before index `at`
pub taken_fits : (steps : List Step) (left at n : ℕ) (d : Step) → 0 < left → left ≤ length steps → at + count_taken (drop left steps) ≡ n → count_taken steps ≡ n → taken_by (get_or steps (left - 1) d) ≤ at
taken_fits steps left at n d some within place taken =
    let back : left - 1 + 1 ≡ left = omega (arith, some) in
    let more : count_taken (drop (left - 1) steps) ≡ taken_by (get_or steps (left - 1) d) + count_taken (drop (left - 1 + 1) steps) = ap count_taken (drop_more steps (left - 1) d (omega (arith, some, within))) in
    let same : count_taken (drop (left - 1 + 1) steps) ≡ count_taken (drop left steps) = ap (λ i. count_taken (drop i steps)) back in
    let below : count_taken (drop (left - 1) steps) ≤ count_taken steps = taken_within steps (left - 1) in
    omega (arith, more, same, below, place, taken)

-- the value of the token at an index
pub leaf_made : {V : Type 0} (g : Actions V) (ts : List Token) (i : ℕ) (d : Token) (vs : List V) → i < length ts → with_leaf g (drop i (parts_of_tokens ts)) vs ≡ g.leaf (parts_of_token (get_or ts i d)) ∷ vs
leaf_made g [] i d vs lt = absurd (omega (arith, lt))
leaf_made g (x ∷ xs) zero d vs lt = refl
leaf_made g (x ∷ xs) (suc i) d vs lt = leaf_made g xs i d vs (omega (arith, lt))

-- a leftmost derivation takes all tokens
leftmost_taken : (rules : List RuleParts) (ps : List Part) (steps : List Step) (ms : List Mark) → IsLeftmost rules ps steps ms → count_taken steps ≡ length ms
leftmost_taken rules [] [] [] l = refl
leftmost_taken rules (TokenOf t ∷ ps) (Match ∷ steps) (m ∷ ms) (e, l) = let h = leftmost_taken rules ps steps ms l in omega (arith, h)
leftmost_taken rules (Opening t ∷ ps) (Match ∷ steps) (m ∷ ms) (e, l) = let h = leftmost_taken rules ps steps ms l in omega (arith, h)
leftmost_taken rules (Closing ∷ ps) (Close ∷ steps) ms l = let h = leftmost_taken rules ps steps ms l in omega (arith, h)
leftmost_taken rules (Phrase n ∷ ps) (Shift k ∷ steps) (m ∷ ms) (start, parts, e, s, l) = let h = leftmost_taken rules (parts ++ ps) steps ms l in omega (arith, h)
leftmost_taken rules (Phrase n ∷ ps) (Apply k ∷ steps) ms (parts, e, l) = let h = leftmost_taken rules (parts ++ ps) steps ms l in omega (arith, h)
leftmost_taken rules ps steps ms l = absurd l

pub derived_taken : (rules : List RuleParts) (n : ℕ) (ms : List Mark) (end : ℕ) (steps : List Step) → Derives rules n ms end steps → count_taken steps ≡ length ms
derived_taken rules n ms end steps d = leftmost_taken rules (Phrase n ∷ []) steps ms (derivation_leftmost rules n ms end steps d)
