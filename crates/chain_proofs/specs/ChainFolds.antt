-- The value of a chain under actions, computed from left to right, or the first fault.
use Rattle.std.specs.Prelude.{ℕ, [], ◌∷◌, false, Option, None, Some, Result, Ok}
use Rattle.kat_model.specs.Trees.{Term}
use Rattle.text_parser.specs.declared.fault.TextFault.{TextFault}
use Rattle.text_parser.specs.Parsed.{◌>>=◌, place_of}
use Rattle.text_parser.specs.Actions.{context}
use Rattle.text_parser.specs.Phrases.{term, Phrase, yield_before}
use Rattle.text_parser.specs.Folds.{fold}
use Rattle.text_parser.specs.ScopeParts.{ScopeParts}
use Rattle.text_parser.specs.Measuring.{extents}
use Rattle.text_parser.specs.Building.{trees}
use Rattle.while_lang.specs.Blocks.{enter}
use Rattle.problem_file.specs.Phrases.{Numeral}
use Rattle.problem_file.specs.Folds.{numeral_value}
use Rattle.chain_rules.specs.Chains.{ChainTree}
use Rattle.chain_proofs.specs.ChainActions.{ChainActions}
use Rattle.chain_proofs.specs.ChainWalks.{has_inner, Reason}
use Rattle.chain_proofs.specs.ChainMaking.{total_with, making_chain}
use Rattle.chain_proofs.specs.ChainPhrases.{rule_leaf, Parts, no_parts, more_parts, Place, no_place, at_place, RulePhrase, Lines, no_lines, plain_line, line_around, ChainPhrase}

-- the number after a rule, or 0 without one
abbrev pub fold_number : Option Numeral → Result ℕ TextFault
fold_number None = Ok 0
fold_number (Some n) = numeral_value n

abbrev pub fold_parts : {Z T R P V : Type 0} → ChainActions Z T R P V → P → Parts → Result P TextFault
fold_parts g p no_parts = Ok p
fold_parts g p (more_parts dot n ps) = numeral_value n >>= λ v. fold_parts g (g.part p v) ps

abbrev pub fold_place : {Z T R P V : Type 0} → ChainActions Z T R P V → Place → Result P TextFault
fold_place g no_place = Ok g.whole
fold_place g (at_place l n ps) = numeral_value n >>= λ v. fold_parts g (g.part g.whole v) ps

abbrev pub fold_rule : {Z T R P V : Type 0} → ChainActions Z T R P V → RulePhrase → Result (Reason R P) TextFault
fold_rule g r =
    fold_number r.number
    >>= λ n. g.rule (rule_leaf r.name).at (rule_leaf r.name).text n
    >>= λ x. fold_place g r.place
    >>= λ p. Ok (record { rule = x; path = p; inner = has_inner (rule_leaf r.name).text })

-- the value of a term, from the number of open constructs around it and the state after the terms before it
abbrev pub TermFold : Type 0 → Type 0 → Type 0
TermFold Z T = ℕ → Z → Phrase term → Result (T × Z) TextFault

abbrev pub fold_lines : {Z T R P V : Type 0} → ChainActions Z T R P V → TermFold Z T → ℕ → V → Z → Lines → Result (V × Z) TextFault
fold_lines {Z} {T} {R} {P} {V} g t d v z no_lines = Ok (v, z)
fold_lines {Z} {T} {R} {P} {V} g t d v z (plain_line equals p by r end rest) =
    let line : Result (V × Z) TextFault = t d z p >>= λ x. fold_rule g r >>= λ y. Ok (g.line v x.0 y.rule y.path None, x.1) in
    line >>= λ c. fold_lines g t d c.0 c.1 rest
fold_lines {Z} {T} {R} {P} {V} g t d v z (line_around equals p by r opening first inner closing end rest) =
    let line : Result (V × Z) TextFault =
    t d z p
    >>= λ x. fold_rule g r
    >>= λ y. enter d opening.at
    >>= λ e. (t e x.1 first >>= λ a. fold_lines g t e (g.first a.0) a.1 inner)
    >>= λ c. Ok (g.line v x.0 y.rule y.path (Some c.0), c.1) in
    line >>= λ c. fold_lines g t d c.0 c.1 rest

abbrev pub fold_chain : {Z T R P V : Type 0} → ChainActions Z T R P V → TermFold Z T → ℕ → Z → ChainPhrase → Result (V × Z) TextFault
fold_chain g t d z p = t d z p.first >>= λ a. fold_lines g t d (g.first a.0) a.1 p.lines

-- the term of a phrase in a scope, measured before it is built, and the number of nodes of all terms so far
abbrev pub sized_fold : ScopeParts → TermFold ℕ Term
sized_fold w d total p =
    fold (extents w) (context d false false) p (λ m. m)
    >>= λ m. total_with (place_of (yield_before p [])) total m.nodes
    >>= λ all. fold (trees w) (context d false false) p (λ e. e ∷ [])
    >>= λ e. Ok (e, all)

-- the chain of a phrase in a scope, or the first fault of its names and sizes in text order
abbrev pub chain_of : ScopeParts → ChainPhrase → Result ChainTree TextFault
chain_of w p = fold_chain (making_chain w) (sized_fold w) 0 0 p >>= λ x. Ok x.0
