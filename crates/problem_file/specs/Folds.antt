-- The results of actions on items, from left to right, or the first fault. A measurement includes the tokens after its
-- phrase, so the folds take these too.
use Rattle.std.specs.Prelude.{ℕ, List, [], ◌∷◌, Bool, true, false, if◌then◌else◌, Result, Ok, Err, Option, Some, None, option_and_then}
use Rattle.text_parser.specs.declared.fault.TextFault.{TextFault}
use Rattle.text_parser.specs.declared.fault.TextFault.TheVariants.{NumberTooWide}
use Rattle.text_parser.specs.declared.terminal.Terminal.TheVariants.{Separator, Zero}
use Rattle.text_parser.specs.declared.terminal.Separator.TheVariants.{Comma, CurlyClose, Equals}
use Rattle.text_parser.specs.Lexemes.{Lexeme}
use Rattle.text_parser.specs.Parsed.{◌>>=◌}
use Rattle.text_parser.specs.Actions.{context}
use Rattle.text_parser.specs.Phrases.{term, cond, Leaf, Phrase, cons_token, yield_before}
use Rattle.text_parser.specs.Folds.{fold}
use Rattle.while_lang.specs.BlockPhrases.{block, BlockPhrase, block_before}
use Rattle.while_lang.specs.BlockFolds.{fold_block}
use Rattle.problem_file.specs.declared.item_reading.Declared.TheVariants as what
use Rattle.problem_file.specs.declared.item_reading.Setting.{Setting}
use Rattle.problem_file.specs.declared.item_reading.Setting.TheVariants as setting
use Rattle.problem_file.specs.declared.item_reading.Comparison.{Comparison}
use Rattle.problem_file.specs.declared.item_reading.Comparison.TheVariants.{Equal, Below}
use Rattle.problem_file.specs.ItemActions.{Measurement, SidesMeasurement, TripleMeasurement, ItemActions}
use Rattle.problem_file.specs.Phrases.{Names, one_name, more_names, Numeral, zero_number, one_number, other_number, wide_number, Braced, TriplePhrase}
use Rattle.problem_file.specs.Phrases.{Body, tests, actions, variables, definition, program, hypothesis, hyp_triple, rounds, width, goal_equal, goal_below, goal_triple, Item}
use Rattle.problem_file.specs.Phrases.{lone_leaf, braced_onto, triple_onto, sides_onto, prog_onto, ended, spelled}

abbrev pub fold_names : {S : Type 0} → (S → ℕ → List ℕ → Result S TextFault) → S → Names → Result S TextFault
fold_names f s (one_name l) = f s l.at l.text
fold_names f s (more_names l c ns) = f s l.at l.text >>= λ u. fold_names f u ns

-- the place of a number, and the number if it is below 2^64
abbrev pub numeral_leaf : Numeral → Leaf
numeral_leaf (zero_number l) = l
numeral_leaf (one_number l) = l
numeral_leaf (other_number l n) = l
numeral_leaf (wide_number l) = l

abbrev pub numeral_value : Numeral → Result ℕ TextFault
numeral_value (zero_number l) = Ok 0
numeral_value (one_number l) = Ok 1
numeral_value (other_number l n) = Ok n
numeral_value (wide_number l) = Err (NumberTooWide l.at)

abbrev pub fold_setting : {S X : Type 0} → ItemActions S X → Setting → S → ℕ → Numeral → Result S TextFault
fold_setting g what s at n = g.begin_setting what s at >>= λ u. numeral_value n >>= λ v. g.set what s (numeral_leaf n).at v

abbrev pub fold_term : {S X : Type 0} → ItemActions S X → S → Phrase term → List Lexeme → Result (Measurement X) TextFault
fold_term g s p ts =
    fold (g.phrases s) (context 0 false false) p (g.phrases s).one_of >>= λ m. Ok (record { measure = m; tokens = yield_before p ts })

abbrev pub fold_cond : {S X : Type 0} → ItemActions S X → S → Bool → Phrase cond → List Lexeme → Result (Measurement X) TextFault
fold_cond g s compares p ts =
    fold (g.phrases s) (context 1 false compares) p ((g.phrases s).conds).one_of >>= λ m. Ok (record { measure = m; tokens = yield_before p ts })

abbrev pub fold_prog : {S X : Type 0} → ItemActions S X → S → BlockPhrase block → List Lexeme → Result (Measurement X) TextFault
fold_prog g s b ts = fold_block (g.blocks s) 0 b (g.blocks s).none >>= λ m. Ok (record { measure = m; tokens = block_before b ts })

-- the measure of the program that a side names, if it names one
abbrev pub lone_program : {S X : Type 0} → ItemActions S X → S → Phrase term → Option X
lone_program g s p = option_and_then (λ l. g.program s l.text) (lone_leaf p)

abbrev pub named_else : {X : Type 0} → List Lexeme → Option X → Result (Measurement X) TextFault → Result (Measurement X) TextFault
named_else ts (Some m) r = Ok (record { measure = m; tokens = ts })
named_else ts None r = r

abbrev pub fold_side : {S X : Type 0} → ItemActions S X → S → Phrase term → List Lexeme → Result (Measurement X) TextFault
fold_side g s p ts = named_else (yield_before p ts) (lone_program g s p) (fold_term g s p ts)

abbrev pub fold_braced : {S X : Type 0} → ItemActions S X → S → Bool → Braced → List Lexeme → Result (Measurement X) TextFault
fold_braced g s compares b ts = fold_cond g s compares b.inner (cons_token (Separator CurlyClose) b.right ts)

abbrev pub fold_middle : {S X : Type 0} → ItemActions S X → S → Bool → Phrase term → List Lexeme → Result (Measurement X) TextFault
fold_middle g s in_goal p ts = if in_goal then fold_side g s p ts else fold_term g s p ts

abbrev pub fold_triple : {S X : Type 0} → ItemActions S X → S → Bool → TriplePhrase → List Lexeme → Result (TripleMeasurement X) TextFault
fold_triple g s in_goal x ts =
    fold_braced g s in_goal x.pre (yield_before x.body (braced_onto x.post ts)) >>= λ m. fold_middle g s in_goal x.body (braced_onto x.post ts) >>= λ n.
    fold_braced g s in_goal x.post ts >>= λ o. Ok (record { pre = m; body = n; post = o })

abbrev pub fold_sides : {S X : Type 0} → ItemActions S X → S → Phrase term → Leaf → Phrase term → List Lexeme → Result (SidesMeasurement X) TextFault
fold_sides g s p c q ts =
    fold_side g s p (cons_token (Separator Comma) c (yield_before q ts)) >>= λ m. fold_side g s q ts >>= λ n. Ok (record { left = m; right = n })

-- a goal, and its own tokens after the keyword of the question
abbrev pub fold_comparison : {S X : Type 0} → ItemActions S X → Comparison → S → ℕ → Phrase term → Leaf → Phrase term → Leaf → List Lexeme → Result S TextFault
fold_comparison g what s at p c q e ts =
    g.begin_goal s at >>= λ u. fold_sides g s p c q (ended e ts) >>= λ m. g.check_numbers s (sides_onto p c q (ended e [])) >>= λ v. g.pose_sides what s at m

abbrev pub fold_triple_goal : {S X : Type 0} → ItemActions S X → S → ℕ → TriplePhrase → Leaf → List Lexeme → Result S TextFault
fold_triple_goal g s at x e ts =
    g.begin_goal s at >>= λ u. fold_triple g s true x (ended e ts) >>= λ m. g.check_numbers s (triple_onto x (ended e [])) >>= λ v. g.pose_triple s at m

-- a program, and its own tokens
abbrev pub fold_program : {S X : Type 0} → ItemActions S X → S → ℕ → Leaf → BlockPhrase block → List Lexeme → Result S TextFault
fold_program g s at name b ts =
    g.check_new s name.at name.text >>= λ u. fold_prog g s b ts >>= λ m. g.check_numbers s (prog_onto name b []) >>= λ v. g.define_prog s at name.text m

-- an item whose keyword is at the place, before these tokens
abbrev pub fold_body : {S X : Type 0} → ItemActions S X → S → ℕ → Body → List Lexeme → Result S TextFault
fold_body g s at (tests ns e) ts = fold_names (g.declare what.Test) s ns
fold_body g s at (actions ns e) ts = fold_names (g.declare what.Action) s ns
fold_body g s at (variables ns e) ts = fold_names (g.declare what.Var) s ns
fold_body g s at (definition name q p e) ts =
    g.check_new s name.at name.text >>= λ u. fold_term g s p (ended e ts) >>= g.define s at name.text
fold_body g s at (program name b) ts = fold_program g s at name b ts
fold_body g s at (hypothesis p q z e) ts =
    g.begin_hyp s at >>= λ u. fold_term g s p (cons_token (Separator Equals) q (cons_token Zero z (ended e ts))) >>= g.state_zero s at
fold_body g s at (hyp_triple l x e) ts = g.begin_hyp s at >>= λ u. fold_triple g s false x (ended e ts) >>= g.state_triple s at
fold_body g s at (rounds n e) ts = fold_setting g setting.Rounds s at n
fold_body g s at (width n e) ts = fold_setting g setting.Width s at n
fold_body g s at (goal_equal l p c q e) ts = fold_comparison g Equal s at p c q e ts
fold_body g s at (goal_below l p c q e) ts = fold_comparison g Below s at p c q e ts
fold_body g s at (goal_triple l x e) ts = fold_triple_goal g s at x e ts

abbrev pub fold_item : {S X : Type 0} → ItemActions S X → S → Item → List Lexeme → Result S TextFault
fold_item g s i ts = fold_body g s (i.keyword).at i.body ts

abbrev pub fold_items : {S X : Type 0} → ItemActions S X → S → List Item → Result S TextFault
fold_items g s [] = Ok s
fold_items g s (i ∷ is) = fold_item g s i (spelled is) >>= λ t. fold_items g t is
