-- The items of a problem file, read one after the other with any actions.
use Rattle.std.specs.Prelude.{ℕ, zero, suc, List, [], ◌∷◌, length, drop, Bool, true, false, if◌then◌else◌, Result, Ok, Err, Option, Some, None, option_and_then}
use Rattle.text_parser.specs.declared.fault.TextFault.{TextFault}
use Rattle.text_parser.specs.declared.fault.TextFault.TheVariants.{NoMemory, Syntax, NumberTooWide}
use Rattle.text_parser.specs.declared.terminal.Terminal.TheVariants.{Name, Keyword, Separator, Zero, One, Number, WideNumber}
use Rattle.text_parser.specs.declared.terminal.Keyword.TheVariants as word
use Rattle.text_parser.specs.declared.terminal.Separator.TheVariants.{Comma, Semicolon, CurlyOpen, CurlyClose, Equals}
use Rattle.text_parser.specs.Lexemes.{Lexeme, lexeme, heads, is_terminal}
use Rattle.text_parser.specs.Parsed.{Parsed, ◌>>=◌, at_end, before, change, expects, then_expects, place_of}
use Rattle.text_parser.specs.Actions.{context}
use Rattle.text_parser.specs.Conds.{parse_cond, disjunction}
use Rattle.text_parser.specs.Terms.{parse_term, choice}
use Rattle.text_parser.specs.Phrases.{term, Leaf}
use Rattle.text_parser.specs.Ends.{goes_on}
use Rattle.while_lang.specs.Blocks.{block, parse_block}
use Rattle.problem_file.specs.declared.item_reading.Declared.TheVariants as what
use Rattle.problem_file.specs.declared.item_reading.Setting.{Setting}
use Rattle.problem_file.specs.declared.item_reading.Setting.TheVariants as setting
use Rattle.problem_file.specs.declared.item_reading.Comparison.{Comparison}
use Rattle.problem_file.specs.declared.item_reading.Comparison.TheVariants.{Equal, Below}
use Rattle.problem_file.specs.Numbers.{until}
use Rattle.problem_file.specs.ItemActions.{Measurement, SidesMeasurement, TripleMeasurement, ItemActions}

-- ---- names and numbers

-- the first token, which must be a name
abbrev pub name_at : List Lexeme → Result Leaf TextFault
name_at [] = Err (Syntax at_end)
name_at (lexeme Name at text ∷ ts) = Ok (record { at = at; text = text })
name_at (lexeme _ at text ∷ ts) = Err (Syntax at)

-- runs the action on the name that comes first
abbrev pub at_name : {S : Type 0} → (ℕ → List ℕ → Result S TextFault) → List Lexeme → Parsed S
at_name f ts = name_at ts >>= λ l. before (drop 1 ts) (f l.at l.text)

-- one or more names with commas between
abbrev pub names_within : {S : Type 0} → ℕ → (S → ℕ → List ℕ → Result S TextFault) → S → List Lexeme → Parsed S
names_within zero f s ts = Err NoMemory
names_within (suc n) f s ts = at_name (f s) ts >>= λ x. if heads (is_terminal (Separator Comma)) x.1 then names_within n f x.0 (drop 1 x.1) else Ok x

abbrev pub over_names : {S : Type 0} → (S → ℕ → List ℕ → Result S TextFault) → S → List Lexeme → Parsed S
over_names f s ts = names_within (suc (length ts)) f s ts

-- the first token, which must be a number below 2^64
abbrev pub number_at : List Lexeme → Result ℕ TextFault
number_at [] = Err (Syntax at_end)
number_at (lexeme Zero at text ∷ ts) = Ok 0
number_at (lexeme One at text ∷ ts) = Ok 1
number_at (lexeme (Number n) at text ∷ ts) = Ok n
number_at (lexeme WideNumber at text ∷ ts) = Err (NumberTooWide at)
number_at (lexeme _ at text ∷ ts) = Err (Syntax at)

-- runs the action on the number that comes first
abbrev pub at_number : {S : Type 0} → (ℕ → ℕ → Result S TextFault) → List Lexeme → Parsed S
at_number f ts = number_at ts >>= λ n. before (drop 1 ts) (f (place_of ts) n)

-- the first name, if it is a whole term
abbrev pub lone_name : List Lexeme → Option (List ℕ)
lone_name [] = None
lone_name (lexeme Name at text ∷ ts) = if heads (goes_on term) ts then None else Some text
lone_name (lexeme _ at text ∷ ts) = None

-- ---- phrases by actions

-- the measure of the term at the start of the tokens
abbrev pub measure_term : {S X : Type 0} → ItemActions S X → S → List Lexeme → Parsed X
measure_term g s ts = parse_term (g.phrases s) choice (context 0 false false) ts

-- the same for a condition in braces, which count as one level
abbrev pub measure_cond : {S X : Type 0} → ItemActions S X → S → Bool → List Lexeme → Parsed X
measure_cond g s compares ts = parse_cond (g.phrases s).conds disjunction (context 1 false compares) ts

-- the same for a block
abbrev pub measure_block : {S X : Type 0} → ItemActions S X → S → List Lexeme → Parsed X
measure_block g s ts = parse_block (g.blocks s) block 0 ts

abbrev pub term_by : {S X : Type 0} → ItemActions S X → S → List Lexeme → Parsed (Measurement X)
term_by g s ts = change (λ m. record { measure = m; tokens = ts }) (measure_term g s ts)

abbrev pub cond_by : {S X : Type 0} → ItemActions S X → S → Bool → List Lexeme → Parsed (Measurement X)
cond_by g s compares ts = change (λ m. record { measure = m; tokens = ts }) (measure_cond g s compares ts)

abbrev pub block_by : {S X : Type 0} → ItemActions S X → S → List Lexeme → Parsed (Measurement X)
block_by g s ts = change (λ m. record { measure = m; tokens = ts }) (measure_block g s ts)

-- the measure of the program that a side names, if the side is only a program's name
abbrev pub program_by : {S X : Type 0} → ItemActions S X → S → List Lexeme → Option X
program_by g s ts = option_and_then (g.program s) (lone_name ts)

abbrev pub named_or : {X : Type 0} → List Lexeme → Option X → Parsed (Measurement X) → Parsed (Measurement X)
named_or ts (Some m) p = Ok (record { measure = m; tokens = ts }, drop 1 ts)
named_or ts None p = p

-- a side of a goal: the name of a program, or a term
abbrev pub side_by : {S X : Type 0} → ItemActions S X → S → List Lexeme → Parsed (Measurement X)
side_by g s ts = named_or ts (program_by g s ts) (term_by g s ts)

-- "{" cond "}"
abbrev pub braced_by : {S X : Type 0} → ItemActions S X → S → Bool → List Lexeme → Parsed (Measurement X)
braced_by g s compares ts = expects (is_terminal (Separator CurlyOpen)) ts >>= λ a. then_expects (is_terminal (Separator CurlyClose)) (cond_by g s compares a)

-- the middle part of a triple: a side of a goal, or the term of a hypothesis
abbrev pub middle_by : {S X : Type 0} → ItemActions S X → S → Bool → List Lexeme → Parsed (Measurement X)
middle_by g s in_goal ts = if in_goal then side_by g s ts else term_by g s ts

-- "{" cond "}" term "{" cond "}"; in a goal the conditions may compare, and the middle part may be a program
abbrev pub triple_by : {S X : Type 0} → ItemActions S X → S → Bool → List Lexeme → Parsed (TripleMeasurement X)
triple_by g s in_goal ts =
    braced_by g s in_goal ts >>= λ x. middle_by g s in_goal x.1 >>= λ y. braced_by g s in_goal y.1 >>= λ z.
    Ok (record { pre = x.0; body = y.0; post = z.0 }, z.1)

-- ---- items by actions

-- runs the action on one or more phrases after the semicolon that follows them is read
abbrev pub then_do : {S M : Type 0} → (M → Result S TextFault) → Parsed M → Parsed S
then_do f m = then_expects (is_terminal (Separator Semicolon)) m >>= λ x. before x.1 (f x.0)

-- the same, after a check of the numbers among all tokens of the item, which are `ts` up to the rest
abbrev pub then_pose : {S X M : Type 0} → ItemActions S X → S → List Lexeme → (M → Result S TextFault) → Parsed M → Parsed S
then_pose g s ts f m =
    then_expects (is_terminal (Separator Semicolon)) m >>= λ x. g.check_numbers s (until ts x.1) >>= λ u. before x.1 (f x.0)

-- "test" names ";", "action" names ";" and "var" names ";"
abbrev pub declaration_by : {S : Type 0} → (S → ℕ → List ℕ → Result S TextFault) → S → List Lexeme → Parsed S
declaration_by f s ts = then_expects (is_terminal (Separator Semicolon)) (over_names f s ts)

-- "=" term ";"
abbrev pub meaning_by : {S X : Type 0} → ItemActions S X → S → List Lexeme → Parsed (Measurement X)
meaning_by g s ts = expects (is_terminal (Separator Equals)) ts >>= λ a. then_expects (is_terminal (Separator Semicolon)) (term_by g s a)

-- "term" NAME "=" term ";", whose name must be new before the term is read
abbrev pub definition_by : {S X : Type 0} → ItemActions S X → S → ℕ → List Lexeme → Parsed S
definition_by g s at ts =
    name_at ts >>= λ l. g.check_new s l.at l.text >>= λ u. meaning_by g s (drop 1 ts) >>= λ x.
    before x.1 (g.define s at l.text x.0)

-- "prog" NAME block, likewise
abbrev pub prog_by : {S X : Type 0} → ItemActions S X → S → ℕ → List Lexeme → Parsed S
prog_by g s at ts =
    name_at ts >>= λ l. g.check_new s l.at l.text >>= λ u. block_by g s (drop 1 ts) >>= λ x.
    g.check_numbers s (until ts x.1) >>= λ v. before x.1 (g.define_prog s at l.text x.0)

-- "hyp" term "=" "0" ";"
abbrev pub zero_by : {S X : Type 0} → ItemActions S X → S → ℕ → List Lexeme → Parsed S
zero_by g s at ts = then_do (g.state_zero s at) (then_expects (is_terminal Zero) (then_expects (is_terminal (Separator Equals)) (term_by g s ts)))

-- a hypothesis of either form
abbrev pub hyp_by : {S X : Type 0} → ItemActions S X → S → ℕ → List Lexeme → Parsed S
hyp_by g s at ts =
    g.begin_hyp s at >>= λ u.
    if heads (is_terminal (Keyword word.Triple)) ts then then_do (g.state_triple s at) (triple_by g s false (drop 1 ts)) else zero_by g s at ts

-- "rounds" NUMBER ";" and "width" NUMBER ";"
abbrev pub setting_by : {S X : Type 0} → ItemActions S X → Setting → S → ℕ → List Lexeme → Parsed S
setting_by g what s at ts = g.begin_setting what s at >>= λ u. then_expects (is_terminal (Separator Semicolon)) (at_number (g.set what s) ts)

-- side "," side
abbrev pub sides_by : {S X : Type 0} → ItemActions S X → S → List Lexeme → Parsed (SidesMeasurement X)
sides_by g s ts =
    then_expects (is_terminal (Separator Comma)) (side_by g s ts) >>= λ x. side_by g s x.1 >>= λ y. Ok (record { left = x.0; right = y.0 }, y.1)

-- "equal" term "," term ";" and "below" term "," term ";", after the keyword
abbrev pub comparison_by : {S X : Type 0} → ItemActions S X → Comparison → S → ℕ → List Lexeme → Parsed S
comparison_by g c s at ts = then_pose g s ts (g.pose_sides c s at) (sides_by g s ts)

-- "triple" triple ";", after the keyword
abbrev pub triple_goal_by : {S X : Type 0} → ItemActions S X → S → ℕ → List Lexeme → Parsed S
triple_goal_by g s at ts = then_pose g s ts (g.pose_triple s at) (triple_by g s true ts)

-- the question of a goal, by the keyword after "goal"
abbrev pub posed_by : {S X : Type 0} → ItemActions S X → S → ℕ → List Lexeme → Parsed S
posed_by g s at [] = Err (Syntax at_end)
posed_by g s at (lexeme (Keyword word.Equal) place text ∷ ts) = comparison_by g Equal s at ts
posed_by g s at (lexeme (Keyword word.Below) place text ∷ ts) = comparison_by g Below s at ts
posed_by g s at (lexeme (Keyword word.Triple) place text ∷ ts) = triple_goal_by g s at ts
posed_by g s at (lexeme _ place text ∷ ts) = Err (Syntax place)

abbrev pub goal_by : {S X : Type 0} → ItemActions S X → S → ℕ → List Lexeme → Parsed S
goal_by g s at ts = g.begin_goal s at >>= λ u. posed_by g s at ts

-- an item, by its keyword
abbrev pub item_by : {S X : Type 0} → ItemActions S X → S → List Lexeme → Parsed S
item_by g s [] = Err (Syntax at_end)
item_by g s (lexeme (Keyword word.Test) at text ∷ ts) = declaration_by (g.declare what.Test) s ts
item_by g s (lexeme (Keyword word.Action) at text ∷ ts) = declaration_by (g.declare what.Action) s ts
item_by g s (lexeme (Keyword word.Var) at text ∷ ts) = declaration_by (g.declare what.Var) s ts
item_by g s (lexeme (Keyword word.Term) at text ∷ ts) = definition_by g s at ts
item_by g s (lexeme (Keyword word.Prog) at text ∷ ts) = prog_by g s at ts
item_by g s (lexeme (Keyword word.Hyp) at text ∷ ts) = hyp_by g s at ts
item_by g s (lexeme (Keyword word.Rounds) at text ∷ ts) = setting_by g setting.Rounds s at ts
item_by g s (lexeme (Keyword word.Width) at text ∷ ts) = setting_by g setting.Width s at ts
item_by g s (lexeme (Keyword word.Goal) at text ∷ ts) = goal_by g s at ts
item_by g s (lexeme _ at text ∷ ts) = Err (Syntax at)

-- items up to the end of the tokens, or the first fault
abbrev pub items_within : {S : Type 0} → (S → List Lexeme → Parsed S) → ℕ → S → List Lexeme → Result S TextFault
items_within item zero s ts = Err NoMemory
items_within item (suc n) s [] = Ok s
items_within item (suc n) s (t ∷ ts) = item s (t ∷ ts) >>= λ x. items_within item n x.0 x.1

abbrev pub over_items : {S : Type 0} → (S → List Lexeme → Parsed S) → S → List Lexeme → Result S TextFault
over_items item s ts = items_within item (suc (length ts)) s ts

abbrev pub items_by : {S X : Type 0} → ItemActions S X → S → List Lexeme → Result S TextFault
items_by g s ts = over_items (item_by g) s ts
