-- Expressions of a plain text are read.
use Rattle.std.proofs.Common.{◌≡◌, ◌≤◌, ◌<◌, ◌+◌, ◌^◌, ℕ, suc, List, [], ◌∷◌, ◌++◌, length, max, Bool, true, false, nat_eq, nat_lt, refl, sym, ap, ◌∙◌, subst, arith}
use Rattle.std.proofs.lemmas.List.{append-nil}
use Rattle.std.proofs.lemmas.Bool.{lt-ltb}
use Rattle.std.proofs.lemmas.Option.{slice_get_within}
use Rattle.std.specs.Prelude.{codes}
use Rattle.std.specs.Fmt.{decimal}
use Rattle.kat_model.specs.declared.limits.TheConstants.{MAX_OPEN}
use Rattle.kat_model.specs.declared.expression.Width.{Width}
use Rattle.kat_model.specs.declared.expression.Width.TheVariants.{W8, W16, W32, W64}
use Rattle.kat_model.specs.Stores.{modulus}
use Rattle.text_parser.specs.declared.token.Kind.TheVariants.{Name, Symbol}
use Rattle.text_parser.specs.TokenParts.{TokenParts, token_parts}
use Rattle.text_parser.specs.Pieces.{Piece, symbol, gap, spelled, EndsBefore}
use Rattle.text_print.proofs.Separate.{EndsWords, blank_ends, round_ends, open_alone, close_alone}
use Rattle.flow_model.specs.declared.sort.Sort.{Sort}
use Rattle.flow_model.specs.declared.sort.Sort.TheVariants.{Number as NumberSort}
use Rattle.flow_model.specs.Expressions.{ExprTree, number, variable, plus, minus, times, converted, applied, no_arguments, argument}
use Rattle.flow_syntax.specs.declared.rule.TheConstants.{NUMBER, WIDE_NUMBER, OPEN_ROUND, CLOSE_ROUND}
use Rattle.flow_syntax.specs.declared.rule.Part.{Part}
use Rattle.flow_syntax.specs.declared.rule.Part.TheVariants.{Token, Opening, Closing, Phrase}
use Rattle.flow_syntax.specs.declared.rule.Start.TheVariants.{Take, Otherwise}
use Rattle.flow_syntax.specs.declared.phrase.TheConstants.{LITERAL, RELATION, EXPRESSION, MORE_SUMMANDS, PRODUCT, MORE_FACTORS, FACTOR, ARGUMENTS, MORE_EXPRESSIONS}
use Rattle.flow_syntax.specs.declared.terminal.TheConstants.{NAME, COMMA, SEMICOLON, PLUS, MINUS, STAR}
use Rattle.flow_syntax.specs.Syntax as syntax
use Rattle.flow_syntax.specs.Syntax.{ExprSyntax}
use Rattle.flow_syntax.specs.Actions.{ValueSyntax, token, expr, exprs, operations, all_nodes}
use Rattle.flow_plain.specs.PlainGraphs.{Declared, conversion_text, variable_name, function_name}
use Rattle.flow_plain.specs.PrintableGraphs.{Wanted, one_of, all_of, HasSorts, expression_levels}
use Rattle.flow_plain.proofs.Steps.{Reads, Follows, word_follows, gap_follows, IsRule, IsWord, gap_read, token_read, opening_read, closing_read, only_read, apply_read, shift_read, open_read}
use Rattle.flow_plain.proofs.PlainRules as rule
use Rattle.flow_plain.proofs.PlainWords.{mark, conversion_terminal, conversion_word, variable_word, function_word, number_word}
use Rattle.flow_plain.proofs.PlainPieces.{comma_pieces, spaced_pieces, operation_syntax, expr_pieces, comma_end, expr_end, expr_syntax, arguments_count, arguments_syntax}

-- ---- what may follow an expression

-- a terminal that ends a factor
pub record EndsFactor (x : ℕ) : Type 0 where
  pub wide : nat_eq x WIDE_NUMBER ≡ false
  pub round : nat_eq x OPEN_ROUND ≡ false

-- a terminal that ends a sum
pub record EndsSum (x : ℕ) : Type 0 where
  pub factor : EndsFactor x
  pub star : nat_eq x STAR ≡ false
  pub plus : nat_eq x PLUS ≡ false
  pub minus : nat_eq x MINUS ≡ false

pub ends_factor : (x : ℕ) → nat_eq x WIDE_NUMBER ≡ false → nat_eq x OPEN_ROUND ≡ false → EndsFactor x
ends_factor x a b = record { wide = a; round = b }

pub ends_sum : (x : ℕ) → EndsFactor x → nat_eq x STAR ≡ false → nat_eq x PLUS ≡ false → nat_eq x MINUS ≡ false → EndsSum x
ends_sum x a b c d = record { factor = a; star = b; plus = c; minus = d }

pub close_word : IsWord Symbol (codes ")") CLOSE_ROUND
close_word = mark (codes ")") CLOSE_ROUND refl refl refl refl

pub open_word : IsWord Symbol (codes "(") OPEN_ROUND
open_word = mark (codes "(") OPEN_ROUND refl refl refl refl

pub comma_word : IsWord Symbol (codes ",") COMMA
comma_word = mark (codes ",") COMMA refl refl refl refl

pub close_ends : EndsSum CLOSE_ROUND
close_ends = ends_sum CLOSE_ROUND (ends_factor CLOSE_ROUND refl refl) refl refl refl

pub comma_ends : EndsSum COMMA
comma_ends = ends_sum COMMA (ends_factor COMMA refl refl) refl refl refl

pub comma_stops : (ps : List Piece) → EndsWords (symbol (codes ",") ∷ ps)
comma_stops ps = record { name = λ b. refl; number = λ b. refl }

-- ---- what an expression begins with

-- the first token may begin an expression
pub record Begins (at : ℕ) (ps : List Piece) : Type 0 where
  pub x : ℕ
  pub follows : Follows x at ps
  pub wide : nat_eq x WIDE_NUMBER ≡ false
  pub close : nat_eq x CLOSE_ROUND ≡ false
  pub semicolon : nat_eq x SEMICOLON ≡ false

abbrev pub Comparing : ℕ → Type 0
Comparing x = IsRule LITERAL x 48 Otherwise (Phrase EXPRESSION ∷ Phrase RELATION ∷ Phrase EXPRESSION ∷ []) rule.by_compare

pub conversion_compares : (signed : Bool) (w : Width) → Comparing (conversion_terminal signed w)
conversion_compares false W8 = rule.compare_u8_rule
conversion_compares false W16 = rule.compare_u16_rule
conversion_compares false W32 = rule.compare_u32_rule
conversion_compares false W64 = rule.compare_u64_rule
conversion_compares true W8 = rule.compare_s8_rule
conversion_compares true W16 = rule.compare_s16_rule
conversion_compares true W32 = rule.compare_s32_rule
conversion_compares true W64 = rule.compare_s64_rule

abbrev Differs : ℕ → Type 0
Differs x = (nat_eq x WIDE_NUMBER ≡ false) × (nat_eq x CLOSE_ROUND ≡ false) × (nat_eq x SEMICOLON ≡ false)

conversion_differs : (signed : Bool) (w : Width) → Differs (conversion_terminal signed w)
conversion_differs false W8 = (refl, refl, refl)
conversion_differs false W16 = (refl, refl, refl)
conversion_differs false W32 = (refl, refl, refl)
conversion_differs false W64 = (refl, refl, refl)
conversion_differs true W8 = (refl, refl, refl)
conversion_differs true W16 = (refl, refl, refl)
conversion_differs true W32 = (refl, refl, refl)
conversion_differs true W64 = (refl, refl, refl)

opens : (at : ℕ) (ps : List Piece) → Begins at (symbol (codes "(") ∷ ps)
opens at ps = record { x = OPEN_ROUND; follows = word_follows open_word; wide = refl; close = refl; semicolon = refl }

pub modulus_small : (w : Width) → modulus w ≤ 2 ^ 64
modulus_small W8 = omega arith
modulus_small W16 = omega arith
modulus_small W32 = omega arith
modulus_small W64 = omega arith

pub apart_wants : {A : Type 0} (s : Sort) (ss : List Sort) → one_of s ≡ all_of ss → A
apart_wants s ss e = absurd cc

pub wants_apart : {A : Type 0} (s : Sort) (ss : List Sort) → all_of ss ≡ one_of s → A
wants_apart s ss e = absurd cc

-- ---- joined operations

joined_none : (x : ExprSyntax) (us : List ValueSyntax) → rule.by_join (expr x ∷ operations [] [] ∷ us) ≡ expr x ∷ us
joined_none x us = ap (λ (l : ExprSyntax). expr l ∷ us) (append-nil x)

next_last : (o : TokenParts) (x : ExprSyntax) (us : List ValueSyntax) → rule.by_next_operation (token o ∷ expr x ∷ operations [] [] ∷ us) ≡ operations (o ∷ []) x ∷ us
next_last o x us = ap (λ (l : ExprSyntax). operations (o ∷ []) l ∷ us) (append-nil x)

abbrev pub Parts : Type 0
Parts = List Part

abbrev pub Values : Type 0
Values = List ValueSyntax

-- the expression is read as a factor
abbrev pub FactorReads : ExprTree → Type 0
FactorReads e =
    (d at x : ℕ) (rest : Parts) (ps : List Piece) (vs : Values) → d + expression_levels e ≤ MAX_OPEN → EndsFactor x → Follows x (expr_end e at) ps → EndsWords ps → Reads d rest (expr_end e at) ps vs
    → Reads d (Phrase FACTOR ∷ rest) at (expr_pieces e ps) (expr (expr_syntax e at) ∷ vs)

-- the arguments are read after another one, to the parenthesis
abbrev pub ArgumentsRead : ExprTree → Type 0
ArgumentsRead e =
    (d at : ℕ) (rest : Parts) (ps : List Piece) (vs : Values) → d + expression_levels e ≤ MAX_OPEN → Reads d rest (expr_end e (comma_end e at)) (symbol (codes ")") ∷ ps) vs
    → Reads d (Phrase MORE_EXPRESSIONS ∷ rest) at (comma_pieces e (expr_pieces e (symbol (codes ")") ∷ ps))) (exprs (arguments_syntax e (comma_end e at)) ∷ vs)

-- the arguments of a call are read, to the parenthesis
abbrev pub ListReads : ExprTree → Type 0
ListReads e =
    (d at : ℕ) (rest : Parts) (ps : List Piece) (vs : Values) → d + expression_levels e ≤ MAX_OPEN → Reads d rest (expr_end e at + 1) ps vs
    → Reads d (Phrase ARGUMENTS ∷ rest) at (expr_pieces e (symbol (codes ")") ∷ ps)) (exprs (arguments_syntax e at) ∷ vs)

-- an expression that is no product or sum without parentheses
pub product_read : (e : ExprTree) → FactorReads e → (d at x : ℕ) (rest : Parts) (ps : List Piece) (vs : Values) → d + expression_levels e ≤ MAX_OPEN → EndsFactor x → nat_eq x STAR ≡ false → Follows x (expr_end e at) ps → EndsWords ps → Reads d rest (expr_end e at) ps vs
    → Reads d (Phrase PRODUCT ∷ rest) at (expr_pieces e ps) (expr (expr_syntax e at) ∷ vs)
product_read e reads d at x rest ps vs levels ends star follows stops r =
    only_read rule.product_rule (joined_none (expr_syntax e at) vs)
    (reads d at x (Phrase MORE_FACTORS ∷ rest) ps (operations [] [] ∷ vs) levels ends follows stops (apply_read (rule.no_factors_rule x ends.wide star) follows refl r))

pub expression_read : (e : ExprTree) → FactorReads e → (d at x : ℕ) (rest : Parts) (ps : List Piece) (vs : Values) → d + expression_levels e ≤ MAX_OPEN → EndsSum x → Follows x (expr_end e at) ps → EndsWords ps → Reads d rest (expr_end e at) ps vs
    → Reads d (Phrase EXPRESSION ∷ rest) at (expr_pieces e ps) (expr (expr_syntax e at) ∷ vs)
expression_read e reads d at x rest ps vs levels ends follows stops r =
    only_read rule.expression_rule (joined_none (expr_syntax e at) vs)
    (product_read e reads d at x (Phrase MORE_SUMMANDS ∷ rest) ps (operations [] [] ∷ vs) levels ends.factor ends.star follows stops (apply_read (rule.no_summands_rule x ends.factor.wide ends.plus ends.minus) follows refl r))

pub few_open : (d n : ℕ) → d + (1 + n) ≤ MAX_OPEN → nat_lt d MAX_OPEN ≡ true
few_open d n h = lt-ltb d MAX_OPEN (omega (arith, h))

-- a sum or a difference in parentheses
sum_read : (e f : ExprTree) (between : List ℕ) (k x : ℕ) → IsRule MORE_SUMMANDS x k (Take x) (Phrase PRODUCT ∷ Phrase MORE_SUMMANDS ∷ []) rule.by_next_operation → IsWord Symbol between x → EndsFactor x → nat_eq x STAR ≡ false → ((rest : List ℕ) → EndsBefore Symbol between (32 ∷ rest)) → FactorReads e → FactorReads f
    → (d at : ℕ) (rest : Parts) (ps : List Piece) (vs : Values) → d + (1 + max (expression_levels e) (expression_levels f)) ≤ MAX_OPEN → Reads d rest (expr_end f (expr_end e (at + 1) + 1 + length between + 1) + 1) ps vs
    → Reads d (Phrase FACTOR ∷ rest) at (spaced_pieces between (expr_pieces e) (expr_pieces f) ps) (expr (operation_syntax (expr_end e (at + 1) + 1) between (expr_syntax e (at + 1)) (expr_syntax f (expr_end e (at + 1) + 1 + length between + 1))) ∷ vs)
sum_read e f between k x next between_word ends star alone left right d at rest ps vs levels r =
    let a = expr_end e (at + 1) in
    let b = a + 1 + length between + 1 in
    let c = expr_end f b in
    let last : Values = token (token_parts Symbol c (codes ")")) ∷ vs in
    let o = token_parts Symbol (a + 1) between in
    let closed : Reads (d + 1) (Token CLOSE_ROUND ∷ Closing ∷ rest) c (symbol (codes ")") ∷ ps) last = token_read close_word (close_alone (spelled ps)) (closing_read r) in
    let ended : Reads (d + 1) (Phrase MORE_SUMMANDS ∷ Token CLOSE_ROUND ∷ Closing ∷ rest) c (symbol (codes ")") ∷ ps) (operations [] [] ∷ last) = apply_read (rule.no_summands_rule CLOSE_ROUND refl refl refl) (word_follows close_word) refl closed in
    let second = product_read f right (d + 1) b CLOSE_ROUND (Phrase MORE_SUMMANDS ∷ Token CLOSE_ROUND ∷ Closing ∷ rest) (symbol (codes ")") ∷ ps) (operations [] [] ∷ last) (omega (arith, levels)) (ends_factor CLOSE_ROUND refl refl) refl (word_follows close_word) (round_ends ps) ended in
    let after = gap 32 ∷ symbol between ∷ gap 32 ∷ expr_pieces f (symbol (codes ")") ∷ ps) in
    let more : Reads (d + 1) (Phrase MORE_SUMMANDS ∷ Token CLOSE_ROUND ∷ Closing ∷ rest) a after (operations (o ∷ []) (expr_syntax f b) ∷ last) = gap_read refl (shift_read next between_word (alone (spelled (expr_pieces f (symbol (codes ")") ∷ ps)))) (next_last o (expr_syntax f b) last) (gap_read refl second)) in
    let first = product_read e left (d + 1) (at + 1) x (Phrase MORE_SUMMANDS ∷ Token CLOSE_ROUND ∷ Closing ∷ rest) after (operations (o ∷ []) (expr_syntax f b) ∷ last) (omega (arith, levels)) ends star (gap_follows (word_follows between_word)) (blank_ends _) more in
    open_read (few_open d (max (expression_levels e) (expression_levels f)) levels) rule.enclosed_rule open_word (open_alone _) refl (only_read rule.expression_rule refl first)

-- a product in parentheses
times_read : (e f : ExprTree) → FactorReads e → FactorReads f → (d at : ℕ) (rest : Parts) (ps : List Piece) (vs : Values) → d + (1 + max (expression_levels e) (expression_levels f)) ≤ MAX_OPEN → Reads d rest (expr_end (times W64 e f) at) ps vs
    → Reads d (Phrase FACTOR ∷ rest) at (spaced_pieces (codes "*") (expr_pieces e) (expr_pieces f) ps) (expr (expr_syntax (times W64 e f) at) ∷ vs)
times_read e f left right d at rest ps vs levels r =
    let a = expr_end e (at + 1) in
    let b = a + 1 + 1 + 1 in
    let c = expr_end f b in
    let last : Values = token (token_parts Symbol c (codes ")")) ∷ vs in
    let o = token_parts Symbol (a + 1) (codes "*") in
    let star = mark (codes "*") STAR refl refl refl refl in
    let closed : Reads (d + 1) (Token CLOSE_ROUND ∷ Closing ∷ rest) c (symbol (codes ")") ∷ ps) last = token_read close_word (close_alone (spelled ps)) (closing_read r) in
    let ended : Reads (d + 1) (Phrase MORE_SUMMANDS ∷ Token CLOSE_ROUND ∷ Closing ∷ rest) c (symbol (codes ")") ∷ ps) (operations [] [] ∷ last) = apply_read (rule.no_summands_rule CLOSE_ROUND refl refl refl) (word_follows close_word) refl closed in
    let factors : Reads (d + 1) (Phrase MORE_FACTORS ∷ Phrase MORE_SUMMANDS ∷ Token CLOSE_ROUND ∷ Closing ∷ rest) c (symbol (codes ")") ∷ ps) (operations [] [] ∷ operations [] [] ∷ last) = apply_read (rule.no_factors_rule CLOSE_ROUND refl refl) (word_follows close_word) refl ended in
    let second = right (d + 1) b CLOSE_ROUND (Phrase MORE_FACTORS ∷ Phrase MORE_SUMMANDS ∷ Token CLOSE_ROUND ∷ Closing ∷ rest) (symbol (codes ")") ∷ ps) (operations [] [] ∷ operations [] [] ∷ last) (omega (arith, levels)) (ends_factor CLOSE_ROUND refl refl) (word_follows close_word) (round_ends ps) factors in
    let after = gap 32 ∷ symbol (codes "*") ∷ gap 32 ∷ expr_pieces f (symbol (codes ")") ∷ ps) in
    let more : Reads (d + 1) (Phrase MORE_FACTORS ∷ Phrase MORE_SUMMANDS ∷ Token CLOSE_ROUND ∷ Closing ∷ rest) a after (operations (o ∷ []) (expr_syntax f b) ∷ operations [] [] ∷ last) = gap_read refl (shift_read rule.times_rule star refl (next_last o (expr_syntax f b) (operations [] [] ∷ last)) (gap_read refl second)) in
    let first = left (d + 1) (at + 1) STAR (Phrase MORE_FACTORS ∷ Phrase MORE_SUMMANDS ∷ Token CLOSE_ROUND ∷ Closing ∷ rest) after (operations (o ∷ []) (expr_syntax f b) ∷ operations [] [] ∷ last) (omega (arith, levels)) (ends_factor STAR refl refl) (gap_follows (word_follows star)) (blank_ends _) more in
    open_read (few_open d (max (expression_levels e) (expression_levels f)) levels) rule.enclosed_rule open_word (open_alone _) refl
    (only_read rule.expression_rule (joined_none (expr_syntax (times W64 e f) at) last) (only_read rule.product_rule refl first))

-- ---- conversions

abbrev conversion_number : Bool → Width → ℕ
conversion_number false W8 = 73
conversion_number false W16 = 74
conversion_number false W32 = 75
conversion_number false W64 = 76
conversion_number true W8 = 77
conversion_number true W16 = 78
conversion_number true W32 = 79
conversion_number true W64 = 80

conversion_rule : (signed : Bool) (w : Width) → IsRule FACTOR (conversion_terminal signed w) (conversion_number signed w) (Take (conversion_terminal signed w)) (Opening OPEN_ROUND ∷ Phrase EXPRESSION ∷ Token CLOSE_ROUND ∷ Closing ∷ []) rule.by_convert
conversion_rule false W8 = rule.u8_rule
conversion_rule false W16 = rule.u16_rule
conversion_rule false W32 = rule.u32_rule
conversion_rule false W64 = rule.u64_rule
conversion_rule true W8 = rule.s8_rule
conversion_rule true W16 = rule.s16_rule
conversion_rule true W32 = rule.s32_rule
conversion_rule true W64 = rule.s64_rule

conversion_read : (signed : Bool) (from to : Width) (e : ExprTree) → FactorReads e → FactorReads (converted signed from to e)
conversion_read signed from to e inner d at x rest ps vs levels ends follows stops r =
    let text = conversion_text signed to in
    let begin = at + length text + 1 in
    let c = expr_end e begin in
    let closed : Reads (d + 1) (Token CLOSE_ROUND ∷ Closing ∷ rest) c (symbol (codes ")") ∷ ps) (token (token_parts Symbol c (codes ")")) ∷ vs) = token_read close_word (close_alone (spelled ps)) (closing_read r) in
    let inside = expression_read e inner (d + 1) begin CLOSE_ROUND (Token CLOSE_ROUND ∷ Closing ∷ rest) (symbol (codes ")") ∷ ps) (token (token_parts Symbol c (codes ")")) ∷ vs) (omega (arith, levels)) close_ends (word_follows close_word) (round_ends ps) closed in
    shift_read (conversion_rule signed to) (conversion_word signed to) refl refl
    (opening_read (few_open d (expression_levels e) levels) open_word (open_alone _) inside)

-- ---- arguments

-- what follows an argument: the parenthesis or a comma
record AfterArgument (at : ℕ) (ps : List Piece) : Type 0 where
  x : ℕ
  ends : EndsSum x
  follows : Follows x at ps
  stops : EndsWords ps

closed_after : (at : ℕ) (ps : List Piece) → AfterArgument at (symbol (codes ")") ∷ ps)
closed_after at ps = record { x = CLOSE_ROUND; ends = close_ends; follows = word_follows close_word; stops = round_ends ps }

comma_after : (at : ℕ) (ps : List Piece) → AfterArgument at (symbol (codes ",") ∷ ps)
comma_after at ps = record { x = COMMA; ends = comma_ends; follows = word_follows comma_word; stops = comma_stops ps }

after_argument : (e : ExprTree) (at : ℕ) (ps : List Piece) → AfterArgument at (comma_pieces e (expr_pieces e (symbol (codes ")") ∷ ps)))
after_argument no_arguments at ps = closed_after at ps
after_argument (argument e rest) at ps = comma_after at _
after_argument (number w n) at ps = comma_after at _
after_argument (variable k) at ps = comma_after at _
after_argument (plus w e f) at ps = comma_after at _
after_argument (minus w e f) at ps = comma_after at _
after_argument (times w e f) at ps = comma_after at _
after_argument (converted signed from to e) at ps = comma_after at _
after_argument (applied f result args) at ps = comma_after at _

comma_read : (e rest : ExprTree) → FactorReads e → ArgumentsRead rest → (d at : ℕ) (parts : Parts) (ps : List Piece) (vs : Values) → d + max (expression_levels e) (expression_levels rest) ≤ MAX_OPEN → Reads d parts (expr_end rest (comma_end rest (expr_end e at))) (symbol (codes ")") ∷ ps) vs
    → Reads d (Phrase EXPRESSION ∷ Phrase MORE_EXPRESSIONS ∷ parts) at (expr_pieces (argument e rest) (symbol (codes ")") ∷ ps)) (expr (expr_syntax e at) ∷ exprs (arguments_syntax rest (comma_end rest (expr_end e at))) ∷ vs)
comma_read e rest first others d at parts ps vs levels r =
    let more = others d (expr_end e at) parts ps vs (omega (arith, levels)) r in
    let next = after_argument rest (expr_end e at) ps in
    expression_read e first d at next.x (Phrase MORE_EXPRESSIONS ∷ parts) (comma_pieces rest (expr_pieces rest (symbol (codes ")") ∷ ps))) (exprs (arguments_syntax rest (comma_end rest (expr_end e at))) ∷ vs) (omega (arith, levels)) next.ends next.follows next.stops more

-- no further argument
no_argument_read : ArgumentsRead no_arguments
no_argument_read d at rest ps vs levels r = apply_read (rule.no_expressions_rule CLOSE_ROUND refl refl) (word_follows close_word) refl r

further_read : (e rest : ExprTree) → FactorReads e → ArgumentsRead rest → ArgumentsRead (argument e rest)
further_read e rest first others d at parts ps vs levels r =
    shift_read rule.more_expressions_rule comma_word refl refl (gap_read refl (comma_read e rest first others d (at + 1 + 1) parts ps vs levels r))

-- ---- calls

-- a call whose arguments are read to the parenthesis
call_read : (k : ℕ) (result : Sort) (args : ExprTree) → k < 2 ^ 64 → ((at : ℕ) → (length (arguments_syntax args at) ≡ arguments_count args) × (all_nodes (arguments_syntax args at) ≡ expr_syntax args at))
    → ListReads args → FactorReads (applied k result args)
call_read k result args small nodes inner d at x rest ps vs levels ends follows stops r =
    let begin = at + length (function_name k) + 1 in
    let t = token_parts Name at (function_name k) in
    let count = nodes begin in
    let inside = inner (d + 1) begin (Closing ∷ rest) ps vs (omega (arith, levels)) (closing_read r) in
    shift_read rule.name_rule (function_word k small) refl
    (ap (λ (n : ℕ). expr (syntax.called t n ∷ all_nodes (arguments_syntax args begin)) ∷ vs) count.0
    ∙ ap (λ (l : ExprSyntax). expr (syntax.called t (arguments_count args) ∷ l) ∷ vs) count.1)
    (open_read (few_open d (expression_levels args) levels) rule.call_rule open_word (open_alone _) refl inside)

-- ---- expressions with their sorts

abbrev Claim : Wanted → ExprTree → Type 0
Claim (one_of s) e = FactorReads e
Claim (all_of ss) e = ArgumentsRead e × ListReads e

no_list_read : ListReads no_arguments
no_list_read d at rest ps vs levels r = shift_read rule.no_arguments_rule close_word (close_alone (spelled ps)) refl r

some_list_read : (e rest : ExprTree) → ((at : ℕ) (ps : List Piece) → Begins at (expr_pieces e ps)) → FactorReads e → ArgumentsRead rest → ListReads (argument e rest)
some_list_read e rest begin first others d at parts ps vs levels r =
    let b = begin at (comma_pieces rest (expr_pieces rest (symbol (codes ")") ∷ ps))) in
    apply_read (rule.arguments_rule b.x b.wide b.close) b.follows refl
    (comma_read e rest first others d at (Token CLOSE_ROUND ∷ parts) ps (token (token_parts Symbol (expr_end rest (comma_end rest (expr_end e at))) (codes ")")) ∷ vs) levels (token_read close_word (close_alone (spelled ps)) r))

arguments_read : (e rest : ExprTree) → ((at : ℕ) (ps : List Piece) → Begins at (expr_pieces e ps)) → FactorReads e → ArgumentsRead rest → ArgumentsRead (argument e rest) × ListReads (argument e rest)
arguments_read e rest begin first others = (further_read e rest first others, some_list_read e rest begin first others)

number_reads : (v : Width) (n : ℕ) → n < modulus v → FactorReads (number v n)
number_reads v n small d at x rest ps vs levels ends follows stops r =
    let low : n < 2 ^ 64 = omega (arith, small, modulus_small v) in shift_read rule.number_rule (number_word n low) (stops.number (decimal n)) refl r

variable_reads : (k : ℕ) → k < 2 ^ 64 → FactorReads (variable k)
variable_reads k low d at x rest ps vs levels ends follows stops r =
    shift_read rule.name_rule (variable_word k low) (stops.name (variable_name k)) refl (apply_read (rule.no_call_rule x ends.wide ends.round) follows refl r)

module _ (d : Declared) (sorts : List Sort) (few : length sorts ≤ 2 ^ 64) (small : length d.functions ≤ 2 ^ 64) where
  -- what an expression begins with
  pub begins : (e : ExprTree) (s : Sort) (at : ℕ) (ps : List Piece) → HasSorts d sorts (one_of s) e → Begins at (expr_pieces e ps)
  begins (number v n) s at ps h =
      let low : n < 2 ^ 64 = omega (arith, h.1, modulus_small v) in
      record { x = NUMBER; follows = word_follows (number_word n low); wide = refl; close = refl; semicolon = refl }
  begins (variable k) s at ps h =
      let low : k < 2 ^ 64 = omega (arith, slice_get_within sorts k h.0 h.2, few) in
      record { x = NAME; follows = word_follows (variable_word k low); wide = refl; close = refl; semicolon = refl }
  begins (plus v e f) s at ps h = opens at _
  begins (minus v e f) s at ps h = opens at _
  begins (times v e f) s at ps h = opens at _
  begins (converted signed from to e) s at ps h =
      let other = conversion_differs signed to in
      record { x = conversion_terminal signed to; follows = word_follows (conversion_word signed to); wide = other.0; close = other.1; semicolon = other.2 }
  begins (applied f result args) s at ps h =
      let low : f < 2 ^ 64 = omega (arith, slice_get_within d.functions f _ h.2, small) in
      record { x = NAME; follows = word_follows (function_word f low); wide = refl; close = refl; semicolon = refl }
  begins no_arguments s at ps h = apart_wants s [] h
  begins (argument e rest) s at ps h = apart_wants s (h.0 ∷ h.1) h.2

  -- the arguments one by one and together
  pub arguments_nodes : (e : ExprTree) (ss : List Sort) (at : ℕ) → HasSorts d sorts (all_of ss) e → (length (arguments_syntax e at) ≡ arguments_count e) × (all_nodes (arguments_syntax e at) ≡ expr_syntax e at)
  arguments_nodes no_arguments ss at h = (refl, refl)
  arguments_nodes (argument e rest) ss at h =
      let more = arguments_nodes rest h.1 (comma_end rest (expr_end e at)) h.4 in (ap suc more.0, ap (λ (l : ExprSyntax). expr_syntax e at ++ l) more.1)
  arguments_nodes (number v n) ss at h = wants_apart _ ss h.0
  arguments_nodes (variable k) ss at h = wants_apart _ ss h.1
  arguments_nodes (plus v e f) ss at h = wants_apart _ ss h.0
  arguments_nodes (minus v e f) ss at h = wants_apart _ ss h.0
  arguments_nodes (times v e f) ss at h = wants_apart _ ss h.0
  arguments_nodes (converted signed from to e) ss at h = wants_apart _ ss h.0
  arguments_nodes (applied f result args) ss at h = wants_apart _ ss h.1

  reads : (e : ExprTree) (w : Wanted) → HasSorts d sorts w e → Claim w e
  reads (number v n) w h = subst (λ (u : Wanted). Claim u (number v n)) (sym h.0) (number_reads v n h.1)
  reads (variable k) w h = subst (λ (u : Wanted). Claim u (variable k)) (sym h.1) (variable_reads k (omega (arith, slice_get_within sorts k h.0 h.2, few)))
  reads (plus v e f) w h =
      let left = reads e (one_of (NumberSort v)) (subst (λ (u : Wanted). HasSorts d sorts u e) h.0 h.1) in
      let right = reads f (one_of (NumberSort v)) (subst (λ (u : Wanted). HasSorts d sorts u f) h.0 h.2) in
      subst (λ (u : Wanted). Claim u (plus v e f)) (sym h.0)
      (λ d at x rest ps vs levels ends follows stops r. sum_read e f (codes "+") 65 PLUS rule.plus_rule (mark (codes "+") PLUS refl refl refl refl) (ends_factor PLUS refl refl) refl (λ l. refl) left right d at rest ps vs levels r)
  reads (minus v e f) w h =
      let left = reads e (one_of (NumberSort v)) (subst (λ (u : Wanted). HasSorts d sorts u e) h.0 h.1) in
      let right = reads f (one_of (NumberSort v)) (subst (λ (u : Wanted). HasSorts d sorts u f) h.0 h.2) in
      subst (λ (u : Wanted). Claim u (minus v e f)) (sym h.0)
      (λ d at x rest ps vs levels ends follows stops r. sum_read e f (codes "-") 66 MINUS rule.minus_rule (mark (codes "-") MINUS refl refl refl refl) (ends_factor MINUS refl refl) refl (λ l. refl) left right d at rest ps vs levels r)
  reads (times v e f) w h =
      let left = reads e (one_of (NumberSort v)) (subst (λ (u : Wanted). HasSorts d sorts u e) h.0 h.1) in
      let right = reads f (one_of (NumberSort v)) (subst (λ (u : Wanted). HasSorts d sorts u f) h.0 h.2) in
      subst (λ (u : Wanted). Claim u (times v e f)) (sym h.0) (λ d at x rest ps vs levels ends follows stops r. times_read e f left right d at rest ps vs levels r)
  reads (converted signed from to e) w h = subst (λ (u : Wanted). Claim u (converted signed from to e)) (sym h.0) (conversion_read signed from to e (reads e (one_of (NumberSort from)) h.1))
  reads (applied f result args) w h =
      let low : f < 2 ^ 64 = omega (arith, slice_get_within d.functions f _ h.2, small) in
      subst (λ (u : Wanted). Claim u (applied f result args)) (sym h.1) (call_read f result args low (λ at. arguments_nodes args h.0 at h.3) (reads args (all_of h.0) h.3).1)
  reads no_arguments w h = subst (λ (u : Wanted). Claim u no_arguments) (sym h) (no_argument_read, no_list_read)
  reads (argument e rest) w h =
      subst (λ (u : Wanted). Claim u (argument e rest)) (sym h.2) (arguments_read e rest (λ at ps. begins e h.0 at ps h.3) (reads e (one_of h.0) h.3) (reads rest (all_of h.1) h.4).0)

  pub factor_reads : (e : ExprTree) (s : Sort) → HasSorts d sorts (one_of s) e → FactorReads e
  factor_reads e s h = reads e (one_of s) h
