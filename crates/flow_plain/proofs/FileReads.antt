-- Plain texts are read as items.
use Rattle.std.proofs.Common.{◌≡◌, ◌≤◌, ◌<◌, ◌+◌, ◌^◌, ℕ, zero, suc, List, [], ◌∷◌, length, map, Bool, true, false, Option, Some, None, nat_eq, refl, arith}
use Rattle.std.specs.Prelude.{codes}
use Rattle.kat_model.specs.declared.expression.Width.TheVariants.{W8, W16, W32, W64}
use Rattle.text_parser.specs.declared.token.Kind.TheVariants.{Name, Symbol}
use Rattle.text_parser.specs.TokenParts.{token_parts}
use Rattle.text_parser.specs.Pieces.{Piece, word, symbol, gap, spelled, EndsBefore}
use Rattle.text_print.proofs.Separate.{round_ends, open_alone, close_alone}
use Rattle.flow_model.specs.declared.sort.Sort.{Sort}
use Rattle.flow_model.specs.declared.sort.Sort.TheVariants.{Number as NumberSort, Opaque}
use Rattle.flow_model.specs.Graphs.{Graph, Pair}
use Rattle.flow_syntax.specs.declared.rule.TheConstants.{WIDE_NUMBER, OPEN_ROUND, CLOSE_ROUND}
use Rattle.flow_syntax.specs.declared.rule.Part.TheVariants.{Token, Opening, Closing, Phrase}
use Rattle.flow_syntax.specs.declared.phrase.TheConstants.{FILE, NAMES, SORT_NAME, PARAMETERS, MORE_SORTS}
use Rattle.flow_syntax.specs.declared.terminal.TheConstants.{NAME, SORT, FUN, VAR, GRAPH, ROUNDS, SPLIT, EQUAL, SEMICOLON, CURLY_CLOSE}
use Rattle.flow_syntax.specs.Syntax as syntax
use Rattle.flow_syntax.specs.Actions.{token, tokens, items}
use Rattle.flow_syntax.specs.Productions.{rules, productions, listed_actions}
use Rattle.flow_text.specs.Scopes.{FunctionParts, function_parts}
use Rattle.flow_plain.specs.PlainGraphs.{Declared, sort_text, variable_name, function_name}
use Rattle.flow_plain.specs.PrintableGraphs.{IsPlainGraph, IsDeclared, AreDeclared, AreFunctions, AreFew, ArePlainGraphs, results_of}
use Rattle.flow_plain.proofs.Steps.{Reads, IsWord, word_follows, nothing_read, gap_read, token_read, opening_read, closing_read, apply_read, apply_by, shift_read}
use Rattle.flow_plain.proofs.PlainRules as rule
use Rattle.flow_plain.proofs.PlainWords.{keyword, conversion_terminal, conversion_word, variable_word, function_word, sort_word, number_word}
use Rattle.flow_plain.proofs.PlainPieces.{more_names, more_names_end, more_names_syntax, blocks_end, graph_pieces, graph_begin, graph_end, graph_syntax, sorts_pieces, sort_end, parameters_pieces, parameters_stop, parameters_syntax, parameters_place, function_place, function_pieces, function_end, function_syntax, functions_pieces, variable_end, variables_pieces, goal_pieces, goal_syntax, asked_pieces, asked_syntax, variables_syntax, functions_syntax, sorts_syntax, graphs_pieces, graphs_syntax, split_pieces, split_syntax, rounds_pieces, rounds_syntax, ending_pieces}
use Rattle.flow_plain.proofs.ExprReads.{comma_word, open_word, close_word, Parts, Values}
use Rattle.flow_plain.proofs.GraphReads.{semicolon_word, curly_open_word, curly_close_word, names_stop, blocks_read}

-- ---- sorts

abbrev SmallSort : Sort → Type 0
SmallSort (NumberSort w) = Unit {0}
SmallSort (Opaque k) = k < 2 ^ 64

abbrev SmallSorts : List Sort → Type 0
SmallSorts [] = Unit {0}
SmallSorts (s ∷ ss) = SmallSort s × SmallSorts ss

abbrev sort_terminal : Sort → ℕ
sort_terminal (NumberSort w) = conversion_terminal false w
sort_terminal (Opaque k) = NAME

sort_is_word : (s : Sort) → SmallSort s → IsWord Name (sort_text s) (sort_terminal s)
sort_is_word (NumberSort W8) h = conversion_word false W8
sort_is_word (NumberSort W16) h = conversion_word false W16
sort_is_word (NumberSort W32) h = conversion_word false W32
sort_is_word (NumberSort W64) h = conversion_word false W64
sort_is_word (Opaque k) h = sort_word k h

sort_differs : (s : Sort) → (nat_eq (sort_terminal s) WIDE_NUMBER ≡ false) × (nat_eq (sort_terminal s) CLOSE_ROUND ≡ false)
sort_differs (NumberSort W8) = (refl, refl)
sort_differs (NumberSort W16) = (refl, refl)
sort_differs (NumberSort W32) = (refl, refl)
sort_differs (NumberSort W64) = (refl, refl)
sort_differs (Opaque k) = (refl, refl)

sort_name_read : (s : Sort) → SmallSort s → (d at : ℕ) (rest : Parts) (ps : List Piece) (vs : Values) → EndsBefore Name (sort_text s) (spelled ps) → Reads d rest (at + length (sort_text s)) ps vs → Reads d (Phrase SORT_NAME ∷ rest) at (word (sort_text s) ∷ ps) (token (token_parts Name at (sort_text s)) ∷ vs)
sort_name_read (NumberSort W8) h d at rest ps vs ends r = shift_read rule.sort_u8_rule (conversion_word false W8) ends refl r
sort_name_read (NumberSort W16) h d at rest ps vs ends r = shift_read rule.sort_u16_rule (conversion_word false W16) ends refl r
sort_name_read (NumberSort W32) h d at rest ps vs ends r = shift_read rule.sort_u32_rule (conversion_word false W32) ends refl r
sort_name_read (NumberSort W64) h d at rest ps vs ends r = shift_read rule.sort_u64_rule (conversion_word false W64) ends refl r
sort_name_read (Opaque k) h d at rest ps vs ends r = shift_read rule.sort_name_rule (sort_word k h) ends refl r

more_sorts_read : (ss : List Sort) → SmallSorts ss → (d at : ℕ) (rest : Parts) (ps : List Piece) (vs : Values) → Reads d rest (more_names_end (map sort_text ss) at) (symbol (codes ")") ∷ ps) vs
    → Reads d (Phrase MORE_SORTS ∷ rest) at (more_names (map sort_text ss) (symbol (codes ")") ∷ ps)) (tokens (more_names_syntax (map sort_text ss) at) ∷ vs)
more_sorts_read [] h d at rest ps vs r = apply_read rule.no_sorts_rule (word_follows close_word) refl r
more_sorts_read (s ∷ ss) h d at rest ps vs r =
    let more = more_sorts_read ss h.1 d (at + 1 + 1 + length (sort_text s)) rest ps vs r in
    shift_read rule.more_sorts_rule comma_word refl refl
    (gap_read refl (sort_name_read s h.0 d (at + 1 + 1) (Phrase MORE_SORTS ∷ rest) (more_names (map sort_text ss) (symbol (codes ")") ∷ ps)) (tokens (more_names_syntax (map sort_text ss) (at + 1 + 1 + length (sort_text s))) ∷ vs) ((names_stop (map sort_text ss) (symbol (codes ")") ∷ ps) (round_ends ps)).name (sort_text s)) more))

parameters_read : (ss : List Sort) → SmallSorts ss → (d at : ℕ) (rest : Parts) (ps : List Piece) (vs : Values) → Reads d rest (parameters_stop ss at + 1) ps vs
    → Reads d (Phrase PARAMETERS ∷ rest) at (parameters_pieces ss ps) (tokens (parameters_syntax ss at) ∷ vs)
parameters_read [] h d at rest ps vs r = shift_read rule.no_parameters_rule close_word (close_alone (spelled ps)) refl r
parameters_read (s ∷ ss) h d at rest ps vs r =
    let after = more_names (map sort_text ss) (symbol (codes ")") ∷ ps) in
    let us : Values = token (token_parts Symbol (parameters_stop (s ∷ ss) at) (codes ")")) ∷ vs in
    let closed : Reads d (Token CLOSE_ROUND ∷ rest) (parameters_stop (s ∷ ss) at) (symbol (codes ")") ∷ ps) us = token_read close_word (close_alone (spelled ps)) r in
    let more = more_sorts_read ss h.1 d (at + length (sort_text s)) (Token CLOSE_ROUND ∷ rest) ps us closed in
    let differs = sort_differs s in
    apply_read (rule.parameters_rule (sort_terminal s) differs.0 differs.1) (word_follows (sort_is_word s h.0)) refl
    (sort_name_read s h.0 d at (Phrase MORE_SORTS ∷ Token CLOSE_ROUND ∷ rest) after (tokens (more_names_syntax (map sort_text ss) (at + length (sort_text s))) ∷ us) ((names_stop (map sort_text ss) (symbol (codes ")") ∷ ps) (round_ends ps)).name (sort_text s)) more)

-- ---- items

-- the pieces are these items
abbrev FileReads : ℕ → List Piece → List syntax.ItemSyntax → Type 0
FileReads at ps is = Reads 0 (Phrase FILE ∷ []) at ps (items is ∷ [])

no_items : (at : ℕ) → FileReads at [] []
unfolding rules productions listed_actions
no_items at = apply_by FILE 8 [] rule.by_no_items refl (λ vs. refl) refl (nothing_read at)

goal_read : (at : ℕ) → FileReads at goal_pieces (goal_syntax at ∷ [])
goal_read at =
    shift_read rule.equal_rule (keyword (codes "equal") EQUAL refl refl refl refl) refl refl
    (gap_read refl
    (token_read (keyword (codes "before") NAME refl refl refl refl) refl
    (token_read comma_word refl (gap_read refl (token_read (keyword (codes "after") NAME refl refl refl refl) refl (token_read semicolon_word refl (gap_read refl (no_items _))))))))

split_read : (splits : Bool) (at : ℕ) → FileReads at (split_pieces splits goal_pieces) (split_syntax splits at)
split_read false at = goal_read at
split_read true at = shift_read rule.split_rule (keyword (codes "split") SPLIT refl refl refl refl) refl refl (token_read semicolon_word refl (gap_read refl (goal_read _)))

rounds_read : (o : Option ℕ) → AreFew o → (splits : Bool) (at : ℕ) → FileReads at (rounds_pieces o (split_pieces splits goal_pieces)) (rounds_syntax splits o at)
rounds_read None few splits at = split_read splits at
rounds_read (Some n) few splits at =
    shift_read rule.rounds_rule (keyword (codes "rounds") ROUNDS refl refl refl refl) refl refl
    (gap_read refl (token_read (number_word n (omega (arith, few))) refl (token_read semicolon_word refl (gap_read refl (split_read splits _)))))

sorts_read : (k n : ℕ) → k + n ≤ 2 ^ 64 → (next : ℕ → List syntax.ItemSyntax) (ps : List Piece) → ((at : ℕ) → FileReads at ps (next at)) → (at : ℕ) → FileReads at (sorts_pieces k n ps) (sorts_syntax next k n at)
sorts_read k zero low next ps r at = r at
sorts_read k (suc n) low next ps r at =
    let more = sorts_read (k + 1) n (omega (arith, low)) next ps r (sort_end k at) in
    shift_read rule.sort_rule (keyword (codes "sort") SORT refl refl refl refl) refl refl
    (gap_read refl (shift_read rule.names_rule (sort_word k (omega (arith, low))) refl refl (apply_read rule.no_names_rule (word_follows semicolon_word) refl (token_read semicolon_word refl (gap_read refl more)))))

function_read : (k : ℕ) → k < 2 ^ 64 → (result : Sort) (parameters : List Sort) → SmallSort result → SmallSorts parameters → (at : ℕ) (ps : List Piece) (is : List syntax.ItemSyntax) → FileReads (function_end k (function_parts result parameters) at) ps is
    → FileReads at (function_pieces k (function_parts result parameters) ps) (function_syntax k (function_parts result parameters) at ∷ is)
function_read k low result parameters small all at ps is r =
    let stop = parameters_stop parameters (parameters_place k result at) in
    let us : Values = token (token_parts Symbol (stop + 1) (codes ";")) ∷ items is ∷ [] in
    let ended : Reads 0 (Token SEMICOLON ∷ Phrase FILE ∷ []) (stop + 1) (symbol (codes ";") ∷ gap 10 ∷ ps) us = token_read semicolon_word refl (gap_read refl r) in
    let inside = parameters_read parameters all 1 (parameters_place k result at) (Closing ∷ Token SEMICOLON ∷ Phrase FILE ∷ []) (symbol (codes ";") ∷ gap 10 ∷ ps) us (closing_read ended) in
    let called : Reads 0 (Token NAME ∷ Opening OPEN_ROUND ∷ Phrase PARAMETERS ∷ Closing ∷ Token SEMICOLON ∷ Phrase FILE ∷ []) (function_place result at) (word (function_name k) ∷ symbol (codes "(") ∷ parameters_pieces parameters (symbol (codes ";") ∷ gap 10 ∷ ps)) (token (token_parts Name (function_place result at) (function_name k)) ∷ token (token_parts Symbol (function_place result at + length (function_name k)) (codes "(")) ∷ tokens (parameters_syntax parameters (parameters_place k result at)) ∷ us) =
    token_read (function_word k low) refl (opening_read refl open_word (open_alone _) inside) in
    shift_read rule.function_rule (keyword (codes "fun") FUN refl refl refl refl) refl refl
    (gap_read refl (sort_name_read result small 0 (at + 3 + 1) _ (gap 32 ∷ word (function_name k) ∷ symbol (codes "(") ∷ parameters_pieces parameters (symbol (codes ";") ∷ gap 10 ∷ ps)) _ refl (gap_read refl called)))

declared_small : (n : ℕ) (s : Sort) → n ≤ 2 ^ 64 → IsDeclared n s → SmallSort s
declared_small n (NumberSort w) low h = tt
declared_small n (Opaque k) low h = omega (arith, h, low)

all_small : (n : ℕ) (ss : List Sort) → n ≤ 2 ^ 64 → AreDeclared n ss → SmallSorts ss
all_small n [] low h = tt
all_small n (s ∷ ss) low h = (declared_small n s low h.0, all_small n ss low h.1)

functions_read : (n k : ℕ) (fs : List FunctionParts) → n ≤ 2 ^ 64 → k + length fs ≤ 2 ^ 64 → AreFunctions n fs → (next : ℕ → List syntax.ItemSyntax) (ps : List Piece) → ((at : ℕ) → FileReads at ps (next at)) → (at : ℕ) → FileReads at (functions_pieces k fs ps) (functions_syntax next k fs at)
functions_read n k [] few low h next ps r at = r at
functions_read n k (function_parts result parameters ∷ fs) few low h next ps r at =
    function_read k (omega (arith, low)) result parameters (declared_small n result few h.0) (all_small n parameters few h.1) at (functions_pieces (k + 1) fs ps) (functions_syntax next (k + 1) fs (function_end k (function_parts result parameters) at))
    (functions_read n (k + 1) fs few (omega (arith, low)) h.3 next ps r (function_end k (function_parts result parameters) at))

variables_read : (n k : ℕ) (ss : List Sort) → n ≤ 2 ^ 64 → k + length ss ≤ 2 ^ 64 → AreDeclared n ss → (next : ℕ → List syntax.ItemSyntax) (ps : List Piece) → ((at : ℕ) → FileReads at ps (next at)) → (at : ℕ) → FileReads at (variables_pieces k ss ps) (variables_syntax next k ss at)
variables_read n k [] few low h next ps r at = r at
variables_read n k (s ∷ ss) few low h next ps r at =
    let more = variables_read n (k + 1) ss few (omega (arith, low)) h.1 next ps r (variable_end k s at) in
    let place = at + 3 + 1 + length (sort_text s) + 1 in
    let named : Reads 0 (Phrase NAMES ∷ Token SEMICOLON ∷ Phrase FILE ∷ []) place (word (variable_name k) ∷ symbol (codes ";") ∷ gap 10 ∷ variables_pieces (k + 1) ss ps) (tokens (token_parts Name place (variable_name k) ∷ []) ∷ token (token_parts Symbol (place + length (variable_name k)) (codes ";")) ∷ items (variables_syntax next (k + 1) ss (variable_end k s at)) ∷ []) =
    shift_read rule.names_rule (variable_word k (omega (arith, low))) refl refl (apply_read rule.no_names_rule (word_follows semicolon_word) refl (token_read semicolon_word refl (gap_read refl more))) in
    shift_read rule.variable_rule (keyword (codes "var") VAR refl refl refl refl) refl refl
    (gap_read refl (sort_name_read s (declared_small n s few h.0) 0 (at + 3 + 1) _ (gap 32 ∷ word (variable_name k) ∷ symbol (codes ";") ∷ gap 10 ∷ variables_pieces (k + 1) ss ps) _ refl (gap_read refl named)))

module _ (d : Declared) (sorts : List Sort) (few : length sorts ≤ 2 ^ 64) (small : length d.functions ≤ 2 ^ 64) where
  graph_read : (name : List ℕ) → IsWord Name name NAME → (results : List Sort) (g : Graph) → IsPlainGraph d sorts results g → (at : ℕ) (ps : List Piece) (is : List syntax.ItemSyntax) → FileReads (graph_end name g at) ps is → FileReads at (graph_pieces name g ps) (graph_syntax name g at ∷ is)
  graph_read name named results [] plain at ps is r = absurd (plain.some refl)
  graph_read name named results (b ∷ bs) plain at ps is r =
      let begin = graph_begin name at in
      let stop = blocks_end 0 (b ∷ bs) begin in
      let us : Values = token (token_parts Symbol stop (codes "}")) ∷ items is ∷ [] in
      let most = plain.few in
      let ended : Reads 1 (Token CURLY_CLOSE ∷ Closing ∷ Phrase FILE ∷ []) stop (symbol (codes "}") ∷ gap 10 ∷ ps) us = token_read curly_close_word refl (gap_read refl (closing_read r)) in
      let inside = blocks_read d sorts few small (length (b ∷ bs)) results b bs (omega (arith, most)) (omega (arith, most)) plain.blocks begin (Token CURLY_CLOSE ∷ Closing ∷ Phrase FILE ∷ []) (gap 10 ∷ ps) us ended in
      shift_read rule.graph_rule (keyword (codes "graph") GRAPH refl refl refl refl) refl refl
      (gap_read refl (token_read named refl (gap_read refl (opening_read refl curly_open_word refl (gap_read refl inside)))))

  asked_read : (results : List Sort) (g h : Graph) → IsPlainGraph d sorts results g → IsPlainGraph d sorts results h → AreFew d.rounds → (at : ℕ) → FileReads at (asked_pieces d g h) (asked_syntax d g h at)
  asked_read results g h plain other rounds at =
      let next = graph_end (codes "before") g at in
      graph_read (codes "before") (keyword (codes "before") NAME refl refl refl refl) results g plain at (graph_pieces (codes "after") h (ending_pieces d)) _
      (graph_read (codes "after") (keyword (codes "after") NAME refl refl refl refl) results h other next (ending_pieces d) _ (rounds_read d.rounds rounds d.splits (graph_end (codes "after") h next)))

pub graphs_read : (d : Declared) (p : Pair) → ArePlainGraphs d p → FileReads 0 (graphs_pieces d p) (graphs_syntax d p)
graphs_read d p plain =
    let sorts = plain.sorts in
    let functions = plain.few_functions in
    let variables = plain.few_variables in
    sorts_read 0 d.sorts (omega (arith, sorts)) (functions_syntax (variables_syntax (asked_syntax d p.before p.after) 0 p.sorts) 0 d.functions) (functions_pieces 0 d.functions (variables_pieces 0 p.sorts (asked_pieces d p.before p.after)))
    (functions_read d.sorts 0 d.functions (omega (arith, sorts)) (omega (arith, functions)) plain.functions (variables_syntax (asked_syntax d p.before p.after) 0 p.sorts) (variables_pieces 0 p.sorts (asked_pieces d p.before p.after))
    (variables_read d.sorts 0 p.sorts (omega (arith, sorts)) (omega (arith, variables)) plain.variables (asked_syntax d p.before p.after) (asked_pieces d p.before p.after)
    (asked_read d p.sorts (omega (arith, variables)) (omega (arith, functions)) (results_of p.sorts p.before p.after) p.before p.after plain.before plain.after plain.rounds)))
    0
