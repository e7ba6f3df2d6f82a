-- The condition parser.
use Rattle.std.specs.Prelude.{ℕ, zero, suc, ◌+◌, ◌*◌, List, [], ◌∷◌, length, drop, Bool, if◌then◌else◌, Ok, Err}
use Rattle.kat_model.specs.declared.expression.Rel.{Rel}
use Rattle.text_parser.specs.declared.fault.TextFault.TheVariants.{NoMemory, Syntax}
use Rattle.text_parser.specs.declared.terminal.Terminal.TheVariants.{RoundOpen, RoundClose, Bang, And, Or, Compares, Zero, One, Number, WideNumber, True, False, Name}
use Rattle.text_parser.specs.declared.reading.Context.{Context}
use Rattle.text_parser.specs.Lexemes.{Lexeme, lexeme, heads, makes_expr, is_terminal}
use Rattle.text_parser.specs.Parsed.{Parsed, ◌>>=◌, at_end, before, change, then_expects}
use Rattle.text_parser.specs.Actions.{CondActions, enter, enter_not}
use Rattle.text_parser.specs.Exprs.{parse_expr, sums}

-- the tokens after the matching parenthesis, with `n` parentheses open, or empty
abbrev pub index_after_matching : ℕ → List Lexeme → List Lexeme
index_after_matching n [] = []
index_after_matching zero (lexeme s at text ∷ ts) = if is_terminal RoundOpen s then index_after_matching 1 ts else if is_terminal RoundClose s then ts else index_after_matching 0 ts
index_after_matching (suc n) (lexeme s at text ∷ ts) = if is_terminal RoundOpen s then index_after_matching (suc (suc n)) ts else if is_terminal RoundClose s then index_after_matching n ts else index_after_matching (suc n) ts

-- whether the next token makes an expression of what precedes it
abbrev pub begins_expr : List Lexeme → Bool
begins_expr ts = heads makes_expr ts

-- what to parse: a whole list, the rest of a list after the list so far, or a literal
pub data CondAim (L : Type 0) : Type 0 where
  disjunction : CondAim L
  disjunction_after : (l : L) → CondAim L
  conjunction : CondAim L
  conjunction_after : (l : L) → CondAim L
  literal : CondAim L

-- a parser, which reads an aim at the start of the tokens in a context
abbrev pub CondParser : Type 0 → Type 0 → Type 0
CondParser B L = CondAim L → Context → List Lexeme → Parsed B

-- parses one relation
abbrev pub relation : List Lexeme → Parsed Rel
relation [] = Err (Syntax at_end)
relation (lexeme (Compares r) at text ∷ ts) = Ok (r, ts)
relation (lexeme _ at text ∷ ts) = Err (Syntax at)

-- parses two expressions with a relation between them
abbrev pub comparison : {E B L : Type 0} → CondActions E B L → Context → List Lexeme → Parsed B
comparison g c ts = parse_expr g.exprs sums c ts >>= λ x. relation x.1 >>= λ r. parse_expr g.exprs sums c r.1 >>= λ y. Ok (g.compare r.0 x.0 y.0, y.1)

-- parses a condition and the parenthesis that closes it
abbrev pub parenthesis : {E B L : Type 0} → CondActions E B L → CondParser B L → Context → ℕ → List Lexeme → Parsed B
parenthesis g f c at ts = enter c at >>= λ d. change g.enclosed (then_expects (is_terminal RoundClose) (f disjunction d ts))

-- parses the operand of a `!`
abbrev pub negation : {E B L : Type 0} → CondActions E B L → CondParser B L → Context → ℕ → List Lexeme → Parsed B
negation g f c at ts = enter_not c at >>= λ d. change g.negated (f literal d ts)

-- parses a literal; the token after a name or after a matching parenthesis decides whether it is a comparison
abbrev pub literal_by : {E B L : Type 0} → CondActions E B L → CondParser B L → Context → List Lexeme → Parsed B
literal_by g f c [] = Err (Syntax at_end)
literal_by g f c (lexeme True at text ∷ ts) = Ok (g.always, ts)
literal_by g f c (lexeme False at text ∷ ts) = Ok (g.never, ts)
literal_by g f c (lexeme Bang at text ∷ ts) = negation g f c at ts
literal_by g f c (lexeme Name at text ∷ ts) = if begins_expr ts then comparison g c (lexeme Name at text ∷ ts) else before ts (g.named c at text)
literal_by g f c (lexeme RoundOpen at text ∷ ts) = if begins_expr (index_after_matching 0 ts) then comparison g c (lexeme RoundOpen at text ∷ ts) else parenthesis g f c at ts
literal_by g f c (lexeme Zero at text ∷ ts) = comparison g c (lexeme Zero at text ∷ ts)
literal_by g f c (lexeme One at text ∷ ts) = comparison g c (lexeme One at text ∷ ts)
literal_by g f c (lexeme (Number n) at text ∷ ts) = comparison g c (lexeme (Number n) at text ∷ ts)
literal_by g f c (lexeme WideNumber at text ∷ ts) = comparison g c (lexeme WideNumber at text ∷ ts)
literal_by g f c (lexeme _ at text ∷ ts) = Err (Syntax at)

-- one step: parses each aim by parsers on fewer tokens, or on equally many with a lower rank
abbrev pub cond_by : {E B L : Type 0} → CondActions E B L → CondParser B L → CondParser B L
cond_by g f disjunction c ts = f conjunction c ts >>= λ x. f (disjunction_after (g.one_of x.0)) c x.1
cond_by g f (disjunction_after l) c ts = if heads (is_terminal Or) ts then (f conjunction c (drop 1 ts) >>= λ x. f (disjunction_after (g.more l x.0)) c x.1) else Ok (g.any l, ts)
cond_by g f conjunction c ts = f literal c ts >>= λ x. f (conjunction_after (g.one_of x.0)) c x.1
cond_by g f (conjunction_after l) c ts = if heads (is_terminal And) ts then (f literal c (drop 1 ts) >>= λ x. f (conjunction_after (g.more l x.0)) c x.1) else Ok (g.all l, ts)
cond_by g f literal c ts = literal_by g f c ts

-- orders the aims that may follow each other before a token is read
abbrev pub rank : {L : Type 0} → CondAim L → ℕ
rank literal = 0
rank (conjunction_after l) = 1
rank conjunction = 2
rank (disjunction_after l) = 3
rank disjunction = 4

-- a number of steps that suffices
abbrev pub steps : {L : Type 0} → CondAim L → List Lexeme → ℕ
steps x ts = 8 * length ts + rank x

-- parses in at most `n` steps
unfoldable pub cond_within : {E B L : Type 0} → CondActions E B L → ℕ → CondParser B L
cond_within g zero x c ts = Err NoMemory
cond_within g (suc n) x c ts = cond_by g (cond_within g n) x c ts

-- parses the condition at the start of the tokens, or gives the first fault
unfoldable pub parse_cond : {E B L : Type 0} → CondActions E B L → CondParser B L
parse_cond g x c ts = cond_within g (suc (steps x ts)) x c ts
