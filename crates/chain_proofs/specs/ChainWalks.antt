-- Reading chains from the start of the tokens.
use Rattle.std.specs.Prelude.{ℕ, zero, suc, List, [], ◌∷◌, length, drop, Bool, false, ◌||◌, if◌then◌else◌, codes, Option, None, Some, Result, Ok, Err}
use Rattle.std.specs.Str.{bytes_eq}
use Rattle.text_parser.specs.declared.fault.TextFault.{TextFault}
use Rattle.text_parser.specs.declared.fault.TextFault.TheVariants.{NoMemory, Syntax}
use Rattle.text_parser.specs.declared.terminal.Terminal.TheVariants.{Name, Keyword, Separator, Dot}
use Rattle.text_parser.specs.declared.terminal.Keyword.TheVariants as word
use Rattle.text_parser.specs.declared.terminal.Separator.TheVariants.{Semicolon, CurlyOpen, CurlyClose, Equals}
use Rattle.text_parser.specs.Lexemes.{Lexeme, lexeme, heads, is_terminal}
use Rattle.text_parser.specs.Parsed.{Parsed, ◌>>=◌, at_end, place_of, change, expects, then_expects}
use Rattle.while_lang.specs.Blocks.{enter}
use Rattle.problem_file.specs.Items.{number_at}
use Rattle.chain_proofs.specs.ChainActions.{ChainActions}

-- whether the first token is this plain name
abbrev pub is_word : List ℕ → List Lexeme → Bool
is_word w [] = false
is_word w (lexeme Name at text ∷ ts) = bytes_eq text w
is_word w (lexeme _ at text ∷ ts) = false

-- the tokens after this plain name, or a fault
abbrev pub expects_word : List ℕ → List Lexeme → Result (List Lexeme) TextFault
expects_word w ts = if is_word w ts then Ok (drop 1 ts) else Err (Syntax (place_of ts))

-- the place and the text of the name of a rule: a name, or the keyword `hyp`
abbrev pub rule_name : List Lexeme → Result (ℕ × List ℕ) TextFault
rule_name [] = Err (Syntax at_end)
rule_name (lexeme Name at text ∷ ts) = Ok (at, text)
rule_name (lexeme (Keyword word.Hyp) at text ∷ ts) = Ok (at, text)
rule_name (lexeme _ at text ∷ ts) = Err (Syntax at)

-- whether a rule with this name requires a number; and whether it requires an inner chain
abbrev pub has_number : List ℕ → Bool
has_number name = bytes_eq name (codes "hyp")

abbrev pub has_inner : List ℕ → Bool
has_inner name = bytes_eq name (codes "lfp") || bytes_eq name (codes "rfp")

-- [ NUMBER ], after the name of a rule
abbrev pub argument : List ℕ → List Lexeme → Parsed ℕ
argument name ts = if has_number name then (number_at ts >>= λ n. Ok (n, drop 1 ts)) else Ok (0, ts)

-- { "." NUMBER }, continuing a path
unfoldable pub parts_by : {Z T R P V : Type 0} → ChainActions Z T R P V → P → List Lexeme → Parsed P
parts_by g p [] = Ok (p, [])
parts_by g p (x ∷ []) = if heads (is_terminal Dot) (x ∷ []) then Err (Syntax at_end) else Ok (p, x ∷ [])
parts_by g p (x ∷ y ∷ ts) =
    if heads (is_terminal Dot) (x ∷ y ∷ ts) then (number_at (y ∷ ts) >>= λ n. parts_by g (g.part p n) ts) else Ok (p, x ∷ y ∷ ts)

-- [ "at" NUMBER { "." NUMBER } ]
abbrev pub path_by : {Z T R P V : Type 0} → ChainActions Z T R P V → List Lexeme → Parsed P
path_by g ts =
    if is_word (codes "at") ts then (number_at (drop 1 ts) >>= λ n. parts_by g (g.part g.whole n) (drop 2 ts)) else Ok (g.whole, ts)

-- a rule, its path, and whether it requires an inner chain
pub record Reason (R P : Type 0) : Type 0 where
  pub rule : R
  pub path : P
  pub inner : Bool

-- NAME [ NUMBER ] [ "at" path ]
abbrev pub rule_by : {Z T R P V : Type 0} → ChainActions Z T R P V → List Lexeme → Parsed (Reason R P)
rule_by g ts =
    rule_name ts >>= λ w. argument w.1 (drop 1 ts) >>= λ n. g.rule w.0 w.1 n.0 >>= λ r. change (λ p. record { rule = r; path = p; inner = has_inner w.1 }) (path_by g n.1)

-- what to read: a chain, or the lines that continue a chain
pub data ChainAim (Z V : Type 0) : Type 0 where
  whole_chain : (z : Z) → ChainAim Z V
  lines_after : (v : V) (z : Z) → ChainAim Z V

-- reads what the aim says from the start of the tokens, with this number of open constructs around it
abbrev pub ChainParser : Type 0 → Type 0 → Type 0
ChainParser Z V = ChainAim Z V → ℕ → List Lexeme → Parsed (V × Z)

-- "{" chain "}"
abbrev pub braces_by : {Z V : Type 0} → ChainParser Z V → Z → ℕ → List Lexeme → Parsed (V × Z)
braces_by f z d ts =
    expects (is_terminal (Separator CurlyOpen)) ts >>= λ a. enter d (place_of ts) >>= λ e. then_expects (is_terminal (Separator CurlyClose)) (f (whole_chain z) e a)

-- [ "{" chain "}" ]
abbrev pub inner_by : {Z V : Type 0} → ChainParser Z V → Bool → Z → ℕ → List Lexeme → Parsed (Option V × Z)
inner_by f inner z d ts =
    if inner then change (λ x. (Some x.0, x.1)) (braces_by f z d ts) else Ok ((None, z), ts)

-- term "by" NAME [ NUMBER ] [ "at" path ] [ "{" chain "}" ] ";", after the `=`
abbrev pub line_by : {Z T R P V : Type 0} → ChainActions Z T R P V → ChainParser Z V → V → Z → ℕ → List Lexeme → Parsed (V × Z)
line_by g f v z d ts =
    g.term d z ts
    >>= λ t. expects_word (codes "by") t.1
    >>= λ b. rule_by g b
    >>= λ r. inner_by f (r.0).inner (t.0).1 d r.1
    >>= λ i. then_expects (is_terminal (Separator Semicolon)) (Ok ((g.line v (t.0).0 (r.0).rule (r.0).path (i.0).0, (i.0).1), i.1))

-- one step: reads an aim by reading aims on fewer tokens
abbrev pub chain_by : {Z T R P V : Type 0} → ChainActions Z T R P V → ChainParser Z V → ChainParser Z V
chain_by g f (whole_chain z) d ts = g.term d z ts >>= λ t. f (lines_after (g.first (t.0).0) (t.0).1) d t.1
chain_by g f (lines_after v z) d ts =
    if heads (is_terminal (Separator Equals)) ts then (line_by g f v z d (drop 1 ts) >>= λ x. f (lines_after (x.0).0 (x.0).1) d x.1) else Ok ((v, z), ts)

-- reading with at most this number of steps
unfoldable pub chain_within : {Z T R P V : Type 0} → ChainActions Z T R P V → ℕ → ChainParser Z V
chain_within g zero x d ts = Err NoMemory
chain_within g (suc n) x d ts = chain_by g (chain_within g n) x d ts

-- reads the chain at the start of the tokens, or gives its first fault; each step has fewer tokens
unfoldable pub parse_chain : {Z T R P V : Type 0} → ChainActions Z T R P V → ChainParser Z V
parse_chain g x d ts = chain_within g (suc (length ts)) x d ts
