-- A terminal that passes the check is the expected terminal.
use Rattle.std.proofs.Common.{◌≡◌, List, [], ◌∷◌, Bool, true, false, cond, Ok, Err, refl, ap, sym, rules}
use Rattle.std.proofs.lemmas.Bool.{eqb-true}
use denote.Enum.Bare.{same_true}
use Rattle.kat_model.specs.contracts.expression.Rel.{the_type as rel_type}
use Rattle.text_parser.specs.declared.fault.TextFault.TheVariants.{Syntax}
use Rattle.text_parser.specs.contracts.terminal.Keyword.{the_type as keyword_type}
use Rattle.text_parser.specs.contracts.terminal.Separator.{the_type as separator_type}
use Rattle.text_parser.specs.contracts.terminal.TerminalPartialEq.TheImpl.{ghosts}
use Rattle.text_parser.specs.declared.terminal.Terminal.{Terminal}
use Rattle.text_parser.specs.declared.terminal.Terminal.TheVariants.{RoundOpen, RoundClose, SquareOpen, SquareClose, Bang, Star, Plus, Minus, Dot, And, Or, Compares, Zero, One, Number, WideNumber, True, False, Name, Keyword, Separator, Other}
use Rattle.text_parser.specs.Lexemes.{Lexeme, lexeme, is_terminal}
use Rattle.text_parser.specs.Parsed.{expects}
use Rattle.text_parser.specs.Phrases.{Leaf, cons_token}

-- the check agrees with the program's comparison of terminals
pub same_terminal : (x s : Terminal) → ghosts.eq x s ≡ is_terminal x s
same_terminal RoundOpen RoundOpen = refl
same_terminal RoundClose RoundClose = refl
same_terminal SquareOpen SquareOpen = refl
same_terminal SquareClose SquareClose = refl
same_terminal Bang Bang = refl
same_terminal Star Star = refl
same_terminal Plus Plus = refl
same_terminal Minus Minus = refl
same_terminal Dot Dot = refl
same_terminal And And = refl
same_terminal Or Or = refl
same_terminal (Compares r) (Compares q) = refl
same_terminal Zero Zero = refl
same_terminal One One = refl
same_terminal (Number n) (Number m) = refl
same_terminal WideNumber WideNumber = refl
same_terminal True True = refl
same_terminal False False = refl
same_terminal Name Name = refl
same_terminal (Keyword k) (Keyword j) = refl
same_terminal (Separator p) (Separator q) = refl
same_terminal Other Other = refl
same_terminal _ _ = refl

pub terminal_is : (x s : Terminal) → is_terminal x s ≡ true → s ≡ x
terminal_is RoundOpen RoundOpen e = refl
terminal_is RoundClose RoundClose e = refl
terminal_is SquareOpen SquareOpen e = refl
terminal_is SquareClose SquareClose e = refl
terminal_is Bang Bang e = refl
terminal_is Star Star e = refl
terminal_is Plus Plus e = refl
terminal_is Minus Minus e = refl
terminal_is Dot Dot e = refl
terminal_is And And e = refl
terminal_is Or Or e = refl
terminal_is (Compares r) (Compares q) e = ap Compares (sym (same_true rel_type (search rules) r q e))
terminal_is Zero Zero e = refl
terminal_is One One e = refl
terminal_is (Number n) (Number m) e = ap Number (sym (eqb-true n m e))
terminal_is WideNumber WideNumber e = refl
terminal_is True True e = refl
terminal_is False False e = refl
terminal_is Name Name e = refl
terminal_is (Keyword k) (Keyword j) e = ap Keyword (sym (same_true keyword_type (search rules) k j e))
terminal_is (Separator a) (Separator b) e = ap Separator (sym (same_true separator_type (search rules) a b e))
terminal_is Other Other e = refl
terminal_is _ _ e = absurd cc

pub expects_ok : (x : Terminal) (ts rest : List Lexeme) → expects (is_terminal x) ts ≡ Ok rest → (l : Leaf) × (ts ≡ cons_token x l rest)
expects_ok x [] rest e = absurd cc
expects_ok x (lexeme s at text ∷ ts) rest e = by_terminal (is_terminal x s) refl e where
  by_terminal : (b : Bool) → is_terminal x s ≡ b → cond b (Ok ts) (Err (Syntax at)) ≡ Ok rest → (l : Leaf) × (lexeme s at text ∷ ts ≡ cons_token x l rest)
  by_terminal true h k = let same : ts ≡ rest = cc in (record { at = at; text = text }, rw (terminal_is x s h, same) refl)
  by_terminal false h k = absurd cc
