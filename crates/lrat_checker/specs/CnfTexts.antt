-- DIMACS CNF texts: the words `p cnf VARIABLES CLAUSES`, and then clauses, each a list of literals ended by 0. A
-- literal is the number of its variable, after a minus sign if it is negative.
use Rattle.std.specs.Prelude.{ℕ, ◌==◌, nat_le, true, false, if◌then◌else◌, List, [], ◌∷◌, ◌++◌, length, codes, Option, None, Some, Result, Ok, Err}
use Rattle.std.specs.Str.{bytes_eq}
use Rattle.lrat_checker.specs.CnfParts.{CnfParts}
use Rattle.lrat_checker.specs.Words.{WordParts, WordFormat, words_of, last_line, read_from}
use Rattle.lrat_checker.specs.Numbers.{NumberParts, nothing, plus, minus, number_of, literal}
use Rattle.lrat_checker.specs.declared.literal.Literal.{Literal}
use Rattle.lrat_checker.specs.declared.fault.CnfFault.{CnfFault}
use Rattle.lrat_checker.specs.declared.fault.CnfFault.TheVariants.{Header, TooLarge, NotLiteral, UnknownVariable, Unended, WrongCount}

-- the formula that a text denotes, or its first fault
abbrev pub CnfAnswer : Type 0
CnfAnswer = Result CnfParts CnfFault

-- ---- the header

-- a word that is always the same, and then the rest
abbrev pub after_fixed : List ℕ → ℕ → (List WordParts → CnfAnswer) → List WordParts → CnfAnswer
after_fixed bytes last more [] = Err (Header last)
after_fixed bytes last more (w ∷ ws) = if bytes_eq w.bytes bytes then more ws else Err (Header w.line)

-- a number that is at most this
abbrev pub counted : ℕ → ℕ → (ℕ → CnfAnswer) → Option NumberParts → CnfAnswer
counted most line more (Some nothing) = more 0
counted most line more (Some (plus k)) = if nat_le k most then more k else Err (TooLarge line)
counted most line more (Some (minus k)) = Err (Header line)
counted most line more None = Err (Header line)

-- a number that is at most this, and then the rest
abbrev pub after_count : ℕ → ℕ → (ℕ → List WordParts → CnfAnswer) → List WordParts → CnfAnswer
after_count most last more [] = Err (Header last)
after_count most last more (w ∷ ws) = counted most w.line (λ k. more k ws) (number_of w.bytes)

-- the header from each of its words on, and then the rest
abbrev pub after_variables : ℕ → (ℕ → ℕ → List WordParts → CnfAnswer) → ℕ → List WordParts → CnfAnswer
after_variables last more variables = after_count 18446744073709551615 last (more variables)

abbrev pub after_cnf : ℕ → (ℕ → ℕ → List WordParts → CnfAnswer) → List WordParts → CnfAnswer
after_cnf last more = after_count 2147483647 last (after_variables last more)

abbrev pub after_p : ℕ → (ℕ → ℕ → List WordParts → CnfAnswer) → List WordParts → CnfAnswer
after_p last more = after_fixed (codes "cnf") last (after_cnf last more)

abbrev pub after_header : ℕ → (ℕ → ℕ → List WordParts → CnfAnswer) → List WordParts → CnfAnswer
after_header last more = after_fixed (codes "p") last (after_p last more)

-- ---- the clauses

-- the clauses so far, and the literals so far of the next one
pub record ClausesRead : Type 0 where
  pub clauses : List (List Literal)
  pub clause : List Literal

abbrev pub reading : List (List Literal) → List Literal → ClausesRead
reading clauses clause = record { clauses = clauses; clause = clause }

-- a literal of the next clause, if its variable is known
abbrev pub with_literal : ℕ → ClausesRead → ℕ → Literal → Result ClausesRead CnfFault
with_literal variables r line l =
    if nat_le l.variable variables then Ok (reading r.clauses (r.clause ++ l ∷ [])) else Err (UnknownVariable line)

abbrev pub with_number : ℕ → ClausesRead → ℕ → Option NumberParts → Result ClausesRead CnfFault
with_number variables r line (Some nothing) = Ok (reading (r.clauses ++ r.clause ∷ []) [])
with_number variables r line (Some (plus k)) = with_literal variables r line (literal k true)
with_number variables r line (Some (minus k)) = with_literal variables r line (literal k false)
with_number variables r line None = Err (NotLiteral line)

abbrev pub clauses_at_end : ℕ → ℕ → List (List Literal) → List Literal → ℕ → CnfAnswer
clauses_at_end variables count clauses [] last =
    if length clauses == count then Ok (record { variables = variables; clauses = clauses }) else Err (WrongCount last)
clauses_at_end variables count clauses (l ∷ ls) last = Err (Unended last)

abbrev pub clause_format : ℕ → ℕ → WordFormat ClausesRead CnfParts CnfFault
clause_format variables count = record {
  with_word = λ r w. with_number variables r w.line (number_of w.bytes);
  at_end = λ r last. clauses_at_end variables count r.clauses r.clause last;
}

-- ---- a text

abbrev pub clauses_from : ℕ → ℕ → ℕ → List WordParts → CnfAnswer
clauses_from last variables count words = read_from (clause_format variables count) (reading [] []) words last

abbrev pub cnf_of : List ℕ → CnfAnswer
cnf_of text = after_header (last_line text) (clauses_from (last_line text)) (words_of text)
