-- The results of the program's functions as steps of the items.
use Rattle.std.specs.Prelude.{◌≡◌, ℕ, List, drop, Result, Ok, Err}
use Rattle.kat_model.specs.declared.tree.Kat.{Kat}
use Rattle.kat_model.specs.declared.expression.Cond.{Cond}
use Rattle.kat_model.specs.Trees.{Term, kat_tree}
use Rattle.kat_model.specs.Expressions.{CondTree, cond_tree}
use Rattle.text_parser.specs.declared.fault.TextFault.{TextFault}
use Rattle.text_parser.specs.declared.fault.TextFault.TheVariants.{NoMemory}
use Rattle.text_parser.specs.declared.token.Token.{Token}
use Rattle.text_parser.specs.Lexemes.{Lexeme, lexemes}
use Rattle.text_parser.specs.Parsed.{Parsed, Makes, Reads}
use Rattle.problem_file.specs.declared.phrase.Measured.{Measured}
use Rattle.problem_file.specs.declared.phrase.MeasuredSides.{MeasuredSides}
use Rattle.problem_file.specs.declared.phrase.MeasuredTriple.{MeasuredTriple}
use Rattle.problem_file.specs.ItemActions.{Measurement, SidesMeasurement, TripleMeasurement}

-- a phrase among the tokens
abbrev pub measured_of : {X : Type 0} → List Lexeme → Measured X → Measurement X
measured_of ts m = record { measure = m.measure; tokens = drop m.from ts }

abbrev pub sides_of : {X : Type 0} → List Lexeme → MeasuredSides X → SidesMeasurement X
sides_of ts m = record { left = measured_of ts m.left; right = measured_of ts m.right }

abbrev pub triple_of : {X : Type 0} → List Lexeme → MeasuredTriple X → TripleMeasurement X
triple_of ts m = record { pre = measured_of ts m.pre; body = measured_of ts m.body; post = measured_of ts m.post }

-- the result for the part at an index is the measure of that part, or its fault
abbrev pub Represents : {X Y : Type 0} → (List Lexeme → X → Y) → List Token → ℕ → Result (X × ℕ) TextFault → (List Lexeme → Parsed Y) → Type 0
Represents means toks from result f = Reads ⊥ (means (lexemes toks)) (lexemes toks) result (f (drop from (lexemes toks)))

-- a step returns an index and leaves a state, or returns a fault; `memory` is what holds when memory runs out
abbrev pub StepEnds : {S : Type 0} → Type 0 → List Lexeme → Result ℕ TextFault → S → Parsed S → Type 0
StepEnds memory ts (Ok end) s m = m ≡ Ok (s, drop end ts)
StepEnds memory ts (Err NoMemory) s m = memory
StepEnds memory ts (Err e) s m = m ≡ Err e

-- the same for the step that begins at an index
abbrev pub Steps : {S : Type 0} → Type 0 → List Token → ℕ → Result ℕ TextFault → S → (List Lexeme → Parsed S) → Type 0
Steps memory toks from result s f = StepEnds memory (lexemes toks) result s (f (drop from (lexemes toks)))

-- the same for a step that takes no tokens
abbrev pub Does : {S X : Type 0} → Type 0 → Result X TextFault → S → Result S TextFault → Type 0
Does memory (Ok x) s m = m ≡ Ok s
Does memory (Err NoMemory) s m = memory
Does memory (Err e) s m = m ≡ Err e

-- the trees of a triple's phrases
abbrev pub Builds : Result (Cond × Kat × Cond) TextFault → Result (CondTree × Term × CondTree) TextFault → Type 0
Builds result m = Makes (Unit {0}) (λ x. (cond_tree x.0, kat_tree x.1, cond_tree x.2)) result m
