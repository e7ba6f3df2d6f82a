-- An assignment after its targets.
use Rattle.std.specs.Prelude.{ℕ, List, Result, Ok}
use Rattle.text_parser.specs.declared.fault.TextFault.{TextFault}
use Rattle.text_parser.specs.Parsed.{◌>>=◌}
use Rattle.flow_model.specs.declared.sort.Sort.{Sort}
use Rattle.flow_model.specs.Graphs.{StatementTree}
use Rattle.flow_model.specs.Graphs as model
use Rattle.flow_syntax.specs.Syntax.{ExprSyntax}
use Rattle.flow_text.specs.Scopes.{ScopeParts}
use Rattle.flow_text.specs.Checking.{firsts, seconds, expressions_of}

-- the assignment of expressions to variables with these sorts
abbrev pub assignment_of : ScopeParts → List (ℕ × Sort) → List ExprSyntax → Result StatementTree TextFault
assignment_of s xs es = expressions_of s (seconds xs) es >>= λ vs. Ok (model.assign (firsts xs) vs)
