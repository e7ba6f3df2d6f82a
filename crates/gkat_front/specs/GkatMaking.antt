-- The tree of an expression in a scope, or the first fault of its names.
use Rattle.std.specs.Prelude.{ℕ, ◌+◌, List, [], ◌∷◌, ◌++◌, length, false, Option, Some, None, Result, Ok, Err}
use Rattle.std.proofs.Common.{arith}
use Rattle.kat_model.specs.Trees.{TestTree, bottom, top, prim}
use Rattle.kat_model.specs.Expressions.{test_without_comparisons}
use Rattle.text_parser.specs.declared.fault.TextFault.{TextFault}
use Rattle.text_parser.specs.declared.fault.TextFault.TheVariants.{UnknownName, Sort}
use Rattle.text_parser.specs.Lexemes.{Lexeme}
use Rattle.text_parser.specs.Parsed.{Parsed, ◌>>=◌, change}
use Rattle.text_parser.specs.Actions.{context}
use Rattle.text_parser.specs.Conds.{parse_cond, disjunction}
use Rattle.text_parser.proofs.Within.{Within, weaken, change_within}
use Rattle.text_parser.proofs.CondSteps.{cond_read_short}
use Rattle.text_parser.specs.declared.meaning.Meaning.{Meaning}
use Rattle.text_parser.specs.declared.meaning.Meaning.TheVariants.{Test, Action}
use Rattle.text_parser.specs.ScopeParts.{ScopeParts, meaning}
use Rattle.text_parser.specs.Measuring.{cond_extents}
use Rattle.text_parser.specs.Building.{cond_trees}
use Rattle.gkat_front.specs.Expressions.{GkatTree, test, act, choice, loop, gkat_product}
use Rattle.gkat_front.specs.GkatActions.{GkatActions}

-- the condition at the start as a test, measured before it is built, or the first fault of its names
abbrev pub guard_at : ScopeParts → ℕ → List Lexeme → Parsed TestTree
guard_at w d ts =
    parse_cond (cond_extents w) disjunction (context d false false) ts
    >>= λ m. change test_without_comparisons (parse_cond (cond_trees w) disjunction (context d false false) ts)

pub guard_shorter : (w : ScopeParts) (d : ℕ) (ts : List Lexeme) → Within (length ts) (guard_at w d ts)
guard_shorter w d ts = by_extent (parse_cond (cond_extents w) disjunction (context d false false) ts) where
  by_extent : {X : Type 0} (m : Parsed X) → Within (length ts) (m >>= λ x. change test_without_comparisons (parse_cond (cond_trees w) disjunction (context d false false) ts))
  by_extent (Ok x) = change_within (length ts) test_without_comparisons (parse_cond (cond_trees w) disjunction (context d false false) ts)
      (weaken (length ts + 0) (length ts) (parse_cond (cond_trees w) disjunction (context d false false) ts) (omega arith) (cond_read_short (cond_trees w) disjunction (context d false false) ts))
  by_extent (Err e) = tt

-- the expression that a name at a place denotes
abbrev pub named_by : ℕ → Option Meaning → Result GkatTree TextFault
named_by at None = Err (UnknownName at)
named_by at (Some (Test k)) = Ok (test (prim k))
named_by at (Some (Action a)) = Ok (act a)
named_by at (Some _) = Err (Sort at)

abbrev pub making_expr : ScopeParts → GkatActions TestTree (List GkatTree) GkatTree
making_expr w = record {
  cond = guard_at w;
  shorter = guard_shorter w;
  never = test bottom;
  always = test top;
  name = λ at text. named_by at (meaning w text);
  test = test;
  first = λ e. e ∷ [];
  more = λ es e. es ++ e ∷ [];
  product = gkat_product;
  choice = choice;
  loop = loop;
}
