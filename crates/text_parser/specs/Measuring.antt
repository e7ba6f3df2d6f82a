-- The faults of the names of a phrase, and the size and nesting of the phrase.
use Rattle.std.specs.Prelude.{ℕ, ◌+◌, max, min, if◌then◌else◌, nat_lt, slice_get, Result, Ok, Err, Option, Some, None}
use Rattle.kat_model.specs.declared.limits.TheConstants.{MAX_TERM_NODES, MAX_EXPR_NODES, MAX_OPEN}
use Rattle.kat_model.specs.Trees.{term_size, test_size, is_test}
use Rattle.text_parser.specs.declared.fault.TextFault.{TextFault}
use Rattle.text_parser.specs.declared.fault.TextFault.TheVariants.{UnknownName, Sort, TooDeep}
use Rattle.text_parser.specs.declared.reading.Context.{Context}
use Rattle.text_parser.specs.Actions.{ExprActions, CondActions, Actions}
use Rattle.text_parser.specs.declared.meaning.Meaning.{Meaning}
use Rattle.text_parser.specs.declared.meaning.Meaning.TheVariants.{Test, Action, Var, Term as TermName}
use Rattle.text_parser.specs.declared.extent.Extent.{Extent}
use Rattle.text_parser.specs.Sizes.{as_test, capped}
use Rattle.text_parser.specs.ScopeParts.{Definition, ScopeParts, meaning}

-- the extent of nodes, nodes as a test, and nesting, each capped at its limit plus one
abbrev pub limited : ℕ → ℕ → ℕ → Extent
limited nodes test_nodes nesting = record { nodes = capped nodes; test_nodes = capped test_nodes; nesting = min nesting (MAX_OPEN + 1) }

-- the extent of a phrase in parentheses, which is one level deeper
abbrev pub deeper : Extent → Extent
deeper m = limited m.nodes m.test_nodes (m.nesting + 1)

-- the extent of two phrases and a node that joins them
abbrev pub linked : Extent → Extent → Extent
linked m n = limited (m.nodes + n.nodes + 1) (m.test_nodes + n.test_nodes + 1) (max m.nesting n.nesting)

-- the extent of a phrase with an additional node on top
abbrev pub topped : Extent → Extent
topped m = limited (m.nodes + 1) (m.test_nodes + 1) m.nesting

-- the nodes of an expression in a comparison: more than `MAX_EXPR_NODES` count as `MAX_TERM_NODES + 1`, which is too
-- large
abbrev pub compared_nodes : ℕ → ℕ
compared_nodes n = if nat_lt MAX_EXPR_NODES n then MAX_TERM_NODES + 1 else n

abbrev pub compare : Extent → Extent → Extent
compare m n = limited (compared_nodes m.nodes + compared_nodes n.nodes + 1) 0 (max m.nesting n.nesting)

abbrev pub number_extent : Context → ℕ → Result Extent TextFault
number_extent c at = if c.compares then Ok (limited 1 0 0) else Err (Sort at)

abbrev pub variable_extent : Context → ℕ → Option Meaning → Result Extent TextFault
variable_extent c at None = Err (UnknownName at)
variable_extent c at (Some (Var k)) = if c.compares then Ok (limited 1 0 0) else Err (Sort at)
variable_extent c at (Some m) = Err (Sort at)

abbrev pub condition_extent : ℕ → Option Meaning → Result Extent TextFault
condition_extent at None = Err (UnknownName at)
condition_extent at (Some (Test k)) = Ok (limited 1 1 0)
condition_extent at (Some m) = Err (Sort at)

abbrev pub expr_extents : ScopeParts → ExprActions Extent
expr_extents w = record {
  number = λ c at n. number_extent c at;
  variable = λ c at text. variable_extent c at (meaning w text);
  join = λ o m n. linked m n;
  enclosed = deeper;
}

abbrev pub cond_extents : ScopeParts → CondActions Extent Extent Extent
cond_extents w = record {
  exprs = expr_extents w;
  always = limited 1 1 0;
  never = limited 1 1 0;
  named = λ c at text. condition_extent at (meaning w text);
  compare = λ r m n. compare m n;
  negated = λ m. deeper (topped m);
  enclosed = deeper;
  one_of = λ m. m;
  more = linked;
  all = λ m. m;
  any = λ m. m;
}

-- the extent of a defined term, or the fault if the term is not allowed here
abbrev pub defined_extent : Context → ℕ → Option Definition → Result Extent TextFault
defined_extent c at None = Ok (limited 1 1 0)
defined_extent c at (Some d) =
    if c.negated then
    (if is_test d.tree then
    (if nat_lt MAX_OPEN (c.depth + d.nesting) then Err (TooDeep at) else Ok (limited (term_size d.tree) (test_size (as_test d.tree)) d.nesting))
    else Err (Sort at))
    else (if nat_lt MAX_OPEN (c.depth + d.nesting) then Err (TooDeep at) else Ok (limited (term_size d.tree) (test_size (as_test d.tree)) d.nesting))

abbrev pub name_extent : ScopeParts → Context → ℕ → Option Meaning → Result Extent TextFault
name_extent w c at None = Err (UnknownName at)
name_extent w c at (Some (Test k)) = Ok (limited 2 1 0)
name_extent w c at (Some (Action a)) = if c.negated then Err (Sort at) else Ok (limited 1 1 0)
name_extent w c at (Some (TermName i)) = defined_extent c at (slice_get w.terms i)
name_extent w c at (Some m) = Err (Sort at)

-- the extent of a `!`, which makes a test of its operand
abbrev pub negated : Extent → Extent
negated m = limited (m.test_nodes + 2) (m.test_nodes + 1) (m.nesting + 1)

-- the extent of a condition in brackets, which is a term
abbrev pub tested : Extent → Extent
tested m = limited (m.nodes + 1) m.nodes (m.nesting + 1)

abbrev pub starred : Context → ℕ → Extent → Result Extent TextFault
starred c at m = if c.negated then Err (Sort at) else Ok (topped m)

abbrev pub extents : ScopeParts → Actions Extent Extent Extent Extent Extent
extents w = record {
  conds = cond_extents w;
  zero = limited 1 1 0;
  one = limited 1 1 0;
  named = λ c at text. name_extent w c at (meaning w text);
  negated = negated;
  tested = tested;
  enclosed = deeper;
  starred = starred;
  one_of = λ m. m;
  more = linked;
  sum = λ m. m;
  product = λ m. m;
}
