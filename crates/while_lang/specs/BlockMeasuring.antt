-- The faults of the names of a block, and the size and nesting of the block.
use Rattle.std.specs.Prelude.{ℕ, ◌+◌, max, if◌then◌else◌, nat_lt, List, slice_get, Result, Ok, Err, Option, Some, None}
use Rattle.kat_model.specs.declared.limits.TheConstants.{MAX_OPEN}
use Rattle.text_parser.specs.declared.fault.TextFault.{TextFault}
use Rattle.text_parser.specs.declared.fault.TextFault.TheVariants.{UnknownName, Sort, TooDeep}
use Rattle.text_parser.specs.declared.meaning.Meaning.{Meaning}
use Rattle.text_parser.specs.declared.meaning.Meaning.TheVariants.{Action, Var, Prog}
use Rattle.text_parser.specs.declared.extent.Extent.{Extent}
use Rattle.text_parser.specs.ScopeParts.{ScopeParts, meaning}
use Rattle.text_parser.specs.Measuring.{limited, compared_nodes, extents}
use Rattle.while_lang.specs.ProgramSizes.{prog_size}
use Rattle.while_lang.specs.NamedProgs.{ProgParts}
use Rattle.while_lang.specs.BlockActions.{BlockActions}

-- the extent of statements, which are not a test: nodes and nesting, each capped at its limit plus one
abbrev pub extent : ℕ → ℕ → Extent
extent nodes nesting = limited nodes 0 nesting

-- the extent of statements `m` and another statement, with `n` below its node
abbrev pub with_node : Extent → Extent → Extent
with_node m n = extent (m.nodes + n.nodes + 1) (max m.nesting n.nesting)

-- the extent of two parts next to each other
abbrev pub beside : Extent → Extent → Extent
beside m n = extent (m.nodes + n.nodes) (max m.nesting n.nesting)

-- the extent one level deeper
abbrev pub deeper : Extent → Extent
deeper m = extent m.nodes (m.nesting + 1)

-- the extent after a program of the file as a statement, or a fault if it is too deep
abbrev pub spliced_extent : ℕ → ℕ → Option ProgParts → Extent → Result Extent TextFault
spliced_extent d at None m = Ok m
spliced_extent d at (Some p) m = if nat_lt MAX_OPEN (d + p.nesting) then Err (TooDeep at) else Ok (beside m (extent (prog_size p.tree) p.nesting))

-- the extent after a name as a statement
abbrev pub named_extent : List ProgParts → ℕ → ℕ → Option Meaning → Extent → Result Extent TextFault
named_extent ps d at None m = Err (UnknownName at)
named_extent ps d at (Some (Action a)) m = Ok (with_node m (extent 0 0))
named_extent ps d at (Some (Prog i)) m = spliced_extent d at (slice_get ps i) m
named_extent ps d at (Some n) m = Err (Sort at)

-- checks a name before `:=`
abbrev pub check_target : ℕ → Option Meaning → Result (Unit {0}) TextFault
check_target at None = Err (UnknownName at)
check_target at (Some (Var k)) = Ok tt
check_target at (Some m) = Err (Sort at)

abbrev pub block_extents : ScopeParts → List ProgParts → BlockActions Extent Extent Extent Extent Extent Extent
block_extents w ps = record {
  phrases = extents w;
  none = extent 0 0;
  skip = λ m. with_node m (extent 0 0);
  abort = λ m. with_node m (extent 0 0);
  assert = with_node;
  named = λ d at name m. named_extent ps d at (meaning w name) m;
  target = λ at name. check_target at (meaning w name);
  assign = λ m name e. with_node m (extent (compared_nodes e.nodes) e.nesting);
  branch = λ m b p q. with_node m (beside b (beside p q));
  turn = λ m b p. with_node m (beside b p);
  braced = deeper;
  chained = deeper;
}
