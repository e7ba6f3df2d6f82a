use Rattle.std.proofs.Common.{◌≡◌, ◌++◌, drop, map, vec_len}
use Rattle.while_lang.specs.ProgramViews.{list_tree}
use Rattle.one_loop.specs.Working.Machine.{points_of, start_of}
use Rattle.one_loop.specs.Working.Blocks.{block_of}
use Rattle.one_loop.proofs.points.+points.Given as goal

-- the blocks so far are those of the points of the statements from this one on
abbrev pub invariant-add_points-loop-i : goal.invariant-add_points-loop-i
invariant-add_points-loop-i l = record {
  start : l.follow ≡ start_of (list_tree (drop l.i l.prog-inside.list.items)) (vec_len l.initial.blocks) l.next;
  blocks : l.blocks.items ≡ l.initial.blocks.items ++ map (block_of l.counter) (points_of (list_tree (drop l.i l.prog-inside.list.items)) (vec_len l.initial.blocks) l.next);
}
