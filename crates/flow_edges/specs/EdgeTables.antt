-- Places and live variables as tables of the program: for each block whether it is a place, and which variables are live
-- there.
use Rattle.std.specs.Prelude.{Bool, false, List, length, filter, slice_index_or, Vec}
use Rattle.std.specs.List.{range_with_len}
use Rattle.std.specs.declared.alloc.Global.{Global}
use Rattle.flow_places.specs.Tables.{noted}
use Rattle.flow_problem.specs.Edges.{Marks}

abbrev pub table_marks : List Bool → List (Vec Bool Global) → Marks
table_marks places live = record {
  places = filter (λ k. slice_index_or places k false) (range_with_len 0 (length places));
  is_place = λ k. slice_index_or places k false;
  live = λ k x. noted live x k;
}
