-- Terms of the program between places, with the ways over a place that is eliminated.
use Rattle.std.specs.Prelude.{◌≡◌, List, ◌++◌, map, Result, OnOk, Vec}
use Rattle.std.specs.declared.alloc.Global.{Global}
use Rattle.kat_model.specs.Trees.{Term, kat_tree}
use Rattle.kat_model.specs.declared.tree.Kat.{Kat}
use Rattle.flow_places.specs.declared.elimination.Row.{Row}
use Rattle.flow_places.specs.Elimination.{plus, times}
use Rattle.flow_places.specs.Rows.{TermRow, row_tree, steps_around, row_without}

-- a term with the way to a place, around it and on
abbrev pub with_way_over : Kat → Kat → Kat → Kat → Term
with_way_over own to around onward = plus (kat_tree own) (times (kat_tree to) (times (kat_tree around) (kat_tree onward)))

abbrev pub steps_over : Kat → Kat → List Kat → List Kat → List Term
steps_over to around own onward = steps_around (kat_tree to) (kat_tree around) (map kat_tree own) (map kat_tree onward)

-- rows without the last place
abbrev pub rows_over : Row → List Row → List TermRow
rows_over last rows = map (row_without (row_tree last)) (map row_tree rows)

abbrev pub AddsTerms : {E : Type 0} → Result (Unit {0}) E → Vec Kat Global → Vec Kat Global → List Term → Type 0
AddsTerms result old new more = OnOk result (map kat_tree new.items ≡ map kat_tree old.items ++ more)

abbrev pub AddsRows : {E : Type 0} → Result (Unit {0}) E → Vec Row Global → Vec Row Global → List TermRow → Type 0
AddsRows result old new more = OnOk result (map row_tree new.items ≡ map row_tree old.items ++ more)
