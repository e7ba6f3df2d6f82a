use Rattle.std.proofs.Common.{◌≡◌, map, refl, sym, ◌∙◌, subst}
use Rattle.flow_model.specs.Polish.{graph_of}
use Rattle.flow_places.specs.Live.{live}
use Rattle.flow_places.specs.Places.{places}
use Rattle.flow_places.specs.Tables.{noted}
use Rattle.flow_edges.specs.GraphRows.{row_edges}
use Rattle.flow_abstraction.specs.Working.Placed.{of_place_fault, of_way_fault, HasGraphFault}
use Rattle.flow_abstraction.proofs.Refusals.{refused_as}
use Rattle.flow_abstraction.proofs.PlacedRows.{listed_places, rows_of_places, all_sound, ways_refused, loop_refused}
use Rattle.flow_abstraction.proofs.placed.placed_edges.Goals as goal

pub returns-in_err-marks-clause-refused : goal.returns-in_err-marks-clause-refused
returns-in_err-marks-clause-refused c =
    let e = c.in_err-marks.field-0.0 in
    refused_as (HasGraphFault c.args.sorts.now c.args.blocks.now) (of_place_fault e) c.from_residual.result c.from_residual.ensures.1
    (loop_refused c.args.sorts.now c.args.blocks.now e c.in_err-marks.ensures.uncut)

pub returns-in_err-edges-clause-refused : goal.returns-in_err-edges-clause-refused
returns-in_err-edges-clause-refused c =
    let e = c.in_err-edges.field-0.0 in
    let listed : c.in_ok-list.list.items ≡ places (graph_of c.args.blocks.now) =
    listed_places (graph_of c.args.blocks.now) c.deref.result.now c.in_ok-list.list.items (c.deref.ensures.value ∙ c.in_ok-marks.ensures.marks) c.in_ok-list.ensures in
    refused_as (HasGraphFault c.args.sorts.now c.args.blocks.now) (of_way_fault e) c.from_residual-in_err-edges.result c.from_residual-in_err-edges.ensures.1
    (ways_refused c.args.sorts.now c.args.blocks.now c.deref-2.result.now (c.deref-2.ensures.value ∙ c.in_ok-marks.ensures.marks) c.deref-4.result.now e
    (c.deref-4.ensures.value ∙ listed) c.in_err-edges.ensures.refused)

pub returns-clause-made : goal.returns-clause-made
returns-clause-made c =
    let g = graph_of c.args.blocks.now in
    let listed : c.in_ok-list.list.items ≡ places g =
    listed_places g c.deref.result.now c.in_ok-list.list.items (c.deref.ensures.value ∙ c.in_ok-marks.ensures.marks) c.in_ok-list.ensures in (
      listed,
      rows_of_places g c.args.sorts.now c.args.blocks.now c.deref-2.result.now c.deref-3.result.now c.deref-4.result.now (map row_edges c.in_ok-edges.edges.items) c.in_ok-edges.ensures.made refl
          (c.deref-2.ensures.value ∙ c.in_ok-marks.ensures.marks)
          (λ l x lt. subst (λ t. noted t x l ≡ live g l x) (sym c.deref-3.ensures.value) (c.in_ok-live.ensures l x lt))
          (c.deref-4.ensures.value ∙ listed),
    )

pub returns-clause-sound : goal.returns-clause-sound
returns-clause-sound c =
    let listed : c.in_ok-list.list.items ≡ places (graph_of c.args.blocks.now) =
    listed_places (graph_of c.args.blocks.now) c.deref.result.now c.in_ok-list.list.items (c.deref.ensures.value ∙ c.in_ok-marks.ensures.marks) c.in_ok-list.ensures in
    all_sound c.args.sorts.now c.args.blocks.now c.deref-2.result.now (c.deref-2.ensures.value ∙ c.in_ok-marks.ensures.marks) c.deref-4.result.now (c.deref-4.ensures.value ∙ listed)
    c.in_ok-marks.ensures.cut c.in_ok-edges.ensures.few
