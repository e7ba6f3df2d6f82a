use Rattle.std.proofs.Common.{◌∙◌, ap, map, length, ◌<◌, ◌≤◌, arith}
use Rattle.std.proofs.lemmas.List.{length-map}
use Rattle.kat_model.specs.Problems.{counted}
use Rattle.kat_model.specs.declared.limits.TheConstants.{MAX_TERM_NODES}
use Rattle.flow_places.specs.Rows.{row_tree, rows_without, rows_size}
use Rattle.flow_places.proofs.Rounds.{round_keeps}
use Rattle.flow_places.proofs.eliminating.eliminated.Goals as goal

pub loop-rows-preserved : goal.loop-rows-preserved
loop-rows-preserved c =
    let many : 1 < length c.loop-rows.rows.items = omega (arith, c.loop-rows-test.true, c.len.ensures) in
    let few : c.rows_size_without.result ≤ MAX_TERM_NODES = omega (arith, c.if-rows_size_without-gt-MAX_TERM_NODES.false) in
    let kept =
    round_keeps (map row_tree c.loop-rows.rows.items) (map row_tree c.in_ok-rows.rows.items) (length c.loop-rows.rows.items) (length c.in_ok-rows.rows.items) c.rows_size_without.result _ _
    many (length-map c.loop-rows.rows.items row_tree) (length-map c.in_ok-rows.rows.items row_tree)
    (c.in_ok-rows.ensures ∙ ap (λ xs. rows_without (map row_tree xs)) c.deref-in-loop-rows.ensures.value)
    (c.rows_size_without.ensures ∙ ap (λ xs. counted (rows_size (rows_without (map row_tree xs)))) c.deref.ensures.value)
    few c.loop-rows.invariant.term c.loop-rows.invariant.fits in
    record { term = kept.term; fits = kept.fits }
