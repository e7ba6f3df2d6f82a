use Rattle.std.proofs.Common.{◌≡◌, ◌+◌, false, length, slice_index_or, ◌∙◌, arith}
use mathlib.Core.Path.{ap₂}
use Rattle.flow_matches.specs.Working.SideViews.{after_arrivals, numbers_of_leaves, number_blocks, number_all_arrivals}
use Rattle.flow_matches.proofs.SideGraphs.{points_counted, targets_made}
use Rattle.flow_matches.proofs.side.new_side.Goals as goal

pub returns-clause-side : goal.returns-clause-side
returns-clause-side c = λ s graph marks inside arrivals leaves opening otherwise.
    let blocks = c.args.blocks.now in
    let stops = c.args.stops.now in
    let ks = c.args.inside.items in
    let ls = c.args.leaves.items in
    let count = c.in_ok-count.count in
    let first = c.number_inside.new.targets.items in
    let long : c.len.result ≡ length ks = omega (arith, c.len.ensures, c.args.inside.ok.0) in
    let long_again : c.len-2.result ≡ length ks = omega (arith, c.len-2.ensures, c.args.inside.ok.0) in
    let counted = points_counted s blocks stops ls graph marks c.requires leaves ks count inside (c.in_ok-count.ensures ∙ ap₂ (λ n l. after_arrivals (n + 1) (numbers_of_leaves l)) long c.deref.ensures.value) in
    record {
      graph = graph;
      opening = opening;
      inside = inside;
      leaves = leaves;
      targets = targets_made s blocks stops ls graph marks c.requires leaves ks c.args.arrivals.now count first c.number_arrivals.new.targets.items inside arrivals counted
          (c.number_inside.ensures ∙ ap₂ (λ l ts. number_blocks (λ k. slice_index_or stops k false) 1 l ts) c.deref-2.ensures.value c.in_ok-targets.ensures)
          (c.in_ok-number_arrivals.ensures ∙ ap₂ (λ n l. number_all_arrivals (n + 1) c.args.arrivals.now (numbers_of_leaves l) first) long_again c.deref-3.ensures.value);
      count = counted;
      otherwise = otherwise;
    }

pub returns-clause-whole : goal.returns-clause-whole
returns-clause-whole c = λ opening leaves. record { opening = opening; leaves = leaves }
