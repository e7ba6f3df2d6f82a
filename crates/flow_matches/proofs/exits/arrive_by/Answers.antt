use Rattle.std.proofs.Common.{◌≡◌, false, ◌∷◌, [], slice_index_or, sym, ap, ◌∙◌}
use Rattle.std.proofs.lemmas.Result.{on_ok_weaker}
use Rattle.flow_model.specs.Polish.{jump_of}
use Rattle.flow_ways.specs.Liveness.{jump_targets}
use Rattle.flow_matches.specs.Working.ExitViews.{with_arrivals}
use Rattle.flow_matches.proofs.MetBlocks.{arrivals-append}
use Rattle.flow_matches.proofs.exits.arrive_by.Goals as goal

pub returns-in-Goto-clause-added : goal.returns-in-Goto-clause-added
returns-in-Goto-clause-added c =
    on_ok_weaker c.arrive.result
    (λ (e : c.arrive.new.arrivals.blocks.items ≡ with_arrivals (λ k. slice_index_or c.args.stops.now k false) c.args.arrivals.now.blocks.items (c.in-Goto.k ∷ [])).
    e ∙ ap (λ j. with_arrivals (λ k. slice_index_or c.args.stops.now k false) c.args.arrivals.now.blocks.items (jump_targets (jump_of j))) (sym c.in-Goto.is))
    c.arrive.ensures.added

pub returns-in_ok-arrive-in-Branch-clause-added : goal.returns-in_ok-arrive-in-Branch-clause-added
returns-in_ok-arrive-in-Branch-clause-added c =
    on_ok_weaker c.arrive-in-Branch-2.result
    (λ (e : c.arrive-in-Branch-2.new.arrivals.blocks.items ≡ with_arrivals (λ k. slice_index_or c.args.stops.now k false) c.arrive-in-Branch.new.arrivals.blocks.items (c.in-Branch.l ∷ [])).
    e
    ∙ ap (λ ks. with_arrivals (λ k. slice_index_or c.args.stops.now k false) ks (c.in-Branch.l ∷ [])) c.in_ok-arrive-in-Branch.ensures.added
    ∙ sym (arrivals-append (λ k. slice_index_or c.args.stops.now k false) c.args.arrivals.now.blocks.items (c.in-Branch.k ∷ []) (c.in-Branch.l ∷ []))
    ∙ ap (λ j. with_arrivals (λ k. slice_index_or c.args.stops.now k false) c.args.arrivals.now.blocks.items (jump_targets (jump_of j))) (sym c.in-Branch.is))
    c.arrive-in-Branch-2.ensures.added
