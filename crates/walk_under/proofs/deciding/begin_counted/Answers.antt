use Rattle.std.proofs.Common.{ℕ, List, All, get_or, map, sym, subst}
use Rattle.std.proofs.lemmas.Option.{slice_get-get_or}
use Rattle.std.proofs.lemmas.Result.{on_ok_weaker}
use Rattle.kat_model.specs.Members.{Has}
use Rattle.kat_model.specs.Degrees.{long_hyps, with_hyps}
use Rattle.kat_model.proofs.Places.{has_at}
use Rattle.term_nodes.specs.NodeTrees.{tree_at}
use Rattle.term_nodes.proofs.Growing.{Grows-itself}
use Rattle.partial_derivs.specs.Moves.{IsTermOf}
use Rattle.walk_under.specs.Counting.{AreCounted}
use Rattle.walk_under.proofs.CountedWalks.{counted_terms, counted_list}
use Rattle.walk_under.proofs.deciding.begin_counted.Goals as goal

all_has : (P : ℕ → Type 0) (xs : List ℕ) → ((i : ℕ) → Has xs i → P i) → All P xs
all_has P xs each k i within = each (get_or xs k i) (has_at xs k (get_or xs k i) (slice_get-get_or xs k i within))

pub begin-requires-clause-terms : goal.begin-requires-clause-terms
begin-requires-clause-terms c =
    all_has (IsTermOf c.args.store.now c.args.walk.now.diagrams.tests) c.deref.result.now
    (λ i h.
    subst (λ n. IsTermOf c.args.store.now n i) (sym c.requires.walk.tests)
    (counted_terms c.args.problem.now c.args.store.now c.args.hyps.now c.requires.hyps c.args.counts.now c.in_ok-ids.ids.items c.in_ok-ids.ensures i (subst (λ l. Has l i) c.deref.ensures.value h)))

pub begin-requires-clause-right : goal.begin-requires-clause-right
begin-requires-clause-right c = c.requires.walk.right

pub returns-in_err-ids-clause-kept : goal.returns-in_err-ids-clause-kept
returns-in_err-ids-clause-kept c = Grows-itself c.args.store.now

pub returns-clause-begun : goal.returns-clause-begun
returns-clause-begun c =
    let q = c.args.problem.now in
    let ids = c.deref.result.now in
    on_ok_weaker c.begin.result
    (λ under. (
      map (tree_at c.args.store.now) ids,
      counted_list q c.args.store.now c.args.hyps.now c.requires.hyps c.args.counts.now ids (subst (AreCounted c.args.hyps.now c.args.counts.now) (sym c.deref.ensures.value) c.in_ok-ids.ensures),
      under (with_hyps q (long_hyps q)) c.requires.walk.tests c.actions.ensures.value c.requires.sides,
    ))
    c.begin.ensures.under_way

pub returns-clause-kept : goal.returns-clause-kept
returns-clause-kept c = c.begin.ensures.kept
