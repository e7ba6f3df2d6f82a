-- The pairs of a walk are few, and when all are processed they are accepted.
use Rattle.std.proofs.Common.{◌≡◌, ◌≤◌, ◌∙◌, ℕ, zero, suc, List, [], ◌∷◌, length, slice_get, Some, sym, ap, subst, arith}
use Rattle.std.proofs.lemmas.List.{length-map}
use Rattle.std.proofs.lemmas.Option.{slice_get_within, same_Some}
use Rattle.kat_model.specs.Members.{Has}
use Rattle.kat_model.specs.Problems.{ProblemParts}
use Rattle.kat_model.specs.Relations.{Same}
use Rattle.kat_model.specs.Pairs.{SetPair, up_to, AreAccepted}
use Rattle.kat_model.proofs.Places.{place_of_member}
use Rattle.kat_model.proofs.Sameness.{accepted_same}
use Rattle.certificate.specs.Decisions.{HasNoRedundantPair, pair_limit}
use Rattle.walk_up_to.specs.Laws.{AreFew}
use Rattle.walk_up_to.specs.Walks.{Entry, pairs_of, closed_pair, IsFoundBy, IsSettled, IsWalk}
use Rattle.walk_up_to.proofs.Entries.{has_pair, pair_has}
use Rattle.walk_up_to.proofs.MorePairs.{settled_more}
use Rattle.walk_up_to.proofs.WalkSteps.{first_entry}
use Rattle.walk_up_to.proofs.NoRedundancy.{no_redundant_bounds}

pub begins : (q : ProblemParts) (es : List Entry) → slice_get es 0 ≡ Some (first_entry q) → (rest : List SetPair) × (pairs_of es ≡ closed_pair q ∷ rest)
begins q [] h = absurd cc
begins q (e ∷ es) h = (pairs_of es, ap (λ (x : Entry). x.pair ∷ pairs_of es) (same_Some e (first_entry q) h))

module _ (q : ProblemParts) (es : List Entry) (done : ℕ) (walk : IsWalk q es done) where
  pub walk_bounds : AreFew q (pairs_of es)
  walk_bounds = let b = begins q es walk.first in subst (AreFew q) (sym b.1) (no_redundant_bounds q b.0 (subst (HasNoRedundantPair q) b.1 walk.needed))

  -- the number of listed pairs is at most the bound on pairs
  pub walk_few : length es ≤ pair_limit q
  walk_few = subst (λ n. n ≤ pair_limit q) (length-map es (λ (x : Entry). x.pair)) walk_bounds.few

  module _ (all : length es ≤ done) where
    all_settled : (p : SetPair) → Has (pairs_of es) p → IsSettled q (pairs_of es) p
    all_settled p h =
        let e = pair_has es p h in
        let k = place_of_member es e.0 e.1 in
        let c = walk.processed k.0 e.0 (let l = slice_get_within es k.0 e.0 k.1 in omega arith) k.1 in
        subst (IsSettled q (pairs_of es)) e.2 (settled_more q c.pairs (pairs_of es) (λ r m. let f = c.found r m in subst (Has (pairs_of es)) f.2 (has_pair es f.0 f.1)) e.0.pair c.settled)

    pub walk_accepted : AreAccepted up_to q (pairs_of es)
    walk_accepted =
        let b = begins q es walk.first in
        record {
          rest = b.0;
          first = b.1;
          bisimulation = record { outputs = λ p h. (all_settled p h).outputs; steps = λ p h atom wide a l. (all_settled p h).steps a l atom wide };
        }

    pub walk_same : Same q
    walk_same = accepted_same up_to q (pairs_of es) walk_accepted

    -- exactly the listed pairs are processed
    pub walk_ended : IsWalk q es (length es)
    walk_ended = record {
      first = walk.first;
      origins = walk.origins;
      needed = walk.needed;
      in_order = walk.in_order;
      so_far = λ e h. let k = place_of_member es e h in found_within k.0 e k.1;
      processed = λ k e l h. walk.processed k e (omega arith) h;
    }
      where
        found_within : (k : ℕ) (e : Entry) → slice_get es k ≡ Some e → IsFoundBy (length es) e.origin
        found_within zero e h = subst (λ (x : Entry). IsFoundBy (length es) x.origin) (same_Some (first_entry q) e (sym walk.first ∙ h)) tt
        found_within (suc k) e h = let c = walk.origins k e h in let l = slice_get_within es (suc k) e h in let o = c.earlier in subst (IsFoundBy (length es)) (sym c.is) (omega (arith, l, o))
