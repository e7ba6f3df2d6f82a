-- A walk begins with the closed pair, lists an additional pair, or processes an additional one.
use Rattle.std.proofs.Common.{◌≡◌, ◌≤◌, ◌<◌, ◌⊎◌, ⊎_elim, ℕ, zero, suc, List, [], ◌∷◌, ◌++◌, slice_get, Some, None, refl, sym, ap, ◌∙◌, subst, arith, append-nil, append_assoc}
use Rattle.std.proofs.lemmas.Option.{slice_get_within, same_Some}
use Rattle.kat_model.specs.Members.{Has}
use Rattle.kat_model.specs.Problems.{ProblemParts}
use Rattle.kat_model.specs.Closed.{closed}
use Rattle.kat_model.specs.Pairs.{SetPair, IsCongruent}
use Rattle.kat_model.proofs.Lists.{has_left, has_append}
use Rattle.kat_model.proofs.Places.{has_at, slice_get-append_some, slice_get_last}
use Rattle.certificate.specs.Decisions.{IsNeeded, AreNeeded, HasNoRedundantPair}
use Rattle.walk_up_to.specs.Walks.{StepOrigin, Entry, pairs_of, closed_pair, IsNextOf, ComesFrom, IsFoundBy, AreInOrder, IsSettled, IsProcessed, IsWalk}
use Rattle.walk_up_to.proofs.Entries.{pairs_of-append, has_pair, pair_has, found_later}

-- ---- the start

-- the first entry, of the closed pair
abbrev pub first_entry : ProblemParts → Entry
first_entry q = record { pair = closed_pair q; origin = None }

pub walk_starts : (q : ProblemParts) → IsWalk q (first_entry q ∷ []) 0
walk_starts q = record {
  first = refl;
  origins = λ k e h. absurd cc;
  needed = tt;
  in_order = alone;
  so_far = λ e h. ⊎_elim (λ s. subst (λ (x : Entry). IsFoundBy 0 x.origin) s tt) absurd h;
  processed = λ k e l h. absurd (omega arith);
}
  where
    alone : AreInOrder (first_entry q ∷ [])
    alone i zero e f o l at is from = let same : first_entry q ≡ f = cc in let none : None ≡ Some o = ap (λ (x : Entry). x.origin) same ∙ from in absurd cc
    alone i (suc j) e f o l at is from = absurd cc

-- ---- an additional pair

needed_more : (q : ProblemParts) (before ps : List SetPair) (p : SetPair) → AreNeeded q before ps → IsNeeded q (before ++ ps) p → AreNeeded q before (ps ++ p ∷ [])
needed_more q before [] p all new = (subst (λ z. IsNeeded q z p) (append-nil before) new, tt)
needed_more q before (r ∷ ps) p all new = (all.0, needed_more q (before ++ r ∷ []) ps p all.1 (subst (λ z. IsNeeded q z p) (sym (append_assoc before (r ∷ []) ps)) new))

pub no_redundant_more : (q : ProblemParts) (ps : List SetPair) (p : SetPair) → HasNoRedundantPair q ps → IsNeeded q ps p → HasNoRedundantPair q (ps ++ p ∷ [])
no_redundant_more q [] p all new = tt
no_redundant_more q (r ∷ ps) p all new = needed_more q (r ∷ []) ps p all new

-- the step from the pair being processed leads to a pair that is not yet congruent
module _ (q : ProblemParts) (es : List Entry) (done : ℕ) (walk : IsWalk q es done) where
  module _ (from : Entry) (here : slice_get es done ≡ Some from) (p : SetPair) (o : StepOrigin) (at : o.place ≡ done) (next : IsNextOf q.tests q.actions from.pair o.atom o.act p) (fresh : IsCongruent (closed q).universal (pairs_of es) p.left p.right → ⊥) where
    abbrev new_entry : Entry
    new_entry = record { pair = p; origin = Some o }

    new_needed : IsNeeded q (pairs_of es) p
    new_needed = record {
      from = from.pair;
      earlier = has_pair es from (has_at es done from here);
      leads = record { atom = o.atom; act = o.act; of_tests = next.of_tests; of_actions = next.of_actions; lefts = next.lefts; rights = next.rights };
      fresh = fresh;
    }

    new_origins : (k : ℕ) (e : Entry) → slice_get (es ++ new_entry ∷ []) (suc k) ≡ Some e → ComesFrom q (es ++ new_entry ∷ []) k e
    new_origins k e h =
        ⊎_elim
        (λ old.
        let c = walk.origins k e old in
        record { origin = c.origin; is = c.is; from = c.from; at = slice_get-append_some es (new_entry ∷ []) c.origin.place c.from c.at; earlier = c.earlier; next = c.next })
        (λ last.
        subst (ComesFrom q (es ++ new_entry ∷ []) k) last.1
        (record {
          origin = o;
          is = refl;
          from = from;
          at = slice_get-append_some es (new_entry ∷ []) o.place from (subst (λ n. slice_get es n ≡ Some from) (sym at) here);
          earlier = let l = slice_get_within es done from here in let n = last.0 in omega arith;
          next = next;
        }))
        (slice_get_last es new_entry (suc k) e h)

    new_so_far : (e : Entry) → Has (es ++ new_entry ∷ []) e → IsFoundBy done e.origin
    new_so_far e h =
        ⊎_elim
        (walk.so_far e)
        (λ last. ⊎_elim (λ same. subst (λ (x : Entry). IsFoundBy done x.origin) same (own at)) absurd last)
        (has_append es (new_entry ∷ []) e h)
      where
        own : o.place ≡ done → o.place ≤ done
        own e = omega arith

    new_in_order : AreInOrder (es ++ new_entry ∷ [])
    new_in_order i j e f p l ei fj is =
        ⊎_elim
        (λ old. ⊎_elim (λ first. walk.in_order i j e f p l first old is) (λ last. absurd (let m = slice_get_within es j f old in let n = last.0 in omega arith)) (slice_get_last es new_entry i e ei))
        (λ last.
        let same : o ≡ p = same_Some o p (ap (λ (x : Entry). x.origin) last.1 ∙ is) in
        let place : done ≡ p.place = sym at ∙ ap (λ (x : StepOrigin). x.place) same in
        subst (λ n. IsFoundBy n e.origin) place (new_so_far e (has_at (es ++ new_entry ∷ []) i e ei)))
        (slice_get_last es new_entry j f fj)

    new_processed : (k : ℕ) (e : Entry) → k < done → slice_get (es ++ new_entry ∷ []) k ≡ Some e → IsProcessed q (es ++ new_entry ∷ []) k e.pair
    new_processed k e l h =
        ⊎_elim
        (λ old.
        let c = walk.processed k e l old in
        record { pairs = c.pairs; found = λ r m. let f = c.found r m in (f.0, has_left es (new_entry ∷ []) f.0 f.1, f.2, f.3); settled = c.settled })
        (λ last. absurd (let m = slice_get_within es done from here in let n = last.0 in omega arith))
        (slice_get_last es new_entry k e h)

    -- with the new pair at the end
    pub walk_lists : IsWalk q (es ++ record { pair = p; origin = Some o } ∷ []) done
    walk_lists = record {
      first = slice_get-append_some es (new_entry ∷ []) 0 (first_entry q) walk.first;
      origins = new_origins;
      needed = subst (HasNoRedundantPair q) (sym (pairs_of-append es (new_entry ∷ []))) (no_redundant_more q (pairs_of es) p walk.needed new_needed);
      in_order = new_in_order;
      so_far = new_so_far;
      processed = new_processed;
    }

  -- ---- an additional pair is processed

  module _ (e : Entry) (here : slice_get es done ≡ Some e) (settled : IsSettled q (pairs_of es) e.pair) where
    pub walk_goes_on : IsWalk q es (suc done)
    walk_goes_on = record {
      first = walk.first;
      origins = walk.origins;
      needed = walk.needed;
      in_order = walk.in_order;
      so_far = λ f h. found_later done (suc done) f.origin (omega arith) (walk.so_far f h);
      processed = λ k f l h. ⊎_elim (λ before. walk.processed k f before h) (λ last. last_processed k f last h) (cases k l);
    }
      where
        cases : (k : ℕ) → k < suc done → (k < done) ⊎ (done ≡ k)
        cases k l = grind arith

        own : IsProcessed q es done e.pair
        own = record {
          pairs = pairs_of es;
          found = λ r m. let f = pair_has es r m in (f.0, f.1, f.2, walk.so_far f.0 f.1);
          settled = settled;
        }

        last_processed : (k : ℕ) (f : Entry) → done ≡ k → slice_get es k ≡ Some f → IsProcessed q es k f.pair
        last_processed k f last h =
            let same : e ≡ f = same_Some e f (sym here ∙ ap (slice_get es) last ∙ h) in
            subst (λ (x : Entry). IsProcessed q es k x.pair) same (subst (λ n. IsProcessed q es n e.pair) last own)
