-- The cases of one action of the pair being processed: a covered case, a case whose pair is listed, and a case that is
-- split in two.
use Rattle.std.proofs.Common.{◌≡◌, ◌<◌, ◌⊎◌, inl, ⊎_elim, ℕ, List, [], ◌∷◌, ◌++◌, length, slice_get, Some, refl, sym, ap, ◌∙◌, subst, append-nil, append_assoc}
use Rattle.kat_model.specs.Trees.{Term}
use Rattle.kat_model.specs.Members.{IsSubset, SameMembers}
use Rattle.kat_model.specs.Problems.{ProblemParts}
use Rattle.kat_model.specs.Steps.{Atom, set_next}
use Rattle.kat_model.specs.Closed.{closed}
use Rattle.kat_model.specs.Pairs.{SetPair, IsCongruent}
use Rattle.kat_model.proofs.Lists.{has_right}
use Rattle.kat_model.proofs.Places.{slice_get-append_some}
use Rattle.walk_pairs.specs.Covered.{IsBetween, IsCovered}
use Rattle.walk_up_to.specs.Walks.{StepOrigin, Entry, pairs_of, IsNextOf, AreCongruentAfter, IsWalk}
use Rattle.walk_up_to.specs.Working.Visits.{AddsEntries, IsVisited}
use Rattle.walk_pairs.proofs.Covered.{covered_congruent, congruent_covered, listed_congruent}
use Rattle.walk_up_to.proofs.Entries.{pairs_of-append, has_pair}
use Rattle.walk_up_to.proofs.MorePairs.{congruent_front}
use Rattle.walk_up_to.proofs.WalkSteps.{walk_lists}

-- ---- growing lists

pub grows_none : (es : List Entry) → AddsEntries es es
grows_none es = record { more = []; is = sym (append-nil es) }

pub grows_then : (es fs gs : List Entry) → AddsEntries es fs → AddsEntries fs gs → AddsEntries es gs
grows_then es fs gs g h = record { more = g.more ++ h.more; is = h.is ∙ ap (λ xs. xs ++ h.more) g.is ∙ append_assoc es g.more h.more }

pub grown_at : (es fs : List Entry) (k : ℕ) (e : Entry) → AddsEntries es fs → slice_get es k ≡ Some e → slice_get fs k ≡ Some e
grown_at es fs k e g h = subst (λ xs. slice_get xs k ≡ Some e) (sym g.is) (slice_get-append_some es g.more k e h)

module _ (q : ProblemParts) (es fs : List Entry) (g : AddsEntries es fs) where
  grown_pairs : pairs_of fs ≡ pairs_of es ++ pairs_of g.more
  grown_pairs = ap pairs_of g.is ∙ pairs_of-append es g.more

  pub grown_congruent : (xs ys : List Term) → IsCongruent (closed q).universal (pairs_of es) xs ys → IsCongruent (closed q).universal (pairs_of fs) xs ys
  grown_congruent xs ys c = subst (λ ps. IsCongruent (closed q).universal ps xs ys) (sym grown_pairs) (congruent_front (closed q).universal (pairs_of es) (pairs_of g.more) xs ys c)

  pub grown_after : (p : SetPair) (a : ℕ) → AreCongruentAfter q (pairs_of es) p a → AreCongruentAfter q (pairs_of fs) p a
  grown_after p a c atom wide = grown_congruent (set_next p.left atom a) (set_next p.right atom a) (c atom wide)

-- ---- cases

module _ (q : ProblemParts) (done : ℕ) (p : SetPair) (a : ℕ) where
  -- a covered case lists nothing
  pub visited_covered : (es : List Entry) (IsCase : Atom → Type 0) (sure_left sure_right open_left open_right : List Term)
      → IsWalk q es done
      → ((atom : Atom) → length atom ≡ q.tests → IsCase atom → IsBetween sure_left open_left (set_next p.left atom a) (set_next p.right atom a) × IsBetween sure_right open_right (set_next p.right atom a) (set_next p.left atom a))
      → IsCovered (closed q).universal (pairs_of es) sure_left sure_right open_left open_right
      → IsVisited q es es done p a IsCase
  visited_covered es IsCase sure_left sure_right open_left open_right walk between covered = record {
    grows = grows_none es;
    walk = walk;
    congruent = λ atom wide in_case.
        let b = between atom wide in_case in
        covered_congruent (closed q).universal (pairs_of es) sure_left sure_right open_left open_right (set_next p.left atom a) (set_next p.right atom a) b.0 b.1 covered;
  }

  -- a case that is split in two
  pub visited_both : (es fs gs : List Entry) (IsCase First Second : Atom → Type 0)
      → ((atom : Atom) → length atom ≡ q.tests → IsCase atom → First atom ⊎ Second atom)
      → IsVisited q es fs done p a First
      → IsVisited q fs gs done p a Second
      → IsVisited q es gs done p a IsCase
  visited_both es fs gs IsCase First Second split first second = record {
    grows = grows_then es fs gs first.grows second.grows;
    walk = second.walk;
    congruent = λ atom wide in_case.
        ⊎_elim
        (λ f. grown_congruent q fs gs second.grows (set_next p.left atom a) (set_next p.right atom a) (first.congruent atom wide f))
        (second.congruent atom wide)
        (split atom wide in_case);
  }

-- a case that is not covered and has only sure terms lists their pair
module _ (q : ProblemParts) (es : List Entry) (done : ℕ) (from : Entry) (r : SetPair) (o : StepOrigin) (IsCase : Atom → Type 0) (open_left open_right : List Term) where
  pub visited_listed : IsWalk q es done
      → slice_get es done ≡ Some from
      → o.place ≡ done
      → length o.atom ≡ q.tests
      → o.act < q.actions
      → IsCase o.atom
      → ((atom : Atom) → length atom ≡ q.tests → IsCase atom → SameMembers (set_next from.pair.left atom o.act) r.left × SameMembers (set_next from.pair.right atom o.act) r.right)
      → IsSubset open_left r.left
      → IsSubset open_right r.right
      → (IsCovered (closed q).universal (pairs_of es) r.left r.right open_left open_right → ⊥)
      → IsVisited q es (es ++ record { pair = r; origin = Some o } ∷ []) done from.pair o.act IsCase
  visited_listed walk here at wide act own same opens_left opens_right uncovered = record {
    grows = record { more = new ∷ []; is = refl };
    walk = walk_lists q es done walk from here r o at next fresh;
    congruent = λ atom w c.
        let s = same atom w c in
        listed_congruent (closed q).universal (pairs_of (es ++ new ∷ [])) r (set_next from.pair.left atom o.act) (set_next from.pair.right atom o.act) (has_pair (es ++ new ∷ []) new (has_right es (new ∷ []) new (inl refl))) s.0 s.1;
  }
    where
      new : Entry
      new = record { pair = r; origin = Some o }

      next : IsNextOf q.tests q.actions from.pair o.atom o.act r
      next = let s = same o.atom wide own in record { of_tests = wide; of_actions = act; lefts = s.0; rights = s.1 }

      fresh : IsCongruent (closed q).universal (pairs_of es) r.left r.right → ⊥
      fresh c = uncovered (congruent_covered (closed q).universal (pairs_of es) r.left r.right open_left open_right r.left r.right (λ x. ((λ h. h), (λ h. h))) (λ x. ((λ h. h), (λ h. h))) opens_left opens_right c)
