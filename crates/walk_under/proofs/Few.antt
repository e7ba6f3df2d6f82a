-- A bound on the number of entries of a walk, by the number of pairs of sets and of atoms.
use Rattle.std.proofs.Common.{◌≡◌, ◌+◌, ◌*◌, ◌^◌, ◌≤◌, ◌<◌, inl, inr, ⊎_elim, ℕ, zero, suc, Bool, List, [], ◌∷◌, map, length, slice_get, Some, refl, sym, ◌∙◌, subst, arith}
use Rattle.std.specs.Bool.{IsTrue}
use Rattle.std.proofs.lemmas.List.{length-map}
use Rattle.std.proofs.lemmas.Option.{same_Some}
use Rattle.kat_model.specs.Trees.{Term, acts}
use Rattle.kat_model.specs.Members.{Has, IsSubset, SameMembers}
use Rattle.kat_model.specs.Problems.{ProblemParts}
use Rattle.kat_model.specs.Steps.{Atom, reach}
use Rattle.kat_model.specs.Closed.{closed}
use Rattle.kat_model.specs.Pairs.{has_term}
use Rattle.kat_model.proofs.Places.{place_of_member}
use Rattle.kat_model.proofs.Reach.{length-reach}
use Rattle.kat_model.proofs.ReachedPairs.{next_within}
use Rattle.kat_model.proofs.SameTrees.{holds-true, has-holds}
use Rattle.kat_model.proofs.Counting.{AreDistinguished, distinguished_within, all_bits, length-all_bits, all_bits_has, all_pairs, length-all_pairs, all_pairs_has}
use Rattle.walk_under.specs.TestedWalks.{TestedEntry, AreApart, IsTestedWalk}
use Rattle.walk_under.proofs.WalkSteps.{first_entry}

-- a set is determined by the terms of `us` that it contains
module _ (us : List Term) where
  abbrev IsGivenBy : List Bool → List Term → Type 0
  IsGivenBy bits es = IsSubset es us × (map (has_term es) us ≡ bits)

  holds-at : (vs es fs : List Term) (x : Term) → map (has_term es) vs ≡ map (has_term fs) vs → Has vs x → has_term es x ≡ has_term fs x
  holds-at [] es fs x e h = absurd h
  holds-at (v ∷ vs) es fs x e h =
      let first : has_term es v ≡ has_term fs v = cc in
      let rest : map (has_term es) vs ≡ map (has_term fs) vs = cc in
      ⊎_elim (λ s. subst (λ z. has_term es z ≡ has_term fs z) s first) (λ k. holds-at vs es fs x rest k) h

  given_same : (bits : List Bool) (es fs : List Term) → IsGivenBy bits es → IsGivenBy bits fs → SameMembers es fs
  given_same bits es fs h k x =
      let e = h.1 ∙ sym k.1 in (
        (λ m. holds-true fs x (sym (holds-at us es fs x e (h.0 x m)) ∙ has-holds es x m)),
        (λ m. holds-true es x (holds-at us es fs x e (k.0 x m) ∙ has-holds fs x m)),
      )

  given : (es : List Term) → IsSubset es us → (bits : List Bool) × Has (all_bits (length us)) bits × IsGivenBy bits es
  given es within = (map (has_term es) us, subst (λ n. Has (all_bits n) (map (has_term es) us)) (length-map us (has_term es)) (all_bits_has (map (has_term es) us)), (within, refl))

-- the key of an entry: two sets and an atom
abbrev Key : Type 0
Key = (List Bool × List Bool) × Atom

module _ (q : ProblemParts) where
  abbrev lefts : List Term
  lefts = (closed q).left ∷ reach (closed q).left

  abbrev rights : List Term
  rights = (closed q).right ∷ reach (closed q).right

  abbrev Represents : Key → TestedEntry → Type 0
  Represents k e = IsGivenBy lefts k.0.0 e.pair.left × IsGivenBy rights k.0.1 e.pair.right × (length k.1 ≡ q.tests) × IsTrue (e.test k.1)

  distinguished : (es : List TestedEntry) → AreApart q.tests es → AreDistinguished Represents es
  distinguished [] all = tt
  distinguished (e ∷ es) all = (
    (λ k f h s t. all.0 f h (given_same lefts k.0.0 e.pair.left f.pair.left s.0 t.0) (given_same rights k.0.1 e.pair.right f.pair.right s.1 t.1) k.1 s.2 s.3 t.3),
    distinguished es all.1,
  )

  -- the members of the sets are among the closed sides and the terms that steps reach
  pub record IsReachedEntry (e : TestedEntry) : Type 0 where
    pub left : IsSubset e.pair.left lefts
    pub right : IsSubset e.pair.right rights

  abbrev keys : List Key
  keys = all_pairs (all_pairs (all_bits (length lefts)) (all_bits (length rights))) (all_bits q.tests)

  key_of : (e : TestedEntry) → IsReachedEntry e → (atom : Atom) → length atom ≡ q.tests → IsTrue (e.test atom) → (k : Key) × Has keys k × Represents k e
  key_of e r atom wide there =
      let l = given lefts e.pair.left r.left in
      let s = given rights e.pair.right r.right in
      let sets = all_pairs_has (all_bits (length lefts)) (all_bits (length rights)) l.0 s.0 l.1 s.1 in
      let all = subst (λ n. Has (all_bits n) atom) wide (all_bits_has atom) in
      (((l.0, s.0), atom), all_pairs_has (all_pairs (all_bits (length lefts)) (all_bits (length rights))) (all_bits q.tests) (l.0, s.0) atom sets all, (l.2, s.2, wide, there))

  -- a bound on the number of entries after the first
  abbrev pub entry_limit : ℕ
  entry_limit = 2 ^ (acts (closed q).left + 1) * 2 ^ (acts (closed q).right + 1) * 2 ^ q.tests

  length-keys : length keys ≡ entry_limit
  length-keys =
      let m : length lefts ≡ acts (closed q).left + 1 = omega (arith, length-reach (closed q).left) in
      let n : length rights ≡ acts (closed q).right + 1 = omega (arith, length-reach (closed q).right) in
      rw (length-all_pairs (all_pairs (all_bits (length lefts)) (all_bits (length rights))) (all_bits q.tests), length-all_pairs (all_bits (length lefts)) (all_bits (length rights)), length-all_bits (length lefts), length-all_bits (length rights), length-all_bits q.tests, m, n) refl

module _ (shorts : List Term) (q : ProblemParts) (es : List TestedEntry) (done : ℕ) (walk : IsTestedWalk shorts q es done) where
  -- by induction on the place in the list
  reached_below : (n k : ℕ) (e : TestedEntry) → k < n → slice_get es k ≡ Some e → IsReachedEntry q e
  reached_below zero k e l at = absurd (omega arith)
  reached_below (suc n) zero e l at =
      subst (IsReachedEntry q) (same_Some (first_entry q walk.start) e (sym walk.first ∙ at))
      (record { left = λ x h. ⊎_elim inl (λ m. absurd m) h; right = λ x h. ⊎_elim inl (λ m. absurd m) h })
  reached_below (suc n) (suc k) e l at =
      let c = walk.origins k e at in
      let before = reached_below n c.origin.place c.from (let m = c.earlier in omega arith) c.at in
      let atom = c.somewhere in
      let source = c.sources atom.0 atom.1 atom.2 in
      record {
        left = next_within (closed q).left c.from.pair.left e.pair.left source.before c.origin.act (c.region.lefts source.before source.of_tests source.there) before.left;
        right = next_within (closed q).right c.from.pair.right e.pair.right source.before c.origin.act (c.region.rights source.before source.of_tests source.there) before.right;
      }

  pub entry_reached : (e : TestedEntry) → Has es e → IsReachedEntry q e
  entry_reached e h = let k = place_of_member es e h in reached_below (suc k.0) k.0 e (omega arith) k.1

-- the entries after the first have different keys
pub walk_few : (shorts : List Term) (q : ProblemParts) (es : List TestedEntry) (done : ℕ) → IsTestedWalk shorts q es done → length es ≤ 1 + entry_limit q
walk_few shorts q [] done walk = omega arith
walk_few shorts q (first ∷ es) done walk =
    let bound = distinguished_within (Represents q) es (keys q) (distinguished q es walk.apart.1) each in
    omega (arith, bound, length-keys q)
  where
    each : (e : TestedEntry) → Has es e → (k : Key) × Has (keys q) k × Represents q k e
    each e h =
        let k = place_of_member es e h in
        let c = walk.origins k.0 e k.1 in
        let atom = c.somewhere in
        key_of q e (entry_reached shorts q (first ∷ es) done walk e (inr h)) atom.0 atom.1 atom.2
