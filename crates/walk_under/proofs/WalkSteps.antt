-- A walk under tests begins with the closed sides, lists an additional pair, or processes an additional one.
use Rattle.std.proofs.Common.{◌≡◌, ◌≤◌, ◌<◌, ◌⊎◌, inl, inr, ⊎_elim, ℕ, suc, Bool, List, [], ◌∷◌, ◌++◌, length, slice_get, Some, None, refl, sym, ap, ◌∙◌, subst, arith}
use Rattle.std.specs.Bool.{IsTrue}
use Rattle.std.proofs.lemmas.Option.{slice_get_within, same_Some}
use Rattle.kat_model.specs.Trees.{Term}
use Rattle.kat_model.specs.Members.{Has}
use Rattle.kat_model.specs.Steps.{Atom, set_next}
use Rattle.kat_model.specs.Problems.{ProblemParts}
use Rattle.kat_model.specs.Pairs.{SetPair}
use Rattle.kat_model.specs.AllowedMoves.{IsAllowedAtom}
use Rattle.kat_model.proofs.Lists.{has_left, has_append}
use Rattle.kat_model.proofs.Places.{has_at, slice_get-append_some, slice_get_last}
use Rattle.walk_under.specs.TestedWalks.{TestedOrigin, TestedEntry, closed_sides, IsListedAt, IsRegion, HasSource, ComesFrom, IsApart, AreApart, AreJoined, AreJoinedAfter, IsTaken, IsTestedWalk}

-- the entry of the closed sides, at these atoms
abbrev pub first_entry : ProblemParts → (Atom → Bool) → TestedEntry
first_entry q start = record { pair = closed_sides q; test = start; level = 0; origin = None }

pub walk_starts : (shorts : List Term) (q : ProblemParts) (start : Atom → Bool) → ((atom : Atom) → length atom ≡ q.tests → IsAllowedAtom shorts atom → IsTrue (start atom)) → IsTestedWalk shorts q (first_entry q start ∷ []) 0
walk_starts shorts q start all = record {
  start = start;
  everywhere = all;
  first = refl;
  origins = λ k e h. absurd cc;
  apart = ((λ f h. absurd h), tt);
  in_order = λ i j e f l at other. least i e f at;
  so_far = λ e f h at. ⊎_elim (λ s. subst (λ (x : TestedEntry). x.level ≤ suc f.level) s (omega arith)) absurd h;
  taken = λ k e l h. absurd (omega arith);
}
  where
    least : (i : ℕ) (e f : TestedEntry) → slice_get (first_entry q start ∷ []) i ≡ Some e → e.level ≤ f.level
    least i e f at = ⊎_elim (λ s. subst (λ (x : TestedEntry). x.level ≤ f.level) s (omega arith)) absurd (has_at (first_entry q start ∷ []) i e at)

-- ---- more entries

-- joined sets remain joined
pub joined_more : (q : ProblemParts) (es more : List TestedEntry) (level : ℕ) (atom : Atom) (lefts rights : List Term) → AreJoined q es level atom lefts rights → AreJoined q (es ++ more) level atom lefts rights
joined_more q es more level atom lefts rights j = record {
  pairs = j.pairs;
  reached = λ p h. let r = j.reached p h in (r.0, has_left es more r.0 r.1, r.2, r.3, r.4);
  congruent = j.congruent;
}

pub joined_after_more : (shorts : List Term) (q : ProblemParts) (es more : List TestedEntry) (level : ℕ) (p : SetPair) (test : Atom → Bool) (a : ℕ) → AreJoinedAfter shorts q es level p test a → AreJoinedAfter shorts q (es ++ more) level p test a
joined_after_more shorts q es more level p test a j atom wide there after wide' allowed =
    joined_more q es more level after (set_next p.left atom a) (set_next p.right atom a) (j atom wide there after wide' allowed)

listed_more : (es more : List TestedEntry) (e : TestedEntry) (atom : Atom) → IsListedAt es e atom → IsListedAt (es ++ more) e atom
listed_more es more e atom l = record { entry = l.entry; member = has_left es more l.entry l.member; sets = l.sets; level = l.level; there = l.there }

region_more : (tests : ℕ) (es more : List TestedEntry) (from : TestedEntry) (o : TestedOrigin) (to : SetPair) → IsRegion tests es from o to → IsRegion tests (es ++ more) from o to
region_more tests es more from o to r = record { within = λ atom wide h. listed_more es more from atom (r.within atom wide h); lefts = r.lefts; rights = r.rights }

taken_more : (shorts : List Term) (q : ProblemParts) (es more : List TestedEntry) (e : TestedEntry) → IsTaken shorts q es e → IsTaken shorts q (es ++ more) e
taken_more shorts q es more e t = record { outputs = t.outputs; steps = λ a l. joined_after_more shorts q es more (suc e.level) e.pair e.test a (t.steps a l) }

apart_more : (tests : ℕ) (es : List TestedEntry) (new : TestedEntry) → AreApart tests es → ((e : TestedEntry) → Has es e → IsApart tests e new) → AreApart tests (es ++ new ∷ [])
apart_more tests [] new all each = ((λ f h. absurd h), tt)
apart_more tests (e ∷ es) new all each = (
  (λ f h. ⊎_elim (all.0 f) (λ last. ⊎_elim (λ s. subst (IsApart tests e) s (each e (inl refl))) absurd last) (has_append es (new ∷ []) f h)),
  apart_more tests es new all.1 (λ f h. each f (inr h)),
)

module _ (shorts : List Term) (q : ProblemParts) (es : List TestedEntry) (done : ℕ) (walk : IsTestedWalk shorts q es done) where
  -- the pair being processed leads to a pair at additional atoms
  module _ (from : TestedEntry) (here : slice_get es done ≡ Some from) (p : SetPair) (test : Atom → Bool) (o : TestedOrigin) (at : o.place ≡ done) (act : o.act < q.actions) (region : IsRegion q.tests es from o p)
      (sources : (atom : Atom) → length atom ≡ q.tests → IsTrue (test atom) → HasSource shorts q.tests o atom)
      (somewhere : (atom : Atom) × (length atom ≡ q.tests) × IsTrue (test atom)) where
    abbrev pub new_entry : TestedEntry
    new_entry = record { pair = p; test = test; level = suc from.level; origin = Some o }

    module _ (fresh : (e : TestedEntry) → Has es e → IsApart q.tests e new_entry) where
      new_origins : (k : ℕ) (e : TestedEntry) → slice_get (es ++ new_entry ∷ []) (suc k) ≡ Some e → ComesFrom shorts q (es ++ new_entry ∷ []) k e
      new_origins k e h =
          ⊎_elim
          (λ old.
          let c = walk.origins k e old in
          record {
            origin = c.origin;
            is = c.is;
            from = c.from;
            at = slice_get-append_some es (new_entry ∷ []) c.origin.place c.from c.at;
            earlier = c.earlier;
            of_actions = c.of_actions;
            level = c.level;
            region = region_more q.tests es (new_entry ∷ []) c.from c.origin e.pair c.region;
            sources = c.sources;
            somewhere = c.somewhere;
          })
          (λ last.
          subst (ComesFrom shorts q (es ++ new_entry ∷ []) k) last.1
          (record {
            origin = o;
            is = refl;
            from = from;
            at = slice_get-append_some es (new_entry ∷ []) o.place from (subst (λ n. slice_get es n ≡ Some from) (sym at) here);
            earlier = let l = slice_get_within es done from here in let n = last.0 in omega arith;
            of_actions = act;
            level = refl;
            region = region_more q.tests es (new_entry ∷ []) from o p region;
            sources = sources;
            somewhere = somewhere;
          }))
          (slice_get_last es new_entry (suc k) e h)

      -- no entry has a greater level than the new one
      level_below : (e : TestedEntry) → Has (es ++ new_entry ∷ []) e → e.level ≤ suc from.level
      level_below e h =
          ⊎_elim
          (λ old. walk.so_far e from old here)
          (λ last. ⊎_elim (λ s. subst (λ (x : TestedEntry). x.level ≤ suc from.level) s (omega arith)) absurd last)
          (has_append es (new_entry ∷ []) e h)

      new_in_order : (i j : ℕ) (e f : TestedEntry) → i ≤ j → slice_get (es ++ new_entry ∷ []) i ≡ Some e → slice_get (es ++ new_entry ∷ []) j ≡ Some f → e.level ≤ f.level
      new_in_order i j e f l ei fj =
          ⊎_elim
          (λ old. ⊎_elim (λ first. walk.in_order i j e f l first old) (λ last. absurd (let m = slice_get_within es j f old in let n = last.0 in omega arith)) (slice_get_last es new_entry i e ei))
          (λ last. subst (λ (x : TestedEntry). e.level ≤ x.level) last.1 (level_below e (has_at (es ++ new_entry ∷ []) i e ei)))
          (slice_get_last es new_entry j f fj)

      new_so_far : (e f : TestedEntry) → Has (es ++ new_entry ∷ []) e → slice_get (es ++ new_entry ∷ []) done ≡ Some f → e.level ≤ suc f.level
      new_so_far e f h there =
          let same : from ≡ f = same_Some from f (sym (slice_get-append_some es (new_entry ∷ []) done from here) ∙ there) in
          subst (λ (x : TestedEntry). e.level ≤ suc x.level) same (level_below e h)

      new_taken : (k : ℕ) (e : TestedEntry) → k < done → slice_get (es ++ new_entry ∷ []) k ≡ Some e → IsTaken shorts q (es ++ new_entry ∷ []) e
      new_taken k e l h =
          ⊎_elim
          (λ old. taken_more shorts q es (new_entry ∷ []) e (walk.taken k e l old))
          (λ last. absurd (let m = slice_get_within es done from here in let n = last.0 in omega arith))
          (slice_get_last es new_entry k e h)

      -- with the new entry at the end
      pub walk_lists : IsTestedWalk shorts q (es ++ new_entry ∷ []) done
      walk_lists = record {
        start = walk.start;
        everywhere = walk.everywhere;
        first = slice_get-append_some es (new_entry ∷ []) 0 (first_entry q walk.start) walk.first;
        origins = new_origins;
        apart = apart_more q.tests es new_entry walk.apart fresh;
        in_order = new_in_order;
        so_far = new_so_far;
        taken = new_taken;
      }

  -- ---- an additional pair is processed

  module _ (e : TestedEntry) (here : slice_get es done ≡ Some e) (own : IsTaken shorts q es e) where
    pub walk_takes : IsTestedWalk shorts q es (suc done)
    walk_takes = record {
      start = walk.start;
      everywhere = walk.everywhere;
      first = walk.first;
      origins = walk.origins;
      apart = walk.apart;
      in_order = walk.in_order;
      so_far = λ f g h at. let l = walk.so_far f e h here in let m = walk.in_order done (suc done) e g (omega arith) here at in omega arith;
      taken = λ k f l h. ⊎_elim (λ before. walk.taken k f before h) (λ last. last_taken k f last h) (cases k l);
    }
      where
        cases : (k : ℕ) → k < suc done → (k < done) ⊎ (done ≡ k)
        cases k l = grind arith

        last_taken : (k : ℕ) (f : TestedEntry) → done ≡ k → slice_get es k ≡ Some f → IsTaken shorts q es f
        last_taken k f last h =
            let same : e ≡ f = same_Some e f (sym here ∙ ap (slice_get es) last ∙ h) in
            subst (IsTaken shorts q es) same own
