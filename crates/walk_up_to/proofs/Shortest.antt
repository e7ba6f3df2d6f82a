-- The string that a walk spells to a pair whose sets accept different atoms refutes the problem, and no shorter string
-- does.
use Rattle.std.proofs.Common.{◌≡◌, ◌≢◌, ◌+◌, ◌<◌, ⊎_elim, ℕ, List, [], ◌∷◌, length, slice_get, Some, None, refl, sym, ap, ◌∙◌, subst, arith}
use Rattle.std.proofs.lemmas.Option.{same_Some}
use Rattle.kat_model.specs.Problems.{ProblemParts}
use Rattle.kat_model.specs.Steps.{Atom, set_out, set_next}
use Rattle.kat_model.specs.Strings.{Move, GuardedString, IsString, accepts, set_accepts}
use Rattle.kat_model.specs.Closed.{closed}
use Rattle.kat_model.specs.Pairs.{SetPair}
use Rattle.kat_model.proofs.Acceptance.{set_accepts-cons, set_accepts-single, set_accepts_same}
use Rattle.string_tables.specs.Tables.{Refutes}
use Rattle.string_tables.proofs.Elimination.{refuted_differ, differ_refuted}
use Rattle.certificate.specs.Decisions.{IsShortest}
use Rattle.walk_up_to.specs.Walks.{StepOrigin, Entry, closed_pair, IsNextOf, IsWalk, IsTrail, after_step, after_trail, IsShortestFrom}
use Rattle.walk_up_to.proofs.WalkSteps.{first_entry}
use Rattle.walk_up_to.proofs.Trails.{no_origin_first, origin_at}
use Rattle.walk_up_to.proofs.Levels.{short_agree}
use Rattle.std.proofs.lemmas.Bool.{cases_lt}

-- exactly one set of the pair accepts the string
abbrev pub SetsDiffer : SetPair → GuardedString → Type 0
SetsDiffer p x = set_accepts p.left x.first x.rest ≢ set_accepts p.right x.first x.rest

module _ (q : ProblemParts) where
  -- if the sets that a step leads to differ on a string, the sets that it starts from differ on the string with the
  -- step before it
  step_differs : (from to : SetPair) (o : StepOrigin) (x : GuardedString) → IsNextOf q.tests q.actions from o.atom o.act to → SetsDiffer to x → SetsDiffer from (after_step o x)
  step_differs from to o x next ne same =
      ne
      (sym (set_accepts_same (set_next from.left o.atom o.act) to.left x.first x.rest next.lefts)
      ∙ sym (set_accepts-cons from.left o.atom (record { act = o.act; atom = x.first }) x.rest)
      ∙ same
      ∙ set_accepts-cons from.right o.atom (record { act = o.act; atom = x.first }) x.rest
      ∙ set_accepts_same (set_next from.right o.atom o.act) to.right x.first x.rest next.rights)

  step_fits : (from to : SetPair) (o : StepOrigin) (x : GuardedString) → IsNextOf q.tests q.actions from o.atom o.act to → IsString q.tests q.actions x → IsString q.tests q.actions (after_step o x)
  step_fits from to o x next fits = record {
    first = next.of_tests;
    rest = λ m h. ⊎_elim (λ e. subst (λ (n : Move). (n.act < q.actions) × (length n.atom ≡ q.tests)) e (next.of_actions, fits.first)) (fits.rest m) h;
  }

  trail_length : (os : List StepOrigin) (x : GuardedString) → length (after_trail os x).rest ≡ length os + length x.rest
  trail_length [] x = omega arith
  trail_length (o ∷ os) x = let l = trail_length os (after_step o x) in omega arith

  module _ (es : List Entry) (done : ℕ) (walk : IsWalk q es done) where
    trail_refutes : (os : List StepOrigin) (k : ℕ) (e : Entry) (x : GuardedString) → slice_get es k ≡ Some e → IsTrail es k os → IsString q.tests q.actions x → SetsDiffer e.pair x → Refutes q (after_trail os x)
    trail_refutes [] k e x at t fits ne = differ_refuted q x fits (λ same. closed_differ (set_accepts-single (closed q).left x.first x.rest ∙ same ∙ sym (set_accepts-single (closed q).right x.first x.rest)))
      where
        is_first : first_entry q ≡ e
        is_first = same_Some (first_entry q) e (sym walk.first ∙ ap (slice_get es) (sym t) ∙ at)

        closed_differ : SetsDiffer (closed_pair q) x
        closed_differ = subst (λ (y : Entry). SetsDiffer y.pair x) (sym is_first) ne
    trail_refutes (o ∷ os) k e x at t fits ne =
        let same : t.0.0 ≡ e = same_Some t.0.0 e (sym t.0.1 ∙ at) in
        let is : e.origin ≡ Some o = subst (λ (y : Entry). y.origin ≡ Some o) same t.0.2 in
        let c = origin_at q es done walk k e o at is in
        trail_refutes os o.place c.0 (after_step o x) c.1 t.1 (step_fits c.0.pair e.pair o x c.3 fits) (step_differs c.0.pair e.pair o x c.3 ne)

    -- the first pair agrees on shorter strings
    shorter_agree : (last : List StepOrigin) (y : GuardedString) → IsTrail es done last → length y.rest < length last → IsString q.tests q.actions y → accepts (closed q).left y.first y.rest ≡ accepts (closed q).right y.first y.rest
    shorter_agree last y t l fits =
        sym (set_accepts-single (closed q).left y.first y.rest)
        ∙ short_agree q es done walk last t y.rest y.first 0 (first_entry q) [] walk.first refl (omega arith) fits.first fits.rest
        ∙ set_accepts-single (closed q).right y.first y.rest

    module _ (e : Entry) (here : slice_get es done ≡ Some e) (atom : Atom) (wide : length atom ≡ q.tests) (ne : set_out e.pair.left atom ≢ set_out e.pair.right atom) where
      -- the string of an atom at which exactly one set of the pair being processed accepts
      pub found_shortest : IsShortestFrom q es done (record { first = atom; rest = [] })
      found_shortest os t = record {
        refutes = trail_refutes os done e (record { first = atom; rest = [] }) here t (record { first = wide; rest = λ m h. absurd h }) ne;
        fewest = λ y r. ⊎_elim (λ l. absurd (never y r l)) (λ l. l) (cases_lt (length y.rest) (length (after_trail os (record { first = atom; rest = [] })).rest));
      }
        where
          never : (y : GuardedString) → Refutes q y → length y.rest < length (after_trail os (record { first = atom; rest = [] })).rest → ⊥
          never y r l = let d = refuted_differ q y r in d.1 (shorter_agree os y t (let n = trail_length os (record { first = atom; rest = [] }) in omega arith) d.0)

    -- one origin back
    pub shortest_step : (k : ℕ) (e : Entry) (o : StepOrigin) (x : GuardedString) → slice_get es k ≡ Some e → e.origin ≡ Some o → IsShortestFrom q es k x → IsShortestFrom q es o.place (after_step o x)
    shortest_step k e o x at is s os t = s (o ∷ os) ((e, at, is), t)

    -- at the first pair the string is complete
    pub shortest_whole : (e : Entry) (k : ℕ) (x : GuardedString) → slice_get es k ≡ Some e → e.origin ≡ None → IsShortestFrom q es k x → IsShortest q x
    shortest_whole e k x at is s = s [] (no_origin_first q es done walk k e at is)
