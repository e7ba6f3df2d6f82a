-- The string of the steps to a pair whose sets accept different atoms refutes the problem, and no shorter string does.
-- It is built from its end.
use Rattle.std.proofs.Common.{◌≡◌, ◌≢◌, ◌+◌, ◌<◌, ⊎_elim, ℕ, zero, suc, List, [], ◌∷◌, length, slice_get, Some, None, sym, ap, ◌∙◌, subst, arith}
use Rattle.std.specs.Bool.{IsTrue}
use Rattle.std.proofs.lemmas.Option.{same_Some}
use Rattle.kat_model.specs.Trees.{Term}
use Rattle.kat_model.specs.Problems.{ProblemParts}
use Rattle.kat_model.specs.Steps.{Atom, set_out, set_next}
use Rattle.kat_model.specs.Strings.{Move, GuardedString, IsString, accepts, set_accepts}
use Rattle.kat_model.specs.Closed.{closed}
use Rattle.kat_model.specs.Pairs.{SetPair}
use Rattle.kat_model.specs.Degrees.{with_hyps, AreSplit}
use Rattle.kat_model.specs.AllowedMoves.{IsAllowedAtom, IsAllowedMove, AreAllowed}
use Rattle.kat_model.proofs.Acceptance.{set_accepts-cons, set_accepts-single, set_accepts_same}
use Rattle.kat_model.proofs.AllowedStrings.{allowed_first}
use Rattle.string_tables.specs.Tables.{Refutes}
use Rattle.certificate.specs.Decisions.{IsShortest}
use Rattle.walk_under.specs.TestedWalks.{TestedOrigin, TestedEntry, IsRegion, ComesFrom, IsTestedWalk}
use Rattle.walk_under.proofs.WalkSteps.{first_entry}
use Rattle.walk_under.proofs.Levels.{short_agree}
use Rattle.walk_under.proofs.RefutedByAllowed.{refuted_by_allowed}
use Rattle.std.proofs.lemmas.Bool.{cases_lt}

-- exactly one set of the pair accepts the string
abbrev pub SetsDiffer : SetPair → GuardedString → Type 0
SetsDiffer p x = set_accepts p.left x.first x.rest ≢ set_accepts p.right x.first x.rest

-- the string with this atom and this action before it
abbrev pub preceded : Atom → ℕ → GuardedString → GuardedString
preceded atom act x = record { first = atom; rest = record { act = act; atom = x.first } ∷ x.rest }

-- Exactly one set of the entry at place k accepts the string, which is allowed and begins at one of the entry's atoms.
-- The string has n moves together with the moves that lead to the entry.
pub record IsSuffix (shorts : List Term) (q : ProblemParts) (es : List TestedEntry) (n k : ℕ) (x : GuardedString) : Type 0 where
  pub entry : TestedEntry
  pub at : slice_get es k ≡ Some entry
  pub there : IsTrue (entry.test x.first)
  pub count : entry.level + length x.rest ≡ n
  pub fits : IsString q.tests q.actions x
  pub allowed : AreAllowed shorts x.first x.rest
  pub differ : SetsDiffer entry.pair x

module _ (shorts : List Term) (q : ProblemParts) (es : List TestedEntry) (done : ℕ) (walk : IsTestedWalk shorts q es done) where
  -- an entry with an origin comes from a listed entry
  pub origin_at : (k : ℕ) (e : TestedEntry) (o : TestedOrigin) → slice_get es k ≡ Some e → e.origin ≡ Some o → ComesFrom shorts q es k e
  origin_at zero e o at is =
      let same : first_entry q walk.start ≡ e = same_Some (first_entry q walk.start) e (sym walk.first ∙ at) in
      let none : None ≡ Some o = ap (λ (x : TestedEntry). x.origin) same ∙ is in
      absurd cc
  origin_at (suc k) e o at is =
      let c = walk.origins k e at in
      record { origin = c.origin; is = c.is; from = c.from; at = c.at; earlier = let l = c.earlier in omega arith; of_actions = c.of_actions; level = c.level; region = c.region; sources = c.sources; somewhere = c.somewhere }

  -- an entry without an origin is the first
  pub no_origin : (k : ℕ) (e : TestedEntry) → slice_get es k ≡ Some e → e.origin ≡ None → first_entry q walk.start ≡ e
  no_origin zero e at is = same_Some (first_entry q walk.start) e (sym walk.first ∙ at)
  no_origin (suc k) e at is = let c = walk.origins k e at in let none : None ≡ Some c.origin = sym is ∙ c.is in absurd cc

  -- one backward step: from an atom of the region to an entry with the sets and the level of the previous one
  pub suffix_step : (n k : ℕ) (x : GuardedString) (s : IsSuffix shorts q es n k x) (o : TestedOrigin) → s.entry.origin ≡ Some o → (from : TestedEntry) → slice_get es o.place ≡ Some from → (atom : Atom) → length atom ≡ q.tests → IsTrue (o.region atom)
      → IsAllowedMove shorts atom (record { act = o.act; atom = x.first }) → (place : ℕ) (e : TestedEntry) → slice_get es place ≡ Some e → e.pair ≡ from.pair → e.level ≡ from.level → IsTrue (e.test atom) → IsSuffix shorts q es n place (preceded atom o.act x)
  suffix_step n k x s o is from here atom wide there allowed place e at sets level holds =
      let c = origin_at k s.entry o s.at is in
      let same : c.origin ≡ o = same_Some c.origin o (sym c.is ∙ is) in
      let own : from ≡ c.from = same_Some from c.from (sym here ∙ subst (λ (r : TestedOrigin). slice_get es r.place ≡ Some c.from) same c.at) in
      let region = subst (λ (r : TestedOrigin). IsRegion q.tests es c.from r s.entry.pair) same c.region in
      record {
        entry = e;
        at = at;
        there = holds;
        count = let l = c.level in let m = s.count in let f = ap (λ (y : TestedEntry). y.level) own in omega arith;
        fits = record {
          first = wide;
          rest = λ m h. ⊎_elim (λ e. subst (λ (r : Move). (r.act < q.actions) × (length r.atom ≡ q.tests)) e (subst (λ (r : TestedOrigin). r.act < q.actions) same c.of_actions, s.fits.first)) (s.fits.rest m) h;
        };
        allowed = (allowed, s.allowed);
        differ = subst (λ (p : SetPair). SetsDiffer p (preceded atom o.act x)) (sym (sets ∙ ap (λ (y : TestedEntry). y.pair) own))
            (λ e.
            s.differ
            (sym (set_accepts_same (set_next c.from.pair.left atom o.act) s.entry.pair.left x.first x.rest (region.lefts atom wide there))
            ∙ sym (set_accepts-cons c.from.pair.left atom (record { act = o.act; atom = x.first }) x.rest)
            ∙ e
            ∙ set_accepts-cons c.from.pair.right atom (record { act = o.act; atom = x.first }) x.rest
            ∙ set_accepts_same (set_next c.from.pair.right atom o.act) s.entry.pair.right x.first x.rest (region.rights atom wide there)));
      }

  -- the string of one atom, at which exactly one set of the entry being processed accepts
  pub suffix_start : (e : TestedEntry) (atom : Atom) → slice_get es done ≡ Some e → length atom ≡ q.tests → IsTrue (e.test atom) → IsAllowedAtom shorts atom → set_out e.pair.left atom ≢ set_out e.pair.right atom
      → IsSuffix shorts q es e.level done (record { first = atom; rest = [] })
  suffix_start e atom at wide there allowed ne = record {
    entry = e;
    at = at;
    there = there;
    count = omega arith;
    fits = record { first = wide; rest = λ m h. absurd h };
    allowed = allowed;
    differ = ne;
  }

-- at the first entry the string is complete
module _ (whole : ProblemParts) (shorts longs : List Term) (split : AreSplit whole.hyps shorts longs) (es : List TestedEntry) (done : ℕ) (walk : IsTestedWalk shorts (with_hyps whole longs) es done) (last : TestedEntry) (here : slice_get es done ≡ Some last) where
  pub suffix_end : (k : ℕ) (x : GuardedString) (s : IsSuffix shorts (with_hyps whole longs) es last.level k x) → s.entry.origin ≡ None → IsShortest whole x
  suffix_end k x s none = record {
    refutes = (refuted_by_allowed whole shorts longs x split).1 (s.fits, s.allowed, differ);
    fewest = λ y r. ⊎_elim (λ l. absurd (never y r l)) (λ l. l) (cases_lt (length y.rest) (length x.rest));
  }
    where
      is_first : first_entry (with_hyps whole longs) walk.start ≡ s.entry
      is_first = no_origin shorts (with_hyps whole longs) es done walk k s.entry s.at none

      differ : accepts (closed (with_hyps whole longs)).left x.first x.rest ≢ accepts (closed (with_hyps whole longs)).right x.first x.rest
      differ same =
          subst (λ (e : TestedEntry). SetsDiffer e.pair x) (sym is_first) s.differ
          (set_accepts-single (closed (with_hyps whole longs)).left x.first x.rest ∙ same ∙ sym (set_accepts-single (closed (with_hyps whole longs)).right x.first x.rest))

      count : length x.rest ≡ last.level
      count = let n : 0 + length x.rest ≡ last.level = subst (λ (e : TestedEntry). e.level + length x.rest ≡ last.level) (sym is_first) s.count in omega arith

      never : (y : GuardedString) → Refutes whole y → length y.rest < length x.rest → ⊥
      never y r l =
          let d = (refuted_by_allowed whole shorts longs y split).0 r in
          d.2
          (sym (set_accepts-single (closed (with_hyps whole longs)).left y.first y.rest)
          ∙ short_agree shorts (with_hyps whole longs) es done walk last here y.rest y.first 0 (first_entry (with_hyps whole longs) walk.start) walk.first
          (walk.everywhere y.first d.0.first (allowed_first shorts y.first y.rest d.1)) (let n = count in omega arith) d.0.first d.0.rest d.1
          ∙ set_accepts-single (closed (with_hyps whole longs)).right y.first y.rest)
