-- The string that leads to a difference, built from its end: one backward step over ids.
use Rattle.std.proofs.Common.{◌≡◌, ◌<◌, ℕ, suc, List, [], ◌∷◌, ◌++◌, length, reverse, slice_get, Option, Some, None, sym, ap, ◌∙◌, subst, arith}
use mathlib.Core.Path.{ap₂}
use Rattle.std.specs.Bool.{IsTrue}
use Rattle.std.specs.Option.{option_map}
use Rattle.std.proofs.lemmas.List.{length-map, reverse-append}
use Rattle.std.proofs.lemmas.Option.{same_Some, slice_get_within}
use Rattle.kat_model.specs.Trees.{Term}
use Rattle.kat_model.specs.Steps.{Atom}
use Rattle.kat_model.specs.Problems.{ProblemParts}
use Rattle.kat_model.specs.Strings.{Move, GuardedString}
use Rattle.kat_model.specs.Degrees.{with_hyps, AreSplit}
use Rattle.kat_model.specs.AllowedMoves.{IsAllowedAtom, IsAllowedMove}
use Rattle.kat_model.specs.Pairs.{SetPair}
use Rattle.kat_model.proofs.AllowedStrings.{allowed_first}
use Rattle.kat_model.proofs.Places.{has_at}
use Rattle.kat_model.proofs.Lists.{has_map}
use Rattle.certificate.specs.Decisions.{IsShortest}
use Rattle.term_nodes.specs.NodeLists.{NodeParts}
use Rattle.term_nodes.specs.NumberSets.{terms_of}
use Rattle.test_diagrams.specs.Functions.{IsDiagramId, IsAtomOf}
use Rattle.walk_under.specs.TestedWalks.{TestedOrigin, TestedEntry, IsListedAt, ComesFrom}
use Rattle.walk_regions.specs.Entries.{EntryParts}
use Rattle.walk_regions.specs.Allowance.{IsWithin, IsAllowedSource, HasAllowedSource}
use Rattle.walk_regions.specs.Listings.{IsLevelAtom, IsPlaceWith}
use Rattle.walk_under.specs.Working.IdEntries.{origin_of, entry_of, entries_of}
use Rattle.walk_under.specs.Working.Walking.{WalkContext, walk_context, IsUnderWay, IsDifference}
use Rattle.walk_regions.specs.declared.entry.StepOrigin.{StepOrigin}
use Rattle.walk_under.specs.declared.walk.TestedWorklist.{TestedWorklist}
use Rattle.walk_regions.proofs.AllowedImages.{atom_allowed}
use Rattle.walk_under.proofs.JoinedAt.{entry_at}
use Rattle.walk_under.proofs.Standing.{level_atom}
use Rattle.walk_under.proofs.Shortest.{IsSuffix, origin_at, suffix_step, suffix_start, suffix_end}

-- the string of the first atom and the moves; the list has the last move first
abbrev pub string_of : Atom → List Move → GuardedString
string_of first moves = record { first = first; rest = reverse moves }

-- the atom and the moves are the end of a string that distinguishes the sides of the walk
abbrev pub IsSoFar : WalkContext → TestedWorklist → ℕ → ℕ → Atom → List Move → Type 0
IsSoFar s w n k first moves = IsSuffix s.shorts s.problem (entries_of s.store w.diagrams w.listing.entries.items) n k (string_of first moves)

pub so_far_start : (s : WalkContext) (w : TestedWorklist) (place : ℕ) (atom : Atom) → IsUnderWay s w place → (d : IsDifference s w place atom) → IsSoFar s w d.from.level place atom []
so_far_start s w place atom u d =
    let is = u.entries d.from (has_at w.listing.entries.items place d.from d.at) in
    suffix_start s.shorts s.problem (entries_of s.store w.diagrams w.listing.entries.items) place u.walk (entry_of s.store w.diagrams d.from) atom (entry_at s.store w.diagrams w.listing.entries.items place d.from d.at) (d.fits ∙ u.tests) d.there
    (atom_allowed w.diagrams s.shorts s.problem.actions w.moves u.allowance atom d.fits (is.within atom d.fits d.there)) d.differ

-- the level of an entry, and of the entry at a place
abbrev pub level_of : Option EntryParts → ℕ
level_of None = 0
level_of (Some e) = e.level

abbrev pub level_at : List EntryParts → ℕ → ℕ
level_at es k = level_of (slice_get es k)

module _ (s : WalkContext) (w : TestedWorklist) (done : ℕ) (u : IsUnderWay s w done) (n k : ℕ) (first : Atom) (moves : List Move) (f : IsSoFar s w n k first moves) where
  abbrev es : List TestedEntry
  es = entries_of s.store w.diagrams w.listing.entries.items

  -- the place is in the list
  pub so_far_within : k < length w.listing.entries.items
  so_far_within = subst (λ m. k < m) (length-map w.listing.entries.items (entry_of s.store w.diagrams)) (slice_get_within es k f.entry f.at)

  module _ (e : EntryParts) (at : slice_get w.listing.entries.items k ≡ Some e) where
    entry_is : entry_of s.store w.diagrams e ≡ f.entry
    entry_is = same_Some (entry_of s.store w.diagrams e) f.entry (sym (entry_at s.store w.diagrams w.listing.entries.items k e at) ∙ f.at)

    -- at the first entry the string is complete
    pub so_far_ended : e.origin ≡ None → f.entry.origin ≡ None
    so_far_ended none = ap (λ (x : TestedEntry). x.origin) (sym entry_is) ∙ ap (option_map (origin_of w.diagrams)) none

    module _ (o : StepOrigin) (is : e.origin ≡ Some o) where
      origin_is : f.entry.origin ≡ Some (origin_of w.diagrams o)
      origin_is = ap (λ (x : TestedEntry). x.origin) (sym entry_is) ∙ ap (option_map (origin_of w.diagrams)) is

      comes : ComesFrom s.shorts s.problem es k f.entry
      comes = origin_at s.shorts s.problem es done u.walk k f.entry (origin_of w.diagrams o) f.at origin_is

      same : comes.origin ≡ origin_of w.diagrams o
      same = same_Some comes.origin (origin_of w.diagrams o) (sym comes.is ∙ origin_is)

      pub origin_region : IsDiagramId w.diagrams o.region
      origin_region = (u.entries e (has_at w.listing.entries.items k e at)).region o is

      pub origin_act : o.act < s.problem.actions
      origin_act = subst (λ (r : TestedOrigin). r.act < s.problem.actions) same comes.of_actions

      pub origin_source : HasAllowedSource w.diagrams s.shorts o.region o.act first
      origin_source =
          let r = comes.sources first f.fits.first f.there in (
            r.before,
            record {
              fits = r.of_tests ∙ sym u.tests;
              there = subst (λ (t : TestedOrigin). IsTrue (t.region r.before)) same r.there;
              allowed = subst (λ (t : TestedOrigin). IsAllowedMove s.shorts r.before (record { act = t.act; atom = first })) same r.allowed;
            },
          )

      pub origin_within : IsWithin w.diagrams o.region w.moves.allowed
      origin_within a fits h =
          let there = comes.region.within a (fits ∙ u.tests) (subst (λ (t : TestedOrigin). IsTrue (t.region a)) (sym same) h) in
          let from = has_map (entry_of s.store w.diagrams) w.listing.entries.items there.entry there.member in
          (u.entries from.0 from.1).within a fits (subst (λ (x : TestedEntry). IsTrue (x.test a)) (sym from.2) there.there)

      before_is : (b : EntryParts) → slice_get w.listing.entries.items o.place ≡ Some b → comes.from ≡ entry_of s.store w.diagrams b
      before_is b here =
          same_Some comes.from (entry_of s.store w.diagrams b)
          (sym (subst (λ (t : TestedOrigin). slice_get es t.place ≡ Some comes.from) same comes.at) ∙ entry_at s.store w.diagrams w.listing.entries.items o.place b here)

      -- the previous entry is in the list, and its level is smaller
      pub origin_listed : o.place < length w.listing.entries.items
      origin_listed =
          subst (λ m. o.place < m) (length-map w.listing.entries.items (entry_of s.store w.diagrams))
          (subst (λ (t : TestedOrigin). t.place < length es) same (slice_get_within es comes.origin.place comes.from comes.at))

      pub level_down : (b : EntryParts) → slice_get w.listing.entries.items o.place ≡ Some b → b.level < e.level
      level_down b here =
          let up : e.level ≡ suc comes.from.level = ap (λ (x : TestedEntry). x.level) entry_is ∙ comes.level in
          let own : comes.from.level ≡ b.level = ap (λ (x : TestedEntry). x.level) (before_is b here) in
          omega arith

      pub first_fits : IsAtomOf w.diagrams first
      first_fits = f.fits.first ∙ sym u.tests

      pub first_allowed : IsAllowedAtom s.shorts first
      first_allowed = allowed_first s.shorts first (reverse moves) f.allowed

      module _ (b : EntryParts) (here : slice_get w.listing.entries.items o.place ≡ Some b) (atom : Atom) (source : IsAllowedSource w.diagrams s.shorts o.region o.act first atom) where
        -- at each source atom, some entry has the sets and the level of the previous one
        pub source_listed : IsLevelAtom w.diagrams w.listing.entries.items b atom
        source_listed =
            level_atom s w done u b (has_at w.listing.entries.items o.place b here) atom
            (subst (λ (x : TestedEntry). IsListedAt es x atom) (before_is b here)
            (comes.region.within atom (source.fits ∙ u.tests) (subst (λ (t : TestedOrigin). IsTrue (t.region atom)) (sym same) source.there)))

        -- the string after the backward step
        pub origin_step : (place : ℕ) → IsPlaceWith w.diagrams w.listing.entries.items b atom place → IsSoFar s w n place atom (moves ++ record { act = o.act; atom = first } ∷ [])
        origin_step place p =
            subst (λ ms. IsSuffix s.shorts s.problem es n place (record { first = atom; rest = ms })) (sym (reverse-append moves (record { act = o.act; atom = first } ∷ [])))
            (suffix_step s.shorts s.problem es done u.walk n k (string_of first moves) f (origin_of w.diagrams o) origin_is
            (entry_of s.store w.diagrams b) (entry_at s.store w.diagrams w.listing.entries.items o.place b here) atom (source.fits ∙ u.tests) source.there source.allowed
            place (entry_of s.store w.diagrams p.entry) (entry_at s.store w.diagrams w.listing.entries.items place p.entry p.at) (ap₂ (λ x y. both_of x y) p.is.left p.is.right) p.is.level p.holds)
          where
            both_of : List ℕ → List ℕ → SetPair
            both_of x y = record { left = terms_of s.store x; right = terms_of s.store y }

-- the string at the first entry refutes the problem, and no shorter string does
pub so_far_shortest : (whole : ProblemParts) (shorts longs : List Term) → AreSplit whole.hyps shorts longs → (store : NodeParts) (w : TestedWorklist) (done : ℕ) (u : IsUnderWay (walk_context shorts (with_hyps whole longs) store) w done) (last : EntryParts) → slice_get w.listing.entries.items done ≡ Some last
    → (k : ℕ) (first : Atom) (moves : List Move) → IsSoFar (walk_context shorts (with_hyps whole longs) store) w last.level k first moves → (e : EntryParts) → slice_get w.listing.entries.items k ≡ Some e → e.origin ≡ None → IsShortest whole (string_of first moves)
so_far_shortest whole shorts longs split store w done u last here k first moves f e at none =
    let s = walk_context shorts (with_hyps whole longs) store in
    suffix_end whole shorts longs split (entries_of store w.diagrams w.listing.entries.items) done u.walk (entry_of store w.diagrams last) (entry_at store w.diagrams w.listing.entries.items done last here) k (string_of first moves) f
    (so_far_ended s w done u last.level k first moves f e at none)
