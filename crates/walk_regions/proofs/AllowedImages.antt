-- The allowed atoms to which allowed moves lead, and the atoms from which the moves start.
use Rattle.std.proofs.Common.{◌≡◌, ◌↔◌, ◌<◌, ⊎_elim, ℕ, not, ◌&&◌, List, [], ◌∷◌, length, take, get_or, set, slice_get, Some, sym, ap, ◌∙◌, subst, arith}
use Rattle.std.specs.Bool.{IsTrue}
use Rattle.std.proofs.lemmas.Bool.{and_parts, and_from, not-true, false_from_ne_true, both_ways}
use Rattle.std.proofs.lemmas.List.{take_all}
use Rattle.std.proofs.lemmas.Option.{same_Some, slice_get_within, slice_get-get_or}
use Rattle.std.proofs.Math.ListN.{length-set}
use Rattle.kat_model.specs.Trees.{Term}
use Rattle.kat_model.specs.Steps.{Atom, set_out}
use Rattle.kat_model.specs.Strings.{set_accepts}
use Rattle.kat_model.specs.AllowedMoves.{IsAllowedAtom, IsAllowedMove}
use Rattle.kat_model.proofs.Places.{slice_get-set_cases, slice_get-set_same}
use Rattle.test_diagrams.specs.Functions.{DiagramsParts, value_of, IsDiagramId, IsAtomOf, IsDiagramOf, KeepsFunctions}
use Rattle.walk_pairs.specs.Outputs.{IsSomewhereTrue}
use Rattle.walk_regions.specs.declared.allowed.AllowedMoves.{AllowedMoves}
use Rattle.walk_regions.specs.declared.bars.Bars.{Bars}
use Rattle.walk_regions.specs.Bars.{IsBarred, IsImageOf, AreSources, AreSoundBars}
use Rattle.walk_regions.specs.Allowance.{ShowMoves, IsAllowance, IsWithin, IsAllowedSource, HasAllowedSource, IsAllowedImage}

module _ (d : DiagramsParts) (shorts : List Term) (actions : ℕ) (m : AllowedMoves) (all : IsAllowance d shorts actions m) where
  -- the diagram of allowed atoms is true exactly at the allowed atoms
  pub atom_allowed : (a : Atom) → IsAtomOf d a → IsTrue (value_of d m.allowed a) → IsAllowedAtom shorts a
  atom_allowed a fits h = not-true (set_out shorts a) (sym (all.allowed.value a fits) ∙ h)

  pub allowed_atom : (a : Atom) → IsAtomOf d a → IsAllowedAtom shorts a → IsTrue (value_of d m.allowed a)
  allowed_atom a fits h = all.allowed.value a fits ∙ ap not h

  module _ (act : ℕ) (b : Bars) (at : slice_get m.actions.items act ≡ Some b) where
    pub move_allowed : (x y : Atom) → IsAtomOf d x → IsAtomOf d y → IsAllowedAtom shorts x → IsAllowedAtom shorts y → (IsBarred d b.bars.items x y → ⊥) → IsAllowedMove shorts x (record { act = act; atom = y })
    move_allowed x y of_x of_y from to free = record {
      from = from;
      to = to;
      move = false_from_ne_true _ (λ h. free (((all.moves act b at).given x y of_x of_y).0 h));
    }

    pub move_free : (x y : Atom) → IsAtomOf d x → IsAtomOf d y → IsAllowedMove shorts x (record { act = act; atom = y }) → IsBarred d b.bars.items x y → ⊥
    move_free x y of_x of_y allowed k = both_ways _ allowed.move (((all.moves act b at).given x y of_x of_y).1 k)

    -- if an allowed move leads from the region to the atom, the diagram of sources has an atom
    pub sources_somewhere : (region : ℕ) (y : Atom) → IsAtomOf d y → (id : ℕ) → AreSources d b.bars.items region y (length b.bars.items) id → HasAllowedSource d shorts region act y → IsSomewhereTrue d id
    sources_somewhere region y fits id sources h = record {
      atom = h.0;
      fits = h.1.fits;
      holds = sources.back h.0 h.1.fits h.1.there (λ k. move_free h.0 y h.1.fits fits h.1.allowed (subst (λ l. IsBarred d l h.0 y) (take_all (length b.bars.items) b.bars.items (omega arith)) k));
    }

    module _ (region : ℕ) (within : IsWithin d region m.allowed) where
      -- the part of the image at allowed atoms is the allowed image
      pub allowed_image : (led id : ℕ) → IsImageOf d b.bars.items region led → IsDiagramOf d id (λ a. value_of d led a && value_of d m.allowed a) → IsAllowedImage d shorts region act id
      allowed_image led id image is = record {
        is_id = is.in_range;
        there = λ y fits h.
            let both = and_parts (value_of d led y) (value_of d m.allowed y) (sym (is.value y fits) ∙ h) in
            let l = image.there y fits both.0 in (
              l.before,
              record {
                fits = l.fits;
                there = l.there;
                allowed = move_allowed l.before y l.fits fits (atom_allowed l.before l.fits (within l.before l.fits l.there)) (atom_allowed y fits both.1) l.free;
              },
            );
        back = λ y fits h.
            let s = h.1 in
            is.value y fits
            ∙ and_from _ _
            (image.back y fits (record { before = h.0; fits = s.fits; there = s.there; free = move_free h.0 y s.fits fits s.allowed }))
            (allowed_atom y fits s.allowed.to);
      }

      module _ (y : Atom) (fits : IsAtomOf d y) (id : ℕ) (sources : AreSources d b.bars.items region y (length b.bars.items) id) where
        same : take (length b.bars.items) b.bars.items ≡ b.bars.items
        same = take_all (length b.bars.items) b.bars.items (omega arith)

        pub source_found : IsAllowedAtom shorts y → (x : Atom) → IsAtomOf d x → IsTrue (value_of d id x) → IsAllowedSource d shorts region act y x
        source_found to x of_x h =
            let r = sources.there x of_x h in
            record {
              fits = of_x;
              there = r.0;
              allowed = move_allowed x y of_x fits (atom_allowed x of_x (within x of_x r.0)) to (λ k. r.1 (subst (λ l. IsBarred d l x y) (sym same) k));
            }

    -- the allowance holds with other stored images for the action
    pub allowance_set : (new : Bars) (n : AllowedMoves) → new.bars ≡ b.bars → AreSoundBars d new → n.allowed ≡ m.allowed → n.actions.items ≡ set m.actions.items act new → IsAllowance d shorts actions n
    allowance_set new n same sound allowed items = record {
      allowed = subst (λ id. IsDiagramOf d id (λ a. not (set_out shorts a))) (sym allowed) all.allowed;
      count = ap length items ∙ length-set m.actions.items act new ∙ all.count;
      moves = λ j x there.
          let here : slice_get (set m.actions.items act new) j ≡ Some x = sym (ap (λ l. slice_get l j) items) ∙ there in
          ⊎_elim
          (λ e.
          let own : new ≡ x = same_Some new x (sym (slice_get-set_same m.actions.items act new (slice_get_within m.actions.items act b at)) ∙ ap (slice_get (set m.actions.items act new)) (sym e) ∙ here) in
          subst (ShowMoves d shorts j) own
          (record {
            sound = sound;
            given = λ p q of_p of_q. subst (λ l. IsTrue (set_accepts shorts p (record { act = j; atom = q } ∷ [])) ↔ IsBarred d l.items p q) (sym same) (subst (λ k. IsTrue (set_accepts shorts p (record { act = k; atom = q } ∷ [])) ↔ IsBarred d b.bars.items p q) (sym e) ((all.moves act b at).given p q of_p of_q));
          }))
          (λ old. all.moves j x old)
          (slice_get-set_cases m.actions.items act j new x here);
    }

-- a region within another is within it in later collections
pub within_kept : (c d : DiagramsParts) → KeepsFunctions c d → (region whole : ℕ) → IsDiagramId c region → IsDiagramId c whole → IsWithin c region whole → IsWithin d region whole
within_kept c d kept region whole is_region is_whole within a fits h = kept.values whole is_whole a ∙ within a (fits ∙ kept.tests) (sym (kept.values region is_region a) ∙ h)

pub source_kept : (c d : DiagramsParts) → KeepsFunctions c d → (shorts : List Term) (region act : ℕ) (y : Atom) → IsDiagramId c region → HasAllowedSource c shorts region act y → HasAllowedSource d shorts region act y
source_kept c d kept shorts region act y is h = (h.0, record { fits = h.1.fits ∙ sym kept.tests; there = kept.values region is h.0 ∙ h.1.there; allowed = h.1.allowed })

pub source_was : (c d : DiagramsParts) → KeepsFunctions c d → (shorts : List Term) (region act : ℕ) (y x : Atom) → IsDiagramId c region → IsAllowedSource d shorts region act y x → IsAllowedSource c shorts region act y x
source_was c d kept shorts region act y x is s = record { fits = s.fits ∙ kept.tests; there = sym (kept.values region is x) ∙ s.there; allowed = s.allowed }

-- bars read at an index are those at that place
pub bars_at : (m : AllowedMoves) (act : ℕ) (b : Bars) → act < length m.actions.items → b ≡ get_or m.actions.items act b → slice_get m.actions.items act ≡ Some b
bars_at m act b lt is = slice_get-get_or m.actions.items act b lt ∙ ap Some (sym is)
