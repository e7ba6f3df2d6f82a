-- The atoms at which the sets of an entry were reached by equally many moves, computed one entry after the other.
use Rattle.std.proofs.Common.{◌<◌, ◌||◌, inl, ⊎_elim, ℕ, false, List, [], ◌∷◌, ◌++◌, refl, sym, ◌∙◌, subst, arith}
use Rattle.std.specs.Bool.{IsTrue}
use Rattle.std.proofs.lemmas.Bool.{both_ways, or_cases, or_left, or_right}
use Rattle.kat_model.specs.Members.{Has}
use Rattle.kat_model.specs.Steps.{Atom}
use Rattle.kat_model.proofs.Lists.{has_left, has_right, has_append}
use Rattle.test_diagrams.specs.Functions.{DiagramsParts, value_of, IsDiagramId, IsDiagramOf, KeepsFunctions}
use Rattle.walk_regions.specs.Entries.{EntryParts}
use Rattle.walk_regions.specs.Allowance.{IsWithin}
use Rattle.walk_regions.specs.Listings.{IsWith, IsLevelAtom, AreLevelAtoms}

-- ---- one entry after the other

pub level_none : (d : DiagramsParts) (other : EntryParts) (never : ℕ) → IsDiagramOf d never (λ atom. false) → AreLevelAtoms d [] other never
level_none d other never is = record {
  is_id = is.in_range;
  there = λ atom fits h. absurd (both_ways (value_of d never atom) (is.value atom fits) h);
  back = λ atom fits l. absurd l.member;
}

-- an entry with other sets or another level adds no atoms
pub level_other : (d : DiagramsParts) (es : List EntryParts) (new other : EntryParts) (id : ℕ) → (IsWith new other → ⊥) → AreLevelAtoms d es other id → AreLevelAtoms d (es ++ new ∷ []) other id
level_other d es new other id apart a = record {
  is_id = a.is_id;
  there = λ atom fits h. let l = a.there atom fits h in record { entry = l.entry; member = has_left es (new ∷ []) l.entry l.member; is = l.is; holds = l.holds };
  back = λ atom fits l.
      ⊎_elim
      (λ m. a.back atom fits (record { entry = l.entry; member = m; is = l.is; holds = l.holds }))
      (λ m. ⊎_elim (λ s. absurd (apart (subst (λ (e : EntryParts). IsWith e other) (sym s) l.is))) (λ x. absurd x) m)
      (has_append es (new ∷ []) l.entry l.member);
}

pub level_past : (d : DiagramsParts) (es : List EntryParts) (new other : EntryParts) (id : ℕ) → other.level < new.level → AreLevelAtoms d es other id → AreLevelAtoms d (es ++ new ∷ []) other id
level_past d es new other id past a = level_other d es new other id (λ is. let e = is.level in absurd (omega arith)) a

-- an entry with these sets and this level adds its atoms
pub level_more : (c d : DiagramsParts) → KeepsFunctions c d → (es : List EntryParts) → ((e : EntryParts) → Has es e → IsDiagramId c e.test) → (new other : EntryParts) (old id : ℕ) → IsDiagramId c new.test → IsWith new other → IsDiagramOf d id (λ atom. value_of c old atom || value_of c new.test atom)
    → AreLevelAtoms c es other old → AreLevelAtoms d (es ++ new ∷ []) other id
level_more c d kept es tests new other old id own alike is a = record {
  is_id = is.in_range;
  there = λ atom fits h.
      ⊎_elim
      (λ before.
      let l = a.there atom (fits ∙ kept.tests) before in
      record { entry = l.entry; member = has_left es (new ∷ []) l.entry l.member; is = l.is; holds = kept.values l.entry.test (tests l.entry l.member) atom ∙ l.holds })
      (λ now. record { entry = new; member = has_right es (new ∷ []) new (inl refl); is = alike; holds = kept.values new.test own atom ∙ now })
      (or_cases (value_of c old atom) (value_of c new.test atom) (sym (is.value atom fits) ∙ h));
  back = λ atom fits l.
      is.value atom fits
      ∙ ⊎_elim
      (λ m. or_left (value_of c old atom) (value_of c new.test atom) (a.back atom (fits ∙ kept.tests) (record { entry = l.entry; member = m; is = l.is; holds = sym (kept.values l.entry.test (tests l.entry m) atom) ∙ l.holds })))
      (λ m.
      ⊎_elim
      (λ s. or_right (value_of c old atom) (value_of c new.test atom) (sym (kept.values new.test own atom) ∙ subst (λ (e : EntryParts). IsTrue (value_of d e.test atom)) (sym s) l.holds))
      (λ x. absurd x) m)
      (has_append es (new ∷ []) l.entry l.member);
}

-- ---- when diagrams are added

module _ (c d : DiagramsParts) (kept : KeepsFunctions c d) (es : List EntryParts) (tests : (e : EntryParts) → Has es e → IsDiagramId c e.test) (other : EntryParts) where
  pub level_atom_kept : (atom : Atom) → IsLevelAtom c es other atom → IsLevelAtom d es other atom
  level_atom_kept atom l = record { entry = l.entry; member = l.member; is = l.is; holds = kept.values l.entry.test (tests l.entry l.member) atom ∙ l.holds }

  pub level_atom_was : (atom : Atom) → IsLevelAtom d es other atom → IsLevelAtom c es other atom
  level_atom_was atom l = record { entry = l.entry; member = l.member; is = l.is; holds = sym (kept.values l.entry.test (tests l.entry l.member) atom) ∙ l.holds }

  pub level_atoms_kept : (id : ℕ) → AreLevelAtoms c es other id → AreLevelAtoms d es other id
  level_atoms_kept id a = record {
    is_id = kept.ids id a.is_id;
    there = λ atom fits h. level_atom_kept atom (a.there atom (fits ∙ kept.tests) (sym (kept.values id a.is_id atom) ∙ h));
    back = λ atom fits l. kept.values id a.is_id atom ∙ a.back atom (fits ∙ kept.tests) (level_atom_was atom l);
  }

-- the atoms lie within any diagram that is true at the atoms of all entries
pub level_atoms_within : (d : DiagramsParts) (es : List EntryParts) (other : EntryParts) (id whole : ℕ) → ((e : EntryParts) → Has es e → IsWithin d e.test whole) → AreLevelAtoms d es other id → IsWithin d id whole
level_atoms_within d es other id whole each a atom fits h = let l = a.there atom fits h in each l.entry l.member atom fits l.holds
